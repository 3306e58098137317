-- The sheet that an action is done to, and the rows after it.
--     Ready         the sheet holds the namespace's row, the finished items' rows and the open type's, whose head stands at row `head`
--     ReadyFor      it does for some namespace and rows, and the action can be done to them
--     rows_after_all  the rows that the sheet holds after an action, row 1 among them
use Rattle.std.specs.Prelude.{ℕ, ◌+◌, ◌≡◌, List, ◌∷◌, ◌++◌, length}
use Rattle.text.specs.Text.{Text}
use Rattle.sheet.specs.Rows.{Row}
use Rattle.xsd_types.specs.Rows.{namespace_row}
use Rattle.rows.specs.declared.numbers.Used.{Used}
use Rattle.rows.specs.Packing.{Holds}
use Rattle.xsd_replace.specs.Spots.{Paired}
use Rattle.xsd_actions.specs.Actions.{Action, namespace_after, rows_after, Fitting}

pub record Ready (rows names : List ℕ) (used : Used) (head : ℕ) (z : List ℕ) (namespace : Text) (done last : List Row) : Type 0 where
  pub holds : Holds rows names used z (namespace_row namespace ∷ (done ++ last))
  pub here : (r : Row) (kids : List Row) → last ≡ r ∷ kids → head ≡ 2 + length done
  pub paired : Paired (namespace_row namespace ∷ (done ++ last))

pub record ReadyFor (rows : List ℕ) (used : Used) (head : ℕ) (a : Action) : Type 0 where
  pub names : List ℕ
  pub z : List ℕ
  pub namespace : Text
  pub done : List Row
  pub last : List Row
  pub ready : Ready rows names used head z namespace done last
  pub fitting : Fitting a last

unfoldable pub rows_after_all : Action → Text → List Row → List Row → List Row
rows_after_all a namespace done last = namespace_row (namespace_after a namespace) ∷ rows_after a done last
