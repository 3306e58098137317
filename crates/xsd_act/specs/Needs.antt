-- How many rows and bytes of names are used after an action.
--     Counted       so many rows, row 0 among them, and so many bytes of names are those of the rows rs
--     Small         what is used is so small that one row more and the bytes of one text more are a usize
--     capped        what is used as the code counts it: the greatest usize stands for all sums that are greater
--     RowNeeded     what is used with one row more, whose texts have so many bytes
--     HeadSeen      there is a row with a name at `place`
--     HeadNeeded    what is used where that row is the last, with so many bytes behind its name
--     TextSeen      there is a text at `place` and `pair`
--     TextNeeded    what is used where another text of so many bytes stands there
--     AllNeeded     what is used is what the rows after the action use that an outcome gives
--     Needed        so it is as the code counts it
use Rattle.std.specs.Prelude.{ℕ, ◌+◌, ◌-◌, ◌≤◌, ◌≡◌, List, length, min}
use Rattle.text.specs.Text.{Text}
use Rattle.sheet.specs.Limits.{names_limit}
use Rattle.sheet.specs.Rows.{Row, names_of}
use Rattle.xsd_parser.specs.Handlers.{Outcome, ok}
use Rattle.rows.specs.declared.numbers.Used.{Used}
use Rattle.xsd_replace.specs.Head.{HeadAt}
use Rattle.xsd_replace.specs.Spots.{Spot, TextAt}
use Rattle.xsd_actions.specs.Actions.{Action, Fitting}
use Rattle.xsd_act.specs.Ready.{Ready, rows_after_all}

pub record Counted (used : Used) (rs : List Row) : Type 0 where
  pub rows : used.rows ≡ 1 + length rs
  pub names : used.names ≡ length (names_of rs)

pub record Small (used : Used) : Type 0 where
  pub rows_used : used.rows ≤ 4096
  pub names_used : used.names ≤ names_limit

abbrev pub capped : Used → Used
capped used = record { rows = used.rows; names = min used.names 18446744073709551615 }

abbrev pub RowNeeded : Used → ℕ → Used → Type 0
RowNeeded used bytes r = r ≡ capped (record { rows = used.rows + 1; names = used.names + bytes })

pub record HeadSeen (rows : List ℕ) (used : Used) (place : ℕ) : Type 0 where
  pub names : List ℕ
  pub z : List ℕ
  pub rs : List Row
  pub name : Text
  pub head : HeadAt rows names used place z rs name

pub record HeadNeeded (rows : List ℕ) (used : Used) (place more : ℕ) (r : Used) : Type 0 where
  pub few : r.rows ≤ 4097
  pub held : r.names ≤ 18446744073709551615
  pub counted : (names z : List ℕ) (rs : List Row) (name : Text) → HeadAt rows names used place z rs name
      → (r.rows ≡ 2 + length rs) × (r.names ≡ length (names_of rs) + (length name + more))

pub record TextSeen (rows : List ℕ) (used : Used) (place pair : ℕ) : Type 0 where
  pub names : List ℕ
  pub spot : Spot
  pub text : TextAt rows names used place pair spot

pub record TextNeeded (rows : List ℕ) (used : Used) (place pair new : ℕ) (r : Used) : Type 0 where
  pub same_rows : r.rows ≡ used.rows
  pub held : r.names ≤ 18446744073709551615
  pub bytes : (names : List ℕ) (x : Spot) → TextAt rows names used place pair x → r.names ≡ used.names - length x.old + new

pub record AllNeeded (rows : List ℕ) (used : Used) (head : ℕ) (o : Outcome Action) (r : Used) : Type 0 where
  pub few : r.rows ≤ 4097
  pub counted : (names z : List ℕ) (namespace : Text) (done last : List Row) (a : Action) → Ready rows names used head z namespace done last
      → o ≡ ok a → Fitting a last → Counted r (rows_after_all a namespace done last)

pub record Needed (rows : List ℕ) (used : Used) (head : ℕ) (o : Outcome Action) (r : Used) : Type 0 where
  pub all : Used
  pub is : r ≡ capped all
  pub needed : AllNeeded rows used head o all
