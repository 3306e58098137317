-- Order 8's numbers, "1 .., 2, 12, 22, 23": each is one case, with its own condition, those before it failing, its place and what is left of the text. 22 is told by the
-- grammar of XML 1.0. No contract cites it: it is what the claim says.
--     ValueHeld          XML 1.0 derives an attribute value that has the text between its quotes; EachHeld: so for each text of a row; RowsHeld: of each row
--     finished_texts the texts of the finished rows from row 1 on
--     FirstUnheld   the place of the first row one of whose texts is not held, the rows being counted from a place on
--     WriteTable    a writing of a sheet ends with w; WriteOutcome: of a good sheet, by its state
use Rattle.std.specs.Prelude.{ℕ, ◌+◌, ◌≤◌, ◌<◌, ◌≡◌, true, false, ◌&&◌, List, [], ◌∷◌, ◌++◌, map, leb, length}
use Rattle.text.specs.Text.{Text}
use Rattle.sheet.specs.Rows.{Row, Sheet, filled}
use Rattle.sheet.specs.Lengths.{lengths_of, good_lengths}
use Rattle.sheet.specs.Limits.{text_limit}
use Rattle.sheet.specs.Returned as returned
use Rattle.xsd_types.specs.Types.{Schema}
use Rattle.xsd_types.specs.State.{State}
use Rattle.xsd_types.specs.Rows.{items_rows}
use Rattle.xsd_types.specs.Count.{good, state_of}
use Rattle.xml.specs.Grammar.{AttValue}
use Rattle.xsd_written.specs.Schema.{schema_text}
use Rattle.sheet.specs.Returned.{unheld_value, short_text}
use Rattle.xsd_written.specs.Call.{Wrote, text_unchanged, zeroed}

abbrev pub ValueHeld : Text → Type 0
ValueHeld v = (w : Text) × AttValue v w

abbrev pub EachHeld : List Text → Type 0
EachHeld [] = Unit {0}
EachHeld (v ∷ vs) = ValueHeld v × EachHeld vs

abbrev pub RowsHeld : List (List Text) → Type 0
RowsHeld [] = Unit {0}
RowsHeld (ts ∷ rows) = EachHeld ts × RowsHeld rows

unfoldable pub finished_texts : Schema → List (List Text)
finished_texts s = (s.target_namespace ∷ []) ∷ map (λ (r : Row). r.texts) (items_rows s.items)

-- "place the first such row"
pub record FirstUnheld (from : ℕ) (rows : List (List Text)) (place : ℕ) : Type 0 where
  pub before : List (List Text)
  pub texts : List Text
  pub behind : List (List Text)
  pub made : rows ≡ before ++ texts ∷ behind
  pub held : RowsHeld before
  pub unheld : EachHeld texts → ⊥
  pub stands : place ≡ from + length before

pub data WriteOutcome (s : State) (lent : ℕ) (w : Wrote) : Type 0 where
  -- 12: "no root seen"; "text zero from 12 on"
  no_root : s.reader.root_seen ≡ false → w ≡ zeroed returned.no_root 0 lent → WriteOutcome s lent w
  -- 22: "a value XML 1.0 cannot hold in an attribute .., place the first such row"
  unheld : {place : ℕ} → s.reader.root_seen ≡ true → FirstUnheld 1 (finished_texts s.reader.schema) place → w ≡ zeroed unheld_value place lent → WriteOutcome s lent w
  -- 23: "text longer than lent"
  short : s.reader.root_seen ≡ true → RowsHeld (finished_texts s.reader.schema) → lent < length (schema_text s.reader.schema) → w ≡ zeroed short_text 0 lent → WriteOutcome s lent w
  -- 0: "accepted, place is the length and the rest is zero"
  written : s.reader.root_seen ≡ true → RowsHeld (finished_texts s.reader.schema) → length (schema_text s.reader.schema) ≤ lent
      → w ≡ record { number = returned.accepted; place = length (schema_text s.reader.schema); text = filled lent (schema_text s.reader.schema) } → WriteOutcome s lent w

pub data WriteTable (x : Sheet) (before : List ℕ) (w : Wrote) : Type 0 where
  -- 1: a length, "over 65,536 bytes of text lent too"; nothing changed
  lengths : good_lengths (lengths_of x) && leb (length before) text_limit ≡ false → w ≡ text_unchanged returned.bad_length before → WriteTable x before w
  -- 2: "schema sheet not good"; nothing changed
  not_good : good_lengths (lengths_of x) && leb (length before) text_limit ≡ true → good x ≡ false → w ≡ text_unchanged returned.not_good before → WriteTable x before w
  judged : good_lengths (lengths_of x) && leb (length before) text_limit ≡ true → good x ≡ true → WriteOutcome (state_of x) (length before) w → WriteTable x before w
