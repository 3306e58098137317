-- Order 7, the count: "how many finished simple types lowering would refuse by 13 .. Keep that count in row 1 under a. Each event keeps it right, and a sheet is good
-- only if it is." A sheet is what it was before the order, with one number set: `bare` takes it out again, and Good, Back and Sheet speak of sheets with 0 there.
--     refused_types  how many of the items are simple types that lowering refuses, by 13's own test; refused_rows: the same of rows
--     count_of       the count of a state: of its finished items, so that the open type is not counted
--     count_in       a of row 1; with_count c: the sheet with c there; bare: with 0 there
--     sheet_of       the sheet of a state
--     state_of       the state of a good sheet
--     good          good by all other sentences, and the count is right
use Rattle.std.specs.Prelude.{ℕ, suc, Bool, ◌&&◌, List, [], ◌∷◌, eqb, get_or, set, if◌then◌else◌}
use Rattle.sheet.specs.Rows.{Row, Sheet}
use Rattle.xsd_types.specs.Types.{Item}
use Rattle.xsd_types.specs.State.{State}
use Rattle.xsd_types.specs.Sheet.{bare_sheet_of}
use Rattle.xsd_types.specs.Good.{bare_good}
use Rattle.xsd_types.specs.Back.{bare_state_of}
use Rattle.xsd_types.specs.Refused.{refused_item, refused_row}

unfoldable pub refused_types : List Item → ℕ
refused_types [] = 0
refused_types (i ∷ is) = if refused_item i then suc (refused_types is) else refused_types is

unfoldable pub refused_rows : List Row → ℕ
refused_rows [] = 0
refused_rows (r ∷ rs) = if refused_row r rs then suc (refused_rows rs) else refused_rows rs

abbrev pub count_of : State → ℕ
count_of s = refused_types s.reader.schema.items

-- row 1 begins behind ten numbers, and a is the eighth of a row
abbrev pub count_place : ℕ
count_place = 17

unfoldable pub count_in : Sheet → ℕ
count_in x = get_or x.rows count_place 0

unfoldable pub with_count : ℕ → Sheet → Sheet
with_count c x = record { rows = set x.rows count_place c; names = x.names }

unfoldable pub bare : Sheet → Sheet
bare x = with_count 0 x

unfoldable pub sheet_of : State → ℕ → ℕ → Sheet
sheet_of s rows_length names_length = with_count (count_of s) (bare_sheet_of s rows_length names_length)

unfoldable pub state_of : Sheet → State
state_of x = bare_state_of (bare x)

unfoldable pub good : Sheet → Bool
good x = bare_good (bare x) && eqb (count_in x) (count_of (state_of x))
