-- The two calls of order 10.
--     same_lengths   the lengths of source and target are one rows length
--     Turned        number, place and target afterwards
--     turned f      the call that writes f of the source
--     ColumnsIs, RowsIs    what each call says of itself; the source is lent for reading alone
use Rattle.std.specs.Prelude.{◌≡◌, ℕ, Bool, ◌&&◌, List, length, ◌==◌, if◌then◌else◌}
use Rattle.sheet.specs.Lengths.{sheet_lengths}
use Rattle.sheet.specs.Returned.{accepted, bad_length}
use Rattle.columns.specs.Columns.{columns_of, rows_of_columns}

-- "1 refuses a length, or two unequal lengths"
unfoldable pub same_lengths : ℕ → ℕ → Bool
same_lengths source target = sheet_lengths source 0 && source == target

pub record Turned : Type 0 where
  pub number : ℕ
  pub place : ℕ
  pub target : List ℕ

-- "and changes nothing"
unfoldable pub turned : (List ℕ → List ℕ) → List ℕ → List ℕ → Turned
turned f source target =
    if same_lengths (length source) (length target)
    then record { number = accepted; place = 0; target = f source }
    else record { number = bad_length; place = 0; target = target }

abbrev pub ColumnsIs : List ℕ → List ℕ → ℕ → ℕ → List ℕ → Type 0
ColumnsIs rows before number place after = ◌≡◌ {A = Turned} (record { number = number; place = place; target = after }) (turned columns_of rows before)

abbrev pub RowsIs : List ℕ → List ℕ → ℕ → ℕ → List ℕ → Type 0
RowsIs columns before number place after = ◌≡◌ {A = Turned} (record { number = number; place = place; target = after }) (turned rows_of_columns columns before)
