-- What the code's pass over the rows of a sheet behind row 0 computes, None where a row fails, and its test of their texts. The tests of both sheets' forms are built on it; no contract
-- of an outer call cites it.
--     Tests          what a sheet asks of a row
--     first_passes, first_row    the namespace's row; its pair ends at the limit at most
--     next_passes, next_row      a row behind it; scan_after: what is known with it
--     scanned       all rows behind it
--     scanned_sheet  all rows
--     row_texts     each text under a row's used pairs is one that the sheet may hold
use Rattle.std.specs.Prelude.{ℕ, List, [], ◌∷◌, Bool, ◌&&◌, eqb, leb, if◌then◌else◌, Option, Some, None}
use Rattle.text.specs.Text.{Text, every}
use Rattle.sheet.specs.Rows.{Ten, unpack_row}
use Rattle.sheet.specs.Form.{row_covers, end_of}
use Rattle.rows.specs.declared.scan.Scan.{Scan}

-- the form of a row, how many pairs a row of a tag and an a uses, which tag may stand behind which head, the head behind which the next row stands, and
-- which texts its pairs may name
pub record Tests : Type 0 where
  pub form : Ten → Bool
  pub pairs : ℕ → ℕ → ℕ
  pub follows : ℕ → ℕ → Bool
  pub head_after : ℕ → ℕ → ℕ
  pub text : Text → Bool

unfoldable pub first_passes : Tests → ℕ → Ten → Bool
first_passes x limit t =
    eqb t.tag 1 && eqb t.a 0 && eqb t.b 0 && eqb t.c 0 && row_covers x.pairs 0 t && leb (end_of 0 t) limit

abbrev pub first_scan : Ten → Scan
first_scan t = record { end = end_of 0 t; head = 1 }

unfoldable pub first_row : Tests → ℕ → Ten → Option Scan
first_row x limit t = if first_passes x limit t then Some (first_scan t) else None

unfoldable pub next_passes : Tests → ℕ → Scan → Ten → Bool
next_passes x limit s t =
    x.form t && x.follows s.head t.tag && row_covers x.pairs s.end t && leb (end_of s.end t) limit

abbrev pub scan_after : Tests → Scan → Ten → Scan
scan_after x s t = record { end = end_of s.end t; head = x.head_after s.head t.tag }

unfoldable pub next_row : Tests → ℕ → Scan → Ten → Option Scan
next_row x limit s t = if next_passes x limit s t then Some (scan_after x s t) else None

unfoldable pub scanned : Tests → ℕ → Scan → List Ten → Option Scan
scanned x limit s [] = Some s
scanned x limit s (t ∷ ts) = if next_passes x limit s t then scanned x limit (scan_after x s t) ts else None

unfoldable pub scanned_sheet : Tests → ℕ → List Ten → Option Scan
scanned_sheet x limit [] = None
scanned_sheet x limit (t ∷ ts) = if first_passes x limit t then scanned x limit (first_scan t) ts else None

unfoldable pub row_texts : Tests → Text → Ten → Bool
row_texts x names t = every x.text (unpack_row x.pairs names t).texts
