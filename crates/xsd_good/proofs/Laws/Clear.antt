-- Laws of clearing: row 0 and row 1's tag stored among zeros are the cleared sheet, whatever the lengths are. Assumes nothing.
use mathlib.Core.Path.{◌≡◌, ap}
use mathlib.Core.Bool.{Bool, true, false, ◌&&◌}
use mathlib.Core.List.{List, [], ◌∷◌, ◌++◌}
use Prim.Native.Nat.{ℕ, ◌+◌, ◌-◌, ◌%◌, ◌≤◌}
use native.Mathlib.Nat.{sub-zero}
use native.Mathlib.Omega.{arith}
use lib.Dec.{eqb, leb}
use lib.ListN.{length, set, replicate, replicate-append-replicate}
use lib.Seq.{paste}
use borrow.Author.Tests.{leb-true}
use Rattle.text.proofs.Laws.Tests.{and-true-left, and-true-right}
use Rattle.text.specs.Unfold.{computes as texts}
use Rattle.sheet.specs.Unfold.{computes as sheets}
use Rattle.xsd_types.specs.Unfold.{computes as schemas}
use Rattle.sheet.specs.Rows.{Sheet, numbers}
use Rattle.sheet.specs.Lengths.{sheet_lengths}
use Rattle.xsd_types.specs.State.{first_state}
use Rattle.xsd_types.specs.Row0.{row0_ten}
use Rattle.xsd_types.specs.Rows.{row0}
use Rattle.xsd_types.specs.Count.{sheet_of}
use Rattle.xsd_types.specs.Clear.{Cleared, clear}
use Rattle.sheet.specs.Calls.{sheet, answered}

-- an answer and a sheet
abbrev pub cleared : ℕ → ℕ → Sheet → Cleared
cleared number place x = record { answer = answered number place; sheet = x }

pub lengths-rows : (r n : ℕ) → sheet_lengths r n ≡ true → 20 ≤ r
unfolding sheet_lengths
lengths-rows r n e =
    let d = and-true-left (eqb (r % 10) 0 && leb 20 r && leb r 40960) (leb n 65536) e in
    leb-true 20 r (and-true-right (eqb (r % 10) 0) (leb 20 r) (and-true-left (eqb (r % 10) 0 && leb 20 r) (leb r 40960) d))

-- row 0 of a cleared sheet
abbrev pub first_numbers : Bool → List ℕ
first_numbers by_standard = numbers (row0_ten (row0 (first_state by_standard)) ∷ [])

-- the first twenty numbers, with zeros behind them
pub first_rows : (by_standard : Bool) (n m : ℕ)
    → sheet (set (paste (replicate 20 0 ++ replicate (n - 20) 0) 0 (first_numbers by_standard) 10) 10 1) (replicate m 0) ≡ sheet_of (first_state by_standard) n m
unfolding texts sheets schemas
first_rows b n m = rw sub-zero

module _ (choice : ℕ) (rows names : List ℕ) where
  pub clear-refused : sheet_lengths (length rows) (length names) && leb choice 1 ≡ false → cleared 1 0 (sheet rows names) ≡ clear choice (sheet rows names)
  unfolding clear
  clear-refused e = rw e

  pub clear-done : sheet_lengths (length rows) (length names) && leb choice 1 ≡ true
      → cleared 0 0 (sheet (set (paste (replicate (length rows) 0) 0 (first_numbers (eqb choice 1)) 10) 10 1) (replicate (length names) 0)) ≡ clear choice (sheet rows names)
  unfolding clear
  clear-done e =
      let n = length rows in
      let h : 20 + (n - 20) ≡ n = omega (arith, lengths-rows n (length names) (and-true-left _ _ e)) in
      let z : replicate {A = ℕ} n 0 ≡ replicate 20 0 ++ replicate (n - 20) 0 = rw (replicate-append-replicate {A = ℕ} 20 (n - 20) 0, h) in
      rw (e, z) (ap (λ (x : Sheet). cleared 0 0 x) (first_rows (eqb choice 1) n (length names)))
