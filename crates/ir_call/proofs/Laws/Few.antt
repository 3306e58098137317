-- There are no more elements than rows, and no more types than twice the rows: each row adds one place or row at most. Assumes nothing.
use Prim.Native.Nat.{ℕ, ◌+◌, ◌*◌, ◌≤◌}
use mathlib.Core.Path.{◌≡◌, ap}
use mathlib.Core.Bool.{Bool, true, false}
use mathlib.Core.List.{List, [], ◌∷◌}
use native.Mathlib.Omega.{arith}
use lib.Dec.{eqb}
use lib.ListN.{length, length-append}
use borrow.Author.Tests.{eqb-true}
use Rattle.text.proofs.Laws.Tests.{if-cases}
use Rattle.sheet.specs.Rows.{Row}
use Rattle.xsd_types.specs.Back.{text0, text1}
use Rattle.rows.specs.declared.part.SheetPart.{SheetPart}
use Rattle.ir_rows.specs.Lowered.{lowered_as, lowered_row, root_rows}
use Rattle.ir_rows.specs.Types.{is_simple, is_complex, places_of, type_places}
use Rattle.ir_rows.specs.Parts.{part_rows, part_places}
use Rattle.xsd_types.proofs.Laws.Places.{length-rows_from}

places_of-few : (test : ℕ → Bool) (p : ℕ) (rs : List Row) → length (places_of test p rs) ≤ length rs
unfolding places_of
places_of-few test p [] = omega arith
places_of-few test p (r ∷ rs) = if-cases (λ (l : List ℕ). length l ≤ length (r ∷ rs)) (test r.tag) (λ k. omega (arith, places_of-few test (p + 1) rs))
    (λ k. omega (arith, places_of-few test (p + 1) rs))

-- an element is one row of the graph
root-one : (r : Row) → eqb r.tag 2 ≡ true → length (lowered_row false r) ≡ 1
unfolding lowered_row lowered_as
root-one r e =
    let t = eqb-true r.tag 2 e in
    ap (λ (n : ℕ). length (lowered_as false n r.a r.b r.c (text0 r) (text1 r))) t

root_rows-few : (rs : List Row) → length (root_rows rs) ≤ length rs
unfolding root_rows
root_rows-few [] = omega arith
root_rows-few (r ∷ rs) =
    if-cases (λ (l : List Row). length l ≤ length (r ∷ rs)) (eqb r.tag 2)
    (λ k. omega (arith, root_rows-few rs, root-one r k, length-append (lowered_row false r) (root_rows rs))) (λ k. omega (arith, root_rows-few rs))

pub roots_few : (part : SheetPart) → length (root_rows (part_rows part 2)) ≤ part.end
roots_few part = omega (arith, root_rows-few (part_rows part 2), length-rows_from part.rows.now part.names.now 2 part.end)

pub types-twice : (part : SheetPart) → length (part_places part) ≤ 2 * part.end
unfolding type_places
types-twice part =
    let rs = part_rows part 2 in
    omega (
      arith,
      length-append (places_of is_simple 2 rs) (places_of is_complex 2 rs),
      places_of-few is_simple 2 rs,
      places_of-few is_complex 2 rs,
      length-rows_from part.rows.now part.names.now 2 part.end,
    )
