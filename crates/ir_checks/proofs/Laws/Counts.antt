-- How many types and elements a list of rows has, by its first row. A tag is not that of a simple and of a complex type at once. Assumes nothing.
use Rattle.std.specs.Prelude.{if◌then◌else◌, cond}
use Prim.Native.Nat.{ℕ, ◌+◌, ◌*◌, ◌<◌, ◌≤◌}
use mathlib.Core.Path.{◌≡◌, refl, sym, ap, ◌∙◌}
use mathlib.Core.Bool.{Bool, true, false, ◌||◌, false≢true}
use mathlib.Core.List.{List, ◌∷◌, ◌++◌}
use native.Mathlib.Omega.{arith}
use lib.Dec.{eqb}
use lib.ListN.{length, get_or, length-append}
use borrow.Author.Tests.{eqb-true}
use Rattle.text.specs.Text.{between}
use Rattle.text.proofs.Laws.Tests.{bool_cases}
use Rattle.sheet.specs.Rows.{Row}
use Rattle.xsd_types.specs.Places.{row_at, rows_from}
use Rattle.rows.specs.Count.{tags_counted}
use Rattle.ir_rows.specs.Lowered.{lowered_as, lowered_row, root_rows}
use Rattle.ir_rows.specs.Types.{is_simple, is_complex, is_type, places_of, type_places}
use Rattle.xsd_types.proofs.Laws.Places.{rows_from-cons, rows_from-end, row_at-tag}
use Rattle.rows.proofs.Laws.Count.{tags-counted}

one_more : (s c : Bool) (p : ℕ) (xs ys : List ℕ) → (s ≡ true → c ≡ false) → length ((if s then p ∷ xs else xs) ++ (if c then p ∷ ys else ys)) ≡ cond (s || c) 1 0 + length (xs ++ ys)
one_more true false p xs ys apart = omega arith
one_more true true p xs ys apart = absurd (false≢true (sym (apart refl)))
one_more false true p xs ys apart = simp length-append (omega arith)
one_more false false p xs ys apart = omega arith

not-both : (tag : ℕ) → eqb tag 3 ≡ true → between 12 15 tag ≡ false
unfolding between
not-both tag e = rw (eqb-true tag 3 e)

types-step : (p : ℕ) (r : Row) (rs : List Row) → length (type_places p (r ∷ rs)) ≡ cond (is_type r.tag) 1 0 + length (type_places (p + 1) rs)
unfolding type_places places_of is_type is_simple is_complex
types-step p r rs = one_more (eqb r.tag 3) (between 12 15 r.tag) p (places_of is_simple (p + 1) rs) (places_of is_complex (p + 1) rs) (not-both r.tag)

roots-step : (r : Row) (rs : List Row) → length (root_rows (r ∷ rs)) ≡ cond (eqb r.tag 2) 1 0 + length (root_rows rs)
unfolding root_rows lowered_row lowered_as
roots-step r rs = bool_cases (eqb r.tag 2) (λ e. rw (e, eqb-true r.tag 2 e) (omega arith)) (λ e. rw e (omega arith))

module _ (rows names : List ℕ) (end : ℕ) where
  abbrev types_from : ℕ → ℕ
  types_from p = length (type_places p (rows_from rows names p end))

  types-on : (p : ℕ) → p < end → types_from p ≡ cond (is_type (get_or rows (10 * p) 0)) 1 0 + types_from (p + 1)
  types-on p h =
      ap (λ (rs : List Row). length (type_places p rs)) (rows_from-cons rows names p end h)
      ∙ types-step p (row_at rows names p) (rows_from rows names (p + 1) end)
      ∙ ap (λ (tag : ℕ). cond (is_type tag) 1 0 + types_from (p + 1)) (row_at-tag rows names p)

  types-end : types_from end ≡ 0
  unfolding type_places places_of
  types-end = rw (rows_from-end rows names end end (omega arith))

  pub types-counted : 2 ≤ end → tags_counted is_type rows end ≡ types_from 2
  types-counted h = tags-counted is_type rows end types_from types-on types-end h

  abbrev roots_from : ℕ → ℕ
  roots_from p = length (root_rows (rows_from rows names p end))

  roots-on : (p : ℕ) → p < end → roots_from p ≡ cond (eqb (get_or rows (10 * p) 0) 2) 1 0 + roots_from (p + 1)
  roots-on p h =
      ap (λ (rs : List Row). length (root_rows rs)) (rows_from-cons rows names p end h)
      ∙ roots-step (row_at rows names p) (rows_from rows names (p + 1) end)
      ∙ ap (λ (tag : ℕ). cond (eqb tag 2) 1 0 + roots_from (p + 1)) (row_at-tag rows names p)

  roots-end : roots_from end ≡ 0
  unfolding root_rows
  roots-end = rw (rows_from-end rows names end end (omega arith))

  pub roots-counted : 2 ≤ end → tags_counted (λ (tag : ℕ). eqb tag 2) rows end ≡ roots_from 2
  roots-counted h = tags-counted (λ (tag : ℕ). eqb tag 2) rows end roots_from roots-on roots-end h
