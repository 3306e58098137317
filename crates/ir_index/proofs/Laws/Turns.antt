-- The heads turn by turn: some turns and then others, one turn more, and all turns are the finished types in lowering's order. Assumes nothing.
use Rattle.std.specs.Prelude.{Option, Some, None}
use Rattle.std.proofs.lemmas.Option.{none-some, same_Some}
use Prim.Native.Nat.{ℕ, zero, suc, ◌+◌, ◌-◌, ◌*◌, ◌≤◌, ◌<◌}
use mathlib.Core.Path.{◌≡◌, refl, sym, ap, ◌∙◌}
use mathlib.Core.List.{List, [], ◌∷◌, ◌++◌, map, map-append}
use native.Mathlib.Omega.{arith}
use lib.Dec.{ltb}
use lib.ListN.{get_or}
use borrow.Author.Tests.{ltb-true, ltb-false, lt-ltb, le-ltb}
use Rattle.text.proofs.Laws.Tests.{bool_cases}
use Rattle.rows.specs.declared.part.SheetPart.{SheetPart}
use Rattle.ir_rows.specs.Parts.{part_places}
use Rattle.ir_checks.specs.declared.TypeKind.{TypeKind}
use Rattle.ir_checks.specs.Kinds.{is_kind, kind_places}
use Rattle.ir_checks.proofs.Laws.Kinds.{kind-hit, kind-on, kind-end, kinds-types}
use Rattle.ir_index.specs.Heads.{kind_place, head_place, with_place, places_from, head_in_part, turn_heads, heads_from}

with-append : (o : Option ℕ) (ps qs : List ℕ) → with_place o (ps ++ qs) ≡ with_place o ps ++ qs
unfolding with_place
with-append None ps qs = refl
with-append (Some p) ps qs = refl

module _ (part : SheetPart) where
  -- some turns, and those behind them
  places-split : (turn m n : ℕ) → places_from part turn (m + n) ≡ places_from part turn m ++ places_from part (turn + m) n
  unfolding places_from
  places-split turn zero n =
      let count : 0 + n ≡ n = omega arith in
      let at : turn + 0 ≡ turn = omega arith in
      rw (count, at)
  places-split turn (suc m) n =
      let count : suc m + n ≡ suc (m + n) = omega arith in
      let at : turn + suc m ≡ turn + 1 + m = omega arith in
      rw (count, at)
      (ap (with_place (head_place part turn)) (places-split (turn + 1) m n)
      ∙ with-append (head_place part turn) (places_from part (turn + 1) m) (places_from part (turn + 1 + m) n))

  places-parts : (from next limit : ℕ) → from ≤ next → next ≤ limit → places_from part from (limit - from) ≡ places_from part from (next - from) ++ places_from part next (limit - next)
  places-parts from next limit l h =
      let count : next - from + (limit - next) ≡ limit - from = omega arith in
      let at : from + (next - from) ≡ next = omega arith in
      ap (places_from part from) (sym count) ∙ places-split from (next - from) (limit - next)
      ∙ ap (λ (t : ℕ). places_from part from (next - from) ++ places_from part t (limit - next)) at

  pub heads-parts : (from next limit : ℕ) → from ≤ next → next ≤ limit → heads_from part from (limit - from) ≡ heads_from part from (next - from) ++ heads_from part next (limit - next)
  heads-parts from next limit l h =
      ap (map (head_in_part part)) (places-parts from next limit l h) ∙ map-append (head_in_part part) (places_from part from (next - from)) (places_from part next (limit - next))

  -- one turn
  places-one : (turn : ℕ) → places_from part turn 1 ≡ with_place (head_place part turn) []
  unfolding places_from
  places-one turn = refl

  -- one turn more
  pub places-next : (from next : ℕ) → from ≤ next → places_from part from (next + 1 - from) ≡ places_from part from (next - from) ++ with_place (head_place part next) []
  places-next from next l =
      let one : next + 1 - next ≡ 1 = omega arith in
      places-parts from next (next + 1) l (omega arith) ∙ rw (one, places-one next)

  pub heads-next : (from next : ℕ) → from ≤ next → heads_from part from (next + 1 - from) ≡ heads_from part from (next - from) ++ turn_heads part next
  heads-next from next l =
      ap (map (head_in_part part)) (places-next from next l) ∙ map-append (head_in_part part) (places_from part from (next - from)) (with_place (head_place part next) [])

  pub places-none : (from : ℕ) → places_from part from (from - from) ≡ []
  unfolding places_from
  places-none from =
      let none : from - from ≡ 0 = omega arith in
      rw none

  -- the head at the first of some turns
  pub heads-hit : (turn limit : ℕ) {p : ℕ} → head_place part turn ≡ Some p → turn < limit → heads_from part turn (limit - turn) ≡ head_in_part part p ∷ heads_from part (turn + 1) (limit - (turn + 1))
  unfolding places_from with_place
  heads-hit turn limit e l =
      let count : limit - turn ≡ suc (limit - (turn + 1)) = omega arith in
      rw (count, e)

  -- ---- the head at a turn stands in the part, behind row 1

  kind-inside : (kind : TypeKind) (q p : ℕ) → kind_place part kind q ≡ Some p → p ≡ q
  unfolding kind_place
  kind-inside kind q p e =
      bool_cases (is_kind kind (get_or part.rows.now (10 * q) 0)) (λ h. sym (same_Some q p (rw h at e))) (λ h. absurd (none-some p (rw h at e)))

  pub head-inside : (turn p : ℕ) → head_place part turn ≡ Some p → turn < 2 * (part.end - 2) → (0 < p) × (p < part.end)
  unfolding head_place
  head-inside turn p e l =
      bool_cases
      (ltb turn (part.end - 2))
      (λ h. let q = kind-inside TypeKind.Simple (turn + 2) p (rw h at e) in let t = ltb-true turn (part.end - 2) h in (omega arith, omega arith))
      (λ h. let q = kind-inside TypeKind.Complex (turn - (part.end - 2) + 2) p (rw h at e) in let t = ltb-false turn (part.end - 2) h in (omega arith, omega arith))

  -- ---- all turns

  with-kind : (kind : TypeKind) (p : ℕ) → p < part.end → with_place (kind_place part kind p) (kind_places part kind (p + 1)) ≡ kind_places part kind p
  unfolding with_place kind_place
  with-kind kind p h =
      bool_cases
      (is_kind kind (get_or part.rows.now (10 * p) 0))
      (λ e. rw e (sym (kind-hit part kind p h e)))
      (λ e. rw e (sym (kind-on part kind p h e)))

  simple-turns : (n turn : ℕ) → turn + n ≡ part.end - 2 → places_from part turn n ≡ kind_places part TypeKind.Simple (turn + 2)
  unfolding places_from head_place
  simple-turns zero turn e = sym (kind-end part TypeKind.Simple (turn + 2) (omega arith))
  simple-turns (suc n) turn e =
      let behind : turn + 1 + 2 ≡ turn + 2 + 1 = omega arith in
      rw (lt-ltb turn (part.end - 2) (omega arith), simple-turns n (turn + 1) (omega arith), behind) (with-kind TypeKind.Simple (turn + 2) (omega arith))

  complex-turns : (n turn : ℕ) → turn + n ≡ part.end - 2 → places_from part (part.end - 2 + turn) n ≡ kind_places part TypeKind.Complex (turn + 2)
  unfolding places_from head_place
  complex-turns zero turn e = sym (kind-end part TypeKind.Complex (turn + 2) (omega arith))
  complex-turns (suc n) turn e =
      let place : part.end - 2 + turn - (part.end - 2) + 2 ≡ turn + 2 = omega arith in
      let next : part.end - 2 + turn + 1 ≡ part.end - 2 + (turn + 1) = omega arith in
      let behind : turn + 1 + 2 ≡ turn + 2 + 1 = omega arith in
      rw (le-ltb (part.end - 2 + turn) (part.end - 2) (omega arith), place, next, complex-turns n (turn + 1) (omega arith), behind)
      (with-kind TypeKind.Complex (turn + 2) (omega arith))

  pub all-turns : places_from part 0 (2 * (part.end - 2)) ≡ part_places part
  all-turns =
      let count : part.end - 2 + (part.end - 2) ≡ 2 * (part.end - 2) = omega arith in
      let start : 0 + (part.end - 2) ≡ part.end - 2 + 0 = omega arith in
      ap (places_from part 0) (sym count) ∙ places-split 0 (part.end - 2) (part.end - 2)
      ∙ rw (start, simple-turns (part.end - 2) 0 (omega arith), complex-turns (part.end - 2) 0 (omega arith)) (sym (kinds-types part))
