-- What lowering makes of a row of numbers: its tag, a, b and the texts of its first two pairs. A row that uses fewer pairs is lowered without the
-- others' texts. By the tags, one after the other. Assumes nothing.
use Rattle.std.specs.Prelude.{if◌then◌else◌}
use Prim.Native.Nat.{ℕ, ◌≤◌}
use mathlib.Core.Path.{◌≡◌, refl, ap, ap₂}
use mathlib.Core.Bool.{Bool, true, false}
use mathlib.Core.List.{List, [], ◌∷◌}
use native.Mathlib.Omega.{arith}
use lib.Dec.{eqb}
use borrow.Author.Tests.{eqb-true}
use Rattle.text.specs.Text.{Text, between}
use Rattle.names.specs.Names.{normalize_type_name, xml_to_snake_case}
use Rattle.builtin.specs.Builtin.{map_builtin, reference}
use Rattle.sheet.specs.Rows.{Row, row, Ten, text_at, unpack_row}
use Rattle.xsd_types.specs.Types.{MaxOccurs}
use Rattle.xsd_types.specs.Good.{used_pairs}
use Rattle.ir_lower.specs.Lower.{lower_cardinality}
use Rattle.ir_rows.specs.Lowered.{reference_texts, value_row, opaque_row, lowered_field_row, simple_row, code_rows, lowered_as, lowered_row}
use Rattle.xsd_types.proofs.Laws.Places.{text0-at, text1-at}

-- two branches that are each equal to another, the first where the test passes
pub if-same : {A : Type 0} (b : Bool) {x y p q : A} → (b ≡ true → x ≡ p) → y ≡ q → (if b then x else y) ≡ (if b then p else q)
if-same true f e = f refl
if-same false f e = e

-- two texts in place of two others: only those that a row of the tag and the a uses are looked at
module _ (code_enum : Bool) (tag a b c : ℕ) (p q x y : Text) (one : 1 ≤ used_pairs tag a → p ≡ x) (two : 2 ≤ used_pairs tag a → q ≡ y) where
  one_at : (k : ℕ) → 1 ≤ used_pairs k a → eqb tag k ≡ true → p ≡ x
  one_at k h e = one (rw (eqb-true tag k e) h)

  two_at : (k : ℕ) → 2 ≤ used_pairs k a → eqb tag k ≡ true → q ≡ y
  two_at k h e = two (rw (eqb-true tag k e) h)

  both_at : (k : ℕ) → 2 ≤ used_pairs k a → (f : Text → Text → List Row) → eqb tag k ≡ true → f p q ≡ f x y
  both_at k h f e = ap₂ f (one_at k (omega arith) e) (two_at k h e)

  opaque-at : eqb tag 15 ≡ true → opaque_row a c p q ≡ opaque_row a c x y
  unfolding opaque_row used_pairs between
  opaque-at e =
      let second : (if eqb a 1 then q ∷ [] else []) ≡ (if eqb a 1 then y ∷ [] else []) = if-same (eqb a 1) (λ f. ap (λ (t : Text). t ∷ []) (two_at 15 (omega (arith, eqb-true a 1 f)) e)) refl in
      ap₂ (λ (t : Text) (us : List Text). row 8 (normalize_type_name t ∷ us) a 0 c) (one_at 15 (omega arith) e) second

  pub lowered_as-same : lowered_as code_enum tag a b c p q ≡ lowered_as code_enum tag a b c x y
  unfolding lowered_as used_pairs between
  lowered_as-same =
      if-same (eqb tag 1) (λ e. rw (one_at 1 (omega arith) e))
      (if-same (eqb tag 2) (λ e. both_at 2 (omega arith) (λ t u. row 2 (t ∷ u ∷ []) 0 0 c ∷ []) e)
      (if-same (eqb tag 3) (λ e. both_at 3 (omega arith) (λ t u. simple_row code_enum c t u ∷ []) e)
      (if-same (eqb tag 4) (λ e. ap (code_rows code_enum) (one_at 4 (omega arith) e))
      (if-same (eqb tag 5) (λ e. rw (one_at 5 (omega arith) e))
      (if-same (eqb tag 6) (λ e. refl)
      (if-same (eqb tag 7) (λ e. refl)
      (if-same (eqb tag 8) (λ e. rw (one_at 8 (omega arith) e))
      (if-same (eqb tag 9) (λ e. rw (one_at 9 (omega arith) e))
      (if-same (eqb tag 10) (λ e. refl)
      (if-same (eqb tag 11) (λ e. refl)
      (if-same (eqb tag 12) (λ e. rw (one_at 12 (omega arith) e))
      (if-same (eqb tag 13) (λ e. rw (one_at 13 (omega arith) e))
      (if-same (eqb tag 14) (λ e. both_at 14 (omega arith) (λ t u. value_row c t u ∷ []) e)
      (if-same (eqb tag 15) (λ e. rw (opaque-at e))
      (if-same (eqb tag 17) (λ e. both_at 17 (omega arith) (λ t u. lowered_field_row (lower_cardinality a (MaxOccurs.bounded b)) t u ∷ []) e)
      (if-same (eqb tag 18) (λ e. both_at 18 (omega arith) (λ t u. lowered_field_row (lower_cardinality a MaxOccurs.unbounded) t u ∷ []) e)
      (if-same (eqb tag 19) (λ e. both_at 19 (omega arith) (λ t u. row 10 (t ∷ t ∷ reference_texts u) (reference (map_builtin u)) 0 0 ∷ []) e)
      (if-same (eqb tag 20) (λ e. both_at 20 (omega arith) (λ t u. row 19 (t ∷ xml_to_snake_case t ∷ reference_texts u) (reference (map_builtin u)) a 0 ∷ []) e) refl))))))))))))))))))

module _ (names : List ℕ) (t : Ten) where
  -- the graph's rows for a row of numbers
  pub lowered-at : (code_enum : Bool)
      → lowered_row code_enum (unpack_row used_pairs names t)
      ≡ lowered_as code_enum t.tag t.a t.b t.c (text_at names t.at0 t.len0) (text_at names t.at1 t.len1)
  unfolding lowered_row unpack_row
  lowered-at code_enum = lowered_as-same code_enum t.tag t.a t.b t.c _ _ (text_at names t.at0 t.len0) (text_at names t.at1 t.len1) (text0-at names t) (text1-at names t)
