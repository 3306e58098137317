-- What a tag is that has a recipe, as numbers, and which is left of a group when the others are taken. By the tests, one after the other. Assumes nothing.
use Prim.Native.Nat.{ℕ, ◌+◌, ◌≤◌, ◌<◌}
use mathlib.Core.Path.{◌≡◌, refl, sym, ap, ◌∙◌}
use mathlib.Core.Bool.{Bool, true, not, ◌&&◌, ◌||◌, false≢true}
use native.Mathlib.Nat.{le_antisymm}
use native.Mathlib.Omega.{arith}
use lib.Dec.{eqb, leb}
use borrow.Author.Tests.{leb-true, eqb-false, not-true}
use Rattle.text.specs.Text.{between}
use Rattle.std.proofs.lemmas.Bool.{and_parts}
use Rattle.text.proofs.Laws.Tests.{four}
use Rattle.ir_row.specs.Recipes.{has_recipe}

pub record RecipeTag (code_enum : Bool) (tag : ℕ) : Type 0 where
  pub low : 1 ≤ tag
  pub high : tag ≤ 20
  pub not6 : tag ≡ 6 → ⊥
  pub not7 : tag ≡ 7 → ⊥
  pub not10 : tag ≡ 10 → ⊥
  pub not11 : tag ≡ 11 → ⊥
  pub not16 : tag ≡ 16 → ⊥
  pub in_code_enum : tag ≡ 4 → code_enum ≡ true

outside : (low high tag k : ℕ) → not (between low high tag) ≡ true → between low high k ≡ true → tag ≡ k → ⊥
outside low high tag k h inside e = false≢true (sym (not-true (between low high tag) h) ∙ ap (between low high) e ∙ inside)

enum-of : (code_enum : Bool) (tag : ℕ) → not (eqb tag 4) || code_enum ≡ true → tag ≡ 4 → code_enum ≡ true
enum-of code_enum tag h e = rw e at h

pub recipe-tag : (code_enum : Bool) (tag : ℕ) → has_recipe code_enum tag ≡ true → RecipeTag code_enum tag
unfolding has_recipe between
recipe-tag code_enum tag h =
    let all = and_parts (between 1 20 tag && not (between 6 7 tag) && not (between 10 11 tag) && not (eqb tag 16)) (not (eqb tag 4) || code_enum) h in
    let q = four (between 1 20 tag) (not (between 6 7 tag)) (not (between 10 11 tag)) (not (eqb tag 16)) all.0 in
    let inside = and_parts (leb 1 tag) (leb tag 20) q.0 in
    record {
      low = leb-true 1 tag inside.0;
      high = leb-true tag 20 inside.1;
      not6 = outside 6 7 tag 6 q.1 refl;
      not7 = outside 6 7 tag 7 q.1 refl;
      not10 = outside 10 11 tag 10 q.2 refl;
      not11 = outside 10 11 tag 11 q.2 refl;
      not16 = eqb-false tag 16 (not-true (eqb tag 16) q.3);
      in_code_enum = enum-of code_enum tag all.1;
    }

below : (tag k : ℕ) → tag ≤ k + 1 → (tag ≡ k + 1 → ⊥) → tag ≤ k
below tag k h q = omega arith

twenty : (tag : ℕ) → 15 < tag → tag ≤ 20 → (tag ≡ 16 → ⊥) → (tag ≡ 17 → ⊥) → (tag ≡ 18 → ⊥) → (tag ≡ 19 → ⊥) → tag ≡ 20
twenty tag low high q16 q17 q18 q19 = omega arith

-- the tag of a group that is left last
pub tag-1 : {code_enum : Bool} (tag : ℕ) → tag ≤ 3 → (tag ≡ 2 → ⊥) → (tag ≡ 3 → ⊥) → RecipeTag code_enum tag → tag ≡ 1
tag-1 tag h q2 q3 r = le_antisymm (below tag 1 (below tag 2 h q3) q2) r.low

pub tag-4 : {code_enum : Bool} (tag : ℕ) → 3 < tag → tag ≤ 11 → (tag ≡ 5 → ⊥) → (tag ≡ 8 → ⊥) → (tag ≡ 9 → ⊥) → RecipeTag code_enum tag → tag ≡ 4
tag-4 tag low h q5 q8 q9 r =
    let nine = below tag 9 (below tag 10 h r.not11) r.not10 in
    let six = below tag 6 (below tag 7 (below tag 8 nine q9) q8) r.not7 in
    le_antisymm (below tag 4 (below tag 5 six r.not6) q5) low

pub tag-15 : (tag : ℕ) → 11 < tag → tag ≤ 15 → (tag ≡ 12 → ⊥) → (tag ≡ 13 → ⊥) → (tag ≡ 14 → ⊥) → tag ≡ 15
tag-15 tag low h q12 q13 q14 = omega arith

pub tag-20 : {code_enum : Bool} (tag : ℕ) → 15 < tag → (tag ≡ 17 → ⊥) → (tag ≡ 18 → ⊥) → (tag ≡ 19 → ⊥) → RecipeTag code_enum tag → tag ≡ 20
tag-20 tag low q17 q18 q19 r = twenty tag low r.high r.not16 q17 q18 q19
