-- What each recipe gives is what lowering makes of the row of its tag. By the definitions; a reference's text by its number. Assumes nothing.
use Rattle.std.specs.Prelude.{Option, Some, None, if◌then◌else◌}
use Rattle.std.specs.Bool.{then_some}
use Prim.Native.Nat.{ℕ}
use mathlib.Core.Path.{◌≡◌, refl, sym, ap, ap₂, ◌∙◌}
use mathlib.Core.List.{List, [], ◌∷◌, append-nil}
use mathlib.Core.Bool.{Bool, true, false, not}
use lib.Dec.{eqb}
use Rattle.text.specs.Text.{Text, between}
use Rattle.std.proofs.lemmas.Bool.{or_right}
use Rattle.names.specs.Names.{normalize_type_name, xml_to_snake_case}
use Rattle.builtin.specs.Builtin.{map_builtin, reference}
use Rattle.sheet.specs.Rows.{Row, row}
use Rattle.xsd_types.specs.Types.{MaxOccurs}
use Rattle.ir_types.specs.Rows.{cardinality_b, cardinality_c}
use Rattle.ir_lower.specs.Lower.{lower_cardinality}
use Rattle.ir_rows.specs.Lowered.{reference_texts, value_row, opaque_row, lowered_field_row, simple_row, code_rows, lowered_as}
use Rattle.ir_append.specs.declared.Spelling.{Spelling}
use Rattle.ir_append.specs.declared.Recipe.{Recipe}
use Rattle.ir_append.specs.Spelled.{is_nothing, spelled_texts, recipe_row, orderly}
use Rattle.ir_row.proofs.Laws.Tags.{RecipeTag, recipe-tag}
use Rattle.ir_row.specs.Recipes.{has_recipe, refers, reference_spelling, namespace_spelling, texts_recipe, child_recipe, Lowers}

-- what a test and a value make
pub then-if : {A : Type 0} (b : Bool) (x : A) → then_some b x ≡ (if b then Some x else None)
then-if true x = refl
then-if false x = refl

-- the recipe of a tag that is known, and of one that is known where the row has a recipe
pub lowers-as : {e : Bool} {tag k a b c n : ℕ} {r s : Recipe} → tag ≡ k → r ≡ s → Lowers e k a b c n s → Lowers e tag a b c n r
lowers-as p q h = rw (p, q) h

pub lowers-only : {e : Bool} {tag k a b c n : ℕ} {r s : Recipe} → r ≡ s → orderly s ≡ true → (RecipeTag e tag → tag ≡ k) → (RecipeTag e tag → Lowers e k a b c n s) → Lowers e tag a b c n r
lowers-only {e} {tag} q o p f =
    record {
      in_order = rw q o;
      lowers = λ t u h w. (lowers-as (p (recipe-tag e tag h)) q (f (recipe-tag e tag h))).lowers t u h w;
    }

-- a row's recipe with the texts that were read
pub lowers-read : {e : Bool} {tag a b c n : ℕ} {r : Recipe} {first second t u : Text} → Lowers e tag a b c n r → has_recipe e tag ≡ true
    → (refers tag ≡ true → n ≡ reference (map_builtin second)) → first ≡ t → second ≡ u
    → lowered_as e tag a b c t u ≡ recipe_row r first second ∷ []
lowers-read {first = first} {second = second} l h w p q = rw (← p, ← q) (l.lowers first second h w)

spelled-if : (x : Bool) (s : Option Spelling) (t u v : Text) → spelled_texts s t u ≡ v ∷ [] → spelled_texts (if x then s else None) t u ≡ (if x then v ∷ [] else [])
unfolding spelled_texts
spelled-if true s t u v e = e
spelled-if false s t u v e = refl

-- the text of a reference
reference-texts : (n : ℕ) (t u : Text) → n ≡ reference (map_builtin u) → spelled_texts (reference_spelling n) t u ≡ reference_texts u
unfolding reference_spelling reference_texts spelled_texts
reference-texts n t u e = rw e (spelled-if (eqb (reference (map_builtin u)) 0) (Some Spelling.SecondNormalized) t u (normalize_type_name u) refl)

-- a row whose first text is there and whose third is not
order-two : (s : Option Spelling) (tag a c : ℕ) → orderly (texts_recipe tag a c Spelling.FirstNormalized s) ≡ true
unfolding orderly
order-two s tag a c = or_right (not (is_nothing s)) _ refl

-- the list of one row
abbrev one : Row → List Row
one r = r ∷ []

value_row_lem : (n c : ℕ) (t u : Text) → n ≡ reference (map_builtin u) → value_row c t u ≡ recipe_row (texts_recipe 7 n c Spelling.FirstNormalized (reference_spelling n)) t u
unfolding value_row recipe_row spelled_texts
value_row_lem n c t u w =
    let second = append-nil (spelled_texts (reference_spelling n) t u) ∙ reference-texts n t u w in
    ap₂ (λ (m : ℕ) (ts : List Text). row 7 (normalize_type_name t ∷ ts) m 0 c) (sym w) (sym second)

opaque-row : (a c : ℕ) (t u : Text) → opaque_row a c t u ≡ recipe_row (texts_recipe 8 a c Spelling.FirstNormalized (namespace_spelling a)) t u
unfolding opaque_row recipe_row spelled_texts namespace_spelling
opaque-row a c t u =
    let second = append-nil (spelled_texts (namespace_spelling a) t u) ∙ spelled-if (eqb a 1) (Some Spelling.Second) t u u refl in
    ap (λ (ts : List Text). row 8 (normalize_type_name t ∷ ts) a 0 c) (sym second)

-- a child's row with its Rust name, and a variant's, whose name is kept
module _ (tag b c n : ℕ) (t u : Text) (w : n ≡ reference (map_builtin u)) where
  snake-row : row tag (t ∷ xml_to_snake_case t ∷ reference_texts u) (reference (map_builtin u)) b c ≡ recipe_row (child_recipe tag n b c Spelling.FirstSnake) t u
  unfolding recipe_row spelled_texts
  snake-row =
      ap₂ (λ (m : ℕ) (ts : List Text). row tag (t ∷ xml_to_snake_case t ∷ ts) m b c) (sym w) (sym (reference-texts n t u w))

  variant-row : row tag (t ∷ t ∷ reference_texts u) (reference (map_builtin u)) b c ≡ recipe_row (child_recipe tag n b c Spelling.First) t u
  unfolding recipe_row spelled_texts
  variant-row =
      ap₂ (λ (m : ℕ) (ts : List Text). row tag (t ∷ t ∷ ts) m b c) (sym w) (sym (reference-texts n t u w))

module _ (e : Bool) (a b c n : ℕ) where
  pub lowers-1 : Lowers e 1 a b c n (texts_recipe 1 0 0 Spelling.First None)
  unfolding lowered_as recipe_row spelled_texts orderly
  lowers-1 = record { in_order = refl; lowers = λ t u h q. refl }

  pub lowers-2 : Lowers e 2 a b c n (texts_recipe 2 0 c Spelling.First (Some Spelling.Second))
  unfolding lowered_as recipe_row spelled_texts orderly
  lowers-2 = record { in_order = refl; lowers = λ t u h q. refl }

  pub lowers-4 : e ≡ true → Lowers e 4 a b c n (texts_recipe 18 0 0 Spelling.First (Some Spelling.FirstPascal))
  unfolding lowered_as code_rows recipe_row spelled_texts orderly
  lowers-4 in_enum = record { in_order = refl; lowers = λ t u h q. rw in_enum }

  pub lowers-5 : Lowers e 5 a b c n (texts_recipe 11 0 0 Spelling.First None)
  unfolding lowered_as recipe_row spelled_texts orderly
  lowers-5 = record { in_order = refl; lowers = λ t u h q. refl }

  pub lowers-8 : Lowers e 8 a b c n (texts_recipe 14 0 0 Spelling.First None)
  unfolding lowered_as recipe_row spelled_texts orderly
  lowers-8 = record { in_order = refl; lowers = λ t u h q. refl }

  pub lowers-9 : Lowers e 9 a b c n (texts_recipe 15 0 0 Spelling.First None)
  unfolding lowered_as recipe_row spelled_texts orderly
  lowers-9 = record { in_order = refl; lowers = λ t u h q. refl }

  pub lowers-12 : Lowers e 12 a b c n (texts_recipe 3 0 c Spelling.FirstNormalized None)
  unfolding lowered_as recipe_row spelled_texts orderly
  lowers-12 = record { in_order = refl; lowers = λ t u h q. refl }

  pub lowers-13 : Lowers e 13 a b c n (texts_recipe 4 0 c Spelling.FirstNormalized None)
  unfolding lowered_as recipe_row spelled_texts orderly
  lowers-13 = record { in_order = refl; lowers = λ t u h q. refl }

  pub lowers-14 : Lowers e 14 a b c n (texts_recipe 7 n c Spelling.FirstNormalized (reference_spelling n))
  unfolding lowered_as refers
  lowers-14 =
      record {
        in_order = order-two (reference_spelling n) 7 n c;
        lowers = λ t u h q. ap one (value_row_lem n c t u (q refl));
      }

  pub lowers-15 : Lowers e 15 a b c n (texts_recipe 8 a c Spelling.FirstNormalized (namespace_spelling a))
  unfolding lowered_as
  lowers-15 =
      record { in_order = order-two (namespace_spelling a) 8 a c; lowers = λ t u h q. ap one (opaque-row a c t u) }

  pub lowers-17 : {x y : ℕ} → x ≡ cardinality_b (lower_cardinality a (MaxOccurs.bounded b)) → y ≡ cardinality_c (lower_cardinality a (MaxOccurs.bounded b))
      → Lowers e 17 a b c n (child_recipe 9 n x y Spelling.FirstSnake)
  unfolding lowered_as lowered_field_row refers between orderly
  lowers-17 p r =
      record {
        in_order = refl;
        lowers = λ t u h q. rw (p, r) (ap one (snake-row 9 (cardinality_b (lower_cardinality a (MaxOccurs.bounded b))) (cardinality_c (lower_cardinality a (MaxOccurs.bounded b))) n t u (q refl)));
      }

  pub lowers-18 : Lowers e 18 a b c n (child_recipe 9 n 2 0 Spelling.FirstSnake)
  unfolding lowered_as lowered_field_row lower_cardinality cardinality_b cardinality_c refers between orderly
  lowers-18 = record { in_order = refl; lowers = λ t u h q. ap one (snake-row 9 2 0 n t u (q refl)) }

  pub lowers-19 : Lowers e 19 a b c n (child_recipe 10 n 0 0 Spelling.First)
  unfolding lowered_as refers between orderly
  lowers-19 = record { in_order = refl; lowers = λ t u h q. ap one (variant-row 10 0 0 n t u (q refl)) }

  pub lowers-20 : Lowers e 20 a b c n (child_recipe 19 n a 0 Spelling.FirstSnake)
  unfolding lowered_as refers between orderly
  lowers-20 = record { in_order = refl; lowers = λ t u h q. ap one (snake-row 19 a 0 n t u (q refl)) }

pub lowers-code-enum : (a b c n : ℕ) → Lowers true 3 a b c n (texts_recipe 6 0 c Spelling.FirstNormalized None)
unfolding lowered_as simple_row recipe_row spelled_texts orderly
lowers-code-enum a b c n = record { in_order = refl; lowers = λ t u h q. refl }

pub lowers-newtype : (a b c n : ℕ) → Lowers false 3 a b c n (texts_recipe 5 n c Spelling.FirstNormalized None)
unfolding lowered_as simple_row recipe_row spelled_texts orderly refers
lowers-newtype a b c n = record { in_order = refl; lowers = λ t u h q. rw (q refl) }
