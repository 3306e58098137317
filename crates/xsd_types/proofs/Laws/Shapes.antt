-- What a row of a tag's form is: its unused numbers are 0 and its texts are as many as the tag says. Assumes nothing.
use mathlib.Core.Path.{◌≡◌, refl, sym, ◌∙◌}
use mathlib.Core.Bool.{Bool, true, false, ◌&&◌, ◌||◌, or-false, or_assoc, true≢false, false≢true}
use mathlib.Core.List.{List, [], ◌∷◌}
use Prim.Native.Nat.{ℕ}
use native.Mathlib.Omega.{arith}
use lib.Dec.{eqb}
use lib.ListN.{length, get_or}
use borrow.Author.Tests.{eqb-true}
use Rattle.text.specs.Text.{Text, is_text, between}
use Rattle.text.proofs.Laws.Tests.{four}
use Rattle.sheet.specs.Rows.{Row, row}
use Rattle.sheet.specs.Form.{is_flag}
use Rattle.sheet.proofs.Laws.Packs.{counted-used}
use Rattle.xsd_types.specs.Good.{used_pairs, row_form, is_head}
use Rattle.xsd_types.specs.Back.{text0, text1}
use Rattle.xsd_types.proofs.Laws.Sound.{formed_row, text_row, sound_row, sound-formed, sound-counted, sound-text}
use Rattle.text.proofs.Laws.Every.{every-get_d}
use Rattle.text.proofs.Laws.Class.{empty-text}

-- the parts of a row's form
module _ (tag a b c : ℕ) (e : row_form tag a b c ≡ true) where
  pub form-parts : (between 2 20 tag ≡ true) × (is_head tag || eqb c 0 ≡ true) × (eqb b 0 || between 6 7 tag || eqb tag 17 ≡ true)
      × (eqb a 0 || between 6 7 tag || between 10 11 tag || between 17 18 tag || ((eqb tag 15 || eqb tag 20) && is_flag a) ≡ true)
  unfolding row_form
  form-parts = four (between 2 20 tag) (is_head tag || eqb c 0) (eqb b 0 || between 6 7 tag || eqb tag 17)
      (eqb a 0 || between 6 7 tag || between 10 11 tag || between 17 18 tag || ((eqb tag 15 || eqb tag 20) && is_flag a)) e

  pub form-b : between 6 7 tag || eqb tag 17 ≡ false → b ≡ 0
  form-b f = eqb-true b 0 (rw (or_assoc (eqb b 0) (between 6 7 tag) (eqb tag 17), f, or-false (eqb b 0)) at form-parts.2)

-- no text, one, two
pub no_text : (ts : List Text) → length ts ≡ 0 → ts ≡ []
no_text [] e = refl
no_text (t ∷ ts) e = absurd (omega arith)

pub one-text : (ts : List Text) → length ts ≡ 1 → ts ≡ get_or ts 0 [] ∷ []
one-text [] e = absurd (omega arith)
one-text (t ∷ []) e = refl
one-text (t ∷ u ∷ ts) e = absurd (omega arith)

pub two-texts : (ts : List Text) → length ts ≡ 2 → ts ≡ get_or ts 0 [] ∷ get_or ts 1 [] ∷ []
two-texts [] e = absurd (omega arith)
two-texts (t ∷ []) e = absurd (omega arith)
two-texts (t ∷ u ∷ []) e = refl
two-texts (t ∷ u ∷ v ∷ ts) e = absurd (omega arith)

pub text-get_d : (r : Row) (i : ℕ) → sound_row r ≡ true → is_text (get_or r.texts i []) ≡ true
unfolding text_row
text-get_d r i e = every-get_d is_text [] empty-text r.texts i (sound-text r e)

-- of a disjunction whose other parts fail the first part holds
pub first_holds : (x p q r s y : Bool) → x || p || q || r || (s && y) ≡ true → p || q || r || s ≡ false → x ≡ true
first_holds true p q r s y e f = refl
first_holds false true q r s y e f = absurd (true≢false f)
first_holds false false true r s y e f = absurd (true≢false f)
first_holds false false false true s y e f = absurd (true≢false f)
first_holds false false false false true y e f = absurd (true≢false f)
first_holds false false false false false y e f = absurd (false≢true e)

unfoldable pub uses_b : ℕ → Bool
uses_b tag = between 6 7 tag || eqb tag 17

unfoldable pub uses_a : ℕ → Bool
uses_a tag = between 6 7 tag || between 10 11 tag || between 17 18 tag || (eqb tag 15 || eqb tag 20)

module _ (r : Row) (k : ℕ) (t : r.tag ≡ k) (s : sound_row r ≡ true) where
  pub tag-form : row_form k r.a r.b r.c ≡ true
  unfolding formed_row
  tag-form = rw t at (sound-formed r s)

  pub tag-used : used_pairs k r.a ≡ length r.texts
  tag-used = rw t at (counted-used used_pairs r (sound-counted r s))

  pub zero_a : uses_a k ≡ false → r.a ≡ 0
  unfolding uses_a
  zero_a f = eqb-true r.a 0 (first_holds (eqb r.a 0) (between 6 7 k) (between 10 11 k) (between 17 18 k) (eqb k 15 || eqb k 20) (is_flag r.a) (form-parts k r.a r.b r.c tag-form).3 f)

  pub zero-b : uses_b k ≡ false → r.b ≡ 0
  unfolding uses_b
  zero-b f = form-b k r.a r.b r.c tag-form f

  -- c of a row that is no head
  pub zero-c : is_head k ≡ false → r.c ≡ 0
  zero-c f = eqb-true r.c 0 (rw f at (form-parts k r.a r.b r.c tag-form).1)

  pub shape : (ts : List Text) (a b c : ℕ) → r.texts ≡ ts → r.a ≡ a → r.b ≡ b → r.c ≡ c → r ≡ row k ts a b c
  unfolding row
  shape ts a b c e f g h = λ i. record { tag = t i; texts = e i; a = f i; b = g i; c = h i }

  pub none-used : used_pairs k r.a ≡ 0 → r.texts ≡ []
  none-used u = no_text r.texts (sym tag-used ∙ u)

  pub one-used : used_pairs k r.a ≡ 1 → r.texts ≡ text0 r ∷ []
  unfolding text0
  one-used u = one-text r.texts (sym tag-used ∙ u)

  pub two-used : used_pairs k r.a ≡ 2 → r.texts ≡ text0 r ∷ text1 r ∷ []
  unfolding text0 text1
  two-used u = two-texts r.texts (sym tag-used ∙ u)
