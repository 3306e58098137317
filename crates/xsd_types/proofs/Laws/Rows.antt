-- A row of a tag's form, with texts and numbers within their width, is the row of a child or the head of an item. Assumes nothing.
use mathlib.Core.Path.{◌≡◌, refl}
use mathlib.Core.Bool.{Bool, true, false, ◌&&◌, ◌||◌}
use mathlib.Core.List.{[], ◌∷◌}
use Prim.Native.Nat.{ℕ, zero, suc, ◌+◌, ◌*◌, ◌%◌, ◌/◌, ◌^◌, ◌<◌}
use native.Mathlib.Omega.{arith}
use lib.Dec.{eqb, ltb, eqb-suc-zero}
use borrow.Author.Tests.{leb-true, ltb-true, lt-ltb}
use Rattle.text.specs.Text.{is_text, between}
use Rattle.sheet.specs.Rows.{Row, row, bit}
use Rattle.sheet.specs.Form.{is_flag}
use Rattle.xsd_types.specs.Types.{Facet, MaxOccurs}
use Rattle.xsd_types.specs.State.{facet_ok, max_occurs_ok, sequence_element_ok, choice_variant_ok, attribute_ok}
use Rattle.xsd_types.specs.Rows.{facet_row, occurs_row, element_row, variant_row, attribute_row}
use Rattle.xsd_types.specs.Good.{used_pairs, is_head}
use Rattle.xsd_types.specs.Back.{text0, text1}
use Rattle.xsd_types.proofs.Laws.Sound.{sound_row}
use Rattle.xsd_types.proofs.Laws.Shapes.{uses_a, uses_b, text-get_d, tag-form, form-parts, zero_a, zero-b, zero-c, shape, none-used, one-used, two-used}
use Rattle.text.proofs.Laws.Tests.{and-true-left, and-true-right, and-true}
use Rattle.text.proofs.Laws.Every.{EachFrom, between-each}

-- a and b are u32
unfoldable pub word_row : Row → Bool
word_row r = ltb r.a (2 ^ 32) && ltb r.b (2 ^ 32)

pub word-a : (r : Row) → word_row r ≡ true → r.a < 2 ^ 32
unfolding word_row
word-a r w = ltb-true r.a (2 ^ 32) (and-true-left _ _ w)

pub word-b : (r : Row) → word_row r ≡ true → r.b < 2 ^ 32
unfolding word_row
word-b r w = ltb-true r.b (2 ^ 32) (and-true-right (ltb r.a (2 ^ 32)) _ w)

pub text0-ok : (r : Row) → sound_row r ≡ true → is_text (text0 r) ≡ true
unfolding text0
text0-ok r s = text-get_d r 0 s

pub text1-ok : (r : Row) → sound_row r ≡ true → is_text (text1 r) ≡ true
unfolding text1
text1-ok r s = text-get_d r 1 s

module _ (r : Row) (s : sound_row r ≡ true) (w : word_row r ≡ true) where
  -- a row of one text, of two, with no numbers
  pub plain-one : (k c : ℕ) → r.tag ≡ k → r.c ≡ c → uses_a k ≡ false → uses_b k ≡ false → used_pairs k 0 ≡ 1 → r ≡ row k (text0 r ∷ []) 0 0 c
  plain-one k c t h f g u =
      let a = zero_a r k t s f in
      shape r k t s (text0 r ∷ []) 0 0 c (one-used r k t s (rw a u)) a (zero-b r k t s g) h

  pub plain-two : (k c : ℕ) → r.tag ≡ k → r.c ≡ c → uses_a k ≡ false → uses_b k ≡ false → used_pairs k 0 ≡ 2 → r ≡ row k (text0 r ∷ text1 r ∷ []) 0 0 c
  plain-two k c t h f g u =
      let a = zero_a r k t s f in
      shape r k t s (text0 r ∷ text1 r ∷ []) 0 0 c (two-used r k t s (rw a u)) a (zero-b r k t s g) h

  pub low_half : (r.a + r.b * 2 ^ 32) % 2 ^ 32 ≡ r.a
  low_half = omega (arith, word-a r w)

  pub high_half : (r.a + r.b * 2 ^ 32) / 2 ^ 32 ≡ r.b
  high_half = omega (arith, word-a r w)

  pub whole : ltb (r.a + r.b * 2 ^ 32) (2 ^ 64) ≡ true
  whole = lt-ltb (r.a + r.b * 2 ^ 32) (2 ^ 64) (omega (arith, word-a r w, word-b r w))

-- the row of a value that passes the test
pub record RowOf {A : Type 0} (ok : A → Bool) (f : A → Row) (r : Row) : Type 0 where
  pub value : A
  pub value_ok : ok value ≡ true
  pub same : r ≡ f value

pub data FacetTag : ℕ → Type 0 where
  enumeration : FacetTag 4
  pattern : FacetTag 5
  min_length : FacetTag 6
  max_length : FacetTag 7
  min_inclusive : FacetTag 8
  max_inclusive : FacetTag 9
  total_digits : FacetTag 10
  fraction_digits : FacetTag 11

pub facet_tag : (k : ℕ) → between 4 11 k ≡ true → FacetTag k
unfolding EachFrom
facet_tag k e = between-each FacetTag 4 7 11 k refl (enumeration, (pattern, (min_length, (max_length, (min_inclusive, (max_inclusive, (total_digits, fraction_digits))))))) e

-- a flag is the number of a test
pub bit-again : (a : ℕ) → is_flag a ≡ true → bit (eqb a 1) ≡ a
unfolding is_flag bit
bit-again zero e = refl
bit-again (suc zero) e = refl
bit-again (suc (suc a)) e = absurd (omega (arith, leb-true (suc (suc a)) 1 e))

pub flag-of : (a : ℕ) → eqb a 0 || false || false || false || is_flag a ≡ true → is_flag a ≡ true
unfolding is_flag
flag-of zero e = refl
flag-of (suc a) e = rw (eqb-suc-zero a) at e

module _ (r : Row) (s : sound_row r ≡ true) (w : word_row r ≡ true) where
  pub facet-row : {k : ℕ} → FacetTag k → r.tag ≡ k → RowOf facet_ok facet_row r
  unfolding facet_row facet_ok uses_a uses_b used_pairs is_head between
  facet-row enumeration t = record { value = Facet.enumeration (text0 r); value_ok = text0-ok r s; same = plain-one r s w 4 0 t (zero-c r 4 t s refl) refl refl refl }
  facet-row pattern t = record { value = Facet.pattern (text0 r); value_ok = text0-ok r s; same = plain-one r s w 5 0 t (zero-c r 5 t s refl) refl refl refl }
  facet-row min_length t = record {
    value = Facet.min_length (r.a + r.b * 2 ^ 32);
    value_ok = whole r s w;
    same = rw (low_half r s w, high_half r s w)
        (shape r 6 t s [] r.a r.b 0 (none-used r 6 t s refl) refl refl (zero-c r 6 t s refl));
  }
  facet-row max_length t = record {
    value = Facet.max_length (r.a + r.b * 2 ^ 32);
    value_ok = whole r s w;
    same = rw (low_half r s w, high_half r s w)
        (shape r 7 t s [] r.a r.b 0 (none-used r 7 t s refl) refl refl (zero-c r 7 t s refl));
  }
  facet-row min_inclusive t = record { value = Facet.min_inclusive (text0 r); value_ok = text0-ok r s; same = plain-one r s w 8 0 t (zero-c r 8 t s refl) refl refl refl }
  facet-row max_inclusive t = record { value = Facet.max_inclusive (text0 r); value_ok = text0-ok r s; same = plain-one r s w 9 0 t (zero-c r 9 t s refl) refl refl refl }
  facet-row total_digits t = record {
    value = Facet.total_digits r.a;
    value_ok = lt-ltb r.a (2 ^ 32) (word-a r w);
    same = shape r 10 t s [] r.a 0 0
        (none-used r 10 t s refl) refl (zero-b r 10 t s refl) (zero-c r 10 t s refl);
  }
  facet-row fraction_digits t = record {
    value = Facet.fraction_digits r.a;
    value_ok = lt-ltb r.a (2 ^ 32) (word-a r w);
    same = shape r 11 t s [] r.a 0 0
        (none-used r 11 t s refl) refl (zero-b r 11 t s refl) (zero-c r 11 t s refl);
  }

  pub bounded-row : r.tag ≡ 17 → RowOf sequence_element_ok element_row r
  unfolding sequence_element_ok max_occurs_ok element_row occurs_row used_pairs is_head between
  bounded-row t =
      record {
        value = record { name = text0 r; type_name = text1 r; min_occurs = r.a; max_occurs = MaxOccurs.bounded r.b };
        value_ok = and-true (and-true (and-true (text0-ok r s) (text1-ok r s)) (lt-ltb r.a (2 ^ 32) (word-a r w))) (lt-ltb r.b (2 ^ 32) (word-b r w));
        same = shape r 17 t s (text0 r ∷ text1 r ∷ []) r.a r.b 0 (two-used r 17 t s refl) refl refl (zero-c r 17 t s refl);
      }

  pub unbounded-row : r.tag ≡ 18 → RowOf sequence_element_ok element_row r
  unfolding sequence_element_ok max_occurs_ok element_row occurs_row used_pairs is_head between uses_b
  unbounded-row t =
      record {
        value = record { name = text0 r; type_name = text1 r; min_occurs = r.a; max_occurs = MaxOccurs.unbounded };
        value_ok = and-true (and-true (and-true (text0-ok r s) (text1-ok r s)) (lt-ltb r.a (2 ^ 32) (word-a r w))) refl;
        same = shape r 18 t s (text0 r ∷ text1 r ∷ []) r.a 0 0 (two-used r 18 t s refl) refl (zero-b r 18 t s refl) (zero-c r 18 t s refl);
      }

  pub element-row : between 17 18 r.tag ≡ true → RowOf sequence_element_ok element_row r
  unfolding EachFrom
  element-row e = between-each (λ k. r.tag ≡ k → RowOf sequence_element_ok element_row r) 17 1 18 r.tag refl (bounded-row, unbounded-row) e refl

  pub variant-row : r.tag ≡ 19 → RowOf choice_variant_ok variant_row r
  unfolding choice_variant_ok variant_row used_pairs is_head between uses_a uses_b
  variant-row t = record {
    value = record { name = text0 r; type_name = text1 r };
    value_ok = and-true (text0-ok r s) (text1-ok r s);
    same = plain-two r s w 19 0 t
        (zero-c r 19 t s refl) refl refl refl;
  }

  pub attribute-row : r.tag ≡ 20 → RowOf attribute_ok attribute_row r
  unfolding attribute_ok attribute_row used_pairs is_head between uses_b
  attribute-row t =
      record {
        value = record { name = text0 r; type_name = text1 r; required = eqb r.a 1 };
        value_ok = and-true (text0-ok r s) (text1-ok r s);
        same = rw (bit-again r.a (flag-of r.a (form-parts 20 r.a r.b r.c (tag-form r 20 t s)).3))
            (shape r 20 t s (text0 r ∷ text1 r ∷ []) r.a 0 0 (two-used r 20 t s refl) refl (zero-b r 20 t s refl) (zero-c r 20 t s refl));
      }
