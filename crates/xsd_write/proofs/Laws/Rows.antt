-- The text of a row as the code writes it is the definition's (specs/Texts.antt; the crate `xsd_written`, specs/ByRows.antt): by the tests of the tag, one
-- after the other. Assumes nothing.
use Rattle.std.proofs.lemmas.List.{get_or-take}
use Prim.Native.Nat.{ℕ, zero, suc, ◌+◌, ◌*◌, ◌^◌, ◌≤◌, ◌<◌}
use mathlib.Core.Path.{◌≡◌, refl, sym, ap, ◌∙◌}
use mathlib.Core.Bool.{true, false}
use mathlib.Core.List.{List, [], ◌∷◌, ◌++◌, append_assoc}
use native.Mathlib.Omega.{arith}
use lib.Dec.{eqb}
use lib.ListN.{get_or, take, drop}
use Rattle.text.specs.Text.{Text, bytes, between}
use Rattle.text.proofs.Laws.Tests.{if-in, bool_cases}
use Rattle.sheet.specs.Rows.{Row, ten, text_at, unpack_row}
use Rattle.rows.specs.declared.ten.Ten.{Ten as Numbers}
use Rattle.rows.specs.Ten.{as_ten, pair_of}
use Rattle.xsd_types.specs.Good.{used_pairs, is_head, head_after}
use Rattle.xsd_types.specs.Back.{text0, text1}
use Rattle.xsd_types.specs.Places.{row_at, rows_from}
use Rattle.xsd_types.proofs.Laws.Places.{rows_from-cons, rows_from-end}
use Rattle.xsd_written.specs.Decimal.{decimal}
use Rattle.xsd_written.specs.ByRows.{attribute_text, empty_text, named_text, complex_text, head_markup, facet_word_text, facet_value_text}
use Rattle.xsd_written.specs.ByRows.{max_occurs_text, occurs_text, use_text, child_text, close_text, rows_text}
use Rattle.xsd_write.specs.declared.part.Row.{Row as Given}
use Rattle.xsd_write.specs.Texts.{given_row, as_row, content_text, row_text}

-- no text where a pair is not used, and the text under one that is
pub text-none : (n k : ℕ) (ts : List Text) → n ≤ k → get_or (take n ts) k [] ≡ []
text-none zero k ts h = refl
text-none (suc n) k [] h = refl
text-none (suc n) zero (t ∷ ts) h = absurd (omega arith)
text-none (suc n) (suc k) (t ∷ ts) h = text-none n k ts (omega arith)

pub text-under : (names : Text) (t : Numbers) (n k : ℕ) → k < 3 → k < n
    → get_or (take n (text_at names t.at0 t.len0 ∷ text_at names t.at1 t.len1 ∷ text_at names t.at2 t.len2 ∷ [])) k [] ≡ text_at names (pair_of t k).at (pair_of t k).len
text-under names t n zero h l = get_or-take n _ zero [] l
text-under names t n (suc zero) h l = get_or-take n _ 1 [] l
text-under names t n (suc (suc zero)) h l = get_or-take n _ 2 [] l
text-under names t n (suc (suc (suc k))) h l = absurd (omega arith)

-- heads by their tags
pub content-extension : (r : Row) → r.tag ≡ 14 → content_text r ≡ bytes "><xs:simpleContent><xs:extension" ++ (attribute_text "base" (text1 r) ++ bytes ">")
unfolding content_text
content-extension r e = rw e

pub head-element : (r : Row) → r.tag ≡ 2 → head_markup r ≡ empty_text (bytes "element") (named_text r)
unfolding head_markup
head-element r e = rw e

pub head-simple : (r : Row) → r.tag ≡ 3
    → head_markup r ≡ bytes "<xs:simpleType" ++ (attribute_text "name" (text0 r) ++ (bytes "><xs:restriction" ++ (attribute_text "base" (text1 r) ++ bytes ">")))
unfolding head_markup
head-simple r e = rw e

-- a head that is no element and no simple type is a complex type
pub head-complex : (r : Row) → eqb r.tag 2 ≡ false → eqb r.tag 3 ≡ false → head_markup r ≡ complex_text r (content_text r)
unfolding head_markup content_text
head-complex r e f =
    rw (e, f)
    (sym (if-in (complex_text r) (eqb r.tag 12) refl (if-in (complex_text r) (eqb r.tag 13) refl (if-in (complex_text r) (eqb r.tag 14) refl refl))))

-- a row, and those behind it
pub rows_on : (pending : ℕ) (r : Row) (rs : List Row) → rows_text pending (r ∷ rs) ≡ row_text pending r ++ rows_text (head_after pending r.tag) rs
unfolding rows_text row_text head_after
rows_on pending r rs =
    bool_cases (is_head r.tag)
    (λ e. rw e (sym (append_assoc (close_text pending) (head_markup r) (rows_text r.tag rs))))
    (λ e. rw e)

-- the row at a place, by the numbers that were read
pub row_read : (rows names : List ℕ) (place : ℕ) (t : Numbers) → as_ten t ≡ ten (drop (10 * place) rows) → given_row names t ≡ row_at rows names place
unfolding row_at
row_read rows names place t e = ap (unpack_row used_pairs names) e

module _ (rows names : List ℕ) where
  -- what is left to be put is the row at hand, and those behind it
  pub rest-on : (r : Given) (place end pending next : ℕ) → as_row r ≡ row_at rows names place → place < end → next ≡ head_after pending r.numbers.tag
      → rows_text pending (rows_from rows names place end) ≡ row_text pending (as_row r) ++ rows_text next (rows_from rows names (place + 1) end)
  unfolding unpack_row
  rest-on r place end pending next e h n =
      let rest = rows_from rows names (place + 1) end in
      ap (rows_text pending) (rows_from-cons rows names place end h ∙ ap (λ (r : Row). r ∷ rest) (sym e))
      ∙ rows_on pending (as_row r) rest
      ∙ ap (λ (k : ℕ). row_text pending (as_row r) ++ rows_text k rest) (sym n)

  pub rest_end : (place end pending : ℕ) → end ≤ place → rows_text pending (rows_from rows names place end) ≡ close_text pending
  unfolding rows_text
  rest_end place end pending h = rw (rows_from-end rows names place end h)

-- children by their tags
module _ (r : Row) where
  pub value-length : between 6 7 r.tag ≡ true → facet_value_text r ≡ decimal (r.a + r.b * 2 ^ 32)
  unfolding facet_value_text
  value-length e = rw e

  pub value-digits : between 6 7 r.tag ≡ false → between 10 11 r.tag ≡ true → facet_value_text r ≡ decimal r.a
  unfolding facet_value_text
  value-digits e f = rw (e, f)

  pub value-text : between 6 7 r.tag ≡ false → between 10 11 r.tag ≡ false → facet_value_text r ≡ text0 r
  unfolding facet_value_text
  value-text e f = rw (e, f)

  pub max-bound : eqb r.tag 17 ≡ true → max_occurs_text r ≡ decimal r.b
  unfolding max_occurs_text
  max-bound e = rw e

  pub max_none : eqb r.tag 17 ≡ false → max_occurs_text r ≡ bytes "unbounded"
  unfolding max_occurs_text
  max_none e = rw e

  pub child-facet : between 4 11 r.tag ≡ true → child_text r ≡ empty_text (facet_word_text r.tag) (attribute_text "value" (facet_value_text r))
  unfolding child_text
  child-facet e = rw e

  pub child-occurs : between 4 11 r.tag ≡ false → between 17 18 r.tag ≡ true → child_text r ≡ empty_text (bytes "element") (named_text r ++ occurs_text r)
  unfolding child_text
  child-occurs e f = rw (e, f)

  pub child-variant : between 4 11 r.tag ≡ false → between 17 18 r.tag ≡ false → eqb r.tag 19 ≡ true → child_text r ≡ empty_text (bytes "element") (named_text r)
  unfolding child_text
  child-variant e f g = rw (e, f, g)

  pub child-attribute : between 4 11 r.tag ≡ false → between 17 18 r.tag ≡ false → eqb r.tag 19 ≡ false → child_text r ≡ empty_text (bytes "attribute") (named_text r ++ use_text r)
  unfolding child_text
  child-attribute e f g = rw (e, f, g)
