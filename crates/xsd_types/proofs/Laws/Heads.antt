-- A head with its children behind it is the rows of an item, or of a type with no content yet. Assumes nothing.
use mathlib.Core.Path.{◌≡◌, refl, sym, ap, ◌∙◌}
use mathlib.Core.Logic.{⊎_elim}
use mathlib.Core.Bool.{Bool, true, false, ◌&&◌, or-false, false≢true}
use mathlib.Core.List.{List, [], ◌∷◌, map}
use mathlib.Core.Option.{some, none}
use Prim.Native.Nat.{ℕ, zero, suc}
use native.Mathlib.Omega.{arith}
use borrow.Author.Tests.{eqb-true, leb-true}
use Rattle.text.specs.Text.{Text, every, is_text, between}
use Rattle.std.proofs.lemmas.Bool.{or_cases}
use Rattle.text.proofs.Laws.Tests.{and-true-left, and-true-right, and-true}
use Rattle.sheet.specs.Rows.{Row}
use Rattle.sheet.specs.Form.{is_flag}
use Rattle.xsd_types.specs.Types.{ComplexContent, Item}
use Rattle.xsd_types.specs.State.{ComplexContentBuilder, started, element_ok, facet_ok, sequence_element_ok, choice_variant_ok, attribute_ok, namespace_ok, content_ok, item_ok}
use Rattle.xsd_types.specs.Rows.{facet_row, element_row, variant_row, attribute_row, simple_type_rows, complex_type_rows, item_rows}
use Rattle.xsd_types.specs.Good.{used_pairs, is_head, is_child}
use Rattle.xsd_types.specs.Back.{text0, text1}
use Rattle.xsd_types.proofs.Laws.Sound.{sound_row}
use Rattle.xsd_types.proofs.Laws.Shapes.{uses_a, uses_b, tag-form, form-parts, zero-b, shape, one-used, two-used}
use Rattle.xsd_types.proofs.Laws.Rows.{word_row, text0-ok, text1-ok, plain-one, plain-two, RowOf, facet_tag, facet-row, element-row, variant-row, attribute-row, flag-of}
use Rattle.text.proofs.Laws.Every.{EachFrom, between-each, every-head, every-tail}

unfoldable pub full_row : Row → Bool
full_row r = sound_row r && word_row r

pub full-sound : (r : Row) → full_row r ≡ true → sound_row r ≡ true
unfolding full_row
full-sound r e = and-true-left _ _ e

pub full-word : (r : Row) → full_row r ≡ true → word_row r ≡ true
unfolding full_row
full-word r e = and-true-right (sound_row r) _ e

-- a row that may stand behind the head h
unfoldable pub loose_row : ℕ → Row → Bool
loose_row h r = full_row r && is_child h r.tag

pub record RowsOf {A : Type 0} (ok : A → Bool) (f : A → Row) (rs : List Row) : Type 0 where
  pub values : List A
  pub values_ok : every ok values ≡ true
  pub same : rs ≡ map f values

module _ {A : Type 0} (ok : A → Bool) (f : A → Row) (p : Row → Bool) (one : (r : Row) → p r ≡ true → RowOf ok f r) where
  pub rows-of : (rs : List Row) → every p rs ≡ true → RowsOf ok f rs
  unfolding every
  rows-of [] e = record { values = []; values_ok = refl; same = refl }
  rows-of (r ∷ rs) e =
      let o = one r (every-head p r rs e) in
      let os = rows-of rs (every-tail p r rs e) in
      record { values = o.value ∷ os.values; values_ok = and-true o.value_ok os.values_ok; same = rw (← o.same, ← os.same) }

-- a loose row is the row of a child of its head
pub loose-full : (h : ℕ) (r : Row) → loose_row h r ≡ true → full_row r ≡ true
unfolding loose_row
loose-full h r e = and-true-left _ _ e

pub loose-child : (h : ℕ) (r : Row) → loose_row h r ≡ true → is_child h r.tag ≡ true
unfolding loose_row
loose-child h r e = and-true-right (full_row r) _ e

module _ (h : ℕ) (r : Row) (e : loose_row h r ≡ true) where
  pub loose-sound : sound_row r ≡ true
  loose-sound = full-sound r (loose-full h r e)

  pub loose-word : word_row r ≡ true
  loose-word = full-word r (loose-full h r e)

pub loose-facet : (r : Row) → loose_row 3 r ≡ true → RowOf facet_ok facet_row r
unfolding is_child
loose-facet r e = facet-row r (loose-sound 3 r e) (loose-word 3 r e) (facet_tag r.tag (simp or-false at (loose-child 3 r e))) refl

pub loose-element : (r : Row) → loose_row 12 r ≡ true → RowOf sequence_element_ok element_row r
unfolding is_child
loose-element r e = element-row r (loose-sound 12 r e) (loose-word 12 r e) (simp or-false at (loose-child 12 r e))

pub loose-variant : (r : Row) → loose_row 13 r ≡ true → RowOf choice_variant_ok variant_row r
unfolding is_child
loose-variant r e = variant-row r (loose-sound 13 r e) (loose-word 13 r e) (eqb-true r.tag 19 (simp or-false at (loose-child 13 r e)))

pub loose-attribute : (r : Row) → loose_row 14 r ≡ true → RowOf attribute_ok attribute_row r
unfolding is_child
loose-attribute r e = attribute-row r (loose-sound 14 r e) (loose-word 14 r e) (eqb-true r.tag 20 (loose-child 14 r e))

-- a head that has no children
pub no-loose : (h : ℕ) → ((t : ℕ) → is_child h t ≡ false) → (rs : List Row) → every (loose_row h) rs ≡ true → rs ≡ []
no-loose h f [] e = refl
no-loose h f (r ∷ rs) e = absurd (false≢true (sym (f r.tag) ∙ loose-child h r (every-head (loose_row h) r rs e)))

pub data HeadTag : ℕ → Type 0 where
  element : HeadTag 2
  simple : HeadTag 3
  sequence : HeadTag 12
  choice : HeadTag 13
  content : HeadTag 14
  any : HeadTag 15
  absent : HeadTag 16

module _ (k : ℕ) where
  pub complex_tag : between 12 16 k ≡ true → HeadTag k
  unfolding EachFrom
  complex_tag e = between-each HeadTag 12 4 16 k refl (sequence, (choice, (content, (any, absent)))) e

  pub head_tags : is_head k ≡ true → HeadTag k
  unfolding is_head EachFrom
  head_tags e = ⊎_elim (between-each HeadTag 2 1 3 k refl (element, simple)) complex_tag (or_cases (between 2 3 k) (between 12 16 k) e)

-- a head and the rows behind it are an item's, or the head has no content yet
pub data Headed (r : Row) (ls : List Row) : Type 0 where
  item : (i : Item) → item_ok i ≡ true → r ∷ ls ≡ item_rows i → Headed r ls
  still : (event : ℕ) (name : Text) → is_text name ≡ true → r.tag ≡ 16 → r ∷ [] ≡ complex_type_rows event name ComplexContentBuilder.empty → Headed r ls

module _ (r : Row) (ls : List Row) (s : sound_row r ≡ true) (w : word_row r ≡ true) where
  pub any_flag : r.tag ≡ 15 → is_flag r.a ≡ true
  unfolding between
  any_flag t = flag-of r.a (form-parts 15 r.a r.b r.c (tag-form r 15 t s)).3

  pub headed-any : r.tag ≡ 15 → every (loose_row 15) ls ≡ true → (a : ℕ) → r.a ≡ a → is_flag a ≡ true → Headed r ls
  unfolding item_ok item_rows complex_type_rows started content_ok namespace_ok uses_b used_pairs between is_child is_flag
  headed-any t e zero f g =
      Headed.item (Item.complex_type (record { name = text0 r; content = ComplexContent.any none; event = r.c })) (and-true (text0-ok r s) refl)
      (rw (no-loose 15 (λ n. refl) ls e) (ap (λ (x : Row). x ∷ []) (shape r 15 t s (text0 r ∷ []) 0 0 r.c (one-used r 15 t s (rw f)) f (zero-b r 15 t s refl) refl)))
  headed-any t e (suc zero) f g =
      Headed.item (Item.complex_type (record { name = text0 r; content = ComplexContent.any (some (text1 r)); event = r.c })) (and-true (text0-ok r s) (text1-ok r s))
      (rw (no-loose 15 (λ n. refl) ls e)
      (ap (λ (x : Row). x ∷ []) (shape r 15 t s (text0 r ∷ text1 r ∷ []) 1 0 r.c (two-used r 15 t s (rw f)) f (zero-b r 15 t s refl) refl)))
  headed-any t e (suc (suc a)) f g = absurd (omega (arith, leb-true (suc (suc a)) 1 g))

  pub headed-element : r.tag ≡ 2 → every (loose_row 2) ls ≡ true → Headed r ls
  unfolding item_ok element_ok item_rows uses_a uses_b used_pairs between is_child
  headed-element t e =
      Headed.item (Item.element (record { name = text0 r; type_name = text1 r; event = r.c })) (and-true (text0-ok r s) (text1-ok r s))
      (rw (no-loose 2 (λ n. refl) ls e) (ap (λ (x : Row). x ∷ []) (plain-two r s w 2 r.c t refl refl refl refl)))

  pub headed-simple : r.tag ≡ 3 → every (loose_row 3) ls ≡ true → Headed r ls
  unfolding item_ok item_rows simple_type_rows uses_a uses_b used_pairs between
  headed-simple t e =
      let cs = rows-of facet_ok facet_row (loose_row 3) loose-facet ls e in
      Headed.item (Item.simple_type (record { name = text0 r; base = text1 r; facets = cs.values; event = r.c }))
      (and-true (and-true (text0-ok r s) (text1-ok r s)) cs.values_ok) (λ i. plain-two r s w 3 r.c t refl refl refl refl i ∷ cs.same i)

  pub headed-sequence : r.tag ≡ 12 → every (loose_row 12) ls ≡ true → Headed r ls
  unfolding item_ok item_rows complex_type_rows started content_ok uses_a uses_b used_pairs between
  headed-sequence t e =
      let cs = rows-of sequence_element_ok element_row (loose_row 12) loose-element ls e in
      Headed.item (Item.complex_type (record { name = text0 r; content = ComplexContent.sequence cs.values; event = r.c })) (and-true (text0-ok r s) cs.values_ok)
      (λ i. plain-one r s w 12 r.c t refl refl refl refl i ∷ cs.same i)

  pub headed-choice : r.tag ≡ 13 → every (loose_row 13) ls ≡ true → Headed r ls
  unfolding item_ok item_rows complex_type_rows started content_ok uses_a uses_b used_pairs between
  headed-choice t e =
      let cs = rows-of choice_variant_ok variant_row (loose_row 13) loose-variant ls e in
      Headed.item (Item.complex_type (record { name = text0 r; content = ComplexContent.choice cs.values; event = r.c })) (and-true (text0-ok r s) cs.values_ok)
      (λ i. plain-one r s w 13 r.c t refl refl refl refl i ∷ cs.same i)

  pub headed-content : r.tag ≡ 14 → every (loose_row 14) ls ≡ true → Headed r ls
  unfolding item_ok item_rows complex_type_rows started content_ok uses_a uses_b used_pairs between
  headed-content t e =
      let cs = rows-of attribute_ok attribute_row (loose_row 14) loose-attribute ls e in
      Headed.item (Item.complex_type (record { name = text0 r; content = ComplexContent.simple_content (text1 r) cs.values; event = r.c }))
      (and-true (text0-ok r s) (and-true (text1-ok r s) cs.values_ok)) (λ i. plain-two r s w 14 r.c t refl refl refl refl i ∷ cs.same i)

  pub headed-absent : r.tag ≡ 16 → Headed r ls
  unfolding complex_type_rows uses_a uses_b used_pairs between
  headed-absent t = Headed.still r.c (text0 r) (text0-ok r s) t (ap (λ (x : Row). x ∷ []) (plain-one r s w 16 r.c t refl refl refl refl))

  pub headed : {k : ℕ} → HeadTag k → r.tag ≡ k → every (loose_row k) ls ≡ true → Headed r ls
  headed element t e = headed-element t e
  headed simple t e = headed-simple t e
  headed sequence t e = headed-sequence t e
  headed choice t e = headed-choice t e
  headed content t e = headed-content t e
  headed any t e = headed-any t e r.a refl (any_flag t)
  headed absent t e = headed-absent t
