-- The rows of a proper state: each has its tag's form, its texts as many as it uses, and they are texts. Assumes nothing.
use mathlib.Core.Path.{◌≡◌, refl, ◌∙◌}
use mathlib.Core.Bool.{Bool, true, false, ◌&&◌, or-true, or-false}
use mathlib.Core.List.{List, [], ◌∷◌, ◌++◌}
use mathlib.Core.Option.{some, none}
use Prim.Native.Nat.{ℕ, ◌+◌, ◌%◌, ◌/◌, ◌^◌}
use lib.Dec.{eqb, leb, ltb}
use Rattle.text.specs.Text.{Text, every, is_text, between}
use Rattle.std.proofs.lemmas.Bool.{and_parts}
use Rattle.text.proofs.Laws.Tests.{three, four, and-true-left, and-true-right, and-true}
use Rattle.sheet.specs.Rows.{Row, row, bit}
use Rattle.sheet.specs.Form.{is_flag, texts_counted}
use Rattle.xsd_types.specs.Types.{Facet, MaxOccurs, SequenceElement, ChoiceVariant, Attribute, Item}
use Rattle.xsd_types.specs.State.{ComplexContentBuilder, Context, State, element_ok, facet_ok, max_occurs_ok, sequence_element_ok, choice_variant_ok, attribute_ok}
use Rattle.xsd_types.specs.State.{namespace_ok, content_ok, started, item_ok, context_ok, schema_ok, root_ok, counters_ok, events_ok, proper}
use Rattle.xsd_types.specs.Rows.{namespace_row, facet_row, occurs_row, element_row, variant_row, attribute_row, simple_type_rows, complex_type_rows, item_rows, items_rows, context_rows, rows_of}
use Rattle.xsd_types.specs.Good.{used_pairs, row_form, is_head}
use Rattle.text.proofs.Laws.Every.{every_map, every-weaken, every_append, every-head, every-tail}

unfoldable pub formed_row : Row → Bool
formed_row r = row_form r.tag r.a r.b r.c

unfoldable pub text_row : Row → Bool
text_row r = every is_text r.texts

unfoldable pub sound_row : Row → Bool
sound_row r = formed_row r && texts_counted used_pairs r && text_row r

pub sound-facet : (f : Facet) → facet_ok f ≡ true → sound_row (facet_row f) ≡ true
unfolding sound_row formed_row text_row texts_counted facet_ok facet_row row row_form is_head used_pairs between every
sound-facet (Facet.enumeration v) e = and-true e refl
sound-facet (Facet.pattern v) e = and-true e refl
sound-facet (Facet.min_length n) e = rw (or-true (eqb (n / 2 ^ 32) 0), or-true (eqb (n % 2 ^ 32) 0))
sound-facet (Facet.max_length n) e = rw (or-true (eqb (n / 2 ^ 32) 0), or-true (eqb (n % 2 ^ 32) 0))
sound-facet (Facet.min_inclusive v) e = and-true e refl
sound-facet (Facet.max_inclusive v) e = and-true e refl
sound-facet (Facet.total_digits n) e = simp (or-false, or-true)
sound-facet (Facet.fraction_digits n) e = simp (or-false, or-true)

-- two texts, and nothing behind them
pub both-texts : (s t : Text) → is_text s ≡ true → is_text t ≡ true → every is_text (s ∷ t ∷ []) ≡ true
unfolding every
both-texts s t p q = and-true p (and-true q refl)

pub sound-occurs : (name type_name : Text) (min : ℕ) (max : MaxOccurs) → is_text name ≡ true → is_text type_name ≡ true → sound_row (occurs_row name type_name min max) ≡ true
unfolding sound_row formed_row text_row texts_counted occurs_row row row_form is_head used_pairs between
sound-occurs name type_name min (MaxOccurs.bounded max) p q = simp (or-false, or-true) (both-texts name type_name p q)
sound-occurs name type_name min MaxOccurs.unbounded p q = simp (or-false, or-true) (both-texts name type_name p q)

pub sound-element : (e : SequenceElement) → sequence_element_ok e ≡ true → sound_row (element_row e) ≡ true
unfolding sequence_element_ok element_row
sound-element e ok =
    let w = four (is_text e.name) (is_text e.type_name) (ltb e.min_occurs (2 ^ 32)) (max_occurs_ok e.max_occurs) ok in
    sound-occurs e.name e.type_name e.min_occurs e.max_occurs w.0 w.1

pub sound-variant : (v : ChoiceVariant) → choice_variant_ok v ≡ true → sound_row (variant_row v) ≡ true
unfolding sound_row formed_row text_row texts_counted variant_row row row_form is_head used_pairs between choice_variant_ok
sound-variant v ok = both-texts v.name v.type_name (and-true-left _ _ ok) (and-true-right (is_text v.name) _ ok)

pub sound-flagged : (name type_name : Text) (flag : Bool) → is_text name ≡ true → is_text type_name ≡ true → sound_row (row 20 (name ∷ type_name ∷ []) (bit flag) 0 0) ≡ true
unfolding sound_row formed_row text_row texts_counted row bit row_form is_head used_pairs between is_flag
sound-flagged name type_name true p q = both-texts name type_name p q
sound-flagged name type_name false p q = both-texts name type_name p q

pub sound-attribute : (x : Attribute) → attribute_ok x ≡ true → sound_row (attribute_row x) ≡ true
unfolding attribute_row attribute_ok
sound-attribute x ok = sound-flagged x.name x.type_name x.required (and-true-left _ _ ok) (and-true-right (is_text x.name) _ ok)

-- heads of one text and of two
pub sound-simple : (event : ℕ) (name base : Text) (fs : List Facet) → is_text name ≡ true → is_text base ≡ true
    → every facet_ok fs ≡ true → every sound_row (simple_type_rows event name base fs) ≡ true
unfolding simple_type_rows sound_row formed_row text_row texts_counted row row_form is_head used_pairs between every
sound-simple event name base fs p q ok = and-true (both-texts name base p q) (every_map facet_ok sound_row facet_row sound-facet fs ok)

pub sound-complex : (event : ℕ) (name : Text) (c : ComplexContentBuilder) → is_text name ≡ true → content_ok c ≡ true → every sound_row (complex_type_rows event name c) ≡ true
unfolding complex_type_rows sound_row formed_row text_row texts_counted row row_form is_head used_pairs between every is_flag content_ok namespace_ok
sound-complex event name ComplexContentBuilder.empty p ok = and-true (and-true p refl) refl
sound-complex event name (ComplexContentBuilder.sequence es) p ok = and-true (and-true p refl) (every_map sequence_element_ok sound_row element_row sound-element es ok)
sound-complex event name (ComplexContentBuilder.choice vs) p ok = and-true (and-true p refl) (every_map choice_variant_ok sound_row variant_row sound-variant vs ok)
sound-complex event name (ComplexContentBuilder.simple_content base xs flag) p ok =
    and-true (both-texts name base p (and-true-left _ _ ok)) (every_map attribute_ok sound_row attribute_row sound-attribute xs (and-true-right (is_text base) _ ok))
sound-complex event name (ComplexContentBuilder.any none) p ok = and-true (and-true p refl) refl
sound-complex event name (ComplexContentBuilder.any (some n)) p ok = and-true (both-texts name n p ok) refl

pub sound-item : (i : Item) → item_ok i ≡ true → every sound_row (item_rows i) ≡ true
unfolding item_rows sound_row formed_row text_row texts_counted row row_form is_head used_pairs between every item_ok element_ok
sound-item (Item.element e) ok = and-true (both-texts e.name e.type_name (and-true-left _ _ ok) (and-true-right (is_text e.name) _ ok)) refl
sound-item (Item.simple_type t) ok =
    let w = three (is_text t.name) (is_text t.base) (every facet_ok t.facets) ok in
    sound-simple t.event t.name t.base t.facets w.0 w.1 w.2
sound-item (Item.complex_type t) ok = sound-complex t.event t.name (started t.content) (and-true-left _ _ ok) (and-true-right (is_text t.name) _ ok)

pub sound-items : (is : List Item) → every item_ok is ≡ true → every sound_row (items_rows is) ≡ true
unfolding items_rows every
sound-items [] ok = refl
sound-items (i ∷ is) ok =
    every_append sound_row (item_rows i) (items_rows is) ∙ and-true (sound-item i (every-head item_ok i is ok)) (sound-items is (every-tail item_ok i is ok))

pub sound-context : (by_standard : Bool) (c : Context) (open_tags : ℕ) → context_ok by_standard c open_tags ≡ true → every sound_row (context_rows c) ≡ true
unfolding context_rows context_ok every
sound-context b Context.no_context n ok = refl
sound-context b (Context.in_schema depth) n ok = refl
sound-context b (Context.in_simple_type t) n ok =
    let w = four (leb (t.nesting_depth + 2) n) (is_text t.head.name) (is_text t.base) (every facet_ok t.facets) ok in
    sound-simple t.head.event t.head.name t.base t.facets w.1 w.2 w.3
sound-context b (Context.in_complex_type t) n ok =
    let w = three (leb (t.nesting_depth + 2) n) (is_text t.head.name) (content_ok t.content) ok in
    sound-complex t.head.event t.head.name t.content w.1 w.2

module _ (r : Row) (e : sound_row r ≡ true) where
  pub sound-formed : formed_row r ≡ true
  unfolding sound_row
  sound-formed = (three (formed_row r) (texts_counted used_pairs r) (text_row r) e).0

  pub sound-counted : texts_counted used_pairs r ≡ true
  unfolding sound_row
  sound-counted = (three (formed_row r) (texts_counted used_pairs r) (text_row r) e).1

  pub sound-text : text_row r ≡ true
  unfolding sound_row
  sound-text = (three (formed_row r) (texts_counted used_pairs r) (text_row r) e).2

-- all rows behind row 1
unfoldable pub body_rows : State → List Row
body_rows s = items_rows s.reader.schema.items ++ context_rows s.reader.context

module _ (s : State) (ok : proper s ≡ true) where
  pub proper-parts : (counters_ok s ≡ true) × (root_ok s.reader ≡ true) × (context_ok s.by_standard s.reader.context s.open_tags ≡ true)
      × (schema_ok s.reader.schema ≡ true) × (events_ok s.reader s.events ≡ true)
  unfolding proper
  proper-parts =
      let before = counters_ok s && root_ok s.reader && context_ok s.by_standard s.reader.context s.open_tags && schema_ok s.reader.schema in
      let both = and_parts before (events_ok s.reader s.events) ok in
      let w = four (counters_ok s) (root_ok s.reader) (context_ok s.by_standard s.reader.context s.open_tags) (schema_ok s.reader.schema) both.0 in
      (w.0, w.1, w.2, w.3, both.1)

  pub proper-namespace : is_text s.reader.schema.target_namespace ≡ true
  unfolding schema_ok
  proper-namespace = and-true-left _ _ proper-parts.3

  pub sound-body : every sound_row (body_rows s) ≡ true
  unfolding body_rows schema_ok
  sound-body =
      let items = sound-items s.reader.schema.items (and-true-right (is_text s.reader.schema.target_namespace) _ proper-parts.3) in
      every_append sound_row (items_rows s.reader.schema.items) (context_rows s.reader.context)
      ∙ and-true items (sound-context s.by_standard s.reader.context s.open_tags proper-parts.2)

  pub counted-rows : every (texts_counted used_pairs) (rows_of s) ≡ true
  unfolding rows_of namespace_row row every texts_counted used_pairs between body_rows
  counted-rows = every-weaken sound_row (texts_counted used_pairs) sound-counted (body_rows s) sound-body

  pub text-rows : every text_row (rows_of s) ≡ true
  unfolding rows_of namespace_row row every text_row body_rows
  text-rows = and-true (and-true proper-namespace refl) (every-weaken sound_row text_row sound-text (body_rows s) sound-body)
