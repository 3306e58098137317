-- What an event does to the content of the open complex type is what was decided, by the cases of the content. Assumes nothing.
use mathlib.Core.Path.{refl}
use mathlib.Core.Bool.{true, false}
use mathlib.Core.List.{List, [], ◌∷◌}
use mathlib.Core.Option.{Option, some, none}
use Prim.Native.Nat.{ℕ}
use lib.Dec.{eqb}
use Rattle.text.specs.Text.{Text}
use Rattle.sheet.specs.Rows.{bit}
use Rattle.xsd_types.specs.Types.{SequenceElement, ChoiceVariant, Attribute}
use Rattle.xsd_types.specs.State.{ComplexContentBuilder, ComplexTypeBuilder}
use Rattle.xsd_types.specs.Rows.{element_row, variant_row, attribute_row, complex_type_rows, content_flag}
use Rattle.xsd_parser.specs.declared.words.Word.{Word}
use Rattle.xsd_parser.specs.Event.{or_empty}
use Rattle.xsd_parser.specs.Seen.{Seen, tag_is}
use Rattle.xsd_parser.specs.Handlers.{on_parsed, parse_min_occurs, parse_max_occurs, sequence_element, choice_variant, on_element_inside_complex, is_required, attribute_added}
use Rattle.xsd_parser.specs.Handlers.{on_attribute_inside_complex, on_extension, content_started, content_at_two, on_start_in_complex_type, on_empty_in_complex_type}
use Rattle.xsd_actions.specs.Actions.{content_tag}
use Rattle.xsd_actions.specs.Decided.{typed, named_child, base_set, occurs_added, element_inside, attribute_inside, content_start, extended}
use Rattle.xsd_actions.specs.Decided.{start_at_two, start_in_complex_type, any_content, empty_in_complex_type}
use Rattle.xsd_actions.proofs.Laws.Agree.{Agree, values, if-both, agree-if, agree-step}
use Rattle.xsd_actions.proofs.Laws.Contents.{Content, content-keep, content-replaced, content-based, element-more, variant-more, attribute-more}

module _ (event : ℕ) (name : Text) (d d' : ℕ) where
  -- an element inside
  pub occurs-agrees : (t : Seen) (n ty : Option Text) (es : List SequenceElement)
      → Agree (Content event name d d' (ComplexContentBuilder.sequence es)) (sequence_element t n ty es) (occurs_added t n ty)
  unfolding sequence_element occurs_added element_row
  occurs-agrees t none ty es = values (content-keep _)
  occurs-agrees t (some n) none es = values (content-keep _)
  occurs-agrees t (some n) (some ty) es =
      agree-step (on_parsed (parse_min_occurs t.min_occurs) (λ min. min)) _ _ λ min.
      agree-step (parse_max_occurs t.max_occurs) _ _ λ max.
      values (element-more es (record { name = n; type_name = ty; min_occurs = min; max_occurs = max }))

  pub variant-agrees : (n ty : Option Text) (vs : List ChoiceVariant)
      → Content event name d d' (ComplexContentBuilder.choice vs) (choice_variant n ty vs) (typed n ty (λ name type_name. variant_row (record { name = name; type_name = type_name })))
  unfolding choice_variant typed
  variant-agrees none ty vs = content-keep _
  variant-agrees (some n) none vs = content-keep _
  variant-agrees (some n) (some ty) vs = variant-more vs (record { name = n; type_name = ty })

  pub element_inside-agrees : (t : Seen) (c : ComplexContentBuilder) → Agree (Content event name d d' c) (on_element_inside_complex t c) (element_inside t (content_tag c))
  unfolding on_element_inside_complex element_inside content_tag named_child
  element_inside-agrees t ComplexContentBuilder.empty = values (content-keep _)
  element_inside-agrees t (ComplexContentBuilder.sequence es) = occurs-agrees t t.name t.type_name es
  element_inside-agrees t (ComplexContentBuilder.choice vs) = values (variant-agrees t.name t.type_name vs)
  element_inside-agrees t (ComplexContentBuilder.simple_content base xs flag) = values (content-keep _)
  element_inside-agrees t (ComplexContentBuilder.any n) = values (content-keep _)

  -- an attribute inside
  pub attribute-agrees : (t : Seen) (n ty : Option Text) (base : Text) (xs : List Attribute)
      → Content event name d d' (ComplexContentBuilder.simple_content base xs true) (ComplexContentBuilder.simple_content base (attribute_added t n ty xs) true)
      (typed n ty (λ name type_name. attribute_row (record { name = name; type_name = type_name; required = is_required t.usage })))
  unfolding attribute_added typed
  attribute-agrees t none ty base xs = content-keep _
  attribute-agrees t (some n) none base xs = content-keep _
  attribute-agrees t (some n) (some ty) base xs =
      attribute-more base xs (record { name = n; type_name = ty; required = is_required t.usage })

  pub attribute_inside-agrees : (t : Seen) (c : ComplexContentBuilder) → Content event name d d' c (on_attribute_inside_complex t c) (attribute_inside t (eqb (content_flag c) 1))
  unfolding on_attribute_inside_complex attribute_inside content_flag bit named_child
  attribute_inside-agrees t ComplexContentBuilder.empty = content-keep _
  attribute_inside-agrees t (ComplexContentBuilder.sequence es) = content-keep _
  attribute_inside-agrees t (ComplexContentBuilder.choice vs) = content-keep _
  attribute_inside-agrees t (ComplexContentBuilder.simple_content base xs false) = content-keep _
  attribute_inside-agrees t (ComplexContentBuilder.simple_content base xs true) = attribute-agrees t t.name t.type_name base xs
  attribute_inside-agrees t (ComplexContentBuilder.any n) = content-keep _

  pub extension-agrees : (t : Seen) (c : ComplexContentBuilder) → Content event name d d' c (on_extension t c) (extended t (content_tag c))
  unfolding on_extension extended content_tag base_set
  extension-agrees t ComplexContentBuilder.empty = content-keep _
  extension-agrees t (ComplexContentBuilder.sequence es) = content-keep _
  extension-agrees t (ComplexContentBuilder.choice vs) = content-keep _
  extension-agrees t (ComplexContentBuilder.simple_content base xs flag) = content-based base (or_empty t.base) xs flag
  extension-agrees t (ComplexContentBuilder.any n) = content-keep _

  -- the content replaced
  pub content_start-agrees : (t : Seen) (c : ComplexContentBuilder) → Content event name d d' c (content_started t c) (content_start t)
  unfolding content_started content_start content_flag bit complex_type_rows
  content_start-agrees t c =
      if-both (Content event name d d' c) (tag_is t Word.Sequence) (content-replaced c _ 12 [] 0 refl refl)
      (if-both (Content event name d d' c) (tag_is t Word.Choice) (content-replaced c _ 13 [] 0 refl refl)
      (if-both (Content event name d d' c) (tag_is t Word.SimpleContent) (content-replaced c _ 14 ([] ∷ []) 0 refl refl) (content-keep c)))

  pub any-agrees : (c : ComplexContentBuilder) (n : Option Text) → Content event name d d' c (ComplexContentBuilder.any n) (any_content n)
  unfolding any_content content_flag complex_type_rows
  any-agrees c none = content-replaced c (ComplexContentBuilder.any none) 15 [] 0 refl refl
  any-agrees c (some n) = content-replaced c (ComplexContentBuilder.any (some n)) 15 (n ∷ []) 1 refl refl

  -- a start, and an empty tag, in a complex type
  pub start_at_two-agrees : (t : Seen) (c : ComplexContentBuilder) → Agree (Content event name d d' c) (content_at_two t c) (start_at_two t (content_tag c))
  unfolding content_at_two start_at_two
  start_at_two-agrees t c =
      agree-if (tag_is t Word.Extension) (values (extension-agrees t c)) (agree-if (tag_is t Word.Element) (element_inside-agrees t c) (values (content-keep c)))

  pub start_in_complex-agrees : (t : Seen) (b : ComplexTypeBuilder)
      → Agree (Content event name d d' b.content) (on_start_in_complex_type t b) (start_in_complex_type t b.nesting_depth (content_tag b.content))
  unfolding on_start_in_complex_type start_in_complex_type
  start_in_complex-agrees t b =
      let c = b.content in
      agree-if (eqb b.nesting_depth 1) (values (content_start-agrees t c))
      (agree-if (eqb b.nesting_depth 2) (start_at_two-agrees t c) (values (content-keep c)))

  pub empty_in_complex-agrees : (t : Seen) (c : ComplexContentBuilder)
      → Agree (Content event name d d' c) (on_empty_in_complex_type t c) (empty_in_complex_type t (eqb (content_flag c) 1) (content_tag c))
  unfolding on_empty_in_complex_type empty_in_complex_type
  empty_in_complex-agrees t c =
      agree-if (tag_is t Word.Element) (element_inside-agrees t c)
      (agree-if (tag_is t Word.Any) (values (any-agrees c t.namespace))
      (agree-if (tag_is t Word.Attribute) (values (attribute_inside-agrees t c)) (values (content-keep c))))
