-- The handlers keep facets and contents as a good sheet asks for them: texts below 128, numbers within their widths. Assumes nothing.
use mathlib.Core.Path.{◌≡◌, refl}
use mathlib.Core.Bool.{true, false}
use mathlib.Core.List.{List}
use mathlib.Core.Option.{Option, some, none}
use Prim.Native.Nat.{ℕ, ◌^◌}
use lib.Dec.{eqb, ltb}
use borrow.Author.Tests.{lt-ltb}
use Rattle.text.specs.Text.{Text, every, is_text}
use Rattle.number.specs.Number.{parsed, number}
use Rattle.xsd_types.specs.Types.{MaxOccurs, SequenceElement, ChoiceVariant, Attribute}
use Rattle.xsd_types.specs.State.{ComplexContentBuilder, ComplexTypeBuilder, max_occurs_ok, sequence_element_ok, choice_variant_ok, attribute_ok, namespace_ok, content_ok}
use Rattle.xsd_parser.specs.declared.words.Word.{Word}
use Rattle.xsd_parser.specs.Seen.{Seen, tag_is}
use Rattle.xsd_parser.specs.Handlers.{on_parsed, parse_min_occurs, parse_max_occurs, is_unbounded, sequence_element, choice_variant, on_element_inside_complex}
use Rattle.xsd_parser.specs.Handlers.{attribute_added, on_attribute_inside_complex, on_extension, content_started, content_at_two, on_start_in_complex_type}
use Rattle.xsd_parser.specs.Handlers.{on_empty_in_complex_type}
use Rattle.number.proofs.Laws.Numbers.{number_bound}
use Rattle.xsd_parser.proofs.Laws.SeenTexts.{SeenText, or-empty-text}
use Rattle.xsd_parser.proofs.Laws.Outcomes.{Gives, value, Any, Kept, gives-if, gives-and_then, gives-parsed}
use Rattle.std.proofs.lemmas.Bool.{and_parts}
use Rattle.text.proofs.Laws.Tests.{and-true, if-keeps}
use Rattle.text.proofs.Laws.Class.{empty-text}
use Rattle.text.proofs.Laws.Every.{every-one-more}

-- a number read is within its width
pub number_fits : (w : ℕ) (s : Text) (v : ℕ) → number w s ≡ parsed v → ltb v (2 ^ w) ≡ true
number_fits w s v e = lt-ltb v (2 ^ w) (number_bound w s v e)

pub min-fits : (o : Option Text) → Gives (λ v. ltb v (2 ^ 32) ≡ true) Any (on_parsed (parse_min_occurs o) (λ min. min))
unfolding parse_min_occurs on_parsed
min-fits none = value refl
min-fits (some v) = gives-parsed (number 32 v) (λ min. min) (λ n e. number_fits 32 v n e) (λ r e. tt)

pub max-fits : (o : Option Text) → Kept max_occurs_ok (parse_max_occurs o)
unfolding parse_max_occurs max_occurs_ok
max-fits none = value refl
max-fits (some v) = gives-if (is_unbounded v) (value refl) (gives-parsed (number 32 v) MaxOccurs.bounded (λ n e. number_fits 32 v n e) (λ r e. tt))

pub sequence_element-kept : (t : Seen) (name type_name : Option Text) (es : List SequenceElement) → namespace_ok name ≡ true → namespace_ok type_name ≡ true
    → every sequence_element_ok es ≡ true → Kept content_ok (sequence_element t name type_name es)
unfolding sequence_element content_ok namespace_ok sequence_element_ok
sequence_element-kept t none type_name es n m h = value h
sequence_element-kept t (some name) none es n m h = value h
sequence_element-kept t (some name) (some type_name) es n m h =
    gives-and_then (min-fits t.min_occurs) λ min p.
    gives-and_then (max-fits t.max_occurs) λ max q.
    value (every-one-more sequence_element_ok es _ h (and-true (and-true (and-true n m) p) q))

pub choice_variant-kept : (name type_name : Option Text) (vs : List ChoiceVariant) → namespace_ok name ≡ true → namespace_ok type_name ≡ true
    → every choice_variant_ok vs ≡ true → content_ok (choice_variant name type_name vs) ≡ true
unfolding choice_variant content_ok namespace_ok choice_variant_ok
choice_variant-kept none type_name vs n m h = h
choice_variant-kept (some name) none vs n m h = h
choice_variant-kept (some name) (some type_name) vs n m h = every-one-more choice_variant_ok vs _ h (and-true n m)

pub element_inside-kept : (t : Seen) (c : ComplexContentBuilder) → SeenText t → content_ok c ≡ true → Kept content_ok (on_element_inside_complex t c)
unfolding on_element_inside_complex content_ok
element_inside-kept t ComplexContentBuilder.empty e h = value refl
element_inside-kept t (ComplexContentBuilder.sequence es) e h =
    sequence_element-kept t t.name t.type_name es e.name e.type_name h
element_inside-kept t (ComplexContentBuilder.choice vs) e h =
    value (choice_variant-kept t.name t.type_name vs e.name e.type_name h)
element_inside-kept t (ComplexContentBuilder.simple_content base xs flag) e h = value h
element_inside-kept t (ComplexContentBuilder.any n) e h = value h

pub attribute_added-kept : (t : Seen) (name type_name : Option Text) (xs : List Attribute) → namespace_ok name ≡ true → namespace_ok type_name ≡ true
    → every attribute_ok xs ≡ true → every attribute_ok (attribute_added t name type_name xs) ≡ true
unfolding attribute_added namespace_ok attribute_ok
attribute_added-kept t none type_name xs n m h = h
attribute_added-kept t (some name) none xs n m h = h
attribute_added-kept t (some name) (some type_name) xs n m h = every-one-more attribute_ok xs _ h (and-true n m)

pub attributes-kept : (t : Seen) (xs : List Attribute) → SeenText t → every attribute_ok xs ≡ true
    → every attribute_ok (attribute_added t t.name t.type_name xs) ≡ true
attributes-kept t xs e h = attribute_added-kept t t.name t.type_name xs e.name e.type_name h

pub attribute_inside-kept : (t : Seen) (c : ComplexContentBuilder) → SeenText t → content_ok c ≡ true → content_ok (on_attribute_inside_complex t c) ≡ true
unfolding on_attribute_inside_complex content_ok
attribute_inside-kept t ComplexContentBuilder.empty e h = refl
attribute_inside-kept t (ComplexContentBuilder.sequence es) e h = h
attribute_inside-kept t (ComplexContentBuilder.choice vs) e h = h
attribute_inside-kept t (ComplexContentBuilder.simple_content base xs false) e h = h
attribute_inside-kept t (ComplexContentBuilder.simple_content base xs true) e h =
    let p = and_parts (is_text base) (every attribute_ok xs) h in and-true p.0 (attributes-kept t xs e p.1)
attribute_inside-kept t (ComplexContentBuilder.any n) e h = h

pub extension-kept : (t : Seen) (c : ComplexContentBuilder) → SeenText t → content_ok c ≡ true → content_ok (on_extension t c) ≡ true
unfolding on_extension content_ok
extension-kept t ComplexContentBuilder.empty e h = refl
extension-kept t (ComplexContentBuilder.sequence es) e h = h
extension-kept t (ComplexContentBuilder.choice vs) e h = h
extension-kept t (ComplexContentBuilder.simple_content base xs flag) e h =
    and-true (or-empty-text t.base e.base) (and_parts (is_text base) (every attribute_ok xs) h).1
extension-kept t (ComplexContentBuilder.any n) e h = h

pub content_started-kept : (t : Seen) (c : ComplexContentBuilder) → content_ok c ≡ true → content_ok (content_started t c) ≡ true
unfolding content_started content_ok every
content_started-kept t c h =
    if-keeps content_ok (tag_is t Word.Sequence) (λ a. refl) λ a.
    if-keeps content_ok (tag_is t Word.Choice) (λ b. refl) λ b.
    if-keeps content_ok (tag_is t Word.SimpleContent) (λ d. rw empty-text) λ d. h

pub content_at_two-kept : (t : Seen) (c : ComplexContentBuilder) → SeenText t → content_ok c ≡ true → Kept content_ok (content_at_two t c)
unfolding content_at_two
content_at_two-kept t c e h =
    gives-if (tag_is t Word.Extension) (value (extension-kept t c e h))
    (gives-if (tag_is t Word.Element) (element_inside-kept t c e h) (value h))

-- a start, and an empty tag, in a complex type
pub start_in_complex-kept : (t : Seen) (b : ComplexTypeBuilder) → SeenText t → content_ok b.content ≡ true → Kept content_ok (on_start_in_complex_type t b)
unfolding on_start_in_complex_type
start_in_complex-kept t b e h =
    gives-if (eqb b.nesting_depth 1) (value (content_started-kept t b.content h))
    (gives-if (eqb b.nesting_depth 2) (content_at_two-kept t b.content e h) (value h))

pub empty_in_complex-kept : (t : Seen) (c : ComplexContentBuilder) → SeenText t → content_ok c ≡ true → Kept content_ok (on_empty_in_complex_type t c)
unfolding on_empty_in_complex_type content_ok
empty_in_complex-kept t c e h =
    gives-if (tag_is t Word.Element) (element_inside-kept t c e h)
    (gives-if (tag_is t Word.Any) (value e.namespace)
    (gives-if (tag_is t Word.Attribute) (value (attribute_inside-kept t c e h)) (value h)))
