-- What an event does: 000 (parser.rs), `on_start`, `on_empty`, `on_end` and their sub-handlers, clause by clause.
--     Outcome       a value, or a refusal with its number
--     by_standard    the choice of order 3; false gives 000's clauses. It is handed down to `below_schema` and asked there alone
--     n             the event's number in the run, from 0; what gives a name keeps it (order 5: "the event that gave it its name")
--     9             `MissingAttribute`
--     10            `InvalidAttributeValue`
use Rattle.std.specs.Prelude.{ℕ, zero, suc, List, [], ◌∷◌, ◌++◌, Bool, true, false, ◌&&◌, eqb, if◌then◌else◌}
use Rattle.std.proofs.Math.Option.{Option, some, none}
use Rattle.text.specs.Text.{Text, is}
use Rattle.text.specs.Trim.{trimmed}
use Rattle.number.specs.Number.{Parsed, parsed, refused, number}
use Rattle.sheet.specs.Returned.{missing_attribute}
use Rattle.xsd_types.specs.Types.{Facet, MaxOccurs, SequenceElement, ChoiceVariant, Attribute, Item}
use Rattle.xsd_types.specs.State.{SimpleTypeBuilder, ComplexContentBuilder, ComplexTypeBuilder, Context, Reader, finish}
use Rattle.xsd_parser.specs.declared.words.Word.{Word}
use Rattle.xsd_parser.specs.declared.words.FacetWord.{FacetWord}
use Rattle.xsd_parser.specs.Words.{facet_word}
use Rattle.xsd_parser.specs.Event.{or_empty}
use Rattle.xsd_parser.specs.Seen.{Seen, tag_is}

pub data Outcome (A : Type 0) : Type 0 where
  ok : A → Outcome A
  refuse : ℕ → Outcome A

infixr 15 ◌and_then◌
unfoldable pub ◌and_then◌ : {A B : Type 0} → Outcome A → (A → Outcome B) → Outcome B
◌and_then◌ (ok x) f = f x
◌and_then◌ (refuse r) f = refuse r

unfoldable pub on_parsed : {A : Type 0} → Parsed → (ℕ → A) → Outcome A
on_parsed (parsed v) f = ok (f v)
on_parsed (refused r) f = refuse r

-- the reader in another context; with one more item; with the namespace set anew
unfoldable pub in_context : Context → Reader → Reader
in_context x r = record { schema = r.schema; root_seen = r.root_seen; context = x }

unfoldable pub with_item : Item → Reader → Reader
with_item i r =
    record {
      schema = record { target_namespace = r.schema.target_namespace; items = r.schema.items ++ i ∷ [] };
      root_seen = r.root_seen;
      context = r.context;
    }

-- "a start or empty `schema` sets root seen and the namespace anew (empty if absent)"
unfoldable pub found_root : Seen → Reader → Reader
found_root t r =
    record {
      schema = record { target_namespace = or_empty t.target_namespace; items = r.schema.items };
      root_seen = true;
      context = r.context;
    }

-- 000, `on_top_level_element`: "`element`, start or empty, is kept if it has name and type". The event is the n-th of the run, from 0
unfoldable pub kept_element : ℕ → Option Text → Option Text → Reader → Reader
kept_element n none type_name r = r
kept_element n (some name) none r = r
kept_element n (some name) (some type_name) r = with_item (Item.element (record { name = name; type_name = type_name; event = n })) r

unfoldable pub on_top_level_element : ℕ → Seen → Reader → Reader
on_top_level_element n t r = kept_element n t.name t.type_name r

-- 000, `require_attr`: 9 where it is absent
unfoldable pub require_name : {A : Type 0} → Seen → (Text → A) → Outcome A
require_name t f = elim t.name [ none ↦ refuse missing_attribute | some name ↦ ok (f name) ]

-- 000, `parse_min_occurs` and `parse_max_occurs`. XML Schema Part 1, 3.9.2: minOccurs and maxOccurs default to 1
unfoldable pub parse_min_occurs : Option Text → Parsed
parse_min_occurs none = parsed 1
parse_min_occurs (some v) = number 32 v

-- "a max of exactly `unbounded`"; order 2, "`unbounded` may have white space around it too"
unfoldable pub is_unbounded : Text → Bool
is_unbounded v = is (trimmed v) "unbounded"

unfoldable pub parse_max_occurs : Option Text → Outcome MaxOccurs
parse_max_occurs none = ok (MaxOccurs.bounded 1)
parse_max_occurs (some v) = if is_unbounded v then ok MaxOccurs.unbounded else on_parsed (number 32 v) MaxOccurs.bounded

-- a builder with another base or one more facet; with another content
unfoldable pub with_base : Text → SimpleTypeBuilder → SimpleTypeBuilder
with_base base t = record { head = t.head; base = base; facets = t.facets; nesting_depth = t.nesting_depth }

unfoldable pub with_facet : SimpleTypeBuilder → Facet → SimpleTypeBuilder
with_facet t f = record { head = t.head; base = t.base; facets = t.facets ++ f ∷ []; nesting_depth = t.nesting_depth }

unfoldable pub with_content : ComplexTypeBuilder → ComplexContentBuilder → ComplexTypeBuilder
with_content t content = record { head = t.head; content = content; nesting_depth = t.nesting_depth }

-- 000, `on_element_inside_complex`: "Occurs are read only in a sequence and only then, min before max, default 1"
unfoldable pub sequence_element : Seen → Option Text → Option Text → List SequenceElement → Outcome ComplexContentBuilder
sequence_element t none type_name es = ok (ComplexContentBuilder.sequence es)
sequence_element t (some name) none es = ok (ComplexContentBuilder.sequence es)
sequence_element t (some name) (some type_name) es =
    on_parsed (parse_min_occurs t.min_occurs) (λ min. min) and_then λ min.
    parse_max_occurs t.max_occurs and_then λ max.
    ok (ComplexContentBuilder.sequence (es ++ record { name = name; type_name = type_name; min_occurs = min; max_occurs = max } ∷ []))

unfoldable pub choice_variant : Option Text → Option Text → List ChoiceVariant → ComplexContentBuilder
choice_variant none type_name vs = ComplexContentBuilder.choice vs
choice_variant (some name) none vs = ComplexContentBuilder.choice vs
choice_variant (some name) (some type_name) vs = ComplexContentBuilder.choice (vs ++ record { name = name; type_name = type_name } ∷ [])

unfoldable pub on_element_inside_complex : Seen → ComplexContentBuilder → Outcome ComplexContentBuilder
on_element_inside_complex t ComplexContentBuilder.empty = ok ComplexContentBuilder.empty
on_element_inside_complex t (ComplexContentBuilder.sequence es) = sequence_element t t.name t.type_name es
on_element_inside_complex t (ComplexContentBuilder.choice vs) = ok (choice_variant t.name t.type_name vs)
on_element_inside_complex t (ComplexContentBuilder.simple_content base xs flag) = ok (ComplexContentBuilder.simple_content base xs flag)
on_element_inside_complex t (ComplexContentBuilder.any n) = ok (ComplexContentBuilder.any n)

-- 000, `on_attribute_inside_complex`: "Empty `attribute` with name and type counts once the flag is set ..; required means `use` is exactly `required`."
unfoldable pub is_required : Option Text → Bool
is_required none = false
is_required (some v) = is v "required"

unfoldable pub attribute_added : Seen → Option Text → Option Text → List Attribute → List Attribute
attribute_added t none type_name xs = xs
attribute_added t (some name) none xs = xs
attribute_added t (some name) (some type_name) xs =
    xs ++ record { name = name; type_name = type_name; required = is_required t.usage } ∷ []

unfoldable pub on_attribute_inside_complex : Seen → ComplexContentBuilder → ComplexContentBuilder
on_attribute_inside_complex t ComplexContentBuilder.empty = ComplexContentBuilder.empty
on_attribute_inside_complex t (ComplexContentBuilder.sequence es) = ComplexContentBuilder.sequence es
on_attribute_inside_complex t (ComplexContentBuilder.choice vs) = ComplexContentBuilder.choice vs
on_attribute_inside_complex t (ComplexContentBuilder.simple_content base xs false) = ComplexContentBuilder.simple_content base xs false
on_attribute_inside_complex t (ComplexContentBuilder.simple_content base xs true) =
    ComplexContentBuilder.simple_content base (attribute_added t t.name t.type_name xs) true
on_attribute_inside_complex t (ComplexContentBuilder.any n) = ComplexContentBuilder.any n

-- "start `extension` at 2 inside simple content sets base and flag": the content as it stands decides
unfoldable pub on_extension : Seen → ComplexContentBuilder → ComplexContentBuilder
on_extension t ComplexContentBuilder.empty = ComplexContentBuilder.empty
on_extension t (ComplexContentBuilder.sequence es) = ComplexContentBuilder.sequence es
on_extension t (ComplexContentBuilder.choice vs) = ComplexContentBuilder.choice vs
on_extension t (ComplexContentBuilder.simple_content base xs flag) = ComplexContentBuilder.simple_content (or_empty t.base) xs true
on_extension t (ComplexContentBuilder.any n) = ComplexContentBuilder.any n

-- ---- on_start

-- 000: `Some(Context::Schema)`. "start `simpleType` or `complexType` needs a name and opens a type"
unfoldable pub open_simple_type : ℕ → Text → Context
open_simple_type n name = Context.in_simple_type (record { head = record { name = name; event = n }; base = []; facets = []; nesting_depth = 0 })

unfoldable pub open_complex_type : ℕ → Text → Context
open_complex_type n name = Context.in_complex_type (record { head = record { name = name; event = n }; content = ComplexContentBuilder.empty; nesting_depth = 0 })

-- order 3: "In 1, nesting in context 1 counts the open tags below the schema"
unfoldable pub below_schema : Bool → ℕ → Reader → Reader
below_schema false depth r = r
below_schema true depth r = in_context (Context.in_schema (suc depth)) r

unfoldable pub on_direct_child : Bool → ℕ → Seen → Reader → Outcome Reader
on_direct_child by_standard n t r =
    if tag_is t Word.SimpleType then require_name t (λ name. in_context (open_simple_type n name) r) else
    if tag_is t Word.ComplexType then require_name t (λ name. in_context (open_complex_type n name) r) else
    if tag_is t Word.Element then ok (below_schema by_standard 0 (on_top_level_element n t r)) else ok (below_schema by_standard 0 r)

-- order 3: "only its direct children become elements or types, and a nameless type under an element is passed over without 9"
unfoldable pub on_start_in_schema : Bool → ℕ → Seen → ℕ → Reader → Outcome Reader
on_start_in_schema by_standard n t depth r = if eqb depth 0 then on_direct_child by_standard n t r else ok (below_schema by_standard depth r)

-- "Simple type: each start raises nesting; `restriction` at nesting 1 .. sets the base"
unfoldable pub raised_simple : SimpleTypeBuilder → SimpleTypeBuilder
raised_simple t = record { head = t.head; base = t.base; facets = t.facets; nesting_depth = suc t.nesting_depth }

unfoldable pub on_start_in_simple_type : Seen → SimpleTypeBuilder → SimpleTypeBuilder
on_start_in_simple_type t b =
    if eqb b.nesting_depth 1 && tag_is t Word.Restriction then with_base (or_empty t.base) b else b

-- "Complex type: each start raises nesting; start `sequence`, `choice`, `simpleContent` at 1 replaces the content, flag 0"
unfoldable pub raised_complex : ComplexTypeBuilder → ComplexTypeBuilder
raised_complex t = record { head = t.head; content = t.content; nesting_depth = suc t.nesting_depth }

unfoldable pub content_started : Seen → ComplexContentBuilder → ComplexContentBuilder
content_started t content =
    if tag_is t Word.Sequence then ComplexContentBuilder.sequence [] else
    if tag_is t Word.Choice then ComplexContentBuilder.choice [] else
    if tag_is t Word.SimpleContent then ComplexContentBuilder.simple_content [] [] false else content

unfoldable pub content_at_two : Seen → ComplexContentBuilder → Outcome ComplexContentBuilder
content_at_two t content =
    if tag_is t Word.Extension then ok (on_extension t content) else
    if tag_is t Word.Element then on_element_inside_complex t content else ok content

-- 000: match (b.nesting_depth, local), after the raise
unfoldable pub on_start_in_complex_type : Seen → ComplexTypeBuilder → Outcome ComplexContentBuilder
on_start_in_complex_type t b =
    if eqb b.nesting_depth 1 then ok (content_started t b.content) else
    if eqb b.nesting_depth 2 then content_at_two t b.content else ok b.content

unfoldable pub on_start : Bool → ℕ → Seen → Reader → Context → Outcome Reader
on_start by_standard n t r Context.no_context = ok (if tag_is t Word.Schema then in_context (Context.in_schema 0) (found_root t r) else r)
on_start by_standard n t r (Context.in_schema depth) = on_start_in_schema by_standard n t depth r
on_start by_standard n t r (Context.in_simple_type b) = ok (in_context (Context.in_simple_type (on_start_in_simple_type t (raised_simple b))) r)
on_start by_standard n t r (Context.in_complex_type b) =
    on_start_in_complex_type t (raised_complex b) and_then λ content.
    ok (in_context (Context.in_complex_type (with_content (raised_complex b) content)) r)

-- ---- on_empty

-- 000: "Empty facets count at any depth"; "an absent base or facet value is empty text"
unfoldable pub facet_value : Seen → Text
facet_value t = or_empty t.value

unfoldable pub facet_by_word : FacetWord → Text → Outcome Facet
facet_by_word FacetWord.Enumeration v = ok (Facet.enumeration v)
facet_by_word FacetWord.Pattern v = ok (Facet.pattern v)
facet_by_word FacetWord.MinLength v = on_parsed (number 64 v) Facet.min_length
facet_by_word FacetWord.MaxLength v = on_parsed (number 64 v) Facet.max_length
facet_by_word FacetWord.MinInclusive v = ok (Facet.min_inclusive v)
facet_by_word FacetWord.MaxInclusive v = ok (Facet.max_inclusive v)
facet_by_word FacetWord.TotalDigits v = on_parsed (number 32 v) Facet.total_digits
facet_by_word FacetWord.FractionDigits v = on_parsed (number 32 v) Facet.fraction_digits

unfoldable pub on_facet : {A : Type 0} → Option FacetWord → Text → (Facet → A) → A → Outcome A
on_facet none v f other = ok other
on_facet (some w) v f other = facet_by_word w v and_then λ x. ok (f x)

unfoldable pub on_empty_in_simple_type : Seen → SimpleTypeBuilder → Outcome SimpleTypeBuilder
on_empty_in_simple_type t b =
    if tag_is t Word.Restriction then ok (with_base (or_empty t.base) b) else on_facet (facet_word t.word) (facet_value t) (with_facet b) b

-- "Empty `any` replaces the content, flag 0."
unfoldable pub on_empty_in_complex_type : Seen → ComplexContentBuilder → Outcome ComplexContentBuilder
on_empty_in_complex_type t content =
    if tag_is t Word.Element then on_element_inside_complex t content else
    if tag_is t Word.Any then ok (ComplexContentBuilder.any t.namespace) else
    if tag_is t Word.Attribute then ok (on_attribute_inside_complex t content) else ok content

unfoldable pub on_empty : ℕ → Seen → Reader → Context → Outcome Reader
on_empty n t r Context.no_context = ok (if tag_is t Word.Schema then found_root t r else r)
on_empty n t r (Context.in_schema depth) = ok (if eqb depth 0 && tag_is t Word.Element then on_top_level_element n t r else r)
on_empty n t r (Context.in_simple_type b) =
    on_empty_in_simple_type t b and_then λ next. ok (in_context (Context.in_simple_type next) r)
on_empty n t r (Context.in_complex_type b) =
    on_empty_in_complex_type t b.content and_then λ content. ok (in_context (Context.in_complex_type (with_content b content)) r)

-- ---- on_end

-- "A close lowers nesting, or at 0 finishes the type, flag 0, and returns to context 1."
unfoldable pub close_simple_type : SimpleTypeBuilder → ℕ → Reader → Reader
close_simple_type b zero r =
    in_context (Context.in_schema 0) (with_item (Item.simple_type (record { name = b.head.name; base = b.base; facets = b.facets; event = b.head.event })) r)
close_simple_type b (suc n) r =
    in_context (Context.in_simple_type (record { head = b.head; base = b.base; facets = b.facets; nesting_depth = n })) r

unfoldable pub close_complex_type : ComplexTypeBuilder → ℕ → Reader → Reader
close_complex_type b zero r =
    in_context (Context.in_schema 0) (with_item (Item.complex_type (record { name = b.head.name; content = finish b.content; event = b.head.event })) r)
close_complex_type b (suc n) r =
    in_context (Context.in_complex_type (record { head = b.head; content = b.content; nesting_depth = n })) r

-- "Any close leads to context 0." 000: `Some(Context::Schema)` pops the context. Order 3: "a close at 0 ends it"; with choice 0 nesting is 0 there
unfoldable pub close_in_schema : ℕ → Reader → Reader
close_in_schema zero r = in_context Context.no_context r
close_in_schema (suc n) r = in_context (Context.in_schema n) r

unfoldable pub on_end : Reader → Context → Reader
on_end r Context.no_context = r
on_end r (Context.in_schema n) = close_in_schema n r
on_end r (Context.in_simple_type b) = close_simple_type b b.nesting_depth r
on_end r (Context.in_complex_type b) = close_complex_type b b.nesting_depth r
