-- The reader's state: 000 (parser.rs), "Internal state machine types", and the counters of paper 01's row 0.
--     HeadNumber     a head's name and its event's number, as event of 002's types
--     SimpleTypeBuilder, ComplexContentBuilder, ComplexTypeBuilder, Context    as in 000, the name with its number; no_context is 000's empty stack
--     Reader        what 000's handlers change: the schema, found_schema_root and the context
--     State         the reader with the events done, the open tags and the choice of order 3
--     first_state    the state of a cleared sheet, by its choice
--     heads_pass     every head passes a test of its name and its event's number; events_ok: order 5's sentence on c
--     proper        what "A sheet is good if" asks of a state, sentence by sentence
use Rattle.std.specs.Prelude.{ℕ, ◌+◌, ◌^◌, List, [], ◌∷◌, Bool, true, false, ◌&&◌, ◌||◌, eqb, leb, ltb}
use Rattle.std.proofs.Math.Option.{Option, some, none}
use Rattle.text.specs.Text.{Text, every, is_text}
use Rattle.xsd_types.specs.Types.{Element, Facet, MaxOccurs, SequenceElement, ChoiceVariant, Attribute, ComplexContent, Item, Schema}

pub record HeadNumber : Type 0 where
  pub name : Text
  pub event : ℕ

pub record SimpleTypeBuilder : Type 0 where
  pub head : HeadNumber
  pub base : Text
  pub facets : List Facet
  pub nesting_depth : ℕ

pub data ComplexContentBuilder : Type 0 where
  empty : ComplexContentBuilder
  sequence : List SequenceElement → ComplexContentBuilder
  choice : List ChoiceVariant → ComplexContentBuilder
  simple_content : Text → List Attribute → Bool → ComplexContentBuilder
  any : Option Text → ComplexContentBuilder

pub record ComplexTypeBuilder : Type 0 where
  pub head : HeadNumber
  pub content : ComplexContentBuilder
  pub nesting_depth : ℕ

pub data Context : Type 0 where
  no_context : Context
  in_schema : ℕ → Context
  in_simple_type : SimpleTypeBuilder → Context
  in_complex_type : ComplexTypeBuilder → Context

pub record Reader : Type 0 where
  pub schema : Schema
  pub root_seen : Bool
  pub context : Context

-- order 3: "Clearing gets a choice ..: 0 as before, 1 by the standard"
pub record State : Type 0 where
  pub reader : Reader
  pub events : ℕ
  pub open_tags : ℕ
  pub by_standard : Bool

unfoldable pub first_state : Bool → State
first_state by_standard =
    record {
      reader = record { schema = record { target_namespace = []; items = [] }; root_seen = false; context = no_context };
      events = 0;
      open_tags = 0;
      by_standard = by_standard;
    }

-- "all names are bytes below 128", and each number within its width in 002
unfoldable pub element_ok : Element → Bool
element_ok e = is_text e.name && is_text e.type_name

unfoldable pub facet_ok : Facet → Bool
facet_ok (Facet.enumeration v) = is_text v
facet_ok (Facet.pattern v) = is_text v
facet_ok (Facet.min_length n) = ltb n (2 ^ 64)
facet_ok (Facet.max_length n) = ltb n (2 ^ 64)
facet_ok (Facet.min_inclusive v) = is_text v
facet_ok (Facet.max_inclusive v) = is_text v
facet_ok (Facet.total_digits n) = ltb n (2 ^ 32)
facet_ok (Facet.fraction_digits n) = ltb n (2 ^ 32)

unfoldable pub max_occurs_ok : MaxOccurs → Bool
max_occurs_ok (MaxOccurs.bounded n) = ltb n (2 ^ 32)
max_occurs_ok MaxOccurs.unbounded = true

unfoldable pub sequence_element_ok : SequenceElement → Bool
sequence_element_ok e = is_text e.name && is_text e.type_name && ltb e.min_occurs (2 ^ 32) && max_occurs_ok e.max_occurs

unfoldable pub choice_variant_ok : ChoiceVariant → Bool
choice_variant_ok v = is_text v.name && is_text v.type_name

unfoldable pub attribute_ok : Attribute → Bool
attribute_ok x = is_text x.name && is_text x.type_name

unfoldable pub namespace_ok : Option Text → Bool
namespace_ok none = true
namespace_ok (some n) = is_text n

unfoldable pub content_ok : ComplexContentBuilder → Bool
content_ok ComplexContentBuilder.empty = true
content_ok (ComplexContentBuilder.sequence es) = every sequence_element_ok es
content_ok (ComplexContentBuilder.choice vs) = every choice_variant_ok vs
content_ok (ComplexContentBuilder.simple_content base xs flag) = is_text base && every attribute_ok xs
content_ok (ComplexContentBuilder.any n) = namespace_ok n

-- a finished content as the builder's
unfoldable pub started : ComplexContent → ComplexContentBuilder
started (ComplexContent.sequence es) = ComplexContentBuilder.sequence es
started (ComplexContent.choice vs) = ComplexContentBuilder.choice vs
started (ComplexContent.simple_content base xs) = ComplexContentBuilder.simple_content base xs false
started (ComplexContent.any n) = ComplexContentBuilder.any n

-- 000, `finish_complex_content`: "Content still absent at the close becomes 15 with a = 0."
unfoldable pub finish : ComplexContentBuilder → ComplexContent
finish ComplexContentBuilder.empty = ComplexContent.any none
finish (ComplexContentBuilder.sequence es) = ComplexContent.sequence es
finish (ComplexContentBuilder.choice vs) = ComplexContent.choice vs
finish (ComplexContentBuilder.simple_content base xs flag) = ComplexContent.simple_content base xs
finish (ComplexContentBuilder.any n) = ComplexContent.any n

unfoldable pub item_ok : Item → Bool
item_ok (Item.element e) = element_ok e
item_ok (Item.simple_type t) = is_text t.name && is_text t.base && every facet_ok t.facets
item_ok (Item.complex_type t) = is_text t.name && content_ok (started t.content)

unfoldable pub schema_ok : Schema → Bool
schema_ok s = is_text s.target_namespace && every item_ok s.items

-- order 3: "With choice 1, a good sheet in context 1 has open tags of at least nesting + 1, and any nesting; with 0, nesting there stays 0."
unfoldable pub schema_nesting_ok : Bool → ℕ → Bool
schema_nesting_ok by_standard n = by_standard || eqb n 0

-- "context 1 has an open tag; contexts 2 and 3 have at least nesting + 2"
unfoldable pub context_ok : Bool → Context → ℕ → Bool
context_ok by_standard Context.no_context open_tags = true
context_ok by_standard (Context.in_schema n) open_tags = schema_nesting_ok by_standard n && leb (n + 1) open_tags
context_ok by_standard (Context.in_simple_type t) open_tags =
    leb (t.nesting_depth + 2) open_tags && is_text t.head.name && is_text t.base && every facet_ok t.facets
context_ok by_standard (Context.in_complex_type t) open_tags =
    leb (t.nesting_depth + 2) open_tags && is_text t.head.name && content_ok t.content

-- "context above 0 has root seen; no root seen means two rows and no names"
unfoldable pub is_no_context : Context → Bool
is_no_context Context.no_context = true
is_no_context (Context.in_schema n) = false
is_no_context (Context.in_simple_type t) = false
is_no_context (Context.in_complex_type t) = false

unfoldable pub is_empty : {A : Type 0} → List A → Bool
is_empty [] = true
is_empty (x ∷ xs) = false

unfoldable pub root_ok : Reader → Bool
root_ok r = r.root_seen || (is_no_context r.context && is_empty r.schema.items && is_empty r.schema.target_namespace)

-- "events are at most 1,000,000, open tags at most 255"
unfoldable pub counters_ok : State → Bool
counters_ok s = leb s.events 1000000 && leb s.open_tags 255

-- order 5: "Zero means unknown ..; in a good sheet any other c is below events done"
unfoldable pub event_number_ok : ℕ → ℕ → Bool
event_number_ok events n = eqb n 0 || ltb n events

-- every head, the open type's too, passes a test of its name and its event's number
unfoldable pub item_passes : (Text → ℕ → Bool) → Item → Bool
item_passes p (Item.element e) = p e.name e.event
item_passes p (Item.simple_type t) = p t.name t.event
item_passes p (Item.complex_type t) = p t.name t.event

unfoldable pub open_passes : (Text → ℕ → Bool) → Context → Bool
open_passes p Context.no_context = true
open_passes p (Context.in_schema n) = true
open_passes p (Context.in_simple_type t) = p t.head.name t.head.event
open_passes p (Context.in_complex_type t) = p t.head.name t.head.event

unfoldable pub heads_pass : (Text → ℕ → Bool) → Reader → Bool
heads_pass p r = every (item_passes p) r.schema.items && open_passes p r.context

unfoldable pub events_ok : Reader → ℕ → Bool
events_ok r events = heads_pass (λ (name : Text) (n : ℕ). event_number_ok events n) r

unfoldable pub proper : State → Bool
proper s =
    counters_ok s && root_ok s.reader && context_ok s.by_standard s.reader.context s.open_tags && schema_ok s.reader.schema
    && events_ok s.reader s.events
