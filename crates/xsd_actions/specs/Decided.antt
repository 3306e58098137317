-- Which action 000's handlers take, by what is seen of the event's tag and its number n in the run, the mode and the tag of the open head alone, or the refusal 9 or 10.
--     decided       for an event
--     decided_start, decided_empty, decided_close    for each kind, in the order of 000's clauses
--     Decides       what the handlers do is what was decided
use Rattle.std.specs.Prelude.{ℕ, suc, ◌≡◌, [], ◌∷◌, Bool, ◌&&◌, eqb, if◌then◌else◌}
use Rattle.std.proofs.Math.Option.{Option, some, none}
use Rattle.text.specs.Text.{Text}
use Rattle.sheet.specs.Rows.{Row, row}
use Rattle.xsd_types.specs.Tags.{element_tag, sequence_tag, choice_tag, simple_content_tag, any_tag, no_content_tag}
use Rattle.xsd_types.specs.Contexts.{none_context, schema_context, simple_type_context}
use Rattle.xsd_types.specs.Types.{Facet}
use Rattle.xsd_types.specs.State.{Reader}
use Rattle.xsd_types.specs.Rows.{facet_row, occurs_row, variant_row, attribute_row}
use Rattle.xsd_parser.specs.declared.words.Word.{Word}
use Rattle.xsd_parser.specs.Words.{facet_word}
use Rattle.xsd_parser.specs.Event.{Event, or_empty}
use Rattle.xsd_parser.specs.Seen.{Seen, seen, tag_is}
use Rattle.xsd_parser.specs.Handlers.{Outcome, ok, refuse, ◌and_then◌, on_parsed, require_name, parse_min_occurs, parse_max_occurs, is_required, facet_value, on_facet}
use Rattle.xsd_parser.specs.Step.{handled}
use Rattle.xsd_actions.specs.declared.Mode.{Mode}
use Rattle.xsd_actions.specs.Actions.{Action, Acted}

-- a row for a tag that has name and type
unfoldable pub typed : Option Text → Option Text → (Text → Text → Row) → Action
typed none type_name f = Action.keep
typed (some name) none f = Action.keep
typed (some name) (some type_name) f = Action.add (f name type_name)

unfoldable pub named_child : Seen → (Text → Text → Row) → Action
named_child t f = typed t.name t.type_name f

unfoldable pub top_element : ℕ → Seen → Action
top_element n t = named_child t (λ name type_name. row element_tag (name ∷ type_name ∷ []) 0 0 n)

unfoldable pub root_found : Seen → Action
root_found t = if tag_is t Word.Schema then Action.root (or_empty t.target_namespace) else Action.keep

unfoldable pub base_set : Seen → Action
base_set t = Action.base (or_empty t.base)

-- 000, `on_element_inside_complex`
unfoldable pub occurs_added : Seen → Option Text → Option Text → Outcome Action
occurs_added t none type_name = ok Action.keep
occurs_added t (some name) none = ok Action.keep
occurs_added t (some name) (some type_name) =
    on_parsed (parse_min_occurs t.min_occurs) (λ min. min) and_then λ min.
    parse_max_occurs t.max_occurs and_then λ max.
    ok (Action.add (occurs_row name type_name min max))

unfoldable pub element_inside : Seen → ℕ → Outcome Action
element_inside t head =
    if eqb head sequence_tag then occurs_added t t.name t.type_name else
    if eqb head choice_tag then ok (named_child t (λ name type_name. variant_row (record { name = name; type_name = type_name }))) else ok Action.keep

-- 000, `on_attribute_inside_complex`
unfoldable pub attribute_inside : Seen → Bool → Action
attribute_inside t flag =
    if flag
    then named_child t (λ name type_name. attribute_row (record { name = name; type_name = type_name; required = is_required t.usage }))
    else Action.keep

-- ---- on_start

unfoldable pub direct_child : ℕ → Seen → Outcome Action
direct_child n t =
    if tag_is t Word.SimpleType then require_name t (Action.open_simple n) else
    if tag_is t Word.ComplexType then require_name t (Action.open_complex n) else
    if tag_is t Word.Element then ok (top_element n t) else ok Action.keep

-- order 3: "only its direct children become elements or types"; with choice 0 nesting is 0 in context 1
unfoldable pub start_in_schema : ℕ → Seen → ℕ → Outcome Action
start_in_schema n t depth = if eqb depth 0 then direct_child n t else ok Action.keep

unfoldable pub start_in_simple_type : Seen → ℕ → Action
start_in_simple_type t depth = if eqb depth 1 && tag_is t Word.Restriction then base_set t else Action.keep

unfoldable pub content_start : Seen → Action
content_start t =
    if tag_is t Word.Sequence then Action.content sequence_tag [] 0 else
    if tag_is t Word.Choice then Action.content choice_tag [] 0 else
    if tag_is t Word.SimpleContent then Action.content simple_content_tag ([] ∷ []) 0 else Action.keep

unfoldable pub extended : Seen → ℕ → Action
extended t head = if eqb head simple_content_tag then base_set t else Action.keep

unfoldable pub start_at_two : Seen → ℕ → Outcome Action
start_at_two t head =
    if tag_is t Word.Extension then ok (extended t head) else
    if tag_is t Word.Element then element_inside t head else ok Action.keep

unfoldable pub start_in_complex_type : Seen → ℕ → ℕ → Outcome Action
start_in_complex_type t depth head =
    if eqb depth 1 then ok (content_start t) else
    if eqb depth 2 then start_at_two t head else ok Action.keep

-- the nesting is counted after the raise, as in 000
unfoldable pub decided_start : ℕ → Seen → Mode → ℕ → Outcome Action
decided_start n t m head =
    if eqb m.context none_context then ok (root_found t) else
    if eqb m.context schema_context then start_in_schema n t m.nesting else
    if eqb m.context simple_type_context then ok (start_in_simple_type t (suc m.nesting)) else start_in_complex_type t (suc m.nesting) head

-- ---- on_empty

unfoldable pub facet_added : Facet → Action
facet_added f = Action.add (facet_row f)

unfoldable pub empty_in_simple_type : Seen → Outcome Action
empty_in_simple_type t =
    if tag_is t Word.Restriction then ok (base_set t) else on_facet (facet_word t.word) (facet_value t) facet_added Action.keep

unfoldable pub any_content : Option Text → Action
any_content none = Action.content any_tag [] 0
any_content (some n) = Action.content any_tag (n ∷ []) 1

unfoldable pub empty_in_complex_type : Seen → Bool → ℕ → Outcome Action
empty_in_complex_type t flag head =
    if tag_is t Word.Element then element_inside t head else
    if tag_is t Word.Any then ok (any_content t.namespace) else
    if tag_is t Word.Attribute then ok (attribute_inside t flag) else ok Action.keep

unfoldable pub decided_empty : ℕ → Seen → Mode → ℕ → Outcome Action
decided_empty n t m head =
    if eqb m.context none_context then ok (root_found t) else
    if eqb m.context schema_context then ok (if eqb m.nesting 0 && tag_is t Word.Element then top_element n t else Action.keep) else
    if eqb m.context simple_type_context then empty_in_simple_type t else empty_in_complex_type t m.extension head

-- ---- on_end

-- "Content still absent at the close becomes 15 with a = 0."
unfoldable pub decided_close : Mode → ℕ → Action
decided_close m head = if eqb head no_content_tag && eqb m.nesting 0 then Action.content any_tag [] 0 else Action.keep

unfoldable pub decided : ℕ → Event → Mode → ℕ → Outcome Action
decided n (Event.start t) m head = decided_start n (seen t) m head
decided n (Event.empty t) m head = decided_empty n (seen t) m head
decided n Event.close m head = ok (decided_close m head)

pub data Decides (by_standard : Bool) (n : ℕ) (e : Event) (r : Reader) : Outcome Action → Type 0 where
  acts : (a : Action) (r' : Reader) → handled by_standard n e r ≡ ok r' → Acted by_standard e r a r' → Decides by_standard n e r (ok a)
  refuses : (k : ℕ) → handled by_standard n e r ≡ refuse k → Decides by_standard n e r (refuse k)
