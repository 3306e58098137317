-- The state that a good sheet holds: paper 01, "Schema sheet", read back.
--     rows_in        the rows behind row 0 with their texts
--     Group         a head with its children
--     grouped (add_row)    rows as groups; `loose` are children with no head before them
--     text0, text1  a row's first and second text
--     facet_of, element_of, variant_of, attribute_of, content_of, item_of    what rows say
--     items_of       the finished items: all groups, or all but the last where a type is open
--     last_group     the last group; no_group (empty_row): where there is none
--     context_of     the context, with the open type of the last group
--     namespace_in, behind_namespace    the text of row 1, and the rows behind it
--     bare_state_of       the state; state_of_rows: of row 0 and the rows behind it
use Rattle.std.specs.Prelude.{◌+◌, ◌*◌, ◌^◌, List, [], ◌∷◌, map, Bool, true, false, eqb, leb, get_or, if◌then◌else◌}
use Rattle.std.proofs.Math.Option.{some, none}
use Rattle.text.specs.Text.{Text}
use Rattle.sheet.specs.Rows.{Row, Sheet, unpack_row}
use Rattle.xsd_types.specs.Types.{Facet, MaxOccurs, SequenceElement, ChoiceVariant, Attribute, Item}
use Rattle.xsd_types.specs.State.{ComplexContentBuilder, Context, State, finish}
use Rattle.xsd_types.specs.Good.{used_pairs, is_head}
use Rattle.sheet.specs.Form.{tens_of}
use Rattle.xsd_types.specs.Tags.{element_tag, simple_type_tag, enumeration_tag, pattern_tag, min_length_tag, max_length_tag, min_inclusive_tag}
use Rattle.xsd_types.specs.Tags.{max_inclusive_tag, total_digits_tag, sequence_tag, choice_tag, simple_content_tag, any_tag, bound_element_tag}
use Rattle.xsd_types.specs.Contexts.{none_context, schema_context, simple_type_context}
use Rattle.xsd_types.specs.Row0.{Row0, row0_in}

unfoldable pub rows_in : Sheet → List Row
rows_in x = map (unpack_row used_pairs x.names) (tens_of x)

pub record Group : Type 0 where
  pub head : Row
  pub children : List Row

pub record Grouped : Type 0 where
  pub loose : List Row
  pub groups : List Group

unfoldable pub add_row : Row → Grouped → Grouped
add_row r g =
    if is_head r.tag
    then record { loose = []; groups = record { head = r; children = g.loose } ∷ g.groups }
    else record { loose = r ∷ g.loose; groups = g.groups }

unfoldable pub grouped : List Row → Grouped
grouped [] = record { loose = []; groups = [] }
grouped (r ∷ rs) = add_row r (grouped rs)

unfoldable pub text0 : Row → Text
text0 r = get_or r.texts 0 []

unfoldable pub text1 : Row → Text
text1 r = get_or r.texts 1 []

unfoldable pub facet_of : Row → Facet
facet_of r =
    if eqb r.tag enumeration_tag then Facet.enumeration (text0 r) else
    if eqb r.tag pattern_tag then Facet.pattern (text0 r) else
    if eqb r.tag min_length_tag then Facet.min_length (r.a + r.b * 2 ^ 32) else
    if eqb r.tag max_length_tag then Facet.max_length (r.a + r.b * 2 ^ 32) else
    if eqb r.tag min_inclusive_tag then Facet.min_inclusive (text0 r) else
    if eqb r.tag max_inclusive_tag then Facet.max_inclusive (text0 r) else
    if eqb r.tag total_digits_tag then Facet.total_digits r.a else Facet.fraction_digits r.a

unfoldable pub element_of : Row → SequenceElement
element_of r =
    record {
      name = text0 r;
      type_name = text1 r;
      min_occurs = r.a;
      max_occurs = if eqb r.tag bound_element_tag then MaxOccurs.bounded r.b else MaxOccurs.unbounded;
    }

unfoldable pub variant_of : Row → ChoiceVariant
variant_of r = record { name = text0 r; type_name = text1 r }

unfoldable pub attribute_of : Row → Attribute
attribute_of r = record { name = text0 r; type_name = text1 r; required = eqb r.a 1 }

unfoldable pub content_of : Bool → Group → ComplexContentBuilder
content_of flag g =
    if eqb g.head.tag sequence_tag then ComplexContentBuilder.sequence (map element_of g.children) else
    if eqb g.head.tag choice_tag then ComplexContentBuilder.choice (map variant_of g.children) else
    if eqb g.head.tag simple_content_tag then ComplexContentBuilder.simple_content (text1 g.head) (map attribute_of g.children) flag else
    if eqb g.head.tag any_tag then ComplexContentBuilder.any (if eqb g.head.a 1 then some (text1 g.head) else none) else
    ComplexContentBuilder.empty

unfoldable pub item_of : Group → Item
item_of g =
    if eqb g.head.tag element_tag then Item.element (record { name = text0 g.head; type_name = text1 g.head; event = g.head.c }) else
    if eqb g.head.tag simple_type_tag
    then Item.simple_type (record { name = text0 g.head; base = text1 g.head; facets = map facet_of g.children; event = g.head.c })
    else Item.complex_type (record { name = text0 g.head; content = finish (content_of false g); event = g.head.c })

unfoldable pub items_of : Bool → List Group → List Item
items_of type_open [] = []
items_of false (g ∷ gs) = item_of g ∷ items_of false gs
items_of true (g ∷ []) = []
items_of true (g ∷ h ∷ gs) = item_of g ∷ items_of true (h ∷ gs)

unfoldable pub last_group : Group → List Group → Group
last_group g [] = g
last_group g (h ∷ gs) = last_group h gs

unfoldable pub empty_row : Row
empty_row = record { tag = 0; texts = []; a = 0; b = 0; c = 0 }

unfoldable pub no_group : Group
no_group = record { head = empty_row; children = [] }

unfoldable pub context_of : Row0 → List Group → Context
context_of z gs =
    let g = last_group no_group gs in
    if eqb z.context none_context then Context.no_context else
    if eqb z.context schema_context then Context.in_schema z.nesting else
    if eqb z.context simple_type_context
    then Context.in_simple_type (record { head = record { name = text0 g.head; event = g.head.c }; base = text1 g.head; facets = map facet_of g.children; nesting_depth = z.nesting })
    else Context.in_complex_type (record { head = record { name = text0 g.head; event = g.head.c }; content = content_of (eqb z.extension 1) g; nesting_depth = z.nesting })

unfoldable pub namespace_in : List Row → Text
namespace_in [] = []
namespace_in (r ∷ rs) = text0 r

unfoldable pub behind_namespace : List Row → List Row
behind_namespace [] = []
behind_namespace (r ∷ rs) = rs

unfoldable pub state_of_rows : Row0 → List Row → State
state_of_rows z rs =
    let gs = (grouped (behind_namespace rs)).groups in
    record {
      reader =
          record {
            schema = record { target_namespace = namespace_in rs; items = items_of (leb simple_type_context z.context) gs };
            root_seen = eqb z.root_seen 1;
            context = context_of z gs;
          };
      events = z.events;
      open_tags = z.open_tags;
      by_standard = eqb z.choice 1;
    }

unfoldable pub bare_state_of : Sheet → State
bare_state_of x = state_of_rows (row0_in x) (rows_in x)
