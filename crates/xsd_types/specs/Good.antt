-- Paper 01, "Schema sheet", "A sheet is good if": the test of a good schema sheet, from the paper's sentences, a named part for each.
--     used_pairs tag a         how many pairs a row uses
--     row_form tag a b c       the tag is known, flags are 0 or 1, other unused numbers are 0; ten_form: of a row
--     is_head, is_child, may_follow    which tags are heads, and which tag may stand behind which head
--     head_after     the head behind which the next row stands
--     in_order       children stand behind their head, and nothing behind a head 16
--     last_head      the tag of the last head; head_of: of a sheet's rows
--     row0_form, rows_form, names_form    "it has this form", with used_parts and zeros_behind of the crate `sheet`
--     names_test, limits, root_test, open_tags_test, nesting_zero, context_test, extension_test    the sentences behind the form; nesting_test: two of them
--     events_test    order 5's sentence on c
--     good          all of them
use Rattle.std.specs.Prelude.{ℕ, ◌+◌, List, [], ◌∷◌, map, Bool, true, false, not, ◌&&◌, ◌||◌, eqb, leb, if◌then◌else◌}
use Rattle.text.specs.Text.{every, is_text, between}
use Rattle.sheet.specs.Rows.{Ten, Sheet}
use Rattle.sheet.specs.Form.{is_flag, covers, covered, tens_of, used_parts, zeros_behind, texts_pass}
use Rattle.xsd_types.specs.Tags.{namespace_tag, element_tag, simple_type_tag, min_length_tag, max_length_tag, total_digits_tag, fraction_digits_tag}
use Rattle.xsd_types.specs.Tags.{sequence_tag, simple_content_tag, any_tag, no_content_tag, bound_element_tag, unbounded_element_tag, attribute_tag}
use Rattle.xsd_types.specs.Contexts.{schema_context, complex_type_context}
use Rattle.xsd_types.specs.Row0.{Row0, row0_in}
use Rattle.xsd_types.specs.State.{event_number_ok}

-- none for the facets of numbers; of an any the second where a is 1; two where name and type or base stand; one for the others
unfoldable pub used_pairs : ℕ → ℕ → ℕ
used_pairs tag a =
    if between min_length_tag max_length_tag tag || between total_digits_tag fraction_digits_tag tag then 0 else
    if eqb tag any_tag then 1 + a else
    if between element_tag simple_type_tag tag || eqb tag simple_content_tag || between bound_element_tag attribute_tag tag then 2 else 1

-- elements, simple types and complex types
unfoldable pub is_head : ℕ → Bool
is_head tag = between element_tag simple_type_tag tag || between sequence_tag no_content_tag tag

-- a and b are numbers for lengths and elements with bound, a alone for digits and unbounded elements; a is a flag for an any and an attribute;
-- "other unused numbers are zero", every c among them but that of a head, which is an event's number (order 5)
unfoldable pub row_form : ℕ → ℕ → ℕ → ℕ → Bool
row_form tag a b c =
    between element_tag attribute_tag tag && (is_head tag || eqb c 0) && (eqb b 0 || between min_length_tag max_length_tag tag || eqb tag bound_element_tag)
    && (eqb a 0 || between min_length_tag max_length_tag tag || between total_digits_tag fraction_digits_tag tag || between bound_element_tag unbounded_element_tag tag
    || ((eqb tag any_tag || eqb tag attribute_tag) && is_flag a))

-- "children behind their head (3: facets; 12: 17, 18; 13: 19; 14: 20)"
unfoldable pub is_child : ℕ → ℕ → Bool
is_child head tag =
    (eqb head 3 && between 4 11 tag) || (eqb head 12 && between 17 18 tag) || (eqb head 13 && eqb tag 19) || (eqb head 14 && eqb tag 20)

-- "16 no content yet (name; only while open)", and the open type stands last
unfoldable pub may_follow : ℕ → ℕ → Bool
may_follow head tag = not (eqb head 16) && (is_head tag || is_child head tag)

unfoldable pub head_after : ℕ → ℕ → ℕ
head_after head tag = if is_head tag then tag else head

unfoldable pub in_order : ℕ → List ℕ → Bool
in_order head [] = true
in_order head (tag ∷ tags) = may_follow head tag && in_order (head_after head tag) tags

unfoldable pub last_head : ℕ → List ℕ → ℕ
last_head head [] = head
last_head head (tag ∷ tags) = last_head (head_after head tag) tags

-- "Row 0 instead: 0, rows used, names used, context (0 none, 1 schema, 2 simple type, 3 complex type), nesting, root seen, events done, open tags, extension flag, 0."
-- Order 3: the choice is "the last number of row 0 ..; a good sheet has one of the two there"
unfoldable pub row0_form : Row0 → Bool
row0_form z = eqb z.first 0 && leb z.context 3 && is_flag z.root_seen && is_flag z.extension && is_flag z.choice

unfoldable pub ten_form : Ten → Bool
ten_form t = row_form t.tag t.a t.b t.c

-- "1 target namespace (always row 1)"; the rows behind it in order
unfoldable pub rows_form : List Ten → Bool
rows_form [] = false
rows_form (n ∷ ts) =
    eqb n.tag 1 && eqb n.a 0 && eqb n.b 0 && eqb n.c 0 && every ten_form ts && in_order namespace_tag (map (λ (t : Ten). t.tag) ts)

unfoldable pub names_form : ℕ → List Ten → Bool
names_form names_used ts = covers used_pairs 0 ts && eqb (covered 0 ts) names_used

-- order 12: "in good sheets .. each used pair by itself holds such text"
unfoldable pub names_test : Sheet → Bool
names_test x = texts_pass is_text used_pairs x

-- "events are at most 1,000,000, open tags at most 255"
unfoldable pub limits : Row0 → Bool
limits z = leb z.events 1000000 && leb z.open_tags 255

-- "context above 0 has root seen; no root seen means two rows and no names"
unfoldable pub root_test : Row0 → Bool
root_test z = eqb z.root_seen 1 || (eqb z.context 0 && eqb z.rows_used 2 && eqb z.names_used 0)

-- "context 1 has an open tag; contexts 2 and 3 have at least nesting + 2". Order 3: in context 1 "open tags of at least nesting + 1"
unfoldable pub open_tags_test : Row0 → Bool
open_tags_test z =
    if leb 2 z.context then leb (z.nesting + 2) z.open_tags else
    if eqb z.context schema_context then leb (z.nesting + 1) z.open_tags else true

-- "nesting is 0 in contexts 0 and 1". Order 3: "With choice 1 .. any nesting" in context 1, "with 0, nesting there stays 0"
unfoldable pub nesting_zero : Row0 → Bool
nesting_zero z =
    if leb 2 z.context then true else
    if eqb z.context schema_context then eqb z.choice 1 || eqb z.nesting 0 else eqb z.nesting 0

unfoldable pub nesting_test : Row0 → Bool
nesting_test z = nesting_zero z && open_tags_test z

-- "the open type (3 in context 2, 12 to 16 in 3) last"; 16 "only while open"
unfoldable pub context_test : ℕ → ℕ → Bool
context_test context head =
    if eqb context 2 then eqb head 3 else
    if eqb context 3 then between 12 16 head else not (eqb head 16)

-- "the extension flag is 1 only with an open head 14"
unfoldable pub extension_test : Row0 → ℕ → Bool
extension_test z head = eqb z.extension 0 || (eqb z.context complex_type_context && eqb head 14)

unfoldable pub head_of : List Ten → ℕ
head_of ts = last_head 0 (map (λ (t : Ten). t.tag) ts)

-- order 5: "Zero means unknown ..; in a good sheet any other c is below events done." A c that is not a head's is 0, as `row_form` has it.
unfoldable pub events_test : ℕ → List Ten → Bool
events_test events ts = every (λ (t : Ten). event_number_ok events t.c) ts

unfoldable pub bare_good : Sheet → Bool
bare_good x =
    let z = row0_in x in
    let ts = tens_of x in
    used_parts x && row0_form z && rows_form ts && names_form z.names_used ts && zeros_behind x && names_test x
    && limits z && root_test z && nesting_test z && context_test z.context (head_of ts) && extension_test z (head_of ts)
    && events_test z.events ts
