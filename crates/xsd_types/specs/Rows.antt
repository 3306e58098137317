-- The state as rows. Paper 01, "Schema sheet", Tags.
--     namespace_a    unused numbers: a of row 1
--     namespace_row  row 1
--     facet_row, element_row (occurs_row), variant_row, attribute_row    the rows of children
--     simple_type_rows, complex_type_rows    a type's rows: its head, its children behind it; c of a head is its event's number, c of a child is 0
--     item_rows, items_rows    a finished item's rows; those of all
--     context_rows   the open type's rows, which stand last
--     rows_of        all rows behind row 0
--     context_number, nesting, extension_flag (content_flag), rows_used, names_used    the numbers of row 0
--     row0          row 0 of a state
use Rattle.std.specs.Prelude.{ℕ, ◌+◌, ◌%◌, ◌/◌, ◌^◌, List, [], ◌∷◌, ◌++◌, map, length}
use Rattle.std.proofs.Math.Option.{some, none}
use Rattle.text.specs.Text.{Text}
use Rattle.sheet.specs.Rows.{Row, names_of, row, bit}
use Rattle.xsd_types.specs.Tags.{namespace_tag, element_tag, simple_type_tag, enumeration_tag, pattern_tag, min_length_tag, max_length_tag, min_inclusive_tag}
use Rattle.xsd_types.specs.Tags.{max_inclusive_tag, total_digits_tag, fraction_digits_tag, sequence_tag, choice_tag, simple_content_tag}
use Rattle.xsd_types.specs.Tags.{any_tag, no_content_tag, bound_element_tag, unbounded_element_tag, choice_variant_tag, attribute_tag}
use Rattle.xsd_types.specs.Types.{Facet, MaxOccurs, SequenceElement, ChoiceVariant, Attribute, Item}
use Rattle.xsd_types.specs.Row0.{Row0}
use Rattle.xsd_types.specs.State.{ComplexContentBuilder, Context, State, started}

-- a of row 1 is unused
unfoldable pub namespace_a : ℕ
namespace_a = 0

-- "1 target namespace (always row 1)"
unfoldable pub namespace_row : Text → Row
namespace_row n = row namespace_tag (n ∷ []) namespace_a 0 0

-- "facets 4 enumeration, 5 pattern, 8 minInclusive, 9 maxInclusive (value), 6 minLength, 7 maxLength (a low, b high 32 bits), 10 totalDigits, 11 fractionDigits (a)"
unfoldable pub facet_row : Facet → Row
facet_row (Facet.enumeration v) = row enumeration_tag (v ∷ []) 0 0 0
facet_row (Facet.pattern v) = row pattern_tag (v ∷ []) 0 0 0
facet_row (Facet.min_length n) = row min_length_tag [] (n % 2 ^ 32) (n / 2 ^ 32) 0
facet_row (Facet.max_length n) = row max_length_tag [] (n % 2 ^ 32) (n / 2 ^ 32) 0
facet_row (Facet.min_inclusive v) = row min_inclusive_tag (v ∷ []) 0 0 0
facet_row (Facet.max_inclusive v) = row max_inclusive_tag (v ∷ []) 0 0 0
facet_row (Facet.total_digits n) = row total_digits_tag [] n 0 0
facet_row (Facet.fraction_digits n) = row fraction_digits_tag [] n 0 0

-- "17 element with bound (name, type, a min, b max), 18 unbounded element (name, type, a min)"
unfoldable pub occurs_row : Text → Text → ℕ → MaxOccurs → Row
occurs_row name type_name min (MaxOccurs.bounded max) = row bound_element_tag (name ∷ type_name ∷ []) min max 0
occurs_row name type_name min MaxOccurs.unbounded = row unbounded_element_tag (name ∷ type_name ∷ []) min 0 0

unfoldable pub element_row : SequenceElement → Row
element_row e = occurs_row e.name e.type_name e.min_occurs e.max_occurs

-- "19 choice variant (name, type)"
unfoldable pub variant_row : ChoiceVariant → Row
variant_row v = row choice_variant_tag (v.name ∷ v.type_name ∷ []) 0 0 0

-- "20 attribute (name, type, a required)"
unfoldable pub attribute_row : Attribute → Row
attribute_row x = row attribute_tag (x.name ∷ x.type_name ∷ []) (bit x.required) 0 0

-- "3 simple type (name, base)"; order 5: "Every head .. carries in c the number in the run of the event that gave it its name."
unfoldable pub simple_type_rows : ℕ → Text → Text → List Facet → List Row
simple_type_rows event name base facets = row simple_type_tag (name ∷ base ∷ []) 0 0 event ∷ map facet_row facets

-- "complex types 12 sequence, 13 choice (name), 14 simple content (name, base), 15 any (name; a is 1 and the namespace follows if present),
-- 16 no content yet (name; only while open)"
unfoldable pub complex_type_rows : ℕ → Text → ComplexContentBuilder → List Row
complex_type_rows event name ComplexContentBuilder.empty = row no_content_tag (name ∷ []) 0 0 event ∷ []
complex_type_rows event name (ComplexContentBuilder.sequence es) = row sequence_tag (name ∷ []) 0 0 event ∷ map element_row es
complex_type_rows event name (ComplexContentBuilder.choice vs) = row choice_tag (name ∷ []) 0 0 event ∷ map variant_row vs
complex_type_rows event name (ComplexContentBuilder.simple_content base xs flag) = row simple_content_tag (name ∷ base ∷ []) 0 0 event ∷ map attribute_row xs
complex_type_rows event name (ComplexContentBuilder.any none) = row any_tag (name ∷ []) 0 0 event ∷ []
complex_type_rows event name (ComplexContentBuilder.any (some n)) = row any_tag (name ∷ n ∷ []) 1 0 event ∷ []

-- "2 element (name, type)"
unfoldable pub item_rows : Item → List Row
item_rows (Item.element e) = row element_tag (e.name ∷ e.type_name ∷ []) 0 0 e.event ∷ []
item_rows (Item.simple_type t) = simple_type_rows t.event t.name t.base t.facets
item_rows (Item.complex_type t) = complex_type_rows t.event t.name (started t.content)

unfoldable pub items_rows : List Item → List Row
items_rows [] = []
items_rows (i ∷ is) = item_rows i ++ items_rows is

unfoldable pub context_rows : Context → List Row
context_rows Context.no_context = []
context_rows (Context.in_schema n) = []
context_rows (Context.in_simple_type t) = simple_type_rows t.head.event t.head.name t.base t.facets
context_rows (Context.in_complex_type t) = complex_type_rows t.head.event t.head.name t.content

-- "Rows stand in order of arrival, children behind their head, the open type last."
unfoldable pub rows_of : State → List Row
rows_of s =
    namespace_row s.reader.schema.target_namespace
    ∷ (items_rows s.reader.schema.items ++ context_rows s.reader.context)

-- "context (0 none, 1 schema, 2 simple type, 3 complex type)"
unfoldable pub context_number : Context → ℕ
context_number Context.no_context = 0
context_number (Context.in_schema n) = 1
context_number (Context.in_simple_type t) = 2
context_number (Context.in_complex_type t) = 3

-- order 3: "nesting in context 1 counts the open tags below the schema"
unfoldable pub nesting : Context → ℕ
nesting Context.no_context = 0
nesting (Context.in_schema n) = n
nesting (Context.in_simple_type t) = t.nesting_depth
nesting (Context.in_complex_type t) = t.nesting_depth

unfoldable pub content_flag : ComplexContentBuilder → ℕ
content_flag ComplexContentBuilder.empty = 0
content_flag (ComplexContentBuilder.sequence es) = 0
content_flag (ComplexContentBuilder.choice vs) = 0
content_flag (ComplexContentBuilder.simple_content base xs flag) = bit flag
content_flag (ComplexContentBuilder.any n) = 0

unfoldable pub extension_flag : Context → ℕ
extension_flag Context.no_context = 0
extension_flag (Context.in_schema n) = 0
extension_flag (Context.in_simple_type t) = 0
extension_flag (Context.in_complex_type t) = content_flag t.content

unfoldable pub rows_used : State → ℕ
rows_used s = 1 + length (rows_of s)

unfoldable pub names_used : State → ℕ
names_used s = length (names_of (rows_of s))

-- "Row 0 instead: 0, rows used, names used, context, nesting, root seen, events done, open tags, extension flag", then order 3's choice
unfoldable pub row0 : State → Row0
row0 s =
    record {
      first = 0;
      rows_used = rows_used s;
      names_used = names_used s;
      context = context_number s.reader.context;
      nesting = nesting s.reader.context;
      root_seen = bit s.reader.root_seen;
      events = s.events;
      open_tags = s.open_tags;
      extension = extension_flag s.reader.context;
      choice = bit s.by_standard;
    }
