-- The way back: the graph that a graph sheet holds, paper 01, "Graph sheet". A head takes the rows behind it, up to the next head, as its children.
--     text i r          the i-th text of a row
--     rust_type_of, ref_of, cardinality_of    the built-in type of a number; a row's reference, whose text is the i-th; the cardinality of b and c
--     field_of .. attr_of, constraint_of     the children of rows
--     type_of            the definition of a head and its children
--     Behind, types_back    rows read from the last to the first: the children that no head has taken yet, and the definitions
--     roots_back         the roots
--     graph_of_rows       the graph of the rows behind row 0; graph_back: of a sheet
use Rattle.std.specs.Prelude.{ℕ, ◌+◌, ◌*◌, ◌^◌, List, [], ◌∷◌, map, eqb, get_or, if◌then◌else◌}
use Rattle.std.proofs.Math.Option.{some, none}
use Rattle.text.specs.Text.{Text, between}
use Rattle.builtin.specs.Builtin.{RustType}
use Rattle.sheet.specs.Rows.{Row, Sheet, unpack_row}
use Rattle.sheet.specs.Form.{tens_of}
use Rattle.ir_types.specs.Tags.{root_tag, struct_tag, enum_tag, newtype_tag, code_enum_tag, value_with_attributes_tag, opaque_tag, pattern_tag}
use Rattle.ir_types.specs.Tags.{min_length_tag, max_length_tag, min_inclusive_tag, max_inclusive_tag, total_digits_tag}
use Rattle.ir_types.specs.Types.{TypeRef, Cardinality, FieldDef, VariantDef, Constraint, CodeValue, AttrDef, TypeDef, RootElement, TypeGraph}
use Rattle.ir_types.specs.Form.{used_pairs}

unfoldable pub text : ℕ → Row → Text
text i r = get_or r.texts i []

-- "1 String, 2 Bool, 3 Decimal, 4 Date, 5 DateTime"
unfoldable pub rust_type_of : ℕ → RustType
rust_type_of a =
    if eqb a 1 then RustType.string else
    if eqb a 2 then RustType.bool else
    if eqb a 3 then RustType.decimal else
    if eqb a 4 then RustType.date else RustType.date_time

unfoldable pub ref_of : ℕ → Row → TypeRef
ref_of i r = if eqb r.a 0 then TypeRef.named (text i r) else TypeRef.builtin (rust_type_of r.a)

-- "b cardinality 0 required, 1 optional, 2 vec, 3 bounded with c the bound"
unfoldable pub cardinality_of : ℕ → ℕ → Cardinality
cardinality_of b c =
    if eqb b 0 then Cardinality.required else
    if eqb b 1 then Cardinality.optional else
    if eqb b 2 then Cardinality.vec else Cardinality.bounded_vec c

unfoldable pub field_of : Row → FieldDef
field_of r = record { xml_name = text 0 r; rust_name = text 1 r; type_ref = ref_of 2 r; cardinality = cardinality_of r.b r.c }

unfoldable pub variant_of : Row → VariantDef
variant_of r = record { xml_name = text 0 r; rust_name = text 1 r; type_ref = ref_of 2 r }

unfoldable pub code_of : Row → CodeValue
code_of r = record { xml_value = text 0 r; rust_name = text 1 r }

unfoldable pub attr_of : Row → AttrDef
attr_of r = record { xml_name = text 0 r; rust_name = text 1 r; type_ref = ref_of 2 r; required = eqb r.b 1 }

-- "a low, b high 32 bits"
unfoldable pub constraint_of : Row → Constraint
constraint_of r =
    if eqb r.tag pattern_tag then Constraint.pattern (text 0 r) else
    if eqb r.tag min_length_tag then Constraint.min_length (r.b * 2 ^ 32 + r.a) else
    if eqb r.tag max_length_tag then Constraint.max_length (r.b * 2 ^ 32 + r.a) else
    if eqb r.tag min_inclusive_tag then Constraint.min_inclusive (text 0 r) else
    if eqb r.tag max_inclusive_tag then Constraint.max_inclusive (text 0 r) else
    if eqb r.tag total_digits_tag then Constraint.total_digits r.a else Constraint.fraction_digits r.a

unfoldable pub type_of : Row → List Row → TypeDef
type_of r children =
    if eqb r.tag struct_tag then TypeDef.struct r.c (text 0 r) (map field_of children) else
    if eqb r.tag enum_tag then TypeDef.enum r.c (text 0 r) (map variant_of children) else
    if eqb r.tag newtype_tag then TypeDef.newtype r.c (text 0 r) (rust_type_of r.a) (map constraint_of children) else
    if eqb r.tag code_enum_tag then TypeDef.code_enum r.c (text 0 r) (map code_of children) else
    if eqb r.tag value_with_attributes_tag then TypeDef.value_with_attr r.c (text 0 r) (ref_of 1 r) (map attr_of children) else
    TypeDef.opaque r.c (text 0 r) (if eqb r.a 0 then none else some (text 1 r))

pub record Behind : Type 0 where
  pub children : List Row
  pub types : List TypeDef

unfoldable pub with_row : Row → Behind → Behind
with_row r b =
    if between struct_tag opaque_tag r.tag
    then record { children = []; types = type_of r b.children ∷ b.types }
    else record { children = r ∷ b.children; types = b.types }

unfoldable pub types_back : List Row → Behind
types_back [] = record { children = []; types = [] }
types_back (r ∷ rs) = with_row r (types_back rs)

unfoldable pub root_of : Row → RootElement
root_of r = record { xml_name = text 0 r; type_name = text 1 r; event = r.c }

unfoldable pub roots_back : List Row → List RootElement
roots_back [] = []
roots_back (r ∷ rs) = if eqb r.tag root_tag then root_of r ∷ roots_back rs else roots_back rs

-- "Row 1: tag 1, namespace. Then roots, then types, children behind each."
unfoldable pub graph_of_rows : List Row → TypeGraph
graph_of_rows [] = record { namespace = []; root_elements = []; types = [] }
graph_of_rows (r ∷ rs) = record { namespace = text 0 r; root_elements = roots_back rs; types = (types_back rs).types }

unfoldable pub graph_back : Sheet → TypeGraph
graph_back x = graph_of_rows (map (unpack_row used_pairs x.names) (tens_of x))
