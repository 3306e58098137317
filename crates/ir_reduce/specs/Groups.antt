-- A graph's rows as the namespace and the roots, then the types. Paper 01: "Then roots, then types, children behind each."
--     GraphType     a type's head and the rows behind it
--     Parted        the rows before the first type, and the types
--     parted        rows so parted; rows_of_types, rows_of_parted: the way back
--     type_name      a type's name; root_type: the name, normalised, of a root's type
--     reference_in   the name in a row's named reference; references: those of a type
use Rattle.std.specs.Prelude.{List, [], ◌∷◌, ◌++◌, ◌&&◌, ◌||◌, eqb, if◌then◌else◌}
use Rattle.text.specs.Text.{Text, between}
use Rattle.names.specs.Names.{normalize_type_name}
use Rattle.sheet.specs.Rows.{Row}
use Rattle.ir_types.specs.Tags.{value_with_attributes_tag, field_tag, variant_tag, attribute_tag}
use Rattle.ir_types.specs.Form.{is_type_tag}
use Rattle.ir_types.specs.Back.{text}

pub record GraphType : Type 0 where
  pub head : Row
  pub children : List Row

pub record Parted : Type 0 where
  pub front : List Row
  pub types : List GraphType

unfoldable pub add_graph_row : Row → Parted → Parted
add_graph_row r p =
    if is_type_tag r.tag
    then record { front = []; types = record { head = r; children = p.front } ∷ p.types }
    else record { front = r ∷ p.front; types = p.types }

unfoldable pub parted : List Row → Parted
parted [] = record { front = []; types = [] }
parted (r ∷ rs) = add_graph_row r (parted rs)

unfoldable pub rows_of_types : List GraphType → List Row
rows_of_types [] = []
rows_of_types (t ∷ ts) = t.head ∷ (t.children ++ rows_of_types ts)

unfoldable pub rows_of_parted : Parted → List Row
rows_of_parted p = p.front ++ rows_of_types p.types

unfoldable pub type_name : GraphType → Text
type_name t = text 0 t.head

-- "A root leads to the type named by its normalised type name"
unfoldable pub root_type : Row → Text
root_type r = normalize_type_name (text 1 r)

-- "7 value with attributes (name, reference)", "9 field (xml, Rust name, reference ..)", "10 variant (xml, same name, reference)", "19 attribute
-- (xml, Rust name, reference ..)"; "A reference is a: 0 named (the pair ..)"
unfoldable pub reference_in : Row → List Text
reference_in r =
    if eqb r.tag value_with_attributes_tag && eqb r.a 0 then text 1 r ∷ [] else
    if (between field_tag variant_tag r.tag || eqb r.tag attribute_tag) && eqb r.a 0 then text 2 r ∷ [] else []

unfoldable pub references_in : List Row → List Text
references_in [] = []
references_in (r ∷ rs) = reference_in r ++ references_in rs

unfoldable pub references : GraphType → List Text
references t = references_in (t.head ∷ t.children)
