-- Paper 01, "Graph sheet (001, 003)": the tags of the rows, in the order of the numbers.
use Rattle.std.specs.Prelude.{ℕ}

-- "Row 1: tag 1, namespace"
abbrev pub namespace_tag : ℕ
namespace_tag = 1

-- "root (xml name, type name unchanged)"
abbrev pub root_tag : ℕ
root_tag = 2

-- "struct"
abbrev pub struct_tag : ℕ
struct_tag = 3

-- "enum"
abbrev pub enum_tag : ℕ
enum_tag = 4

-- "newtype (a inner)"
abbrev pub newtype_tag : ℕ
newtype_tag = 5

-- "code enum"
abbrev pub code_enum_tag : ℕ
code_enum_tag = 6

-- "value with attributes (name, reference)"
abbrev pub value_with_attributes_tag : ℕ
value_with_attributes_tag = 7

-- "opaque (name; a and namespace as in 15)"
abbrev pub opaque_tag : ℕ
opaque_tag = 8

-- "field (xml, Rust name, reference; b cardinality ..)"
abbrev pub field_tag : ℕ
field_tag = 9

-- "variant (xml, same name, reference)"
abbrev pub variant_tag : ℕ
variant_tag = 10

-- "pattern"
abbrev pub pattern_tag : ℕ
pattern_tag = 11

-- "minLength"
abbrev pub min_length_tag : ℕ
min_length_tag = 12

-- "maxLength"
abbrev pub max_length_tag : ℕ
max_length_tag = 13

-- "minInclusive"
abbrev pub min_inclusive_tag : ℕ
min_inclusive_tag = 14

-- "maxInclusive"
abbrev pub max_inclusive_tag : ℕ
max_inclusive_tag = 15

-- "totalDigits"
abbrev pub total_digits_tag : ℕ
total_digits_tag = 16

-- "fractionDigits (each as the facet's row)"
abbrev pub fraction_digits_tag : ℕ
fraction_digits_tag = 17

-- "code (xml, Rust name)"
abbrev pub code_tag : ℕ
code_tag = 18

-- "attribute (xml, Rust name, reference, b required)"
abbrev pub attribute_tag : ℕ
attribute_tag = 19
