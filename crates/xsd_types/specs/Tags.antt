-- Paper 01, "Schema sheet": the tags of the rows, in the order of the numbers.
use Rattle.std.specs.Prelude.{ℕ}

-- "target namespace (always row 1)"
abbrev pub namespace_tag : ℕ
namespace_tag = 1

-- "element (name, type)"
abbrev pub element_tag : ℕ
element_tag = 2

-- "simple type (name, base)"
abbrev pub simple_type_tag : ℕ
simple_type_tag = 3

-- "enumeration (value)"
abbrev pub enumeration_tag : ℕ
enumeration_tag = 4

-- "pattern (value)"
abbrev pub pattern_tag : ℕ
pattern_tag = 5

-- "minLength (a low, b high 32 bits)"
abbrev pub min_length_tag : ℕ
min_length_tag = 6

-- "maxLength (a low, b high 32 bits)"
abbrev pub max_length_tag : ℕ
max_length_tag = 7

-- "minInclusive (value)"
abbrev pub min_inclusive_tag : ℕ
min_inclusive_tag = 8

-- "maxInclusive (value)"
abbrev pub max_inclusive_tag : ℕ
max_inclusive_tag = 9

-- "totalDigits (a)"
abbrev pub total_digits_tag : ℕ
total_digits_tag = 10

-- "fractionDigits (a)"
abbrev pub fraction_digits_tag : ℕ
fraction_digits_tag = 11

-- "sequence (name)"
abbrev pub sequence_tag : ℕ
sequence_tag = 12

-- "choice (name)"
abbrev pub choice_tag : ℕ
choice_tag = 13

-- "simple content (name, base)"
abbrev pub simple_content_tag : ℕ
simple_content_tag = 14

-- "any (name; a is 1 and the namespace follows if present)"
abbrev pub any_tag : ℕ
any_tag = 15

-- "no content yet (name; only while open)"
abbrev pub no_content_tag : ℕ
no_content_tag = 16

-- "element with bound (name, type, a min, b max)"
abbrev pub bound_element_tag : ℕ
bound_element_tag = 17

-- "unbounded element (name, type, a min)"
abbrev pub unbounded_element_tag : ℕ
unbounded_element_tag = 18

-- "choice variant (name, type)"
abbrev pub choice_variant_tag : ℕ
choice_variant_tag = 19

-- "attribute (name, type, a required)"
abbrev pub attribute_tag : ℕ
attribute_tag = 20
