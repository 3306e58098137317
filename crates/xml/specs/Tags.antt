-- A tag: XML 1.0 (Fifth Edition), [40] STag ::= '<' Name (S Attribute)* S? '>' and [44] EmptyElemTag ::= '<' Name (S Attribute)* S? '/>'.
--     Part          what stands next in a tag: its end with its kind, or an attribute with the pairs and the text of its key
--     attribute     [41]
--     part_of        the next part of a tag
--     TagEnd        the end of a tag: kind, attributes, and what is left; or bad
--     attributes    the parts of a tag behind its name up to its end; no key stands twice
--     Tagged        a whole tag: its event, the text of its name, and what is left; or bad
--     tag           [40] or [44]
use Rattle.std.specs.Prelude.{ℕ, zero, suc, ◌+◌, ◌-◌, List, [], ◌∷◌, ◌++◌, eqb, length, drop, if◌then◌else◌}
use Rattle.text.specs.Text.{Text, bytes}
use Rattle.xsd_parser.specs.Tape.{Pair}
use Rattle.xsd_parser.specs.Kinds.{start_kind, empty_kind}
use Rattle.xml.specs.Steps.{Step, bad, behind, starts_with, literal, spaces, name, leading_name}
use Rattle.xml.specs.Values.{value}
use Rattle.xml.specs.Prolog.{eq}
use Rattle.xml.specs.Grammar.{is_among}
use Rattle.xml.specs.Tape.{AttributePairs}

-- the pair of the bytes from one offset up to another
abbrev pub span : ℕ → ℕ → Pair
span from to = record { offset = from; size = to - from }

pub data Part : Type 0 where
  wrong : Part
  last : ℕ → ℕ → Text → Part
  more : AttributePairs → Text → ℕ → Text → Part

-- the value's pair is without its quotes
abbrev pub attribute_from : ℕ → ℕ → ℕ → ℕ → AttributePairs
attribute_from key key_end quote value_end = record { key = span key key_end; value = span (suc quote) (value_end - 1) }

-- an attribute whose key, at an offset, is the name that the bytes there begin with, by where its key ends, where its value starts and where it ends
abbrev pub attribute_behind : ℕ → Text → ℕ → ℕ → Step → Part
attribute_behind at s e q bad = wrong
attribute_behind at s e q (behind f u) = more (attribute_from at e q f) (leading_name s) f u

abbrev pub value_behind : ℕ → Text → ℕ → Step → Part
value_behind at s e bad = wrong
value_behind at s e (behind q t) = attribute_behind at s e q (value q t)

abbrev pub eq_behind : ℕ → Text → Step → Part
eq_behind at s bad = wrong
eq_behind at s (behind e r) = value_behind at s e (eq e r)

-- [41] Attribute ::= Name Eq AttValue
unfoldable pub attribute : ℕ → Text → Part
attribute at s = eq_behind at s (name at s)

-- "(S Attribute)* S? '>'" or "'/>'": what stands behind white space. An attribute has white space before it.
abbrev pub part_behind : ℕ → Step → Part
part_behind at bad = wrong
part_behind at (behind a r) =
    if starts_with (bytes "/>") r then last empty_kind (a + 2) (drop 2 r) else
    if starts_with (bytes ">") r then last start_kind (a + 1) (drop 1 r) else
    if eqb a at then wrong else attribute a r

unfoldable pub part_of : ℕ → Text → Part
part_of at s = part_behind at (spaces at s)

pub data TagEnd : Type 0 where
  unended : TagEnd
  ended : ℕ → List AttributePairs → ℕ → Text → TagEnd

-- "Unique Att Spec": "An attribute name MUST NOT appear more than once in the same start-tag or empty-element tag." `keys` are those before, the last
-- one first; `next` reads on behind an attribute.
abbrev pub on_part : (List Text → List AttributePairs → ℕ → Text → TagEnd) → List Text → List AttributePairs → Part → TagEnd
on_part next keys before wrong = unended
on_part next keys before (last kind a r) = ended kind before a r
on_part next keys before (more x key a r) = if is_among key keys then unended else next (key ∷ keys) (before ++ x ∷ []) a r

-- Each turn takes a byte, so one turn more than there are bytes left is enough.
unfoldable pub attributes_from : ℕ → List Text → List AttributePairs → ℕ → Text → TagEnd
attributes_from zero keys before at s = unended
attributes_from (suc turns) keys before at s = on_part (attributes_from turns) keys before (part_of at s)

unfoldable pub attributes : ℕ → Text → TagEnd
attributes at s = attributes_from (suc (length s)) [] [] at s

pub data Tagged : Type 0 where
  untagged : Tagged
  tagged : ℕ → Pair → List AttributePairs → Text → ℕ → Text → Tagged

-- a tag by the pair and the text of its name and what stands behind it
abbrev pub tagged_by : Pair → Text → TagEnd → Tagged
tagged_by pair n unended = untagged
tagged_by pair n (ended kind xs a u) = tagged kind pair xs n a u

abbrev pub attributes_behind : ℕ → Text → Step → Tagged
attributes_behind n t bad = untagged
attributes_behind n t (behind e r) = tagged_by (span n e) (leading_name t) (attributes e r)

abbrev pub name_behind : Step → Tagged
name_behind bad = untagged
name_behind (behind n t) = attributes_behind n t (name n t)

unfoldable pub tag : ℕ → Text → Tagged
tag at s = name_behind (literal (bytes "<") at s)
