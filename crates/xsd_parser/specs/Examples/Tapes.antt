-- Tapes written out as tags, for the examples.
--     Tag           a start tag, an empty tag, or a close; keys and values in order
--     text_of, tags_marks k  the text of a list of tags, and the marks where it stands in the text from k: each piece directly behind the one before
--     reads x tags  the reading of that tape into the sheet x
--     read_gives n p x  a reading's number and place with the sheet afterwards
--     name_attribute, type_attributes, based, value_attribute, schema, simpleType, complexType  attributes and tags that come often
--     taped         one name that unfolds all that the examples compute with
use Rattle.std.specs.Prelude.{ℕ, ◌+◌, List, [], ◌∷◌, ◌++◌, length}
use Prim.Native.String.{String}
use Rattle.text.specs.Text.{Text, bytes}
use Rattle.text.specs.Unfold.{computes as texts}
use Rattle.number.specs.Unfold.{computes as numbers}
use Rattle.builtin.specs.Unfold.{computes as builtins}
use Rattle.sheet.specs.Rows.{Sheet}
use Rattle.sheet.specs.Unfold.{computes as sheets}
use Rattle.xsd_types.specs.Unfold.{computes as schemas}
use Rattle.xsd_types.specs.Examples.Sheets.{answer, example_sheets}
use Rattle.xsd_parser.specs.Unfold.{computes as readings}
use Rattle.xsd_parser.specs.Read.{ReadAnswer, read}

pub data Tag : Type 0 where
  start : String → List (String × String) → Tag
  empty : String → List (String × String) → Tag
  close : Tag

unfoldable pub attributes_text : List (String × String) → Text
attributes_text [] = []
attributes_text (x ∷ xs) = bytes x.0 ++ bytes x.1 ++ attributes_text xs

unfoldable pub tag_text : Tag → Text
tag_text (start name xs) = bytes name ++ attributes_text xs
tag_text (empty name xs) = bytes name ++ attributes_text xs
tag_text close = []

unfoldable pub text_of : List Tag → Text
text_of [] = []
text_of (t ∷ ts) = tag_text t ++ text_of ts

unfoldable pub attributes_marks : ℕ → List (String × String) → List ℕ
attributes_marks k [] = []
attributes_marks k (x ∷ xs) =
    let key = length (bytes x.0) in
    let value = length (bytes x.1) in
    k ∷ key ∷ (k + key) ∷ value ∷ attributes_marks (k + key + value) xs

unfoldable pub tag_marks : ℕ → Tag → List ℕ
tag_marks k (start name xs) = 1 ∷ length xs ∷ k ∷ length (bytes name) ∷ attributes_marks (k + length (bytes name)) xs
tag_marks k (empty name xs) = 2 ∷ length xs ∷ k ∷ length (bytes name) ∷ attributes_marks (k + length (bytes name)) xs
tag_marks k close = 3 ∷ 0 ∷ []

unfoldable pub tags_marks : ℕ → List Tag → List ℕ
tags_marks k [] = []
tags_marks k (t ∷ ts) = tag_marks k t ++ tags_marks (k + length (tag_text t)) ts

unfoldable pub reads : Sheet → List Tag → ReadAnswer
reads x ts = read x (text_of ts) (tags_marks 0 ts)

unfoldable pub read_gives : ℕ → ℕ → Sheet → ReadAnswer
read_gives n p x = record { answer = answer n p; sheet = x }

-- attribute lists and tags that come often
unfoldable pub name_attribute : String → List (String × String)
name_attribute n = ("name", n) ∷ []

unfoldable pub type_attributes : String → String → List (String × String)
type_attributes n t = ("name", n) ∷ ("type", t) ∷ []

unfoldable pub based : String → List (String × String)
based b = ("base", b) ∷ []

unfoldable pub value_attribute : String → List (String × String)
value_attribute v = ("value", v) ∷ []

unfoldable pub schema : Tag
schema = start "schema" []

unfoldable pub simple_type : String → Tag
simple_type n = start "simpleType" (name_attribute n)

unfoldable pub complex_type : String → Tag
complex_type n = start "complexType" (name_attribute n)

unfoldable pub taped : Unit {0}
unfolding name_attribute type_attributes based value_attribute schema simple_type complex_type attributes_text tag_text text_of attributes_marks tag_marks tags_marks reads read_gives
    example_sheets texts numbers builtins sheets schemas readings
taped = tt
