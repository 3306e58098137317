-- The words of tags that 000 knows (the code's enums), and the word of a local name.
--     found         what stands beside a text in a list, by the first that is the text; else what is given for all others
--     known_words    each word with what it is; word_of: of a local name, `Other` where 000 knows none
--     word_number    a number for each word, so that two can be compared; same_word: they are one
--     facet_word     the facet that a word names, if it names one
use Rattle.std.specs.Prelude.{ℕ, Bool, List, [], ◌∷◌, eqb, if◌then◌else◌}
use Rattle.std.proofs.Math.Option.{Option, some, none}
use Rattle.text.specs.Text.{Text, bytes, same}
use Rattle.xsd_parser.specs.declared.words.Word.{Word}
use Rattle.xsd_parser.specs.declared.words.FacetWord.{FacetWord}

unfoldable pub found : {A : Type 0} → A → List (Text × A) → Text → A
found other [] s = other
found other (x ∷ xs) s = if same s x.0 then x.1 else found other xs s

unfoldable pub known_words : List (Text × Word)
known_words =
    (bytes "schema", Word.Schema) ∷ (bytes "simpleType", Word.SimpleType) ∷ (bytes "complexType", Word.ComplexType) ∷ (bytes "element", Word.Element)
    ∷ (bytes "restriction", Word.Restriction)
    ∷ (bytes "enumeration", Word.Facet FacetWord.Enumeration) ∷ (bytes "pattern", Word.Facet FacetWord.Pattern)
    ∷ (bytes "minLength", Word.Facet FacetWord.MinLength) ∷ (bytes "maxLength", Word.Facet FacetWord.MaxLength)
    ∷ (bytes "minInclusive", Word.Facet FacetWord.MinInclusive) ∷ (bytes "maxInclusive", Word.Facet FacetWord.MaxInclusive)
    ∷ (bytes "totalDigits", Word.Facet FacetWord.TotalDigits) ∷ (bytes "fractionDigits", Word.Facet FacetWord.FractionDigits)
    ∷ (bytes "sequence", Word.Sequence) ∷ (bytes "choice", Word.Choice) ∷ (bytes "simpleContent", Word.SimpleContent)
    ∷ (bytes "extension", Word.Extension) ∷ (bytes "any", Word.Any) ∷ (bytes "attribute", Word.Attribute) ∷ []

unfoldable pub word_of : Text → Word
word_of name = found Word.Other known_words name

unfoldable pub word_number : Word → ℕ
word_number Word.Schema = 0
word_number Word.SimpleType = 1
word_number Word.ComplexType = 2
word_number Word.Element = 3
word_number Word.Restriction = 4
word_number (Word.Facet f) = 5
word_number Word.Sequence = 6
word_number Word.Choice = 7
word_number Word.SimpleContent = 8
word_number Word.Extension = 9
word_number Word.Any = 10
word_number Word.Attribute = 11
word_number Word.Other = 12

unfoldable pub same_word : Word → Word → Bool
same_word a b = eqb (word_number a) (word_number b)

unfoldable pub facet_word : Word → Option FacetWord
facet_word Word.Schema = none
facet_word Word.SimpleType = none
facet_word Word.ComplexType = none
facet_word Word.Element = none
facet_word Word.Restriction = none
facet_word (Word.Facet f) = some f
facet_word Word.Sequence = none
facet_word Word.Choice = none
facet_word Word.SimpleContent = none
facet_word Word.Extension = none
facet_word Word.Any = none
facet_word Word.Attribute = none
facet_word Word.Other = none
