-- The words of tags, and the keys of attributes by number. What private functions go by.
--     numbered      texts, each with its number, from i on
--     known_word     the word that a local name is, none where it is no word
--     key_words      the nine keys in the order of xsd_parser's `Seen`; key_of: the number of a local name, key_count where it is none of them; key_number: of a
--                    key of the code
use Rattle.std.specs.Prelude.{ℕ, suc, List, [], ◌∷◌, map, Option, Some, None}
use Rattle.text.specs.Text.{Text, bytes}
use Rattle.xsd_parser.specs.declared.words.Word.{Word}
use Rattle.xsd_parser.specs.Words.{found, known_words}
use Rattle.tape.specs.declared.words.Key.{Key}

unfoldable pub numbered : ℕ → List Text → List (Text × ℕ)
numbered i [] = []
numbered i (w ∷ ws) = (w, i) ∷ numbered (suc i) ws

unfoldable pub known_word : Text → Option Word
known_word name = found None (map (λ (x : Text × Word). (x.0, Some x.1)) known_words) name

unfoldable pub key_words : List Text
key_words =
    bytes "name" ∷ bytes "type" ∷ bytes "base" ∷ bytes "value" ∷ bytes "minOccurs" ∷ bytes "maxOccurs" ∷ bytes "use" ∷ bytes "namespace" ∷ bytes "targetNamespace" ∷ []

abbrev pub key_count : ℕ
key_count = 9

-- the number of a key, key_count where there is none
unfoldable pub key_number : Option Key → ℕ
key_number (Some Key.Name) = 0
key_number (Some Key.Type) = 1
key_number (Some Key.Base) = 2
key_number (Some Key.Value) = 3
key_number (Some Key.MinOccurs) = 4
key_number (Some Key.MaxOccurs) = 5
key_number (Some Key.Use) = 6
key_number (Some Key.Namespace) = 7
key_number (Some Key.TargetNamespace) = 8
key_number None = key_count

unfoldable pub key_of : Text → ℕ
key_of name = found key_count (numbered 0 key_words) name
