-- What is seen of a tag on the tape: the values that are looked up, and where they stand.
--     lookup_text    xsd_parser's `lookup` where the word is a text
--     value_of       the text that an answer of the code holds, if it holds one
--     value_at       the value whose pair stands at a place of the marks; 0 is no value's place
--     value_under    the value that the code's record has for a key
--     or_other        a value, or another where there is none
--     kept_first     the places with one more, unless the key has one or is none of the nine
--     PlacesOf      the places of the nine keys say what the lookups in these attributes give
--     seen_at        what the code's record says is seen
use Rattle.std.specs.Prelude.{ℕ, zero, suc, ◌<◌, ◌≡◌, ◌&&◌, List, [], ◌∷◌, eqb, ltb, length, get_or, set, if◌then◌else◌, Option as Answer, Some, None}
use Rattle.std.specs.Borrow.{Bor}
use Rattle.std.proofs.Math.Option.{Option, some, none}
use Rattle.text.specs.Text.{Text, same, local_name}
use Rattle.xsd_parser.specs.Event.{Attr}
use Rattle.xsd_parser.specs.Seen.{Seen}
use Rattle.xsd_parser.specs.Tape.{pair_text}
use Rattle.tape.specs.Pairs.{pair_at}
use Rattle.tape.specs.declared.words.Key.{Key}
use Rattle.tape.specs.Keys.{key_words, key_count, key_number}
use Rattle.tape.specs.declared.attributes.SeenTag.{SeenTag}

unfoldable pub lookup_text : List Attr → Text → Option Text
lookup_text [] word = none
lookup_text (x ∷ xs) word = if same (local_name x.key) word then some x.value else lookup_text xs word

unfoldable pub value_of : Answer (Bor Text) → Option Text
value_of (Some v) = some v.now
value_of None = none

unfoldable pub value_at : Text → List ℕ → ℕ → Option Text
value_at text marks zero = none
value_at text marks (suc n) = some (pair_text text (pair_at marks (suc n)))

unfoldable pub value_under : SeenTag → Key → Option Text
value_under t key = value_at t.view.text.now t.view.marks.now (get_or t.places (key_number (Some key)) 0)

unfoldable pub or_other : Option Text → Option Text → Option Text
or_other none other = other
or_other (some v) other = some v

unfoldable pub kept_first : List ℕ → ℕ → ℕ → List ℕ
kept_first places key at = if ltb key key_count && eqb (get_or places key 0) 0 then set places key at else places

pub record PlacesOf (text : Text) (marks : List ℕ) (attributes : List Attr) (places : List ℕ) : Type 0 where
  pub many : length places ≡ key_count
  pub values : (k : ℕ) → k < key_count → value_at text marks (get_or places k 0) ≡ lookup_text attributes (get_or key_words k [])

unfoldable pub seen_at : SeenTag → Seen
seen_at t =
    record {
      word = t.word;
      name = value_under t Key.Name;
      type_name = value_under t Key.Type;
      base = value_under t Key.Base;
      value = value_under t Key.Value;
      min_occurs = value_under t Key.MinOccurs;
      max_occurs = value_under t Key.MaxOccurs;
      usage = value_under t Key.Use;
      namespace = value_under t Key.Namespace;
      target_namespace = value_under t Key.TargetNamespace;
    }
