-- What 000 sees of a tag: its word, and the values that it looks up.
--     Seen          the record; `type_name` and `usage` are the values of the keys `type` and `use`
--     seen          of a tag
--     tag_is         the tag's word is the one
use Rattle.std.specs.Prelude.{Bool}
use Rattle.std.proofs.Math.Option.{Option}
use Rattle.text.specs.Text.{Text, local_name}
use Rattle.xsd_parser.specs.declared.words.Word.{Word}
use Rattle.xsd_parser.specs.Words.{word_of, same_word}
use Rattle.xsd_parser.specs.Event.{Tag, attr_value}

pub record Seen : Type 0 where
  pub word : Word
  pub name : Option Text
  pub type_name : Option Text
  pub base : Option Text
  pub value : Option Text
  pub min_occurs : Option Text
  pub max_occurs : Option Text
  pub usage : Option Text
  pub namespace : Option Text
  pub target_namespace : Option Text

-- "Tag names and attribute keys are compared after their last colon. Lookup takes the first attribute whose key matches."
unfoldable pub seen : Tag → Seen
seen t =
    record {
      word = word_of (local_name t.name);
      name = attr_value t "name";
      type_name = attr_value t "type";
      base = attr_value t "base";
      value = attr_value t "value";
      min_occurs = attr_value t "minOccurs";
      max_occurs = attr_value t "maxOccurs";
      usage = attr_value t "use";
      namespace = attr_value t "namespace";
      target_namespace = attr_value t "targetNamespace";
    }

unfoldable pub tag_is : Seen → Word → Bool
tag_is t word = same_word t.word word
