-- What the code reads of what is seen of a tag.
--     both_values          two values, where both are there; typed_values: what the code's answer says of them
--     max_answer     what the code's answer says of maxOccurs
use Rattle.std.specs.Prelude.{Option as Answer, Some, None}
use Rattle.std.proofs.Math.Option.{Option, some, none}
use Rattle.text.specs.Text.{Text}
use Rattle.sheet.specs.Returned.{invalid_attribute_value}
use Rattle.xsd_types.specs.Types.{MaxOccurs}
use Rattle.xsd_parser.specs.Handlers.{Outcome, ok, refuse}
use Rattle.xsd_decide.specs.declared.values.NameAndType.{NameAndType}
use Rattle.xsd_decide.specs.declared.values.MaxOccurs.{MaxOccurs as Max}

unfoldable pub both_values : Option Text → Option Text → Option (Text × Text)
both_values none type_name = none
both_values (some name) none = none
both_values (some name) (some type_name) = some (name, type_name)

unfoldable pub typed_values : Answer NameAndType → Option (Text × Text)
typed_values (Some p) = some (p.name.now, p.typ.now)
typed_values None = none

unfoldable pub max_answer : Answer Max → Outcome MaxOccurs
max_answer (Some (Max.Bounded n)) = ok (MaxOccurs.bounded n)
max_answer (Some Max.Unbounded) = ok MaxOccurs.unbounded
max_answer None = refuse invalid_attribute_value
