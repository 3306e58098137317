-- Events as values, and the lookups that 000 makes of them.
--     Tag           a tag's name with its attributes, keys and values in order
--     Event         a start tag, an empty tag, or a close
--     attr_value     the value of the first attribute whose key's local name is the word (000, `attr_value`)
--     event_name     the name that an event carries: the attribute `name` of its tag
--     or_empty       a value, the empty text where there is none (000, `unwrap_or_default`)
use Prim.Native.String.{String}
use Rattle.std.specs.Prelude.{List, [], ◌∷◌, if◌then◌else◌}
use Rattle.std.proofs.Math.Option.{Option, some, none}
use Rattle.text.specs.Text.{Text, is, local_name}

pub record Attr : Type 0 where
  pub key : Text
  pub value : Text

pub record Tag : Type 0 where
  pub name : Text
  pub attributes : List Attr

pub data Event : Type 0 where
  start : Tag → Event
  empty : Tag → Event
  close : Event

-- "Tag names and attribute keys are compared after their last colon."
unfoldable pub lookup : List Attr → String → Option Text
lookup [] word = none
lookup (x ∷ xs) word = if is (local_name x.key) word then some x.value else lookup xs word

-- "Lookup takes the first attribute whose key matches. `xmlns:name` counts as `name`."
unfoldable pub attr_value : Tag → String → Option Text
attr_value t word = lookup t.attributes word

unfoldable pub event_name : Event → Option Text
event_name (Event.start t) = attr_value t "name"
event_name (Event.empty t) = attr_value t "name"
event_name Event.close = none

unfoldable pub or_empty : Option Text → Text
or_empty none = []
or_empty (some v) = v
