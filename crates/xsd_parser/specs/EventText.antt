-- Events whose texts may stand in a sheet: "all names are bytes below 128", and by order 12 characters up to U+017F.
--     attr_is_text        the attribute's key and value are texts
--     tag_ok         the tag's name, keys and values are texts
--     event_ok       the event's tag is such; a close has none
--     judged_ok      a judged record whose event, if it is one, is such
use Rattle.std.specs.Prelude.{Bool, true, ◌&&◌}
use Rattle.text.specs.Text.{every, is_text}
use Rattle.xsd_parser.specs.Event.{Attr, Tag, Event}
use Rattle.xsd_parser.specs.Tape.{Judged, event, refused}

unfoldable pub attr_is_text : Attr → Bool
attr_is_text x = is_text x.key && is_text x.value

unfoldable pub tag_ok : Tag → Bool
tag_ok t = is_text t.name && every attr_is_text t.attributes

unfoldable pub event_ok : Event → Bool
event_ok (Event.start t) = tag_ok t
event_ok (Event.empty t) = tag_ok t
event_ok Event.close = true

unfoldable pub judged_ok : Judged → Bool
judged_ok (event e) = event_ok e
judged_ok (refused r) = true
