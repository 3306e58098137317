-- The direct children of the outermost `schema` tags, by a walk over the tags that knows no context. Order 3, with choice 1: "nesting in context 1 counts
-- the open tags below the schema, a close at 0 ends it, only its direct children become elements or types".
--     ChildHead          what a direct child becomes: an element of a name and a type, or a type of a name
--     depth_after    how many tags are open from the outermost `schema` on, that one too; 0 outside
--     child_head (named_head, element_head)    the head of a direct child, if it becomes one; head_at_depth: of a tag at a depth
--     direct_children (children_from)    the heads of all direct children in order
--     child_heads (item_head, open_head)    the heads that a reader has kept, the open type last
--     only_types (only_types_from)    directly below a schema nothing is started but types, so that its own close is the only one that comes in context 1
--     starts_no_other a start of a type, or no start
use Rattle.std.specs.Prelude.{ℕ, zero, suc, List, [], ◌∷◌, ◌++◌, map, Bool, true, not, ◌&&◌, ◌||◌, eqb, if◌then◌else◌}
use Rattle.std.proofs.Math.Option.{Option, some, none}
use Rattle.text.specs.Text.{Text}
use Rattle.xsd_types.specs.Types.{Item}
use Rattle.xsd_types.specs.State.{Context, Reader}
use Rattle.xsd_parser.specs.declared.words.Word.{Word}
use Rattle.xsd_parser.specs.Event.{Event}
use Rattle.xsd_parser.specs.Seen.{seen, tag_is}
use Rattle.xsd_parser.specs.Tape.{Judged, event, refused}

pub data ChildHead : Type 0 where
  element : Text → Text → ChildHead
  simple_type complex_type : Text → ChildHead

unfoldable pub depth_after : Event → ℕ → ℕ
depth_after (Event.start t) zero = if tag_is (seen t) Word.Schema then 1 else 0
depth_after (Event.start t) (suc n) = suc (suc n)
depth_after (Event.empty t) n = n
depth_after Event.close zero = zero
depth_after Event.close (suc n) = n

unfoldable pub named_head : (Text → ChildHead) → Option Text → List ChildHead
named_head f none = []
named_head f (some name) = f name ∷ []

unfoldable pub element_head : Option Text → Option Text → List ChildHead
element_head none type_name = []
element_head (some name) none = []
element_head (some name) (some type_name) = ChildHead.element name type_name ∷ []

-- "start `simpleType` or `complexType` needs a name and opens a type; `element`, start or empty, is kept if it has name and type"
unfoldable pub child_head : Event → List ChildHead
child_head (Event.start t) =
    if tag_is (seen t) Word.SimpleType then named_head ChildHead.simple_type (seen t).name else
    if tag_is (seen t) Word.ComplexType then named_head ChildHead.complex_type (seen t).name else
    if tag_is (seen t) Word.Element then element_head (seen t).name (seen t).type_name else []
child_head (Event.empty t) = if tag_is (seen t) Word.Element then element_head (seen t).name (seen t).type_name else []
child_head Event.close = []

unfoldable pub head_at_depth : ℕ → Event → List ChildHead
head_at_depth depth e = if eqb depth 1 then child_head e else []

-- a refused record ends the walk: "the first refused one .. drops the rest"
unfoldable pub children_from : ℕ → List Judged → List ChildHead
children_from depth [] = []
children_from depth (refused r ∷ js) = []
children_from depth (event e ∷ js) = head_at_depth depth e ++ children_from (depth_after e depth) js

unfoldable pub direct_children : List Judged → List ChildHead
direct_children js = children_from 0 js

unfoldable pub item_head : Item → ChildHead
item_head (Item.element e) = ChildHead.element e.name e.type_name
item_head (Item.simple_type t) = ChildHead.simple_type t.name
item_head (Item.complex_type t) = ChildHead.complex_type t.name

unfoldable pub open_head : Context → List ChildHead
open_head Context.no_context = []
open_head (Context.in_schema n) = []
open_head (Context.in_simple_type t) = ChildHead.simple_type t.head.name ∷ []
open_head (Context.in_complex_type t) = ChildHead.complex_type t.head.name ∷ []

unfoldable pub child_heads : Reader → List ChildHead
child_heads r = map item_head r.schema.items ++ open_head r.context

unfoldable pub starts_no_other : Event → Bool
starts_no_other (Event.start t) = tag_is (seen t) Word.SimpleType || tag_is (seen t) Word.ComplexType
starts_no_other (Event.empty t) = true
starts_no_other Event.close = true

unfoldable pub only_types_from : ℕ → List Judged → Bool
only_types_from depth [] = true
only_types_from depth (refused r ∷ js) = true
only_types_from depth (event e ∷ js) = (not (eqb depth 1) || starts_no_other e) && only_types_from (depth_after e depth) js

unfoldable pub only_types : List Judged → Bool
only_types js = only_types_from 0 js
