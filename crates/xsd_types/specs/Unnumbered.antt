-- States without the numbers of order 5: c of every head is 0.
--     unnumbered_item, unnumbered_head, unnumbered_simple, unnumbered_complex, unnumbered_context, unnumbered_schema, unnumbered_reader    the parts
--     cleared_row    a row with c cleared if it is a head's
--     unnumbered    a state whose heads have the number 0
use Rattle.std.specs.Prelude.{map, if◌then◌else◌}
use Rattle.sheet.specs.Rows.{Row, row}
use Rattle.xsd_types.specs.Types.{Item, Schema}
use Rattle.xsd_types.specs.State.{HeadNumber, SimpleTypeBuilder, ComplexTypeBuilder, Context, Reader, State}
use Rattle.xsd_types.specs.Good.{is_head}

unfoldable pub cleared_row : Row → Row
cleared_row r = row r.tag r.texts r.a r.b (if is_head r.tag then 0 else r.c)

unfoldable pub unnumbered_item : Item → Item
unnumbered_item (Item.element e) = Item.element (record { name = e.name; type_name = e.type_name; event = 0 })
unnumbered_item (Item.simple_type t) = Item.simple_type (record { name = t.name; base = t.base; facets = t.facets; event = 0 })
unnumbered_item (Item.complex_type t) = Item.complex_type (record { name = t.name; content = t.content; event = 0 })

unfoldable pub unnumbered_head : HeadNumber → HeadNumber
unnumbered_head h = record { name = h.name; event = 0 }

unfoldable pub unnumbered_simple : SimpleTypeBuilder → SimpleTypeBuilder
unnumbered_simple t = record { head = unnumbered_head t.head; base = t.base; facets = t.facets; nesting_depth = t.nesting_depth }

unfoldable pub unnumbered_complex : ComplexTypeBuilder → ComplexTypeBuilder
unnumbered_complex t = record { head = unnumbered_head t.head; content = t.content; nesting_depth = t.nesting_depth }

unfoldable pub unnumbered_context : Context → Context
unnumbered_context Context.no_context = Context.no_context
unnumbered_context (Context.in_schema n) = Context.in_schema n
unnumbered_context (Context.in_simple_type t) = Context.in_simple_type (unnumbered_simple t)
unnumbered_context (Context.in_complex_type t) = Context.in_complex_type (unnumbered_complex t)

unfoldable pub unnumbered_schema : Schema → Schema
unnumbered_schema s = record { target_namespace = s.target_namespace; items = map unnumbered_item s.items }

unfoldable pub unnumbered_reader : Reader → Reader
unnumbered_reader r = record { schema = unnumbered_schema r.schema; root_seen = r.root_seen; context = unnumbered_context r.context }

unfoldable pub unnumbered : State → State
unnumbered s = record { reader = unnumbered_reader s.reader; events = s.events; open_tags = s.open_tags; by_standard = s.by_standard }
