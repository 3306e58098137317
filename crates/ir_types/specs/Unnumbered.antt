-- Graphs without the numbers of order 5: c of every head is 0.
--     unnumbered_root, unnumbered_type    of the parts
--     unnumbered_graph   a graph whose roots and types have the number 0
use Rattle.std.specs.Prelude.{map}
use Rattle.ir_types.specs.Types.{TypeDef, RootElement, TypeGraph}

unfoldable pub unnumbered_root : RootElement → RootElement
unnumbered_root e = record { xml_name = e.xml_name; type_name = e.type_name; event = 0 }

unfoldable pub unnumbered_type : TypeDef → TypeDef
unnumbered_type (TypeDef.struct event n fs) = TypeDef.struct 0 n fs
unnumbered_type (TypeDef.enum event n vs) = TypeDef.enum 0 n vs
unnumbered_type (TypeDef.newtype event n i cs) = TypeDef.newtype 0 n i cs
unnumbered_type (TypeDef.code_enum event n cs) = TypeDef.code_enum 0 n cs
unnumbered_type (TypeDef.value_with_attr event n v xs) = TypeDef.value_with_attr 0 n v xs
unnumbered_type (TypeDef.opaque event n ns) = TypeDef.opaque 0 n ns

unfoldable pub unnumbered_graph : TypeGraph → TypeGraph
unnumbered_graph g = record { namespace = g.namespace; root_elements = map unnumbered_root g.root_elements; types = map unnumbered_type g.types }
