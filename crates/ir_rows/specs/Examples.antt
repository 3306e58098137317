-- Small sheets through the definitions, by computation: the rows that lowering makes of a sheet's rows are the graph's rows, dropped enumerations and an
-- open type among them, and the name that came before is found.
use Rattle.std.specs.Prelude.{ℕ, ◌≡◌, refl, true, false, List, [], ◌∷◌}
use Rattle.std.proofs.Math.Option.{Option, some, none}
use Rattle.text.specs.Text.{Text, bytes}
use Rattle.text.specs.Unfold.{computes as texts}
use Rattle.builtin.specs.Unfold.{computes as builtin_names}
use Rattle.names.specs.Unfold.{computes as conversions}
use Rattle.sheet.specs.Rows.{Sheet, Row}
use Rattle.sheet.specs.Unfold.{computes as sheets}
use Rattle.xsd_types.specs.Types.{Facet, MaxOccurs, ComplexContent, Item}
use Rattle.xsd_types.specs.State.{Context, State}
use Rattle.xsd_types.specs.Count.{sheet_of}
use Rattle.xsd_types.specs.Unfold.{computes as schemas}
use Rattle.ir_types.specs.Types.{TypeGraph}
use Rattle.ir_types.specs.Rows.{rows_of}
use Rattle.ir_types.specs.Unfold.{computes as graphs}
use Rattle.ir_lower.specs.Lower.{lower}
use Rattle.ir_lower.specs.Repeated.{first_repeated}
use Rattle.ir_lower.specs.Unfold.{computes as lowerings}
use Rattle.xsd_types.specs.Places.{rows_from}
use Rattle.xsd_types.specs.Refused.{refused_place}
use Rattle.ir_rows.specs.Types.{finished_places, heads_at, graph_row_list}
use Rattle.ir_rows.specs.Unfold.{computes as places}

simple : Text → Text → List Facet → Item
simple name base facets = Item.simple_type (record { name = name; base = base; facets = facets; event = 4 })

complex : Text → ComplexContent → Item
complex name content = Item.complex_type (record { name = name; content = content; event = 7 })

state : List Item → Context → State
state items context =
    record { reader = record { schema = record { target_namespace = bytes "urn"; items = items }; root_seen = true; context = context }; events = 9; open_tags = 2; by_standard = false }

-- the rows that a sheet's rows up to a place give
made : Sheet → ℕ → List Row
made x end = graph_row_list x.rows x.names end (finished_places x.rows x.names end)

graph_of : Option TypeGraph → List Row
graph_of none = []
graph_of (some g) = rows_of g

-- simple types before the complex one, which has the name of the first of them; the enumeration of "B" is dropped, that of "C" is a code
mixed : List Item
mixed =
    complex (bytes "A") (ComplexContent.sequence (record { name = bytes "CreDt"; type_name = bytes "B_T"; min_occurs = 0; max_occurs = MaxOccurs.bounded 1 } ∷ []))
    ∷ Item.element (record { name = bytes "D"; type_name = bytes "A"; event = 2 })
    ∷ simple (bytes "A") (bytes "string") []
    ∷ simple (bytes "B") (bytes "date") (Facet.enumeration (bytes "e") ∷ Facet.max_length 3 ∷ [])
    ∷ simple (bytes "C") (bytes "QName") (Facet.enumeration (bytes "f") ∷ [])
    ∷ []

mixed-rows : let x = sheet_of (state mixed Context.no_context) 120 40 in
    (made x 11 ≡ graph_of (lower (state mixed Context.no_context).reader.schema)) × (finished_places x.rows x.names 11 ≡ 5 ∷ 6 ∷ 9 ∷ 2 ∷ []) × (first_repeated [] (heads_at x.rows x.names 11) ≡ some 2)
unfolding made graph_of simple complex state mixed texts builtin_names conversions sheets schemas graphs lowerings places
mixed-rows = (refl, refl, refl)

-- the open type, which stands last, is not lowered: the finished items end at its head
opened : Context
opened = Context.in_simple_type (record { head = record { name = bytes "O"; event = 8 }; base = bytes "QName"; facets = Facet.pattern (bytes "p") ∷ []; nesting_depth = 0 })

values : List Item
values = complex (bytes "V") (ComplexContent.simple_content (bytes "decimal") (record { name = bytes "Ccy"; type_name = bytes "Cur"; required = true } ∷ [])) ∷ []

open-rows : let x = sheet_of (state values opened) 60 40 in
    (made x 4 ≡ graph_of (lower (state values opened).reader.schema)) × (refused_place 2 (rows_from x.rows x.names 2 4) ≡ 0) × (refused_place 2 (rows_from x.rows x.names 2 6) ≡ 4)
unfolding made graph_of simple complex state opened values texts builtin_names conversions sheets schemas graphs lowerings places
open-rows = (refl, refl, refl)
