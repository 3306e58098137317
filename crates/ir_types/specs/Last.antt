-- Paper 01's rule for a name that comes twice, as 003's IndexMap has it. Since order 4 no call follows it; the claim that it touches no accepted sheet
-- is the only place that cites it.
--     insert        a definition put in: "Each normalised name holds its last definition at the place where it first came."
--     insert_all     definitions put in one after the other
use Rattle.std.specs.Prelude.{List, [], ◌∷◌, if◌then◌else◌}
use Rattle.text.specs.Text.{same}
use Rattle.ir_types.specs.Types.{TypeDef, name_of}

unfoldable pub insert : TypeDef → List TypeDef → List TypeDef
insert d [] = d ∷ []
insert d (e ∷ es) = if same (name_of e) (name_of d) then d ∷ es else e ∷ insert d es

unfoldable pub insert_all : List TypeDef → List TypeDef → List TypeDef
insert_all [] types = types
insert_all (d ∷ ds) types = insert_all ds (insert d types)
