-- Order 5 in the graph: "Every head of both sheets .. carries in c the number in the run of the event that gave it its name."
--     type_event       the number in the run that a type has in c
--     TypePasses, TypesPass    a type's name is a name normalised that passes a test with the type's number; all types
--     GraphPasses   every root, by its own name, and every type does
use Rattle.std.specs.Prelude.{ℕ, ◌≡◌, Bool, true, List, [], ◌∷◌}
use Rattle.text.specs.Text.{Text, every}
use Rattle.names.specs.Names.{normalize_type_name}
use Rattle.ir_types.specs.Types.{TypeDef, RootElement, TypeGraph, name_of}

unfoldable pub type_event : TypeDef → ℕ
type_event (TypeDef.struct event n fs) = event
type_event (TypeDef.enum event n vs) = event
type_event (TypeDef.newtype event n i cs) = event
type_event (TypeDef.code_enum event n cs) = event
type_event (TypeDef.value_with_attr event n v xs) = event
type_event (TypeDef.opaque event n ns) = event

pub record TypePasses (p : Text → ℕ → Bool) (d : TypeDef) : Type 0 where
  pub name : Text
  pub normal : name_of d ≡ normalize_type_name name
  pub passes : p name (type_event d) ≡ true

pub data TypesPass (p : Text → ℕ → Bool) : List TypeDef → Type 0 where
  end : TypesPass p []
  more : {d : TypeDef} {ds : List TypeDef} → TypePasses p d → TypesPass p ds → TypesPass p (d ∷ ds)

pub record GraphPasses (p : Text → ℕ → Bool) (g : TypeGraph) : Type 0 where
  pub roots : every (λ (r : RootElement). p r.xml_name r.event) g.root_elements ≡ true
  pub types : TypesPass p g.types
