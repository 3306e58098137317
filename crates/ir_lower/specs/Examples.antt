-- Small schemas through the definitions, by computation.
use Rattle.std.specs.Prelude.{◌≡◌, refl, true, false, List, [], ◌∷◌, ℕ, replicate}
use Rattle.std.proofs.Math.Option.{Option, some, none}
use Rattle.text.specs.Text.{Text, bytes}
use Rattle.text.specs.Unfold.{computes as texts}
use Rattle.builtin.specs.Builtin.{RustType}
use Rattle.builtin.specs.Unfold.{computes as builtin_names}
use Rattle.names.specs.Unfold.{computes as conversions}
use Rattle.sheet.specs.Rows.{Sheet}
use Rattle.sheet.specs.Unfold.{computes as sheets}
use Rattle.xsd_types.specs.Types.{Facet, MaxOccurs, ComplexContent, Item, Schema}
use Rattle.xsd_types.specs.State.{ComplexContentBuilder, Context, State, first_state}
use Rattle.xsd_types.specs.Count.{sheet_of}
use Rattle.xsd_types.specs.Unfold.{computes as schemas}
use Rattle.ir_types.specs.Types.{TypeRef, Cardinality, TypeDef, TypeGraph}
use Rattle.ir_types.specs.Unfold.{computes as graphs}
use Rattle.ir_lower.specs.Lower.{lower_cardinality, lower}
use Rattle.ir_lower.specs.Call.{Lowered, lowering}
use Rattle.ir_lower.specs.Unfold.{computes as lowerings}

schema : List Item → Schema
schema items = record { target_namespace = []; items = items }

simple : Text → Text → List Facet → Item
simple name base facets = Item.simple_type (record { name = name; base = base; facets = facets; event = 4 })

complex : Text → ComplexContent → Item
complex name content = Item.complex_type (record { name = name; content = content; event = 7 })

graph : List TypeDef → Option TypeGraph
graph types = some (record { namespace = []; root_elements = []; types = types })

-- ---- the graph

-- all finished types, simple ones before complex, whatever their names: a name that came before is judged by the call
in_order : lower (schema (complex (bytes "A") (ComplexContent.any none) ∷ simple (bytes "B") (bytes "string") [] ∷ simple (bytes "A") (bytes "date") [] ∷ []))
    ≡ graph (TypeDef.newtype 4 (bytes "B") RustType.string [] ∷ TypeDef.newtype 4 (bytes "A") RustType.date [] ∷ TypeDef.opaque 7 (bytes "A") none ∷ [])
unfolding schema simple complex graph texts builtin_names conversions schemas graphs lowerings
in_order = refl

-- a code enum's base is not looked at
code-enum : lower (schema (simple (bytes "C") (bytes "QName") (Facet.enumeration (bytes "TEST-VALUE") ∷ []) ∷ []))
    ≡ graph (TypeDef.code_enum 4 (bytes "C") (record { xml_value = bytes "TEST-VALUE"; rust_name = bytes "TestValue" } ∷ []) ∷ [])
unfolding schema simple graph texts builtin_names conversions schemas graphs lowerings
code-enum = refl

-- a field: its names, its reference, its cardinality
field : lower (schema (complex (bytes "S") (ComplexContent.sequence (record { name = bytes "CreDt"; type_name = bytes "a_b"; min_occurs = 0; max_occurs = MaxOccurs.bounded 1 } ∷ [])) ∷ []))
    ≡ graph (TypeDef.struct 7 (bytes "S") (record { xml_name = bytes "CreDt"; rust_name = bytes "cre_dt"; type_ref = TypeRef.named (bytes "AB"); cardinality = Cardinality.optional } ∷ []) ∷ [])
unfolding schema complex graph texts builtin_names conversions schemas graphs lowerings
field = refl

-- a variant keeps its name: no snake form; its reference by itself, a built-in name after its last colon
variant : lower (schema (complex (bytes "E")
    (ComplexContent.choice (record { name = bytes "OrgId"; type_name = bytes "xs:date" } ∷ record { name = bytes "PrvtId"; type_name = bytes "Id" } ∷ [])) ∷ []))
    ≡ graph (TypeDef.enum 7 (bytes "E") (record { xml_name = bytes "OrgId"; rust_name = bytes "OrgId"; type_ref = TypeRef.builtin RustType.date }
    ∷ record { xml_name = bytes "PrvtId"; rust_name = bytes "PrvtId"; type_ref = TypeRef.named (bytes "Id") } ∷ []) ∷ [])
unfolding schema complex graph texts builtin_names conversions schemas graphs lowerings
variant = refl

-- max 0 is required
cardinalities : (lower_cardinality 0 (MaxOccurs.bounded 0) ≡ Cardinality.required) × (lower_cardinality 0 (MaxOccurs.bounded 1) ≡ Cardinality.optional)
    × (lower_cardinality 5 MaxOccurs.unbounded ≡ Cardinality.vec) × (lower_cardinality 0 (MaxOccurs.bounded 2) ≡ Cardinality.bounded_vec 2)
    × (lower_cardinality 7 (MaxOccurs.bounded 3) ≡ Cardinality.bounded_vec 3) × (lower_cardinality 5 (MaxOccurs.bounded 1) ≡ Cardinality.required)
unfolding lowerings
cardinalities = (refl, refl, refl, refl, refl, refl)

-- ---- the call

state_in : Context → ℕ → List Item → State
state_in context open_tags items =
    record { reader = record { schema = schema items; root_seen = true; context = context }; events = 9; open_tags = open_tags; by_standard = false }

state : List Item → State
state items = state_in Context.no_context 0 items

sevens : ℕ → ℕ → Sheet
sevens rows names = record { rows = replicate rows 7; names = replicate names 7 }

call : State → ℕ → ℕ → ℕ → Lowered
call s rows names scratch = lowering (sheet_of s 100 40) (sevens rows names) (replicate scratch 7)

-- the answer, with the graph's buffers and the scratch zero, or as they were
zeroed : ℕ → ℕ → ℕ → ℕ → ℕ → Lowered
zeroed number place rows names scratch =
    record { answer = record { number = number; place = place }; graph = record { rows = replicate rows 0; names = replicate names 0 }; scratch = replicate scratch 0 }

kept : ℕ → ℕ → ℕ → ℕ → Lowered
kept number rows names scratch = record { answer = record { number = number; place = 0 }; graph = sevens rows names; scratch = replicate scratch 7 }

a : Item
a = simple (bytes "A") (bytes "string") (Facet.pattern (bytes "p") ∷ [])

bad : Item
bad = simple (bytes "A") (bytes "QName") []

-- 13: the place is the row of the first refused simple type's head
unknown-base : call (state (Item.element (record { name = bytes "D"; type_name = bytes "A"; event = 1 }) ∷ a ∷ bad ∷ bad ∷ [])) 20 3 64 ≡ zeroed 13 5 20 3 64
unfolding call sevens zeroed state_in state schema simple a bad texts builtin_names conversions sheets schemas graphs lowerings
unknown-base = refl

-- 12: no root seen
no-root : call (first_state false) 20 0 64 ≡ zeroed 12 0 20 0 64
unfolding call sevens zeroed texts builtin_names conversions sheets schemas graphs lowerings
no-root = refl

-- the choice is not looked at
no-root-standard : call (first_state true) 20 0 64 ≡ zeroed 12 0 20 0 64
unfolding call sevens zeroed texts builtin_names conversions sheets schemas graphs lowerings
no-root-standard = refl

-- 14 before 12, with no types at all
scratch-before-root : call (first_state false) 20 0 63 ≡ kept 14 20 0 63
unfolding call sevens kept texts builtin_names conversions sheets schemas graphs lowerings
scratch-before-root = refl

-- 14: 63 numbers are too few, for two types and for one
scratch-short : (call (state (a ∷ a ∷ [])) 40 9 63 ≡ kept 14 40 9 63) × (call (state (a ∷ [])) 40 9 63 ≡ kept 14 40 9 63)
unfolding call sevens kept state_in state schema simple a texts builtin_names conversions sheets schemas graphs lowerings
scratch-short = (refl, refl)

-- 0 with exact room: four rows and two bytes of names; 15 with one row or one byte less
exact-room : call (state (a ∷ [])) 40 2 64
    ≡ record {
      answer = record { number = 0; place = 4 };
      graph =
          record {
            rows = 0 ∷ 4 ∷ 2 ∷ 0 ∷ 1 ∷ 0 ∷ 0 ∷ 0 ∷ 0 ∷ 0 ∷ 1 ∷ 0 ∷ 0 ∷ 0 ∷ 0 ∷ 0 ∷ 0 ∷ 0 ∷ 0 ∷ 0
                ∷ 5 ∷ 0 ∷ 1 ∷ 0 ∷ 0 ∷ 0 ∷ 0 ∷ 1 ∷ 0 ∷ 4 ∷ 11 ∷ 1 ∷ 1 ∷ 0 ∷ 0 ∷ 0 ∷ 0 ∷ 0 ∷ 0 ∷ 0 ∷ [];
            names = bytes "Ap";
          };
      scratch = replicate 64 0;
    }
unfolding call sevens state_in state schema simple a texts builtin_names conversions sheets schemas graphs lowerings
exact-room = refl

one-row-less : call (state (a ∷ [])) 30 2 64 ≡ zeroed 15 0 30 2 64
unfolding call sevens zeroed state_in state schema simple a texts builtin_names conversions sheets schemas graphs lowerings
one-row-less = refl

one-byte-less : call (state (a ∷ [])) 40 1 64 ≡ zeroed 15 0 40 1 64
unfolding call sevens zeroed state_in state schema simple a texts builtin_names conversions sheets schemas graphs lowerings
one-byte-less = refl

-- ---- 20, order 4. A simple type has one row, a complex one two

s : Text → Item
s name = simple name (bytes "string") []

c : Text → Item
c name = complex name (ComplexContent.sequence (record { name = bytes "e"; type_name = bytes "t"; min_occurs = 1; max_occurs = MaxOccurs.bounded 1 } ∷ []))

-- number and place of a lowering with scratch enough and a graph of 20 numbers without names: 20 comes before 15
IsJudged : List Item → ℕ → ℕ → Type 0
IsJudged items number place = call (state items) 20 0 64 ≡ zeroed number place 20 0 64

-- the complex one comes behind the simple one, wherever it stands
simple-first : IsJudged (s (bytes "a_b") ∷ c (bytes "AB") ∷ []) 20 3 × IsJudged (c (bytes "AB") ∷ s (bytes "a_b") ∷ []) 20 2 × IsJudged (c (bytes "AB") ∷ c (bytes "X") ∷ c (bytes "a_b") ∷ []) 20 6
unfolding IsJudged call sevens zeroed state_in state schema simple complex s c texts builtin_names conversions sheets schemas graphs lowerings
simple-first = (refl, refl, refl)

-- the earliest second member, not the partner of the earliest first
earliest-second : IsJudged (s (bytes "A") ∷ s (bytes "B") ∷ s (bytes "B") ∷ s (bytes "A") ∷ []) 20 4 × IsJudged (c (bytes "B") ∷ c (bytes "B") ∷ s (bytes "A") ∷ s (bytes "A") ∷ []) 20 7
unfolding IsJudged call sevens zeroed state_in state schema simple complex s c texts builtin_names conversions sheets schemas graphs lowerings
earliest-second = (refl, refl)

-- 13 before 20, also where the pair's own member is the bad one; 14 before both
thirteen-first : IsJudged (s (bytes "AB") ∷ s (bytes "AB") ∷ simple (bytes "Q") (bytes "QName") [] ∷ []) 13 4 × IsJudged (bad ∷ a ∷ []) 13 2 × IsJudged (a ∷ bad ∷ []) 13 4
unfolding IsJudged call sevens zeroed state_in state schema simple a bad s texts builtin_names conversions sheets schemas graphs lowerings
thirteen-first = (refl, refl, refl)

fourteen-first : call (state (s (bytes "AB") ∷ s (bytes "AB") ∷ [])) 20 0 63 ≡ kept 14 20 0 63
unfolding call sevens kept state_in state schema simple s texts builtin_names conversions sheets schemas graphs lowerings
fourteen-first = refl

-- `_` and the empty name are one; `ab`, `Ab` and `aB` are three, and 15 follows
one_name : IsJudged (s (bytes "_") ∷ s [] ∷ []) 20 3 × IsJudged (s (bytes "ab") ∷ s (bytes "Ab") ∷ s (bytes "aB") ∷ []) 15 0
unfolding IsJudged call sevens zeroed state_in state schema simple s texts builtin_names conversions sheets schemas graphs lowerings
one_name = (refl, refl)

-- an element is no type, and the open type is not finished
elements-apart : (call (state (Item.element (record { name = bytes "AB"; type_name = bytes "AB"; event = 0 }) ∷ s (bytes "AB") ∷ [])) 40 6 64).answer ≡ record { number = 0; place = 4 }
unfolding call sevens state_in state schema simple s texts builtin_names conversions sheets schemas graphs lowerings
elements-apart = refl

opened : State
opened = state_in (Context.in_complex_type (record { head = record { name = bytes "AB"; event = 0 }; content = ComplexContentBuilder.empty; nesting_depth = 0 })) 2 (s (bytes "AB") ∷ [])

open-apart : (call opened 30 2 64).answer ≡ record { number = 0; place = 3 }
unfolding call sevens opened state_in schema simple s texts builtin_names conversions sheets schemas graphs lowerings
open-apart = refl

-- ---- 1 and 2

-- 1: the graph's rows length is no multiple of 10, or below 20; before 2: a sheet of sevens is not good
bad-lengths : (lowering (sevens 20 0) (sevens 25 0) [] ≡ kept 1 25 0 0) × (lowering (sevens 20 0) (sevens 10 0) [] ≡ kept 1 10 0 0) × (lowering (sevens 10 0) (sevens 20 0) [] ≡ kept 1 20 0 0)
unfolding sevens kept texts sheets schemas graphs lowerings
bad-lengths = (refl, refl, refl)

not_good : lowering (sevens 20 0) (sevens 20 5) (7 ∷ []) ≡ kept 2 20 5 1
unfolding sevens kept texts sheets schemas graphs lowerings
not_good = refl
