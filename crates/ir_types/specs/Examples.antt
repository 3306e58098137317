-- Small graphs and rows through the definitions, by computation.
--     sample        two types that refer to one another, and a root
--     words         a list of five words
use Rattle.std.specs.Prelude.{◌≡◌, refl, Bool, true, false, List, [], ◌∷◌, ◌++◌, ℕ, if◌then◌else◌}
use Prim.Native.String.{String}
use Rattle.text.specs.Text.{Text, bytes}
use Rattle.text.specs.Unfold.{computes as texts}
use Rattle.builtin.specs.Builtin.{RustType}
use Rattle.builtin.specs.Unfold.{computes as builtin_names}
use Rattle.sheet.specs.Rows.{Sheet}
use Rattle.sheet.specs.Unfold.{computes as sheets}
use Rattle.ir_types.specs.Types.{TypeRef, Cardinality, Constraint, TypeDef, TypeGraph}
use Rattle.ir_types.specs.Rows.{rows_used, names_used}
use Rattle.ir_types.specs.Sheet.{graph_fits, graph_sheet}
use Rattle.ir_types.specs.Form.{graph_form}
use Rattle.ir_types.specs.Label.{Labelled, label}
use Rattle.ir_types.specs.Distinct.{distinct}
use Rattle.ir_types.specs.Last.{insert}
use Rattle.ir_types.specs.Ok.{graph_ok}
use Rattle.ir_types.specs.Unfold.{computes as graphs}

sample : TypeGraph
sample =
    record {
      namespace = bytes "urn";
      root_elements = record { xml_name = bytes "D"; type_name = bytes "S"; event = 1 } ∷ [];
      types =
          TypeDef.newtype 2 (bytes "N") RustType.decimal (Constraint.min_length 4294967298 ∷ [])
          ∷ TypeDef.struct 7 (bytes "S")
          (record { xml_name = bytes "Ab"; rust_name = bytes "ab"; type_ref = TypeRef.named (bytes "N"); cardinality = Cardinality.bounded_vec 3 } ∷ [])
          ∷ TypeDef.value_with_attr 0 (bytes "V") (TypeRef.named (bytes "N"))
          (record { xml_name = bytes "Ccy"; rust_name = bytes "ccy"; type_ref = TypeRef.builtin RustType.string; required = true } ∷ [])
          ∷ [];
    }

sample_sheet : Sheet
sample_sheet = graph_sheet sample 100 30

sample-ok : graph_ok sample ≡ true
unfolding sample texts builtin_names sheets graphs
sample-ok = refl

sample-form : graph_form sample_sheet ≡ true
unfolding sample sample_sheet texts builtin_names sheets graphs
sample-form = refl

-- a graph of a namespace alone, of these bytes
named : List ℕ → Bool
named ns = graph_form (graph_sheet (record { namespace = ns; root_elements = []; types = [] }) 20 8)

-- order 12: é; U+02BC, U+0307 and U+039C; a lead at the end, U+0301, U+0180
named-form : (named (195 ∷ 169 ∷ []) ≡ true) × (named (202 ∷ 188 ∷ 204 ∷ 135 ∷ 206 ∷ 156 ∷ []) ≡ true)
    × (named (97 ∷ 206 ∷ []) ≡ false) × (named (204 ∷ 129 ∷ []) ≡ false) × (named (198 ∷ 128 ∷ []) ≡ false)
unfolding named texts builtin_names sheets graphs
named-form = (refl, refl, refl, refl, refl)

sample-rows : sample_sheet.rows
    ≡ 0 ∷ 9 ∷ 20 ∷ 1 ∷ 3 ∷ 0 ∷ 0 ∷ 0 ∷ 0 ∷ 0
    ∷ 1 ∷ 0 ∷ 3 ∷ 0 ∷ 0 ∷ 0 ∷ 0 ∷ 0 ∷ 0 ∷ 0
    ∷ 2 ∷ 3 ∷ 1 ∷ 4 ∷ 1 ∷ 0 ∷ 0 ∷ 0 ∷ 0 ∷ 1
    ∷ 5 ∷ 5 ∷ 1 ∷ 0 ∷ 0 ∷ 0 ∷ 0 ∷ 3 ∷ 0 ∷ 2
    ∷ 12 ∷ 0 ∷ 0 ∷ 0 ∷ 0 ∷ 0 ∷ 0 ∷ 2 ∷ 1 ∷ 0
    ∷ 3 ∷ 6 ∷ 1 ∷ 0 ∷ 0 ∷ 0 ∷ 0 ∷ 0 ∷ 0 ∷ 7
    ∷ 9 ∷ 7 ∷ 2 ∷ 9 ∷ 2 ∷ 11 ∷ 1 ∷ 0 ∷ 3 ∷ 3
    ∷ 7 ∷ 12 ∷ 1 ∷ 13 ∷ 1 ∷ 0 ∷ 0 ∷ 0 ∷ 0 ∷ 0
    ∷ 19 ∷ 14 ∷ 3 ∷ 17 ∷ 3 ∷ 0 ∷ 0 ∷ 1 ∷ 1 ∷ 0
    ∷ 0 ∷ 0 ∷ 0 ∷ 0 ∷ 0 ∷ 0 ∷ 0 ∷ 0 ∷ 0 ∷ 0 ∷ []
unfolding sample sample_sheet texts builtin_names sheets graphs
sample-rows = refl

sample-names : sample_sheet.names ≡ bytes "urnDSNSAbabNVNCcyccy" ++ (0 ∷ 0 ∷ 0 ∷ 0 ∷ 0 ∷ 0 ∷ 0 ∷ 0 ∷ 0 ∷ 0 ∷ [])
unfolding sample sample_sheet texts builtin_names sheets graphs
sample-names = refl

-- exact room, and one less of either
sample-fits : (rows_used sample ≡ 9) × (names_used sample ≡ 20) × (graph_fits 90 20 sample ≡ true) × (graph_fits 89 20 sample ≡ false) × (graph_fits 90 19 sample ≡ false)
unfolding sample texts builtin_names sheets graphs
sample-fits = (refl, refl, refl, refl, refl)

-- ---- names that come twice

a : Bool → TypeDef
a again = TypeDef.newtype 3 (bytes "A") (if again then RustType.date else RustType.bool) []

b : Bool → TypeDef
b again = TypeDef.newtype 4 (bytes "B") (if again then RustType.date else RustType.bool) []

-- paper 01's rule: a redefined type is not moved to the end
insert-again : insert (a true) (a false ∷ b false ∷ []) ≡ a true ∷ b false ∷ []
unfolding a b texts graphs
insert-again = refl

insert-behind : insert (b false) (a false ∷ []) ≡ a false ∷ b false ∷ []
unfolding a b texts graphs
insert-behind = refl

distinct-small : (distinct (a false ∷ b false ∷ []) ≡ true) × (distinct (a false ∷ b false ∷ a true ∷ []) ≡ false)
unfolding a b texts graphs
distinct-small = (refl, refl)

-- ---- label

word : String → List ℕ
word s = bytes s ++ (10 ∷ [])

words : List ℕ
words = word "String" ++ (word "Bool" ++ (word "Decimal" ++ (word "Date" ++ word "DateTime")))

in_names : ℕ → Text → Labelled
in_names at t = record { number = 0; in_words = false; at = at; text = t }

in_words : ℕ → Text → Labelled
in_words at t = record { number = 0; in_words = true; at = at; text = t }

refused : Labelled
refused = record { number = 16; in_words = false; at = 0; text = [] }

labelled : ℕ → Labelled
labelled k = label sample_sheet.rows sample_sheet.names words k

-- a newtype's inner type, a field's, a value's and an attribute's reference
labels : (labelled 3 ≡ in_words 12 (bytes "Decimal")) × (labelled 6 ≡ in_names 11 (bytes "N")) × (labelled 7 ≡ in_names 13 (bytes "N")) × (labelled 8 ≡ in_words 0 (bytes "String"))
unfolding labelled in_names in_words word words sample sample_sheet texts builtin_names sheets graphs
labels = (refl, refl, refl, refl)

-- tag 0, 1, 2, 12, 3, a row of zeros, no such row
no-reference : (labelled 0 ≡ refused) × (labelled 1 ≡ refused) × (labelled 2 ≡ refused) × (labelled 4 ≡ refused) × (labelled 5 ≡ refused) × (labelled 9 ≡ refused) × (labelled 10 ≡ refused)
unfolding labelled refused word words sample sample_sheet texts builtin_names sheets graphs
no-reference = (refl, refl, refl, refl, refl, refl, refl)

-- one row, of a tag, the three pairs and a
one_row : ℕ → ℕ → ℕ → ℕ → ℕ → ℕ → List ℕ
one_row tag at1 len1 at2 len2 a = tag ∷ 7 ∷ 7 ∷ at1 ∷ len1 ∷ at2 ∷ len2 ∷ a ∷ 9 ∷ 9 ∷ []

-- a length that is no multiple of 10, and no row at all
bad-length : (label (one_row 5 0 0 0 0 1 ++ (0 ∷ [])) [] words 0 ≡ refused) × (label (one_row 5 0 0 0 0 1) [] words 0 ≡ in_words 0 (bytes "String")) × (label [] [] words 0 ≡ refused)
unfolding one_row refused in_words word words texts sheets graphs
bad-length = (refl, refl, refl)

-- a is 0 to 5, for tag 5 from 1 on
bad-a : (label (one_row 9 0 0 0 0 6) [] words 0 ≡ refused) × (label (one_row 5 0 0 0 0 6) [] words 0 ≡ refused) × (label (one_row 5 0 0 0 0 0) [] words 0 ≡ refused)
    × (label (one_row 10 0 0 0 0 5) [] words 0 ≡ in_words 25 (bytes "DateTime"))
unfolding one_row refused in_words word words texts sheets graphs
bad-a = (refl, refl, refl, refl)

-- with a 0 the reference's pair: the second of 7, the third of 9, 10, 19, within the names; the other pairs are not looked at, nor is the word list
pair_inside : (label (one_row 7 1 2 9 9 0) (bytes "abc") [] 0 ≡ in_names 1 (bytes "bc")) × (label (one_row 10 9 9 1 2 0) (bytes "abc") [] 0 ≡ in_names 1 (bytes "bc"))
    × (label (one_row 19 9 9 3 0 0) (bytes "abc") [] 0 ≡ in_names 3 [])
unfolding one_row in_names texts sheets graphs
pair_inside = (refl, refl, refl)

pair-outside : (label (one_row 7 2 2 0 0 0) (bytes "abc") words 0 ≡ refused) × (label (one_row 9 0 0 4 0 0) (bytes "abc") words 0 ≡ refused)
    × (label (one_row 19 0 0 4294967295 4294967295 0) (bytes "abc") words 0 ≡ refused)
unfolding one_row refused word words texts sheets graphs
pair-outside = (refl, refl, refl)

-- five words each ended by a newline byte, and nothing after: judged whole for a 1 to 5; words may be empty
with_words : List ℕ → Labelled
with_words ws = label (one_row 9 0 0 0 0 1) [] ws 0

bad-words : (with_words [] ≡ refused) × (with_words (bytes "a") ≡ refused) × (with_words (10 ∷ 10 ∷ 10 ∷ 10 ∷ []) ≡ refused)
    × (with_words (10 ∷ 10 ∷ 10 ∷ 10 ∷ 10 ∷ 10 ∷ []) ≡ refused) × (with_words (words ++ bytes "x") ≡ refused)
unfolding with_words one_row refused word words texts sheets graphs
bad-words = (refl, refl, refl, refl, refl)

empty-words : (with_words (10 ∷ 10 ∷ 10 ∷ 10 ∷ 10 ∷ []) ≡ in_words 0 []) × (with_words (bytes "ab" ++ (10 ∷ 10 ∷ 10 ∷ 10 ∷ 10 ∷ [])) ≡ in_words 0 (bytes "ab"))
unfolding with_words one_row in_words texts sheets graphs
empty-words = (refl, refl)
