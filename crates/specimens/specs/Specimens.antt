-- Paper 01, "Specimens": the ones marked ● stand in one list, under one sentence: each holds, by computation on the definitions.
--     Specimen      what a specimen says: a conversion's, a type's or a number's text, or an element's occurrences, and the answer
--     specimen_holds         the test of a specimen
--     specimens     the list
--     all_hold      the sentence
use Rattle.std.specs.Prelude.{ℕ, ◌≡◌, refl, Bool, true, false, ◌&&◌, List, [], ◌∷◌, eqb}
use Prim.Native.String.{String}
use Rattle.text.specs.Text.{bytes, same, every}
use Rattle.text.specs.Unfold.{computes as texts}
use Rattle.number.specs.Number.{Parsed, parsed, refused, number}
use Rattle.number.specs.Unfold.{computes as numbers}
use Rattle.builtin.specs.Builtin.{map_builtin, reference}
use Rattle.builtin.specs.Unfold.{computes as builtins}
use Rattle.names.specs.Names.{normalize_type_name, xml_to_snake_case, code_to_pascal_case}
use Rattle.names.specs.Unfold.{computes as conversions}
use Rattle.xsd_types.specs.Types.{MaxOccurs}
use Rattle.ir_types.specs.Types.{Cardinality}
use Rattle.ir_types.specs.Rows.{cardinality_b, cardinality_c}
use Rattle.ir_types.specs.Unfold.{computes as graphs}
use Rattle.ir_lower.specs.Lower.{lower_cardinality}
use Rattle.ir_lower.specs.Unfold.{computes as lowerings}

pub data Specimen : Type 0 where
  snake : String → String → Specimen
  pascal : String → String → Specimen
  normalised : String → String → Specimen
  builtin : String → ℕ → Specimen
  parse : ℕ → String → Parsed → Specimen
  cardinality : ℕ → MaxOccurs → Cardinality → Specimen

unfoldable pub same_parsed : Parsed → Parsed → Bool
same_parsed (parsed v) (parsed n) = eqb v n
same_parsed (refused r) (refused n) = eqb r n
same_parsed (parsed v) (refused n) = false
same_parsed (refused r) (parsed n) = false

-- the two cardinalities have the same b and c in their rows
unfoldable pub same_cardinality : Cardinality → Cardinality → Bool
same_cardinality x y = eqb (cardinality_b x) (cardinality_b y) && eqb (cardinality_c x) (cardinality_c y)

unfoldable pub specimen_holds : Specimen → Bool
specimen_holds (snake name answer) = same (xml_to_snake_case (bytes name)) (bytes answer)
specimen_holds (pascal value answer) = same (code_to_pascal_case (bytes value)) (bytes answer)
specimen_holds (normalised name answer) = same (normalize_type_name (bytes name)) (bytes answer)
specimen_holds (builtin name answer) = eqb (reference (map_builtin (bytes name))) answer
specimen_holds (parse width s answer) = same_parsed (number width (bytes s)) answer
specimen_holds (cardinality min max answer) = same_cardinality (lower_cardinality min max) answer

unfoldable pub specimens : List Specimen
specimens =
    -- "● `FIToFICstmrCdtTrf`: `fi_to_fi_cstmr_cdt_trf`. ● `BICFI`: `bicfi`. ● `Dt2Nm`: `dt2nm`."
    snake "FIToFICstmrCdtTrf" "fi_to_fi_cstmr_cdt_trf"
    ∷ snake "BICFI" "bicfi"
    ∷ snake "Dt2Nm" "dt2nm"
    -- "● `TEST-VALUE`: `TestValue`. ● `TestValue`: `Testvalue`, against the comment in 001."
    ∷ pascal "TEST-VALUE" "TestValue"
    ∷ pascal "TestValue" "Testvalue"
    -- "● `Amount_SimpleType`: "AmountSimpleType". ● "a_b": "AB"."
    ∷ normalised "Amount_SimpleType" "AmountSimpleType"
    ∷ normalised "a_b" "AB"
    -- "● Min 0, max 0: required. ● Min 0, max 1: optional. ● Min 5, unbounded: vec."
    ∷ cardinality 0 (MaxOccurs.bounded 0) Cardinality.required
    ∷ cardinality 0 (MaxOccurs.bounded 1) Cardinality.optional
    ∷ cardinality 5 MaxOccurs.unbounded Cardinality.vec
    -- "● `my:date` is Date; `QName` is unknown.", types 4 and 0
    ∷ builtin "my:date" 4
    ∷ builtin "QName" 0
    -- "● `+7` is 7; `007` is 7; empty, `+` .. give 10." Order 2: "The specimens ` 7` and `-0` in paper 01 become accepted; `+` alone is still 10." At both widths
    ∷ parse 32 "+7" (parsed 7)
    ∷ parse 32 "007" (parsed 7)
    ∷ parse 32 "" (refused 10)
    ∷ parse 32 "+" (refused 10)
    ∷ parse 32 "-0" (parsed 0)
    ∷ parse 32 " 7" (parsed 7)
    ∷ parse 64 "+7" (parsed 7)
    ∷ parse 64 "007" (parsed 7)
    ∷ parse 64 "" (refused 10)
    ∷ parse 64 "+" (refused 10)
    ∷ parse 64 "-0" (parsed 0)
    ∷ parse 64 " 7" (parsed 7)
    -- "For u32, 4294967295 passes and 4294967296 gives 10." For u64 both are within the width
    ∷ parse 32 "4294967295" (parsed 4294967295)
    ∷ parse 32 "4294967296" (refused 10)
    ∷ parse 64 "4294967295" (parsed 4294967295)
    ∷ parse 64 "4294967296" (parsed 4294967296)
    ∷ []

pub all_hold : every specimen_holds specimens ≡ true
unfolding texts numbers builtins conversions graphs lowerings same_parsed same_cardinality specimen_holds specimens
all_hold = refl
