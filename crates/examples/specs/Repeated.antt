-- Names that come twice, by computation.
use Rattle.std.specs.Prelude.{◌≡◌, refl, [], ◌∷◌}
use Rattle.xsd_types.specs.Examples.Sheets.{line, no_namespace, filled_sheet}
use Rattle.xsd_parser.specs.Examples.Tapes.{start, empty, close, type_attributes, based, schema, simple_type, complex_type}
use Rattle.examples.specs.Calls.{lowered_by_call, zeros_graph, compiles, compiled, called}

-- ---- 20: "Lowering refuses when two finished types normalise to the same name"; "graph and scratch zero"

-- "the row of the first head, in lowering's order, whose name came before": the second A, behind a type with a child
second-of-a-name :
    compiles (schema ∷ simple_type "A" ∷ empty "restriction" (based "string") ∷ close ∷ complex_type "C" ∷ start "sequence" []
    ∷ empty "element" (type_attributes "e" "t") ∷ close ∷ close ∷ complex_type "A" ∷ close ∷ []) 40 9 64
    ≡ compiled 11 (lowered_by_call 20 5 (zeros_graph 40 9) 64)
unfolding called
second-of-a-name = refl

-- "simple ones before complex": the complex type came first in the sheet, and is the second of the name all the same
complex-came-first :
    compiles (schema ∷ complex_type "A" ∷ close ∷ simple_type "B" ∷ empty "restriction" (based "string") ∷ close ∷ simple_type "A"
    ∷ empty "restriction" (based "string") ∷ close ∷ []) 40 2 64
    ≡ compiled 9 (lowered_by_call 20 2 (zeros_graph 40 2) 64)
unfolding called
complex-came-first = refl

-- "normalise to the same name"
normalised-name :
    compiles (schema ∷ complex_type "a_b" ∷ close ∷ complex_type "AB" ∷ close ∷ []) 30 2 64
    ≡ compiled 5 (lowered_by_call 20 3 (zeros_graph 30 2) 64)
unfolding called
normalised-name = refl

-- "`_` gives empty text": `_` and the empty name are one
empty_name :
    compiles (schema ∷ complex_type "_" ∷ close ∷ complex_type "" ∷ close ∷ []) 30 0 64
    ≡ compiled 5 (lowered_by_call 20 3 (zeros_graph 30 0) 64)
unfolding called
empty_name = refl

-- "20, between 13 and 15"
twenty-before-fifteen :
    compiles (schema ∷ complex_type "A" ∷ close ∷ complex_type "A" ∷ close ∷ []) 20 0 64
    ≡ compiled 5 (lowered_by_call 20 3 (zeros_graph 20 0) 64)
unfolding called
twenty-before-fifteen = refl

-- "two finished types": an open one is none
open-apart :
    compiles (schema ∷ complex_type "A" ∷ close ∷ complex_type "A" ∷ []) 30 1 64
    ≡ compiled 4 (lowered_by_call 0 3 (filled_sheet 30 1 (line 0 3 1 0 1 0 0 0 0 0 ∷ no_namespace ∷ line 8 0 1 0 0 0 0 0 0 1 ∷ []) "A") 64)
unfolding called
open-apart = refl

-- an element and a type of one name
element-apart :
    compiles (schema ∷ empty "element" (type_attributes "A" "A") ∷ complex_type "A" ∷ close ∷ []) 40 3 64
    ≡ compiled 4 (lowered_by_call 0 4 (filled_sheet 40 3 (line 0 4 3 1 1 0 0 0 0 0 ∷ no_namespace ∷ line 2 0 1 1 1 0 0 0 0 1 ∷ line 8 2 1 0 0 0 0 0 0 2 ∷ []) "AAA") 64)
unfolding called
element-apart = refl

-- roots of one name are two
same-roots :
    compiles (schema ∷ empty "element" (type_attributes "D" "T") ∷ empty "element" (type_attributes "D" "T") ∷ []) 40 4 64
    ≡ compiled 3 (lowered_by_call 0 4 (filled_sheet 40 4 (line 0 4 4 2 0 0 0 0 0 0 ∷ no_namespace ∷ line 2 0 1 1 1 0 0 0 0 1
    ∷ line 2 2 1 3 1 0 0 0 0 2 ∷ []) "DTDT") 64)
unfolding called
same-roots = refl

-- ---- 13 before 20, paper 01 to shut out: "sparing a bad simple type that a later one replaces"

-- a simple type of the name behind it
bad-then-good :
    compiles (schema ∷ simple_type "S" ∷ empty "restriction" (based "QName") ∷ close ∷ simple_type "S" ∷ empty "restriction" (based "string")
    ∷ close ∷ []) 40 9 64
    ≡ compiled 7 (lowered_by_call 13 2 (zeros_graph 40 9) 64)
unfolding called
bad-then-good = refl

-- a complex type of the name
bad-then-complex :
    compiles (schema ∷ simple_type "S" ∷ empty "restriction" (based "QName") ∷ close ∷ complex_type "S" ∷ close ∷ []) 40 9 64
    ≡ compiled 6 (lowered_by_call 13 2 (zeros_graph 40 9) 64)
unfolding called
bad-then-complex = refl

-- a bad one behind a good one: its own row
good-then-bad :
    compiles (schema ∷ simple_type "S" ∷ empty "restriction" (based "string") ∷ close ∷ simple_type "S" ∷ empty "restriction" (based "QName")
    ∷ close ∷ []) 40 9 64
    ≡ compiled 7 (lowered_by_call 13 3 (zeros_graph 40 9) 64)
unfolding called
good-then-bad = refl
