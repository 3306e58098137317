-- Lowering's numbers by computation, but for 20. "Lowering: 1, 2, 14, 12, 13, 15." Where a buffer is long its length is computed by a law, and not by
-- counting.
use Rattle.std.specs.Prelude.{ℕ, ◌≤◌, ◌≡◌, refl, false, List, [], ◌∷◌, length}
use Prim.Native.String.{String}
use Rattle.std.proofs.Math.Bool.{and-false}
use Rattle.std.proofs.lemmas.List.{length-replicate}
use Rattle.std.proofs.Common.{leb-true}
use Rattle.text.specs.Text.{bytes, join}
use Rattle.sheet.specs.Rows.{Sheet}
use Rattle.sheet.specs.Lengths.{sheet_lengths, lengths_of, good_lengths}
use Rattle.sheet.proofs.Laws.Numbers.{length-filled}
use Rattle.xsd_types.specs.Examples.Sheets.{line, no_namespace, filled_sheet, junk, blank, answer}
use Rattle.xsd_parser.specs.Examples.Tapes.{start, empty, close, type_attributes, based, value_attribute, schema, simple_type, complex_type}
use Rattle.examples.specs.Calls.{lowers, lowered_by_call, junk_kept, zeros_graph, compiles, compiled, called}
use Rattle.ir_lower.specs.Call.{lowering, unchanged as refused}

-- ---- buffers of any length, where one is above its limit

schema-refused : (r n : ℕ) (rows : List (List ℕ)) (names : String) → length (join rows) ≤ r → length (bytes names) ≤ n
    → sheet_lengths r n ≡ false → lowers (filled_sheet r n rows names) 30 2 1 ≡ junk_kept 1 30 2 1
unfolding lowers junk_kept lowering refused good_lengths lengths_of filled_sheet answer
schema-refused r n rows names hr hn e = rw (length-filled r (join rows) hr, length-filled n (bytes names) hn, e)

graph-refused : (x : Sheet) (r n : ℕ) → sheet_lengths r n ≡ false → lowers x r n 1 ≡ junk_kept 1 r n 1
unfolding lowers junk_kept lowering refused good_lengths lengths_of junk answer
graph-refused x r n e = rw (length-replicate {A = ℕ} r 7, length-replicate {A = ℕ} n 7, e, and-false (sheet_lengths (length x.rows) (length x.names)))

-- ---- 0: "place is .. rows used"

-- no element, no type: two rows
two-rows :
    lowers (filled_sheet 20 0 (line 0 2 0 0 0 1 0 0 0 0 ∷ no_namespace ∷ []) "") 20 0 64
    ≡ lowered_by_call 0 2 (filled_sheet 20 0 (line 0 2 0 0 0 0 0 0 0 0 ∷ no_namespace ∷ []) "") 64
unfolding called
two-rows = refl

-- what graph and scratch held does not matter; zeros behind the used parts
larger-graph :
    lowers (filled_sheet 30 2 (line 0 3 2 0 0 1 3 0 0 0 ∷ no_namespace ∷ line 2 0 1 1 1 0 0 0 0 0 ∷ []) "DT") 50 4 64
    ≡ lowered_by_call 0 3 (filled_sheet 50 4 (line 0 3 2 1 0 0 0 0 0 0 ∷ no_namespace ∷ line 2 0 1 1 1 0 0 0 0 0 ∷ []) "DT") 64
unfolding called
larger-graph = refl

-- ---- 1: lengths of the schema sheet and of the graph; "nothing changed"

-- "a rows length not a multiple of 10"
schema-25 : lowers (filled_sheet 25 0 (line 0 2 0 0 0 1 0 0 0 0 ∷ no_namespace ∷ []) "") 30 2 1 ≡ junk_kept 1 30 2 1
unfolding called
schema-25 = refl

-- "below 20"
schema-10 : lowers (junk 10 0) 30 2 1 ≡ junk_kept 1 30 2 1
unfolding called
schema-10 = refl

-- "or above 40,960"
schema-40970 : lowers (filled_sheet 40970 0 (line 0 2 0 0 0 1 0 0 0 0 ∷ no_namespace ∷ []) "") 30 2 1 ≡ junk_kept 1 30 2 1
unfolding called
schema-40970 = schema-refused 40970 0 (line 0 2 0 0 0 1 0 0 0 0 ∷ no_namespace ∷ []) "" (leb-true 20 40970 refl) (leb-true 0 0 refl) refl

-- "names above 65,536"
schema-names : lowers (filled_sheet 20 65537 (line 0 2 0 0 0 1 0 0 0 0 ∷ no_namespace ∷ []) "") 30 2 1 ≡ junk_kept 1 30 2 1
unfolding called
schema-names = schema-refused 20 65537 (line 0 2 0 0 0 1 0 0 0 0 ∷ no_namespace ∷ []) "" (leb-true 20 20 refl) (leb-true 0 65537 refl) refl

-- the graph's
graph-25 : lowers (filled_sheet 30 2 (line 0 3 2 0 0 1 3 0 0 0 ∷ no_namespace ∷ line 2 0 1 1 1 0 0 0 0 0 ∷ []) "DT") 35 2 1 ≡ junk_kept 1 35 2 1
unfolding called
graph-25 = refl

graph-10 : lowers (filled_sheet 20 0 (line 0 2 0 0 0 1 0 0 0 0 ∷ no_namespace ∷ []) "") 10 0 1 ≡ junk_kept 1 10 0 1
unfolding called
graph-10 = refl

graph-40970 : lowers (filled_sheet 20 0 (line 0 2 0 0 0 1 0 0 0 0 ∷ no_namespace ∷ []) "") 40970 0 1 ≡ junk_kept 1 40970 0 1
unfolding sheet_lengths
graph-40970 = graph-refused (filled_sheet 20 0 (line 0 2 0 0 0 1 0 0 0 0 ∷ no_namespace ∷ []) "") 40970 0 refl

graph-names : lowers (filled_sheet 20 0 (line 0 2 0 0 0 1 0 0 0 0 ∷ no_namespace ∷ []) "") 20 65537 1 ≡ junk_kept 1 20 65537 1
unfolding sheet_lengths
graph-names = graph-refused (filled_sheet 20 0 (line 0 2 0 0 0 1 0 0 0 0 ∷ no_namespace ∷ []) "") 20 65537 refl

-- 1 before 2
one-before-two : lowers (junk 20 0) 35 2 1 ≡ junk_kept 1 35 2 1
unfolding called
one-before-two = refl

-- ---- 2: "schema sheet not good"; "nothing changed"

-- never cleared
never-cleared : lowers (zeros_graph 20 0) 30 2 1 ≡ junk_kept 2 30 2 1
unfolding called
never-cleared = refl

-- a type without content that is not open; 2 before 14
two-before-fourteen : lowers (filled_sheet 30 1 (line 0 3 1 1 0 1 3 1 0 0 ∷ no_namespace ∷ line 16 0 1 0 0 0 0 0 0 0 ∷ []) "C") 30 2 0 ≡ junk_kept 2 30 2 0
unfolding called
two-before-fourteen = refl

-- ---- 14, order 11: "From now on 14 means fewer than 64"; "nothing changed"

-- one type, and none at all
short-scratch : compiles (schema ∷ complex_type "C" ∷ close ∷ []) 40 9 63 ≡ compiled 3 (junk_kept 14 40 9 63)
unfolding called
short-scratch = refl

short-for-none : lowers (filled_sheet 20 0 (line 0 2 0 0 0 1 0 0 0 0 ∷ no_namespace ∷ []) "") 20 0 63 ≡ junk_kept 14 20 0 63
unfolding called
short-for-none = refl

-- 64 numbers are enough; they are zero afterwards, and so are those behind them
exact-scratch :
    compiles (schema ∷ complex_type "C" ∷ close ∷ []) 40 9 64
    ≡ compiled 3 (lowered_by_call 0 3 (filled_sheet 40 9 (line 0 3 1 0 1 0 0 0 0 0 ∷ no_namespace ∷ line 8 0 1 0 0 0 0 0 0 1 ∷ []) "C") 64)
unfolding called
exact-scratch = refl

longer-scratch :
    compiles (schema ∷ complex_type "C" ∷ close ∷ []) 40 9 70
    ≡ compiled 3 (lowered_by_call 0 3 (filled_sheet 40 9 (line 0 3 1 0 1 0 0 0 0 0 ∷ no_namespace ∷ line 8 0 1 0 0 0 0 0 0 1 ∷ []) "C") 70)
unfolding called
longer-scratch = refl

-- 14 before 12: a cleared sheet
fourteen-before-twelve : lowers (blank 20 0) 30 2 63 ≡ junk_kept 14 30 2 63
unfolding called
fourteen-before-twelve = refl

-- the open type is not lowered (G14)
no-finished-type :
    compiles (schema ∷ empty "element" (type_attributes "D" "T") ∷ complex_type "C" ∷ []) 30 2 64
    ≡ compiled 3 (lowered_by_call 0 3 (filled_sheet 30 2 (line 0 3 2 1 0 0 0 0 0 0 ∷ no_namespace ∷ line 2 0 1 1 1 0 0 0 0 1 ∷ []) "DT") 64)
unfolding called
no-finished-type = refl

-- 14 before 13
fourteen-before-thirteen : compiles (schema ∷ simple_type "S" ∷ close ∷ []) 40 9 63 ≡ compiled 3 (junk_kept 14 40 9 63)
unfolding called
fourteen-before-thirteen = refl

-- 14 before 15
fourteen-before-fifteen : compiles (schema ∷ complex_type "C" ∷ close ∷ []) 20 0 63 ≡ compiled 3 (junk_kept 14 20 0 63)
unfolding called
fourteen-before-fifteen = refl

-- ---- 12: "lowering, no root seen"; "graph and scratch zero"

-- a cleared sheet
cleared : lowers (blank 20 0) 30 2 64 ≡ lowered_by_call 12 0 (zeros_graph 30 2) 64
unfolding called
cleared = refl

-- events done and tags open
no-root : lowers (filled_sheet 20 0 (line 0 2 0 0 0 0 5 3 0 0 ∷ no_namespace ∷ []) "") 20 0 64 ≡ lowered_by_call 12 0 (zeros_graph 20 0) 64
unfolding called
no-root = refl

-- ---- 13: `UnknownBase`; "place is the row of the first such simple type"; "graph and scratch zero"

-- "`QName` is unknown": behind row 1, an element, a simple type and its facet
thirteen :
    compiles (schema ∷ empty "element" (type_attributes "D" "T") ∷ simple_type "S" ∷ empty "restriction" (based "xs:string")
    ∷ empty "pattern" (value_attribute "v") ∷ close ∷ simple_type "R" ∷ empty "restriction" (based "QName") ∷ close ∷ []) 40 9 64
    ≡ compiled 9 (lowered_by_call 13 5 (zeros_graph 40 9) 64)
unfolding called
thirteen = refl

-- no restriction at all (G6)
no-base : compiles (schema ∷ simple_type "S" ∷ close ∷ []) 40 9 64 ≡ compiled 3 (lowered_by_call 13 2 (zeros_graph 40 9) 64)
unfolding called
no-base = refl

-- behind a complex type with a child
behind-complex :
    compiles (schema ∷ complex_type "C" ∷ start "sequence" [] ∷ empty "element" (type_attributes "e" "t") ∷ close ∷ close ∷ simple_type "S"
    ∷ close ∷ []) 40 9 64
    ≡ compiled 8 (lowered_by_call 13 4 (zeros_graph 40 9) 64)
unfolding called
behind-complex = refl

-- the first of two
first-of-two : compiles (schema ∷ simple_type "S" ∷ close ∷ simple_type "R" ∷ close ∷ []) 40 9 64 ≡ compiled 5 (lowered_by_call 13 2 (zeros_graph 40 9) 64)
unfolding called
first-of-two = refl

-- one facet is no enumeration
mixed-facets :
    compiles (schema ∷ simple_type "S" ∷ empty "enumeration" (value_attribute "a") ∷ empty "pattern" (value_attribute "p") ∷ close ∷ []) 40 9 64
    ≡ compiled 5 (lowered_by_call 13 2 (zeros_graph 40 9) 64)
unfolding called
mixed-facets = refl

-- "Only finished types": an open one is not judged (G7)
open-not-judged :
    compiles (schema ∷ simple_type "S" ∷ []) 20 0 64
    ≡ compiled 2 (lowered_by_call 0 2 (filled_sheet 20 0 (line 0 2 0 0 0 0 0 0 0 0 ∷ no_namespace ∷ []) "") 64)
unfolding called
open-not-judged = refl

-- 13 before 15
thirteen-before-fifteen : compiles (schema ∷ complex_type "C" ∷ close ∷ simple_type "S" ∷ close ∷ []) 20 0 64 ≡ compiled 5 (lowered_by_call 13 3 (zeros_graph 20 0) 64)
unfolding called
thirteen-before-fifteen = refl

-- ---- 15: "graph needs more rows or names than lent"; "graph and scratch zero"

-- three rows and two bytes: exactly so much
exact-room :
    lowers (filled_sheet 30 2 (line 0 3 2 0 0 1 3 0 0 0 ∷ no_namespace ∷ line 2 0 1 1 1 0 0 0 0 0 ∷ []) "DT") 30 2 64
    ≡ lowered_by_call 0 3 (filled_sheet 30 2 (line 0 3 2 1 0 0 0 0 0 0 ∷ no_namespace ∷ line 2 0 1 1 1 0 0 0 0 0 ∷ []) "DT") 64
unfolding called
exact-room = refl

-- one row less
one-row-less : lowers (filled_sheet 30 2 (line 0 3 2 0 0 1 3 0 0 0 ∷ no_namespace ∷ line 2 0 1 1 1 0 0 0 0 0 ∷ []) "DT") 20 2 64 ≡ lowered_by_call 15 0 (zeros_graph 20 2) 64
unfolding called
one-row-less = refl

-- one byte less
one-byte-less :
    lowers (filled_sheet 30 2 (line 0 3 2 0 0 1 3 0 0 0 ∷ no_namespace ∷ line 2 0 1 1 1 0 0 0 0 0 ∷ []) "DT") 30 1 64
    ≡ lowered_by_call 15 0 (zeros_graph 30 1) 64
unfolding called
one-byte-less = refl

-- a field, which has its name twice
one_field :
    compiles (schema ∷ complex_type "C" ∷ start "sequence" [] ∷ empty "element" (type_attributes "e" "t") ∷ close ∷ close ∷ []) 40 4 64
    ≡ compiled 6 (lowered_by_call 0 4 (filled_sheet 40 4 (line 0 4 4 0 1 0 0 0 0 0 ∷ no_namespace ∷ line 3 0 1 0 0 0 0 0 0 1
    ∷ line 9 1 1 2 1 3 1 0 0 0 ∷ []) "Ceet") 64)
unfolding called
one_field = refl

-- its last byte
one-field-less :
    compiles (schema ∷ complex_type "C" ∷ start "sequence" [] ∷ empty "element" (type_attributes "e" "t") ∷ close ∷ close ∷ []) 40 3 64
    ≡ compiled 6 (lowered_by_call 15 0 (zeros_graph 40 3) 64)
unfolding called
one-field-less = refl
