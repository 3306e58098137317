-- The printed specimen of paper 01, whole: clear, read, lower, in buffers of 40 numbers and 10 bytes.
use Rattle.std.specs.Prelude.{ℕ, ◌≡◌, refl, true, List, [], ◌∷◌, replicate}
use Rattle.text.specs.Text.{Text, bytes}
use Rattle.xsd_types.specs.Examples.Sheets.{line, no_namespace, filled_sheet, junk, answer}
use Rattle.xsd_types.specs.Clear.{Cleared, clear}
use Rattle.xsd_parser.specs.Read.{ReadAnswer, read}
use Rattle.xsd_parser.specs.Examples.Tapes.{read_gives}
use Rattle.ir_types.specs.Form.{graph_form}
use Rattle.ir_lower.specs.Call.{Lowered, lowering}
use Rattle.examples.specs.Calls.{lowered_by_call, zeros_graph, called}

text : Text
text = bytes "schemaelementnameDtypeT"

marks : List ℕ
marks = 1 ∷ 0 ∷ 0 ∷ 6 ∷ 2 ∷ 2 ∷ 6 ∷ 7 ∷ 13 ∷ 4 ∷ 17 ∷ 1 ∷ 18 ∷ 4 ∷ 22 ∷ 1 ∷ 3 ∷ 0 ∷ []

clearing : Cleared
clearing = clear 0 (junk 40 10)

reading : ReadAnswer
reading = read clearing.sheet text marks

graph : Lowered
graph = lowering reading.sheet (junk 40 10) (replicate 64 7)

clears : clearing.answer ≡ answer 0 0
unfolding clearing called
clears = refl

-- "read 0 3"
reads-it : reading ≡ read_gives 0 3 (filled_sheet 40 10 (line 0 3 2 0 0 1 3 0 0 0 ∷ no_namespace ∷ line 2 0 1 1 1 0 0 0 0 1 ∷ []) "DT")
unfolding text marks clearing reading called
reads-it = refl

-- "lower 0 3", "the graph's used rows, its used names": the three rows and DT, zeros behind them, the scratch zero
lowers-it : graph ≡ lowered_by_call 0 3 (filled_sheet 40 10 (line 0 3 2 1 0 0 0 0 0 0 ∷ line 1 0 0 0 0 0 0 0 0 0 ∷ line 2 0 1 1 1 0 0 0 0 1 ∷ []) "DT") 64
unfolding text marks clearing reading graph called
lowers-it = refl

-- the graph has the form of a graph sheet
has-form : graph_form graph.graph ≡ true
unfolding text marks clearing reading graph called
has-form = refl

-- a second piece, empty, changes nothing: "read 0 0"
reads_nothing : read reading.sheet [] [] ≡ read_gives 0 0 reading.sheet
unfolding text marks clearing reading called
reads_nothing = refl

-- the empty tape prints `read 0 0`, `lower 12 0` (P5)
empty-tape : (read clearing.sheet [] []).answer ≡ answer 0 0
unfolding clearing called
empty-tape = refl

empty-tape-lowers : lowering (read clearing.sheet [] []).sheet (junk 40 10) (replicate 64 7) ≡ lowered_by_call 12 0 (zeros_graph 40 10) 64
unfolding clearing called
empty-tape-lowers = refl
