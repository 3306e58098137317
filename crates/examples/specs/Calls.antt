-- Calls on buffers with something in them, for the examples.
--     lowers x r n k       the lowering of the sheet x into a graph of r numbers and n bytes with a scratch of k numbers
--     lowered_by_call      its number and place, with the graph and a scratch of k zeros
--     junk_kept            a refusal under which graph and scratch keep what they held
--     zeros_graph          a graph of zeros
--     compiles tags r n k  clear, read the tape of the tags, lower: both calls' answers, the graph and the scratch
--     compiled e           the same where reading accepts e events
--     called               one name that unfolds all that the examples compute with
use Rattle.std.specs.Prelude.{ℕ, List, [], replicate}
use Rattle.builtin.specs.Unfold.{computes as builtins}
use Rattle.names.specs.Unfold.{computes as conversions}
use Rattle.sheet.specs.Rows.{Sheet}
use Rattle.sheet.specs.Lengths.{Answer}
use Rattle.xsd_types.specs.Examples.Sheets.{filled_sheet, junk, blank, answer}
use Rattle.xsd_parser.specs.Read.{ReadAnswer}
use Rattle.xsd_parser.specs.Examples.Tapes.{Tag, reads, taped}
use Rattle.ir_types.specs.Unfold.{computes as graphs}
use Rattle.ir_lower.specs.Call.{Lowered, lowering}
use Rattle.ir_lower.specs.Unfold.{computes as lowerings}

unfoldable pub lowers : Sheet → ℕ → ℕ → ℕ → Lowered
lowers x r n k = lowering x (junk r n) (replicate k 7)

unfoldable pub lowered_by_call : ℕ → ℕ → Sheet → ℕ → Lowered
lowered_by_call number place graph k = record { answer = answer number place; graph = graph; scratch = replicate k 0 }

unfoldable pub junk_kept : ℕ → ℕ → ℕ → ℕ → Lowered
junk_kept number r n k = record { answer = answer number 0; graph = junk r n; scratch = replicate k 7 }

unfoldable pub zeros_graph : ℕ → ℕ → Sheet
zeros_graph r n = filled_sheet r n [] ""

pub record Compiled : Type 0 where
  pub reading : Answer
  pub lowering : Lowered

unfoldable pub both : ReadAnswer → ℕ → ℕ → ℕ → Compiled
both a r n k = record { reading = a.answer; lowering = lowers a.sheet r n k }

unfoldable pub compiles : List Tag → ℕ → ℕ → ℕ → Compiled
compiles ts r n k = both (reads (blank 300 60) ts) r n k

unfoldable pub compiled : ℕ → Lowered → Compiled
compiled events x = record { reading = answer 0 events; lowering = x }

unfoldable pub called : Unit {0}
unfolding lowers lowered_by_call junk_kept zeros_graph both compiles compiled taped builtins conversions graphs lowerings
called = tt
