-- Calls as they were made, each by what the function called says of itself: `ReadIs` and `LowerIs` are the contracts of reading and lowering.
--     events_done x    the sheet's events done, in row 0
--     Trace x calls answers x'    the calls made one after the other, from the sheet x to the sheet x'
use Rattle.std.specs.Prelude.{ℕ, List, [], ◌∷◌}
use Rattle.text.specs.Text.{Text}
use Rattle.sheet.specs.Rows.{Sheet}
use Rattle.sheet.specs.Lengths.{Answer}
use Rattle.xsd_types.specs.Row0.{row0_in}
use Rattle.xsd_parser.specs.Read.{ReadIs}
use Rattle.ir_lower.specs.Call.{Lowered, LowerIs}
use Rattle.runs.specs.Runs.{Call, Answered, number_in_run}

-- "Row 0 instead: 0, rows used, names used, context .., nesting, root seen, events done"
unfoldable pub events_done : Sheet → ℕ
events_done x = (row0_in x).events

-- a refused event's number in the run: "Added to events done before the call"
pub data Trace : Sheet → List Call → List Answered → Sheet → Type 0 where
  done : {x : Sheet} → Trace x [] [] x
  read_next : {x x₁ x₂ : Sheet} {text : Text} {marks : List ℕ} {answer : Answer} {calls : List Call} {answers : List Answered} → ReadIs x text marks answer x₁
      → Trace x₁ calls answers x₂ → Trace x (Call.reading text marks ∷ calls) (Answered.read_as answer (number_in_run (events_done x) answer) ∷ answers) x₂
  lower_next : {x x₂ : Sheet} {graph : Sheet} {scratch : List ℕ} {after : Lowered} {calls : List Call} {answers : List Answered} → LowerIs x graph scratch after
      → Trace x calls answers x₂ → Trace x (Call.lowering graph scratch ∷ calls) (Answered.lowered_as after ∷ answers) x₂
