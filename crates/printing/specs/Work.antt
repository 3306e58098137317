-- The work of the printing program, as a list of calls: "It clears, reads and lowers". Order 3: "The printing program clears with 0."
--     work_calls     the two calls behind the clearing
--     read_answered  what a reading of a sheet answers in a run
--     WorkIs        what the work says of itself: the answers of the two calls and the last sheet are those of the run from the cleared sheet
use Rattle.std.specs.Prelude.{ℕ, ◌≡◌, List, [], ◌∷◌}
use Rattle.text.specs.Text.{Text}
use Rattle.sheet.specs.Rows.{Sheet}
use Rattle.sheet.specs.Lengths.{Answer}
use Rattle.xsd_types.specs.Clear.{clear}
use Rattle.ir_lower.specs.Call.{Lowered}
use Rattle.runs.specs.Runs.{Call, Answered, Ran, number_in_run, run}
use Rattle.runs.specs.Trace.{events_done}

abbrev pub work_calls : Text → List ℕ → Sheet → List ℕ → List Call
work_calls text marks graph scratch = Call.reading text marks ∷ Call.lowering graph scratch ∷ []

abbrev pub read_answered : Sheet → Answer → Answered
read_answered x a = Answered.read_as a (number_in_run (events_done x) a)

abbrev pub WorkIs : Sheet → Text → List ℕ → Sheet → List ℕ → Answer → Lowered → Sheet → Type 0
WorkIs x text marks graph scratch read lowered last =
    ◌≡◌ {A = Ran} (record { answers = read_answered (clear 0 x).sheet read ∷ Answered.lowered_as lowered ∷ []; last = last })
    (run (clear 0 x).sheet (work_calls text marks graph scratch))
