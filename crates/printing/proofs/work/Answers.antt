-- `printing::work` meets its contract: the two calls are a trace from the sheet that the clearing left, and by `runs` a trace answers what the
-- definition's run does. Assumes nothing.
use Prim.Native.Nat.{ℕ}
use mathlib.Core.Path.{◌≡◌, ap, subst}
use mathlib.Core.Bool.{true}
use mathlib.Core.List.{List, [], ◌∷◌}
use Rattle.text.specs.Text.{Text}
use Rattle.sheet.specs.Rows.{Sheet}
use Rattle.sheet.specs.Calls.{sheet}
use Rattle.sheet.specs.Form.{words}
use Rattle.sheet.specs.Lengths.{Answer}
use Rattle.xsd_types.specs.Clear.{Cleared, ClearIs}
use Rattle.xsd_parser.specs.Read.{ReadIs}
use Rattle.ir_lower.specs.Call.{Lowered, LowerIs}
use Rattle.runs.specs.Runs.{Answered, Ran, run}
use Rattle.rows.proofs.Laws.Words.{words-each}
use Rattle.runs.specs.Trace.{Trace}
use Rattle.runs.proofs.Runs.{runs}
use Rattle.printing.specs.Work.{work_calls, read_answered, WorkIs}
use Rattle.printing.proofs.work.Goals as goal

-- a clearing, a reading and a lowering, one after the other, are the work
work-is : (x graph : Sheet) (text : Text) (marks scratch : List ℕ) {x₁ x₂ : Sheet} {first read : Answer} {lowered : Lowered} → ClearIs 0 x first x₁
    → ReadIs x₁ text marks read x₂ → LowerIs x₂ graph scratch lowered → words x₁.rows ≡ true → WorkIs x text marks graph scratch read lowered x₂
work-is x graph text marks scratch {x₁} {x₂} {first} {read} {lowered} cleared is is' w =
    subst (λ (y : Sheet). ◌≡◌ {A = Ran} (record { answers = read_answered y read ∷ Answered.lowered_as lowered ∷ []; last = x₂ }) (run y (work_calls text marks graph scratch)))
    (ap (λ (k : Cleared). k.sheet) cleared) (runs w (Trace.read_next is (Trace.lower_next is' Trace.done)))

pub returns : goal.returns
returns c =
    let cleared = c.clear.ensures in
    let read = c.read-read.ensures in
    let lowered = c.lower-lowered.ensures in
    let a = c.args in
    work-is (sheet a.rows.now a.names.now) (sheet a.graph_rows.now a.graph_names.now) a.text.now a.marks.now
    a.scratch.now cleared read lowered
    (words-each _ (λ i. (c.slice_known-6-1.given i).fits))
