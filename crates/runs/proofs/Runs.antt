-- Demand 3: the calls of a run, whatever the first sheet, answer what the definition says, and leave its last sheet. By `hold-served` the run begins
-- with a pair that serves, and each call keeps one. Assumes nothing.
use Rattle.std.specs.Prelude.{if◌then◌else◌}
use mathlib.Core.Path.{◌≡◌, refl, sym, ap, ◌∙◌}
use mathlib.Core.Bool.{Bool, true, false}
use mathlib.Core.List.{List, []}
use Rattle.sheet.specs.Lengths.{Answer, lengths_of, good_lengths}
use Rattle.sheet.specs.Rows.{Sheet}
use Rattle.sheet.specs.Form.{words}
use Rattle.xsd_types.specs.Count.{good, state_of}
use Rattle.xsd_types.proofs.Laws.Count.{sheet_of-state_of, proper-state_of, fits-state_of}
use Rattle.xsd_parser.specs.Read.{ReadAnswer}
use Rattle.runs.specs.Trace.{Trace, events_done}
use Rattle.runs.specs.Runs.{Call, Answered, Ran, number_in_run, run_calls, answered_first, run, RunHolds, hold, read_held}
use Rattle.runs.proofs.Served.{Served, served_lengths, served_bad, served_state, served-sheet, read-served, lower-served}

-- what a run begins with
hold-cases : (x : Sheet) (l g : Bool) → words x.rows ≡ true → good_lengths (lengths_of x) ≡ l → good x ≡ g
    → Served x (if l then if g then RunHolds.holding (lengths_of x) (state_of x) else RunHolds.not_good x else RunHolds.bad_lengths x)
unfolding lengths_of
hold-cases x false g w e k = served_lengths e
hold-cases x true false w e k = served_bad e k
hold-cases x true true w e k =
    served_state (sym (sheet_of-state_of x w k)) e (proper-state_of x w k) (fits-state_of x w k)

pub hold-served : (x : Sheet) → words x.rows ≡ true → Served x (hold x)
unfolding hold
hold-served x w = hold-cases x (good_lengths (lengths_of x)) (good x) w refl refl

-- the answer of a reading as made
abbrev as_made : Sheet → Answer → Answered
as_made x a = Answered.read_as a (number_in_run (events_done x) a)

-- the calls from a pair on
pub runs-from : {x x' : Sheet} {h : RunHolds} {calls : List Call} {answers : List Answered} → Served x h → Trace x calls answers x'
    → ◌≡◌ {A = Ran} (record { answers = answers; last = x' }) (run_calls calls h)
unfolding run_calls answered_first
runs-from v Trace.done = λ i. record { answers = []; last = sym (served-sheet v) i }
runs-from {x} {h = h} v (Trace.read_next {text = text} {marks = marks} {calls = calls} is t) =
    let k = read-served text marks v in
    let same_answer = ap (λ (a : ReadAnswer). as_made x a.answer) (is ∙ k.answers) ∙ ap (Answered.read_as (read_held h text marks).answer) k.numbers in
    let same-sheet = ap (λ (a : ReadAnswer). a.sheet) (is ∙ k.answers) in
    let rest = runs-from (rw (sym same-sheet) at k.serves) t in
    λ i. answered_first (same_answer i) (rest i)
runs-from v (Trace.lower_next {graph = graph} {scratch = scratch} is t) =
    let rest = runs-from v t in
    λ i. answered_first (Answered.lowered_as ((is ∙ lower-served graph scratch v) i)) (rest i)

-- the theorem
pub runs : {x x' : Sheet} {calls : List Call} {answers : List Answered} → words x.rows ≡ true → Trace x calls answers x' → ◌≡◌ {A = Ran} (record { answers = answers; last = x' }) (run x calls)
unfolding run
runs {x} w t = runs-from (hold-served x w) t
