-- Order 7 in runs: a converted sheet is the one that its run began with. It has the state that was stored, and its lengths. Assumes nothing.
use mathlib.Core.Path.{◌≡◌, ap, ap₂, ◌∙◌}
use mathlib.Core.Bool.{true}
use mathlib.Core.List.{List}
use native.Mathlib.Omega.{arith}
use lib.ListN.{length}
use Rattle.text.proofs.Laws.Tests.{bool_cases}
use Rattle.sheet.specs.Rows.{Sheet}
use Rattle.sheet.specs.Lengths.{sheet_lengths, Lengths, lengths_of, good_lengths}
use Rattle.xsd_types.specs.State.{State}
use Rattle.xsd_types.specs.Count.{count_of, with_count, sheet_of, state_of}
use Rattle.xsd_types.specs.Convert.{convertible, convert}
use Rattle.xsd_types.proofs.Laws.Count.{length-with_count}
use Rattle.xsd_types.proofs.Laws.Convert.{converted-good, converted-state}
use Rattle.runs.specs.Runs.{Call, run}
use Rattle.runs.specs.Joined.{joined, after_records}
use Rattle.runs.proofs.Joined.{last-joined}

with_count-lengths : (x : Sheet) → lengths_of (with_count (count_of (state_of x)) x) ≡ lengths_of x
unfolding lengths_of with_count
with_count-lengths x = λ i. record { rows = length-with_count x (count_of (state_of x)) i; names = length x.names }

convert-lengths : (x : Sheet) → lengths_of (convert x).sheet ≡ lengths_of x
unfolding convert
convert-lengths x =
    bool_cases (sheet_lengths (length x.rows) (length x.names))
    (λ l. bool_cases (convertible x) (λ c. rw (l, c) (with_count-lengths x)) (λ c. rw (l, c)))
    (λ l. rw l)

taken-lengths : (x : Sheet) → (convert x).answer.number ≡ 0 → good_lengths (lengths_of x) ≡ true
unfolding convert good_lengths lengths_of
taken-lengths x e = bool_cases (sheet_lengths (length x.rows) (length x.names)) (λ l. l) (λ l. absurd (omega (arith, rw l at e)))

-- the last sheet of a run from it is that of the stored state after the events joined
pub converted-run : (x : Sheet) (calls : List Call) → (convert x).answer.number ≡ 0
    → (run (convert x).sheet calls).last ≡ sheet_of (after_records (lengths_of x) (state_of x) (joined (convert x).sheet calls)) (length x.rows) (length x.names)
unfolding lengths_of
converted-run x calls e =
    let y = (convert x).sheet in
    let same = convert-lengths x in
    let last = last-joined y calls (ap good_lengths same ∙ taken-lengths x e) (converted-good x e) in
    let state = ap₂ (λ (l : Lengths) (s : State). after_records l s (joined y calls)) same (converted-state x) in
    last ∙ (λ i. sheet_of (state i) (same i).rows (same i).names)
