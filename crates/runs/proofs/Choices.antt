-- Order 3 in runs: no call changes the choice. Assumes nothing.
use Prim.Native.Nat.{ℕ}
use mathlib.Core.Path.{◌≡◌, refl, ap, ◌∙◌}
use mathlib.Core.Bool.{true, ◌&&◌}
use mathlib.Core.List.{List, [], ◌∷◌}
use native.Mathlib.Omega.{arith}
use lib.Dec.{leb}
use lib.ListN.{length}
use Rattle.text.specs.Text.{Text}
use Rattle.text.proofs.Laws.Tests.{bool_cases}
use Rattle.sheet.specs.Rows.{Sheet, bit}
use Rattle.sheet.specs.Lengths.{sheet_lengths, tape_lengths, Lengths, lengths_of, good_lengths}
use Rattle.xsd_types.specs.State.{State}
use Rattle.xsd_types.specs.Row0.{row0_in}
use Rattle.xsd_types.specs.Count.{good, state_of}
use Rattle.xsd_types.specs.Clear.{clear}
use Rattle.xsd_types.proofs.Laws.Count.{choice-again, choice-made}
use Rattle.xsd_parser.specs.Read.{read_state}
use Rattle.xsd_parser.proofs.Laws.Choices.{read_state-choice}
use Rattle.runs.specs.Runs.{Call, RunHolds, hold, sheet_held, read_held, held_after, refused_with, run_calls, answered_first, run}

-- ---- no call changes the choice

abbrev LastChoice : List Call → Lengths → State → Type 0
LastChoice calls lent s = (row0_in (run_calls calls (RunHolds.holding lent s)).last).choice ≡ bit s.by_standard

choice-read : (text : Text) (marks : List ℕ) (calls : List Call) (lent : Lengths) (s : State) → ((s' : State) → LastChoice calls lent s') → LastChoice (Call.reading text marks ∷ calls) lent s
unfolding run_calls answered_first read_held held_after refused_with
choice-read text marks calls lent s ih =
    bool_cases (tape_lengths (length text) (length marks))
    (λ t. rw t (ih (read_state lent s text marks).state ∙ ap bit (read_state-choice lent s text marks)))
    (λ t. rw t (ih s))

choice-from : (calls : List Call) (lent : Lengths) (s : State) → LastChoice calls lent s
unfolding run_calls answered_first sheet_held
choice-from [] lent s = choice-made s lent.rows lent.names
choice-from (Call.reading text marks ∷ calls) lent s = choice-read text marks calls lent s (λ s'. choice-from calls lent s')
choice-from (Call.lowering graph scratch ∷ calls) lent s = choice-from calls lent s

-- a sheet that is not held as a state stays as it is
lengths-last : (calls : List Call) (x : Sheet) → (run_calls calls (RunHolds.bad_lengths x)).last ≡ x
unfolding run_calls answered_first read_held refused_with sheet_held
lengths-last [] x = refl
lengths-last (Call.reading text marks ∷ calls) x = lengths-last calls x
lengths-last (Call.lowering graph scratch ∷ calls) x = lengths-last calls x

bad_last : (calls : List Call) (x : Sheet) → (run_calls calls (RunHolds.not_good x)).last ≡ x
unfolding run_calls answered_first read_held refused_with sheet_held
bad_last [] x = refl
bad_last (Call.reading text marks ∷ calls) x = bad_last calls x
bad_last (Call.lowering graph scratch ∷ calls) x = bad_last calls x

pub run-choice : (x : Sheet) (calls : List Call) → (row0_in (run x calls).last).choice ≡ (row0_in x).choice
unfolding run hold
run-choice x calls =
    bool_cases (good_lengths (lengths_of x))
    (λ l. bool_cases (good x)
    (λ g. rw (l, g) (choice-from calls (lengths_of x) (state_of x) ∙ choice-again x g))
    (λ g. rw (l, g, bad_last calls x)))
    (λ l. rw (l, lengths-last calls x))

-- a clearing that is accepted
pub cleared-with : (choice : ℕ) (x : Sheet) → (clear choice x).answer.number ≡ 0 → sheet_lengths (length x.rows) (length x.names) && leb choice 1 ≡ true
unfolding clear
cleared-with choice x e =
    bool_cases (sheet_lengths (length x.rows) (length x.names) && leb choice 1) (λ h. h) (λ h. absurd (omega (arith, rw h at e)))
