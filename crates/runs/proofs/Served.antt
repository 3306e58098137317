-- A sheet and what a run holds of it: the sheet is the one held, and a state held is proper and has room. Each call answers from the sheet what the
-- definition answers from what is held, and leaves such a pair. Assumes nothing.
use Rattle.std.specs.Prelude.{if◌then◌else◌}
use Prim.Native.Nat.{ℕ}
use mathlib.Core.Path.{◌≡◌, refl, sym, ap, ◌∙◌}
use mathlib.Core.Bool.{Bool, true, false}
use mathlib.Core.List.{List}
use lib.ListN.{length}
use Rattle.text.specs.Text.{Text, between}
use Rattle.sheet.specs.Rows.{Sheet, Ten}
use Rattle.sheet.specs.Lengths.{tape_lengths, Lengths, lengths_of, good_lengths}
use Rattle.xsd_types.specs.State.{State, proper}
use Rattle.xsd_types.specs.Row0.{row0_from}
use Rattle.xsd_types.specs.Rows.{row0}
use Rattle.xsd_types.specs.Count.{sheet_of, good}
use Rattle.xsd_types.specs.Sheet.{state_fits}
use Rattle.xsd_types.proofs.Laws.Count.{good-sheet_of, state_of-sheet_of, length-sheet_of, row0-sheet_of}
use Rattle.xsd_parser.specs.Read.{ReadAnswer, read_state, read, refused_at, sheet_of_reading}
use Rattle.xsd_parser.proofs.Laws.Reads.{read_state-proper, read_state-fits}
use Rattle.ir_lower.specs.Call.{unchanged, lower_state, lowering}
use Rattle.runs.specs.Runs.{number_in_run, RunHolds, sheet_held, AfterCall, refused_with, held_after, read_held, lower_held}
use Rattle.runs.specs.Trace.{events_done}

pub data Served : Sheet → RunHolds → Type 0 where
  served_lengths : {x : Sheet} → good_lengths (lengths_of x) ≡ false → Served x (RunHolds.bad_lengths x)
  served_bad : {x : Sheet} → good_lengths (lengths_of x) ≡ true → good x ≡ false → Served x (RunHolds.not_good x)
  served_state : {x : Sheet} {lent : Lengths} {s : State} → x ≡ sheet_of s lent.rows lent.names → good_lengths lent ≡ true → proper s ≡ true
      → state_fits lent.rows lent.names s ≡ true → Served x (RunHolds.holding lent s)

-- the sheet is the one held
pub served-sheet : {x : Sheet} {h : RunHolds} → Served x h → sheet_held h ≡ x
unfolding sheet_held
served-sheet (served_lengths l) = refl
served-sheet (served_bad l g) = refl
served-sheet (served_state e l p f) = sym e

-- the lengths of a state's sheet are those lent
pub lengths_of-sheet_of : (s : State) (lent : Lengths) → state_fits lent.rows lent.names s ≡ true → lengths_of (sheet_of s lent.rows lent.names) ≡ lent
unfolding lengths_of
lengths_of-sheet_of s lent f =
    let l = length-sheet_of s lent.rows lent.names f in
    λ i. record { rows = l.0 i; names = l.1 i }

-- reading the sheet of a state is reading the state
pub read-state : (lent : Lengths) (s : State) (text : Text) (marks : List ℕ) → good_lengths lent ≡ true → proper s ≡ true → state_fits lent.rows lent.names s ≡ true
    → read (sheet_of s lent.rows lent.names) text marks
    ≡ (if tape_lengths (length text) (length marks) then sheet_of_reading lent (read_state lent s text marks) else refused_at 1 (sheet_of s lent.rows lent.names))
unfolding read
read-state lent s text marks l p f =
    rw (lengths_of-sheet_of s lent f, l, good-sheet_of s lent.rows lent.names p f, state_of-sheet_of s lent.rows lent.names p f)

-- lowering the sheet of a state is lowering the state
lower-state : (lent : Lengths) (s : State) (graph : Sheet) (scratch : List ℕ) → good_lengths lent ≡ true → proper s ≡ true → state_fits lent.rows lent.names s ≡ true
    → lowering (sheet_of s lent.rows lent.names) graph scratch ≡ (if good_lengths (lengths_of graph) then lower_state s graph scratch else unchanged 1 graph scratch)
unfolding lowering
lower-state lent s graph scratch l p f =
    rw (ap good_lengths (lengths_of-sheet_of s lent f) ∙ l, good-sheet_of s lent.rows lent.names p f, state_of-sheet_of s lent.rows lent.names p f)

-- the events done in the sheet of a state
events_done-sheet_of : (lent : Lengths) (s : State) → events_done (sheet_of s lent.rows lent.names) ≡ s.events
unfolding events_done row0
events_done-sheet_of lent s = ap (λ (t : Ten). (row0_from t).events) (row0-sheet_of s lent.rows lent.names)

-- what a step leaves: the definition's answer, the refused event's number in the run, and a pair again
pub record Kept (x : Sheet) (a : ReadAnswer) (st : AfterCall) : Type 0 where
  pub answers : a ≡ record { answer = st.answer; sheet = sheet_held st.held }
  pub numbers : number_in_run (events_done x) st.answer ≡ st.in_run
  pub serves : Served (sheet_held st.held) st.held

kept-bad : (x : Sheet) (t : Bool) → good_lengths (lengths_of x) ≡ true → good x ≡ false
    → Kept x (if t then refused_at 2 x else refused_at 1 x) (refused_with (if t then 2 else 1) (RunHolds.not_good x))
unfolding refused_at refused_with sheet_held number_in_run between
kept-bad x true l g = record { answers = refl; numbers = refl; serves = served_bad l g }
kept-bad x false l g = record { answers = refl; numbers = refl; serves = served_bad l g }

kept-state : (lent : Lengths) (s : State) (text : Text) (marks : List ℕ) (t : Bool) → good_lengths lent ≡ true → proper s ≡ true
    → state_fits lent.rows lent.names s ≡ true
    → Kept (sheet_of s lent.rows lent.names) (if t then sheet_of_reading lent (read_state lent s text marks) else refused_at 1 (sheet_of s lent.rows lent.names))
    (if t then held_after lent s (read_state lent s text marks) else refused_with 1 (RunHolds.holding lent s))
unfolding refused_at refused_with held_after sheet_of_reading sheet_held number_in_run between
kept-state lent s text marks true l p f =
    record {
      answers = refl;
      numbers = ap (λ (n : ℕ). number_in_run n (read_state lent s text marks).answer) (events_done-sheet_of lent s);
      serves = served_state refl l (read_state-proper lent s text marks p) (read_state-fits lent s text marks f);
    }
kept-state lent s text marks false l p f = record { answers = refl; numbers = refl; serves = served_state refl l p f }

pub read-served : {x : Sheet} {h : RunHolds} (text : Text) (marks : List ℕ) → Served x h → Kept x (read x text marks) (read_held h text marks)
unfolding read read_held refused_at refused_with sheet_held number_in_run between
read-served {x} text marks (served_lengths l) =
    rw l (record { answers = refl; numbers = refl; serves = served_lengths l })
read-served {x} text marks (served_bad l g) = rw (l, g) (kept-bad x (tape_lengths (length text) (length marks)) l g)
read-served {x} text marks (served_state {lent = lent} {s = s} e l p f) =
    rw (e, read-state lent s text marks l p f) (kept-state lent s text marks (tape_lengths (length text) (length marks)) l p f)

pub lower-served : {x : Sheet} {h : RunHolds} (graph : Sheet) (scratch : List ℕ) → Served x h → lowering x graph scratch ≡ lower_held h graph scratch
unfolding lowering lower_held
lower-served {x} graph scratch (served_lengths l) = rw l
lower-served {x} graph scratch (served_bad l g) = rw (l, g)
lower-served {x} graph scratch (served_state {lent = lent} {s = s} e l p f) = rw (e, lower-state lent s graph scratch l p f)
