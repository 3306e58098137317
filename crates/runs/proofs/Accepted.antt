-- The accepted events of any run, refused events and refused calls among them: one after the other they lead to the state of the last sheet. From a sheet
-- cleared with choice 1 the heads of that state are the direct children of the outermost `schema` tags. Assumes nothing.
use Prim.Native.Nat.{ℕ}
use mathlib.Core.Path.{◌≡◌, ap, ◌∙◌}
use mathlib.Core.Bool.{Bool, true}
use mathlib.Core.List.{List, [], ◌∷◌, map}
use lib.Dec.{leb}
use lib.ListN.{length}
use Rattle.text.specs.Text.{Text}
use Rattle.text.proofs.Laws.Tests.{bool_cases, and-true-left}
use Rattle.sheet.specs.Rows.{Sheet}
use Rattle.sheet.specs.Lengths.{sheet_lengths, tape_lengths, Lengths, lengths_of, good_lengths}
use Rattle.xsd_types.specs.State.{State, first_state, proper}
use Rattle.xsd_types.specs.Count.{sheet_of, state_of}
use Rattle.xsd_types.specs.Sheet.{state_fits}
use Rattle.xsd_types.specs.Clear.{clear}
use Rattle.xsd_types.proofs.Laws.Count.{state_of-sheet_of, good-sheet_of}
use Rattle.xsd_types.proofs.Laws.Clear.{first-proper, first_fits, clear-sheet}
use Rattle.xsd_parser.specs.Tape.{Judged, event, refused}
use Rattle.xsd_parser.specs.Step.{step}
use Rattle.xsd_parser.specs.Read.{read_state}
use Rattle.xsd_parser.specs.Accepted.{Accepted, none_left, one_more}
use Rattle.xsd_parser.specs.Children.{direct_children, child_heads}
use Rattle.xsd_parser.proofs.Laws.Outcomes.{outcome-cases}
use Rattle.xsd_parser.proofs.Laws.Reads.{read_state-proper, read_state-fits}
use Rattle.xsd_parser.proofs.Laws.ChildrenRead.{first-children}
use Rattle.runs.specs.Runs.{Call, RunHolds, hold, read_held, held_after, refused_with, run}
use Rattle.runs.specs.Joined.{judged_in, judged_held, joined_from, joined, accepted_events, after_record, after_records}
use Rattle.runs.proofs.Served.{lengths_of-sheet_of}
use Rattle.runs.proofs.Joined.{after_record-ok, after_record-refuse, after_records-append, read_state-judged, last-joined-from}
use Rattle.runs.proofs.Carried.{accepted-ok, accepted-refuse}
use Rattle.runs.proofs.Choices.{cleared-with}

-- the records judged lead where their accepted events lead
after-accepted : (lent : Lengths) (s : State) (js : List Judged) → Accepted lent s (map event (accepted_events lent s js)) (after_records lent s js)
unfolding accepted_events after_records after_record
after-accepted lent s [] = none_left
after-accepted lent s (refused r ∷ js) = after-accepted lent s js
after-accepted lent s (event e ∷ js) =
    outcome-cases (step lent s e)
    (λ x q. rw (accepted-ok lent s x e js q, after_record-ok lent s x e q) (one_more q (after-accepted lent x js)))
    (λ k q. rw (accepted-refuse lent s e js k q, after_record-refuse lent s e k q) (after-accepted lent s js))

-- what every reading keeps, a run keeps
module _ (P : State → Type 0) (lent : Lengths) (keeps : (s : State) (text : Text) (marks : List ℕ) → P s → P (read_state lent s text marks).state) where
  abbrev pub AfterKeeps : List Call → Type 0
  AfterKeeps calls = (s : State) → P s → P (after_records lent s (joined_from calls (RunHolds.holding lent s)))

  read_keeps : (text : Text) (marks : List ℕ) (calls : List Call) → AfterKeeps calls → AfterKeeps (Call.reading text marks ∷ calls)
  unfolding joined_from judged_held read_held held_after refused_with
  read_keeps text marks calls ih s p =
      bool_cases (tape_lengths (length text) (length marks))
      (λ t. rw (t, after_records-append lent s (judged_in lent s text marks), read_state-judged lent s text marks) (ih (read_state lent s text marks).state (keeps s text marks p)))
      (λ t. rw t (ih s p))

  pub joined_keeps : (calls : List Call) → AfterKeeps calls
  unfolding after_records joined_from
  joined_keeps [] = λ s p. p
  joined_keeps (Call.reading text marks ∷ calls) = read_keeps text marks calls (joined_keeps calls)
  joined_keeps (Call.lowering graph scratch ∷ calls) = λ s p. joined_keeps calls s p

-- what a run from a cleared sheet begins with
pub hold-first : (b : Bool) (x : Sheet) → sheet_lengths (length x.rows) (length x.names) ≡ true
    → hold (sheet_of (first_state b) (length x.rows) (length x.names)) ≡ RunHolds.holding (record { rows = length x.rows; names = length x.names }) (first_state b)
unfolding hold good_lengths
hold-first b x l =
    let r = length x.rows in
    let n = length x.names in
    let f = first_fits b r n l in
    rw (lengths_of-sheet_of (first_state b) (record { rows = r; names = n }) f, l, good-sheet_of (first_state b) r n (first-proper b) f, state_of-sheet_of (first_state b) r n (first-proper b) f)

hold-cleared : (x : Sheet) → sheet_lengths (length x.rows) (length x.names) ≡ true → (clear 1 x).sheet ≡ sheet_of (first_state true) (length x.rows) (length x.names)
    → hold (clear 1 x).sheet ≡ RunHolds.holding (record { rows = length x.rows; names = length x.names }) (first_state true)
hold-cleared x l e = rw e (hold-first true x l)

children-of : (x : Sheet) (calls : List Call) → sheet_lengths (length x.rows) (length x.names) ≡ true
    → let js = joined_from calls (RunHolds.holding (lengths_of x) (first_state true)) in
    child_heads (state_of (sheet_of (after_records (lengths_of x) (first_state true) js) (length x.rows) (length x.names))).reader
    ≡ direct_children (map event (accepted_events (lengths_of x) (first_state true) js))
unfolding lengths_of
children-of x calls l =
    let lent = lengths_of x in
    let js = joined_from calls (RunHolds.holding lent (first_state true)) in
    let p = joined_keeps (λ s. proper s ≡ true) lent (λ s text marks q. read_state-proper lent s text marks q) calls (first_state true) (first-proper true) in
    let f = joined_keeps (λ s. state_fits lent.rows lent.names s ≡ true) lent (λ s text marks q. read_state-fits lent s text marks q) calls (first_state true)
    (first_fits true (length x.rows) (length x.names) l) in
    ap (λ (y : State). child_heads y.reader) (state_of-sheet_of (after_records lent (first_state true) js) (length x.rows) (length x.names) p f)
    ∙ first-children (after-accepted lent (first_state true) js)

-- any calls, each over its own text
pub run-children : (x : Sheet) (calls : List Call) → (clear 1 x).answer.number ≡ 0
    → child_heads (state_of (run (clear 1 x).sheet calls).last).reader ≡ direct_children (map event (accepted_events (lengths_of x) (first_state true) (joined (clear 1 x).sheet calls)))
unfolding run joined lengths_of
run-children x calls c =
    let e = cleared-with 1 x c in
    let l = and-true-left (sheet_lengths (length x.rows) (length x.names)) (leb 1 1) e in
    rw (hold-cleared x l (clear-sheet 1 x e), last-joined-from calls (lengths_of x) (first_state true)) (children-of x calls l)
