-- Order 5, sheets stored earlier: a run keeps the heads of the first sheet with their names and numbers, and what its events give has their numbers, which are not
-- below the events done in that sheet; so from a sheet without numbers every c is 0 or that of an event of the run. A run leaves a good sheet good.
-- Assumes nothing.
use Prim.Native.Nat.{ℕ, suc, ◌≤◌}
use mathlib.Core.Path.{◌≡◌, refl, sym, ap, subst, ◌∙◌}
use mathlib.Core.Bool.{Bool, true, ◌&&◌}
use mathlib.Core.List.{List, [], ◌∷◌, ◌++◌}
use mathlib.Core.Option.{Option, some, none}
use native.Mathlib.Omega.{arith}
use lib.Dec.{eqb, leb}
use lib.ListN.{length}
use borrow.Author.Tests.{le-leb}
use Rattle.text.specs.Text.{Text, every}
use Rattle.text.proofs.Laws.Every.{every-append-true, every-weaken}
use Rattle.std.proofs.lemmas.Bool.{or_left, or_right}
use Rattle.text.proofs.Laws.Tests.{and-true, if-either}
use Rattle.sheet.specs.Rows.{Sheet}
use Rattle.sheet.specs.Form.{words}
use Rattle.sheet.specs.Lengths.{Lengths, lengths_of}
use Rattle.xsd_types.specs.State.{HeadNumber, Reader, State, proper, heads_pass}
use Rattle.xsd_types.specs.Sheet.{state_fits}
use Rattle.xsd_types.specs.Count.{sheet_of, state_of}
use Rattle.xsd_types.proofs.Laws.Count.{state_of-sheet_of, good-sheet_of, proper-state_of, fits-state_of}
use Rattle.xsd_parser.specs.Event.{Event, event_name}
use Rattle.xsd_parser.specs.Tape.{Judged, event, refused}
use Rattle.xsd_parser.specs.Step.{step}
use Rattle.xsd_parser.specs.Numbered.{makes_head, numbered_heads, more_heads, named_by, given_by, heads_given}
use Rattle.xsd_parser.proofs.Laws.Outcomes.{outcome-cases}
use Rattle.xsd_parser.proofs.Laws.Numbers.{heads-numbered}
use Rattle.xsd_parser.proofs.Laws.Reads.{read_state-proper, read_state-fits}
use Rattle.runs.specs.Runs.{Call, GoodStart, RunHolds, run}
use Rattle.runs.specs.Joined.{joined, joined_from, after_records}
use Rattle.runs.specs.Cleared.{zero_number, zero_or_later, StoredEarlier}
use Rattle.runs.proofs.Joined.{hold-good, last-joined}
use Rattle.runs.proofs.Carried.{given-ok, given-refuse, records-give}
use Rattle.runs.proofs.Accepted.{joined_keeps}

-- what is given from an event on has the number of that event or of a later one
module _ (from : ℕ) where
  abbrev is_later : HeadNumber → Bool
  is_later h = leb from h.event

  named-later : (n : ℕ) (name : Option Text) → from ≤ n → every is_later (named_by n name) ≡ true
  unfolding every named_by
  named-later n none h = refl
  named-later n (some name) h = and-true (le-leb from n h) refl

  own-later : (n : ℕ) (e : Event) (r r' : Reader) → from ≤ n → every is_later (given_by n e r r') ≡ true
  unfolding every given_by
  own-later n e r r' h = if-either (λ (hs : List HeadNumber). every is_later hs ≡ true) (makes_head e && more_heads r r') (named-later n (event_name e) h) refl

  given-later : (lent : Lengths) (n : ℕ) (s : State) (js : List Judged) → from ≤ n → every is_later (heads_given lent n s js) ≡ true
  unfolding every heads_given
  given-later lent n s [] h = refl
  given-later lent n s (refused r ∷ js) h = given-later lent n s js h
  given-later lent n s (event e ∷ js) h =
      outcome-cases (step lent s e)
      (λ x q. ap (every is_later) (given-ok lent n s x e js q)
      ∙ every-append-true is_later (given_by n e s.reader x.reader) (heads_given lent (suc n) x js) (own-later n e s.reader x.reader h) (given-later lent (suc n) x js (omega (arith, h))))
      (λ k q. ap (every is_later) (given-refuse lent n s e js k q) ∙ given-later lent n s js h)

zeros-later : (s t : State) (given : List HeadNumber) → numbered_heads t.reader ≡ numbered_heads s.reader ++ given → every (is_later s.events) given ≡ true
    → heads_pass zero_number s.reader ≡ true → heads_pass (zero_or_later s.events) t.reader ≡ true
unfolding zero_number zero_or_later
zeros-later s t given k l z =
    let passes = λ (h : HeadNumber). zero_or_later s.events h.name h.event in
    let first = every-weaken (λ (h : HeadNumber). zero_number h.name h.event) passes (λ h e. or_left _ (leb s.events h.event) e) (numbered_heads s.reader) (heads-numbered zero_number s.reader ∙ z) in
    let behind = every-weaken (is_later s.events) passes (λ h e. or_right (eqb h.event 0) _ e) given l in
    sym (heads-numbered (zero_or_later s.events) t.reader) ∙ ap (every passes) k ∙ every-append-true passes (numbered_heads s.reader) given first behind

sheet-stored : (x : Sheet) (t : State) (given : List HeadNumber) → proper t ≡ true → state_fits (length x.rows) (length x.names) t ≡ true
    → numbered_heads t.reader ≡ numbered_heads (state_of x).reader ++ given → every (is_later (state_of x).events) given ≡ true → StoredEarlier x (sheet_of t (length x.rows) (length x.names)) given
sheet-stored x t given p f k l =
    let back = state_of-sheet_of t (length x.rows) (length x.names) p f in
    record { stays = good-sheet_of t (length x.rows) (length x.names) p f; kept = rw back k; later = l; zeros = λ z. rw back (zeros-later (state_of x) t given k l z) }

pub stored-run : (x : Sheet) (calls : List Call) → words x.rows ≡ true → GoodStart x
    → StoredEarlier x (run x calls).last (heads_given (lengths_of x) (state_of x).events (state_of x) (joined x calls))
unfolding joined lengths_of
stored-run x calls w g =
    let lent = lengths_of x in
    let s = state_of x in
    let js = joined x calls in
    let same : js ≡ joined_from calls (RunHolds.holding lent s) = ap (joined_from calls) (hold-good x g.lengths g.is_good) in
    let p = joined_keeps (λ t. proper t ≡ true) lent (λ t text marks q. read_state-proper lent t text marks q) calls s (proper-state_of x w g.is_good) in
    let f = joined_keeps (λ t. state_fits lent.rows lent.names t ≡ true) lent (λ t text marks q. read_state-fits lent t text marks q) calls s (fits-state_of x w g.is_good) in
    let given = heads_given lent s.events s js in
    let after = sheet-stored x (after_records lent s js) given (rw same p) (rw same f) (records-give lent s js) (given-later s.events lent s.events s js (omega arith)) in
    subst (λ (y : Sheet). StoredEarlier x y given) (sym (last-joined x calls g.lengths g.is_good)) after
