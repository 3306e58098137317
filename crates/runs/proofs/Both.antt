-- Order 3: both choices over a run. Where of the accepted events, directly below the schema, none starts but types, a step is accepted under both choices or refused
-- with the same number under both: what an event of another kind is refused for does not look at the nesting. So readings and runs answer the same. Assumes nothing.
--     Beside        what the handlers give under choice 0, and under 1: the same, or a reader one tag deeper below the schema
--     Ready         a state under choice 0 with nesting 0 in context 1
--     Typed         of the accepted events of records none but a start of a type is directly below the schema
use Prim.Native.Nat.{ℕ, zero, suc, ◌+◌}
use mathlib.Core.Path.{◌≡◌, refl, sym, ap, subst, ◌∙◌}
use mathlib.Core.Bool.{true, false, not, ◌||◌}
use mathlib.Core.List.{List, [], ◌∷◌, ◌++◌, map}
use mathlib.Core.Option.{none}
use native.Mathlib.Omega.{arith}
use lib.Dec.{eqb, ltb}
use lib.ListN.{length, take}
use Rattle.text.specs.Text.{Text}
use Rattle.std.proofs.lemmas.Bool.{and_parts}
use Rattle.text.proofs.Laws.Tests.{bool_cases, and-true, and-true-left}
use Rattle.sheet.specs.Rows.{Sheet}
use Rattle.sheet.specs.Lengths.{sheet_lengths, tape_lengths, Lengths, lengths_of}
use Rattle.xsd_types.specs.State.{Context, Reader, State, first_state}
use Rattle.xsd_types.specs.Rows.{context_rows, rows_of, rows_used, names_used}
use Rattle.xsd_types.specs.Sheet.{state_fits}
use Rattle.xsd_types.specs.Clear.{clear}
use Rattle.xsd_types.specs.Choice.{chosen, sheet_chosen}
use Rattle.xsd_types.proofs.Laws.Count.{sheet-chosen}
use Rattle.xsd_types.proofs.Laws.Clear.{clear-sheet}
use Rattle.xsd_parser.specs.declared.words.Word.{Word}
use Rattle.xsd_parser.specs.Event.{Event}
use Rattle.xsd_parser.specs.Seen.{Seen, seen, tag_is}
use Rattle.xsd_parser.specs.Tape.{Judged, event, refused, records}
use Rattle.xsd_parser.specs.Handlers.{Outcome, ok, refuse, ◌and_then◌, in_context, on_top_level_element, below_schema, on_direct_child, on_start_in_schema, on_start}
use Rattle.xsd_parser.specs.Step.{handled, tags_after, counted, room_for, step}
use Rattle.xsd_parser.specs.Read.{read_records, read_state}
use Rattle.xsd_parser.specs.Children.{depth_after, starts_no_other, only_types_from, only_types}
use Rattle.xsd_parser.proofs.Laws.Outcomes.{gives-value, outcome-cases}
use Rattle.xsd_parser.proofs.Laws.Steps.{step-reader, step-choice}
use Rattle.xsd_parser.proofs.Laws.Reads.{read_ok, read-refuse}
use Rattle.xsd_parser.proofs.Laws.Accepts.{later, read_records-later}
use Rattle.xsd_parser.proofs.Laws.Children.{depth_in, kept-context, handled-walked}
use Rattle.xsd_parser.proofs.Laws.Choices.{Flat, NoOther, FlatIn, handled-same, handled-flat, standardly, step-chosen, reading_chosen, chosen-same}
use Rattle.ir_lower.specs.Call.{lower_state, lower_finished}
use Rattle.runs.specs.Runs.{Call, Answered, number_in_run, RunHolds, sheet_held, read_held, lower_held, held_after, refused_with, Ran, answered_first, run_calls, run}
use Rattle.runs.specs.Joined.{judged_in, judged_held, joined_from, joined, accepted_events, after_record, after_records}
use Rattle.runs.proofs.Joined.{after_record-ok, after_record-refuse, read_state-judged}
use Rattle.runs.proofs.Carried.{accepted-ok, accepted-refuse}
use Rattle.runs.proofs.Choices.{cleared-with}
use Rattle.runs.proofs.Accepted.{hold-first}

-- ---- refused under both choices alike
data Beside : Outcome Reader → Outcome Reader → Type 0 where
  same : {o : Outcome Reader} → Beside o o
  deeper : {r : Reader} → r.context ≡ Context.in_schema 0 → Beside (ok r) (ok (in_context (Context.in_schema 1) r))

child-beside : (m : ℕ) (t : Seen) (r : Reader) → r.context ≡ Context.in_schema 0 → Beside (on_direct_child false m t r) (on_direct_child true m t r)
unfolding on_direct_child below_schema on_top_level_element
child-beside m t r c =
    bool_cases (tag_is t Word.SimpleType) (λ h. rw h Beside.same)
    (λ h. bool_cases (tag_is t Word.ComplexType) (λ k. rw (h, k) Beside.same)
    (λ k. bool_cases (tag_is t Word.Element) (λ l. rw (h, k, l) (Beside.deeper (kept-context m t.name t.type_name r ∙ c))) (λ l. rw (h, k, l) (Beside.deeper c))))

start-beside : (m : ℕ) (t : Seen) (r : Reader) (x : Context) → r.context ≡ x → Flat x → Beside (on_start false m t r x) (on_start true m t r x)
unfolding on_start on_start_in_schema
start-beside m t r Context.no_context c f = Beside.same
start-beside m t r (Context.in_schema zero) c f = child-beside m t r c
start-beside m t r (Context.in_schema (suc n)) c f = absurd (omega arith)
start-beside m t r (Context.in_simple_type b) c f = Beside.same
start-beside m t r (Context.in_complex_type b) c f = Beside.same

handled-beside : (m : ℕ) (e : Event) (r : Reader) → FlatIn r → Beside (handled false m e r) (handled true m e r)
unfolding handled
handled-beside m (Event.start t) r f = start-beside m (seen t) r r.context refl f
handled-beside m (Event.empty t) r f = Beside.same
handled-beside m Event.close r f = Beside.same

module _ (lent : Lengths) (s : State) (k : ℕ) where
  room-refused : (x y : State) → state_fits lent.rows lent.names y ≡ state_fits lent.rows lent.names x → room_for lent x ≡ refuse k → room_for lent y ≡ refuse k
  unfolding room_for
  room-refused x y e q =
      bool_cases (state_fits lent.rows lent.names x)
      (λ h. absurd (let z : ◌≡◌ {A = Outcome State} (ok x) (refuse k) = rw h at q in let w : ◌≡◌ {A = ℕ} 0 1 = cc in omega arith))
      (λ h. rw (e, h) (rw h at q))

  fits-same : (o : ℕ) (r : Reader) → state_fits lent.rows lent.names (counted (chosen true s) o r) ≡ state_fits lent.rows lent.names (counted (chosen false s) o r)
  unfolding state_fits rows_used names_used rows_of counted chosen
  fits-same o r = refl

  fits-deeper : (o : ℕ) (r : Reader) → r.context ≡ Context.in_schema 0
      → state_fits lent.rows lent.names (counted (chosen true s) o (in_context (Context.in_schema 1) r)) ≡ state_fits lent.rows lent.names (counted (chosen false s) o r)
  unfolding state_fits rows_used names_used rows_of counted chosen in_context context_rows
  fits-deeper o r c = rw c

  readers-refused : {a b : Outcome Reader} (o : ℕ) → Beside a b → a and_then (λ r. room_for lent (counted (chosen false s) o r)) ≡ refuse k
      → b and_then (λ r. room_for lent (counted (chosen true s) o r)) ≡ refuse k
  unfolding ◌and_then◌
  readers-refused {a = ok r} o Beside.same q = room-refused _ _ (fits-same o r) q
  readers-refused {a = refuse j} o Beside.same q = q
  readers-refused o (Beside.deeper {r} c) q = room-refused _ _ (fits-deeper o r c) q

  tags-refused : (e : Event) → FlatIn s.reader → (o : Outcome ℕ) → o and_then (λ p. handled false s.events e s.reader and_then (λ r. room_for lent (counted (chosen false s) p r))) ≡ refuse k
      → o and_then (λ p. handled true s.events e s.reader and_then (λ r. room_for lent (counted (chosen true s) p r))) ≡ refuse k
  unfolding ◌and_then◌
  tags-refused e f (ok p) w = readers-refused p (handled-beside s.events e s.reader f) w
  tags-refused e f (refuse j) w = w

  step-no : (e : Event) → FlatIn s.reader → step lent (chosen false s) e ≡ refuse k → step lent (chosen true s) e ≡ refuse k
  unfolding step chosen
  step-no e f q = bool_cases (ltb s.events 1000000) (λ h. rw h (tags-refused e f (tags_after e s.open_tags) (rw h at q))) (λ h. rw h (rw h at q))

-- ---- a step under both choices
pub record Ready (s : State) : Type 0 where
  pub flat : FlatIn s.reader
  pub first : s.by_standard ≡ false

record Both (lent : Lengths) (s : State) (e : Event) (x : State) : Type 0 where
  pub steps : step lent (chosen true s) e ≡ ok (chosen true x)
  pub ready : Ready x
  pub depth : depth_in x.reader.context ≡ depth_after e (depth_in s.reader.context)

module _ (lent : Lengths) (s : State) (w : Ready s) (e : Event) where
  under : step lent (chosen false s) e ≡ step lent s e
  under = ap (λ (y : State). step lent y e) (chosen-same s w.first)

  both-refused : (k : ℕ) → step lent s e ≡ refuse k → step lent (chosen true s) e ≡ refuse k
  both-refused k q = step-no lent s k e w.flat (under ∙ q)

  both-accepted : (x : State) → NoOther (depth_in s.reader.context) e → step lent s e ≡ ok x → Both lent s e x
  unfolding chosen ◌and_then◌
  both-accepted x c q =
      let h = step-reader lent (chosen false s) e x (under ∙ q) in
      let same = handled-same s.events e s.reader w.flat c in
      record {
        steps = step-chosen lent s e w.flat c ∙ ap (λ (o : Outcome State). o and_then standardly) (under ∙ q);
        ready = record { flat = gives-value (handled-flat s.events e s.reader w.flat) h; first = step-choice lent s e x q ∙ w.first };
        depth = (gives-value (handled-walked s.events e s.reader) (same ∙ h)).depth;
      }

-- ---- records
abbrev pub Typed : Lengths → State → List Judged → Type 0
Typed lent s js = only_types_from (depth_in s.reader.context) (map event (accepted_events lent s js)) ≡ true

record TypedOn (lent : Lengths) (s : State) (e : Event) (x : State) (js : List Judged) : Type 0 where
  pub first : NoOther (depth_in s.reader.context) e
  pub both : Both lent s e x
  pub rest : Typed lent x js

typed-ok : (lent : Lengths) (s x : State) (e : Event) (js : List Judged) → Ready s → step lent s e ≡ ok x → Typed lent s (event e ∷ js) → TypedOn lent s e x js
unfolding only_types_from
typed-ok lent s x e js w q k =
    let parts = and_parts (not (eqb (depth_in s.reader.context) 1) || starts_no_other e) _ (rw (accepted-ok lent s x e js q) at k) in
    let b = both-accepted lent s w e x parts.0 q in
    record { first = parts.0; both = b; rest = rw b.depth parts.1 }

typed_no : (lent : Lengths) (s : State) (e : Event) (js : List Judged) (k : ℕ) → step lent s e ≡ refuse k → Typed lent s (event e ∷ js) → Typed lent s js
typed_no lent s e js k q t = rw (accepted-refuse lent s e js k q) at t

-- records before others
record Split (lent : Lengths) (s : State) (js ks : List Judged) : Type 0 where
  pub before : Typed lent s js
  pub ready : Ready (after_records lent s js)
  pub after : Typed lent (after_records lent s js) ks

-- one more record in front
split-more : (lent : Lengths) (s x : State) (j : Judged) (js ks : List Judged) → after_record lent s j ≡ x → Typed lent s (j ∷ js) → Ready (after_records lent x js)
    → Typed lent (after_records lent x js) ks → Split lent s (j ∷ js) ks
unfolding after_records
split-more lent s x j js ks e t w u =
    let at = ap (λ (y : State). after_records lent y js) (sym e) in
    record { before = t; ready = subst Ready at w; after = subst (λ (y : State). Typed lent y ks) at u }

split : (lent : Lengths) (s : State) (js ks : List Judged) → Ready s → Typed lent s (js ++ ks) → Split lent s js ks
unfolding after_records after_record accepted_events only_types_from
split lent s [] ks w t = record { before = refl; ready = w; after = t }
split lent s (refused r ∷ js) ks w t = let u = split lent s js ks w t in record { before = u.before; ready = u.ready; after = u.after }
split lent s (event e ∷ js) ks w t =
    outcome-cases (step lent s e)
    (λ x q.
    let on = typed-ok lent s x e (js ++ ks) w q t in
    let u = split lent x js ks on.both.ready on.rest in
    let first : Typed lent s (event e ∷ js) = rw (accepted-ok lent s x e js q) (and-true on.first (rw (← on.both.depth) u.before)) in
    split-more lent s x (event e) js ks (after_record-ok lent s x e q) first u.ready u.after)
    (λ k q.
    let u = split lent s js ks w (typed_no lent s e (js ++ ks) k q t) in
    split-more lent s s (event e) js ks (after_record-refuse lent s e k q) (rw (accepted-refuse lent s e js k q) u.before) u.ready u.after)

-- ---- a reading: of the records that it judges
judged : Lengths → State → List Judged → List Judged
judged lent s js = take (suc (read_records lent 0 s js).answer.place) js

judged-ok : (lent : Lengths) (s x : State) (e : Event) (js : List Judged) → step lent s e ≡ ok x → judged lent s (event e ∷ js) ≡ event e ∷ judged lent x js
unfolding judged
judged-ok lent s x e js q =
    let n = (read_records lent 0 x js).answer.place in
    let k : 1 + n ≡ suc n = omega arith in
    rw (read_ok lent 0 s x e js q ∙ read_records-later lent 1 0 x js, k)

reads_both : (lent : Lengths) (s : State) (js : List Judged) → Ready s → Typed lent s (judged lent s js) → read_records lent 0 (chosen true s) js ≡ reading_chosen (read_records lent 0 s js)
unfolding read_records
reads_both lent s [] w t = refl
reads_both lent s (refused r ∷ js) w t = refl
reads_both lent s (event e ∷ js) w t =
    outcome-cases (step lent s e)
    (λ x q.
    let on = typed-ok lent s x e (judged lent x js) w q (rw (judged-ok lent s x e js q) at t) in
    let ih = reads_both lent x js on.both.ready on.rest in
    read_ok lent 0 (chosen true s) (chosen true x) e js on.both.steps ∙ read_records-later lent 1 0 (chosen true x) js
    ∙ ap (later 1) ih ∙ ap reading_chosen (sym (read_ok lent 0 s x e js q ∙ read_records-later lent 1 0 x js)))
    (λ k q. read-refuse lent 0 (chosen true s) e js k (both-refused lent s w e k q) ∙ ap reading_chosen (sym (read-refuse lent 0 s e js k q)))

reading-both : (lent : Lengths) (s : State) (text : Text) (marks : List ℕ) → Ready s → Typed lent s (judged_in lent s text marks)
    → read_state lent (chosen true s) text marks ≡ reading_chosen (read_state lent s text marks)
unfolding read_state judged_in judged
reading-both lent s text marks w t = reads_both lent s (records text marks) w t

-- ---- a run
abbrev pub ran_chosen : Ran → Ran
ran_chosen r = record { answers = r.answers; last = sheet_chosen true r.last }

abbrev BothRun : List Call → Lengths → Type 0
BothRun calls lent =
    (s : State) → Ready s → Typed lent s (joined_from calls (RunHolds.holding lent s))
    → run_calls calls (RunHolds.holding lent (chosen true s)) ≡ ran_chosen (run_calls calls (RunHolds.holding lent s))

read-both : (text : Text) (marks : List ℕ) (calls : List Call) (lent : Lengths) → BothRun calls lent → BothRun (Call.reading text marks ∷ calls) lent
unfolding run_calls answered_first joined_from judged_held read_held held_after refused_with chosen
read-both text marks calls lent ih s w t =
    bool_cases (tape_lengths (length text) (length marks))
    (λ l.
    let r = read_state lent s text marks in
    let parts = split lent s (judged_in lent s text marks) (joined_from calls (RunHolds.holding lent r.state)) w (rw l at t) in
    let rest = ih r.state (rw (read_state-judged lent s text marks) at parts.ready) (rw (read_state-judged lent s text marks) at parts.after) in
    rw (l, reading-both lent s text marks w parts.before) (ap (λ (q : Ran). answered_first (Answered.read_as r.answer (number_in_run s.events r.answer)) q) rest))
    (λ l. rw l (ap (λ (q : Ran). answered_first (Answered.read_as (record { number = 1; place = 0 }) none) q) (ih s w (rw l at t))))

pub run-both : (calls : List Call) (lent : Lengths) → BothRun calls lent
unfolding run_calls answered_first joined_from sheet_held lower_held lower_state lower_finished chosen
run-both [] lent s w t = ap (λ (y : Sheet). record { answers = []; last = y }) (sheet-chosen true s lent.rows lent.names)
run-both (Call.reading text marks ∷ calls) lent s w t = read-both text marks calls lent (run-both calls lent) s w t
run-both (Call.lowering graph scratch ∷ calls) lent s w t = ap (λ (r : Ran). answered_first (Answered.lowered_as (lower_held (RunHolds.holding lent s) graph scratch)) r) (run-both calls lent s w t)

-- from a cleared sheet
pub cleared-runs : (x : Sheet) (calls : List Call) → (clear 0 x).answer.number ≡ 0 → only_types (map event (accepted_events (lengths_of x) (first_state false) (joined (clear 0 x).sheet calls))) ≡ true
    → run (clear 1 x).sheet calls ≡ ran_chosen (run (clear 0 x).sheet calls)
unfolding run joined lengths_of only_types first_state chosen
cleared-runs x calls h k =
    let e = cleared-with 0 x h in
    let l = and-true-left (sheet_lengths (length x.rows) (length x.names)) _ e in
    rw (clear-sheet 1 x e, clear-sheet 0 x e, hold-first true x l, hold-first false x l)
    (run-both calls (lengths_of x) (first_state false) (record { flat = tt; first = refl }) (rw (clear-sheet 0 x e, hold-first false x l) at k))
