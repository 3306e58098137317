-- The heads of a run's last sheet, each with its number: those of the first sheet, and behind them what the run's accepted events gave, one after the other. So
-- from a cleared sheet c of every head is the number in the run of the event in whose handling it was made. Assumes nothing.
use Prim.Native.Nat.{ℕ, suc}
use mathlib.Core.Path.{◌≡◌, refl, sym, ap, ◌∙◌}
use mathlib.Core.Bool.{Bool, true}
use mathlib.Core.List.{List, [], ◌∷◌, ◌++◌, append-nil, append_assoc}
use borrow.Author.Tests.{eq-eqb}
use lib.ListN.{length}
use Rattle.text.specs.Text.{every}
use Rattle.text.proofs.Laws.Every.{every-weaken}
use Rattle.std.proofs.lemmas.Bool.{or_left, or_right}
use Rattle.text.proofs.Laws.Tests.{and-true}
use Rattle.text.proofs.Laws.Texts.{same_refl}
use Rattle.sheet.specs.Rows.{Sheet}
use Rattle.sheet.specs.Lengths.{Lengths, lengths_of}
use Rattle.xsd_types.specs.State.{HeadNumber, Reader, State, first_state, heads_pass}
use Rattle.xsd_types.specs.Count.{sheet_of, state_of}
use Rattle.xsd_parser.specs.Event.{Event}
use Rattle.xsd_parser.specs.Tape.{Judged, event, refused}
use Rattle.xsd_parser.specs.Handlers.{ok, refuse}
use Rattle.xsd_parser.specs.Step.{step}
use Rattle.xsd_parser.specs.Numbered.{numbered_heads, open_number, given_by, heads_given, gave}
use Rattle.xsd_parser.proofs.Laws.Outcomes.{outcome-cases, gives-value}
use Rattle.xsd_parser.proofs.Laws.Numbers.{handled-makes, given-behind, heads-numbered}
use Rattle.xsd_parser.proofs.Laws.Steps.{step-events, step-reader}
use Rattle.runs.specs.Runs.{Call, GoodStart, run}
use Rattle.runs.specs.Joined.{joined, accepted_events, after_record, after_records}
use Rattle.runs.proofs.Joined.{after_record-ok, after_record-refuse, last-joined}

pub accepted-ok : (lent : Lengths) (s x : State) (e : Event) (js : List Judged) → step lent s e ≡ ok x → accepted_events lent s (event e ∷ js) ≡ e ∷ accepted_events lent x js
unfolding accepted_events
accepted-ok lent s x e js q = rw (q, accepted_events)

pub accepted-refuse : (lent : Lengths) (s : State) (e : Event) (js : List Judged) (k : ℕ) → step lent s e ≡ refuse k → accepted_events lent s (event e ∷ js) ≡ accepted_events lent s js
unfolding accepted_events
accepted-refuse lent s e js k q = rw (q, accepted_events)

-- what one more event gives
pub given-ok : (lent : Lengths) (n : ℕ) (s x : State) (e : Event) (js : List Judged) → step lent s e ≡ ok x
    → heads_given lent n s (event e ∷ js) ≡ given_by n e s.reader x.reader ++ heads_given lent (suc n) x js
unfolding heads_given
given-ok lent n s x e js q = rw (q, heads_given)

pub given-refuse : (lent : Lengths) (n : ℕ) (s : State) (e : Event) (js : List Judged) (k : ℕ) → step lent s e ≡ refuse k → heads_given lent n s (event e ∷ js) ≡ heads_given lent n s js
unfolding heads_given
given-refuse lent n s e js k q = rw (q, heads_given)

-- the heads after records
abbrev GivenBehind : Lengths → State → List Judged → Type 0
GivenBehind lent s js = numbered_heads (after_records lent s js).reader ≡ numbered_heads s.reader ++ heads_given lent s.events s js

behind-ok : (lent : Lengths) (s x : State) (e : Event) (js : List Judged) → step lent s e ≡ ok x → GivenBehind lent x js → GivenBehind lent s (event e ∷ js)
unfolding after_records
behind-ok lent s x e js q h =
    let before = numbered_heads s.reader in
    let own = given_by s.events e s.reader x.reader in
    let one = given-behind s.events e s.reader x.reader (gives-value (handled-makes s.events s.by_standard e s.reader) (step-reader lent s e x q)) in
    ap (λ (y : State). numbered_heads (after_records lent y js).reader) (after_record-ok lent s x e q) ∙ h
    ∙ ap (λ (hs : List HeadNumber). hs ++ heads_given lent x.events x js) one ∙ append_assoc before own (heads_given lent x.events x js)
    ∙ ap (λ (n : ℕ). before ++ (own ++ heads_given lent n x js)) (step-events lent s e x q)
    ∙ ap (λ (hs : List HeadNumber). before ++ hs) (sym (given-ok lent s.events s x e js q))

behind-refuse : (lent : Lengths) (s : State) (e : Event) (js : List Judged) (k : ℕ) → step lent s e ≡ refuse k → GivenBehind lent s js → GivenBehind lent s (event e ∷ js)
unfolding after_records
behind-refuse lent s e js k q h =
    ap (λ (y : State). numbered_heads (after_records lent y js).reader) (after_record-refuse lent s e k q) ∙ h
    ∙ ap (λ (hs : List HeadNumber). numbered_heads s.reader ++ hs) (sym (given-refuse lent s.events s e js k q))

pub records-give : (lent : Lengths) (s : State) (js : List Judged) → GivenBehind lent s js
unfolding heads_given after_records after_record
records-give lent s [] = sym (append-nil (numbered_heads s.reader))
records-give lent s (refused r ∷ js) = records-give lent s js
records-give lent s (event e ∷ js) =
    outcome-cases (step lent s e) (λ x q. behind-ok lent s x e js q (records-give lent x js)) (λ k q. behind-refuse lent s e js k q (records-give lent s js))

-- each of some heads is one of them
gave-each : (hs : List HeadNumber) → every (λ (h : HeadNumber). gave hs h.name h.event) hs ≡ true
unfolding every gave
gave-each [] = refl
gave-each (h ∷ hs) =
    and-true (or_left _ _ (and-true (same_refl h.name) (eq-eqb h.event h.event refl)))
    (every-weaken (λ (g : HeadNumber). gave hs g.name g.event) (λ (g : HeadNumber). gave (h ∷ hs) g.name g.event) (λ g k. or_right _ _ k) hs (gave-each hs))

gave-heads : (r : Reader) (hs : List HeadNumber) → numbered_heads r ≡ hs → heads_pass (gave hs) r ≡ true
gave-heads r hs e =
    sym (heads-numbered (gave hs) r) ∙ ap (λ (gs : List HeadNumber). every (λ (h : HeadNumber). gave hs h.name h.event) gs) e ∙ gave-each hs

pub carried : (by_standard : Bool) (lent : Lengths) (js : List Judged)
    → numbered_heads (after_records lent (first_state by_standard) js).reader ≡ heads_given lent 0 (first_state by_standard) js
unfolding first_state numbered_heads open_number
carried b lent js = records-give lent (first_state b) js

-- the last sheet of a run from a cleared one
pub carried-run : (by_standard : Bool) (x : Sheet) (calls : List Call) → GoodStart x → state_of x ≡ first_state by_standard
    → (s : State) × ((run x calls).last ≡ sheet_of s (length x.rows) (length x.names))
    × (let given = heads_given (lengths_of x) 0 (first_state by_standard) (joined x calls) in (numbered_heads s.reader ≡ given) × (heads_pass (gave given) s.reader ≡ true))
carried-run b x calls g z =
    let js = joined x calls in
    let s = after_records (lengths_of x) (first_state b) js in
    let heads = carried b (lengths_of x) js in (
      s,
      last-joined x calls g.lengths g.is_good ∙ ap (λ (s : State). sheet_of (after_records (lengths_of x) s js) (length x.rows) (length x.names)) z,
      (heads, gave-heads s.reader _ heads),
    )
