-- Records read one after the other: what is still to be read decides what the whole reading is. Assumes nothing.
--     Here          a state whose rows the sheet holds now, from which the rest of the marks leads to the whole reading
--     Reads         the loop's invariant: for every state that the sheet held at first there is such a state now
--     Stops         the reading of a state ends at the record here, and the sheet is left
--     Followed      the record here is an event's, where the next one starts, and that a tag's pairs are inside
use Prim.Native.Nat.{ℕ, suc, ◌+◌, ◌≤◌, ◌<◌}
use mathlib.Core.Path.{◌≡◌, refl, sym, ap, subst, ◌∙◌}
use mathlib.Core.Bool.{true}
use mathlib.Core.List.{List}
use native.Mathlib.Omega.{arith}
use lib.ListN.{length, drop}
use Rattle.std.specs.Prelude.{Option, Some, None, Result, Ok, Err}
use Rattle.text.specs.Text.{Text}
use Rattle.sheet.specs.declared.refusal.Refusal.{Refusal}
use Rattle.sheet.specs.Returned.{refusal_number}
use Rattle.sheet.specs.Lengths.{Answer, Lengths}
use Rattle.sheet.specs.Calls.{answered}
use Rattle.rows.specs.declared.answers.Refused.{Refused}
use Rattle.rows.specs.Answers.{answer_of}
use Rattle.rows.specs.declared.writer.SheetWriter.{SheetWriter}
use Rattle.rows.specs.Writer.{SameBuffers}
use Rattle.rows.proofs.Laws.Writer.{same_itself, same-then}
use Rattle.xsd_types.specs.State.{State}
use Rattle.xsd_parser.specs.EventText.{event_ok}
use Rattle.xsd_parser.specs.Kinds.{close_kind}
use Rattle.xsd_parser.specs.Tape.{next, record1}
use Rattle.xsd_parser.specs.Step.{step}
use Rattle.xsd_parser.specs.Read.{Reading, read_state}
use Rattle.xsd_parser.proofs.Laws.EventTexts.{next-text}
use Rattle.xsd_parser.proofs.Laws.Reads.{stopped}
use Rattle.tape.specs.declared.TagRecord.{TagRecord}
use Rattle.tape.specs.Pairs.{TagInside}
use Rattle.tape.specs.Answers.{record_event, recorded, IsPlaced, RecordAt}
use Rattle.xsd_progress.specs.declared.Progress.{Progress}
use Rattle.xsd_progress.specs.Progress.{At, lent_to, Standing}
use Rattle.xsd_read.specs.Due.{EventEnded}
use Rattle.xsd_read.specs.Events.{EventRoom, EventTaken}
use Rattle.xsd_read.specs.Records.{stopped_at, Reached, RecordsRead}
use Rattle.xsd_read.proofs.Laws.Records.{read_from, reads_none, reads-bad, reads-refused, reads_on}

-- one more is the next number
add-one : (n : ℕ) → n + 1 ≡ suc n
add-one n = omega arith

pub record Here (w : SheetWriter) (lent : Lengths) (text : Text) (rest : List ℕ) (p : Progress) (place : ℕ) (whole : Reading) : Type 0 where
  pub s : State
  pub stands : At s w p
  pub leads : read_from lent place s text rest ≡ whole

pub record Reads (w₀ : SheetWriter) (text : Text) (marks : List ℕ) (p₀ : Progress) (w : SheetWriter) (p : Progress) (place at : ℕ) : Type 0 where
  pub same : SameBuffers w₀ w
  pub counted : place ≤ at
  pub inside : at ≤ length marks
  pub here : (s : State) → At s w₀ p₀ → Here w (lent_to w₀.rows.now w₀.names.now) text (drop at marks) p place (read_state (lent_to w₀.rows.now w₀.names.now) s text marks)

pub reads_first : (w : SheetWriter) (text : Text) (marks : List ℕ) (p : Progress) → Reads w text marks p w p 0 0
unfolding read_from read_state
reads_first w text marks p =
    record { same = same_itself w; counted = omega arith; inside = omega arith; here = λ s a. record { s = s; stands = a; leads = refl } }

-- the sheet holds the rows of a state now too
pub reads-standing : {w₀ w : SheetWriter} {marks : List ℕ} {text : Text} {p₀ p : Progress} {place at : ℕ} → Standing w₀ p₀ → Reads w₀ text marks p₀ w p place at → Standing w p
reads-standing st y =
    let h = y.here st.s st.at in
    record { s = h.s; at = h.stands; few = omega (arith, y.same.rows_length, st.few) }

pub lent_same : (rows names rows₀ names₀ : List ℕ) → length rows ≡ length rows₀ → length names ≡ length names₀ → lent_to rows names ≡ lent_to rows₀ names₀
lent_same rows names rows₀ names₀ e f = λ i. record { rows = e i; names = f i }

buffers-lent : {w₀ w : SheetWriter} → SameBuffers w₀ w → lent_to w.rows.now w.names.now ≡ lent_to w₀.rows.now w₀.names.now
buffers-lent {w₀} {w} same = lent_same w.rows.now w.names.now w₀.rows.now w₀.names.now same.rows_length same.names_length

-- a state that the sheet still holds where a reading ends is the one that it reached
pub reached-here : {w w' : SheetWriter} {rest : List ℕ} {lent : Lengths} {text : Text} {p : Progress} {place : ℕ} {whole : Reading} (a : Result ℕ Refused)
    → (h : Here w lent text rest p place whole) → w' ≡ w → read_from lent place h.s text rest ≡ record { answer = answer_of a; state = h.s }
    → Reached w' whole (record { answer = a; progress = p })
reached-here {w} {w'} {p = p} a h e g =
    let q = sym g ∙ h.leads in
    record { answer = ap (λ (x : Reading). x.answer) q; at = subst (λ (x : Reading). At x.state w' p) q (subst (λ (y : SheetWriter). At h.s y p) (sym e) h.stands) }

pub record Stops (w : SheetWriter) (text : Text) (marks : List ℕ) (at : ℕ) (s : State) (k : ℕ) (w' : SheetWriter) : Type 0 where
  pub kept : w' ≡ w
  pub reads : (n : ℕ) → read_from (lent_to w.rows.now w.names.now) n s text (drop at marks) ≡ stopped k n s

reads-stopped : {w₀ w w' : SheetWriter} {marks : List ℕ} {text : Text} {p₀ p : Progress} {place at : ℕ} (k : ℕ) (a : Result ℕ Refused) → answered k place ≡ answer_of a
    → Reads w₀ text marks p₀ w p place at → SameBuffers w w' → ((s : State) → At s w p → Stops w text marks at s k w')
    → RecordsRead w₀ text marks p₀ (record { answer = a; progress = p }) w'
reads-stopped {marks = marks} {text} {place = place} {at} k a q y same stops =
    record {
      same = same-then y.same same;
      reached = λ s₀ at₀.
          let h = y.here s₀ at₀ in
          let stop = stops h.s h.stands in
          reached-here a h stop.kept
          (ap (λ (l : Lengths). read_from l place h.s text (drop at marks)) (sym (buffers-lent y.same)) ∙ stop.reads place ∙ ap (λ (b : Answer). record { answer = b; state = h.s }) q);
    }

-- no record is left, or it is refused for its form
pub reads_end : {w₀ w : SheetWriter} {marks : List ℕ} {text : Text} {p₀ p : Progress} {place at : ℕ} {r : Result (Option TagRecord) Refusal} {o : Option TagRecord}
    → Reads w₀ text marks p₀ w p place at → RecordAt text marks at r → r ≡ Ok o → o ≡ None → RecordsRead w₀ text marks p₀ (record { answer = Ok place; progress = p }) w
unfolding recorded
reads_end {w = w} {marks = marks} {text = text} {place = place} {at = at} y x q e =
    reads-stopped 0 (Ok place) refl y (same_itself w) (λ s a. record {
      kept = refl;
      reads = λ n. reads_none (lent_to w.rows.now w.names.now) n s text (drop at marks)
          (sym x.judged ∙ ap (recorded text marks) (q ∙ ap Ok e));
    })

pub reads-form : {w₀ w : SheetWriter} {marks : List ℕ} {text : Text} {p₀ p : Progress} {place at : ℕ} {r : Result (Option TagRecord) Refusal} (k : Refusal)
    → Reads w₀ text marks p₀ w p place at → RecordAt text marks at r → r ≡ Err k → RecordsRead w₀ text marks p₀ (stopped_at k place p) w
unfolding recorded
reads-form {w = w} {marks = marks} {text = text} {place = place} {at = at} k y x q =
    reads-stopped (refusal_number k) (Err (record { refusal = k; place = place })) refl y (same_itself w)
    (λ s a. record {
      kept = refl;
      reads = λ n. reads-bad (lent_to w.rows.now w.names.now) n s text (drop at marks) (refusal_number k)
          (sym x.judged ∙ ap (recorded text marks) q);
    })

pub record Followed (text : Text) (marks : List ℕ) (at : ℕ) (t : TagRecord) : Type 0 where
  pub is : record1 text (drop at marks) ≡ next (record_event text marks t) (drop t.next marks)
  pub later : at < t.next
  pub within : t.next ≤ length marks
  pub inside : (t.kind ≡ close_kind → ⊥) → TagInside text marks t.pairs t.count

pub followed : {text : Text} {marks : List ℕ} {at : ℕ} {r : Result (Option TagRecord) Refusal} {o : Option TagRecord} (t : TagRecord)
    → RecordAt text marks at r → r ≡ Ok o → o ≡ Some t → Followed text marks at t
unfolding recorded IsPlaced
followed {text} {marks} {at} t x q e =
    let is = q ∙ ap Ok e in
    let place = subst (IsPlaced text marks at) is x.places in
    record { is = sym x.judged ∙ ap (recorded text marks) is; later = place.later; within = place.within; inside = λ k. (place.tag k).inside }

pub followed-text : {text : Text} {marks : List ℕ} {at : ℕ} {t : TagRecord} → Followed text marks at t → event_ok (record_event text marks t) ≡ true
followed-text {text} {marks} {at} {t} f = next-text text (drop at marks) (record_event text marks t) (drop t.next marks) f.is

-- the event is refused
pub reads-refuse : {w₀ w w' : SheetWriter} {marks : List ℕ} {text : Text} {p₀ p : Progress} {place at : ℕ} {t : TagRecord} {y : Result Progress Refusal} (k : Refusal)
    → Reads w₀ text marks p₀ w p place at → Followed text marks at t → EventTaken w p (record_event text marks t) y w' → y ≡ Err k → RecordsRead w₀ text marks p₀ (stopped_at k place p) w'
unfolding EventEnded
reads-refuse {w = w} {w'} {marks} {text} {place = place} {at = at} {t = t} k reads f x q =
    reads-stopped (refusal_number k) (Err (record { refusal = k; place = place })) refl reads x.same (λ s a.
    let e = record_event text marks t in
    let h = subst (EventEnded (step (lent_to w.rows.now w.names.now) s e) w w') q (x.ended s a (followed-text f)) in
    record { kept = h.kept; reads = λ n. reads-refused (lent_to w.rows.now w.names.now) n s text (drop at marks) e (drop t.next marks) (refusal_number k) f.is h.refused })

-- it is done, and the reading goes on behind it
pub here-next : {w₀ w w' : SheetWriter} {marks : List ℕ} {text : Text} {p₀ p : Progress} {place at : ℕ} {t : TagRecord} {y : Result Progress Refusal} (p' : Progress)
    → Reads w₀ text marks p₀ w p place at → Followed text marks at t → EventTaken w p (record_event text marks t) y w' → y ≡ Ok p'
    → (s : State) → At s w₀ p₀ → Here w' (lent_to w₀.rows.now w₀.names.now) text (drop t.next marks) p' (place + 1) (read_state (lent_to w₀.rows.now w₀.names.now) s text marks)
unfolding EventEnded
here-next {w = w} {w'} {marks} {text} {place = place} {at} {t} p' reads f x q s₀ at₀ =
    let e = record_event text marks t in
    let h = reads.here s₀ at₀ in
    let lent = lent_to w.rows.now w.names.now in
    let go = subst (EventEnded (step lent h.s e) w w') q (x.ended h.s h.stands (followed-text f)) in
    let step-on = reads_on lent place h.s go.s' text (drop at marks) e (drop t.next marks) f.is go.accepted in
    let on = ap (λ (l : Lengths). read_from l (suc place) go.s' text (drop t.next marks)) (sym (buffers-lent reads.same)) ∙ sym step-on
    ∙ ap (λ (l : Lengths). read_from l place h.s text (drop at marks)) (buffers-lent reads.same) ∙ h.leads in
    record { s = go.s'; stands = go.stands; leads = rw (add-one place) on }

pub reads-next : {w₀ w w' : SheetWriter} {marks : List ℕ} {text : Text} {p₀ p : Progress} {place at : ℕ} {t : TagRecord} {y : Result Progress Refusal} (p' : Progress)
    → Reads w₀ text marks p₀ w p place at → Followed text marks at t → EventTaken w p (record_event text marks t) y w' → y ≡ Ok p' → Reads w₀ text marks p₀ w' p' (place + 1) t.next
reads-next p' reads f x q =
    record {
      same = same-then reads.same x.same;
      counted = omega (arith, reads.counted, f.later);
      inside = f.within;
      here = here-next p' reads f x q;
    }

pub event-room : {w₀ w : SheetWriter} {marks : List ℕ} {text : Text} {p₀ p : Progress} {place at : ℕ} {t : TagRecord}
    → Standing w₀ p₀ → Reads w₀ text marks p₀ w p place at → Followed text marks at t → EventRoom w p (record_event text marks t)
event-room st reads f = record { standing = reads-standing st reads; texts = followed-text f }
