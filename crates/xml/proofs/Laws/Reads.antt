-- The tape of a well-formed text, read whole with its text, meets none of 3, 4, 5 and 6, and leaves as many tags open as before: its records are events, and
-- each close of them has its open tag. Assumes nothing.
use Prim.Native.Nat.{ℕ, zero, suc, ◌+◌, ◌-◌, ◌≤◌}
use mathlib.Core.Path.{◌≡◌, refl, sym, ap, ◌∙◌}
use mathlib.Core.Logic.{inl, inr}
use mathlib.Core.List.{List, [], ◌∷◌}
use mathlib.Core.Bool.{true, false}
use native.Mathlib.Omega.{arith}
use lib.Dec.{eqb, leb, ltb}
use lib.ListN.{length, take, replicate}
use lib.Seq.{take-append_seam}
use Rattle.text.specs.Text.{Text, every, is_text}
use Rattle.text.proofs.Laws.Tests.{bool_cases}
use Rattle.sheet.specs.Lengths.{Lengths, tape_lengths}
use Rattle.sheet.specs.Rows.{filled}
use Rattle.xsd_types.specs.State.{Reader, State}
use Rattle.xsd_types.specs.Sheet.{state_fits}
use Rattle.xsd_parser.specs.Event.{Event}
use Rattle.xsd_parser.specs.Tape.{event_of}
use Rattle.xsd_parser.specs.Step.{closed, tags_after, counted, room_for, step}
use Rattle.xsd_parser.specs.Read.{read_records, read_state}
use Rattle.xsd_parser.proofs.Laws.Outcomes.{Gives, value, refusal, gives-if, gives-and_then, gives-wider, gives-value, gives-refusal, outcome-cases}
use Rattle.xsd_parser.proofs.Laws.Refusals.{handled-refusal}
use Rattle.xsd_parser.proofs.Laws.Reads.{read_ok, read-refuse}
use Rattle.xml.specs.Tape.{TapeEvent, tape_marks}
use Rattle.xml.specs.Document.{Document, with_doctype, not_well_formed, well_formed, document, Taken, refused, tape_written, taken_of, tape_of}
use Rattle.xml.specs.Accepted.{ClosesTags, few_attributes, event_read, records_read, ReadsThrough}
use Rattle.xml.proofs.Laws.Events.{events-close}
use Rattle.xml.proofs.Laws.Records.{tape-records}

-- so many tags open, or a refusal from 7 on
abbrev pub Opens : ℕ → ℕ → Type 0
Opens m n = n ≡ m

abbrev pub Later : ℕ → Type 0
Later k = 7 ≤ k

pub room_open : (lent : Lengths) (s : State) (n : ℕ) (r : Reader) (m : ℕ) → n ≡ m → Gives (λ (x : State). Opens m x.open_tags) Later (room_for lent (counted s n r))
unfolding room_for counted
room_open lent s n r m p = gives-if (state_fits lent.rows lent.names (counted s n r)) (value p) (refusal (omega arith))

pub step-open : (lent : Lengths) (s : State) (e : Event) (m : ℕ) → Gives (Opens m) Later (tags_after e s.open_tags) → Gives (λ (x : State). Opens m x.open_tags) Later (step lent s e)
unfolding step
step-open lent s e m g =
    gives-if (ltb s.events 1000000)
    (gives-and_then g λ n p. gives-and_then (gives-wider (λ r q. omega arith) (handled-refusal s.by_standard s.events e s.reader)) λ r q. room_open lent s n r m p)
    (refusal (omega arith))

-- the open tags after an event, where there are so many inside the text over those before it
pub tag_open : (text : Text) (e : TapeEvent) (es : List TapeEvent) (n base k : ℕ) → ClosesTags k (e ∷ es) → n ≡ base + k → (j : ℕ) × ClosesTags j es
    × Gives (Opens (base + j)) Later (tags_after (event_read text e) n)
unfolding event_read event_of tags_after closed
tag_open text (TapeEvent.tag kind name xs) es n base k c h =
    bool_cases (eqb kind 1)
    (λ y. (suc k, rw y at c, rw y (gives-if (ltb n 255) (value (omega arith)) (refusal (omega arith)))))
    (λ y. (k, rw y at c, rw y (value h)))
tag_open text TapeEvent.close es n base zero c h = absurd c
tag_open text TapeEvent.close es n base (suc j) c h =
    let one : n ≡ suc (base + j) = omega arith in
    (j, c, rw one (value refl))

pub reads-through : (lent : Lengths) (text : Text) (es : List TapeEvent) (n : ℕ) (s : State) (base k : ℕ) → ClosesTags k es → s.open_tags ≡ base + k
    → ReadsThrough base (read_records lent n s (records_read text es))
unfolding records_read read_records
reads-through lent text [] n s base k c h = inl (refl, omega arith)
reads-through lent text (e ∷ es) n s base k c h =
    let o = tag_open text e es s.open_tags base k c h in
    let g = step-open lent s (event_read text e) (base + o.0) o.2 in
    outcome-cases (step lent s (event_read text e))
    (λ x q. rw (read_ok lent n s x (event_read text e) (records_read text es) q) (reads-through lent text es (suc n) x base o.0 o.1 (gives-value g q)))
    (λ r q. rw (read-refuse lent n s (event_read text e) (records_read text es) r q) (inr (gives-refusal g q)))

pub tape-reads : (lent : Lengths) (s : State) (text : Text) (es : List TapeEvent) → document text ≡ well_formed es → is_text text ≡ true → every few_attributes es ≡ true
    → ReadsThrough s.open_tags (read_state lent s text (tape_marks es))
unfolding read_state
tape-reads lent s text es d t f =
    rw (tape-records text es d t f) (reads-through lent text es 0 s s.open_tags 0 (events-close text es d) (omega arith))

-- an accepted tape is that of a well-formed text, up to its place
pub taken-accepted : (lent : ℕ) (d : Document) → (taken_of lent d).number ≡ 0 → (es : List TapeEvent) × (d ≡ well_formed es) × (take (taken_of lent d).place (taken_of lent d).marks ≡ tape_marks es)
unfolding taken_of tape_written refused filled
taken-accepted lent with_doctype h = absurd (omega arith)
taken-accepted lent not_well_formed h = absurd (omega arith)
taken-accepted lent (well_formed es) h =
    let tape = tape_marks es in
    bool_cases (leb (length tape) lent)
    (λ y. (es, refl, rw y (take-append_seam tape (replicate (lent - length tape) 0))))
    (λ y. let z : ◌≡◌ {A = ℕ} 19 0 = rw y at h in absurd (omega arith))

-- the call by its tests
pub tape-long : (text : Text) (before : List ℕ) → tape_lengths (length text) (length before) ≡ false → (tape_of text before).number ≡ 1
unfolding tape_of
tape-long text before y = rw y

pub tape-high : (text : Text) (before : List ℕ) → tape_lengths (length text) (length before) ≡ true → is_text text ≡ false → (tape_of text before).number ≡ 5
unfolding tape_of refused
tape-high text before y z = rw (y, z)

pub tape-taken : (text : Text) (before : List ℕ) → tape_lengths (length text) (length before) ≡ true → is_text text ≡ true → tape_of text before ≡ taken_of (length before) (document text)
unfolding tape_of
tape-taken text before y z = rw (y, z)

abbrev pub Whole : Text → Taken → Type 0
Whole text t = (es : List TapeEvent) × (document text ≡ well_formed es) × (is_text text ≡ true) × (take t.place t.marks ≡ tape_marks es)

pub taken-whole : (text : Text) (lent : ℕ) (t : Taken) → is_text text ≡ true → t ≡ taken_of lent (document text) → t.number ≡ 0 → Whole text t
taken-whole text lent t z e h =
    let p = taken-accepted lent (document text) (sym (ap (λ (k : Taken). k.number) e) ∙ h) in
    (p.0, p.1, z, ap (λ (k : Taken). take k.place k.marks) e ∙ p.2)

pub accepted-tape : (text : Text) (before : List ℕ) → (tape_of text before).number ≡ 0 → Whole text (tape_of text before)
accepted-tape text before h =
    bool_cases (tape_lengths (length text) (length before))
    (λ y.
    bool_cases (is_text text)
    (λ z. taken-whole text (length before) (tape_of text before) z (tape-taken text before y z) h)
    (λ z. let w = tape-high text before y z in absurd (omega arith)))
    (λ y. let w = tape-long text before y in absurd (omega arith))
