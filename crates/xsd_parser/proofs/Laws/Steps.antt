-- One accepted event: what it is made of, and that it keeps a proper state proper and within the lent lengths. Assumes nothing.
use mathlib.Core.Path.{◌≡◌, refl, sym, ap, subst, ◌∙◌}
use mathlib.Core.Bool.{Bool, true, ◌&&◌}
use Prim.Native.Nat.{ℕ, zero, suc, ◌≤◌, ◌<◌}
use native.Mathlib.Omega.{arith}
use lib.Dec.{leb, ltb}
use borrow.Author.Tests.{ltb-true, leb-true, le-leb}
use Rattle.sheet.specs.Lengths.{Lengths}
use Rattle.xsd_types.specs.State.{Reader, State, context_ok, root_ok, schema_ok, counters_ok, events_ok, proper}
use Rattle.xsd_types.specs.Sheet.{state_fits}
use Rattle.xsd_parser.specs.Event.{Event}
use Rattle.xsd_parser.specs.EventText.{event_ok}
use Rattle.xsd_parser.specs.Handlers.{ok, on_end}
use Rattle.xsd_parser.specs.Seen.{seen}
use Rattle.xsd_parser.specs.Step.{handled, closed, tags_after, counted, room_for, step}
use Rattle.xsd_parser.proofs.Laws.Outcomes.{gives-value, if-value, ok-or-refuse, then-value}
use Rattle.xsd_parser.proofs.Laws.Readers.{ReaderOk}
use Rattle.xsd_parser.proofs.Laws.SeenTexts.{seen-text}
use Rattle.xsd_parser.proofs.Laws.Starts.{start-kept}
use Rattle.xsd_parser.proofs.Laws.Empties.{empty-kept}
use Rattle.xsd_parser.proofs.Laws.Closes.{close-kept}
use Rattle.xsd_parser.proofs.Laws.Numbers.{numbers-kept}
use Rattle.std.proofs.lemmas.Bool.{and_parts}
use Rattle.text.proofs.Laws.Tests.{and-true, four}

-- an accepted event: the open tags and the reader after it
pub record StepParts (lent : Lengths) (s : State) (e : Event) (s' : State) : Type 0 where
  pub tags : ℕ
  pub reader : Reader
  pub more : s.events < 1000000
  pub tagged : tags_after e s.open_tags ≡ ok tags
  pub handles : handled s.by_standard s.events e s.reader ≡ ok reader
  pub state : counted s tags reader ≡ s'
  pub room : state_fits lent.rows lent.names s' ≡ true

pub room-parts : (lent : Lengths) (s s' : State) → room_for lent s ≡ ok s' → (s ≡ s') × (state_fits lent.rows lent.names s' ≡ true)
unfolding room_for
room-parts lent s s' e =
    let p = ok-or-refuse (state_fits lent.rows lent.names s) 11 e in
    (p.1, rw p.1 at p.0)

pub step-parts : (lent : Lengths) (s : State) (e : Event) (s' : State) → step lent s e ≡ ok s' → StepParts lent s e s'
unfolding step
step-parts lent s e s' h =
    let p = if-value (ltb s.events 1000000) _ 8 h in
    let q = then-value (tags_after e s.open_tags) _ p.1 in
    let u = then-value (handled s.by_standard s.events e s.reader) _ q.2 in
    let v = room-parts lent (counted s q.0 u.0) s' u.2 in
    record { tags = q.0; reader = u.0; more = ltb-true s.events 1000000 p.0; tagged = q.1; handles = u.1; state = v.0; room = v.1 }

-- "11: the state after the event needs more rows or names than lent": an accepted event has room
pub step_fits : (lent : Lengths) (s : State) (e : Event) (s' : State) → step lent s e ≡ ok s' → state_fits lent.rows lent.names s' ≡ true
step_fits lent s e s' h = (step-parts lent s e s' h).room

-- "one event more done"
pub step-events : (lent : Lengths) (s : State) (e : Event) (s' : State) → step lent s e ≡ ok s' → s'.events ≡ suc s.events
unfolding counted
step-events lent s e s' h = sym (ap (λ x. x.events) (step-parts lent s e s' h).state)

-- the reader after an accepted event is the handlers', the open tags are counted
pub step-reader : (lent : Lengths) (s : State) (e : Event) (s' : State) → step lent s e ≡ ok s' → handled s.by_standard s.events e s.reader ≡ ok s'.reader
unfolding counted
step-reader lent s e s' h =
    let p = step-parts lent s e s' h in
    p.handles ∙ ap (λ x. ok x.reader) p.state

-- the choice is "unchanged by every reading"
pub step-choice : (lent : Lengths) (s : State) (e : Event) (s' : State) → step lent s e ≡ ok s' → s'.by_standard ≡ s.by_standard
unfolding counted
step-choice lent s e s' h = sym (ap (λ x. x.by_standard) (step-parts lent s e s' h).state)

pub step-tags : (lent : Lengths) (s : State) (e : Event) (s' : State) → step lent s e ≡ ok s' → tags_after e s.open_tags ≡ ok s'.open_tags
unfolding counted
step-tags lent s e s' h =
    let p = step-parts lent s e s' h in
    p.tagged ∙ ap (λ x. ok x.open_tags) p.state

pub closed_parts : (n m : ℕ) → closed n ≡ ok m → n ≡ suc m
unfolding closed
closed_parts zero m e = let z : ◌≡◌ {A = ℕ} 0 1 = cc in absurd (omega arith)
closed_parts (suc n) m e = ap suc (cc)

-- "7: start with 255 open"
pub tags-kept : (e : Event) (n m : ℕ) → tags_after e n ≡ ok m → n ≤ 255 → m ≤ 255
unfolding tags_after
tags-kept (Event.start t) n m e h =
    let p = ok-or-refuse (ltb n 255) 7 e in
    let q = ltb-true n 255 p.0 in
    omega arith
tags-kept (Event.empty t) n m e h = let q : n ≡ m = cc in omega arith
tags-kept Event.close n m e h = let q = closed_parts n m e in omega arith

-- the reader after the event, with the open tags after it
pub reader-kept : (by_standard : Bool) (k : ℕ) (e : Event) (r r' : Reader) (n m : ℕ) → tags_after e n ≡ ok m → handled by_standard k e r ≡ ok r' → event_ok e ≡ true
    → ReaderOk by_standard r n → ReaderOk by_standard r' m
unfolding tags_after handled event_ok
reader-kept b k (Event.start t) r r' n m p q e o =
    subst (ReaderOk b r') (ok-or-refuse (ltb n 255) 7 p).1 (gives-value (start-kept b k (seen t) r n r.context refl (seen-text t e) o) q)
reader-kept b k (Event.empty t) r r' n m p q e o =
    subst (ReaderOk b r') (cc) (gives-value (empty-kept b k (seen t) r n r.context refl (seen-text t e) o) q)
reader-kept b k Event.close r r' n m p q e o =
    let same : on_end r r.context ≡ r' = cc in
    subst (λ x. ReaderOk b x m) same (close-kept b r m r.context refl (subst (ReaderOk b r) (closed_parts n m p) o))

-- a proper state by its parts
pub record ProperParts (s : State) : Type 0 where
  pub events : s.events ≤ 1000000
  pub tags : s.open_tags ≤ 255
  pub reader : ReaderOk s.by_standard s.reader s.open_tags
  pub numbers : events_ok s.reader s.events ≡ true

pub proper-parts : (s : State) → proper s ≡ true → ProperParts s
unfolding proper counters_ok
proper-parts s e =
    let before = counters_ok s && root_ok s.reader && context_ok s.by_standard s.reader.context s.open_tags && schema_ok s.reader.schema in
    let both = and_parts before (events_ok s.reader s.events) e in
    let p = four (counters_ok s) (root_ok s.reader) (context_ok s.by_standard s.reader.context s.open_tags) (schema_ok s.reader.schema) both.0 in
    let c = and_parts (leb s.events 1000000) (leb s.open_tags 255) p.0 in
    record { events = leb-true s.events 1000000 c.0; tags = leb-true s.open_tags 255 c.1; reader = record { root = p.1; context = p.2; schema = p.3 }; numbers = both.1 }

pub proper-whole : (s : State) → ProperParts s → proper s ≡ true
unfolding proper counters_ok
proper-whole s p =
    and-true (and-true (and-true (and-true (and-true (le-leb s.events 1000000 p.events) (le-leb s.open_tags 255 p.tags)) p.reader.root)
    p.reader.context) p.reader.schema) p.numbers

pub counted-proper : (s : State) (n : ℕ) (r : Reader) → s.events < 1000000 → n ≤ 255 → ReaderOk s.by_standard r n → events_ok r (suc s.events) ≡ true → proper (counted s n r) ≡ true
unfolding counted
counted-proper s n r h k o v = proper-whole (counted s n r) (record { events = h; tags = k; reader = o; numbers = v })

-- an accepted event leads from a proper state to a proper one
pub step-proper : (lent : Lengths) (s : State) (e : Event) (s' : State) → proper s ≡ true → event_ok e ≡ true → step lent s e ≡ ok s' → proper s' ≡ true
step-proper lent s e s' h k q =
    let p = step-parts lent s e s' q in
    let o = proper-parts s h in
    rw p.state at (counted-proper s p.tags p.reader p.more (tags-kept e s.open_tags p.tags p.tagged o.tags)
    (reader-kept s.by_standard s.events e s.reader p.reader s.open_tags p.tags p.tagged p.handles k o.reader)
    (numbers-kept s.by_standard s.events e s.reader p.reader o.numbers p.handles))
