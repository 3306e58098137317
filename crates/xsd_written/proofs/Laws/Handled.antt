-- Events that are refused for nothing but room (specs/Reads.antt, Handled): where the last state has room all are accepted, since no state before it is larger; else
-- reading ends with 11. Assumes nothing.
use Prim.Native.Nat.{ℕ, suc, ◌+◌, ◌*◌, ◌≤◌}
use native.Mathlib.Omega.{arith}
use mathlib.Core.Path.{◌≡◌, refl, sym, ap, ◌∙◌}
use mathlib.Core.Logic.{◌⊎◌, inl, inr, ⊎_elim}
use mathlib.Core.Bool.{true, false, false≢true}
use mathlib.Core.List.{List, ◌∷◌, ◌++◌}
use lib.Dec.{leb}
use lib.ListN.{length, length-append}
use borrow.Author.Tests.{leb-true, le-leb}
use Rattle.std.proofs.lemmas.Bool.{and_parts}
use Rattle.text.proofs.Laws.Tests.{and-true, bool_cases}
use Rattle.sheet.specs.Rows.{Row, names_of}
use Rattle.sheet.specs.Lengths.{Lengths, fits}
use Rattle.sheet.specs.Returned.{no_room}
use Rattle.sheet.proofs.Laws.Packs.{names_of-append}
use Rattle.xsd_types.specs.State.{State}
use Rattle.xsd_types.specs.Rows.{rows_of, rows_used, names_used}
use Rattle.xsd_types.specs.Sheet.{state_fits}
use Rattle.xsd_parser.specs.Event.{Event}
use Rattle.xsd_parser.specs.Tape.{Judged, event}
use Rattle.xsd_parser.specs.Handlers.{ok}
use Rattle.xsd_parser.specs.Step.{counted, step}
use Rattle.xsd_parser.specs.Read.{Reading, read_records}
use Rattle.xsd_parser.specs.Accepted as accepted
use Rattle.xsd_parser.specs.Accepted.{Accepted}
use Rattle.xsd_parser.proofs.Laws.Reads.{stopped, read_ok, read-refuse}
use Rattle.xsd_parser.proofs.Laws.Accepts.{read_records-accepted}
use Rattle.xsd_written.specs.Reads.{Below, Handled, none_left, one_more}
use Rattle.xsd_parser.proofs.Laws.Room.{step_room, room_fits, room-lacks}

-- ---- fewer rows

pub below-same : {a b : List Row} → a ≡ b → Below a b
below-same e = record { rows = omega (arith, ap length e); names = omega (arith, ap (λ (rs : List Row). length (names_of rs)) e) }

pub below_then : {a b c : List Row} → Below a b → Below b c → Below a c
below_then p q = record { rows = omega (arith, p.rows, q.rows); names = omega (arith, p.names, q.names) }

-- rows with more behind them, and rows behind the same rows
pub below_more : (a b : List Row) → Below a (a ++ b)
below_more a b = record { rows = omega (arith, length-append a b); names = omega (arith, length-append (names_of a) (names_of b), ap length (names_of-append a b)) }

pub below-behind : (front : List Row) {a b : List Row} → Below a b → Below (front ++ a) (front ++ b)
below-behind front {a} {b} p =
    record {
      rows = omega (arith, length-append front a, length-append front b, p.rows);
      names = omega (
        arith,
        length-append (names_of front) (names_of a),
        length-append (names_of front) (names_of b),
        ap length (names_of-append front a),
        ap length
            (names_of-append front b),
        p.names,
      );
    }

pub fits_below : (r n : ℕ) (s t : State) → Below (rows_of s) (rows_of t) → state_fits r n t ≡ true → state_fits r n s ≡ true
unfolding state_fits fits rows_used names_used
fits_below r n s t h e =
    let (a, b) = and_parts (leb (10 * (1 + length (rows_of t))) r) (leb (length (names_of (rows_of t))) n) e in
    let c = leb-true (10 * (1 + length (rows_of t))) r a in
    let d = leb-true (length (names_of (rows_of t))) n b in
    and-true (le-leb (10 * (1 + length (rows_of s))) r (omega (arith, h.rows))) (le-leb (length (names_of (rows_of s))) n (omega (arith, h.names)))

-- ---- events

pub handled-then : {s s₁ s₂ : State} {js ks : List Judged} → Handled s js s₁ → Handled s₁ ks s₂ → Handled s (js ++ ks) s₂
handled-then none_left k = k
handled-then (one_more t h b k) m = one_more t h b (handled-then k m)

pub handled-below : {s s₂ : State} {js : List Judged} → Handled s js s₂ → Below (rows_of s) (rows_of s₂)
handled-below none_left = below-same refl
handled-below (one_more t h b k) = below_then b (handled-below k)

module _ (lent : Lengths) where
  pub handled-accepted : {s s₂ : State} {js : List Judged} → Handled s js s₂ → s.events + length js ≤ 1000000 → state_fits lent.rows lent.names s₂ ≡ true → Accepted lent s js s₂
  unfolding counted
  handled-accepted none_left l f = accepted.none_left
  handled-accepted (one_more {s = s} {s₂ = y} {e = e} {open_tags = o} {r = r} t h b k) l f =
      let room = fits_below lent.rows lent.names (counted s o r) y (handled-below k) f in
      accepted.one_more (step_room lent s e o r (omega arith) t h ∙ room_fits lent (counted s o r) room) (handled-accepted k (omega arith) f)

  -- what a reading of such events ends with
  abbrev Ends : ℕ → State → List Judged → State → Type 0
  Ends n s js s₂ = ((Accepted lent s js s₂) × (state_fits lent.rows lent.names s₂ ≡ true)) ⊎ ((read_records lent n s js).answer.number ≡ no_room)

  ends_more : (n : ℕ) {s x s₂ : State} {e : Event} {js : List Judged} → step lent s e ≡ ok x → Ends (suc n) x js s₂ → Ends n s (event e ∷ js) s₂
  ends_more n {s} {x} {s₂} {e} {js} q (inl (a, f)) = inl (accepted.one_more q a, f)
  ends_more n {s} {x} {s₂} {e} {js} q (inr z) = inr (rw (read_ok lent n s x e js q) z)

  handled-ends : (n : ℕ) {s s₂ : State} {js : List Judged} → Handled s js s₂ → s.events + length js ≤ 1000000 → state_fits lent.rows lent.names s ≡ true → Ends n s js s₂
  unfolding counted
  handled-ends n none_left l f = inl (accepted.none_left, f)
  handled-ends n (one_more {s = s} {e = e} {js = js} {open_tags = o} {r = r} t h b k) l f =
      let x = counted s o r in
      let q = step_room lent s e o r (omega arith) t h in
      bool_cases (state_fits lent.rows lent.names x)
      (λ y. ends_more n (q ∙ room_fits lent x y) (handled-ends (suc n) k (omega arith) y))
      (λ y. inr (ap (λ (z : Reading). z.answer.number) (read-refuse lent n s e js no_room (q ∙ room-lacks lent x y))))

  -- the reading from the first event on, by the room of the last state
  pub handled-reads : {s s₂ : State} {js : List Judged} → Handled s js s₂ → s.events + length js ≤ 1000000 → state_fits lent.rows lent.names s ≡ true
      → (state_fits lent.rows lent.names s₂ ≡ true → read_records lent 0 s js ≡ stopped 0 (length js) s₂)
      × (state_fits lent.rows lent.names s₂ ≡ false → (read_records lent 0 s js).answer.number ≡ no_room)
  handled-reads {s} {s₂} {js} k l f = (
    λ y. read_records-accepted lent 0 (handled-accepted k l y) ∙ ap (λ (m : ℕ). stopped 0 m s₂) (omega arith),
    λ y. ⊎_elim (λ p. absurd (false≢true (sym y ∙ p.1))) (λ z. z) (handled-ends 0 k l f),
  )
