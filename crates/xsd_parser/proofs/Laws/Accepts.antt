-- "an accepted one changes the state as above, one event more done; the first refused one changes nothing and drops the rest of the piece."
-- Assumes nothing.
--     later n r     the reading r with n events more in front of it
use mathlib.Core.Path.{◌≡◌, refl, ap, ◌∙◌}
use mathlib.Core.Bool.{true}
use mathlib.Core.List.{List, [], ◌∷◌, ◌++◌}
use Prim.Native.Nat.{ℕ, suc, ◌+◌}
use native.Mathlib.Omega.{arith}
use lib.ListN.{length}
use Rattle.sheet.specs.Lengths.{Lengths}
use Rattle.xsd_types.specs.State.{State}
use Rattle.xsd_parser.specs.Tape.{Judged, event, refused}
use Rattle.xsd_parser.specs.Step.{step}
use Rattle.xsd_parser.specs.Read.{Reading, read_records}
use Rattle.xsd_parser.specs.Accepted.{Accepted, none_left, one_more, Refused, by_form, by_state}
use Rattle.xsd_parser.specs.Whole.{all_events}
use Rattle.xsd_parser.proofs.Laws.Outcomes.{outcome-cases}
use Rattle.xsd_parser.proofs.Laws.Reads.{stopped, read_ok, read-refuse}

-- records behind accepted ones are read from the state that those lead to
pub read_records-append : (lent : Lengths) (n : ℕ) {s s₁ : State} {js : List Judged} (ks : List Judged) → Accepted lent s js s₁
    → read_records lent n s (js ++ ks) ≡ read_records lent (n + length js) s₁ ks
read_records-append lent n {s} ks none_left = ap (λ m. read_records lent m s ks) (omega arith)
read_records-append lent n ks (one_more {s = s} {s₁ = x} {s₂ = y} {e = e} {js = js} q a) =
    read_ok lent n s x e (js ++ ks) q ∙ read_records-append lent (suc n) ks a ∙ ap (λ m. read_records lent m y ks) (omega arith)

-- a refused record changes nothing
pub read-refused : (lent : Lengths) (n : ℕ) (s : State) {j : Judged} {k : ℕ} (rest : List Judged) → Refused lent s j k
    → read_records lent n s (j ∷ rest) ≡ stopped k n s
unfolding read_records
read-refused lent n s rest by_form = refl
read-refused lent n s rest (by_state {e = e} {k = k} q) = read-refuse lent n s e rest k q

pub read_records-refused : (lent : Lengths) (n : ℕ) {s s₁ : State} {js : List Judged} {j : Judged} {k : ℕ} (rest : List Judged)
    → Accepted lent s js s₁ → Refused lent s₁ j k → read_records lent n s (js ++ j ∷ rest) ≡ stopped k (n + length js) s₁
read_records-refused lent n {s₁ = x} {js} {j} rest a r = read_records-append lent n (j ∷ rest) a ∙ read-refused lent (n + length js) x rest r

pub read_records-accepted : (lent : Lengths) (n : ℕ) {s s₁ : State} {js : List Judged} → Accepted lent s js s₁
    → read_records lent n s js ≡ stopped 0 (n + length js) s₁
unfolding read_records
read_records-accepted lent n {s} none_left = ap (λ m. stopped 0 m s) (omega arith)
read_records-accepted lent n (one_more {s = s} {s₁ = x} {s₂ = y} {e = e} {js = js} q a) =
    read_ok lent n s x e js q ∙ read_records-accepted lent (suc n) a ∙ ap (λ m. stopped 0 m y) (omega arith)

-- accepted records are events
pub accepted-events : {lent : Lengths} {s s₁ : State} {js : List Judged} → Accepted lent s js s₁ → all_events js ≡ true
unfolding all_events
accepted-events none_left = refl
accepted-events (one_more q a) = accepted-events a

-- the events done before a reading only move its place
abbrev pub later : ℕ → Reading → Reading
later n r = record { answer = record { number = r.answer.number; place = n + r.answer.place }; state = r.state }

pub read_records-later : (lent : Lengths) (n k : ℕ) (s : State) (js : List Judged) → read_records lent (n + k) s js ≡ later n (read_records lent k s js)
unfolding read_records
read_records-later lent n k s [] = refl
read_records-later lent n k s (refused r ∷ js) = refl
read_records-later lent n k s (event e ∷ js) =
    outcome-cases (step lent s e)
    (λ x q. let m : suc (n + k) ≡ n + suc k = omega arith in
    rw (read_ok lent (n + k) s x e js q, read_ok lent k s x e js q, m) (read_records-later lent n (suc k) x js))
    (λ r q. rw (read-refuse lent (n + k) s e js r q, read-refuse lent k s e js r q))
