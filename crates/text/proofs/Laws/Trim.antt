-- Laws of specs/Trim.antt: a text is what is trimmed with white space around it, and a core that has no white space comes out of its white space whole.
-- No contract cites them. Assumes nothing.
use mathlib.Core.Path.{◌≡◌, refl, sym, ap, ◌∙◌}
use mathlib.Core.Logic.{◌↔◌}
use mathlib.Core.Bool.{true, false, not, false≢true, and-true as and-with-true, and-false}
use mathlib.Core.List.{[], ◌∷◌, ◌++◌}
use Prim.Native.Nat.{ℕ, zero, suc, ◌-◌, ◌≤◌, ◌<◌}
use native.Mathlib.Nat.{not-suc-le-zero}
use native.Mathlib.Omega.{arith}
use lib.ListN.{length, get_or, take, drop, drop_of_length-le}
use lib.Seq.{drop-cons, take-suc}
use Rattle.text.specs.Text.{Text, every}
use Rattle.text.specs.Trim.{is_white_space, trim_start, trim_end, trimmed, is_solid, Around}
use Rattle.text.proofs.Laws.Tests.{and-true, bool_cases}
use Rattle.text.proofs.Laws.Every.{every_append, every-head, every-tail}

-- the start from place i on: white space is passed, any other byte is where the rest begins, and behind the last stands nothing
pub trim_start-on : (s : Text) (i : ℕ) → i < length s → is_white_space (get_or s i 0) ≡ true → trim_start (drop i s) ≡ trim_start (drop (suc i) s)
unfolding trim_start
trim_start-on s i h e = rw (drop-cons s i 0 h, e)

pub trim_start-stop : (s : Text) (i : ℕ) → i < length s → is_white_space (get_or s i 0) ≡ false → trim_start (drop i s) ≡ drop i s
unfolding trim_start
trim_start-stop s i h e = rw (drop-cons s i 0 h, e)

pub trim_start-end : (s : Text) (i : ℕ) → length s ≤ i → trim_start (drop i s) ≡ drop i s
unfolding trim_start
trim_start-end s i h = rw (drop_of_length-le s h)

-- white space behind a text goes
pub trim_end-white : (s : Text) → every is_white_space s ≡ true → trim_end s ≡ []
unfolding trim_end
trim_end-white [] e = refl
trim_end-white (b ∷ s) e = rw e

white-behind : (s behind : Text) → every is_white_space behind ≡ true → every is_white_space (s ++ behind) ≡ every is_white_space s
white-behind s behind e = every_append is_white_space s behind ∙ rw e (and-with-true (every is_white_space s))

pub trim_end-append : (s behind : Text) → every is_white_space behind ≡ true → trim_end (s ++ behind) ≡ trim_end s
unfolding trim_end
trim_end-append [] behind e = trim_end-white behind e
trim_end-append (b ∷ s) behind e = rw (white-behind (b ∷ s) behind e, trim_end-append s behind e)

-- a last byte that is none keeps the whole
solid-last : (s : Text) (b : ℕ) → is_white_space b ≡ false → every is_white_space (s ++ b ∷ []) ≡ false
unfolding every
solid-last s b e = every_append is_white_space s (b ∷ []) ∙ rw e (and-false (every is_white_space s))

pub trim_end-last : (s : Text) (b : ℕ) → is_white_space b ≡ false → trim_end (s ++ b ∷ []) ≡ s ++ b ∷ []
unfolding trim_end
trim_end-last [] b e = rw (solid-last [] b e)
trim_end-last (a ∷ s) b e = rw (solid-last (a ∷ s) b e, trim_end-last s b e)

one_less : (i : ℕ) → suc i - 1 ≡ i
one_less i = omega arith

-- the end of what stands before a place: white space there is passed, any other byte is the last
pub trim_end-on : (s : Text) (end : ℕ) → 0 < end → end ≤ length s → is_white_space (get_or s (end - 1) 0) ≡ true → trim_end (take end s) ≡ trim_end (take (end - 1) s)
unfolding every
trim_end-on s zero h k e = absurd (not-suc-le-zero h)
trim_end-on s (suc i) h k e = rw (one_less i, take-suc s i 0 k) (trim_end-append (take i s) (get_or s i 0 ∷ []) (and-true (rw (one_less i) at e) refl))

pub trim_end-stop : (s : Text) (end : ℕ) → 0 < end → end ≤ length s → is_white_space (get_or s (end - 1) 0) ≡ false → trim_end (take end s) ≡ take end s
trim_end-stop s zero h k e = absurd (not-suc-le-zero h)
trim_end-stop s (suc i) h k e = rw (take-suc s i 0 k) (trim_end-last (take i s) (get_or s i 0) (rw (one_less i) at e))

pub trim_end-none : (s : Text) (end : ℕ) → end ≤ 0 → trim_end (take end s) ≡ take end s
unfolding trim_end
trim_end-none s zero h = refl
trim_end-none s (suc i) h = absurd (not-suc-le-zero h)

-- what is taken off at either end is white space
pub start-off : (s : Text) → (before : Text) × (every is_white_space before ≡ true) × (s ≡ before ++ trim_start s)
unfolding trim_start every
start-off [] = ([], refl, refl)
start-off (b ∷ s) = bool_cases (is_white_space b) (λ e. let r = start-off s in (b ∷ r.0, and-true e r.1, rw e (ap (λ (l : Text). b ∷ l) r.2))) (λ e. ([], refl, rw e refl))

pub end-off : (s : Text) → (behind : Text) × (every is_white_space behind ≡ true) × (s ≡ trim_end s ++ behind)
unfolding trim_end every
end-off [] = ([], refl, refl)
end-off (b ∷ s) = bool_cases (every is_white_space (b ∷ s)) (λ e. (b ∷ s, e, rw e refl)) (λ e. let r = end-off s in (r.0, r.1, rw e (ap (λ (l : Text). b ∷ l) r.2)))

pub trimmed-around : (s : Text) → Around (trimmed s) s
unfolding trimmed
trimmed-around s =
    let r = start-off s in
    let q = end-off (trim_start s) in
    (r.0, q.0, r.1, q.1, r.2 ∙ ap (λ (l : Text). r.0 ++ l) q.2)

-- white space before a text goes
pub trim_start-append : (before s : Text) → every is_white_space before ≡ true → trim_start (before ++ s) ≡ trim_start s
unfolding trim_start
trim_start-append [] s e = refl
trim_start-append (b ∷ before) s e = rw (every-head is_white_space b before e) (trim_start-append before s (every-tail is_white_space b before e))

solid-none : (b : ℕ) → is_solid b ≡ true → is_white_space b ≡ false
unfolding is_solid
solid-none b e = bool_cases (is_white_space b) (λ w. absurd (false≢true (sym (ap not w) ∙ e))) (λ w. w)

trim_end-solid : (s : Text) → every is_solid s ≡ true → trim_end s ≡ s
unfolding trim_end every
trim_end-solid [] e = refl
trim_end-solid (b ∷ s) e = rw (solid-none b (every-head is_solid b s e), trim_end-solid s (every-tail is_solid b s e))

-- a core without white space comes out whole
solid-trimmed : (core behind : Text) → every is_solid core ≡ true → every is_white_space behind ≡ true → trimmed (core ++ behind) ≡ core
unfolding trimmed trim_start trim_end
solid-trimmed [] [] e w = refl
solid-trimmed [] (b ∷ behind) e w = rw (every-head is_white_space b behind w) (solid-trimmed [] behind e (every-tail is_white_space b behind w))
solid-trimmed (b ∷ core) behind e w = rw (solid-none b (every-head is_solid b core e)) (trim_end-append (b ∷ core) behind w ∙ trim_end-solid (b ∷ core) e)

pub around-trimmed : (core s : Text) → every is_solid core ≡ true → Around core s → trimmed s ≡ core
unfolding trimmed
around-trimmed core s e (before, behind, w, u, h) = rw h (rw (trim_start-append before (core ++ behind) w) (solid-trimmed core behind e u))

pub trimmed-exactly : (core s : Text) → every is_solid core ≡ true → (trimmed s ≡ core) ↔ Around core s
trimmed-exactly core s e = (λ h. rw h at (trimmed-around s), around-trimmed core s e)
