-- The tests of the pairs of a record: the first pair decides, or the rest does. Laws of xsd_parser's Tape and of specs/Pairs.antt.
-- No contract cites them. Assumes nothing.
use Rattle.std.specs.List.{list_all, range_with_len}
use mathlib.Core.Path.{◌≡◌, refl, ap}
use mathlib.Core.Bool.{Bool, true, false, ◌&&◌}
use mathlib.Core.List.{List}
use Prim.Native.Nat.{ℕ, zero, suc, ◌+◌, ◌-◌, ◌*◌, ◌≤◌, ◌<◌}
use native.Mathlib.Nat.{add-zero, not-suc-le-zero}
use native.Mathlib.Omega.{arith}
use lib.Dec.{leb}
use lib.ListN.{length, get_or, drop}
use borrow.Author.Tests.{leb-true, le-leb, lt-leb}
use Rattle.text.specs.Text.{Text, every, is_text}
use Rattle.text.proofs.Laws.Tests.{and-true-left, and-true-right}
use Rattle.xsd_parser.specs.Tape.{pairs_of, pair_text, all_inside, all_ascii}
use Rattle.tape.specs.Pairs.{pair_at, PairsInside}
use Rattle.tape.proofs.Laws.Pairs.{pairs-step, pairs-left}

-- the pair at a place decides, or those behind it do
module _ (marks : List ℕ) (at n : ℕ) (h : at + 2 ≤ length marks) (p : 0 < n) where
  pub inside-early : (limit end : ℕ) → get_or marks at 0 < end → all_inside limit end (pairs_of n (drop at marks)) ≡ false
  unfolding all_inside pair_at
  inside-early limit end l = rw (pairs-left marks at n h p, lt-leb end (get_or marks at 0) l)

  pub inside_past : (limit end : ℕ) → end ≤ get_or marks at 0 → limit < get_or marks at 0 + get_or marks (at + 1) 0 → all_inside limit end (pairs_of n (drop at marks)) ≡ false
  unfolding all_inside pair_at
  inside_past limit end l k = rw (pairs-left marks at n h p, le-leb end (get_or marks at 0) l, lt-leb (get_or marks at 0 + get_or marks (at + 1) 0) limit k)

  pub inside_on : (limit end : ℕ) → end ≤ get_or marks at 0 → get_or marks at 0 + get_or marks (at + 1) 0 ≤ limit
      → all_inside limit end (pairs_of n (drop at marks)) ≡ all_inside limit (get_or marks at 0 + get_or marks (at + 1) 0) (pairs_of (n - 1) (drop (at + 2) marks))
  unfolding all_inside pair_at
  inside_on limit end l k = rw (pairs-left marks at n h p, le-leb end (get_or marks at 0) l, le-leb (get_or marks at 0 + get_or marks (at + 1) 0) limit k)

-- no pair is left
pub inside-end : (limit end n : ℕ) (l : List ℕ) → n ≤ 0 → all_inside limit end (pairs_of n l) ≡ true
unfolding all_inside pairs_of
inside-end limit end zero l h = refl
inside-end limit end (suc n) l h = absurd (not-suc-le-zero h)

-- each of n pairs from the i-th on
pub ascii-all : (text : Text) (marks : List ℕ) (from n i : ℕ) → from + 2 * (i + n) ≤ length marks
    → list_all (λ (k : ℕ). is_text (pair_text text (pair_at marks (from + 2 * k)))) (range_with_len i n) ≡ all_ascii text (pairs_of n (drop (from + 2 * i) marks))
unfolding all_ascii every pairs_of
ascii-all text marks from zero i h = refl
ascii-all text marks from (suc n) i h =
    let next : from + 2 * i + 2 ≡ from + 2 * (i + 1) = omega arith in
    rw (pairs-step marks (from + 2 * i) n (omega arith), next)
    (ap (λ (b : Bool). is_text (pair_text text (pair_at marks (from + 2 * i))) && b) (ascii-all text marks from n (i + 1) (omega arith)))

-- what pairs that were judged inside say one by one
inside-head : (limit end : ℕ) (marks : List ℕ) (from n : ℕ) → from + 2 ≤ length marks → all_inside limit end (pairs_of (suc n) (drop from marks)) ≡ true
    → (pair_at marks from).offset + (pair_at marks from).size ≤ limit
unfolding all_inside
inside-head limit end marks from n h e =
    let p = pair_at marks from in
    let both = and-true-left (leb end p.offset && leb (p.offset + p.size) limit) _ (rw (pairs-step marks from n h) at e) in
    leb-true (p.offset + p.size) limit (and-true-right (leb end p.offset) _ both)

inside-tail : (limit end : ℕ) (marks : List ℕ) (from n : ℕ) → from + 2 ≤ length marks → all_inside limit end (pairs_of (suc n) (drop from marks)) ≡ true
    → all_inside limit ((pair_at marks from).offset + (pair_at marks from).size) (pairs_of n (drop (from + 2) marks)) ≡ true
unfolding all_inside
inside-tail limit end marks from n h e =
    let p = pair_at marks from in
    and-true-right (leb end p.offset && leb (p.offset + p.size) limit) _ (rw (pairs-step marks from n h) at e)

inside-at : (limit end : ℕ) (marks : List ℕ) (from n i : ℕ) → from + 2 * n ≤ length marks → all_inside limit end (pairs_of n (drop from marks)) ≡ true → i < n
    → (pair_at marks (from + 2 * i)).offset + (pair_at marks (from + 2 * i)).size ≤ limit
inside-at limit end marks from zero i h e l = absurd (not-suc-le-zero l)
inside-at limit end marks from (suc n) zero h e l = rw (add-zero from) (inside-head limit end marks from n (omega arith) e)
inside-at limit end marks from (suc n) (suc i) h e l =
    let further : from + 2 * suc i ≡ from + 2 + 2 * i = omega arith in
    rw further (inside-at limit ((pair_at marks from).offset + (pair_at marks from).size) marks (from + 2) n i (omega arith) (inside-tail limit end marks from n (omega arith) e) (omega arith))

pub inside-each : (text : Text) (marks : List ℕ) (from n : ℕ) → from + 2 * n ≤ length marks → all_inside (length text) 0 (pairs_of n (drop from marks)) ≡ true → PairsInside text marks from n
unfolding PairsInside
inside-each text marks from n h e = λ i l. inside-at (length text) 0 marks from n i h e l
