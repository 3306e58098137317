-- The pairs of a record, one by one, and the part of the text under a pair. Laws of xsd_parser's Tape and of specs/Pairs.antt.
-- No contract cites them. Assumes nothing.
use mathlib.Core.Path.{◌≡◌, refl, ap, ◌∙◌}
use mathlib.Core.List.{List, [], ◌∷◌}
use Prim.Native.Nat.{ℕ, zero, suc, ◌+◌, ◌-◌, ◌*◌, ◌≤◌, ◌<◌}
use native.Mathlib.Omega.{arith}
use lib.ListN.{length, get_or, take, drop, get_or-eq_default}
use lib.Seq.{drop-cons}
use Rattle.text.specs.Text.{Text}
use Rattle.xsd_parser.specs.Tape.{Pair, pairs_of, pair_text, pair_count}
use Rattle.tape.specs.Pairs.{pair_at, PairsInside, PairInside, TagInside}

-- two numbers of the marks from a place on
pub drop-two : (marks : List ℕ) (at : ℕ) → at + 2 ≤ length marks → drop at marks ≡ get_or marks at 0 ∷ get_or marks (at + 1) 0 ∷ drop (at + 2) marks
drop-two marks at h =
    let one : at + 1 ≡ suc at = omega arith in
    let two : at + 2 ≡ suc (suc at) = omega arith in
    rw (one, two, drop-cons marks at 0 (omega arith)) (ap (λ (l : List ℕ). get_or marks at 0 ∷ l) (drop-cons marks (suc at) 0 (omega arith)))

pub pairs-step : (marks : List ℕ) (at n : ℕ) → at + 2 ≤ length marks → pairs_of (suc n) (drop at marks) ≡ pair_at marks at ∷ pairs_of n (drop (at + 2) marks)
unfolding pairs_of pair_at
pairs-step marks at n h = ap (pairs_of (suc n)) (drop-two marks at h)

-- the same where the number of pairs is counted down
pub pairs-left : (marks : List ℕ) (at n : ℕ) → at + 2 ≤ length marks → 0 < n → pairs_of n (drop at marks) ≡ pair_at marks at ∷ pairs_of (n - 1) (drop (at + 2) marks)
pairs-left marks at n h p =
    let e : n ≡ suc (n - 1) = omega arith in
    ap (λ (k : ℕ). pairs_of k (drop at marks)) e ∙ pairs-step marks at (n - 1) h

pub pairs-none : (n : ℕ) → pairs_of n [] ≡ []
unfolding pairs_of
pairs-none zero = refl
pairs-none (suc n) = refl

-- the part under a pair, by numbers that are its offset and its size
pub pair-text : (text : Text) (p : Pair) (offset size : ℕ) → offset ≡ p.offset → size ≡ p.size → take size (drop offset text) ≡ pair_text text p
unfolding pair_text
pair-text text p offset size o s = rw (o, s)

-- past the end of the marks a pair is empty
pub pair-past : (text : Text) (marks : List ℕ) (at : ℕ) → length marks ≤ at → pair_text text (pair_at marks at) ≡ []
unfolding pair_text pair_at
pair-past text marks at h =
    ap (λ (n : ℕ). take n (drop (get_or marks at 0) text)) (get_or-eq_default marks 0 {n = at + 1} (omega arith))

-- the key of an attribute of a tag that was judged: so many attributes are left from it on
pub key-inside : (text : Text) (marks : List ℕ) (pairs count at left : ℕ) → TagInside text marks pairs count → at + 4 * left ≡ pairs + 2 * pair_count count → left ≤ count
    → 0 < left → PairInside text marks at
unfolding PairsInside pair_count
key-inside text marks pairs count at left inside e few some =
    let place : at ≡ pairs + 2 * (1 + 2 * (count - left)) = omega arith in
    record {
      marks_inside = omega (arith, inside.marks_inside);
      text_inside = rw place (inside.text_inside (1 + 2 * (count - left)) (omega arith));
    }

-- its name
pub name-inside : (text : Text) (marks : List ℕ) (pairs count : ℕ) → TagInside text marks pairs count → PairInside text marks pairs
unfolding PairsInside pair_count
name-inside text marks pairs count inside =
    let place : pairs + 2 * 0 ≡ pairs = omega arith in
    record { marks_inside = omega (arith, inside.marks_inside); text_inside = rw place at (inside.text_inside 0 (omega arith)) }
