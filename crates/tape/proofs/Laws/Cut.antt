-- An event's marks say of the event what all marks say. Laws of specs/Marks.antt. No contract cites them. Assumes nothing.
use mathlib.Core.Path.{◌≡◌, refl, ap, ◌∙◌}
use mathlib.Core.List.{List, [], ◌∷◌}
use Prim.Native.Nat.{ℕ, zero, suc, ◌+◌, ◌*◌, ◌≤◌, ◌<◌}
use native.Mathlib.Nat.{zero-add}
use native.Mathlib.Omega.{arith}
use lib.ListN.{length, get_or, take, drop, length-take, length-drop}
use lib.Seq.{get_or-take, get_or-drop}
use Rattle.text.specs.Text.{Text}
use Rattle.xsd_parser.specs.Tape.{Pair, pairs_of, pair_count, tag_of}
use Rattle.tape.specs.Pairs.{pair_at, PairsInside, TagInside, tag_at}
use Rattle.tape.specs.Marks.{marks_of_tag}

-- so many pairs are in twice as many marks
pairs-cut : (n : ℕ) (l : List ℕ) → pairs_of n (take (2 * n) l) ≡ pairs_of n l
unfolding pairs_of
pairs-cut zero l = refl
pairs-cut (suc n) [] = let e : 2 * suc n ≡ suc (suc (2 * n)) = omega arith in rw (e)
pairs-cut (suc n) (o ∷ []) = let e : 2 * suc n ≡ suc (suc (2 * n)) = omega arith in rw (e)
pairs-cut (suc n) (o ∷ s ∷ l) =
    let e : 2 * suc n ≡ suc (suc (2 * n)) = omega arith in
    rw (e) (ap (λ (ps : List Pair). record { offset = o; size = s } ∷ ps) (pairs-cut n l))

pub tag-cut : (text : Text) (marks : List ℕ) (pairs count : ℕ) → tag_at text (marks_of_tag marks pairs count) 0 count ≡ tag_at text marks pairs count
unfolding tag_at marks_of_tag
tag-cut text marks pairs count = ap (tag_of text) (pairs-cut (pair_count count) (drop pairs marks))

-- a number of the event's marks is that number of all marks
mark-cut : (marks : List ℕ) (pairs count i : ℕ) → i < length (marks_of_tag marks pairs count) → get_or (marks_of_tag marks pairs count) i 0 ≡ get_or marks (pairs + i) 0
unfolding marks_of_tag
mark-cut marks pairs count i h =
    get_or-take (2 * pair_count count) (drop pairs marks) i 0 (omega (arith, length-take (2 * pair_count count) (drop pairs marks))) ∙ get_or-drop pairs marks i 0

pair-cut : (marks : List ℕ) (pairs count i : ℕ) → i + 2 ≤ length (marks_of_tag marks pairs count) → pair_at (marks_of_tag marks pairs count) i ≡ pair_at marks (pairs + i)
unfolding pair_at
pair-cut marks pairs count i h =
    let one : pairs + i + 1 ≡ pairs + (i + 1) = omega arith in
    rw (one, ← mark-cut marks pairs count i (omega arith), ← mark-cut marks pairs count (i + 1) (omega arith))

-- the marks of a tag that was judged are all there, and its pairs lie where they lay
module _ (text : Text) (marks : List ℕ) (pairs count : ℕ) (inside : TagInside text marks pairs count) where
  pub event-length : length (marks_of_tag marks pairs count) ≡ 2 * pair_count count
  unfolding marks_of_tag
  event-length = omega (arith, inside.marks_inside, length-take (2 * pair_count count) (drop pairs marks), length-drop pairs marks)

  pub inside-cut : TagInside text (marks_of_tag marks pairs count) 0 count
  unfolding PairsInside
  inside-cut = record {
    marks_inside = omega (arith, event-length);
    text_inside = λ i l. rw (zero-add (2 * i), pair-cut marks pairs count (2 * i) (omega (arith, event-length))) (inside.text_inside i l);
  }
