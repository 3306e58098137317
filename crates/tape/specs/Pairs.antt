-- Pairs by their place in the marks, and the tag that they stand for.
--     pair_at marks at       the pair whose offset stands at place `at` of the marks; a number past the end is 0
--     PairsInside text marks from n    each of the n pairs from place `from` on ends inside the text
--     tag_at text marks pairs count     the tag with so many attributes whose name's pair stands at place `pairs`
--     PairInside text marks at         the pair at place `at` stands inside the marks, and what is under it inside the text
--     TagInside text marks pairs count    the pairs of that tag stand inside the marks, and what is under them inside the text
use Rattle.std.specs.Prelude.{ℕ, ◌+◌, ◌*◌, ◌≤◌, ◌<◌, List, length, get_or, drop}
use Rattle.text.specs.Text.{Text}
use Rattle.xsd_parser.specs.Event.{Tag}
use Rattle.xsd_parser.specs.Tape.{Pair, pairs_of, pair_count, tag_of}

unfoldable pub pair_at : List ℕ → ℕ → Pair
pair_at marks at = record { offset = get_or marks at 0; size = get_or marks (at + 1) 0 }

unfoldable pub PairsInside : Text → List ℕ → ℕ → ℕ → Type 0
PairsInside text marks from n =
    (i : ℕ) → i < n → (pair_at marks (from + 2 * i)).offset + (pair_at marks (from + 2 * i)).size ≤ length text

unfoldable pub tag_at : Text → List ℕ → ℕ → ℕ → Tag
tag_at text marks pairs count = tag_of text (pairs_of (pair_count count) (drop pairs marks))

pub record PairInside (text : Text) (marks : List ℕ) (at : ℕ) : Type 0 where
  pub marks_inside : at + 2 ≤ length marks
  pub text_inside : (pair_at marks at).offset + (pair_at marks at).size ≤ length text

pub record TagInside (text : Text) (marks : List ℕ) (pairs count : ℕ) : Type 0 where
  pub marks_inside : pairs + 2 * pair_count count ≤ length marks
  pub text_inside : PairsInside text marks pairs (pair_count count)
