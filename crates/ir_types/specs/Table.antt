-- Paper 01, "Returned numbers", for the label call: 16 under the conditions of `refuses`, and else 0 with the row's type reference.
--     LabelTable rows names words k l    the label of row k is l
use Rattle.std.specs.Prelude.{ℕ, ◌-◌, ◌≤◌, ◌≡◌, List, [], true, false, get_or}
use Rattle.sheet.specs.Rows.{text_at}
use Rattle.ir_types.specs.Label.{Labelled, no_label, words_of, word_at, row_ten, reference_at, reference_length}
use Rattle.ir_types.specs.Refuses.{refuses}

pub data LabelTable (rows names words : List ℕ) (k : ℕ) (l : Labelled) : Type 0 where
  -- 16: "the label is the empty part at the start of names"
  refused : refuses rows names words k ≡ true → l ≡ no_label → LabelTable rows names words k l
  -- 0 with a 0: "a part of the graph's names", the reference's pair
  named : refuses rows names words k ≡ false → (row_ten rows k).a ≡ 0
      → l ≡ record { number = 0; in_words = false; at = reference_at (row_ten rows k); text = text_at names (reference_at (row_ten rows k)) (reference_length (row_ten rows k)) }
      → LabelTable rows names words k l
  -- 0 with a 1 to 5: "a part of the word list"; "there it is word a, from 1, without the newline"
  word : refuses rows names words k ≡ false → 1 ≤ (row_ten rows k).a → (row_ten rows k).a ≤ 5
      → l ≡ record { number = 0; in_words = true; at = word_at ((row_ten rows k).a - 1) (words_of words); text = get_or (words_of words) ((row_ten rows k).a - 1) [] }
      → LabelTable rows names words k l
