-- The label call: a row's type reference. Paper 01: "a part of the graph's names or a part of the word list, a lent buffer of five words each ended by
-- a newline byte, and nothing after; there it is word a, from 1, without the newline. Rows count from 0."
--     Labelled      the number, 0 or 16, and the label's part: whether it is one of the word list or of the names, where it starts there, its bytes
--     words_of       the words of a list; good_words: five words, each ended by a newline byte, and nothing after
--     word_at i ws   where word i, from 0, starts: behind the words before it and their newlines
--     reference_at, reference_length    the reference's pair of a row
--     label         the call
--     LabelIs, LabelNumberIs    what the two calls say of themselves
use Rattle.std.specs.Prelude.{ℕ, zero, suc, ◌+◌, ◌-◌, ◌*◌, ◌%◌, ◌≡◌, List, [], ◌∷◌, Bool, true, false, ◌&&◌, ◌||◌, eqb, leb, ltb, length, get_or, drop, if◌then◌else◌}
use Rattle.text.specs.Text.{Text, split, StartsAt}
use Rattle.sheet.specs.Rows.{Ten, ten, text_at}

pub record Labelled : Type 0 where
  pub number : ℕ
  pub in_words : Bool
  pub at : ℕ
  pub text : Text

-- 16: "the label is the empty part at the start of names"
unfoldable pub no_label : Labelled
no_label = record { number = 16; in_words = false; at = 0; text = [] }

unfoldable pub newline : ℕ
newline = 10

unfoldable pub words_of : List ℕ → List Text
words_of words = split newline words

unfoldable pub good_words : List ℕ → Bool
good_words words = eqb (length (words_of words)) 6 && eqb (length (get_or (words_of words) 5 [])) 0

unfoldable pub word_at : ℕ → List Text → ℕ
word_at zero ws = 0
word_at (suc i) [] = 0
word_at (suc i) (w ∷ ws) = length w + 1 + word_at i ws

unfoldable pub row_ten : List ℕ → ℕ → Ten
row_ten rows k = ten (drop (10 * k) rows)

-- "tag not 5, 7, 9, 10 or 19, a above 5 (or 0 for tag 5)"
unfoldable pub has_reference : Ten → Bool
has_reference t =
    (eqb t.tag 5 || eqb t.tag 7 || eqb t.tag 9 || eqb t.tag 10 || eqb t.tag 19)
    && leb t.a 5 && (if eqb t.tag 5 then leb 1 t.a else true)

-- the reference's pair is the second of 7 and the third of 9, 10, 19
unfoldable pub reference_at : Ten → ℕ
reference_at t = if eqb t.tag 7 then t.at1 else t.at2

unfoldable pub reference_length : Ten → ℕ
reference_length t = if eqb t.tag 7 then t.len1 else t.len2

unfoldable pub named_label : List ℕ → ℕ → ℕ → Labelled
named_label names at len =
    if leb (at + len) (length names) then record { number = 0; in_words = false; at = at; text = text_at names at len } else no_label

unfoldable pub word_label : List ℕ → ℕ → Labelled
word_label words a =
    if good_words words
    then record { number = 0; in_words = true; at = word_at (a - 1) (words_of words); text = get_or (words_of words) (a - 1) [] }
    else no_label

unfoldable pub row_label : List ℕ → List ℕ → Ten → Labelled
row_label names words t =
    if has_reference t
    then if eqb t.a 0 then named_label names (reference_at t) (reference_length t) else word_label words t.a
    else no_label

-- 16: "length not a multiple of 10, no such row"
unfoldable pub label : List ℕ → List ℕ → List ℕ → ℕ → Labelled
label rows names words k =
    if eqb (length rows % 10) 0 && ltb (10 * k) (length rows) then row_label names words (row_ten rows k) else no_label

-- what a label call says of itself: the bytes of the part that it returns, in which of the two lent buffers it lies and where it starts there, are the
-- definition's; names_place, words_place and place are where the two buffers and the part start in memory
pub record LabelIs (rows names words : List ℕ) (k : ℕ) (names_place words_place place : ℕ × ℕ) (part : Text) : Type 0 where
  pub bytes : part ≡ (label rows names words k).text
  pub starts : StartsAt (if (label rows names words k).in_words then words_place else names_place) (label rows names words k).at place

-- and the second call's number
abbrev pub LabelNumberIs : List ℕ → List ℕ → List ℕ → ℕ → ℕ → Type 0
LabelNumberIs rows names words k number = number ≡ (label rows names words k).number
