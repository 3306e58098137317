-- Where a label stands, by the tests that lead to it. Assumes nothing.
use Rattle.std.specs.Prelude.{Result, Ok, Err}
use Prim.Native.Nat.{ℕ, ◌+◌, ◌-◌, ◌*◌, ◌%◌, ◌/◌, ◌≤◌, ◌<◌}
use mathlib.Core.Path.{◌≡◌, refl, sym, ap, ◌∙◌}
use mathlib.Core.Bool.{true, false}
use mathlib.Core.List.{List}
use native.Mathlib.Omega.{arith}
use lib.ListN.{length, drop}
use borrow.Author.Tests.{eq-eqb, ne_eqb, le-leb, lt-leb, lt-ltb, le-ltb}
use Rattle.sheet.specs.Rows.{Ten}
use Rattle.sheet.specs.declared.refusal.Refusal.{Refusal}
use Rattle.sheet.specs.Results.{returned_number}
use Rattle.sheet.proofs.Laws.Unpacks.{length-text_at}
use Rattle.ir_types.specs.Label.{Labelled, no_label, words_of, good_words, word_at, row_ten, has_reference, reference_at, reference_length, named_label, word_label, row_label, label}
use Rattle.ir_types.proofs.Laws.Words.{six-words}
use Rattle.ir_label.specs.Lines.{line_length}
use Rattle.ir_label.proofs.Laws.Start.{word_line}
use Rattle.ir_label.specs.Spot.{LabelStands, IsSpot}
use Rattle.ir_label.specs.declared.Spot.{Spot}
use Rattle.ir_label.specs.declared.Buffer.TheVariants.{Names, Words}

-- a pair inside the names, and one that is not
pub name-inside : (names : List ℕ) (at len : ℕ) → at + len ≤ length names → LabelStands (named_label names at len) (record { buffer = Names; at = at; len = len })
unfolding named_label
name-inside names at len h = rw (le-leb (at + len) (length names) h) (record { number = refl; buffer = refl; at = refl; len = length-text_at names at len h })

pub name-outside : (names : List ℕ) (at len : ℕ) → length names < at + len → named_label names at len ≡ no_label
unfolding named_label
name-outside names at len h = rw (lt-leb (at + len) (length names) h)

-- a word of a good list, and one of another
pub word-here : (words : List ℕ) (a at end : ℕ) → good_words words ≡ true → a ≤ 5 → at ≡ word_at (a - 1) (words_of words) → end ≡ at + line_length (drop at words)
    → LabelStands (word_label words a) (record { buffer = Words; at = at; len = end - at })
unfolding word_label
word-here words a at end good h e f =
    let size = ap (λ (i : ℕ). line_length (drop i words)) e ∙ word_line (a - 1) words (omega (arith, h, six-words words good)) in
    rw good (record { number = refl; buffer = refl; at = sym e; len = omega (arith, f, size) })

pub word-bad : (words : List ℕ) (a : ℕ) → good_words words ≡ false → word_label words a ≡ no_label
unfolding word_label
word-bad words a h = rw h

-- a row without a reference, with one to a word, with one to a name
pub row-none : (names words : List ℕ) (t : Ten) → has_reference t ≡ false → row_label names words t ≡ no_label
unfolding row_label
row-none names words t h = rw h

pub row_word : (names words : List ℕ) (t : Ten) → has_reference t ≡ true → (t.a ≡ 0 → ⊥) → row_label names words t ≡ word_label words t.a
unfolding row_label
row_word names words t h k = rw (h, ne_eqb t.a 0 k)

pub row-name : (names words : List ℕ) (t : Ten) → has_reference t ≡ true → t.a ≡ 0 → row_label names words t ≡ named_label names (reference_at t) (reference_length t)
unfolding row_label
row-name names words t h k = rw (h, eq-eqb t.a 0 k)

pub second-pair : (names : List ℕ) (t : Ten) → t.tag ≡ 7 → named_label names (reference_at t) (reference_length t) ≡ named_label names t.at1 t.len1
unfolding reference_at reference_length
second-pair names t e = rw (eq-eqb t.tag 7 e)

pub third-pair : (names : List ℕ) (t : Ten) → (t.tag ≡ 7 → ⊥) → named_label names (reference_at t) (reference_length t) ≡ named_label names t.at2 t.len2
unfolding reference_at reference_length
third-pair names t e = rw (ne_eqb t.tag 7 e)

-- rows of another length, no such row, and row k
pub rows-odd : (rows names words : List ℕ) (k : ℕ) → (length rows % 10 ≡ 0 → ⊥) → label rows names words k ≡ no_label
unfolding label
rows-odd rows names words k h = rw (ne_eqb (length rows % 10) 0 h)

pub rows_short : (rows names words : List ℕ) (k : ℕ) → length rows % 10 ≡ 0 → length rows / 10 ≤ k → label rows names words k ≡ no_label
unfolding label
rows_short rows names words k e h = rw (eq-eqb (length rows % 10) 0 e, le-ltb (10 * k) (length rows) (omega (arith, e, h)))

pub rows_row : (rows names words : List ℕ) (k : ℕ) → length rows % 10 ≡ 0 → k < length rows / 10 → label rows names words k ≡ row_label names words (row_ten rows k)
unfolding label
rows_row rows names words k e h = rw (eq-eqb (length rows % 10) 0 e, lt-ltb (10 * k) (length rows) (omega (arith, h)))

-- the number of what was found is the label's
pub spot-number : (l : Labelled) (r : Result Spot Refusal) → IsSpot l r → l.number ≡ returned_number r
unfolding no_label
spot-number l (Ok s) h = h.number
spot-number l (Err refusal) h = rw (h.0, h.1) refl
