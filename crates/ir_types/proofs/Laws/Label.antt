-- What the label call tells: a refusal gives the empty text, an accepted label is a part of the names or one of the five words.
-- Assumes nothing.
use Rattle.std.specs.Prelude.{if◌then◌else◌}
use Prim.Native.Nat.{ℕ, ◌+◌, ◌-◌, ◌*◌, ◌%◌, ◌≤◌, ◌<◌}
use mathlib.Core.Path.{◌≡◌, refl}
use mathlib.Core.Logic.{◌⊎◌, inl, inr, ⊎_elim}
use mathlib.Core.Bool.{true, false, ◌&&◌, ◌||◌, false≢true, true≢false}
use mathlib.Core.List.{List, []}
use native.Mathlib.Omega.{arith}
use lib.Dec.{eqb, leb, ltb}
use lib.ListN.{length, get_or}
use borrow.Author.Tests.{leb-true, eqb-false}
use Rattle.sheet.specs.Rows.{Ten, text_at}
use Rattle.ir_types.specs.Label.{Labelled, no_label, words_of, good_words, word_at, row_ten, has_reference, reference_at, reference_length, named_label, word_label, row_label, label}
use Rattle.std.proofs.lemmas.Bool.{cases_Bool}
use Rattle.text.proofs.Laws.Tests.{and-true-left, and-true-right}

record Told (names words : List ℕ) (l : Labelled) : Type 0 where
  numbered : (l.number ≡ 0) ⊎ (l.number ≡ 16)
  refused : l.number ≡ 16 → (l.in_words ≡ false) × (l.at ≡ 0) × (l.text ≡ [])
  part : l.number ≡ 0 → l.in_words ≡ false → (len : ℕ) × (l.at + len ≤ length names) × (l.text ≡ text_at names l.at len)
  word : l.in_words ≡ true → (i : ℕ) × (i < 5) × (good_words words ≡ true) × (l.at ≡ word_at i (words_of words)) × (l.text ≡ get_or (words_of words) i [])

no-label : (names words : List ℕ) → Told names words no_label
unfolding no_label
no-label names words =
    record { numbered = inr refl; refused = λ e. (refl, refl, refl); part = λ e f. absurd (omega arith); word = λ e. absurd (false≢true e) }

named-label : (names words : List ℕ) (at len : ℕ) → Told names words (named_label names at len)
unfolding named_label
named-label names words at len =
    ⊎_elim (λ h. rw h (record { numbered = inl refl; refused = λ e. absurd (omega arith); part = λ e f. (len, leb-true (at + len) (length names) h, refl); word = λ e. absurd (false≢true e) }))
    (λ h. rw h (no-label names words))
    (cases_Bool (leb (at + len) (length names)))

word-label : (names words : List ℕ) (a : ℕ) → a ≤ 5 → (a ≡ 0 → ⊥) → Told names words (word_label words a)
unfolding word_label
word-label names words a h k =
    ⊎_elim (λ g. rw g (record { numbered = inl refl; refused = λ e. absurd (omega arith); part = λ e f. absurd (true≢false f); word = λ e. (a - 1, omega arith, g, refl, refl) }))
    (λ g. rw g (no-label names words))
    (cases_Bool (good_words words))

pub reference-bound : (t : Ten) → has_reference t ≡ true → t.a ≤ 5
unfolding has_reference
reference-bound t h =
    let tags = eqb t.tag 5 || eqb t.tag 7 || eqb t.tag 9 || eqb t.tag 10 || eqb t.tag 19 in
    let low = if eqb t.tag 5 then leb 1 t.a else true in
    leb-true t.a 5 (and-true-right tags (leb t.a 5) (and-true-left (tags && leb t.a 5) low h))

row-label : (names words : List ℕ) (t : Ten) → Told names words (row_label names words t)
unfolding row_label
row-label names words t =
    ⊎_elim (λ h. rw h (⊎_elim (λ e. rw e (named-label names words (reference_at t) (reference_length t)))
    (λ e. rw e (word-label names words t.a (reference-bound t h) (eqb-false t.a 0 e)))
    (cases_Bool (eqb t.a 0))))
    (λ h. rw h (no-label names words))
    (cases_Bool (has_reference t))

told : (rows names words : List ℕ) (k : ℕ) → Told names words (label rows names words k)
unfolding label
told rows names words k =
    ⊎_elim (λ h. rw h (row-label names words (row_ten rows k))) (λ h. rw h (no-label names words))
    (cases_Bool (eqb (length rows % 10) 0 && ltb (10 * k) (length rows)))

pub label-number : (rows names words : List ℕ) (k : ℕ) → ((label rows names words k).number ≡ 0) ⊎ ((label rows names words k).number ≡ 16)
label-number rows names words k = (told rows names words k).numbered

pub label-refused : (rows names words : List ℕ) (k : ℕ) → (label rows names words k).number ≡ 16 → ((label rows names words k).in_words ≡ false)
    × ((label rows names words k).at ≡ 0) × ((label rows names words k).text ≡ [])
label-refused rows names words k e = (told rows names words k).refused e

pub label-part : (rows names words : List ℕ) (k : ℕ) → (label rows names words k).number ≡ 0 → (label rows names words k).in_words ≡ false
    → (len : ℕ) × ((label rows names words k).at + len ≤ length names) × ((label rows names words k).text ≡ text_at names (label rows names words k).at len)
label-part rows names words k e f = (told rows names words k).part e f

pub label-word : (rows names words : List ℕ) (k : ℕ) → (label rows names words k).in_words ≡ true
    → (i : ℕ) × (i < 5) × (good_words words ≡ true) × ((label rows names words k).at ≡ word_at i (words_of words)) × ((label rows names words k).text ≡ get_or (words_of words) i [])
label-word rows names words k e = (told rows names words k).word e
