-- The label call's number is 16 exactly under the table's conditions, and else 0. Assumes nothing.
use Rattle.std.specs.Prelude.{if◌then◌else◌}
use Prim.Native.Nat.{ℕ, ◌+◌, ◌-◌, ◌*◌, ◌%◌}
use mathlib.Core.Path.{◌≡◌, refl}
use mathlib.Core.Logic.{⊎_elim}
use mathlib.Core.Bool.{Bool, true, false, not, ◌&&◌, ◌||◌}
use mathlib.Core.List.{List, []}
use native.Mathlib.Omega.{arith}
use lib.Dec.{eqb, leb, ltb}
use lib.ListN.{length, get_or}
use borrow.Author.Tests.{eqb-true, eqb-false, le-leb, lt-leb}
use Rattle.text.specs.Text.{between}
use Rattle.sheet.specs.Rows.{Ten, text_at}
use Rattle.ir_types.specs.Label.{Labelled, no_label, words_of, good_words, word_at, row_ten, has_reference, reference_at, reference_length, named_label, word_label, row_label, label}
use Rattle.ir_types.specs.Refuses.{has_tag, row_refuses, refuses}
use Rattle.std.proofs.lemmas.Bool.{cases_Bool}

above_zero : (a : ℕ) → leb 1 a ≡ not (eqb a 0)
above_zero a =
    ⊎_elim (λ e. rw e (lt-leb 1 a (let q = eqb-true a 0 e in omega arith)))
    (λ e. rw e (le-leb 1 a (let q = eqb-false a 0 e in omega arith)))
    (cases_Bool (eqb a 0))

-- the call's tests: the tag, a at most 5, tag 5, a 0, the pair inside, the words good
abbrev chosen : Labelled → Labelled → Bool → Bool → Bool → Bool → Bool → Bool → Labelled
chosen x y tag low five zero' inside good =
    if tag && low && (if five then not zero' else true) then (if zero' then (if inside then x else no_label) else (if good then y else no_label)) else no_label

chosen-number : (x y : Labelled) → x.number ≡ 0 → y.number ≡ 0 → (tag low five zero' inside good : Bool)
    → (chosen x y tag low five zero' inside good).number
    ≡ (if not tag || not low || (five && zero') || (zero' && not inside) || ((not zero' && low) && not good) then 16 else 0)
unfolding no_label
chosen-number x y h k false low five z inside good = refl
chosen-number x y h k true false five z inside good = refl
chosen-number x y h k true true true true inside good = refl
chosen-number x y h k true true true false inside true = k
chosen-number x y h k true true true false inside false = refl
chosen-number x y h k true true false true true good = h
chosen-number x y h k true true false true false good = refl
chosen-number x y h k true true false false inside true = k
chosen-number x y h k true true false false inside false = refl

row_number : (names words : List ℕ) (t : Ten) → (row_label names words t).number ≡ (if row_refuses names words t then 16 else 0)
unfolding row_label has_reference named_label word_label row_refuses has_tag between
row_number names words t =
    rw (above_zero t.a)
    (chosen-number (record { number = 0; in_words = false; at = reference_at t; text = text_at names (reference_at t) (reference_length t) })
    (record { number = 0; in_words = true; at = word_at (t.a - 1) (words_of words); text = get_or (words_of words) (t.a - 1) [] }) refl refl
    (eqb t.tag 5 || eqb t.tag 7 || eqb t.tag 9 || eqb t.tag 10 || eqb t.tag 19) (leb t.a 5) (eqb t.tag 5) (eqb t.a 0)
    (leb (reference_at t + reference_length t) (length names)) (good_words words))

pub label-number-exactly : (rows names words : List ℕ) (k : ℕ) → (label rows names words k).number ≡ (if refuses rows names words k then 16 else 0)
unfolding label refuses no_label
label-number-exactly rows names words k = go (eqb (length rows % 10) 0) (ltb (10 * k) (length rows))
  where
    go : (a b : Bool) → (if a && b then row_label names words (row_ten rows k) else no_label).number ≡ (if not a || not b || row_refuses names words (row_ten rows k) then 16 else 0)
    go true true = row_number names words (row_ten rows k)
    go true false = refl
    go false b = refl
