-- What the library's words say of texts in the words of specs/Text.antt: `==` of slices is `same`, `contains` of a slice is `contains`, `all` is `every`,
-- `to_ascii_lowercase` is `lower_byte`, and the bits of all bytes together decide `is_plain`. Assumes nothing.
use Rattle.std.proofs.Common.{◌≡◌, ◌≢◌, ℕ, zero, suc, ◌+◌, ◌<◌, ◌≤◌, Bool, true, false, ◌&&◌, ◌||◌, [], ◌∷◌, length, get_or, take, drop}
use Rattle.std.proofs.Common.{nat_eq, nat_lt, bit_or, refl, sym, ap, ◌∙◌, arith, add-one, length-drop, take-append-drop}
use Rattle.std.specs.Char.{to_ascii_lowercase}
use Rattle.std.specs.List.{list_any, fold}
use Rattle.std.specs.Cmp.Lexicographic.{pointwise}
use Rattle.std.proofs.lemmas.Bool.{ne_eqb}
use Rattle.std.proofs.lemmas.List.{get_or-drop}
use Rattle.std.proofs.lemmas.List.Recursion.{and_from_places, or_from_places}
use lib.Seq.{take-suc}
use mathlib.Core.Bool.{and_assoc, and-true, false≢true}
use borrow.Author.Tests.{eqb-false, ltb-true, ltb-false, lt-leb, le-leb}
use Rattle.text.specs.Text.{Text, between, lower_byte, every, is_plain, is_plain_byte, contains, same, colon, local_name}
use Rattle.text.specs.Trim.{is_white_space, trim_start, trim_end}
use Rattle.text.proofs.Laws.Bits.{or-small}
use Rattle.text.proofs.Laws.Every.{every-head, every-tail}
use Rattle.text.proofs.Laws.Local.{after_last-at, after_last-none}
use Rattle.text.proofs.Laws.Tests.{bool_cases, or-false-left, or-false-right}
use Rattle.text.proofs.Laws.Trim.{trim_end-append, trim_end-last}
use Rattle.std.specs.Prelude.{Option, Some, None, is_some}

-- what `==` of two texts answers
pub same_is : (s t : Text) → pointwise nat_eq s t ≡ same s t
unfolding same
same_is [] [] = refl
same_is [] (c ∷ t) = refl
same_is (b ∷ s) [] = refl
same_is (b ∷ s) (c ∷ t) = ap (λ (r : Bool). nat_eq b c && r) (same_is s t)

-- what `contains` of a text answers
pub contains_is : (c : ℕ) (s : Text) → list_any (λ b. nat_eq b c) s ≡ contains c s
unfolding contains
contains_is c [] = refl
contains_is c (b ∷ s) = ap (λ (r : Bool). nat_eq b c || r) (contains_is c s)

-- what `to_ascii_lowercase` of a byte answers
pub lower_is : (b : ℕ) → to_ascii_lowercase b ≡ lower_byte b
unfolding between lower_byte
lower_is b =
    bool_cases (nat_lt b 65)
    (λ t. rw (t, lt-leb 65 b (ltb-true b 65 t)))
    (λ t.
    bool_cases (nat_lt b 91)
    (λ u. let h = ltb-true b 91 u in rw (t, u, le-leb 65 b (ltb-false b 65 t), le-leb b 90 (omega arith)))
    (λ u. let h = ltb-false b 91 u in rw (t, u, le-leb 65 b (ltb-false b 65 t), lt-leb b 90 (omega arith))))

-- the bits of all bytes, put to those of a first number
pub plain_fold : (a : ℕ) (s : Text) → nat_lt (fold bit_or a s) 128 ≡ nat_lt a 128 && is_plain s
unfolding is_plain every is_plain_byte
plain_fold a [] = sym (and-true _)
plain_fold a (b ∷ s) = plain_fold (bit_or a b) s ∙ ap (λ (r : Bool). r && is_plain s) (or-small a b) ∙ and_assoc (nat_lt a 128) (nat_lt b 128) (is_plain s)

-- a byte that stands at no place from i on
pub contains-none : (c : ℕ) (s : Text) (i : ℕ) → ((k : ℕ) → i ≤ k → k < length s → get_or s k 0 ≢ c) → contains c (drop i s) ≡ false
unfolding contains
contains-none c s i h =
    or_from_places (contains c) (λ b. nat_eq b c) refl (λ _ _. refl) (drop i s) 0
    (λ k inside. ap (λ b. nat_eq b c) (get_or-drop i s k 0) ∙ ne_eqb (get_or s (i + k) 0) c (h (i + k) (omega arith) (omega (arith, length-drop i s))))

-- a byte that a text does not hold stands at none of its places
pub contains-not : (c : ℕ) (s : Text) → contains c s ≡ false → (k : ℕ) → k < length s → get_or s k 0 ≢ c
unfolding contains
contains-not c [] e k h = absurd (omega arith)
contains-not c (b ∷ s) e zero h = eqb-false b c (or-false-left (nat_eq b c) (contains c s) e)
contains-not c (b ∷ s) e (suc k) h = contains-not c s (or-false-right (nat_eq b c) (contains c s) e) k (omega arith)

-- one that stands at no place up to another one and at none behind stands nowhere
pub nowhere : (c : ℕ) (s : Text) (from end : ℕ) → ((k : ℕ) → from ≤ k → k < end → get_or s k 0 ≢ c) → ((k : ℕ) → end ≤ k → k < length s → get_or s k 0 ≢ c)
    → (k : ℕ) → from ≤ k → k < length s → get_or s k 0 ≢ c
nowhere c s from end front behind k low high =
    bool_cases (nat_lt k end) (λ t. front k low (ltb-true k end t)) (λ t. behind k (ltb-false k end t) high)

-- the local name by the place of the last colon
pub local_name-last : (name : Text) (i : ℕ) → i < length name → get_or name i 0 ≡ colon → ((k : ℕ) → i + 1 ≤ k → k < length name → get_or name k 0 ≢ colon) → local_name name ≡ drop (i + 1) name
unfolding local_name
local_name-last name i inside here behind = rw add-one (after_last-at colon name name i inside here (rw add-one at (contains-none colon name (i + 1) behind)))

pub local_name-whole : (name : Text) → ((k : ℕ) → k < length name → get_or name k 0 ≢ colon) → local_name name ≡ name
unfolding local_name
local_name-whole name none = after_last-none colon name name (contains-none colon name 0 (λ k _ inside. none k inside))

-- what is left at the start by the place of the first byte that is no white space, and at the end by that of the last
pub trim_start-first : (s : Text) (i : ℕ) → i < length s → is_white_space (get_or s i 0) ≡ false → ((k : ℕ) → k < i → is_white_space (get_or s k 0) ≡ true) → trim_start s ≡ drop i s
unfolding trim_start
trim_start-first [] i inside here before = absurd (omega arith)
trim_start-first (b ∷ s) zero inside here before = rw here
trim_start-first (b ∷ s) (suc i) inside here before =
    rw (before 0 (omega arith)) (trim_start-first s i (omega arith) here (λ k below. before (suc k) (omega arith)))

pub trim_start-white : (s : Text) → every is_white_space s ≡ true → trim_start s ≡ []
unfolding trim_start
trim_start-white [] e = refl
trim_start-white (b ∷ s) e = rw (every-head is_white_space b s e) (trim_start-white s (every-tail is_white_space b s e))

pub white-from : (s : Text) (i : ℕ) → ((k : ℕ) → i ≤ k → k < length s → is_white_space (get_or s k 0) ≡ true) → every is_white_space (drop i s) ≡ true
unfolding every
white-from s i h =
    and_from_places (every is_white_space) is_white_space refl (λ _ _. refl) (drop i s) 0
    (λ k inside. ap is_white_space (get_or-drop i s k 0) ∙ h (i + k) (omega arith) (omega (arith, length-drop i s)))

pub trim_end-at : (s : Text) (i : ℕ) → i < length s → is_white_space (get_or s i 0) ≡ false → ((k : ℕ) → i + 1 ≤ k → k < length s → is_white_space (get_or s k 0) ≡ true) → trim_end s ≡ take (i + 1) s
trim_end-at s i inside here behind =
    ap trim_end (sym (take-append-drop (i + 1) s)) ∙ trim_end-append (take (i + 1) s) (drop (i + 1) s) (white-from s (i + 1) behind)
    ∙ rw (add-one, take-suc s i 0 inside) (trim_end-last (take i s) (get_or s i 0) here)

-- an answer that `is_some` is false of
pub none-is : {A : Type 0} (r : Option A) → is_some r ≡ false → r ≡ None
none-is None h = refl
none-is (Some q) h = absurd (false≢true (sym h))
