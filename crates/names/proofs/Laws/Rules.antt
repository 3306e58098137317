-- The two rules of the table of cases, each by a test that antt computes at all 256 entries. Assumes nothing.
use mathlib.Core.Path.{◌≡◌, refl}
use mathlib.Core.Bool.{Bool, true, false, not, ◌&&◌, ◌||◌, false≢true}
use mathlib.Core.List.{[], ◌∷◌}
use Prim.Native.Nat.{ℕ}
use native.Mathlib.Omega.{arith}
use lib.ListN.{length}
use borrow.Author.Tests.{not-true}
use Rattle.text.specs.Text.{Text, every, between, is_tail, is_pair, is_upper, is_lower}
use Rattle.text.proofs.Laws.Tests.{bool_cases}
use Rattle.text.proofs.Laws.Texts.{between-high, between-below}
use Rattle.names.specs.Cases.{Case, Upper, Lower, Neither, case_table, case_of, lowered, is_upper_letter, is_lower_letter, lower_of, is_upper_char, is_lower_char, in_table}
use Rattle.names.proofs.Laws.Cases.{lower_forms, case-passes}

pub table-length : length case_table ≡ 256
unfolding case_table
table-length = refl

-- no letter is both upper and lower
apart : Case → Bool
apart x = not (is_upper_letter x && is_lower_letter x)

all_apart : every apart case_table ≡ true
unfolding every apart case_table
all_apart = refl

byte-apart : (b : ℕ) → is_upper b && is_lower b ≡ false
byte-apart b = bool_cases (is_upper b) (λ u. rw (u, between-below 97 122 b (omega (arith, between-high 65 90 b u)))) (λ u. rw u)

pub case-apart : (c : Text) → is_upper_char c && is_lower_char c ≡ false
unfolding is_upper_char is_lower_char apart
case-apart [] = refl
case-apart (b ∷ []) = byte-apart b
case-apart (b ∷ t ∷ s) = not-true (is_upper_letter (case_of b t) && is_lower_letter (case_of b t)) (case-passes apart all_apart refl b t)

-- the lower form of an upper letter, if itself in the table, is a lower letter
goes_down : Text → Bool
goes_down s = not (in_table s) || is_lower_char s

all_down : every (lower_forms goes_down) case_table ≡ true
unfolding every goes_down in_table is_lower_char case_table case_of is_pair is_tail between
all_down = refl

letter-down : (x : Case) (c : Text) → lower_forms goes_down x ≡ true → is_upper_letter x ≡ true → goes_down (lowered x c) ≡ true
unfolding lowered
letter-down (Upper form) c e h = e
letter-down (Lower form) c e h = absurd (false≢true h)
letter-down Neither c e h = absurd (false≢true h)

pub case-down : (c : Text) → is_upper_char c ≡ true → in_table (lower_of c) ≡ true → is_lower_char (lower_of c) ≡ true
unfolding is_upper_char in_table lower_of goes_down
case-down [] e h = absurd (false≢true h)
case-down (b ∷ []) e h = absurd (false≢true h)
case-down (b ∷ t ∷ s) e h = rw h at (letter-down (case_of b t) (b ∷ t ∷ s) (case-passes (lower_forms goes_down) all_down refl b t) e)
