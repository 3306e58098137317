-- The snake form of a snake form is that form: it has no upper letter, by the second rule of the table. Assumes nothing.
--     no_upper      no character of the text is an upper letter
--     is_character    the text is one character
use mathlib.Core.Path.{◌≡◌, refl, sym, ap, ◌∙◌}
use mathlib.Core.Bool.{Bool, true, false, not, ◌&&◌, false≢true}
use mathlib.Core.List.{[], ◌∷◌, ◌++◌}
use Prim.Native.Nat.{ℕ, ◌+◌, ◌≤◌}
use Prim.Native.Char.{code}
use native.Mathlib.Omega.{arith}
use lib.ListN.{get_or}
use borrow.Author.Tests.{lt-leb, ne_eqb, not-true}
use Rattle.text.specs.Text.{Text, every, between, is_tail, is_upper, lower_byte, first}
use Rattle.text.specs.Characters.{is_lead, characters}
use Rattle.text.proofs.Laws.Tests.{and-true-left, and-true-right, and-true, if-cases, bool_cases}
use Rattle.text.proofs.Laws.Texts.{between-low, between-high, between-above, between-below, lower-of-other}
use Rattle.text.proofs.Laws.Characters.{characters-one, characters-two, by_characters, lead-low}
use Rattle.names.specs.Cases.{Case, Upper, Lower, Neither, case_table, case_of, lowered, is_upper_letter, lower_of, first_lower, is_upper_char}
use Rattle.names.specs.Names.{starts_word, snake_from, xml_to_snake_case}
use Rattle.names.proofs.Laws.Cases.{lower_forms, first_of, case-passes}
use Rattle.names.proofs.Laws.Names.{word-not-upper}

not_upper : Text → Bool
not_upper c = not (is_upper_char c)

unfoldable pub no_upper : Text → Bool
no_upper s = every (λ c. not (is_upper_char c)) (characters s)

is_character : Text → Bool
is_character [] = false
is_character (b ∷ []) = not (is_lead b)
is_character (b ∷ t ∷ []) = is_lead b && is_tail t
is_character (b ∷ t ∷ u ∷ s) = false

-- ---- the lower form's first character, by the table

-- it is one character
lower-characters : every (lower_forms (λ f. is_character (first_of f))) case_table ≡ true
unfolding every case_table is_character characters is_lead is_tail between
lower-characters = refl

-- it begins with no tail
head_byte : Text → Bool
head_byte s = not (is_tail (first s))

lower-heads : every (lower_forms (λ f. head_byte (first_of f))) case_table ≡ true
unfolding every case_table head_byte first characters is_lead is_tail between
lower-heads = refl

-- it is no upper letter: "the lower form of an upper letter, if itself in the table, is a lower letter"
lower-down : every (lower_forms (λ f. not_upper (first_of f))) case_table ≡ true
unfolding every case_table not_upper is_upper_char case_of characters is_lead is_tail between
lower-down = refl

-- what holds of those, and of a character of two bytes that is no upper letter, holds of its first lower form
lowered-first : (p : Text → Bool) (x : Case) (c : Text) → lower_forms (λ f. p (first_of f)) x ≡ true → (is_upper_letter x ≡ false → p (first_of c) ≡ true) → p (first_of (lowered x c)) ≡ true
unfolding lowered
lowered-first p (Upper form) c e h = e
lowered-first p (Lower form) c e h = h refl
lowered-first p Neither c e h = h refl

first-two : (p : Text → Bool) → every (lower_forms (λ f. p (first_of f))) case_table ≡ true → (b t : ℕ) → is_lead b && is_tail t ≡ true
    → (is_upper_char (b ∷ t ∷ []) ≡ false → p (b ∷ t ∷ []) ≡ true) → p (first_lower (b ∷ t ∷ [])) ≡ true
unfolding first_lower lower_of is_upper_char characters
first-two p table b t e h =
    lowered-first p (case_of b t) (b ∷ t ∷ []) (case-passes (lower_forms (λ f. p (first_of f))) table refl b t)
    (λ w. rw (characters-two b t [] e) (h w))

-- ---- a byte's lower form

lower-lead : (b : ℕ) → is_lead (lower_byte b) ≡ is_lead b
unfolding lower_byte is_lead
lower-lead b =
    if-cases (λ n. is_lead n ≡ is_lead b) (is_upper b)
    (λ u. low (b + 32) (omega (arith, between-high 65 90 b u)) ∙ sym (low b (omega (arith, between-high 65 90 b u))))
    (λ u. refl)
  where
    low : (n : ℕ) → n ≤ 193 → is_lead n ≡ false
    low n h = rw (between-below 194 197 n (omega arith), ne_eqb n 202 (λ w. omega arith), ne_eqb n 204 (λ w. omega arith), ne_eqb n 206 (λ w. omega arith))

lower-tail : (b : ℕ) → is_tail b ≡ false → is_tail (lower_byte b) ≡ false
unfolding lower_byte is_tail
lower-tail b h =
    if-cases (λ n. between 128 191 n ≡ false) (is_upper b) (λ u. between-below 128 191 (b + 32) (omega (arith, between-high 65 90 b u))) (λ u. h)

lower-no-upper : (b : ℕ) → is_upper (lower_byte b) ≡ false
unfolding lower_byte
lower-no-upper b =
    if-cases
    (λ r. is_upper r ≡ false)
    (is_upper b)
    (λ u. between-above 65 90 (b + 32) (omega (arith, between-low 65 90 b u)) ∙ lt-leb (b + 32) 90 (omega (arith, between-low 65 90 b u)))
    (λ u. u)

lead-tail : (b : ℕ) → is_lead b ≡ true → is_tail b ≡ false
unfolding is_tail
lead-tail b e = between-above 128 191 b (omega (arith, lead-low b e)) ∙ lt-leb b 191 (omega (arith, lead-low b e))

-- ---- the snake form, character by character

whole-character : (c r : Text) → is_character c ≡ true → characters (c ++ r) ≡ c ∷ characters r
unfolding is_character
whole-character [] r e = absurd (false≢true e)
whole-character (b ∷ []) r e = characters-one b r (rw (not-true (is_lead b) e))
whole-character (b ∷ t ∷ []) r e = characters-two b t r e
whole-character (b ∷ t ∷ u ∷ s) r e = absurd (false≢true e)

-- a byte of its own, whose lower form goes in front of r where it stood in front of u
own-byte : (b : ℕ) (u r : Text) → is_lead b && is_tail (first u) ≡ false → (is_tail (first u) ≡ false → is_tail (first r) ≡ false)
    → characters (lower_byte b ∷ r) ≡ (lower_byte b ∷ []) ∷ characters r
own-byte b u r e h =
    characters-one (lower_byte b) r (rw (lower-lead b) (bool_cases (is_lead b) (λ w. rw (w, h (rw w at e))) (λ w. rw w)))

first-append : (c r : Text) → is_character c ≡ true → first (c ++ r) ≡ first c
unfolding first is_character
first-append [] r e = absurd (false≢true e)
first-append (b ∷ c) r e = refl

two-character : (b t : ℕ) → is_lead b && is_tail t ≡ true → is_character (first_lower (b ∷ t ∷ [])) ≡ true
unfolding is_character
two-character b t e = first-two is_character lower-characters b t e (λ w. e)

two-head : (b t : ℕ) (r : Text) → is_lead b && is_tail t ≡ true → is_tail (first (first_lower (b ∷ t ∷ []) ++ r)) ≡ false
unfolding first head_byte
two-head b t r e =
    rw (first-append (first_lower (b ∷ t ∷ [])) r (two-character b t e))
    (not-true (is_tail (first (first_lower (b ∷ t ∷ []))))
    (first-two head_byte lower-heads b t e (λ w. ap not (lead-tail b (and-true-left (is_lead b) (is_tail t) e)))))

-- a text that begins with no tail has a snake form that begins with none
snake-head : (s prev : Text) → is_tail (first s) ≡ false → is_tail (first (snake_from prev (characters s))) ≡ false
unfolding snake_from characters first is_tail between first_lower lower_of
snake-head s =
    by_characters (λ u. (prev : Text) → is_tail (first u) ≡ false → is_tail (first (snake_from prev (characters u))) ≡ false) (λ prev k. k)
    (λ b u e h prev k. rw (characters-one b u e)
    (if-cases (λ r. is_tail (first r) ≡ false) (starts_word prev (b ∷ []) (get_or (characters u) 0 [])) (λ w. refl) (λ w. lower-tail b k)))
    (λ b t u e h prev k. rw (characters-two b t u e)
    (if-cases (λ r. is_tail (first r) ≡ false) (starts_word prev (b ∷ t ∷ []) (get_or (characters u) 0 [])) (λ w. refl) (λ w. two-head b t (snake_from (b ∷ t ∷ []) (characters u)) e)))
    s

underscore-no-upper : (s : Text) → no_upper s ≡ true → no_upper (code "_" ∷ s) ≡ true
unfolding no_upper every is_upper_char is_lead between
underscore-no-upper s e = rw (characters-one (code "_") s refl) e

snake_from-no-upper : (s prev : Text) → no_upper (snake_from prev (characters s)) ≡ true
unfolding snake_from no_upper every characters first_lower lower_of is_upper_char not_upper
snake_from-no-upper s =
    by_characters (λ u. (prev : Text) → no_upper (snake_from prev (characters u)) ≡ true) (λ prev. refl)
    (λ b u e h prev.
    let r = snake_from (b ∷ []) (characters u) in
    let rest : no_upper (lower_byte b ∷ r) ≡ true = rw (own-byte b u r e (snake-head u (b ∷ []))) (and-true (ap not (lower-no-upper b)) (h (b ∷ []))) in
    rw (characters-one b u e) (if-cases (λ r. no_upper r ≡ true) (starts_word prev (b ∷ []) (get_or (characters u) 0 [])) (λ w. underscore-no-upper (lower_byte b ∷ r) rest) (λ w. rest)))
    (λ b t u e h prev.
    let c = first_lower (b ∷ t ∷ []) in
    let r = snake_from (b ∷ t ∷ []) (characters u) in
    let rest : no_upper (c ++ r) ≡ true = rw (whole-character c r (two-character b t e)) (and-true (first-two not_upper lower-down b t e (λ w. ap not w)) (h (b ∷ t ∷ []))) in
    rw (characters-two b t u e) (if-cases (λ r. no_upper r ≡ true) (starts_word prev (b ∷ t ∷ []) (get_or (characters u) 0 [])) (λ w. underscore-no-upper (c ++ r) rest) (λ w. rest)))
    s

pub snake-no-upper : (s : Text) → no_upper (xml_to_snake_case s) ≡ true
unfolding xml_to_snake_case
snake-no-upper s = snake_from-no-upper s []

-- ---- a text without upper letters is its own snake form

lowered-same : (x : Case) (c : Text) → is_upper_letter x ≡ false → lowered x c ≡ c
unfolding lowered
lowered-same (Upper form) c e = absurd (false≢true (sym e))
lowered-same (Lower form) c e = refl
lowered-same Neither c e = refl

two-same : (b t : ℕ) → is_lead b && is_tail t ≡ true → is_upper_char (b ∷ t ∷ []) ≡ false → first_lower (b ∷ t ∷ []) ≡ b ∷ t ∷ []
unfolding first_lower lower_of is_upper_char characters
two-same b t e h = rw (lowered-same (case_of b t) (b ∷ t ∷ []) h, characters-two b t [] e)

snake_from-plain : (s prev : Text) → no_upper s ≡ true → snake_from prev (characters s) ≡ s
unfolding snake_from no_upper every characters first_lower lower_of is_upper_char
snake_from-plain s =
    by_characters (λ u. (prev : Text) → no_upper u ≡ true → snake_from prev (characters u) ≡ u) (λ prev k. refl)
    (λ b u e h prev k.
    let m = rw (characters-one b u e) at k in
    let n = not-true (is_upper_char (b ∷ [])) (and-true-left (not (is_upper_char (b ∷ []))) (no_upper u) m) in
    rw (characters-one b u e, word-not-upper prev (b ∷ []) (get_or (characters u) 0 []) n, lower-of-other b n, h (b ∷ []) (and-true-right (not (is_upper_char (b ∷ []))) (no_upper u) m)))
    (λ b t u e h prev k.
    let m = rw (characters-two b t u e) at k in
    let n = not-true (is_upper_char (b ∷ t ∷ [])) (and-true-left (not (is_upper_char (b ∷ t ∷ []))) (no_upper u) m) in
    rw (characters-two b t u e, word-not-upper prev (b ∷ t ∷ []) (get_or (characters u) 0 []) n, two-same b t e n, h (b ∷ t ∷ []) (and-true-right (not (is_upper_char (b ∷ t ∷ []))) (no_upper u) m)))
    s

pub snake-plain-text : (s : Text) → no_upper s ≡ true → xml_to_snake_case s ≡ s
unfolding xml_to_snake_case
snake-plain-text s e = snake_from-plain s [] e

pub snake-twice : (s : Text) → xml_to_snake_case (xml_to_snake_case s) ≡ xml_to_snake_case s
snake-twice s = snake-plain-text (xml_to_snake_case s) (snake-no-upper s)
