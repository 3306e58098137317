-- Laws of references, values and character data (specs/Values.antt), from place i on. Assumes nothing.
use Prim.Native.Nat.{ℕ, suc, ◌+◌, ◌*◌, ◌≤◌, ◌<◌}
use Prim.Native.Char.{code}
use mathlib.Core.Path.{◌≡◌, refl, ◌∙◌}
use mathlib.Core.List.{[], ◌∷◌}
use mathlib.Core.Logic.{⊎_elim}
use mathlib.Core.Bool.{true, false, not}
use native.Mathlib.Omega.{arith}
use lib.Dec.{eqb, ltb}
use lib.ListN.{length, get_or, drop, drop_of_length-le}
use lib.Seq.{drop-cons}
use native.Mathlib.Nat.{mul-le-mul_left}
use borrow.Author.Tests.{eqb-true, eq-eqb, ne_eqb, lt-ltb, le-ltb, lt-leb, not-true}
use Rattle.text.specs.Text.{Text, bytes, between}
use Rattle.std.proofs.lemmas.Bool.{or_cases}
use Rattle.text.proofs.Laws.Tests.{bool_cases, four, or-false-left, or-false-right}
use Rattle.text.proofs.Laws.Texts.{between-above}
use Rattle.xml.specs.Classes.{is_char}
use Rattle.xml.specs.Steps.{bad, behind, ◌and_then◌, starts_with, many}
use Rattle.xml.specs.Grammar.{digit_of}
use Rattle.xml.specs.Values.{is_number, starts_character, is_reference, value_end, is_quote, value, char_data, is_in_text, is_in_value}

-- the number of a reference
pub number-end : (base v : ℕ) (s : Text) (i : ℕ) → length s ≤ i → is_number base v (drop i s) ≡ false
unfolding is_number
number-end base v s i h = rw (drop_of_length-le s h)

pub number-stop : (base v : ℕ) (s : Text) (i : ℕ) → i < length s → get_or s i 0 ≡ code ";" → is_number base v (drop i s) ≡ is_char v
unfolding is_number
number-stop base v s i h e = rw (drop-cons s i 0 h, eq-eqb (get_or s i 0) 59 e)

pub number-wrong : (base v : ℕ) (s : Text) (i : ℕ) → i < length s → (get_or s i 0 ≡ code ";" → ⊥) → base ≤ digit_of (get_or s i 0) → is_number base v (drop i s) ≡ false
unfolding is_number
number-wrong base v s i h e d = rw (drop-cons s i 0 h, ne_eqb (get_or s i 0) 59 e, le-ltb (digit_of (get_or s i 0)) base d)

pub number-on : (base v : ℕ) (s : Text) (i : ℕ) → i < length s → (get_or s i 0 ≡ code ";" → ⊥) → digit_of (get_or s i 0) < base
    → is_number base v (drop i s) ≡ is_number base (v * base + digit_of (get_or s i 0)) (drop (suc i) s)
unfolding is_number
number-on base v s i h e d = rw (drop-cons s i 0 h, ne_eqb (get_or s i 0) 59 e, lt-ltb (digit_of (get_or s i 0)) base d)

pub past : (low high v : ℕ) → low ≤ v → high < v → between low high v ≡ false
past low high v h k = between-above low high v h ∙ lt-leb v high k

pub char-past : (v : ℕ) → 1114111 < v → is_char v ≡ false
unfolding is_char
char-past v h =
    rw (
      ne_eqb v 9 (λ (e : v ≡ 9). omega arith),
      ne_eqb v 10 (λ (e : v ≡ 10). omega arith),
      ne_eqb v 13 (λ (e : v ≡ 13). omega arith),
      past 32 55295 v (omega arith) (omega arith),
      past 57344 65533 v (omega arith) (omega arith),
      past 65536 1114111 v (omega arith) (omega arith),
    )

pub grows : (v base digit : ℕ) → 1 ≤ base → v ≤ v * base + digit
grows v base digit b = omega (arith, mul-le-mul_left v b)

pub step_fits : (v base : ℕ) → v ≤ 1114111 → base ≤ 16 → v * base ≤ 17825776
step_fits v base h b = omega (arith, mul-le-mul_left v b)

-- a number past the last code point stays past it
pub number_past : (base v : ℕ) (s : Text) → 1 ≤ base → 1114111 < v → is_number base v s ≡ false
unfolding is_number
number_past base v [] b h = refl
number_past base v (c ∷ s) b h =
    bool_cases (eqb c (code ";"))
    (λ e. rw e (char-past v h))
    (λ e.
    rw e
    (bool_cases (ltb (digit_of c) base)
    (λ d. rw d (number_past base (v * base + digit_of c) s b (omega (arith, grows v base (digit_of c) b))))
    (λ d. rw d)))

-- a value
pub value-stop : (quote : ℕ) (s : Text) (at i : ℕ) → i < length s → get_or s i 0 ≡ quote → value_end quote at (drop i s) ≡ behind (suc at) (drop (suc i) s)
unfolding value_end
value-stop quote s at i h e = rw (drop-cons s i 0 h, eq-eqb (get_or s i 0) quote e)

pub value-less : (quote : ℕ) (s : Text) (at i : ℕ) → i < length s → (get_or s i 0 ≡ quote → ⊥) → get_or s i 0 ≡ code "<" → value_end quote at (drop i s) ≡ bad
unfolding value_end
value-less quote s at i h e d = rw (drop-cons s i 0 h, ne_eqb (get_or s i 0) quote e, eq-eqb (get_or s i 0) 60 d)

pub value-wrong : (quote : ℕ) (s : Text) (at i : ℕ) → i < length s → (get_or s i 0 ≡ quote → ⊥) → (get_or s i 0 ≡ code "<" → ⊥) → starts_character (drop i s) ≡ false
    → value_end quote at (drop i s) ≡ bad
unfolding value_end
value-wrong quote s at i h e d p = rw (drop-cons s i 0 h, ne_eqb (get_or s i 0) quote e, ne_eqb (get_or s i 0) 60 d, (rw (drop-cons s i 0 h) at p))

pub value_on : (quote : ℕ) (s : Text) (at i : ℕ) → i < length s → (get_or s i 0 ≡ quote → ⊥) → (get_or s i 0 ≡ code "<" → ⊥) → starts_character (drop i s) ≡ true
    → value_end quote at (drop i s) ≡ value_end quote (suc at) (drop (suc i) s)
unfolding value_end
value_on quote s at i h e d p = rw (drop-cons s i 0 h, ne_eqb (get_or s i 0) quote e, ne_eqb (get_or s i 0) 60 d, (rw (drop-cons s i 0 h) at p))

pub value-end : (quote : ℕ) (s : Text) (at i : ℕ) → length s ≤ i → value_end quote at (drop i s) ≡ bad
unfolding value_end
value-end quote s at i h = rw (drop_of_length-le s h)

pub value-past : (s : Text) (at i : ℕ) → length s ≤ i → value at (drop i s) ≡ bad
unfolding value
value-past s at i h = rw (drop_of_length-le s h)

pub value-unquoted : (s : Text) (at i : ℕ) → i < length s → is_quote (get_or s i 0) ≡ false → value at (drop i s) ≡ bad
unfolding value
value-unquoted s at i h e = rw (drop-cons s i 0 h, e)

pub value-quoted : (s : Text) (at i : ℕ) → i < length s → is_quote (get_or s i 0) ≡ true → value at (drop i s) ≡ value_end (get_or s i 0) (suc at) (drop (suc i) s)
unfolding value
value-quoted s at i h e = rw (drop-cons s i 0 h, e)

-- a plain byte
pub plain-reference : (s : Text) (i : ℕ) → i < length s → get_or s i 0 ≡ code "&" → starts_character (drop i s) ≡ is_reference (drop i s)
unfolding starts_character
plain-reference s i h e = rw (drop-cons s i 0 h, eq-eqb (get_or s i 0) 38 e)

pub plain-char : (s : Text) (i : ℕ) → i < length s → (get_or s i 0 ≡ code "&" → ⊥) → starts_character (drop i s) ≡ is_char (get_or s i 0)
unfolding starts_character
plain-char s i h e = rw (drop-cons s i 0 h, ne_eqb (get_or s i 0) 38 e)

-- character data
pub data-less : (s : Text) (at i : ℕ) → i < length s → get_or s i 0 ≡ code "<" → char_data at (drop i s) ≡ behind at (drop i s)
unfolding char_data
data-less s at i h e = rw (drop-cons s i 0 h, eq-eqb (get_or s i 0) 60 e)

pub data-section : (s : Text) (at i : ℕ) → i < length s → (get_or s i 0 ≡ code "<" → ⊥) → starts_with (bytes "]]>") (drop i s) ≡ true → char_data at (drop i s) ≡ bad
unfolding char_data
data-section s at i h e d = rw (drop-cons s i 0 h, ne_eqb (get_or s i 0) 60 e, (rw (drop-cons s i 0 h) at d))

pub data-wrong : (s : Text) (at i : ℕ) → i < length s → (get_or s i 0 ≡ code "<" → ⊥) → starts_with (bytes "]]>") (drop i s) ≡ false → starts_character (drop i s) ≡ false
    → char_data at (drop i s) ≡ bad
unfolding char_data
data-wrong s at i h e d p = rw (drop-cons s i 0 h, ne_eqb (get_or s i 0) 60 e, (rw (drop-cons s i 0 h) at d), (rw (drop-cons s i 0 h) at p))

pub data-on : (s : Text) (at i : ℕ) → i < length s → (get_or s i 0 ≡ code "<" → ⊥) → starts_with (bytes "]]>") (drop i s) ≡ false → starts_character (drop i s) ≡ true
    → char_data at (drop i s) ≡ char_data (suc at) (drop (suc i) s)
unfolding char_data
data-on s at i h e d p = rw (drop-cons s i 0 h, ne_eqb (get_or s i 0) 60 e, (rw (drop-cons s i 0 h) at d), (rw (drop-cons s i 0 h) at p))

pub data-end : (s : Text) (at i : ℕ) → length s ≤ i → char_data at (drop i s) ≡ behind at (drop i s)
unfolding char_data
data-end s at i h = rw (drop_of_length-le s h)

-- a run of bytes that need no look ends nowhere else than the scan without it
pub other-quote : (quote b : ℕ) → is_quote quote ≡ true → is_quote b ≡ false → eqb b quote ≡ false
unfolding is_quote
other-quote quote b q n =
    ⊎_elim
    (λ e. rw (eqb-true quote 34 e) (or-false-left (eqb b 34) (eqb b 39) n))
    (λ e. rw (eqb-true quote 39 e) (or-false-right (eqb b 34) (eqb b 39) n))
    (or_cases (eqb quote 34) (eqb quote 39) q)

pub in-value : (quote b at : ℕ) (s : Text) → is_quote quote ≡ true → is_in_value b ≡ true → value_end quote at (b ∷ s) ≡ value_end quote (suc at) s
unfolding is_in_value value_end starts_character
in-value quote b at s q h =
    let f = four (is_char b) (not (eqb b 60)) (not (eqb b 38)) (not (is_quote b)) h in
    rw (other-quote quote b q (not-true (is_quote b) f.3), not-true (eqb b 60) f.1, not-true (eqb b 38) f.2, f.0)

pub value-run : (quote : ℕ) → is_quote quote ≡ true → (at : ℕ) (s : Text) → value_end quote at s ≡ many is_in_value at s and_then value_end quote
unfolding many
value-run quote q at [] = refl
value-run quote q at (b ∷ s) = bool_cases (is_in_value b) (λ e. rw e (in-value quote b at s q e ∙ value-run quote q (suc at) s)) (λ e. rw e)

pub in-data : (b at : ℕ) (s : Text) → is_in_text b ≡ true → char_data at (b ∷ s) ≡ char_data (suc at) s
unfolding is_in_text char_data starts_character starts_with bytes
in-data b at s h =
    let f = four (is_char b) (not (eqb b 60)) (not (eqb b 38)) (not (eqb b 93)) h in
    rw (not-true (eqb b 60) f.1, not-true (eqb b 93) f.3, not-true (eqb b 38) f.2, f.0)

pub data-run : (at : ℕ) (s : Text) → char_data at s ≡ many is_in_text at s and_then char_data
unfolding many
data-run at [] = refl
data-run at (b ∷ s) = bool_cases (is_in_text b) (λ e. rw e (in-data b at s e ∙ data-run (suc at) s)) (λ e. rw e)
