-- Two names at places i and j of a text (specs/Steps.antt of the crate `xml`), byte by byte below 128. Assumes nothing.
use Prim.Native.Nat.{ℕ, zero, suc, ◌+◌, ◌-◌, ◌≤◌, ◌<◌}
use native.Mathlib.Omega.{arith}
use native.Mathlib.Nat.{add-zero, add-suc}
use mathlib.Core.Path.{◌≡◌, refl, sym, ap, ◌∙◌}
use mathlib.Core.List.{[], ◌∷◌}
use mathlib.Core.Bool.{true, false, not, or-false}
use lib.ListN.{length, drop}
use Rattle.text.specs.Text.{Text, first, same}
use Rattle.xml.specs.Classes.{is_name, is_byte_of, is_pair_of, begins}
use Rattle.xml.specs.Steps.{leading_name}
use Rattle.xml.proofs.Laws.Names.{name_of-none, name_of-some, name_of-pair, low-no-pair, begins-place, byte-inside-text, pair-inside-text, same-byte, same-nothing, same-ended, zero-no-name}
use Rattle.xml_parts.specs.Answers.{GoesAlike}

-- the bytes at a place
abbrev pub byte-at : Text → ℕ → ℕ
byte-at s i = first (drop i s)

abbrev pub IsByte : Text → ℕ → Type 0
IsByte s i = is_byte_of is_name (byte-at s i) ≡ true

abbrev pub IsPair : Text → ℕ → Type 0
IsPair s i = is_pair_of is_name (byte-at s i) (byte-at s (suc i)) ≡ true

-- ---- one name

pub name-byte : (s : Text) (i : ℕ) → IsByte s i → length (leading_name (drop i s)) ≡ suc (length (leading_name (drop (suc i) s)))
name-byte s i e = ap (λ (t : Text). length (leading_name t)) (byte-inside-text is_name s i zero-no-name e) ∙ ap length (name_of-some (byte-at s i) (drop (suc i) s) e)

pub name-pair : (s : Text) (i : ℕ) → IsPair s i → length (leading_name (drop i s)) ≡ suc (suc (length (leading_name (drop (suc (suc i)) s))))
name-pair s i e =
    ap (λ (t : Text). length (leading_name t)) (pair-inside-text is_name s i e) ∙ ap length (name_of-pair (byte-at s i) (byte-at s (suc i)) (drop (suc (suc i)) s) e)

pub name-stops : (s : Text) (i : ℕ) → is_byte_of is_name (byte-at s i) ≡ false → is_pair_of is_name (byte-at s i) (byte-at s (suc i)) ≡ false → leading_name (drop i s) ≡ []
name-stops s i e h = name_of-none (drop i s) (begins-place is_name s i zero-no-name ∙ (rw (e, h)))

-- ---- two names

pub same-bytes : (s : Text) (i j : ℕ) → IsByte s i → byte-at s i ≡ byte-at s j
    → same (leading_name (drop i s)) (leading_name (drop j s)) ≡ same (leading_name (drop (suc i) s)) (leading_name (drop (suc j) s))
same-bytes s i j e q =
    let f : IsByte s j = ap (is_byte_of is_name) (sym q) ∙ e in
    ap (λ (t : Text). same (leading_name t) (leading_name (drop j s))) (byte-inside-text is_name s i zero-no-name e)
    ∙ ap (λ (t : Text). same (leading_name (byte-at s i ∷ drop (suc i) s)) (leading_name t)) (byte-inside-text is_name s j zero-no-name f ∙ ap (λ (b : ℕ). b ∷ drop (suc j) s) (sym q))
    ∙ same-byte (byte-at s i) (drop (suc i) s) (drop (suc j) s) e

-- the first goes on with a byte below 128 that the second does not begin with
pub differ-there : (s : Text) (i j : ℕ) → IsByte s i → (byte-at s i ≡ byte-at s j → ⊥) → same (leading_name (drop i s)) (leading_name (drop j s)) ≡ false
differ-there s i j e d =
    sym (same-ended (drop i s) (drop j s) (λ h. d, λ h q r. d q)) ∙ (rw (begins-place is_name s i zero-no-name, e))

-- the first has ended at a byte below 128, and at such a byte the second must have ended too
pub ended-there : (s : Text) (i j : ℕ) → is_byte_of is_name (byte-at s i) ≡ false → byte-at s i < 128 → byte-at s j < 128
    → not (is_byte_of is_name (byte-at s j)) ≡ same (leading_name (drop i s)) (leading_name (drop j s))
ended-there s i j e l m =
    let b : begins is_name (drop i s) ≡ false = begins-place is_name s i zero-no-name ∙ (rw (e, low-no-pair is_name (byte-at s i) (byte-at s (suc i)) l)) in
    let c : begins is_name (drop j s) ≡ is_byte_of is_name (byte-at s j) =
    begins-place is_name s j zero-no-name ∙ (rw (low-no-pair is_name (byte-at s j) (byte-at s (suc j)) m, or-false (is_byte_of is_name (byte-at s j)))) in
    sym (same-nothing (drop i s) (drop j s) b ∙ ap not c)

-- ---- two names that begin alike

pub nothing-alike : (s : Text) (a b : ℕ) → GoesAlike s a b 0
nothing-alike s a b = record { inside = (omega arith, omega arith); alike = rw (add-zero a, add-zero b) refl; ends = rw (add-zero a) (omega arith) }

one-alike : (s : Text) (a b k : ℕ) → GoesAlike s a b k → suc k ≤ length s - a → suc k ≤ length s - b → IsByte s (a + k) → byte-at s (a + k) ≡ byte-at s (b + k) → GoesAlike s a b (suc k)
one-alike s a b k g l m e q =
    let ea : a + suc k ≡ suc (a + k) = omega arith in
    let eb : b + suc k ≡ suc (b + k) = omega arith in
    record { inside = (l, m); alike = rw (ea, eb) (sym (same-bytes s (a + k) (b + k) e q) ∙ g.alike); ends = rw ea (omega (arith, name-byte s (a + k) e, g.ends)) }

-- n bytes stand alike at two places, all of them name bytes
abbrev pub BytesAlike : Text → ℕ → ℕ → ℕ → Type 0
BytesAlike s i j n = (k : ℕ) → k < n → IsByte s (i + k) × (byte-at s (i + k) ≡ byte-at s (j + k))

pub more-alike : (s : Text) (a b k n : ℕ) → GoesAlike s a b k → k + n ≤ length s - a → k + n ≤ length s - b → BytesAlike s (a + k) (b + k) n → GoesAlike s a b (k + n)
more-alike s a b k zero g l m h = rw (add-zero k) g
more-alike s a b k (suc n) g l m h =
    let ea : a + k + n ≡ a + (k + n) = omega arith in
    let eb : b + k + n ≡ b + (k + n) = omega arith in
    let here : IsByte s (a + (k + n)) × (byte-at s (a + (k + n)) ≡ byte-at s (b + (k + n))) = rw (ea, eb) at (h n (omega arith)) in
    let before = more-alike s a b k n g (omega arith) (omega arith) (λ j t. h j (omega arith)) in
    rw (add-suc k n) (one-alike s a b (k + n) before (omega arith) (omega arith) here.0 here.1)
