-- References (specs/Grammar.antt, [66] to [68]), both ways, and that the bytes of a reference behind its `&` are plain bytes of text and of values. Assumes
-- nothing.
use Prim.Native.Nat.{ℕ, ◌+◌, ◌-◌, ◌*◌, ◌<◌}
use mathlib.Core.Path.{◌≡◌, refl, sym, ap, ◌∙◌}
use mathlib.Core.List.{[], ◌∷◌, ◌++◌, append_assoc}
use mathlib.Core.Bool.{Bool, true, false, not, ◌&&◌, false≢true}
use native.Mathlib.Omega.{arith}
use lib.Dec.{eqb, ltb}
use lib.ListN.{length, drop}
use borrow.Author.Tests.{eqb-true, lt-ltb, not-true, ltb-true}
use Rattle.text.specs.Text.{Text, bytes, every, between, is_digit}
use Rattle.std.proofs.lemmas.Bool.{and_parts}
use Rattle.text.proofs.Laws.Tests.{bool_cases, and-true, four}
use Rattle.text.proofs.Laws.Texts.{between-low, between-high}
use Rattle.text.proofs.Laws.Every.{every-append-true, every-weaken}
use Rattle.xml.specs.Classes.{is_char, is_letter, is_name_start, is_name, is_byte_of, begins}
use Rattle.xml.specs.Steps.{starts_with, leading_name}
use Rattle.xml.specs.Grammar.{digit_of, Run, run, is_hex_digit, number_of, decimal, hex, amp, lt, gt, apos, quot, entity, Reference, entity_ref, char_ref}
use Rattle.xml.specs.Values.{is_number, is_entity, is_reference, is_quote, is_in_text, is_in_value}
use Rattle.xml.proofs.Laws.Grammar.Basics.{class-in, word-starts, regroup, name-made}

-- a digit of a base
digit-decimal : (b : ℕ) → is_digit b ≡ true → digit_of b < 10
unfolding digit_of
digit-decimal b h = rw h (omega (arith, between-low 48 57 b h, between-high 48 57 b h))

decimal_digit : (b : ℕ) → ltb (digit_of b) 10 ≡ true → is_digit b ≡ true
unfolding digit_of
decimal_digit b h =
    bool_cases (is_digit b) (λ y. y)
    (λ y. bool_cases (between 97 102 b)
    (λ z. let k : b - 87 < 10 = ltb-true (b - 87) 10 (rw (y, z) at h) in let l = between-low 97 102 b z in absurd (omega arith))
    (λ z. bool_cases (between 65 70 b)
    (λ x. let k : b - 55 < 10 = ltb-true (b - 55) 10 (rw (y, z, x) at h) in let l = between-low 65 70 b x in absurd (omega arith))
    (λ x. let k : 16 < 10 = ltb-true 16 10 (rw (y, z, x) at h) in absurd (omega arith))))

digit-hex : (b : ℕ) → is_hex_digit b ≡ true → digit_of b < 16
unfolding digit_of is_hex_digit
digit-hex b h =
    bool_cases (is_digit b) (λ y. rw y (omega (arith, between-high 48 57 b y)))
    (λ y. bool_cases (between 97 102 b)
    (λ z. rw (y, z) (omega (arith, between-high 97 102 b z)))
    (λ z. bool_cases (between 65 70 b)
    (λ x. rw (y, z, x) (omega (arith, between-high 65 70 b x)))
    (λ x. absurd (false≢true (rw (y, z, x) at h)))))

hex-digit : (b : ℕ) → ltb (digit_of b) 16 ≡ true → is_hex_digit b ≡ true
unfolding digit_of is_hex_digit
hex-digit b h =
    bool_cases (is_digit b) (λ y. rw y)
    (λ y. bool_cases (between 97 102 b)
    (λ z. rw (y, z))
    (λ z. bool_cases (between 65 70 b)
    (λ x. rw (y, z, x))
    (λ x. let k : 16 < 16 = ltb-true 16 16 (rw (y, z, x) at h) in absurd (omega arith))))

-- digits and a semicolon, with the number so far
number-sound : (base v : ℕ) (p : ℕ → Bool) → ((b : ℕ) → ltb (digit_of b) base ≡ true → p b ≡ true) → (s : Text) → is_number base v s ≡ true
    → (d : Text) × (r : Text) × (every p d ≡ true) × (is_char (number_of base v d) ≡ true) × (s ≡ d ++ (59 ∷ r))
unfolding is_number number_of every
number-sound base v p k [] h = absurd (false≢true h)
number-sound base v p k (b ∷ s) h =
    bool_cases (eqb b 59)
    (λ y. ([], s, refl, rw y at h, rw (eqb-true b 59 y)))
    (λ y.
    let g = rw y at h in
    bool_cases (ltb (digit_of b) base)
    (λ z.
    let i = number-sound base (v * base + digit_of b) p k s (rw z at g) in
    (b ∷ i.0, i.1, rw (k b z) i.2, i.3, ap (λ (t : Text). b ∷ t) i.4))
    (λ z. absurd (false≢true (rw z at g))))

number-complete : (base v : ℕ) (p : ℕ → Bool) → ((b : ℕ) → p b ≡ true → digit_of b < base) → ((b : ℕ) → p b ≡ true → eqb b 59 ≡ false) → (d r : Text) → every p d ≡ true
    → is_number base v (d ++ (59 ∷ r)) ≡ is_char (number_of base v d)
unfolding is_number number_of every
number-complete base v p k n [] r h = refl
number-complete base v p k n (b ∷ d) r h =
    let t = and_parts (p b) (every p d) h in
    rw (n b t.0, lt-ltb (digit_of b) base (k b t.0)) (number-complete base (v * base + digit_of b) p k n d r t.1)

zero-no-char : is_char 0 ≡ false
unfolding is_char between
zero-no-char = refl

some-digits : (base : ℕ) (p : ℕ → Bool) (d : Text) → every p d ≡ true → is_char (number_of base 0 d) ≡ true → Run p p d
unfolding every number_of
some-digits base p [] h c = absurd (false≢true (sym zero-no-char ∙ c))
some-digits base p (b ∷ d) h c = let t = and_parts (p b) (every p d) h in run t.0 t.1

-- [68]: the five entities
entity-split : (w s : Text) → Reference w → starts_with w s ≡ true → (v : Text) × (r : Text) × Reference v × (s ≡ v ++ r)
entity-split w s d h = (w, drop (length w) s, d, word-starts w s h)

entity-sound : (s : Text) → is_entity s ≡ true → (v : Text) × (r : Text) × Reference v × (s ≡ v ++ r)
unfolding is_entity bytes begins is_byte_of leading_name is_name_start is_name is_letter between every
entity-sound s h =
    bool_cases (starts_with (bytes "&amp;") s) (λ y. entity-split (bytes "&amp;") s (entity_ref (entity (name-made (bytes "amp") refl) amp)) y)
    (λ y. bool_cases (starts_with (bytes "&lt;") s) (λ z. entity-split (bytes "&lt;") s (entity_ref (entity (name-made (bytes "lt") refl) lt)) z)
    (λ z. bool_cases (starts_with (bytes "&gt;") s) (λ x. entity-split (bytes "&gt;") s (entity_ref (entity (name-made (bytes "gt") refl) gt)) x)
    (λ x. bool_cases (starts_with (bytes "&apos;") s) (λ w. entity-split (bytes "&apos;") s (entity_ref (entity (name-made (bytes "apos") refl) apos)) w)
    (λ w. bool_cases (starts_with (bytes "&quot;") s) (λ u. entity-split (bytes "&quot;") s (entity_ref (entity (name-made (bytes "quot") refl) quot)) u)
    (λ u. absurd (false≢true (rw (y, z, x, w, u) at h)))))))

-- [67]
pub reference-sound : (s : Text) → is_reference s ≡ true → (v : Text) × (r : Text) × Reference v × (s ≡ v ++ r)
unfolding is_reference bytes
reference-sound s h =
    bool_cases (starts_with (bytes "&#x") s)
    (λ y.
    let n = number-sound 16 0 is_hex_digit hex-digit (drop 3 s) (rw y at h) in (
      bytes "&#x" ++ (n.0 ++ bytes ";"),
      n.1,
      char_ref (hex (some-digits 16 is_hex_digit n.0 n.2 n.3) n.3),
      word-starts (bytes "&#x") s y ∙ ap (λ (t : Text). bytes "&#x" ++ t) n.4 ∙ sym (regroup (bytes "&#x") n.0 (bytes ";") n.1),
    ))
    (λ y.
    let g = rw y at h in
    bool_cases (starts_with (bytes "&#") s)
    (λ z.
    let n = number-sound 10 0 is_digit decimal_digit (drop 2 s) (rw z at g) in (
      bytes "&#" ++ (n.0 ++ bytes ";"),
      n.1,
      char_ref (decimal (some-digits 10 is_digit n.0 n.2 n.3) n.3),
      word-starts (bytes "&#") s z ∙ ap (λ (t : Text). bytes "&#" ++ t) n.4 ∙ sym (regroup (bytes "&#") n.0 (bytes ";") n.1),
    ))
    (λ z. entity-sound s (rw z at g)))

-- the classes of a reference's bytes
hex-small : (b : ℕ) → is_hex_digit b ≡ true → b < 128
unfolding is_hex_digit
hex-small b h =
    bool_cases (is_digit b) (λ y. omega (arith, between-high 48 57 b y))
    (λ y. bool_cases (between 97 102 b) (λ z. omega (arith, between-high 97 102 b z))
    (λ z. bool_cases (between 65 70 b) (λ x. omega (arith, between-high 65 70 b x)) (λ x. absurd (false≢true (rw (y, z, x) at h)))))

digit-hex-digit : (b : ℕ) → is_digit b ≡ true → is_hex_digit b ≡ true
unfolding is_hex_digit
digit-hex-digit b h = rw h

is_in_reference : ℕ → Bool
is_in_reference b = is_in_text b && is_in_value b && not (eqb b 120) && not (eqb b 59)

hex-in : (b : ℕ) → is_hex_digit b ≡ true → is_in_reference b ≡ true
unfolding is_hex_digit is_in_reference is_in_text is_in_value is_quote is_char between
hex-in b h = class-in is_hex_digit is_in_reference refl b (hex-small b h) h

in_parts : (b : ℕ) → is_in_reference b ≡ true → (is_in_text b ≡ true) × (is_in_value b ≡ true) × (eqb b 120 ≡ false) × (eqb b 59 ≡ false)
unfolding is_in_reference
in_parts b h =
    let f = four (is_in_text b) (is_in_value b) (not (eqb b 120)) (not (eqb b 59)) h in
    (f.0, f.1, not-true (eqb b 120) f.2, not-true (eqb b 59) f.3)

hex-no-end : (b : ℕ) → is_hex_digit b ≡ true → eqb b 59 ≡ false
hex-no-end b h = (in_parts b (hex-in b h)).3

-- [67], the other way
run-every : (p : ℕ → Bool) {d : Text} → Run p p d → every p d ≡ true
unfolding every
run-every p (run y h) = rw y h

run-no-x : {d : Text} → Run is_digit is_digit d → (r : Text) → starts_with (120 ∷ []) (d ++ r) ≡ false
unfolding starts_with
run-no-x (run {b} y h) r = rw (in_parts b (hex-in b (digit-hex-digit b y))).2

pub reference-complete : {v : Text} → Reference v → (r : Text) → is_reference (v ++ r) ≡ true
unfolding is_reference is_entity bytes starts_with
reference-complete (entity_ref (entity n amp)) r = refl
reference-complete (entity_ref (entity n lt)) r = refl
reference-complete (entity_ref (entity n gt)) r = refl
reference-complete (entity_ref (entity n apos)) r = refl
reference-complete (entity_ref (entity n quot)) r = refl
reference-complete (char_ref (decimal {s} d c)) r =
    rw (append_assoc s (59 ∷ []) r, run-no-x d (59 ∷ r))
    (number-complete 10 0 is_digit digit-decimal (λ b h. hex-no-end b (digit-hex-digit b h)) s r (run-every is_digit d) ∙ c)
reference-complete (char_ref (hex {s} d c)) r =
    rw (append_assoc s (59 ∷ []) r)
    (number-complete 16 0 is_hex_digit digit-hex hex-no-end s r (run-every is_hex_digit d) ∙ c)

-- a reference is `&` and bytes of text and of values
unfoldable pub is_in_both : ℕ → Bool
is_in_both b = is_in_text b && is_in_value b

digits-both : (p : ℕ → Bool) → ((b : ℕ) → p b ≡ true → is_hex_digit b ≡ true) → (d : Text) → every p d ≡ true → every is_in_both (d ++ (59 ∷ [])) ≡ true
unfolding is_in_both is_in_text is_in_value is_quote is_char between every
digits-both p k d h =
    every-append-true is_in_both d (59 ∷ []) (every-weaken p is_in_both (λ b y. let f = in_parts b (hex-in b (k b y)) in and-true f.0 f.1) d h) refl

pub reference-bytes : {v : Text} → Reference v → (w : Text) × (v ≡ 38 ∷ w) × (every is_in_both w ≡ true)
unfolding is_in_both is_in_text is_in_value is_quote is_char between every bytes
reference-bytes (entity_ref (entity n amp)) = (bytes "amp;", refl, refl)
reference-bytes (entity_ref (entity n lt)) = (bytes "lt;", refl, refl)
reference-bytes (entity_ref (entity n gt)) = (bytes "gt;", refl, refl)
reference-bytes (entity_ref (entity n apos)) = (bytes "apos;", refl, refl)
reference-bytes (entity_ref (entity n quot)) = (bytes "quot;", refl, refl)
reference-bytes (char_ref (decimal {s} d c)) = (35 ∷ (s ++ (59 ∷ [])), refl, digits-both is_digit digit-hex-digit s (run-every is_digit d))
reference-bytes (char_ref (hex {s} d c)) = (35 ∷ 120 ∷ (s ++ (59 ∷ [])), refl, digits-both is_hex_digit (λ b h. h) s (run-every is_hex_digit d))
