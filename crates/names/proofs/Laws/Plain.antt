-- On texts of bytes below 128 each conversion is the one byte by byte (specs/Plain.antt), as it was before characters of two bytes were taken. Assumes nothing.
use Rattle.std.specs.Prelude.{if◌then◌else◌}
use mathlib.Core.Path.{◌≡◌, refl, ap}
use mathlib.Core.Bool.{true}
use mathlib.Core.List.{List, [], ◌∷◌, map}
use Prim.Native.Nat.{ℕ, ◌<◌}
use Prim.Native.Char.{code}
use lib.Dec.{eqb}
use lib.ListN.{get_or}
use borrow.Author.Tests.{ltb-true}
use Rattle.text.specs.Text.{Text, every, is_plain_byte, is_plain, between, is_upper, is_lower, lower_byte, contains, in_front, split, join, first}
use Rattle.text.specs.Characters.{characters}
use Rattle.text.proofs.Laws.Tests.{and-true-left, and-true-right, and-true, if-cases}
use Rattle.text.proofs.Laws.Every.{every-head, every-tail}
use Rattle.names.proofs.Laws.Characters.{one-byte}
use Rattle.names.specs.Cases.{upper_of, lower_of, first_lower, is_upper_char, is_lower_char}
use Rattle.names.specs.Names.{capital, normalize_type_name, starts_word, snake_from, xml_to_snake_case, code_to_pascal_case}
use Rattle.names.specs.Plain.{byte_capital, byte_normalize, byte_pascal, byte_starts, byte_snake_from, byte_snake}

plain-byte : (b : ℕ) (s : Text) → is_plain (b ∷ s) ≡ true → b < 128
unfolding is_plain every is_plain_byte
plain-byte b s e = ltb-true b 128 (and-true-left (is_plain_byte b) (every is_plain_byte s) e)

plain-rest : (b : ℕ) (s : Text) → is_plain (b ∷ s) ≡ true → is_plain s ≡ true
unfolding is_plain
plain-rest b s e = every-tail is_plain_byte b s e

-- ---- segments

module _ (f : Text → Text) (g : ℕ → ℕ) (same : (b : ℕ) → f (b ∷ []) ≡ g b ∷ []) where
  rest-bytes : (s : Text) → is_plain s ≡ true → join (map f (characters s)) ≡ map g s
  unfolding join characters
  rest-bytes [] e = refl
  rest-bytes (b ∷ s) e = rw (one-byte b s (plain-byte b s e), same b, rest-bytes s (plain-rest b s e))

  capital-bytes : (s : Text) → is_plain s ≡ true → capital f (characters s) ≡ byte_capital g s
  unfolding capital byte_capital characters upper_of
  capital-bytes [] e = refl
  capital-bytes (b ∷ s) e = rw (one-byte b s (plain-byte b s e), rest-bytes s (plain-rest b s e))

  each-capital : (ts : List Text) → every is_plain ts ≡ true → map (λ t. capital f (characters t)) ts ≡ map (byte_capital g) ts
  each-capital [] e = refl
  each-capital (t ∷ ts) e = rw (capital-bytes t (every-head is_plain t ts e), each-capital ts (every-tail is_plain t ts e))

front-plain : (b : ℕ) (ts : List Text) → is_plain_byte b ≡ true → every is_plain ts ≡ true → every is_plain (in_front b ts) ≡ true
unfolding every is_plain in_front
front-plain b [] h e = and-true (and-true h refl) refl
front-plain b (t ∷ ts) h e = and-true (and-true h (every-head is_plain t ts e)) (every-tail is_plain t ts e)

split-plain : (c : ℕ) (s : Text) → is_plain s ≡ true → every is_plain (split c s) ≡ true
unfolding every is_plain split
split-plain c [] e = refl
split-plain c (b ∷ s) e =
    let k = split-plain c s (and-true-right (is_plain_byte b) (every is_plain_byte s) e) in
    if-cases (λ ts. every is_plain ts ≡ true) (eqb b c) (λ w. k) (λ w. front-plain b (split c s) (and-true-left (is_plain_byte b) (every is_plain_byte s) e) k)

pub normalize-ascii : (s : Text) → is_plain s ≡ true → normalize_type_name s ≡ byte_normalize s
unfolding normalize_type_name byte_normalize
normalize-ascii s e =
    ap (λ (ts : List Text). if contains (code "_") s then join ts else s) (each-capital (λ c. c) (λ b. b) (λ b. refl) (split (code "_") s) (split-plain (code "_") s e))

pub pascal-ascii : (s : Text) → is_plain s ≡ true → code_to_pascal_case s ≡ byte_pascal s
unfolding code_to_pascal_case byte_pascal lower_of
pascal-ascii s e = ap join (each-capital lower_of lower_byte (λ b. refl) (split (code "-") s) (split-plain (code "-") s e))

-- ---- the snake form

-- the byte p is of the class of the character c
record Class (p : ℕ) (c : Text) : Type 0 where
  upper : is_upper p ≡ is_upper_char c
  lower : is_lower p ≡ is_lower_char c

next-lower : (s : Text) → is_plain s ≡ true → is_lower_char (get_or (characters s) 0 []) ≡ is_lower (first s)
unfolding characters first is_lower_char between
next-lower [] e = refl
next-lower (b ∷ s) e = rw (one-byte b s (plain-byte b s e))

starts-bytes : (p b : ℕ) (c s : Text) → Class p c → is_plain s ≡ true → starts_word c (b ∷ []) (get_or (characters s) 0 []) ≡ byte_starts p b (first s)
unfolding byte_starts starts_word is_upper_char
starts-bytes p b c s k e = rw (k.upper, k.lower, next-lower s e)

snake-bytes : (s : Text) (p : ℕ) (c : Text) → Class p c → is_plain s ≡ true → snake_from c (characters s) ≡ byte_snake_from p s
unfolding byte_snake_from snake_from characters first_lower lower_of is_upper_char is_lower_char first
snake-bytes [] p c k e = refl
snake-bytes (b ∷ s) p c k e =
    let h = plain-rest b s e in
    rw (one-byte b s (plain-byte b s e), starts-bytes p b c s k h, snake-bytes s b (b ∷ []) (record { upper = refl; lower = refl }) h)

pub snake-ascii : (s : Text) → is_plain s ≡ true → xml_to_snake_case s ≡ byte_snake s
unfolding xml_to_snake_case byte_snake is_upper_char is_lower_char between
snake-ascii s e = snake-bytes s 0 [] (record { upper = refl; lower = refl }) e
