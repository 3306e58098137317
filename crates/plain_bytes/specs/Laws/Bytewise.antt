-- A function of a unit and a word (specs/Words.antt) that goes byte by byte: on the word of eight bytes below 128 it gives the word of what it gives on
-- each of them. Constants, sums without a carry and the bit operations put such functions together, so those of specs/Words.antt are such. Assumes
-- nothing.
use Prim.Native.Nat.{ℕ, ◌+◌, ◌*◌, ◌^◌, ◌<◌}
use mathlib.Core.Path.{◌≡◌, refl, ap₂, ◌∙◌}
use native.Mathlib.Omega.{arith}
use lib.Dec.{lit<}
use lib.Bits.{bit_and, bit_or, bit_xor, and_block, or_block, xor_block, and_lt, or_lt, xor_lt}
use Rattle.plain_bytes.specs.Words.{word_of_bytes, ones, others, plains, stops, text_stops, value_stops, comment_stops, section_stops, one_stops}
use Rattle.plain_bytes.specs.Laws.Words.{FirstBelow, op-word, add-word, spread}

pub record Bytewise (F : ℕ → ℕ → ℕ) : Type 0 where
  pub word : (f : ℕ → ℕ) → FirstBelow 128 8 f → F ones (word_of_bytes 8 f) ≡ word_of_bytes 8 (λ k. F 1 (f k))
  pub small : (b : ℕ) → b < 128 → F 1 b < 256

itself : Bytewise (λ u x. x)
itself = record { word = λ f h. refl; small = λ b h. omega arith }

constant : (c : ℕ) → c < 256 → Bytewise (λ u x. c * u)
constant c l = record { word = λ f h. spread c; small = λ b h. omega arith }

module _ {F G : ℕ → ℕ → ℕ} (p : Bytewise F) (q : Bytewise G) where
  sum : ((b : ℕ) → b < 128 → F 1 b + G 1 b < 256) → Bytewise (λ u x. F u x + G u x)
  sum l = record { word = λ f h. ap₂ (λ (x y : ℕ). x + y) (p.word f h) (q.word f h) ∙ add-word 8 _ _; small = l }

  module _ (op : ℕ → ℕ → ℕ) (block : (k a b r s : ℕ) → r < 2 ^ k → s < 2 ^ k → op (a * 2 ^ k + r) (b * 2 ^ k + s) ≡ op a b * 2 ^ k + op r s)
      (bound : (k a b : ℕ) → a < 2 ^ k → b < 2 ^ k → op a b < 2 ^ k) (e : op 0 0 ≡ 0) where
    bits : Bytewise (λ u x. op (F u x) (G u x))
    bits = record {
      word = λ f h. ap₂ op (p.word f h) (q.word f h) ∙ op-word op block e 8 _ _ (λ k l. p.small (f k) (h k l)) (λ k l. q.small (f k) (h k l));
      small = λ b h. bound 8 _ _ (p.small b h) (q.small b h);
    }

  both : Bytewise (λ u x. bit_and (F u x) (G u x))
  both = bits bit_and and_block and_lt refl

  either : Bytewise (λ u x. bit_or (F u x) (G u x))
  either = bits bit_or or_block or_lt refl

  differing : Bytewise (λ u x. bit_xor (F u x) (G u x))
  differing = bits bit_xor xor_block xor_lt refl

plus : (c : ℕ) → c < 129 → Bytewise (λ u x. x + c * u)
plus c l = sum itself (constant c (omega arith)) (λ b h. omega arith)

others_by : (c : ℕ) → c < 128 → Bytewise (others c)
unfolding others
others_by c l =
    sum (differing itself (constant c (omega arith))) (constant 127 (lit< tt))
    (λ b h. omega (arith, xor_lt 7 b (c * 1) h (omega arith)))

plains-by : Bytewise plains
unfolding plains
plains-by = either (plus 96 (lit< tt)) (differing (plus 119 (lit< tt)) (plus 117 (lit< tt)))

stops-by : {F : ℕ → ℕ → ℕ} → Bytewise F → Bytewise (λ u x. stops u (F u x))
unfolding stops
stops-by p = differing (both p (constant 128 (lit< tt))) (constant 128 (lit< tt))

pub text-by : Bytewise text_stops
unfolding text_stops
text-by = stops-by (both (both (both (others_by 60 (lit< tt)) (others_by 38 (lit< tt))) (others_by 93 (lit< tt))) plains-by)

pub value-by : Bytewise value_stops
unfolding value_stops
value-by = stops-by (both (plus 88 (lit< tt)) (others_by 60 (lit< tt)))

pub comment-by : Bytewise comment_stops
unfolding comment_stops
comment-by = stops-by (both (others_by 45 (lit< tt)) plains-by)

pub section-by : Bytewise section_stops
unfolding section_stops
section-by = stops-by (both (others_by 93 (lit< tt)) plains-by)

pub one-by : (c : ℕ) → c < 256 → Bytewise (one_stops c)
unfolding one_stops
one-by c l = differing itself (constant c l)
