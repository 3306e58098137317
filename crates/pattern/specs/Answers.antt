-- What the answers of the code say.
--     Goes          the scan from a place goes on at another; Ends: where a part of a pattern ends, in the terms of the scan
--     Escapes       in a mode of the scan, the byte begins an escape or no pattern goes on with it
--     is_close, is_branch_end, is_bracket  a byte that ends an expression, a branch, a class; any_byte: no test
--     ExpressionJudged  whether the whole is an expression
--     classes       the classes of each byte, a bit for each class; has_class: a byte has the bit k; class_bit: the bit of a `Class`
use Rattle.std.specs.Prelude.{ℕ, List, [], ◌∷◌, ◌≤◌, ◌<◌, ◌≡◌, Bool, true, false, ◌||◌, Option, Some, None, eqb, length, drop, get_or, if◌then◌else◌}
use Rattle.std.specs.Int.{bit_at}
use Prim.Native.Char.{code}
use Rattle.text.specs.Text.{Text}
use Rattle.pattern.specs.Grammar.{Derives, reg_exp}
use Rattle.pattern.specs.Scan.{Mode, stop, go, is_escaped, pattern_step, final, scan}
use Rattle.pattern.specs.declared.tests.Class.{Class}

-- the scan from `at` on, in the mode m, goes on at e, not before `least`, in the mode n, with the byte there under the test P
pub record Goes (s : Text) (m : Mode) (at : ℕ) (n : Mode) (least e : ℕ) (P : ℕ → Bool) : Type 0 where
  pub onward : least ≤ e
  pub within : e ≤ length s
  pub stops : e < length s → P (get_or s e 0) ≡ true
  pub reads : (d : ℕ) → scan (go d m) (drop at s) ≡ scan (go d n) (drop e s)

-- .. or no pattern goes on like this, whatever is open
abbrev pub Ends : Text → Mode → ℕ → Mode → ℕ → (ℕ → Bool) → Option ℕ → Type 0
Ends s m at n least P (Some e) = Goes s m at n least e P
Ends s m at n least P None = (d : ℕ) → scan (go d m) (drop at s) ≡ false

-- in the mode m, at the byte b: behind a backslash the mode is e, and n behind a byte that may be escaped; with another byte than a backslash no pattern goes on
pub record Escapes (m e n : Mode) (b : ℕ) : Type 0 where
  pub begins : (d : ℕ) → pattern_step (go d m) (code "\\") ≡ go d e
  pub others : (b ≡ code "\\" → ⊥) → (d : ℕ) → pattern_step (go d m) b ≡ stop
  pub goes_on : (d c : ℕ) → pattern_step (go d e) c ≡ (if is_escaped c then go d n else stop)
  pub unfinished : (d : ℕ) → final (go d e) ≡ false

unfoldable pub is_close : ℕ → Bool
is_close b = eqb b (code ")")

unfoldable pub is_branch_end : ℕ → Bool
is_branch_end b = eqb b (code "|") || eqb b (code ")")

unfoldable pub is_bracket : ℕ → Bool
is_bracket b = eqb b (code "]")

abbrev pub any_byte : ℕ → Bool
any_byte b = true

-- "Accepted means a derivation exists by the productions alone, refused that none does"
abbrev pub ExpressionJudged : Text → Bool → Type 0
ExpressionJudged s true = Derives reg_exp s
ExpressionJudged s false = Derives reg_exp s → ⊥

-- bit 0: a character that stands for itself or the dot; bit 1: what may stand in a class by itself; bit 2: what may stand behind a backslash; bit 3: a
-- quantifier of one byte
unfoldable pub classes : List ℕ
classes =
    0 ∷ 0 ∷ 0 ∷ 0 ∷ 0 ∷ 0 ∷ 0 ∷ 0 ∷ 0 ∷ 3 ∷ 3 ∷ 0 ∷ 0 ∷ 3 ∷ 0 ∷ 0 ∷ 0 ∷ 0 ∷ 0 ∷ 0 ∷ 0 ∷ 0 ∷ 0 ∷ 0 ∷ 0 ∷ 0 ∷ 0 ∷ 0 ∷ 0 ∷ 0 ∷ 0 ∷ 0 ∷
    3 ∷ 3 ∷ 3 ∷ 3 ∷ 3 ∷ 3 ∷ 3 ∷ 3 ∷ 6 ∷ 6 ∷ 14 ∷ 14 ∷ 3 ∷ 7 ∷ 7 ∷ 3 ∷ 3 ∷ 3 ∷ 3 ∷ 3 ∷ 3 ∷ 3 ∷ 3 ∷ 3 ∷ 3 ∷ 3 ∷ 3 ∷ 3 ∷ 3 ∷ 3 ∷ 3 ∷ 14 ∷
    3 ∷ 3 ∷ 3 ∷ 7 ∷ 7 ∷ 3 ∷ 3 ∷ 3 ∷ 3 ∷ 7 ∷ 3 ∷ 3 ∷ 3 ∷ 3 ∷ 3 ∷ 3 ∷ 3 ∷ 3 ∷ 3 ∷ 7 ∷ 3 ∷ 3 ∷ 3 ∷ 7 ∷ 3 ∷ 3 ∷ 3 ∷ 4 ∷ 4 ∷ 4 ∷ 7 ∷ 3 ∷
    3 ∷ 3 ∷ 3 ∷ 7 ∷ 7 ∷ 3 ∷ 3 ∷ 3 ∷ 3 ∷ 7 ∷ 3 ∷ 3 ∷ 3 ∷ 3 ∷ 7 ∷ 3 ∷ 3 ∷ 3 ∷ 7 ∷ 7 ∷ 7 ∷ 3 ∷ 3 ∷ 7 ∷ 3 ∷ 3 ∷ 3 ∷ 7 ∷ 6 ∷ 7 ∷ 3 ∷ 3 ∷
    3 ∷ 3 ∷ 3 ∷ 3 ∷ 3 ∷ 3 ∷ 3 ∷ 3 ∷ 3 ∷ 3 ∷ 3 ∷ 3 ∷ 3 ∷ 3 ∷ 3 ∷ 3 ∷ 3 ∷ 3 ∷ 3 ∷ 3 ∷ 3 ∷ 3 ∷ 3 ∷ 3 ∷ 3 ∷ 3 ∷ 3 ∷ 3 ∷ 3 ∷ 3 ∷ 3 ∷ 3 ∷
    3 ∷ 3 ∷ 3 ∷ 3 ∷ 3 ∷ 3 ∷ 3 ∷ 3 ∷ 3 ∷ 3 ∷ 3 ∷ 3 ∷ 3 ∷ 3 ∷ 3 ∷ 3 ∷ 3 ∷ 3 ∷ 3 ∷ 3 ∷ 3 ∷ 3 ∷ 3 ∷ 3 ∷ 3 ∷ 3 ∷ 3 ∷ 3 ∷ 3 ∷ 3 ∷ 3 ∷ 3 ∷
    3 ∷ 3 ∷ 3 ∷ 3 ∷ 3 ∷ 3 ∷ 3 ∷ 3 ∷ 3 ∷ 3 ∷ 3 ∷ 3 ∷ 3 ∷ 3 ∷ 3 ∷ 3 ∷ 3 ∷ 3 ∷ 3 ∷ 3 ∷ 3 ∷ 3 ∷ 3 ∷ 3 ∷ 3 ∷ 3 ∷ 3 ∷ 3 ∷ 3 ∷ 3 ∷ 3 ∷ 3 ∷
    3 ∷ 3 ∷ 3 ∷ 3 ∷ 3 ∷ 3 ∷ 3 ∷ 3 ∷ 3 ∷ 3 ∷ 3 ∷ 3 ∷ 3 ∷ 3 ∷ 3 ∷ 3 ∷ 3 ∷ 3 ∷ 3 ∷ 3 ∷ 3 ∷ 3 ∷ 3 ∷ 3 ∷ 3 ∷ 3 ∷ 3 ∷ 3 ∷ 3 ∷ 3 ∷ 3 ∷ 3 ∷ []

unfoldable pub has_class : ℕ → ℕ → Bool
has_class k b = eqb (bit_at (get_or classes b 0) k) 1

abbrev pub class_bit : Class → ℕ
class_bit Class.Plain = 0
class_bit Class.InClass = 1
class_bit Class.Escaped = 2
class_bit Class.Mark = 3
