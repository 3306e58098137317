-- `xml_parts::values::digit_of` meets its contract: a test that antt computes at all 256 bytes. Assumes nothing.
use borrow.Author.Rules.{rules}
use Prim.Native.Nat.{ℕ, ◌<◌}
use mathlib.Core.Path.{◌≡◌, refl, ◌∙◌}
use mathlib.Core.Bool.{cond}
use borrow.Author.Tests.{eqb-true, lt-ltb, ltb-true}
use lib.Dec.{eqb, ltb}
use Rattle.std.specs.Char.{digit_value}
use Rattle.std.specs.Option.{SomeIff, unwrap_or}
use Rattle.std.specs.Prelude.{Option, Some, None}
use Rattle.text.specs.Text.{between}
use Rattle.text.proofs.Laws.Table.{at}
use Rattle.text.proofs.Laws.Tests.{bool_cases}
use Rattle.xml.specs.Grammar.{digit_of}
use Rattle.xml_parts.proofs.values.digit_of.Goals as goal

value : (b : ℕ) → b < 256 → cond (ltb (digit_value b) 16) (digit_value b) 16 ≡ digit_of b
unfolding digit_of between
value b h = eqb-true _ _ (at (λ (k : ℕ). eqb (cond (ltb (digit_value k) 16) (digit_value k) 16) (digit_of k)) 256 refl b h)

digit : (r : Option ℕ) (d v : ℕ) → SomeIff r (d < 16) d → cond (ltb d 16) d 16 ≡ v → unwrap_or r 16 ≡ v
digit (Some x) d v e h = e.1 ∙ (rw (lt-ltb d 16 e.0) at h)
digit None d v e h = bool_cases (ltb d 16) (λ t. absurd (e (ltb-true d 16 t))) (λ t. rw t at h)

pub returns : goal.returns
returns c = digit c.to_digit.result (digit_value c.args.b) (digit_of c.args.b) (rw c.from.ensures at c.to_digit.ensures.value) (value c.args.b (search rules))
