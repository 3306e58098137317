-- Named in docs/PORT.md. No contract cites it. Assumes nothing.
use Prim.Native.Nat.{ℕ, suc, ◌<◌}
use mathlib.Core.Path.{◌≡◌}
use lib.ListN.{length, get_or, drop}
use lib.Seq.{drop-cons}
use borrow.Author.Tests.{ne_eqb}
use Rattle.text.specs.Text.{Text}
use Rattle.program.specs.Lines.{before_first}

pub before_on : (c : ℕ) (s : Text) (i : ℕ) → i < length s → (get_or s i 0 ≡ c → ⊥) → length (before_first c (drop i s)) ≡ suc (length (before_first c (drop (suc i) s)))
unfolding before_first
before_on c s i h e = rw (drop-cons s i 0 h, ne_eqb (get_or s i 0) c e)
