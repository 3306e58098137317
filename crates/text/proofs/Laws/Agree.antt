-- Two tests that agree at all 256 bytes, by one test that antt computes. Assumes nothing.
use Prim.Native.Nat.{ℕ, ◌<◌}
use mathlib.Core.Path.{◌≡◌, sym}
use mathlib.Core.Bool.{Bool, true, false, not}
use borrow.Author.Tests.{not-true}
use Rattle.text.proofs.Laws.Table.{passes, at}

-- two tests say the same
abbrev pub agree : Bool → Bool → Bool
agree true b = b
agree false b = not b

pub agree-eq : (a b : Bool) → agree a b ≡ true → a ≡ b
agree-eq true b e = sym e
agree-eq false b e = sym (not-true b e)

pub same_bytes : (p q : ℕ → Bool) → passes (λ (k : ℕ). agree (p k) (q k)) 256 ≡ true → (b : ℕ) → b < 256 → p b ≡ q b
same_bytes p q e b h = agree-eq (p b) (q b) (at (λ (k : ℕ). agree (p k) (q k)) 256 e b h)
