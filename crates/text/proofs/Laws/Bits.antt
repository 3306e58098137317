-- The bits of two bytes together are below 128 where both bytes are. Assumes nothing.
use Prim.Native.Nat.{ℕ}
use mathlib.Core.Path.{◌≡◌}
use mathlib.Core.Bool.{◌&&◌}
use native.Mathlib.Omega.{arith}
use lib.Bits.{bit_or, or_lt, or_add_and, and_le_l, and_le_r}
use lib.Dec.{ltb}
use borrow.Author.Tests.{ltb-true, ltb-false, lt-ltb, le-ltb}
use Rattle.text.proofs.Laws.Tests.{bool_cases}

pub or-small : (a b : ℕ) → ltb (bit_or a b) 128 ≡ ltb a 128 && ltb b 128
or-small a b =
    bool_cases (ltb a 128)
    (λ h.
    bool_cases (ltb b 128)
    (λ k. rw (h, k, lt-ltb (bit_or a b) 128 (or_lt 7 a b (ltb-true a 128 h) (ltb-true b 128 k))))
    (λ k. rw (h, k, le-ltb (bit_or a b) 128 (omega (arith, ltb-false b 128 k, or_add_and a b, and_le_l a b)))))
    (λ h. rw (h, le-ltb (bit_or a b) 128 (omega (arith, ltb-false a 128 h, or_add_and a b, and_le_r a b))))
