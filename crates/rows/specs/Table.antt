-- What is asked of a row, as a table of tags tells it by numbers.
--     has_bit        a number as a set of places
--     set_below      the set of the places below n for which something holds
--     in_heads       a head is in a set of heads, the last of which stands for all from 31 on
--     PairsBy       which pairs are used, told by 1 and 0
use Rattle.std.specs.Prelude.{ℕ, zero, suc, ◌≡◌, ◌+◌, ◌^◌, Bool, eqb, leb, if◌then◌else◌}
use Rattle.std.specs.Int.{bit_at}
use Rattle.sheet.specs.Rows.{Ten, bit}
use Rattle.sheet.specs.Form.{row_covers}

unfoldable pub has_bit : ℕ → ℕ → Bool
has_bit set k = eqb (bit_at set k) 1

unfoldable pub set_below : (ℕ → Bool) → ℕ → ℕ
set_below f zero = 0
set_below f (suc n) = (if f n then 2 ^ n else 0) + set_below f n

unfoldable pub in_heads : ℕ → ℕ → Bool
in_heads heads head = has_bit heads (if leb head 31 then head else 31)

abbrev pub PairsBy : ℕ → ℕ → ℕ → ℕ → Ten → Bool → Type 0
PairsBy first second third k t result =
    (used_pairs : ℕ → ℕ → ℕ)
    → first ≡ bit (leb 1 (used_pairs t.tag t.a))
    → second ≡ bit (leb 2 (used_pairs t.tag t.a))
    → third ≡ bit (leb 3 (used_pairs t.tag t.a))
    → result ≡ row_covers used_pairs k t
