-- Numbers by computation, the ones that a careless reading of order 2 would take or lose: "Part 2 collapses white space around these types and admits `-0`";
-- "a minus only before zeros"; "`+` alone is still 10".
use Rattle.std.specs.Prelude.{◌≡◌, refl}
use Rattle.text.specs.Text.{bytes}
use Rattle.text.specs.Unfold.{computes as texts}
use Rattle.number.specs.Number.{parsed, refused, number}
use Rattle.number.specs.Unfold.{computes as numbers}

-- white space around digits, and around minus zeros, inside neither
around : (number 32 (bytes " 35 ") ≡ parsed 35) × (number 32 (bytes " -00 ") ≡ parsed 0) × (number 32 (bytes "- 0") ≡ refused 10) × (number 32 (bytes "3 5") ≡ refused 10)
unfolding texts numbers
around = (refl, refl, refl, refl)

-- one sign at most, a minus before zeros alone
signs : (number 32 (bytes "+7") ≡ parsed 7) × (number 32 (bytes "+-0") ≡ refused 10) × (number 32 (bytes "-+0") ≡ refused 10)
    × (number 32 (bytes "-7") ≡ refused 10) × (number 32 (bytes "+") ≡ refused 10)
    × (number 32 (bytes "-") ≡ refused 10)
unfolding texts numbers
signs = (refl, refl, refl, refl, refl, refl)

-- the largest value of each width is taken, the next is not
largest : (number 32 (bytes "4294967295") ≡ parsed 4294967295) × (number 32 (bytes "4294967296") ≡ refused 10)
    × (number 64 (bytes "18446744073709551615") ≡ parsed 18446744073709551615) × (number 64 (bytes "18446744073709551616") ≡ refused 10)
unfolding texts numbers
largest = (refl, refl, refl, refl)
