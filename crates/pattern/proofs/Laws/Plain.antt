-- What `is_ascii` of a pattern answers, in the words of its definition. Assumes nothing.
use Prim.Native.Nat.{ℕ, ◌<◌, ◌≤◌}
use native.Mathlib.Omega.{arith}
use mathlib.Core.Path.{◌≡◌, refl, sym, ◌∙◌}
use mathlib.Core.Bool.{Bool, true, false}
use lib.Dec.{ltb}
use lib.ListN.{length, get_or}
use borrow.Author.Tests.{ltb-true, ltb-false, lt-ltb, le-ltb}
use Rattle.std.specs.Bool.{MatchBool}
use Rattle.std.specs.Str.{IsAscii, IsNotAscii}
use Rattle.std.proofs.lemmas.List.{get_or_past}
use Rattle.std.proofs.lemmas.List.Recursion.{and_from_places, and_fails_at}
use Rattle.text.specs.Text.{Text, every, is_plain, is_plain_byte}
use Rattle.text.proofs.Laws.Tests.{bool_cases}

inside : (s : Text) (i : ℕ) → 128 ≤ get_or s i 0 → i < length s
inside s i h = bool_cases (ltb i (length s)) (λ t. ltb-true i (length s) t) (λ t. absurd (omega (arith, get_or_past s i 0 (ltb-false i (length s) t))))

plain_is : (s : Text) (r : Bool) → MatchBool r (IsAscii s) (IsNotAscii s) → r ≡ is_plain s
unfolding is_plain every is_plain_byte
plain_is s true low = sym (and_from_places is_plain is_plain_byte refl (λ b t. refl) s 0 (λ i h. lt-ltb _ _ (low i)))
plain_is s false (i, high) = sym (and_fails_at is_plain is_plain_byte refl (λ b t. refl) s i 0 (inside s i high) (le-ltb _ 128 high))

-- the same, where it is known what was answered
pub plain_told : (s : Text) (r t : Bool) → MatchBool r (IsAscii s) (IsNotAscii s) → r ≡ t → is_plain s ≡ t
plain_told s r t cases e = sym (plain_is s r cases) ∙ e
