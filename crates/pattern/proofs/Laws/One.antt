-- A pattern has one number, and the scan is the grammar. Assumes nothing.
use Rattle.std.specs.Prelude.{if◌then◌else◌}
use Prim.Native.Nat.{ℕ, ◌≤◌}
use mathlib.Core.Path.{◌≡◌, refl, sym, ◌∙◌}
use mathlib.Core.Bool.{Bool, true, false, false≢true}
use mathlib.Core.Logic.{◌↔◌}
use mathlib.Core.List.{[], append-nil}
use lib.Dec.{ltb}
use lib.ListN.{length}
use borrow.Author.Tests.{lt-ltb, le-ltb, ltb-true, ltb-false}
use Rattle.text.specs.Text.{Text, is_plain, first, contains, bytes}
use Rattle.text.proofs.Laws.Tests.{if-cases}
use Rattle.pattern.specs.Grammar.{is_mark, Derives, reg_exp}
use Rattle.pattern.specs.Scan.{start, go, scan, final}
use Rattle.pattern.specs.Call.{is_aside, Verdict, too_long, high_byte, left_aside, underivable, derived}
use Rattle.pattern.proofs.Laws.Sound.{scan-derived}
use Rattle.pattern.proofs.Laws.Derived.{derived-scan}

-- the number by tests alone
pub number_of : Text → ℕ
number_of s = if ltb 1024 (length s) then 1 else if is_plain s then (if is_aside s then 25 else if scan (go 0 start) s then 0 else 24) else 5

pub derived-true : (s : Text) → Derives reg_exp s → scan (go 0 start) s ≡ true
unfolding is_mark contains bytes first scan final
derived-true s k = rw append-nil at (derived-scan k 0 [] refl)

underivable-scan : (s : Text) (t : Bool) → scan (go 0 start) s ≡ t → (Derives reg_exp s → ⊥) → t ≡ false
underivable-scan s true e n = absurd (n (scan-derived s e))
underivable-scan s false e n = refl

pub pattern_number : (s : Text) (n : ℕ) → Verdict s n → n ≡ number_of s
unfolding number_of
pattern_number s n (too_long h) = rw (lt-ltb 1024 (length s) h)
pattern_number s n (high_byte l t) = rw (le-ltb 1024 (length s) l, t)
pattern_number s n (left_aside l t a) = rw (le-ltb 1024 (length s) l, t, a)
pattern_number s n (underivable l t a k) = rw (le-ltb 1024 (length s) l, t, a, underivable-scan s (scan (go 0 start) s) refl k)
pattern_number s n (derived l t a k) = rw (le-ltb 1024 (length s) l, t, a, derived-true s k)

pattern-one : (s : Text) (n m : ℕ) → Verdict s n → Verdict s m → n ≡ m
pattern-one s n m p q = pattern_number s n p ∙ sym (pattern_number s m q)

-- .. and it has one
scanned : (s : Text) (t : Bool) → scan (go 0 start) s ≡ t → length s ≤ 1024 → is_plain s ≡ true → is_aside s ≡ false → Verdict s (if t then 0 else 24)
scanned s true e l t a = derived l t a (scan-derived s e)
scanned s false e l t a = underivable l t a (λ k. false≢true (sym e ∙ derived-true s k))

pub number-verdict : (s : Text) → Verdict s (number_of s)
unfolding number_of
number-verdict s =
    if-cases (Verdict s) (ltb 1024 (length s)) (λ h. too_long (ltb-true 1024 (length s) h)) (λ h. let l = ltb-false 1024 (length s) h in
    if-cases (Verdict s) (is_plain s) (λ t. if-cases (Verdict s) (is_aside s) (λ a. left_aside l t a) (λ a. scanned s (scan (go 0 start) s) refl l t a)) (λ t. high_byte l t))

pub verdict-one : (s : Text) → (n : ℕ) × Verdict s n × ((m : ℕ) → Verdict s m → m ≡ n)
verdict-one s = (number_of s, number-verdict s, λ m v. pattern-one s m (number_of s) v (number-verdict s))

pub scan-exactly : (s : Text) → (scan (go 0 start) s ≡ true) ↔ Derives reg_exp s
scan-exactly s = (scan-derived s, derived-true s)
