-- What the input is, by the tests that lead to it, and that a tape lies inside it and has no more marks than there may be. Assumes nothing.
use Rattle.std.specs.Prelude.{Option, Some, None, MatchOption}
use Prim.Native.Nat.{ℕ, ◌+◌, ◌*◌, ◌≤◌, ◌<◌}
use mathlib.Core.Path.{◌≡◌}
use mathlib.Core.Bool.{Bool, true, false, ◌&&◌}
use mathlib.Core.List.{List}
use native.Mathlib.Omega.{arith}
use lib.Dec.{leb, ltb}
use lib.ListN.{length}
use borrow.Author.Tests.{leb-true, ltb-false, le-leb, lt-leb}
use Rattle.text.proofs.Laws.Tests.{and-true-left, and-true-right, or-false-right, if-cases}
use Rattle.printing.specs.Input.{number_at, too_long, input_of}
use Rattle.printing.specs.declared.Input.{Input}

-- the number at a place, where its four bytes are there
abbrev pub Read : List ℕ → ℕ → Option ℕ → Type 0
Read s at o = MatchOption o (length s < at + 4) (λ n. (at + 4 ≤ length s) × (n ≡ number_at at s))

-- whether it is past a limit
pub read-long : (s : List ℕ) (at limit : ℕ) (o : Option ℕ) (r : Bool) → Read s at o → MatchOption o (r ≡ false) (λ n. r ≡ ltb limit n) → r ≡ leb (at + 4) (length s) && ltb limit (number_at at s)
read-long s at limit None r h e = rw (lt-leb (at + 4) (length s) h) e
read-long s at limit (Some n) r h e = rw (le-leb (at + 4) (length s) h.0) (rw h.1 at e)

pub input-long : (s : List ℕ) → too_long s ≡ true → Input.TooLong ≡ input_of s
unfolding input_of
input-long s e = rw e

module _ (s : List ℕ) (t m : ℕ) (long : too_long s ≡ false) (text : t ≡ number_at 0 s) (marks : m ≡ number_at 4 s) where
  pub input-tape : (leb 8 (length s) && leb (8 + t + 4 * m) (length s)) ≡ true → Input.Tape t m ≡ input_of s
  unfolding input_of
  input-tape h = rw (long, ← text, ← marks, h)

  pub input-short : (leb 8 (length s) && leb (8 + t + 4 * m) (length s)) ≡ false → Input.Short ≡ input_of s
  unfolding input_of
  input-short h = rw (long, ← text, ← marks, h)

pub tape-inside : (s : List ℕ) (t m : ℕ) → Input.Tape t m ≡ input_of s → 8 + t ≤ length s
unfolding input_of
tape-inside s t m =
    if-cases (λ (i : Input). Input.Tape t m ≡ i → 8 + t ≤ length s) (too_long s) (λ l e. let z : ◌≡◌ {A = ℕ} 0 1 = cc in omega arith)
    (λ l. if-cases (λ (i : Input). Input.Tape t m ≡ i → 8 + t ≤ length s) (leb 8 (length s) && leb (8 + number_at 0 s + 4 * number_at 4 s) (length s))
    (λ h e. let k : t ≡ number_at 0 s = cc in omega
    (arith, leb-true (8 + number_at 0 s + 4 * number_at 4 s) (length s) (and-true-right (leb 8 (length s)) (leb (8 + number_at 0 s + 4 * number_at 4 s) (length s)) h)))
    (λ h e. let z : ◌≡◌ {A = ℕ} 0 1 = cc in omega arith))

-- of the two tests that the header is read by, the second one
pub few-marks : (s : List ℕ) → too_long s ≡ false → leb 8 (length s) ≡ true → number_at 4 s ≤ 16384
unfolding too_long
few-marks s l h = ltb-false 16384 (number_at 4 s) (rw h at (or-false-right (leb 4 (length s) && ltb 65536 (number_at 0 s)) (leb 8 (length s) && ltb 16384 (number_at 4 s)) l))

pub tape-few : (s : List ℕ) (t m : ℕ) → Input.Tape t m ≡ input_of s → m ≤ 16384
unfolding input_of
tape-few s t m =
    if-cases (λ (i : Input). Input.Tape t m ≡ i → m ≤ 16384) (too_long s) (λ l e. let z : ◌≡◌ {A = ℕ} 0 1 = cc in omega arith)
    (λ l. if-cases (λ (i : Input). Input.Tape t m ≡ i → m ≤ 16384) (leb 8 (length s) && leb (8 + number_at 0 s + 4 * number_at 4 s) (length s))
    (λ h e. let k : m ≡ number_at 4 s = cc in omega
    (arith, few-marks s l (and-true-left (leb 8 (length s)) (leb (8 + number_at 0 s + 4 * number_at 4 s) (length s)) h)))
    (λ h e. let z : ◌≡◌ {A = ℕ} 0 1 = cc in omega arith))
