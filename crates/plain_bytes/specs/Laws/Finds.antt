-- The stops of a word leave no byte that is not of the run: what they say of one byte is a test that antt computes at all bytes below 128, and a word's
-- stops go byte by byte. Assumes nothing.
use Prim.Native.Nat.{ℕ, ◌<◌}
use mathlib.Core.Path.{◌≡◌, refl}
use mathlib.Core.Bool.{Bool, true, not, ◌||◌}
use borrow.Author.Tests.{eq-eqb}
use lib.Dec.{eqb, lit<}
use Rattle.text.specs.Text.{between}
use Rattle.text.proofs.Laws.Table.{passes, at}
use Rattle.plain_bytes.specs.Scan.{is_text_run, is_value_run, is_comment_run, is_section_run, is_one}
use Rattle.plain_bytes.specs.Words.{others, plains, stops, text_stops, value_stops, comment_stops, section_stops, one_stops}
use Rattle.plain_bytes.specs.Laws.Bytewise.{Bytewise, text-by, value-by, comment-by, section-by, one-by}

-- where f is 0 the test p passes
abbrev pub zero_then : (ℕ → ℕ) → (ℕ → Bool) → ℕ → Bool
zero_then f p b = not (eqb (f b) 0) || p b

pub zero-then : (f : ℕ → ℕ) (p : ℕ → Bool) (n : ℕ) → passes (zero_then f p) n ≡ true → (b : ℕ) → b < n → f b ≡ 0 → p b ≡ true
zero-then f p n t b l e = rw (eq-eqb (f b) 0 e) at (at (zero_then f p) n t b l)

-- the stops F leave no byte that is not of the run p
pub record Finds (F : ℕ → ℕ → ℕ) (p : ℕ → Bool) : Type 0 where
  pub bytewise : Bytewise F
  pub sound : passes (zero_then (F 1) p) 128 ≡ true

pub text-finds : Finds text_stops is_text_run
unfolding text_stops others plains stops is_text_run between
text-finds = record { bytewise = text-by; sound = refl }

pub value-finds : Finds value_stops is_value_run
unfolding value_stops others stops is_value_run between
value-finds = record { bytewise = value-by; sound = refl }

pub comment-finds : Finds comment_stops is_comment_run
unfolding comment_stops others plains stops is_comment_run between
comment-finds = record { bytewise = comment-by; sound = refl }

pub section-finds : Finds section_stops is_section_run
unfolding section_stops others plains stops is_section_run between
section-finds = record { bytewise = section-by; sound = refl }

pub space-finds : Finds (one_stops 32) (is_one 32)
unfolding one_stops is_one
space-finds = record { bytewise = one-by 32 (lit< tt); sound = refl }

pub tab-finds : Finds (one_stops 9) (is_one 9)
unfolding one_stops is_one
tab-finds = record { bytewise = one-by 9 (lit< tt); sound = refl }
