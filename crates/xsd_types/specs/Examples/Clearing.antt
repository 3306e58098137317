-- Clearing by computation. "Clearing gives 0 or 1." With choice 0 unless another is named. Where a buffer is long its length is computed by a law, and not by counting.
use Rattle.std.specs.Prelude.{ℕ, ◌≡◌, refl, true, false, [], ◌∷◌}
use Rattle.std.proofs.lemmas.List.{length-replicate}
use Rattle.text.specs.Unfold.{computes as texts}
use Rattle.sheet.specs.Rows.{Sheet}
use Rattle.sheet.specs.Lengths.{sheet_lengths}
use Rattle.sheet.specs.Unfold.{computes as sheets}
use Rattle.xsd_types.specs.Unfold.{computes as schemas}
use Rattle.xsd_types.specs.Clear.{Cleared, clear}
use Rattle.xsd_types.specs.Count.{good}
use Rattle.xsd_types.specs.Examples.Sheets.{line, filled_sheet, junk, blank_by, blank, answer, example_sheets}

gives : ℕ → Sheet → Cleared
gives n x = record { answer = answer n 0; sheet = x }

-- buffers of any length: neither is above its limit, or one is
clears : (r n : ℕ) → sheet_lengths r n ≡ true → (clear 0 (junk r n)).answer ≡ answer 0 0
unfolding clear junk answer
clears r n e = rw (length-replicate {A = ℕ} r 7, length-replicate {A = ℕ} n 7, e)

refuses : (r n : ℕ) → sheet_lengths r n ≡ false → clear 0 (junk r n) ≡ gives 1 (junk r n)
unfolding clear junk answer gives
refuses r n e = rw (length-replicate {A = ℕ} r 7, length-replicate {A = ℕ} n 7, e)

-- ---- 0

-- "A cleared sheet is good with two rows, tag 1 in row 1, all else zero": the smallest buffers
smallest : clear 0 (junk 20 0) ≡ gives 0 (filled_sheet 20 0 (line 0 2 0 0 0 0 0 0 0 0 ∷ line 1 0 0 0 0 0 0 0 0 0 ∷ []) "")
unfolding gives example_sheets texts sheets schemas
smallest = refl

-- the same with two rows and three bytes more
larger : clear 0 (junk 40 3) ≡ gives 0 (filled_sheet 40 3 (line 0 2 0 0 0 0 0 0 0 0 ∷ line 1 0 0 0 0 0 0 0 0 0 ∷ []) "")
unfolding gives example_sheets texts sheets schemas
larger = refl

-- order 3: the choice is "kept as the last number of row 0"
standard : clear 1 (junk 20 0) ≡ gives 0 (filled_sheet 20 0 (line 0 2 0 0 0 0 0 0 0 1 ∷ line 1 0 0 0 0 0 0 0 0 0 ∷ []) "")
unfolding gives example_sheets texts sheets schemas
standard = refl

-- "A cleared sheet is good"
smallest-good : good (blank 20 0) ≡ true
unfolding example_sheets texts sheets schemas
smallest-good = refl

larger-good : good (blank 40 3) ≡ true
unfolding example_sheets texts sheets schemas
larger-good = refl

standard-good : good (blank_by 1 40 3) ≡ true
unfolding example_sheets texts sheets schemas
standard-good = refl

-- 40,960 numbers and 65,536 bytes are not above the limits
largest : (clear 0 (junk 40960 65536)).answer ≡ answer 0 0
unfolding sheet_lengths
largest = clears 40960 65536 refl

-- ---- 1: "nothing changed"

-- "a rows length not a multiple of 10"
not-tens : clear 0 (junk 25 3) ≡ gives 1 (junk 25 3)
unfolding gives example_sheets texts sheets schemas
not-tens = refl

-- "below 20"
one-row : clear 0 (junk 10 3) ≡ gives 1 (junk 10 3)
unfolding gives example_sheets texts sheets schemas
one-row = refl

no_row : clear 0 (junk 0 0) ≡ gives 1 (junk 0 0)
unfolding gives example_sheets texts sheets schemas
no_row = refl

-- "or above 40,960"
many-rows : clear 0 (junk 40970 0) ≡ gives 1 (junk 40970 0)
unfolding sheet_lengths
many-rows = refuses 40970 0 refl

-- "names above 65,536"
many-names : clear 0 (junk 20 65537) ≡ gives 1 (junk 20 65537)
unfolding sheet_lengths
many-names = refuses 20 65537 refl

-- order 3: "1 also covers a choice above 1", alone and with bad lengths
choice-2 : clear 2 (junk 20 0) ≡ gives 1 (junk 20 0)
unfolding gives example_sheets texts sheets schemas
choice-2 = refl

choice-largest : clear 4294967295 (junk 40 3) ≡ gives 1 (junk 40 3)
unfolding gives example_sheets texts sheets schemas
choice-largest = refl

choice-2-not-tens : clear 2 (junk 25 3) ≡ gives 1 (junk 25 3)
unfolding gives example_sheets texts sheets schemas
choice-2-not-tens = refl

choice-1-not-tens : clear 1 (junk 25 3) ≡ gives 1 (junk 25 3)
unfolding gives example_sheets texts sheets schemas
choice-1-not-tens = refl
