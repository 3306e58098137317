-- Reading by computation: the numbers 0, 1 and 2. Where a buffer is long its length is computed by a law, and not by counting.
use Rattle.std.specs.Prelude.{ℕ, ◌≤◌, ◌≡◌, refl, true, false, List, [], ◌∷◌, length, replicate}
use Prim.Native.String.{String}
use Rattle.std.proofs.Common.{ap, ◌∙◌, leb-true}
use Rattle.std.proofs.Math.Bool.{and-false}
use Rattle.std.proofs.lemmas.List.{length-replicate}
use Rattle.text.specs.Text.{bytes, join}
use Rattle.text.proofs.Laws.Tests.{and-true}
use Rattle.sheet.specs.Rows.{Sheet}
use Rattle.sheet.specs.Lengths.{sheet_lengths, tape_lengths, lengths_of, good_lengths}
use Rattle.sheet.proofs.Laws.Numbers.{length-filled}
use Rattle.xsd_types.specs.State.{first_state}
use Rattle.xsd_types.specs.Clear.{clear}
use Rattle.xsd_types.specs.Examples.Sheets.{line, no_namespace, filled_sheet, junk, blank, blank_by, answer}
use Rattle.xsd_types.proofs.Laws.Clear.{clear-sheet, good-clear, first_fits}
use Rattle.xsd_types.proofs.Laws.Count.{length-sheet_of}
use Rattle.xsd_parser.specs.Read.{read, refused_at, sheet_of_reading, read_state, read_records}
use Rattle.xsd_parser.specs.Tape.{records, records_from}
use Rattle.xsd_parser.specs.Examples.Tapes.{schema, reads, read_gives, taped}

-- ---- buffers of any length

-- a text of n bytes over the smallest sheet, where n is not above the limit
text-read : (n : ℕ) → tape_lengths n 0 ≡ true → read (blank 20 0) (replicate n 200) [] ≡ read_gives 0 0 (blank 20 0)
unfolding taped
text-read n e = rw (length-replicate {A = ℕ} n 200, e)

-- a text of n bytes over any sheet, where n is above it
text-refused : (x : Sheet) (n : ℕ) → tape_lengths n 0 ≡ false → read x (replicate n 0) [] ≡ read_gives 1 0 x
unfolding read refused_at read_gives answer
text-refused x n e = rw (length-replicate {A = ℕ} n 0, e, and-false (good_lengths (lengths_of x)))

-- a cleared sheet of r numbers and n bytes, where neither is above its limit
cleared-read : (x : Sheet) → sheet_lengths (length x.rows) (length x.names) ≡ true → (read (clear 0 x).sheet [] []).answer ≡ answer 0 0
unfolding read good_lengths lengths_of tape_lengths sheet_of_reading read_state records records_from read_records answer
cleared-read x e =
    let c = and-true e refl in
    let made = length-sheet_of (first_state false) (length x.rows) (length x.names) (first_fits false (length x.rows) (length x.names) e) in
    let rows = ap (λ (s : Sheet). length s.rows) (clear-sheet 0 x c) ∙ made.0 in
    let names = ap (λ (s : Sheet). length s.names) (clear-sheet 0 x c) ∙ made.1 in
    rw (rows, names, e, good-clear 0 x c)

blank-read : (r n : ℕ) → sheet_lengths r n ≡ true → (read (blank r n) [] []).answer ≡ answer 0 0
unfolding blank blank_by junk
blank-read r n e = cleared-read (junk r n) (rw (length-replicate {A = ℕ} r 7, length-replicate {A = ℕ} n 7) e)

-- a sheet of r numbers and n bytes, where one is above its limit
sheet-refused : (r n : ℕ) (rows : List (List ℕ)) (names : String) → length (join rows) ≤ r → length (bytes names) ≤ n
    → sheet_lengths r n ≡ false → read (filled_sheet r n rows names) [] [] ≡ read_gives 1 0 (filled_sheet r n rows names)
unfolding read good_lengths lengths_of refused_at read_gives answer filled_sheet
sheet-refused r n rows names hr hn e = rw (length-filled r (join rows) hr, length-filled n (bytes names) hn, e)

-- ---- 0: "accepted; place is events read"

-- no event: the sheet is unchanged (T7)
no-event : reads (blank 20 0) [] ≡ read_gives 0 0 (blank 20 0)
unfolding taped
no-event = refl

-- also with 1,000,000 events done: 8 needs an event (T7)
no-event-million :
    reads (filled_sheet 20 0 (line 0 2 0 0 0 0 1000000 0 0 0 ∷ no_namespace ∷ []) "") []
    ≡ read_gives 0 0 (filled_sheet 20 0 (line 0 2 0 0 0 0 1000000 0 0 0 ∷ no_namespace ∷ []) "")
unfolding taped
no-event-million = refl

-- "Text at most 65,536 bytes"; bytes under no pair may be anything
longest-text : read (blank 20 0) (replicate 65536 200) [] ≡ read_gives 0 0 (blank 20 0)
unfolding tape_lengths
longest-text = text-read 65536 refl

text-one-less : read (blank 20 0) (replicate 65535 200) [] ≡ read_gives 0 0 (blank 20 0)
unfolding tape_lengths
text-one-less = text-read 65535 refl

-- "marks at most 16,384 numbers": so many are judged, and refused only by their kind
longest-marks : read (blank 20 0) [] (replicate 16384 9) ≡ read_gives 3 0 (blank 20 0)
unfolding taped
longest-marks = refl

marks-one-less : read (blank 20 0) [] (replicate 16383 9) ≡ read_gives 3 0 (blank 20 0)
unfolding taped
marks-one-less = refl

-- rows of 40,960 numbers and names of 65,536 bytes
largest-sheet : (read (blank 40960 65536) [] []).answer ≡ answer 0 0
unfolding sheet_lengths
largest-sheet = blank-read 40960 65536 refl

-- one row and one byte less
sheet-one-less : (read (blank 40950 65535) [] []).answer ≡ answer 0 0
unfolding sheet_lengths
sheet-one-less = blank-read 40950 65535 refl

-- ---- 1: "nothing changed"

-- "a rows length not a multiple of 10"
not-tens :
    read (filled_sheet 25 0 (line 0 2 0 0 0 0 0 0 0 0 ∷ no_namespace ∷ []) "") [] []
    ≡ read_gives 1 0 (filled_sheet 25 0 (line 0 2 0 0 0 0 0 0 0 0 ∷ no_namespace ∷ []) "")
unfolding taped
not-tens = refl

-- "below 20"
one-row : read (filled_sheet 10 0 (line 0 1 0 0 0 0 0 0 0 0 ∷ []) "") [] [] ≡ read_gives 1 0 (filled_sheet 10 0 (line 0 1 0 0 0 0 0 0 0 0 ∷ []) "")
unfolding taped
one-row = refl

-- no rows at all
no_rows : read (junk 0 0) [] [] ≡ read_gives 1 0 (junk 0 0)
unfolding taped
no_rows = refl

-- "or above 40,960"
many-rows :
    read (filled_sheet 40970 0 (line 0 2 0 0 0 0 0 0 0 0 ∷ no_namespace ∷ []) "") [] []
    ≡ read_gives 1 0 (filled_sheet 40970 0 (line 0 2 0 0 0 0 0 0 0 0 ∷ no_namespace ∷ []) "")
unfolding taped
many-rows = sheet-refused 40970 0 (line 0 2 0 0 0 0 0 0 0 0 ∷ no_namespace ∷ []) "" (leb-true 20 40970 refl) (leb-true 0 0 refl) refl

-- "names above 65,536"
many-names :
    read (filled_sheet 20 65537 (line 0 2 0 0 0 0 0 0 0 0 ∷ no_namespace ∷ []) "") [] []
    ≡ read_gives 1 0 (filled_sheet 20 65537 (line 0 2 0 0 0 0 0 0 0 0 ∷ no_namespace ∷ []) "")
unfolding taped
many-names = sheet-refused 20 65537 (line 0 2 0 0 0 0 0 0 0 0 ∷ no_namespace ∷ []) "" (leb-true 20 20 refl) (leb-true 0 65537 refl) refl

-- "tape buffers too long": text
long-text : read (blank 20 0) (replicate 65537 0) [] ≡ read_gives 1 0 (blank 20 0)
unfolding tape_lengths
long-text = text-refused (blank 20 0) 65537 refl

-- marks
long-marks : read (blank 20 0) [] (replicate 16385 0) ≡ read_gives 1 0 (blank 20 0)
unfolding taped
long-marks = refl

-- 1 comes before 2: a text too long over a bad sheet
long-text-bad-sheet : read (junk 20 0) (replicate 65537 0) [] ≡ read_gives 1 0 (junk 20 0)
unfolding tape_lengths
long-text-bad-sheet = text-refused (junk 20 0) 65537 refl

-- ---- 2: "schema sheet not good", "nothing changed"

-- a sheet that was never cleared
never-cleared : reads (filled_sheet 40 6 [] "") (schema ∷ []) ≡ read_gives 2 0 (filled_sheet 40 6 [] "")
unfolding taped
never-cleared = refl

-- an empty piece over a bad sheet (T7)
empty-piece-bad-sheet : reads (junk 20 0) [] ≡ read_gives 2 0 (junk 20 0)
unfolding taped
empty-piece-bad-sheet = refl

-- 2 comes before 3
kind-0-bad-sheet : read (junk 20 0) [] (0 ∷ 0 ∷ []) ≡ read_gives 2 0 (junk 20 0)
unfolding taped
kind-0-bad-sheet = refl
