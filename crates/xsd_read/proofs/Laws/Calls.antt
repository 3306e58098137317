-- The reading call by its three ways: 1, 2, or the reading of a good sheet. Assumes nothing.
use Prim.Native.Nat.{ℕ, ◌%◌}
use mathlib.Core.Path.{◌≡◌, ap, ◌∙◌}
use mathlib.Core.Bool.{Bool, true, false, ◌&&◌}
use mathlib.Core.List.{List}
use lib.Dec.{eqb, leb}
use lib.ListN.{length}
use borrow.Author.Tests.{leb-true}
use Rattle.text.specs.Text.{Text}
use Rattle.std.proofs.lemmas.Bool.{and_parts}
use Rattle.text.proofs.Laws.Tests.{four}
use Rattle.sheet.specs.Rows.{Sheet}
use Rattle.sheet.specs.Lengths.{Answer, sheet_lengths, tape_lengths, lengths_of, good_lengths}
use Rattle.sheet.specs.Calls.{sheet, answered}
use Rattle.xsd_types.specs.Count.{good}
use Rattle.xsd_parser.specs.Read.{ReadAnswer, ReadIs, read, refused_at}
use Rattle.xsd_read.specs.Good.{CountedSheet, CountedRead}

-- the lengths of the four buffers
abbrev pub lengths_pass : List ℕ → List ℕ → Text → List ℕ → Bool
lengths_pass rows names text marks = sheet_lengths (length rows) (length names) && tape_lengths (length text) (length marks)

abbrev answer_of : Answer → Sheet → ReadAnswer
answer_of a x = record { answer = a; sheet = x }

pub read_one : (rows names : List ℕ) (text : Text) (marks : List ℕ) {a : Answer} → a ≡ answered 1 0 → lengths_pass rows names text marks ≡ false
    → ReadIs (sheet rows names) text marks a (sheet rows names)
unfolding read good_lengths lengths_of refused_at
read_one rows names text marks q e = ap (λ (a : Answer). answer_of a (sheet rows names)) q ∙ rw e

pub read-two : (rows names : List ℕ) (text : Text) (marks : List ℕ) {a : Answer} → a ≡ answered 2 0 → lengths_pass rows names text marks ≡ true → good (sheet rows names) ≡ false
    → ReadIs (sheet rows names) text marks a (sheet rows names)
unfolding read good_lengths lengths_of refused_at
read-two rows names text marks q e f = ap (λ (a : Answer). answer_of a (sheet rows names)) q ∙ rw (e, f)

pub read_through : (rows names : List ℕ) (text : Text) (marks : List ℕ) {a : Answer} {x : Sheet} → lengths_pass rows names text marks ≡ true → good (sheet rows names) ≡ true
    → CountedRead rows names text marks a x → ReadIs (sheet rows names) text marks a x
unfolding read good_lengths lengths_of
read_through rows names text marks e f g = rw (e, f) g

pub good-sheet : (rows names : List ℕ) (text : Text) (marks : List ℕ) → lengths_pass rows names text marks ≡ true → good (sheet rows names) ≡ true
    → CountedSheet rows names text
unfolding sheet_lengths tape_lengths
good-sheet rows names text marks e f =
    let both = and_parts (sheet_lengths (length rows) (length names)) (tape_lengths (length text) (length marks)) e in
    let s = four (eqb (length rows % 10) 0) (leb 20 (length rows)) (leb (length rows) 40960) (leb (length names) 65536) both.0 in
    let t = and_parts (leb (length text) 65536) (leb (length marks) 16384) both.1 in
    record { is_good = f; lent = record { few_rows = leb-true _ _ s.2; few_names = leb-true _ _ s.3; few_bytes = leb-true _ _ t.0 } }
