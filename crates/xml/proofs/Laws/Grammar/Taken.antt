-- The call by the grammar (specs/Call.antt) is exactly the call by the recogniser (specs/Document.antt): number, place and every mark. Assumes nothing.
use Prim.Native.Nat.{ℕ, ◌<◌}
use mathlib.Core.Path.{◌≡◌, refl, sym, ap, subst}
use mathlib.Core.Logic.{◌↔◌}
use mathlib.Core.List.{List}
use native.Mathlib.Omega.{arith}
use lib.Dec.{leb}
use lib.ListN.{length}
use borrow.Author.Tests.{leb-true, leb-false, le-leb, lt-leb}
use Rattle.text.specs.Text.{Text, is_text}
use Rattle.text.proofs.Laws.Tests.{bool_cases}
use Rattle.sheet.specs.Lengths.{tape_lengths}
use Rattle.sheet.specs.Returned.{malformed, doctype}
use Rattle.xml.specs.Grammar.{Derived, BegunByDoctype}
use Rattle.xml.specs.Tape.{TapeEvent, tape_marks}
use Rattle.xml.specs.Document.{Document, with_doctype, not_well_formed, well_formed, document, Taken, refused, tape_written, taken_of, tape_of}
use Rattle.xml.specs.Call.{Readable, TapeIs, is_too_long, is_high, is_begun, is_malformed, is_short, is_accepted}
use Rattle.xml.proofs.Laws.Reads.{tape-taken}
use Rattle.xml.proofs.Laws.Grammar.Documents.{document-sound, document-complete, doctype-sound, doctype-complete, malformed-exactly}

-- what is taken is so by the grammar
abbrev pub TakenIs : Text → List ℕ → Taken → Type 0
TakenIs text before t = TapeIs text before t.number t.place t.marks

document-taken : (text : Text) (before : List ℕ) → Readable text before → (d : Document) → document text ≡ d → TakenIs text before (taken_of (length before) d)
unfolding taken_of refused tape_written
document-taken text before k with_doctype e = is_begun k (doctype-sound text e)
document-taken text before k not_well_formed e = let n = (malformed-exactly text).0 e in is_malformed k n.0 n.1
document-taken text before k (well_formed es) e =
    let d = document-sound text es e in
    bool_cases (leb (length (tape_marks es)) (length before))
    (λ y. rw y (is_accepted k d (leb-true _ _ y)))
    (λ y. rw y (is_short k d (leb-false _ _ y)))

tape-by-grammar : (text : Text) (before : List ℕ) → TakenIs text before (tape_of text before)
unfolding tape_of refused
tape-by-grammar text before =
    bool_cases (tape_lengths (length text) (length before))
    (λ y. bool_cases (is_text text)
    (λ z. subst (TakenIs text before) (sym (tape-taken text before y z)) (document-taken text before (y, z) (document text) refl))
    (λ z. rw (y, z) (is_high y z)))
    (λ y. rw y (is_too_long y))

abbrev pub taken : ℕ → ℕ → List ℕ → Taken
taken number place after = record { number = number; place = place; marks = after }

pub tape-is : (text : Text) (before : List ℕ) (number place : ℕ) (after : List ℕ) → taken number place after ≡ tape_of text before → TapeIs text before number place after
tape-is text before number place after h = subst (TakenIs text before) (sym h) (tape-by-grammar text before)

written-long : (lent : ℕ) (es : List TapeEvent) → lent < length (tape_marks es) → tape_written lent (tape_marks es) ≡ refused lent 19
unfolding tape_written
written-long lent es h = rw (lt-leb (length (tape_marks es)) lent h)

is-tape : {text : Text} {before : List ℕ} {number place : ℕ} {after : List ℕ} → TapeIs text before number place after → taken number place after ≡ tape_of text before
unfolding tape_of refused taken_of tape_written
is-tape (is_too_long y) = rw y
is-tape (is_high y z) = rw (y, z)
is-tape (is_begun k b) = rw (k.0, k.1, doctype-complete b)
is-tape {text} (is_malformed k n m) = rw (k.0, k.1, (malformed-exactly text).1 (n, m))
is-tape (is_short k d h) = rw (k.0, k.1, document-complete d, lt-leb _ _ h)
is-tape (is_accepted k d h) = rw (k.0, k.1, document-complete d, le-leb _ _ h)

-- so number, place and marks are fixed
pub tape-exactly : (text : Text) (before : List ℕ) (number place : ℕ) (after : List ℕ) → TapeIs text before number place after ↔ (taken number place after ≡ tape_of text before)
tape-exactly text before number place after = (λ d. is-tape d, tape-is text before number place after)

-- 18 and 17, exactly
abbrev pub Begun : Text → List ℕ → Type 0
Begun text before = Readable text before × BegunByDoctype text

eighteen-of : {text : Text} {before : List ℕ} {number place : ℕ} {after : List ℕ} → TapeIs text before number place after → number ≡ 18 → Begun text before
eighteen-of (is_too_long y) h = absurd (omega arith)
eighteen-of (is_high y z) h = absurd (omega arith)
eighteen-of (is_begun k b) h = (k, b)
eighteen-of (is_malformed k n m) h = absurd (omega arith)
eighteen-of (is_short k d l) h = absurd (omega arith)
eighteen-of (is_accepted k d l) h = absurd (omega arith)

pub eighteen-exactly : (text : Text) (before : List ℕ) → ((tape_of text before).number ≡ doctype) ↔ Begun text before
eighteen-exactly text before = (eighteen-of (tape-by-grammar text before), λ b. ap (λ (t : Taken). t.number) (sym (is-tape (is_begun b.0 b.1))))

abbrev pub Underivable : Text → List ℕ → Type 0
Underivable text before = Readable text before × (BegunByDoctype text → ⊥) × ((es : List TapeEvent) → Derived text es → ⊥)

seventeen-of : {text : Text} {before : List ℕ} {number place : ℕ} {after : List ℕ} → TapeIs text before number place after → number ≡ 17 → Underivable text before
seventeen-of (is_too_long y) h = absurd (omega arith)
seventeen-of (is_high y z) h = absurd (omega arith)
seventeen-of (is_begun k b) h = absurd (omega arith)
seventeen-of (is_malformed k n m) h = (k, n, m)
seventeen-of (is_short k d l) h = absurd (omega arith)
seventeen-of (is_accepted k d l) h = absurd (omega arith)

pub seventeen-exactly : (text : Text) (before : List ℕ) → ((tape_of text before).number ≡ malformed) ↔ Underivable text before
seventeen-exactly text before = (seventeen-of (tape-by-grammar text before), λ b. ap (λ (t : Taken). t.number) (sym (is-tape (is_malformed b.0 b.1 b.2))))
