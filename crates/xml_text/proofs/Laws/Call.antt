-- Laws of the call (specs/Document.antt). Assumes nothing.
use Prim.Native.Nat.{ℕ, ◌+◌, ◌-◌, ◌≤◌, ◌<◌}
use mathlib.Core.Path.{◌≡◌, refl, sym, ap, ◌∙◌}
use mathlib.Core.List.{List, ◌++◌, append-nil}
use native.Mathlib.Omega.{arith}
use lib.ListN.{length, take, replicate, length-replicate, drop_of_length-le}
use borrow.Author.Tests.{lt-leb, le-leb}
use Rattle.sheet.specs.Rows.{filled}
use lib.Seq.{sets, sets-eq, paste, take_at, take_all, length-take-le}
use Rattle.sheet.specs.Lengths.{tape_lengths}
use Rattle.xml.specs.Tape.{tape_marks}
use Rattle.xml.specs.Call.{TapeIs}
use Rattle.xml.proofs.Laws.Grammar.Taken.{tape-is}
use Rattle.text.specs.Text.{is_text}
use Rattle.sheet.specs.Returned.{refusal_number}
use Rattle.sheet.specs.declared.refusal.Refusal.{Refusal}
use Rattle.xml.specs.Document.{Document, with_doctype, not_well_formed, well_formed, document, Taken, refused, tape_written, taken_of, tape_of}
use Rattle.xml_text.specs.Answers.{fault_of, FoundIs, taken, StoredIs}
use Rattle.std.specs.Prelude.{true, Option, Some, None, Result, Ok, Err}
use Rattle.std.proofs.lemmas.Option.{none-some}

-- zeros from a place on
pub zeros-behind : (m : List ℕ) (from : ℕ) → from ≤ length m → paste m from (replicate (length m - from) 0) (length m - from) ≡ filled (length m) (take from m)
unfolding filled
zeros-behind m from h =
    let n = length m - from in
    let end : length m ≤ from + n = omega arith in
    ap (λ (t : List ℕ). take from m ++ take n (replicate n 0) ++ t) (drop_of_length-le m end) ∙ append-nil _
    ∙ ap (λ (t : List ℕ). take from m ++ t) (take_all n (replicate n 0) (omega (arith, length-replicate {A = ℕ} n 0)))
    ∙ ap (λ (k : ℕ). take from m ++ replicate (length m - k) 0) (sym (length-take-le from m h))

-- a tape that is stored is what stands there
pub tape-stored : (m tape : List ℕ) → length tape ≤ length m → take (length tape) (sets m 0 tape) ≡ tape
tape-stored m tape h = ap (take (length tape)) (sets-eq tape m 0 (omega arith)) ∙ take_at tape _ (length tape) refl

-- a text without a tape is refused by its fault
abbrev refusal_in : Option Refusal → ℕ
refusal_in None = 0
refusal_in (Some refusal) = refusal_number refusal

faulty : (after : List ℕ) (lent : ℕ) (refusal : Refusal) (d : Document) → length after ≡ lent → fault_of d ≡ Some refusal → taken after (Err refusal) ≡ taken_of lent d
unfolding taken_of refused
faulty after lent refusal with_doctype k h = ap (λ (n : ℕ). refused (length after) n) (sym (ap refusal_in h)) ∙ ap (λ (n : ℕ). refused n 18) k
faulty after lent refusal not_well_formed k h = ap (λ (n : ℕ). refused (length after) n) (sym (ap refusal_in h)) ∙ ap (λ (n : ℕ). refused n 17) k
faulty after lent refusal (well_formed events) k h = absurd (none-some refusal h)

module _ (text before after : List ℕ) (a : is_text text ≡ true) (k : length after ≡ length before) where
  pub stored-faulty : (refusal : Refusal) → fault_of (document text) ≡ Some refusal → StoredIs text before after (Err refusal)
  stored-faulty refusal h = record { kept = k; room = tt; is = rw a (faulty after (length before) refusal (document text) k h) }

  pub stored-short : (n : ℕ) → FoundIs before after (Ok n) (document text) → length after < n → StoredIs text before after (Err Refusal.ShortMarks)
  unfolding taken_of tape_written
  stored-short n p h =
      let m : length before < length (tape_marks p.0) = omega (arith, k, h, p.2) in
      record { kept = k; room = tt; is = rw (a, p.1, k, lt-leb _ _ m) }

  pub stored-whole : (n : ℕ) → FoundIs before after (Ok n) (document text) → n ≤ length after → StoredIs text before after (Ok n)
  unfolding taken_of tape_written
  stored-whole n p h =
      let tape = tape_marks p.0 in
      let m : length tape ≤ length before = omega (arith, k, h, p.2) in
      record { kept = k; room = h; is = rw (a, p.1, k, p.2, le-leb _ _ m, ap (take (length tape)) p.3 ∙ tape-stored before tape m) }

abbrev ascribed : ℕ → ℕ → List ℕ → Taken
ascribed number place marks = record { number = number; place = place; marks = marks }

-- the call's answer is the definition's, once the marks behind those used are zeroed
module _ (text before after zeroed : List ℕ) (l : tape_lengths (length text) (length before) ≡ true) where
  read : (found : Result ℕ Refusal) → StoredIs text before after found → taken after found ≡ tape_of text before
  unfolding tape_of
  read found s = rw l s.is

  pub tape-refused : (refusal : Refusal) (found : Result ℕ Refusal) (from : ℕ) → found ≡ Err refusal → from ≡ 0 → StoredIs text before after found → zeroed ≡ filled (length after) (take from after)
      → TapeIs text before (refusal_number refusal) 0 zeroed
  unfolding refused
  tape-refused refusal found from e f s z =
      tape-is _ _ _ _ _ (ap (ascribed (refusal_number refusal) 0) (z ∙ ap (λ (n : ℕ). filled (length after) (take n after)) f) ∙ ap (taken after) (sym e) ∙ read found s)

  pub tape-accepted : (used : ℕ) (found : Result ℕ Refusal) (from : ℕ) → found ≡ Ok used → from ≡ used → StoredIs text before after found → zeroed ≡ filled (length after) (take from after)
      → TapeIs text before 0 used zeroed
  tape-accepted used found from e f s z =
      tape-is _ _ _ _ _ (ap (ascribed 0 used) (z ∙ ap (λ (n : ℕ). filled (length after) (take n after)) f) ∙ ap (taken after) (sym e) ∙ read found s)
