-- A whole record: its form (3), then its pairs (4), then their bytes (5), as the code tests them one after the other. Laws of xsd_parser's Tape.
-- No contract cites them. Assumes nothing.
use mathlib.Core.Path.{◌≡◌, ap, ◌∙◌}
use mathlib.Core.Bool.{true, false}
use mathlib.Core.List.{List, ◌∷◌}
use Prim.Native.Nat.{ℕ, suc, ◌+◌, ◌-◌, ◌*◌, ◌≤◌, ◌<◌}
use native.Mathlib.Omega.{arith}
use lib.ListN.{length, get_or, drop, drop_of_length-le, length-drop}
use lib.Seq.{drop-cons, drop-drop}
use borrow.Author.Tests.{eq-eqb, ne_eqb}
use Rattle.text.specs.Text.{Text}
use Rattle.xsd_parser.specs.Event.{Event}
use Rattle.xsd_parser.specs.Tape.{Pair, Recorded, pairs_of, pair_count, all_inside, all_ascii, tag_of, event_of, form_test, tag_record, record1}
use Rattle.tape.specs.Pairs.{tag_at}
use Rattle.tape.proofs.Laws.Pairs.{drop-two}
use Rattle.std.specs.Prelude.{Some, Ok}
use Rattle.tape.specs.declared.TagRecord.{TagRecord}
use Rattle.tape.specs.Answers.{record_event, recorded}

pub record-none : (text : Text) (marks : List ℕ) (at : ℕ) → length marks ≤ at → record1 text (drop at marks) ≡ Recorded.finished
unfolding record1
record-none text marks at h = rw (drop_of_length-le marks h)

pub record-one : (text : Text) (marks : List ℕ) (at : ℕ) → at < length marks → length marks < at + 2 → record1 text (drop at marks) ≡ Recorded.bad 3
unfolding record1
record-one text marks at h k = ap (record1 text) (drop-cons marks at 0 h ∙ ap (λ (l : List ℕ). get_or marks at 0 ∷ l) (drop_of_length-le marks {i = suc at} (omega arith)))

module _ (text : Text) (marks : List ℕ) (at kind count : ℕ) (h : at + 2 ≤ length marks) (k : kind ≡ get_or marks at 0) (n : count ≡ get_or marks (at + 1) 0) where
  two : record1 text (drop at marks) ≡ record1 text (kind ∷ count ∷ drop (at + 2) marks)
  two = rw (drop-two marks at h, k, n)

  room : length (drop (at + 2) marks) ≡ length marks - at - 2
  room = length-drop (at + 2) marks ∙ omega arith

  pub record-bad : form_test kind count (length marks - at - 2) ≡ false → record1 text (drop at marks) ≡ Recorded.bad 3
  unfolding record1
  record-bad f = two ∙ rw (room, f)

  pub record-close : form_test kind count (length marks - at - 2) ≡ true → kind ≡ 3 → record1 text (drop at marks) ≡ Recorded.next Event.close (drop (at + 2) marks)
  unfolding record1
  record-close f e = two ∙ rw (room, f, eq-eqb kind 3 e)

  pub record-tag : form_test kind count (length marks - at - 2) ≡ true → (kind ≡ 3 → ⊥)
      → record1 text (drop at marks) ≡ tag_record text kind (pairs_of (pair_count count) (drop (at + 2) marks)) (drop (at + 2 + 2 * pair_count count) marks)
  unfolding record1
  record-tag f e = two ∙ rw (room, f, ne_eqb kind 3 e, drop-drop)

module _ (text : Text) (kind : ℕ) (ps : List Pair) (rest : List ℕ) where
  pub tag-outside : all_inside (length text) 0 ps ≡ false → tag_record text kind ps rest ≡ Recorded.bad 4
  unfolding tag_record
  tag-outside i = rw i

  pub tag-high : all_inside (length text) 0 ps ≡ true → all_ascii text ps ≡ false → tag_record text kind ps rest ≡ Recorded.bad 5
  unfolding tag_record
  tag-high i a = rw (i, a)

  pub tag-good : all_inside (length text) 0 ps ≡ true → all_ascii text ps ≡ true → tag_record text kind ps rest ≡ Recorded.next (event_of kind (tag_of text ps)) rest
  unfolding tag_record
  tag-good i a = rw (i, a)

-- a record that is no close stands for its tag's event
pub record-event : (text : Text) (marks : List ℕ) (t : TagRecord) → (t.kind ≡ 3 → ⊥)
    → recorded text marks (Ok (Some t)) ≡ Recorded.next (event_of t.kind (tag_at text marks t.pairs t.count)) (drop t.next marks)
unfolding recorded record_event
record-event text marks t n = rw (ne_eqb t.kind 3 n)
