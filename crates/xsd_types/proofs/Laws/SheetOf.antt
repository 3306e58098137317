-- The sheet of a proper state that has room is good and gives the state back. Assumes nothing.
use mathlib.Core.Path.{◌≡◌, refl, ap, ◌∙◌}
use mathlib.Core.Bool.{true}
use mathlib.Core.List.{[], ◌∷◌, ◌++◌}
use Prim.Native.Nat.{ℕ, ◌+◌, ◌-◌, ◌*◌, ◌≤◌}
use native.Mathlib.Omega.{arith}
use lib.Dec.{leb}
use lib.ListN.{length}
use borrow.Author.Tests.{leb-true, le-leb, eq-eqb}
use Rattle.text.specs.Text.{between, join, every}
use Rattle.sheet.specs.Rows.{row, pack_row, pack, names_of}
use Rattle.sheet.specs.Lengths.{fits}
use Rattle.sheet.proofs.Laws.Packs.{covers-pack, covered-pack}
use Rattle.sheet.proofs.Laws.Sheets.{first-ten, tens-behind, length-rows, length-names, zeros-rows, zeros-names, rows-read}
use Rattle.xsd_types.specs.State.{State, root_ok, counters_ok, event_number_ok, heads_pass, events_ok, proper}
use Rattle.xsd_types.specs.Rows.{namespace_row, namespace_a, items_rows, context_rows, rows_of, rows_used, names_used, row0}
use Rattle.xsd_types.specs.Row0.{row0_ten, row0_in}
use Rattle.xsd_types.specs.Sheet.{state_fits, bare_sheet_of}
use Rattle.xsd_types.specs.Good.{used_pairs, is_head, head_after, last_head, row0_form, rows_form, names_form, names_test, limits, root_test, nesting_test, context_test}
use Rattle.xsd_types.specs.Good.{extension_test, head_of, events_test, bare_good}
use Rattle.xsd_types.specs.Back.{rows_in, bare_state_of}
use Rattle.xsd_types.proofs.Laws.Row0.{nesting-both}
use Rattle.xsd_types.proofs.Laws.Items.{bit-back}
use Rattle.xsd_types.proofs.Laws.Order.{tags}
use Rattle.xsd_types.proofs.Laws.Sound.{formed_row, text_row, sound_row, sound-formed, body_rows, sound-body, proper-parts, counted-rows, text-rows}
use Rattle.xsd_types.proofs.Laws.Back.{state-back}
use Rattle.xsd_types.proofs.Laws.Events.{event_row, events-pack, body-events}
use Rattle.xsd_types.proofs.Laws.Made.{tags-pack, form-pack, order-body, test-context, test-extension, test-nesting, test-root, small-context, flag-bit, flag-context}
use Rattle.text.proofs.Laws.Tests.{and-true-left, and-true-right, and-true}
use Rattle.text.proofs.Laws.Every.{every-weaken}
use Rattle.sheet.specs.Form.{row0_of, rows_used_of, names_used_of, tens_of, used_parts, zeros_behind, texts_pass}

module _ (s : State) (r n : ℕ) where
  pub row0-made : row0_of (bare_sheet_of s r n) ≡ row0_ten (row0 s)
  unfolding row0_of bare_sheet_of
  row0-made = first-ten (row0_ten (row0 s)) (rows_of s) r n

  pub tens-made : tens_of (bare_sheet_of s r n) ≡ pack 0 (rows_of s)
  unfolding tens_of row0 rows_used bare_sheet_of
  tens-made =
      let used : rows_used_of (bare_sheet_of s r n) - 1 ≡ length (rows_of s) = rw row0-made (omega arith) in
      rw used (tens-behind (row0_ten (row0 s)) (rows_of s) r n)

  pub rows_made : proper s ≡ true → rows_in (bare_sheet_of s r n) ≡ rows_of s
  unfolding rows_in bare_sheet_of
  rows_made ok = rw tens-made (rows-read (row0_ten (row0 s)) (rows_of s) r n used_pairs (counted-rows s ok))

  pub bare_state_of-bare_sheet_of : proper s ≡ true → state_fits r n s ≡ true → bare_state_of (bare_sheet_of s r n) ≡ s
  unfolding bare_state_of
  bare_state_of-bare_sheet_of ok fit = rw (row0-made, rows_made ok) (state-back s)

  pub fit-rows : state_fits r n s ≡ true → 10 * (1 + length (rows_of s)) ≤ r
  unfolding state_fits fits rows_used
  fit-rows fit = leb-true (10 * (1 + length (rows_of s))) r (and-true-left _ _ fit)

  pub fit-names : state_fits r n s ≡ true → length (names_of (rows_of s)) ≤ n
  unfolding state_fits fits names_used
  fit-names fit = leb-true (length (names_of (rows_of s))) n (and-true-right (leb (10 * rows_used s) r) _ fit)

  pub length-bare_sheet_of : state_fits r n s ≡ true → (length (bare_sheet_of s r n).rows ≡ r) × (length (bare_sheet_of s r n).names ≡ n)
  unfolding bare_sheet_of
  length-bare_sheet_of fit = (length-rows (row0_ten (row0 s)) (rows_of s) r n (fit-rows fit), length-names (row0_ten (row0 s)) (rows_of s) r n (fit-names fit))

pub rows_used-two : (s : State) → 2 ≤ rows_used s
unfolding rows_used rows_of
rows_used-two s = omega arith

-- the parts of `good` for the sheet of a proper state that has room
module _ (s : State) (r n : ℕ) (ok : proper s ≡ true) (fit : state_fits r n s ≡ true) where
  pub made-parts : used_parts (bare_sheet_of s r n) ≡ true
  unfolding used_parts row0 state_fits
  made-parts =
      let l = length-bare_sheet_of s r n fit in
      rw (row0-made s r n, l.0, l.1) (and-true (le-leb 2 (rows_used s) (rows_used-two s)) fit)

  pub made-row0 : row0_form (row0_in (bare_sheet_of s r n)) ≡ true
  unfolding row0_form row0
  made-row0 = rw (row0-made s r n) (and-true (and-true (and-true (small-context s.reader.context) (flag-bit s.reader.root_seen)) (flag-context s.reader.context)) (flag-bit s.by_standard))

  pub made-rows : rows_form (tens_of (bare_sheet_of s r n)) ≡ true
  unfolding rows_form rows_of body_rows pack pack_row namespace_row namespace_a row
  made-rows =
      let k = 0 + length (join (s.reader.schema.target_namespace ∷ [])) in
      let form = every-weaken sound_row formed_row sound-formed (body_rows s) (sound-body s ok) in
      rw (tens-made s r n, form-pack k (body_rows s), tags-pack k (body_rows s)) (and-true form (order-body 1 s refl))

  pub made-names : names_form (names_used_of (bare_sheet_of s r n)) (tens_of (bare_sheet_of s r n)) ≡ true
  unfolding names_form row0 names_used
  made-names = rw (row0-made s r n, tens-made s r n)
      (and-true (covers-pack used_pairs 0 (rows_of s) (counted-rows s ok)) (eq-eqb _ _ (covered-pack used_pairs 0 (rows_of s) (counted-rows s ok) ∙ omega arith)))

  pub made-zeros : zeros_behind (bare_sheet_of s r n) ≡ true
  unfolding zeros_behind bare_sheet_of row0 rows_used names_used
  made-zeros = rw (row0-made s r n) (and-true (zeros-rows (row0_ten (row0 s)) (rows_of s) r n) (zeros-names (row0_ten (row0 s)) (rows_of s) r n))

  pub made-text : names_test (bare_sheet_of s r n) ≡ true
  unfolding names_test texts_pass rows_in text_row
  made-text = ap (every text_row) (rows_made s r n ok) ∙ text-rows s ok

  pub made-limits : limits (row0_in (bare_sheet_of s r n)) ≡ true
  unfolding limits row0 counters_ok
  made-limits = rw (row0-made s r n) (proper-parts s ok).0

  pub made-root : root_test (row0_in (bare_sheet_of s r n)) ≡ true
  unfolding root_ok
  made-root = rw (row0-made s r n)
      (test-root s.reader.schema.target_namespace s.reader.schema.items s.reader.root_seen s.reader.context s.events s.open_tags s.by_standard
      (proper-parts s ok).1)

  pub made-nesting : nesting_test (row0_in (bare_sheet_of s r n)) ≡ true
  unfolding row0
  made-nesting = rw (row0-made s r n, nesting-both (row0 s), bit-back s.by_standard) (test-nesting s.by_standard s.reader.context s.open_tags (proper-parts s ok).2)

  pub made-head : head_of (tens_of (bare_sheet_of s r n)) ≡ last_head 0 (tags (items_rows s.reader.schema.items ++ context_rows s.reader.context))
  unfolding head_of rows_of last_head head_after is_head between namespace_row row
  made-head = rw (tens-made s r n, tags-pack 0 (rows_of s))

  pub made-context : context_test (row0_in (bare_sheet_of s r n)).context (head_of (tens_of (bare_sheet_of s r n))) ≡ true
  unfolding row0
  made-context = rw (row0-made s r n, made-head) (test-context 0 s.reader.schema.items s.reader.context refl)

  pub made-extension : extension_test (row0_in (bare_sheet_of s r n)) (head_of (tens_of (bare_sheet_of s r n))) ≡ true
  unfolding extension_test row0
  made-extension = rw (row0-made s r n, made-head) (test-extension 0 s.reader.schema.items s.reader.context)

  pub made-events : events_test (row0_in (bare_sheet_of s r n)).events (tens_of (bare_sheet_of s r n)) ≡ true
  unfolding row0 rows_of namespace_row row every events_ok heads_pass event_row event_number_ok
  made-events = rw (row0-made s r n, tens-made s r n, events-pack s.events 0 (rows_of s), body-events s.events s.reader.schema.items s.reader.context) (proper-parts s ok).4

  pub bare_good-bare_sheet_of : bare_good (bare_sheet_of s r n) ≡ true
  unfolding bare_good
  bare_good-bare_sheet_of =
      let form = and-true (and-true (and-true (and-true (and-true made-parts made-row0) made-rows) made-names) made-zeros) made-text in
      and-true (and-true (and-true (and-true (and-true (and-true form made-limits) made-root) made-nesting) made-context) made-extension) made-events
