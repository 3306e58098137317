-- A cleared sheet is good and holds the first state, by its choice. Assumes nothing.
use mathlib.Core.Path.{◌≡◌}
use mathlib.Core.Bool.{Bool, true, ◌&&◌}
use Prim.Native.Nat.{ℕ, ◌%◌}
use lib.Dec.{eqb, leb, leb-zero}
use lib.ListN.{length}
use Rattle.text.specs.Text.{every, join}
use Rattle.text.proofs.Laws.Tests.{four, and-true-left, and-true}
use Rattle.text.proofs.Laws.Class.{empty-text}
use Rattle.sheet.specs.Rows.{Sheet, names_of, row}
use Rattle.sheet.specs.Lengths.{sheet_lengths, fits}
use Rattle.xsd_types.specs.State.{first_state, schema_ok, context_ok, is_no_context, is_empty, root_ok, counters_ok, open_passes, heads_pass, events_ok, proper}
use Rattle.xsd_types.specs.Rows.{namespace_row, items_rows, context_rows, rows_of, rows_used, names_used}
use Rattle.xsd_types.specs.Count.{sheet_of, good, state_of}
use Rattle.xsd_types.specs.Sheet.{state_fits}
use Rattle.xsd_types.specs.Clear.{clear}
use Rattle.xsd_types.proofs.Laws.Count.{good-sheet_of, state_of-sheet_of}

pub first-proper : (by_standard : Bool) → proper (first_state by_standard) ≡ true
unfolding first_state proper counters_ok events_ok heads_pass open_passes root_ok context_ok schema_ok is_no_context is_empty every
first-proper b = rw empty-text

pub first_fits : (by_standard : Bool) (r n : ℕ) → sheet_lengths r n ≡ true → state_fits r n (first_state by_standard) ≡ true
unfolding sheet_lengths state_fits fits first_state rows_used names_used rows_of items_rows context_rows namespace_row row names_of join
first_fits b r n e = and-true (four (eqb (r % 10) 0) (leb 20 r) (leb r 40960) (leb n 65536) e).1 (leb-zero n)

module _ (choice : ℕ) (x : Sheet) (e : sheet_lengths (length x.rows) (length x.names) && leb choice 1 ≡ true) where
  pub clear-sheet : (clear choice x).sheet ≡ sheet_of (first_state (eqb choice 1)) (length x.rows) (length x.names)
  unfolding clear
  clear-sheet = rw e

  pub clear-fits : state_fits (length x.rows) (length x.names) (first_state (eqb choice 1)) ≡ true
  clear-fits = first_fits (eqb choice 1) (length x.rows) (length x.names) (and-true-left _ _ e)

  pub good-clear : good (clear choice x).sheet ≡ true
  good-clear = rw clear-sheet (good-sheet_of (first_state (eqb choice 1)) (length x.rows) (length x.names) (first-proper (eqb choice 1)) clear-fits)

  pub state_of-clear : state_of (clear choice x).sheet ≡ first_state (eqb choice 1)
  state_of-clear = rw clear-sheet (state_of-sheet_of (first_state (eqb choice 1)) (length x.rows) (length x.names) (first-proper (eqb choice 1)) clear-fits)
