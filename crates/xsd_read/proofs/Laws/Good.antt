-- Where the reading of a good sheet stands first, and the sheet at its end. Assumes nothing.
use Prim.Native.Nat.{ℕ, ◌≤◌}
use mathlib.Core.Path.{◌≡◌, sym, ap, ap₂, subst, ◌∙◌}
use mathlib.Core.Bool.{true}
use mathlib.Core.List.{List, [], ◌∷◌}
use native.Mathlib.Omega.{arith}
use lib.ListN.{length}
use Rattle.text.specs.Text.{Text}
use Rattle.sheet.specs.Rows.{ten, numbers, sheet_of_rows}
use Rattle.sheet.specs.Calls.{sheet}
use Rattle.sheet.specs.Form.{words}
use Rattle.xsd_types.specs.State.{State}
use Rattle.xsd_types.specs.Row0.{Row0, row0_from, row0_ten}
use Rattle.xsd_types.specs.Rows.{rows_of, row0, rows_used}
use Rattle.xsd_types.specs.Sheet.{bare_sheet_of}
use Rattle.xsd_types.specs.Back.{bare_state_of}
use Rattle.rows.specs.declared.writer.SheetWriter.{SheetWriter}
use Rattle.rows.specs.Packing.{Packs, Row0Put}
use Rattle.rows.specs.Answers.{answer_of}
use Rattle.rows.proofs.Laws.Sheet.{packs-sheet}
use Rattle.xsd_good.specs.Heads.{head_row}
use Rattle.xsd_good.specs.End.{HeadIs}
use Rattle.xsd_good.proofs.Laws.Open.{open-head-is}
use Rattle.xsd_good.proofs.Laws.Held.{ten-packs}
use Rattle.xsd_parser.specs.Read.{read_state}
use Rattle.xsd_progress.specs.declared.Progress.{Progress}
use Rattle.xsd_progress.specs.Progress.{progress_in, used_in, progress_row0, row0_numbers, At, lent_to, Standing}
use Rattle.xsd_progress.proofs.Laws.States.{row0-at, at_small}
use Rattle.xsd_progress.proofs.Laws.Row0.{at-row0}
use Rattle.xsd_read.specs.declared.records.ReadTo.{ReadTo}
use Rattle.xsd_read.specs.Records.{RecordsRead}
use Rattle.xsd_read.specs.Good.{GoodSheet, GoodRead}

-- with row 0 set anew, the sheet is that of the state reached
sheet-reached : {s : State} {w : SheetWriter} {rows : List ℕ} {p : Progress} → At s w p → Row0Put w.rows.now (row0_numbers p w.used) rows
    → sheet rows w.names.now ≡ bare_sheet_of s (length w.rows.now) (length w.names.now)
unfolding row0_numbers bare_sheet_of
sheet-reached {s} {w} {p = p} at put =
    packs-sheet (row0_ten (progress_row0 p w.used)) (put.packs w.names.now at.z (rows_of s) at.holds.packs)
    ∙ ap₂ (λ (z : Row0) (n : ℕ). sheet_of_rows (row0_ten z) (rows_of s) n (length w.names.now)) (row0-at at) put.rows_length

-- and its open type's head is the one that is carried
head-stored : {s : State} {w : SheetWriter} {rows : List ℕ} {p : Progress} → At s w p → Row0Put w.rows.now (row0_numbers p w.used) rows → HeadIs rows p.head
unfolding row0_numbers row0 rows_used
head-stored {s} {w} {rows} {p} at put l =
    let packs = subst (λ (z : Row0). Packs rows w.names.now (numbers (row0_ten z ∷ [])) (rows_of s)) (row0-at at) (put.packs w.names.now at.z (rows_of s) at.holds.packs) in
    let t : row0_from (ten rows) ≡ row0 s = ap row0_from (ten-packs rows w.names.now (row0_ten (row0 s)) (rows_of s) packs) in
    let there = subst (λ (z : Row0). 2 ≤ z.context) t l in
    at.head there ∙ sym (open-head-is s packs there) ∙ sym (ap (λ (z : Row0). head_row rows z.rows_used) t)

module _ {w : SheetWriter} {text : Text} {p : Progress} (g : GoodSheet w.rows.now w.names.now text) (words_there : words w.rows.now ≡ true)
    (used : w.used ≡ used_in w.rows.now) (e : p ≡ progress_in w.rows.now) where
  pub at_first : At (bare_state_of (sheet w.rows.now w.names.now)) w p
  at_first = subst (At (bare_state_of (sheet w.rows.now w.names.now)) w) (sym e) (at-row0 w g.is_good words_there used)

  pub standing-first : Standing w p
  standing-first = record { s = bare_state_of (sheet w.rows.now w.names.now); at = at_first; few = g.lent.few_rows }

  module _ {marks : List ℕ} {r : ReadTo} {w' : SheetWriter} (read : RecordsRead w text marks p r w') where
    -- the buffers are what the writer left in them
    pub good-read : {rows rows' names z : List ℕ} → (w.rows.ghost_name ≡ w'.rows.ghost_name → rows ≡ w'.rows.now) → (w.names.ghost_name ≡ w'.names.ghost_name → names ≡ w'.names.now)
        → z ≡ row0_numbers r.progress w'.used → Row0Put rows z rows' → GoodRead w.rows.now w.names.now text marks (answer_of r.answer) (sheet rows' names)
    good-read {rows} {rows'} {names} {z} rows_back names_back f put =
        let reached = read.reached (bare_state_of (sheet w.rows.now w.names.now)) at_first in
        let s = (read_state (lent_to w.rows.now w.names.now) (bare_state_of (sheet w.rows.now w.names.now)) text marks).state in
        let stored : Row0Put w'.rows.now (row0_numbers r.progress w'.used) rows' = rw (rows_back (sym read.same.rows), f) at put in
        let after = sheet-reached reached.at stored ∙ ap₂ (bare_sheet_of s) read.same.rows_length read.same.names_length in
        record { answers = reached.answer; leaves = ap (λ (l : List ℕ). sheet rows' l) (names_back (sym read.same.names)) ∙ after }

    pub head-read : {rows rows' z : List ℕ} → (w.rows.ghost_name ≡ w'.rows.ghost_name → rows ≡ w'.rows.now)
        → z ≡ row0_numbers r.progress w'.used → Row0Put rows z rows' → HeadIs rows' r.progress.head
    head-read {rows} {rows'} {z} rows_back f put =
        let reached = read.reached (bare_state_of (sheet w.rows.now w.names.now)) at_first in
        let stored : Row0Put w'.rows.now (row0_numbers r.progress w'.used) rows' = rw (rows_back (sym read.same.rows), f) at put in
        head-stored reached.at stored

    pub put-room : {rows : List ℕ} → (w.rows.ghost_name ≡ w'.rows.ghost_name → rows ≡ w'.rows.now) → 10 ≤ length w.rows.now → 10 ≤ length rows
    put-room rows_back h = rw (rows_back (sym read.same.rows), read.same.rows_length) h

    -- the numbers of row 0 that a reading ends with have room in it
    pub reached-small : (w'.used.rows ≤ 65536) × (w'.used.names ≤ 65536)
    reached-small =
        let small = at_small (read.reached (bare_state_of (sheet w.rows.now w.names.now)) at_first).at in
        (omega (arith, small.0, read.same.rows_length, g.lent.few_rows), omega (arith, small.1, read.same.names_length, g.lent.few_names))
