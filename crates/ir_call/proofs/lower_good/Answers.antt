-- `ir_call::lower_good` meets its contract: the sheet's state is found by row 0, and a short scratch is refused before anything is cleared. Assumes nothing.
use Prim.Native.Nat.{ℕ, ◌+◌, ◌*◌, ◌≤◌}
use mathlib.Core.Bool.{true}
use mathlib.Core.List.{List}
use mathlib.Core.Path.{◌≡◌, ap, ◌∙◌}
use native.Mathlib.Omega.{arith}
use lib.ListN.{length, get_or}
use Rattle.sheet.specs.Calls.{sheet}
use Rattle.sheet.specs.Form.{words}
use Rattle.sheet.specs.Rows.{ten}
use Rattle.xsd_types.specs.Row0.{Row0, row0_from}
use Rattle.xsd_types.specs.Rows.{items_rows}
use Rattle.xsd_types.specs.Count.{refused_rows, good, state_of}
use Rattle.xsd_types.specs.Places.{rows_from}
use Rattle.xsd_types.proofs.Laws.Count.{good-bare}
use Rattle.xsd_good.specs.declared.row0.Row0.{Row0 as Numbers}
use Rattle.xsd_good.specs.End.{finished_end}
use Rattle.xsd_good.specs.Row0.{as_row0}
use Rattle.xsd_good.proofs.Laws.Bare.{bare-used, good-root, good-end}
use Rattle.ir_rows.proofs.Laws.Graph.{Stands}
use Rattle.ir_call.proofs.Laws.Calls.{refusal_at_0, good-stands, good-room, good-counted, lowers-held, state-short, state-enough}
use Rattle.ir_call.proofs.lower_good.Goals as goal

module _ (rows names : List ℕ) (g : good (sheet rows names) ≡ true) (w : words rows ≡ true) (z : Numbers) {end : ℕ}
    (read : as_row0 z ≡ row0_from (ten rows)) (e : end ≡ finished_end rows z.context z.rows_used) where
  -- the finished items end where the call says
  ends : end ≡ 2 + length (items_rows (state_of (sheet rows names)).reader.schema.items)
  ends = e ∙ good-end rows names g w (as_row0 z) read

  -- the rows up to there are theirs, and the count is right for them
  finished : Stands (state_of (sheet rows names)) rows names end
  finished = good-stands rows names g w ends

  room : (2 ≤ end) × (10 * end ≤ length rows)
  room = good-room rows names g w ends

  counts : get_or rows 17 0 ≡ refused_rows (rows_from rows names 2 end)
  counts = good-counted rows names g w ends

pub row0_at-z-requires : goal.row0_at-z-requires
row0_at-z-requires c =
    omega (arith, (bare-used c.args.rows.now c.args.names.now (good-bare (sheet c.args.rows.now c.args.names.now) c.requires.0)).0)

pub finished_end-end-requires : goal.finished_end-end-requires
finished_end-end-requires c =
    let rows = c.args.rows.now in
    let names = c.args.names.now in
    rw (ap (λ (z : Row0). z.rows_used) c.row0_at-z.ensures) (bare-used rows names (good-bare (sheet rows names) c.requires.0)).1

pub invariant_of-part : goal.invariant_of-part
invariant_of-part c =
    let end = c.finished_end-end.ensures in
    record { within = (room c.args.rows.now c.args.names.now c.requires.0 end.words c.row0_at-z.result c.row0_at-z.ensures end.place).1 }

pub returns-then-scratch-lt-LEAST_SCRATCH : goal.returns-then-scratch-lt-LEAST_SCRATCH
returns-then-scratch-lt-LEAST_SCRATCH c =
    let a = c.args in
    state-short _ a.graph_rows.now a.graph_names.now a.scratch.now c.if-scratch-lt-LEAST_SCRATCH.true (refusal_at_0 c.into.ensures)

pub lower_finished-requires : goal.lower_finished-requires
lower_finished-requires c =
    let a = c.args in
    let end = c.finished_end-end.ensures in
    let two = (room a.rows.now a.names.now c.requires.0 end.words c.row0_at-z.result c.row0_at-z.ensures end.place).0 in (
      record { at_least = two; few = c.requires.1.few_rows; count = counts a.rows.now a.names.now c.requires.0 end.words c.row0_at-z.result c.row0_at-z.ensures end.place },
      c.requires.2,
      c.if-scratch-lt-LEAST_SCRATCH.false,
    )

pub returns : goal.returns
returns c =
    let a = c.args in
    let end = c.finished_end-end.ensures in
    let there = finished a.rows.now a.names.now c.requires.0 end.words c.row0_at-z.result c.row0_at-z.ensures end.place in
    let root = good-root a.rows.now a.names.now c.requires.0 end.words (as_row0 c.row0_at-z.result) c.row0_at-z.ensures in
    state-enough _ a.graph_rows.now a.graph_names.now a.scratch.now c.if-scratch-lt-LEAST_SCRATCH.false
    (c.lower_finished.ensures _ (lowers-held _ there root))
