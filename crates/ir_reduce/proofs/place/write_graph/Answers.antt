-- `ir_reduce::place::write_graph` meets its contract: the kept rows are added to a sheet of zeros, and row 0 is set. Assumes nothing.
use Rattle.std.proofs.Common.{rules, ap}
use native.Mathlib.Omega.{arith}
use lib.ListN.{length}
use Rattle.ir_reduce.proofs.Laws.Facts.{at_least, rows_inside_lem, rows-stand}
use Rattle.ir_reduce.proofs.Laws.Call.{written-full, written-to}
use Rattle.ir_reduce.proofs.place.write_graph.Goals as goal

pub put_kept-requires : goal.put_kept-requires
put_kept-requires c =
    let g = c.requires.0 in
    (omega (arith, rows_inside_lem g, g.few, c.told-marks), omega (arith, at_least g), rows-stand g)

pub returns-in_err-put_kept : goal.returns-in_err-put_kept
returns-in_err-put_kept c = rw c.from_residual.ensures (written-full c.requires.1 c.start-writer.ensures.begins c.in_err-put_kept.ensures)

pub count_kept-roots-requires : goal.count_kept-roots-requires
count_kept-roots-requires c =
    let g = c.requires.0 in
    (omega (arith, rows_inside_lem g, g.few, c.told-marks), omega (arith, at_least g), omega (arith, rows_inside_lem g, g.few))

pub count_kept-types-requires : goal.count_kept-types-requires
count_kept-types-requires c =
    let g = c.requires.0 in
    (omega (arith, rows_inside_lem g, g.few, c.told-marks), omega (arith, at_least g), omega (arith, rows_inside_lem g, g.few))

pub put_row0-requires : goal.put_row0-requires
put_row0-requires c =
    let g = c.requires.0 in (
      omega (arith, c.in_ok-put_kept.ensures.rows_length, ap length c.start-writer.ensures.begins.rows_are, c.requires.1.some_rows),
      omega (arith, c.count_kept-roots.ensures.upper_bound, rows_inside_lem g, g.few),
      omega (arith, c.count_kept-types.ensures.upper_bound, rows_inside_lem g, g.few),
    )

pub returns : goal.returns
returns c =
    let names = c.args.part.now.names.now in
    written-to c.requires.1 c.start-writer.ensures.begins c.in_ok-put_kept.ensures (c.count_kept-roots.ensures.fact names) (c.count_kept-types.ensures.fact names) c.put_row0.ensures
    (search rules) (search rules)
