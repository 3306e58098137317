-- `ir_reduce::place::place_graph` meets its contract: the target is cleared, and the kept rows are written into it, or it is cleared again. Assumes nothing.
use Rattle.std.proofs.Common.{Err, refl, ap}
use native.Mathlib.Omega.{arith}
use Rattle.rows.specs.Answers.{answer_of}
use Rattle.rows.specs.declared.answers.Refused.{Refused}
use Rattle.ir_reduce.specs.Parts.{part_sheet}
use Rattle.ir_reduce.proofs.Laws.Call.{cleared_by, placed-tight, placed-fitting}
use Rattle.ir_reduce.proofs.place.place_graph.Goals as goal

pub write_graph-requires : goal.write_graph-requires
write_graph-requires c =
    let a = c.args in
    let z = c.zero_graph.ensures in
    (c.requires.0, cleared_by (part_sheet a.part.now) a.rows.now a.names.now c.requires.1 z.0 z.1)

pub returns-in_default : goal.returns-in_default
returns-in_default c =
    let a = c.args in
    let z = c.zero_graph.auto in
    let w = c.write_graph.auto in
    let again = c.zero_graph-in_default.ensures in
    placed-tight a.rows.now a.names.now _ _ _ c.in_default.ensures again.0 again.1 (ap (λ (r : Refused). answer_of (Err r)) c.into.ensures)
    (omega (arith, z)) (omega (arith, z)) (omega (arith, z, w)) (omega (arith, z, w))

pub returns : goal.returns
returns c =
    let a = c.args in
    let z = c.zero_graph.auto in
    placed-fitting a.rows.now a.names.now _ _ _ c.in-Some.ensures refl (omega (arith, z)) (omega (arith, z))
