-- `ir_reduce::call::mark_reached` meets its contract: row 1 is marked, and then all that is reached from it. Assumes nothing.
use Prim.Native.Nat.{ℕ}
use mathlib.Core.Path.{ap, ◌∙◌}
use borrow.Author.Rules.{rules}
use native.Mathlib.Omega.{arith}
use lib.ListN.{length, length-replicate}
use Rattle.ir_reduce.proofs.Laws.Facts.{at_least, rows_inside_lem}
use Rattle.ir_reduce.proofs.Laws.Begin.{targets-start, room-first, marks-done}
use Rattle.ir_reduce.proofs.Laws.Queue.{marks_back}
use Rattle.ir_reduce.proofs.call.mark_reached.Goals as goal

pub put_targets-requires : goal.put_targets-requires
put_targets-requires c =
    let g = c.requires.0 in (
      c.requires.1,
      g.few,
      omega (arith, rows_inside_lem g, g.few, length-replicate {A = ℕ} 4096 0),
      omega (arith, at_least g),
      targets-start _ _ _ 4096,
    )

pub mark_all-requires : goal.mark_all-requires
mark_all-requires c =
    let g = c.requires.0 in
    let long = ap length c.requires.2 ∙ length-replicate {A = ℕ} 4096 0 in (
      room-first g c.requires.1.all.distinct c.put_targets.ensures.targets_put (c.put_targets.ensures.to_len_unchanged ∙ length-replicate {A = ℕ} 4096 0)
          (rw c.requires.2 at c.mark.ensures.marked) (c.mark.ensures.same.long ∙ long),
      omega (arith, rows_inside_lem g, g.few),
    )

pub returns : goal.returns
returns c =
    marks_back c.args.part.now c.mark.ensures.same c.mark_all.ensures.same
    (marks-done c.requires.0 c.put_targets.ensures.targets_put (rw c.requires.2 at c.mark.ensures.marked) c.mark_all.ensures.done) (search rules)
