-- `program::print::put_row` meets its contract. Assumes nothing.
use Rattle.std.proofs.Common.{subst, add-one, arith}
use Rattle.std.proofs.lemmas.List.{take_all}
use Rattle.std.proofs.KnownBytes.{Appends-nil}
use Rattle.std.specs.Io.KnownBytes.{Appends}
use Rattle.program.specs.Print.{numbers_text}
use Rattle.program.proofs.Laws.Print.{written-more, numbers-step}
use Rattle.program.proofs.print.put_row.Goals as goal

pub loop-at-init : goal.loop-at-init
unfolding numbers_text
loop-at-init g c = Appends-nil _

pub loop-at-preserved : goal.loop-at-preserved
loop-at-preserved g c = written-more _ _ _ _ _ _ c.loop-at.invariant c.in_ok-write.ensures.bytes
    (rw (add-one, c.gap.ensures) (numbers-step 0 c.loop-at.at c.loop-at.at c.args.row.now c.loop-at-test.true (omega arith)))

pub returns : goal.returns
returns g c =
    subst (λ all. Appends (g.W.Write.contents c.args.out.now) (g.W.Write.contents c.loop-at.out) (numbers_text 0 all))
    (take_all c.loop-at.at c.args.row.now c.loop-at-test.false) c.loop-at.invariant
