-- `xml_parts::steps::until_over` meets its contract: bytes that need no look, then some that are looked at. The loop's invariant: the search from i on ends where the search
-- from the start on ends. The measure is how much is left. Assumes nothing.
use native.Mathlib.Omega.{arith}
use mathlib.Core.Path.{sym, ◌∙◌}
use Rattle.xml.proofs.Laws.Steps.{until_end}
use Rattle.xml_parts.proofs.Laws.Skips.{until-over}
use Rattle.xml_parts.proofs.steps.until_over.Goals as goal

pub loop-i-init : goal.loop-i-init
loop-i-init g c = (omega arith, until-over c.skip-i.ensures c.args.word.now c.requires)

pub loop-i-smaller : goal.loop-i-smaller
loop-i-smaller g c = omega (arith, c.skip-next.ensures.from, c.loop-i.invariant.0, c.min-to.ensures, c.saturating_add.ensures)

pub loop-i-preserved : goal.loop-i-preserved
loop-i-preserved g c = (omega arith, until-over c.skip-next.ensures c.args.word.now c.requires ∙ c.in_default.ensures ∙ c.loop-i.invariant.1)

pub returns : goal.returns
returns g c =
    let a = c.args in
    sym (until_end a.word.now a.text.now c.loop-i.i c.loop-i.i c.loop-i-test.false) ∙ c.loop-i.invariant.1
