-- `xsd_good::good_end` meets its contract: the test of the other sentences comes before the count. Assumes nothing.
use mathlib.Core.Path.{sym, ◌∙◌}
use Rattle.xsd_good.proofs.Laws.Bare.{good-not}
use Rattle.xsd_good.proofs.good_end.Goals as goal

pub returns-then-not-is_bare_good : goal.returns-then-not-is_bare_good
returns-then-not-is_bare_good c = good-not c.args.rows.now c.args.names.now (sym c.is_bare_good.ensures ∙ c.if-not-is_bare_good.true)
