-- `ir_call::unknown_place` meets its contract: a count of 0 says that no row is refused. Assumes nothing.
use mathlib.Core.Path.{sym, ◌∙◌}
use native.Mathlib.Omega.{arith}
use Rattle.ir_call.proofs.Laws.Calls.{none-refused}
use Rattle.ir_call.proofs.unknown_place.Goals as goal

pub count_in-requires : goal.count_in-requires
count_in-requires c = omega (arith, c.requires.at_least, c.args.part.now.within)

pub returns-then-count_in-eq0 : goal.returns-then-count_in-eq0
returns-then-count_in-eq0 c =
    none-refused 2 _ (sym c.requires.count ∙ sym c.count_in.ensures ∙ c.if-count_in-eq0.true)
