-- `pattern::aside::has_many_opens` meets its contract: no more bytes are counted than there are. Assumes nothing.
use Rattle.std.proofs.Common.{arith, sym}
use borrow.Author.Tests.{le-ltb}
use Rattle.pattern.proofs.Laws.Aside.{count-le}
use Rattle.pattern.proofs.aside.has_many_opens.Goals as goal

pub returns-then-s : goal.returns-then-s
returns-then-s c = sym (le-ltb 32 _ (omega (arith, count-le 40 c.args.s.now)))
