-- `program::lines::before` meets its contract. Assumes nothing.
use Rattle.std.proofs.Common.{rules, sym}
use Rattle.program.proofs.Laws.Lines.{before-at, before-none}
use Rattle.program.proofs.lines.before.Goals as goal

pub returns-in-Some : goal.returns-in-Some
returns-in-Some c = sym (before-at c.args.c c.args.s.now c.in-Some.end (search rules) (search rules) (search rules))

pub returns-in-None : goal.returns-in-None
returns-in-None c = sym (before-none c.args.c c.args.s.now (search rules))
