-- `program::lines::behind` meets its contract. Assumes nothing.
use Rattle.std.proofs.Common.{rules, sym, ◌∙◌, ◌+◌, add-one}
use Rattle.text.proofs.Laws.Table.{part-from}
use Rattle.program.proofs.Laws.Lines.{behind-at, behind-none}
use Rattle.program.proofs.lines.behind.Goals as goal

pub returns-in-Some : goal.returns-in-Some
returns-in-Some c =
    let s = c.args.s.now in
    let end = c.in-Some.end in
    part-from s (end + 1) ∙ rw add-one (sym (behind-at c.args.c s end (search rules) (search rules) (search rules)))

pub returns-in-None : goal.returns-in-None
returns-in-None c = sym (behind-none c.args.c c.args.s.now (search rules))
