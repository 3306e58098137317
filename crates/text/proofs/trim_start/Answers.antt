-- `text::trim_start` meets its contract. Assumes nothing.
use Rattle.std.proofs.Common.{rules, sym, ◌∙◌}
use Rattle.text.proofs.Laws.Table.{part-from}
use Rattle.text.proofs.Laws.Std.{trim_start-first, trim_start-white, white-from}
use Rattle.text.proofs.trim_start.Goals as goal

pub returns-in-Some : goal.returns-in-Some
returns-in-Some c =
    let s = c.args.s.now in
    part-from s _ ∙ sym (trim_start-first s c.in-Some.i (search rules) (search rules) (search rules))

pub returns-in-None : goal.returns-in-None
returns-in-None c = let s = c.args.s.now in sym (trim_start-white s (white-from s 0 (search rules)))
