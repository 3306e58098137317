-- `text::trim_end` meets its contract. Assumes nothing.
use Rattle.std.proofs.Common.{rules, sym}
use Rattle.text.proofs.Laws.Std.{trim_end-at, white-from}
use Rattle.text.proofs.Laws.Trim.{trim_end-white}
use Rattle.text.proofs.trim_end.Goals as goal

pub returns-in-Some : goal.returns-in-Some
returns-in-Some c = sym (trim_end-at c.args.s.now c.in-Some.i (search rules) (search rules) (search rules))

pub returns-in-None : goal.returns-in-None
returns-in-None c = let s = c.args.s.now in sym (trim_end-white s (white-from s 0 (search rules)))
