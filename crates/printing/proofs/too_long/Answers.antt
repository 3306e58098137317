-- `printing::too_long` meets its contract: the code is the definition, test by test. Assumes nothing.
use Rattle.std.proofs.Common.{rules}
use Rattle.printing.specs.Input.{too_long}
use Rattle.printing.proofs.Laws.Input.{read-long}
use Rattle.printing.proofs.too_long.Goals as goal

pub returns : goal.returns
unfolding too_long
returns c =
    let s = c.args.input.now in
    let text = read-long s 0 65536 c.number_at.result c.is_some_and-text.result c.number_at.ensures (search rules) in
    let marks = read-long s 4 16384 c.number_at-2.result c.is_some_and-marks.result c.number_at-2.ensures (search rules) in
    rw (text, marks)
