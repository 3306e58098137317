-- `ir_label::words::line_end` meets its contract. Assumes nothing.
use Rattle.std.proofs.Common.{◌+◌, drop, ap, ◌∙◌, arith, length-drop}
use Rattle.text.proofs.Laws.Table.{part-from}
use Rattle.ir_label.specs.Lines.{line_length}
use Rattle.ir_label.proofs.Laws.Lines.{line-bound}
use Rattle.ir_label.proofs.words.line_end.Goals as goal

pub overflow_add-result : goal.overflow_add-result
overflow_add-result c =
    let rest = c.line_length.ensures ∙ ap line_length (part-from c.args.words.now c.args.at) in
    omega (arith, rest, line-bound (drop c.args.at c.args.words.now), length-drop c.args.at c.args.words.now)
