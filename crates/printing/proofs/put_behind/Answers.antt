-- `printing::put_behind` meets its contract. Assumes nothing.
use Rattle.std.proofs.Common.{ap, drop, subst, take, ◌∙◌}
use Rattle.std.specs.Prelude.{OnOk}
use Rattle.printing.specs.Print.{TapePrinted, numbers_read}
use Rattle.printing.proofs.put_behind.Goals as goal

pub returns : goal.returns
returns g c =
    let a = c.args in
    let old = g.W.Write.contents a.out.now in
    let new = g.W.Write.contents c.write_tape.new.out in
    let parts = c.split_at-2.ensures in
    let text = parts.front ∙ ap (take a.text) c.split_at.ensures.back in
    let marks = c.numbers_of.ensures ∙ ap (numbers_read a.marks) (parts.back ∙ ap (drop a.text) c.split_at.ensures.back) in
    subst (λ t. OnOk c.write_tape.result (TapePrinted t (numbers_read a.marks (drop a.text (drop 8 a.input.now))) old new)) text
    (subst (λ m. OnOk c.write_tape.result (TapePrinted c.split_at-2.result.0.now m old new)) marks c.write_tape.ensures)
