-- `printing::put_answer` meets its contract. Assumes nothing.
use Rattle.std.proofs.Common.{subst}
use Rattle.std.specs.Prelude.{OnOk}
use Rattle.std.specs.Io.KnownBytes.{Appends}
use Rattle.printing.specs.Print.{answer_text}
use Rattle.printing.proofs.put_answer.Goals as goal

pub returns : goal.returns
unfolding answer_text
returns g c = subst (λ a. OnOk c.writeln.result
    (Appends (g.W.Write.contents c.args.out.now) (g.W.Write.contents c.writeln.new.self) (answer_text c.args.word.now a))) c.told-number.ensures c.writeln.ensures.bytes
