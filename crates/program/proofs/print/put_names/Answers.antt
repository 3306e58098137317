-- `program::print::put_names` meets its contract. Assumes nothing.
use Rattle.std.proofs.Common.{codes, ap, sym, ◌++◌}
use Rattle.program.specs.Print.{names_text}
use Rattle.program.proofs.Laws.Print.{written-last}
use Rattle.program.proofs.print.put_names.Goals as goal

pub returns : goal.returns
unfolding names_text
returns g c = written-last _ _ _ _ _ _ _ c.in_ok-write_all.ensures.bytes c.write_all-2.ensures.bytes (ap (λ t. t ++ codes "\n") (sym c.used_names.ensures))
