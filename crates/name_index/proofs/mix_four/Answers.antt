-- `name_index::mix_four` meets its contract: the powers of the factor, reduced, do what the factor does four times. Assumes nothing.
use Rattle.name_index.proofs.Laws.Hash.{mixed-four}
use Rattle.name_index.proofs.mix_four.Goals as goal

pub returns : goal.returns
returns c = mixed-four c.args.h c.args.a c.args.b c.args.c c.args.d
