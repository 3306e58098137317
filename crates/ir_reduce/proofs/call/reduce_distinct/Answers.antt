-- `ir_reduce::call::reduce_distinct` meets its contract: what is marked is what chains reach. Assumes nothing.
use Rattle.ir_reduce.proofs.Laws.Call.{reduction-of}
use Rattle.ir_reduce.proofs.call.reduce_distinct.Goals as goal

pub returns : goal.returns
returns c = reduction-of c.requires.0
    c.requires.2.all.distinct
    c.mark_reached.ensures
    c.requires.1
    c.place_graph.ensures
