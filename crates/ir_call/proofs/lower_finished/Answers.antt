-- `ir_call::lower_finished` meets its contract: the graph is cleared before the steps from 12 on, and the scratch behind them. Assumes nothing.
use Rattle.ir_lower.specs.Call.{zeros}
use Rattle.ir_call.proofs.Laws.Calls.{cleared-zeros, finished-cleared}
use Rattle.ir_call.proofs.lower_finished.Goals as goal

pub lower_cleared-answer-requires : goal.lower_cleared-answer-requires
unfolding zeros
lower_cleared-answer-requires c =
    let z = c.zero_graph.ensures in
    (c.requires.0, rw (z.0, z.1) (cleared-zeros c.requires.1), c.requires.2)

pub returns : goal.returns
unfolding zeros
returns c =
    let a = c.args in
    let z = c.zero_graph.ensures in
    λ s l. finished-cleared s a.graph_rows.now a.graph_names.now a.scratch.now _ (rw (← z.0, ← z.1) (c.lower_cleared-answer.ensures s l))
    c.lower_cleared-answer.auto.scratch (c.fill.ensures.after (λ y h. h))
