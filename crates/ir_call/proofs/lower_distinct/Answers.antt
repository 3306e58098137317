-- `ir_call::lower_distinct` meets its contract: the graph, or 15 with the graph cleared. Assumes nothing.
use Rattle.ir_lower.specs.Call.{zeros}
use Rattle.ir_call.proofs.Laws.Calls.{refusal_at_0, known-full, known-stands}
use mathlib.Core.Path.{refl}
use Rattle.ir_call.proofs.lower_distinct.Goals as goal

pub returns-in_default : goal.returns-in_default
unfolding zeros
returns-in_default c =
    let a = c.args in
    let w = c.write_graph in
    λ g scratch o. known-full a.graph_rows.now a.graph_names.now scratch g w.new.graph_rows w.new.graph_names
    (rw c.in_default.is at (w.ensures g o)) (refusal_at_0 c.into.ensures) w.auto.graph_rows c.zero_graph.ensures.0 w.auto.graph_names c.zero_graph.ensures.1

pub returns : goal.returns
returns c = λ g scratch o. known-stands c.args.graph_rows.now c.args.graph_names.now scratch g (rw c.in-Some.is at (c.write_graph.ensures g o)) refl
