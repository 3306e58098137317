-- `ir_call::write_graph` meets its contract: the graph's rows are added to a sheet of zeros, and row 0 is set. Assumes nothing.
use mathlib.Core.Path.{ap, ◌∙◌}
use native.Mathlib.Omega.{arith}
use lib.ListN.{length}
use borrow.Author.Rules.{rules}
use Rattle.ir_call.proofs.Laws.Few.{roots_few, types-twice}
use Rattle.ir_call.proofs.Laws.Graph.{graph-short, graph-stands}
use Rattle.ir_call.proofs.write_graph.Goals as goal

pub put_graph-requires : goal.put_graph-requires
put_graph-requires c =
    c.requires.0.at_least

pub returns-in_err-put_graph : goal.returns-in_err-put_graph
returns-in_err-put_graph c =
    rw c.from_residual.ensures (λ g o. graph-short c.requires.1 c.start-writer.ensures.begins g o.rows_are c.in_err-put_graph.ensures)

pub put_row0-requires : goal.put_row0-requires
put_row0-requires c =
    let a = c.args in
    let b = c.start-writer.ensures.begins in
    let f = c.requires.0 in (
      omega (arith, c.in_ok-put_graph.ensures.rows_length, ap length b.rows_are, c.requires.1.some_rows),
      omega (arith, c.count_roots.ensures a.part.now.names.now, roots_few a.part.now, a.part.now.within, f.few),
      omega (arith, c.count_types.ensures a.part.now.names.now, types-twice a.part.now, a.part.now.within, f.few),
    )

pub returns : goal.returns
returns c =
    let a = c.args in
    λ g o. graph-stands c.requires.1 c.start-writer.ensures.begins g o.rows_are c.in_ok-put_graph.ensures
    (c.count_roots.ensures a.part.now.names.now ∙ o.roots) (c.count_types.ensures a.part.now.names.now ∙ o.types) c.put_row0.ensures (search rules) (search rules)
