-- `printing::graph_of` meets its contract: the buffers are empty, and the work leaves the graph's as long as they were. Assumes nothing.
use Rattle.std.proofs.Common.{◌++◌, drop, length, take, sym, subst, ◌∙◌}
use Rattle.std.proofs.lemmas.List.{take_at}
use Rattle.sheet.specs.Calls.{sheet}
use Rattle.printing.specs.Print.{Worked}
use Rattle.printing.proofs.Laws.Print.{worked-from}
use Rattle.printing.proofs.graph_of.Goals as goal

pub returns : goal.returns
returns c =
    let a = c.args in
    let made = c.work-made.result in
    let new = c.work-made.new in
    let schema = c.in_ok-schema.ensures in
    let graph = c.in_ok-graph.graph in
    let filled = c.in_ok-graph.ensures in
    let behind_rows = drop (length new.graph_rows) graph.rows.items in
    let behind_names = drop (length new.graph_names) graph.names.items in
    let rows = take_at new.graph_rows behind_rows graph.rows.len (c.work-made.auto.graph_rows ∙ c.deref_mut-3.ensures.len) in
    let names = take_at new.graph_names behind_names graph.names.len (c.work-made.auto.graph_names ∙ c.deref_mut-4.ensures.len) in
    subst (λ r. Worked a.text.now a.marks.now made.read made.lowered (sheet r (take graph.names.len (new.graph_names ++ behind_names)))) (sym rows)
    (subst (λ n. Worked a.text.now a.marks.now made.read made.lowered (sheet new.graph_rows n)) (sym names)
    (worked-from a.text.now a.marks.now made.read made.lowered _ _ _ _ _ _ _ _ (c.deref_mut.ensures.value ∙ schema.rows) (c.deref_mut-2.ensures.value ∙ schema.names)
    (c.deref_mut-3.ensures.value ∙ filled.rows) (c.deref_mut-4.ensures.value ∙ filled.names) (c.deref_mut-5.ensures.value ∙ c.in_ok-scratch.ensures) c.work-made.ensures))
