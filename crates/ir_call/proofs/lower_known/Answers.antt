-- `ir_call::lower_known` meets its contract: the search leaves the graph's zeros; 20, and else what is written. Assumes nothing.
use Prim.Native.Nat.{ℕ}
use mathlib.Core.List.{List}
use mathlib.Core.Path.{refl, ap, ◌∙◌}
use Rattle.sheet.specs.Calls.{sheet}
use Rattle.ir_lower.specs.Call.{zeros, graph_written}
use Rattle.ir_index.specs.Blocks.{found_row}
use Rattle.ir_call.proofs.Laws.Calls.{known-repeated, known-once}
use Rattle.ir_call.proofs.lower_known.Goals as goal

pub returns-in-Some : goal.returns-in-Some
unfolding found_row zeros
returns-in-Some c =
    let a = c.args in
    let same = c.in-Some.ensures.kept c.requires.1.rows_zero in
    λ g o. rw same (known-repeated a.graph_rows.now a.graph_names.now a.scratch.now g _ c.in-Some.ensures.found c.requires.1 refl)

pub lower_distinct-requires : goal.lower_distinct-requires
unfolding zeros
lower_distinct-requires c =
    (c.requires.0, rw (c.in_default.ensures.kept c.requires.1.rows_zero) c.requires.1)

pub returns : goal.returns
unfolding found_row zeros
returns c =
    let a = c.args in
    let same = c.in_default.ensures.kept c.requires.1.rows_zero in
    λ g o. known-once a.graph_rows.now a.graph_names.now a.scratch.now g _ c.in_default.ensures.found
    (c.lower_distinct.ensures g a.scratch.now o ∙ ap (λ (rows : List ℕ). graph_written g (sheet rows a.graph_names.now) a.scratch.now) same)
