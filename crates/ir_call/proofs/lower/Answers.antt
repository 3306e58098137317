-- `ir_call::lower` meets its contract: 1 and 2 leave everything, and a good sheet is lowered. Assumes nothing.
use mathlib.Core.Path.{sym, ◌∙◌}
use Rattle.ir_call.proofs.Laws.Calls.{refusal_at_0, lower-one, lower-two, lower-through, sized-both}
use Rattle.ir_call.proofs.lower.Goals as goal

pub returns-then-not-both_sheet_lengths : goal.returns-then-not-both_sheet_lengths
returns-then-not-both_sheet_lengths c =
    let a = c.args in
    lower-one a.rows.now a.names.now a.graph_rows.now a.graph_names.now a.scratch.now (refusal_at_0 c.into.ensures)
    (sym c.both_sheet_lengths.ensures ∙ c.if-not-both_sheet_lengths.true)

pub returns-then-not-is_good : goal.returns-then-not-is_good
returns-then-not-is_good c =
    let a = c.args in
    lower-two a.rows.now a.names.now a.graph_rows.now a.graph_names.now a.scratch.now (refusal_at_0 c.into-then-not-is_good.ensures)
    (sym c.both_sheet_lengths.ensures ∙ c.if-not-both_sheet_lengths.false) (sym c.is_good.ensures ∙ c.if-not-is_good.true)

pub lower_good-requires : goal.lower_good-requires
lower_good-requires c =
    let a = c.args in
    let sizes = sized-both a.rows.now a.names.now a.graph_rows.now a.graph_names.now a.scratch.now
    (sym c.both_sheet_lengths.ensures ∙ c.if-not-both_sheet_lengths.false) in
    (sym c.is_good.ensures ∙ c.if-not-is_good.false, sizes.0, sizes.1)

pub returns : goal.returns
returns c =
    let a = c.args in
    lower-through a.rows.now a.names.now a.graph_rows.now a.graph_names.now a.scratch.now
    (sym c.both_sheet_lengths.ensures ∙ c.if-not-both_sheet_lengths.false)
    (sym c.is_good.ensures ∙ c.if-not-is_good.false) c.lower_good.ensures
