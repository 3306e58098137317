-- `ir_reduce::call::reduce` meets its contract: 1, then 21, then what is reached. Assumes nothing.
use mathlib.Core.Path.{sym, ◌∙◌}
use native.Mathlib.Omega.{arith}
use Rattle.ir_reduce.specs.Call.{lengths_fit, in_form, Reduction}
use Rattle.ir_reduce.specs.Steps.{Graph}
use Rattle.ir_reduce.proofs.Laws.Begin.{source-lengths}
use Rattle.ir_reduce.proofs.Laws.Facts.{rows_inside_lem}
use Rattle.ir_reduce.proofs.call.reduce.Goals as goal

pub returns-then-not-both_sheet_lengths : goal.returns-then-not-both_sheet_lengths
unfolding lengths_fit
returns-then-not-both_sheet_lengths c = rw c.into.ensures (Reduction.bad_lengths (sym c.both_sheet_lengths.ensures ∙ c.if-not-both_sheet_lengths.true))

pub returns-then-not-is_form : goal.returns-then-not-is_form
unfolding lengths_fit in_form
returns-then-not-is_form c =
    rw c.into-then-not-is_form.ensures (Reduction.no_form (sym c.both_sheet_lengths.ensures ∙ c.if-not-both_sheet_lengths.false)
    (rw (sym c.is_form.ensures ∙ c.if-not-is_form.true)))

pub bounds-graph_rows-1 : goal.bounds-graph_rows-1
unfolding lengths_fit
bounds-graph_rows-1 c = omega (arith, source-lengths _ _ _ _ (sym c.both_sheet_lengths.ensures ∙ c.if-not-both_sheet_lengths.false))

pub invariant_of-part : goal.invariant_of-part
unfolding lengths_fit
invariant_of-part c =
    let a = c.args in
    let l = sym c.both_sheet_lengths.ensures ∙ c.if-not-both_sheet_lengths.false in
    let g : Graph a.graph_rows.now a.graph_names.now c.wide.result = record {
      form = sym c.is_form.ensures ∙ c.if-not-is_form.false;
      used = c.wide.ensures;
      few = (source-lengths _ _ _ _ l).1;
    } in
    omega (arith, rows_inside_lem g)

pub reduce_form-requires : goal.reduce_form-requires
unfolding lengths_fit
reduce_form-requires c =
    let l = sym c.both_sheet_lengths.ensures ∙ c.if-not-both_sheet_lengths.false in (
      record {
        form = sym c.is_form.ensures
            ∙ c.if-not-is_form.false;
        used = c.wide.ensures;
        few = (source-lengths _ _ _ _ l).1;
      },
      l,
    )
