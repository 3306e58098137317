-- `number::parse_u32` meets its contract: what a text gives below the smaller limit is what it gives below the larger, where that fits. Assumes nothing.
use mathlib.Core.Path.{sym, ap, ◌∙◌}
use Rattle.number.specs.Answers.{of_number}
use Rattle.number.proofs.Laws.Narrow.{narrow, narrow-none}
use Rattle.number.proofs.parse_u32.Goals as goal

pub returns-in_err-parse_u64 : goal.returns-in_err-parse_u64
returns-in_err-parse_u64 c =
    ap of_number c.from_residual.ensures ∙ sym (narrow-none c.args.s.now (sym c.parse_u64.ensures ∙ ap of_number c.in_err-parse_u64.was))

pub returns : goal.returns
returns c =
    ap of_number c.ok.ensures.value ∙ narrow c.try_from.result c.in_ok-parse_u64.field-0 c.args.s.now (sym c.parse_u64.ensures ∙ ap of_number c.in_ok-parse_u64.was) c.try_from.ensures
