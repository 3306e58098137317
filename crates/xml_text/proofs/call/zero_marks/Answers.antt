-- `xml_text::call::zero_marks` meets its contract: zeros over the rest of the marks. Assumes nothing.
use mathlib.Core.Path.{◌∙◌}
use native.Mathlib.Omega.{arith}
use Rattle.buffer.proofs.Laws.Zeros.{part-zeroed}
use Rattle.xml_text.proofs.Laws.Call.{zeros-behind}
use Rattle.xml_text.proofs.call.zero_marks.Goals as goal

pub returns : goal.returns
returns c =
    let m = c.args.marks.now in
    part-zeroed c.args.from _ m _ c.requires (omega arith) (c.fill.ensures.after (λ y h. h)) ∙ zeros-behind m c.args.from c.requires
