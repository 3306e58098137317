-- `lubiksan::label::lubiksan_label` meets its contract: it stores what was found, field by field. Assumes nothing.
use Rattle.std.proofs.Common.{refl, sym, ap, ◌∙◌}
use Rattle.sheet.specs.Rows.{bit}
use Rattle.sheet.specs.Returned.{refusal_number}
use Rattle.ir_types.specs.Label.{Labelled, no_label}
use Rattle.lubiksan.proofs.label.lubiksan_label.Goals as goal

pub returns-in-Ok : goal.returns-in-Ok
returns-in-Ok c =
    let found = c.in-Ok.ensures in
    record { number = sym found.number; in_words = c.from.ensures ∙ sym (ap bit found.buffer); starts = sym found.at; long = sym found.len }

pub returns-in-Err : goal.returns-in-Err
unfolding no_label bit
returns-in-Err c =
    rw c.in-Err.ensures.0 (record { number = c.from-in-Err.ensures ∙ ap refusal_number c.in-Err.ensures.1; in_words = refl; starts = refl; long = refl })
