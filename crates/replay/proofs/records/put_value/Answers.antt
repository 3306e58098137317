-- `replay::records::put_value` meets its contract: the record was read. Assumes nothing.
use Rattle.std.specs.Prelude.{Ok}
use mathlib.Core.Path.{ap, subst, ◌∙◌}
use Rattle.tape.specs.Answers.{IsPlaced}
use Rattle.replay.proofs.records.put_value.Goals as goal

pub tag_value-found-requires : goal.tag_value-found-requires
unfolding IsPlaced
tag_value-found-requires g c =
    let a = c.args in
    subst (IsPlaced a.v.text.now a.v.marks.now 0) (c.in-Ok-Some.is ∙ ap Ok c.in-Ok-Some.field-0-is) c.read_at.ensures.places
