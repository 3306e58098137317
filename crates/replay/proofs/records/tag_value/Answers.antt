-- `replay::records::tag_value` meets its contract: a record that is no close was judged as a tag. Assumes nothing.
use Rattle.tape.proofs.Laws.Cut.{inside-cut}
use Rattle.replay.proofs.records.tag_value.Goals as goal

pub event_marks-own-requires : goal.event_marks-own-requires
event_marks-own-requires c = (c.requires.tag c.if-t.false).inside.marks_inside

pub in_view-requires : goal.in_view-requires
in_view-requires c =
    let a = c.args in
    rw c.event_marks-own.ensures (inside-cut a.v.text.now a.v.marks.now a.t.pairs a.t.count (c.requires.tag c.if-t.false).inside)
