-- `xsd_read::event::seen_of` meets its contract: a tag's own marks say of it what all marks say. Assumes nothing.
use mathlib.Core.Path.{ap, ◌∙◌}
use Rattle.xsd_parser.specs.Seen.{seen}
use Rattle.tape.proofs.Laws.Cut.{inside-cut, tag-cut}
use Rattle.xsd_read.proofs.event.seen_of.Goals as goal

pub event_marks-requires : goal.event_marks-requires
event_marks-requires c = c.requires.marks_inside

pub in_view-requires : goal.in_view-requires
in_view-requires c = let a = c.args in rw c.event_marks.ensures (inside-cut a.v.text.now a.v.marks.now a.t.pairs a.t.count c.requires)

pub returns : goal.returns
returns c = let a = c.args in rw c.event_marks.ensures at c.in_view.ensures ∙ ap seen (tag-cut a.v.text.now a.v.marks.now a.t.pairs a.t.count)
