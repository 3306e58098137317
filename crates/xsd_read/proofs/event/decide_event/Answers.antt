-- `xsd_read::event::decide_event` meets its contract: in each branch the kind is known, and so is the event; what is decided goes by what is seen of its tag.
-- Assumes nothing.
use mathlib.Core.Path.{ap, ◌∙◌}
use borrow.Author.Tests.{ne_eqb}
use Rattle.xsd_parser.specs.Tape.{event_of}
use Rattle.xsd_parser.specs.Seen.{Seen}
use Rattle.xsd_actions.specs.Decided.{decided_start, decided_empty, decided}
use Rattle.tape.specs.Answers.{record_event}
use Rattle.xsd_read.proofs.event.decide_event.Goals as goal

pub returns-then-t : goal.returns-then-t
unfolding decided record_event
returns-then-t c = rw c.if-t.true c.on_close.ensures

pub returns-then-t-2 : goal.returns-then-t-2
unfolding decided record_event event_of
returns-then-t-2 c =
    let a = c.args in
    rw c.if-t-2.true (c.on_start.ensures ∙ ap (λ (x : Seen). decided_start a.event x a.m a.head) c.seen_of-seen.ensures)

pub returns-else-t-2 : goal.returns-else-t-2
unfolding decided record_event event_of
returns-else-t-2 c =
    let a = c.args in
    rw (ne_eqb a.t.kind 3 c.if-t.false, ne_eqb a.t.kind 1 c.if-t-2.false)
    (c.on_empty.ensures ∙ ap (λ (x : Seen). decided_empty a.event x a.m a.head) c.seen_of-seen.ensures)
