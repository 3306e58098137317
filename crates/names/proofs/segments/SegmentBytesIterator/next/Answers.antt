-- `names::segments::SegmentBytes` gives its bytes one by one: the first character of what is left is passed, or its form has the next ones. Assumes nothing.
use Rattle.std.proofs.Common.{◌∙◌}
use Rattle.std.proofs.lemmas.List.{nil_from_length}
use Rattle.names.specs.Same.{bytes_left}
use Rattle.names.proofs.Laws.Read.{fewer, nothing-left, separator-passed, byte-kept, character-kept}
use Rattle.names.proofs.segments.SegmentBytesIterator.next.Goals as goal

pub returns-then-b-lt128-clause-steps : goal.returns-then-b-lt128-clause-steps
returns-then-b-lt128-clause-steps c =
    let s = c.loop-b.self in
    let i = c.loop-b.invariant in
    i.0 ∙ byte-kept s.reading s.separator s.lowers s.up s.rest.now i.1 s.plain _ _ c.in-Some.ensures.cases.0 _ c.if-b-lt128.true c.if-b-self.true c.cased_byte.ensures

pub returns-then-b-lt128-clause-goes : goal.returns-then-b-lt128-clause-goes
returns-then-b-lt128-clause-goes c = fewer bytes_left (returns-then-b-lt128-clause-steps c)

pub returns-then-b-self-clause-steps : goal.returns-then-b-self-clause-steps
returns-then-b-self-clause-steps c =
    let s = c.loop-b.self in
    let i = c.loop-b.invariant in
    let begun = c.begin-b.ensures in
    rw begun.reading
    (i.0 ∙ character-kept s.reading s.separator s.lowers s.up s.rest.now i.1 s.plain _ _ c.in-Some.ensures.cases.0 _ _ _ begun.form c.if-b-lt128.false begun.split begun.cased_is)

pub returns-then-b-self-clause-goes : goal.returns-then-b-self-clause-goes
returns-then-b-self-clause-goes c = fewer bytes_left (returns-then-b-self-clause-steps c)

pub loop-b-preserved : goal.loop-b-preserved
loop-b-preserved c =
    let s = c.loop-b.self in
    let i = c.loop-b.invariant in
    (i.0 ∙ separator-passed s.reading s.separator s.lowers s.up s.rest.now i.1 s.plain _ _ c.in-Some.ensures.cases.0 c.if-b-self.false, i.1)

pub returns-clause-steps : goal.returns-clause-steps
returns-clause-steps c =
    let s = c.loop-b.self in
    let i = c.loop-b.invariant in
    let e = nothing-left s.reading s.separator s.lowers s.up s.rest.now i.1 (nil_from_length _ c.in_default.ensures.cases) in
    (i.0 ∙ e, e)
