-- `xsd_read::records::read_records` meets its contract. The loop's invariant: the sheet holds the rows of a state from which the rest of the marks leads to
-- the whole reading. The measure is how many marks are left. Assumes nothing.
use native.Mathlib.Omega.{arith}
use Rattle.xsd_read.proofs.Laws.Loop.{reads_first, reads_end, reads-form, followed, reads-refuse, reads-next, event-room}
use Rattle.xsd_read.proofs.records.read_records.Goals as goal

pub loop-t-init : goal.loop-t-init
loop-t-init c =
    let a = c.args in
    reads_first a.sheet.now a.v.text.now a.v.marks.now a.from

pub record_at-requires : goal.record_at-requires
record_at-requires c = c.is_plain-plain.ensures

pub returns-in-Ok-None : goal.returns-in-Ok-None
returns-in-Ok-None c = reads_end c.loop-t.invariant c.record_at.ensures c.in-Ok-None.is c.in-Ok-None.field-0-is

pub returns-in-Err : goal.returns-in-Err
returns-in-Err c = rw c.stopped_at.ensures
    (reads-form _ c.loop-t.invariant c.record_at.ensures c.in-Err.is)

pub on_event-requires : goal.on_event-requires
on_event-requires c =
    let f = followed _ c.record_at.ensures c.in-Ok-Some.is c.in-Ok-Some.field-0-is in
    record { event_room = event-room c.requires c.loop-t.invariant f; tag_inside = f.inside }

pub returns-in-Err-on_event : goal.returns-in-Err-on_event
returns-in-Err-on_event c = rw c.stopped_at-in-Err-on_event.ensures
    (reads-refuse _ c.loop-t.invariant
    (followed _ c.record_at.ensures
    c.in-Ok-Some.is c.in-Ok-Some.field-0-is)
    c.on_event.ensures c.in-Err-on_event.is)

pub overflow_add-place : goal.overflow_add-place
overflow_add-place c =
    let w = c.loop-t.invariant in
    let f = followed _ c.record_at.ensures
    c.in-Ok-Some.is c.in-Ok-Some.field-0-is in
    omega (
      arith,
      w.counted,
      f.later,
      f.within,
      c.well_formed,
    )

pub loop-t-smaller : goal.loop-t-smaller
loop-t-smaller c =
    let f = followed _ c.record_at.ensures
    c.in-Ok-Some.is c.in-Ok-Some.field-0-is in
    omega (arith, f.later, f.within)

pub loop-t-preserved : goal.loop-t-preserved
loop-t-preserved c = reads-next _ c.loop-t.invariant
    (followed _ c.record_at.ensures
    c.in-Ok-Some.is c.in-Ok-Some.field-0-is)
    c.on_event.ensures c.in-Ok.is
