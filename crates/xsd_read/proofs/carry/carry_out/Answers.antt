-- `xsd_read::carry::carry_out` meets its contract: a sheet that is kept has room as it stands; else what is needed is asked for before anything is stored, and
-- the writers do the action. Assumes nothing.
use mathlib.Core.Path.{sym, ◌∙◌}
use native.Mathlib.Omega.{arith}
use Rattle.xsd_act.proofs.Laws.Room.{act-room}
use Rattle.xsd_read.proofs.Laws.Ready.{ready_at, ready_for, due-small, due-counters}
use Rattle.xsd_read.proofs.Laws.After.{stepped-refused, stepped-done, stepped_kept}
use Rattle.xsd_read.proofs.carry.carry_out.Goals as goal

pub stands_after-after-requires : goal.stands_after-after-requires
stands_after-after-requires c = due-counters c.requires

pub returns-in-Ok-Keep : goal.returns-in-Ok-Keep
returns-in-Ok-Keep c = stepped_kept c.requires c.in-Ok-Keep.is (rw c.in-Ok-Keep.is at c.in-Ok-Keep.field-0-is) (rw (← c.open_head_after-head.ensures) c.stands_after-after.ensures)

pub needed-need-requires : goal.needed-need-requires
needed-need-requires c = rw c.as_rows.ensures (record { ready = ready_for c.requires; small = due-small c.requires })

pub has_room-requires : goal.has_room-requires
has_room-requires c = let n = c.needed-need.ensures in rw n.is (omega (arith, n.needed.few))

pub returns-then-not-has_room : goal.returns-then-not-has_room
returns-then-not-has_room c = stepped-refused (rw c.as_rows.ensures at c.needed-need.ensures) (sym c.has_room.ensures ∙ c.if-not-has_room.true)

pub act-requires : goal.act-requires
act-requires c =
    let q = c.requires in
    act-room (rw c.as_rows.ensures at c.needed-need.ensures) (ready_at q.due.at) q.due.decided q.due.acted.fitting (sym c.has_room.ensures ∙ c.if-not-has_room.false)

pub returns : goal.returns
returns c =
    stepped-done (rw c.as_rows.ensures at c.needed-need.ensures) (sym c.has_room.ensures ∙ c.if-not-has_room.false)
    c.act.ensures (rw (← c.open_head_after-head.ensures) c.stands_after-after.ensures)
