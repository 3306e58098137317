-- `xsd_write::call::write_finished` meets its contract: 12, then 22, then the text. Assumes nothing.
use Rattle.xsd_write.proofs.Laws.Calls.{zeros_filled, finished-rootless, finished-unheld, finished-held}
use Rattle.xsd_write.proofs.call.write_finished.Goals as goal

pub returns-then-not-root_seen : goal.returns-then-not-root_seen
returns-then-not-root_seen c = rw c.into.ensures (finished-rootless _ _ _ _ c.if-not-root_seen.true (zeros_filled _ (c.fill.ensures.after (λ y h. h))))

pub write_held-requires : goal.write_held-requires
write_held-requires c =
    record { end_at_least = c.requires; text_value = rw c.fill.auto.self (zeros_filled _ (c.fill.ensures.after (λ y h. h))) }

pub returns-in-Some : goal.returns-in-Some
returns-in-Some c =
    finished-unheld _ _ _ _ c.first_unheld.result c.if-not-root_seen.false c.first_unheld.ensures c.in-Some.is
    (zeros_filled _ (c.fill.ensures.after (λ y h. h)))

pub returns-in-None : goal.returns-in-None
returns-in-None c =
    finished-held _ _ _ _ c.first_unheld.result c.if-not-root_seen.false c.first_unheld.ensures _
    c.in-None.is c.fill.auto.self
    c.write_held.ensures
