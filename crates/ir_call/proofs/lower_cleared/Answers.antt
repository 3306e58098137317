-- `ir_call::lower_cleared` meets its contract: 12, 13, and else what is written. Assumes nothing.
use mathlib.Core.Path.{refl, sym}
use native.Mathlib.Omega.{arith}
use Rattle.ir_call.proofs.Laws.Calls.{refusal_at_0, finished-rootless, finished-unknown, finished-known}
use Rattle.ir_call.proofs.lower_cleared.Goals as goal

pub returns-then-not-root_seen : goal.returns-then-not-root_seen
returns-then-not-root_seen c = λ s l. finished-rootless l c.requires.1 c.args.scratch.now c.if-not-root_seen.true (refusal_at_0 c.into.ensures)

pub returns-in-Some : goal.returns-in-Some
returns-in-Some c =
    λ s l. finished-unknown l c.requires.1 c.args.scratch.now c.if-not-root_seen.false (λ e. omega (arith, c.in-Some.ensures, e)) (sym c.in-Some.ensures.1) refl

pub returns : goal.returns
returns c = λ s l. finished-known l c.requires.1 c.args.scratch.now c.if-not-root_seen.false (sym c.in_default.ensures) c.lower_known.ensures
