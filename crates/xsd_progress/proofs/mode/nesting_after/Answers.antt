-- `xsd_progress::mode::nesting_after` meets its contract: the number of a flag is 1 or 0. Assumes nothing.
use native.Mathlib.Numerals.{add-one}
use native.Mathlib.Omega.{arith}
use Rattle.text.proofs.Laws.Tests.{bool_cases}
use Rattle.xsd_progress.specs.Modes.{nesting_of}
use Rattle.xsd_progress.proofs.mode.nesting_after.Goals as goal

pub returns : goal.returns
unfolding nesting_of
returns c = bool_cases c.args.raised (λ t. rw (c.from.ensures, t, add-one)) (λ f. rw (c.from.ensures, f) (omega arith))
