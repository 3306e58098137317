-- `xsd_progress::head::head_tag` meets its contract: the open head's tag is the first number of its row, and that row is inside the sheet. Assumes nothing.
use native.Mathlib.Omega.{arith}
use Rattle.xsd_progress.proofs.Laws.Open.{head-none-open, head-tag-at, head-inside}
use Rattle.xsd_progress.proofs.head.head_tag.Goals as goal

pub returns-then-context-lt-SIMPLE_TYPE : goal.returns-then-context-lt-SIMPLE_TYPE
returns-then-context-lt-SIMPLE_TYPE c = record { is = λ names used z ns r h e p. head-none-open r.context (omega arith) }

pub returns-then-head-rows : goal.returns-then-head-rows
returns-then-head-rows c = record { is = λ names used z ns r h e p. head-tag-at ns r h.packs (omega arith) c.args.head (p (omega arith)) }

pub returns-else-head-rows : goal.returns-else-head-rows
returns-else-head-rows c = record { is = λ names used z ns r h e p. absurd (let no : ⊥ = omega (arith, head-inside ns r h.packs (omega arith), p (omega arith)) in no) }
