-- `tape::short::same_short` meets its contract: texts of other lengths differ. Assumes nothing.
use mathlib.Core.Path.{sym, ap}
use Rattle.text.proofs.Laws.Texts.{same-differ}
use lib.ListN.{length}
use Rattle.tape.proofs.short.same_short.Goals as goal

pub returns-then-a-b : goal.returns-then-a-b
returns-then-a-b c = sym (same-differ c.args.a.now c.args.b.now (λ e. c.if-a-b.true (ap (λ s. length s) e)))
