-- `name_index::stands_as_is` meets its contract: a name without an underscore normalises to itself. Assumes nothing.
use mathlib.Core.Path.{sym, ◌∙◌}
use mathlib.Core.Bool.{false≢true}
use borrow.Author.Tests.{not-true}
use Rattle.name_index.proofs.Laws.Hash.{spelled-plain}
use Rattle.name_index.proofs.stands_as_is.Goals as goal

pub returns-then-not-name : goal.returns-then-not-name
returns-then-not-name c e = spelled-plain c.args.name.normalised _ (λ t. absurd (false≢true (rw t at e)))

pub returns-else-not-name : goal.returns-else-not-name
returns-else-not-name c e = spelled-plain c.args.name.normalised _ (λ t. sym c.has_byte.ensures ∙ not-true _ e)
