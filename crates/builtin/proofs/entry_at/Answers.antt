-- `builtin::entry_at` meets its contract: the table is the list of built-in names. Assumes nothing.
use Rattle.std.proofs.Common.{◌∙◌}
use Rattle.text.specs.Text.{bytes}
use Rattle.builtin.specs.Builtin.{builtins}
use Rattle.builtin.proofs.Laws.Builtins.{named-at}
use Rattle.builtin.proofs.entry_at.Goals as goal

pub returns : goal.returns
unfolding builtins bytes
returns c = c.entry_of.ensures ∙ named-at c.args.k _ c.requires
