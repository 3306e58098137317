-- `pattern::tests::is_mark` meets its contract: the table agrees with the definition at every byte. Assumes nothing.
use borrow.Author.Rules.{rules}
use mathlib.Core.Path.{refl, ◌∙◌}
use Rattle.text.specs.Text.{contains, bytes}
use Rattle.pattern.specs.Grammar.{is_mark}
use Rattle.pattern.specs.Answers.{classes, has_class}
use Rattle.text.proofs.Laws.Agree.{same_bytes}
use Rattle.pattern.proofs.tests.is_mark.Goals as goal

pub returns : goal.returns
unfolding is_mark contains bytes classes has_class
returns c = c.in_class.ensures ∙ same_bytes (has_class 3) is_mark refl c.args.b (search rules)
