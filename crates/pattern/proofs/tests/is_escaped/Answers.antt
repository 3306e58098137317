-- `pattern::tests::is_escaped` meets its contract: the table agrees with the definition at every byte. Assumes nothing.
use borrow.Author.Rules.{rules}
use mathlib.Core.Path.{refl, ◌∙◌}
use Rattle.text.specs.Text.{contains, bytes}
use Rattle.pattern.specs.Grammar.{is_single, is_multi}
use Rattle.pattern.specs.Scan.{is_escaped}
use Rattle.pattern.specs.Answers.{classes, has_class}
use Rattle.text.proofs.Laws.Agree.{same_bytes}
use Rattle.pattern.proofs.tests.is_escaped.Goals as goal

pub returns : goal.returns
unfolding is_escaped is_single is_multi contains bytes classes has_class
returns c = c.in_class.ensures ∙ same_bytes (has_class 2) is_escaped refl c.args.b (search rules)
