-- `pattern::tests::is_plain` meets its contract: the table agrees with the definition at every byte. Assumes nothing.
use borrow.Author.Rules.{rules}
use mathlib.Core.Path.{refl, ◌∙◌}
use Rattle.text.specs.Text.{contains, bytes, between}
use Rattle.xml.specs.Classes.{is_char}
use Rattle.pattern.specs.Grammar.{is_normal, char_but}
use Rattle.pattern.specs.Scan.{is_single_char}
use Rattle.pattern.specs.Answers.{classes, has_class}
use Rattle.text.proofs.Laws.Agree.{same_bytes}
use Rattle.pattern.proofs.tests.is_plain.Goals as goal

pub returns : goal.returns
unfolding is_single_char is_normal char_but is_char contains bytes between classes has_class
returns c = c.in_class.ensures ∙ same_bytes (has_class 0) is_single_char refl c.args.b (search rules)
