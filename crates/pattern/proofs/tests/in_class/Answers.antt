-- `pattern::tests::in_class` meets its contract: the table is the definition's, and the bit of a class its discriminant. Assumes nothing.
use denote.Enum.Declared.{tag_of}
use mathlib.Core.Path.{◌≡◌, refl, ap}
use Rattle.pattern.specs.Answers.{class_bit, classes, has_class}
use Rattle.pattern.specs.contracts.tests.Class.{the_type}
use Rattle.pattern.specs.declared.tests.Class.{Class}
use Rattle.pattern.proofs.tests.in_class.Goals as goal

bit-tag : (class : Class) → tag_of the_type class ≡ class_bit class
bit-tag Class.Plain = refl
bit-tag Class.InClass = refl
bit-tag Class.Escaped = refl
bit-tag Class.Mark = refl

pub returns : goal.returns
unfolding classes has_class
returns c = ap (λ k. has_class k c.args.b) (bit-tag c.args.class)
