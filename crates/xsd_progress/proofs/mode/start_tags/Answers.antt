-- `xsd_progress::mode::start_tags` meets its contract: the branch is the one that the definition takes. Assumes nothing.
use native.Mathlib.Numerals.{add-one}
use borrow.Author.Tests.{lt-ltb, le-ltb}
use Rattle.xsd_parser.specs.Step.{tags_after}
use Rattle.xsd_progress.specs.Answers.{tags}
use Rattle.xsd_progress.proofs.mode.start_tags.Goals as goal

pub returns-then-open_tags-lt-OPEN_TAGS : goal.returns-then-open_tags-lt-OPEN_TAGS
unfolding tags tags_after
returns-then-open_tags-lt-OPEN_TAGS c = λ t. rw (lt-ltb c.args.open_tags 255 c.if-open_tags-lt-OPEN_TAGS.true, add-one)

pub returns-else-open_tags-lt-OPEN_TAGS : goal.returns-else-open_tags-lt-OPEN_TAGS
unfolding tags tags_after
returns-else-open_tags-lt-OPEN_TAGS c = λ t. rw (le-ltb c.args.open_tags 255 c.if-open_tags-lt-OPEN_TAGS.false)
