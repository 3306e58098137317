-- `builtin::slot_of` meets its contract: the definition's test, then its sum. Assumes nothing.
use lib.ListN.{length}
use borrow.Author.Tests.{lt-ltb, le-ltb}
use Rattle.builtin.specs.Answers.{slot_of}
use Rattle.builtin.proofs.slot_of.Goals as goal

pub returns-then-n-gt18 : goal.returns-then-n-gt18
unfolding slot_of
returns-then-n-gt18 c =
    let t = lt-ltb 18 (length c.args.word.now) c.if-n-gt18.true in
    rw t

pub returns : goal.returns
unfolding slot_of
returns c =
    let t = le-ltb 18 (length c.args.word.now) c.if-n-gt18.false in
    rw (t, c.byte_at-first.ensures, c.byte_at-fourth.ensures, c.byte_at-ninth.ensures)
