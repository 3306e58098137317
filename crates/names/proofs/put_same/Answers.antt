-- `names::put_same` meets its contract: as many bytes as there is room for are copied. Assumes nothing.
use mathlib.Core.Path.{◌∙◌}
use mathlib.Core.List.{append-nil}
use native.Mathlib.Omega.{arith}
use lib.ListN.{length, drop_of_length-le}
use lib.Seq.{take_all}
use borrow.Author.Tests.{le-leb, lt-leb}
use Rattle.names.specs.Answers.{written, placed}
use Rattle.names.proofs.put_same.Goals as goal

pub returns-then-out-s : goal.returns-then-out-s
unfolding written placed
returns-then-out-s c =
    let a = c.args in
    let n = length a.s.now in
    let m = length a.out.now in
    record {
      counted = rw (lt-leb n m c.if-out-s.true);
      holds = c.copy_bytes.ensures ∙ rw (drop_of_length-le a.out.now {i = n} (omega (arith, c.if-out-s.true)), append-nil);
    }

pub returns : goal.returns
unfolding written placed
returns c =
    let a = c.args in
    let n = length a.s.now in
    let m = length a.out.now in
    record {
      counted = rw (le-leb n m c.if-out-s.false);
      holds = rw (c.copy_bytes-2.ensures, take_all m a.s.now (omega (arith, c.if-out-s.false)));
    }
