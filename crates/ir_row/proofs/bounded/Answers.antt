-- `ir_row::bounded` meets its contract: each branch is the one that the definition takes. Assumes nothing.
use borrow.Author.Tests.{lt-ltb, le-ltb}
use Rattle.ir_lower.specs.Lower.{lower_cardinality}
use Rattle.ir_row.proofs.bounded.Goals as goal

pub returns-then-max-gt1 : goal.returns-then-max-gt1
unfolding lower_cardinality
returns-then-max-gt1 c =
    let more = lt-ltb 1 c.args.max c.if-max-gt1.true in
    rw more

pub returns-then-min-max : goal.returns-then-min-max
unfolding lower_cardinality
returns-then-min-max c =
    let few = le-ltb 1 c.args.max c.if-max-gt1.false in
    rw (few, c.if-min-max.true)

pub returns-else-min-max : goal.returns-else-min-max
unfolding lower_cardinality
returns-else-min-max c =
    let few = le-ltb 1 c.args.max c.if-max-gt1.false in
    rw (few, c.if-min-max.false)
