-- `rows::form::in_heads` meets its contract: the test is the definition's. Assumes nothing.
use mathlib.Core.Path.{◌∙◌}
use native.Mathlib.Omega.{arith}
use lib.Dec.{leb}
use borrow.Author.Tests.{leb-true, leb-false}
use Rattle.std.proofs.Math.Nat.{min-eq_left, min-eq_right}
use Rattle.text.proofs.Laws.Tests.{bool_cases}
use Rattle.rows.specs.Table.{has_bit}
use Rattle.rows.proofs.Laws.Table.{small-head, large-head}
use Rattle.rows.proofs.form.in_heads.Goals as goal

pub returns : goal.returns
unfolding has_bit
returns c =
    let a = c.args in
    bool_cases (leb a.head 31)
    (λ e. rw (c.min.ensures, min-eq_left (leb-true a.head 31 e)) (small-head a.heads a.head (leb-true a.head 31 e)))
    (λ e. rw (c.min.ensures, min-eq_right {n = 31} {m = a.head} (omega (arith, leb-false a.head 31 e))) (large-head a.heads a.head (leb-false a.head 31 e)))
