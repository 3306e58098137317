-- `rows::row::row_of` meets its contract: each branch is one of the definition's cases, and what is used of the names fits a u32.
-- Assumes nothing.
use mathlib.Core.Path.{◌≡◌}
use native.Mathlib.Omega.{arith}
use Rattle.rows.proofs.Laws.Texts.{used-first, used-both}
use Rattle.rows.proofs.Laws.Made.{numbers-none, numbers-one, numbers-two}
use Rattle.rows.proofs.row.row_of.Goals as goal

pub returns-then-pairs-eq0 : goal.returns-then-pairs-eq0
returns-then-pairs-eq0 c t u p q = numbers-none _ _ t u c.if-pairs-eq0.true

pub overflow_cast-len : goal.overflow_cast-len
overflow_cast-len c =
    let a = c.args in
    omega (arith, used-first a.pairs a.first a.second c.if-pairs-eq0.false)

pub returns-then-pairs-eq1 : goal.returns-then-pairs-eq1
returns-then-pairs-eq1 c t u p q = numbers-one _ _ t u c.if-pairs-eq1.true p

pub overflow_add-result : goal.overflow_add-result
overflow_add-result c =
    let a = c.args in
    omega (arith, used-first a.pairs a.first a.second c.if-pairs-eq0.false)

pub overflow_cast-result : goal.overflow_cast-result
overflow_cast-result c =
    let a = c.args in
    omega (arith, used-both a.pairs a.first a.second c.if-pairs-eq0.false c.if-pairs-eq1.false)

pub returns : goal.returns
returns c t u p q =
    let two : c.args.pairs ≡ 2 = omega arith in
    numbers-two _ _ t u two p q
