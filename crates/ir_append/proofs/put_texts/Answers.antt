-- `ir_append::put_texts` meets its contract: each text is stored behind the one before, and where one has no room the three together have none.
-- Assumes nothing.
use native.Mathlib.Omega.{arith}
use Rattle.ir_append.proofs.Laws.Stored.{short-first, short-second, short-third, spread}
use Rattle.ir_append.proofs.put_texts.Goals as goal

pub returns-in_err-n : goal.returns-in_err-n
returns-in_err-n c =
    let a = c.args in
    rw c.from_residual.ensures (short-first a.names.now a.at a.recipe a.first.now a.second.now c.in_err-n.ensures)

pub overflow_add-at : goal.overflow_add-at
overflow_add-at c = omega (arith, c.in_ok-n.ensures.inside)

pub returns-in_err-m : goal.returns-in_err-m
returns-in_err-m c =
    let a = c.args in
    rw c.from_residual-in_err-m.ensures (short-second a.names.now a.at a.recipe a.first.now a.second.now c.in_ok-n.ensures c.in_err-m.ensures)

pub returns-in_err-k : goal.returns-in_err-k
returns-in_err-k c =
    let a = c.args in
    rw c.from_residual-in_err-k.ensures
    (short-third a.names.now a.at a.recipe a.first.now a.second.now c.in_ok-n.ensures c.in_ok-m.ensures c.in_err-k.ensures)

pub returns : goal.returns
returns c =
    let a = c.args in
    spread a.names.now a.at a.recipe a.first.now a.second.now c.in_ok-n.ensures c.in_ok-m.ensures c.in_ok-k.ensures
