-- `ir_row::put_lowered` meets its contract: each arm adds the row that lowering makes of its tag, by what the call ensures. Assumes nothing.
use mathlib.Core.Path.{refl}
use mathlib.Core.Logic.{inl, inr}
use native.Mathlib.Omega.{arith}
use Rattle.ir_row.proofs.Laws.Rest.{not-count, lowered-read, characters-read, digits-read}
use Rattle.ir_row.proofs.put_lowered.Goals as goal

pub put_spelled-requires : goal.put_spelled-requires
put_spelled-requires c =
    not-count (λ e. omega arith) (λ e. omega arith) (λ e. omega arith) (λ e. omega arith)

pub returns-in-6 : goal.returns-in-6
returns-in-6 c =
    let args = c.args in
    rw (characters-read args.codes args.part.now.rows.now args.part.now.names.now args.place c.ten-t.result c.ten-t.ensures
    c.count_of.result.0 (inl (c.in-6.is, refl)) c.count_of.ensures) c.grow_characters.ensures

pub returns-in-7 : goal.returns-in-7
returns-in-7 c =
    let args = c.args in
    rw (characters-read args.codes args.part.now.rows.now args.part.now.names.now args.place c.ten-t.result c.ten-t.ensures
    c.count_of-in-7.result.0 (inr (c.in-7.is, refl)) c.count_of-in-7.ensures) c.grow_characters-in-7.ensures

pub returns-in-10 : goal.returns-in-10
returns-in-10 c =
    let args = c.args in
    rw (digits-read args.codes args.part.now.rows.now args.part.now.names.now args.place c.ten-t.result c.ten-t.ensures
    (inl (c.in-10.is, refl))) c.grow_digits.ensures

pub returns-in-11 : goal.returns-in-11
returns-in-11 c =
    let args = c.args in
    rw (digits-read args.codes args.part.now.rows.now args.part.now.names.now args.place c.ten-t.result c.ten-t.ensures
    (inr (c.in-11.is, refl))) c.grow_digits-in-11.ensures

pub returns-in_default : goal.returns-in_default
returns-in_default c =
    let args = c.args in
    rw (lowered-read args.codes args.part.now.rows.now args.part.now.names.now args.place c.ten-t.result c.ten-t.ensures) c.put_spelled.ensures
