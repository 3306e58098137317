-- `rows::texts::put_texts` meets its contract: each branch stores the used texts one behind the other. Assumes nothing.
use mathlib.Core.Path.{◌≡◌}
use native.Mathlib.Omega.{arith}
use lib.ListN.{length}
use Rattle.rows.proofs.Laws.Texts.{used-first, used-both, store-none, store-one, store_two}
use Rattle.rows.proofs.texts.put_texts.Goals as goal

pub returns-then-pairs-eq0 : goal.returns-then-pairs-eq0
returns-then-pairs-eq0 c =
    let a = c.args in
    (record { end = rw c.if-pairs-eq0.true (omega arith); texts = store-none _ a.first.now a.second.now a.at c.if-pairs-eq0.true })

pub copy_text-requires : goal.copy_text-requires
copy_text-requires c =
    let a = c.args in
    omega (arith, used-first a.pairs (length a.first.now) (length a.second.now) c.if-pairs-eq0.false)

pub returns-then-pairs-eq1 : goal.returns-then-pairs-eq1
returns-then-pairs-eq1 c =
    let a = c.args in
    (record { end = rw c.if-pairs-eq1.true; texts = store-one _ a.first.now a.second.now a.at c.if-pairs-eq1.true c.copy_text.ensures })

pub copy_text-requires-2 : goal.copy_text-requires-2
copy_text-requires-2 c =
    let a = c.args in
    let call = c.copy_text in
    omega (arith, call.auto.names, used-both a.pairs (length a.first.now) (length a.second.now) c.if-pairs-eq0.false c.if-pairs-eq1.false)

pub overflow_add-result : goal.overflow_add-result
overflow_add-result c =
    let a = c.args in
    omega (
      arith,
      c.requires,
      used-both a.pairs (length a.first.now) (length a.second.now)
          c.if-pairs-eq0.false c.if-pairs-eq1.false,
    )

pub returns : goal.returns
returns c =
    let a = c.args in
    let both = used-both a.pairs (length a.first.now) (length a.second.now)
    c.if-pairs-eq0.false c.if-pairs-eq1.false in
    let two : a.pairs ≡ 2 = omega (arith, c.requires) in (record {
      end = omega arith;
      texts = store_two _ a.first.now a.second.now a.at two (omega (arith, c.requires))
          c.copy_text.ensures c.copy_text-2.ensures;
    })
