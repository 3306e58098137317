-- `xml_parts::steps::starts` meets its contract. The loop's invariant: the rest of the word stands k bytes on where the word stands at the start. Assumes nothing.
use Prim.Native.Nat.{◌+◌}
use native.Mathlib.Omega.{arith}
use mathlib.Core.Path.{◌≡◌, sym, ◌∙◌}
use native.Mathlib.Numerals.{add-one}
use lib.ListN.{drop}
use Rattle.xml.proofs.Laws.Steps.{starts-end, starts-past, starts-differ, starts-on}
use Rattle.xml_parts.proofs.steps.starts.Goals as goal

pub returns-then-text-at : goal.returns-then-text-at
returns-then-text-at c =
    let a = c.args in
    let i = a.at + c.loop-k.k in
    sym (starts-past a.word.now a.text.now c.loop-k.k i (omega arith) c.if-text-at.true) ∙ c.loop-k.invariant.1

pub returns-then-text-at-2 : goal.returns-then-text-at-2
returns-then-text-at-2 c =
    let a = c.args in
    let i = a.at + c.loop-k.k in
    sym (starts-differ a.word.now a.text.now c.loop-k.k i (omega arith) (omega arith) c.if-text-at-2.true) ∙ c.loop-k.invariant.1

pub loop-k-preserved : goal.loop-k-preserved
loop-k-preserved c =
    let a = c.args in
    let i = a.at + c.loop-k.k in
    let e : a.at + (c.loop-k.k + 1) ≡ i + 1 = omega arith in (
      λ h. omega arith,
      rw (e, add-one c.loop-k.k, add-one i) (sym (starts-on a.word.now a.text.now c.loop-k.k i (omega arith) (omega arith) c.if-text-at-2.false) ∙ c.loop-k.invariant.1),
    )

pub returns : goal.returns
returns c =
    let a = c.args in
    sym (starts-end a.word.now (drop (a.at + c.loop-k.k) a.text.now) c.loop-k.k (omega arith)) ∙ c.loop-k.invariant.1
