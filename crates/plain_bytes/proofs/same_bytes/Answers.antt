-- `plain_bytes::same_bytes` meets its contract. The loop's invariant: i is no further than the parts' end, and the bytes before it are the same. The measure is how much is
-- left. Assumes nothing.
use mathlib.Core.Path.{sym, ◌∙◌}
use native.Mathlib.Omega.{arith}
use native.Mathlib.Nat.{not-suc-le-zero}
use lib.Dec.{eqb}
use borrow.Author.Tests.{eqb-true, eqb-false}
use Rattle.text.proofs.Laws.Tests.{bool_cases}
use Rattle.plain_bytes.proofs.Laws.Same.{alike-same, word-differs, word-alike}
use Rattle.plain_bytes.proofs.same_bytes.Goals as goal

pub loop-i-init : goal.loop-i-init
loop-i-init c = (omega arith, λ k l. absurd (not-suc-le-zero l))

pub returns-then-word_at : goal.returns-then-word_at
returns-then-word_at c = sym (word-differs c.word_at.ensures c.word_at-in-loop-i.ensures c.if-word_at.true)

pub loop-i-preserved : goal.loop-i-preserved
loop-i-preserved c = (omega arith, word-alike c.word_at.ensures c.word_at-in-loop-i.ensures c.if-word_at.false c.loop-i.invariant.1)

pub returns : goal.returns
returns c =
    bool_cases (eqb c.word_at-2.result c.word_at-3.result)
    (λ t. t ∙ sym (alike-same c.args.x.now c.args.y.now c.requires (λ k l.
    word-alike c.word_at-2.ensures c.word_at-3.ensures (eqb-true _ _ t) (λ j m. c.loop-i.invariant.1 j (omega (arith, m, c.loop-i-test.false))) k (omega (arith, l)))))
    (λ t. t ∙ sym (word-differs c.word_at-2.ensures c.word_at-3.ensures (eqb-false _ _ t)))
