-- `ir_reduce::index::asked_pair` meets its contract: the code is the definition. Assumes nothing.
use borrow.Author.Tests.{eq-eqb, ne_eqb}
use Rattle.ir_reduce.specs.Index.{asked_pair}
use Rattle.ir_reduce.proofs.index.asked_pair.Goals as goal

pub returns-then-tag-eq-ROOT : goal.returns-then-tag-eq-ROOT
unfolding asked_pair
returns-then-tag-eq-ROOT c = rw (eq-eqb _ _ c.if-tag-eq-ROOT.true)

pub returns-then-tag-a : goal.returns-then-tag-a
unfolding asked_pair
returns-then-tag-a c = rw (ne_eqb _ _ c.if-tag-eq-ROOT.false, c.if-tag-a.true)

pub returns-then-in_range-tag : goal.returns-then-in_range-tag
unfolding asked_pair
returns-then-in_range-tag c = rw (ne_eqb _ _ c.if-tag-eq-ROOT.false, c.if-tag-a.false, ← c.in_range.ensures, c.if-in_range-tag.true)

pub returns-else-in_range-tag : goal.returns-else-in_range-tag
unfolding asked_pair
returns-else-in_range-tag c = rw (ne_eqb _ _ c.if-tag-eq-ROOT.false, c.if-tag-a.false, ← c.in_range.ensures, c.if-in_range-tag.false)
