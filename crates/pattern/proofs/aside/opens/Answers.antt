-- `pattern::aside::opens` meets its contract: the sum of ones is the count. Assumes nothing.
use Rattle.std.proofs.Common.{sym, ◌∙◌, rules}
use Rattle.std.specs.Prelude.{eqb, cond}
use Rattle.std.proofs.lemmas.Iterator.{YieldsList-from_slice, YieldsList-from_map}
use Rattle.std.proofs.lemmas.Iterator.Consumers.{sum_by_from_yields_List}
use Rattle.pattern.proofs.Laws.Aside.{count-by}
use Rattle.pattern.proofs.aside.opens.Goals as goal

pub returns : goal.returns
returns c =
    let s = c.args.s.now in
    let road = YieldsList-from_map _ (λ b. cond (eqb b 40) 1 0) (YieldsList-from_slice s (cc)) c.map.ensures.closure (λ x r q k. search rules) in
    sum_by_from_yields_List _ _ c.map.result _ c.sum.ensures.ran road ∙ sym (count-by 40 s)
