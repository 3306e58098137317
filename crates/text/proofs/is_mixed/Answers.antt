-- `text::is_mixed` meets its contract: what waits at the end is what the fold over the bytes gives. Assumes nothing.
use Rattle.std.proofs.Common.{◌∙◌, ap, nat_eq, rules}
use Rattle.std.proofs.lemmas.Iterator.{YieldsList-from_slice}
use Rattle.std.proofs.lemmas.Iterator.Consumers.{fold_from_yields_List}
use Rattle.text.specs.Text.{lead_after}
use Rattle.text.proofs.Laws.Pairs.{by-fold}
use Rattle.text.proofs.is_mixed.Goals as goal

pub returns : goal.returns
returns g c =
    let s = c.args.s.now in
    let rule = g.P.Pairs.rule in
    let all = fold_from_yields_List _ (lead_after rule) 0 c.fold-last.result c.fold-last.ensures.ran (YieldsList-from_slice s (cc)) (λ l b q k. search rules) in
    ap (λ r. nat_eq r 0) all ∙ by-fold rule g.met.P.Pairs.no_lead s 0
