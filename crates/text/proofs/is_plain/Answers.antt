-- `text::is_plain` meets its contract. Assumes nothing.
use Rattle.std.proofs.Common.{◌∙◌, ap, nat_lt, bit_or, rules}
use Rattle.std.proofs.lemmas.Iterator.{YieldsList-from_slice}
use Rattle.std.proofs.lemmas.Iterator.Consumers.{fold_from_yields_List}
use Rattle.text.proofs.Laws.Std.{plain_fold}
use Rattle.text.proofs.is_plain.Goals as goal

pub returns : goal.returns
returns c =
    let s = c.args.s.now in
    let all = fold_from_yields_List _ bit_or 0 c.fold.result c.fold.ensures.ran (YieldsList-from_slice s (cc)) (λ a x b q k. search rules) in
    ap (λ r. nat_lt r 128) all ∙ plain_fold 0 s
