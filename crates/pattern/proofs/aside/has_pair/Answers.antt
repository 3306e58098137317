-- `pattern::aside::has_pair` meets its contract: the tests of all places, each with the place before. Assumes nothing.
use Rattle.std.proofs.Common.{◌-◌, length, refl, false, ◌∙◌, rules}
use Rattle.std.proofs.lemmas.Iterator.{YieldsList-from_range}
use Rattle.std.proofs.lemmas.Iterator.Consumers.{fold_from_yields_List}
use Rattle.pattern.proofs.Laws.Aside.{or-pair, pairs-whole}
use Rattle.pattern.proofs.aside.has_pair.Goals as goal

pub returns : goal.returns
returns c =
    let s = c.args.s.now in
    let road = YieldsList-from_range 1 (length s) (length s - 1) refl refl in
    fold_from_yields_List _ (or-pair s) false c.fold.result c.fold.ensures.ran road (λ a x b q k. search rules) ∙ pairs-whole s _ refl
