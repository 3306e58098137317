-- `rows::behind::zeros_behind` meets its contract: each fold is over the part that stands behind. Assumes nothing.
use Prim.Native.Nat.{ℕ, ◌*◌}
use mathlib.Core.Bool.{◌&&◌}
use mathlib.Core.Path.{ap, ap₂, ◌∙◌}
use lib.Dec.{eqb}
use Rattle.std.specs.Int.Bits.{bit_or}
use Rattle.std.proofs.Common.{rules}
use Rattle.std.proofs.lemmas.Iterator.{YieldsList-from_slice}
use Rattle.std.proofs.lemmas.Iterator.Consumers.{fold_from_yields_List}
use Rattle.text.proofs.Laws.Table.{part-from}
use Rattle.rows.proofs.Laws.Zeros.{folds-zero}
use Rattle.rows.proofs.behind.zeros_behind.Goals as goal

pub returns : goal.returns
returns c =
    let a = c.args in
    let rows = fold_from_yields_List _ bit_or 0 c.fold-rows_bits.result c.fold-rows_bits.ensures.ran
    (YieldsList-from_slice _ (c.iter.ensures.rest ∙ part-from a.rows.now (10 * a.rows_used))) (λ b x r q k. search rules) in
    let names = fold_from_yields_List _ bit_or 0 c.fold-names_bits.result c.fold-names_bits.ensures.ran
    (YieldsList-from_slice _ (c.iter-2.ensures.rest ∙ part-from a.names.now a.names_used)) (λ b x r q k. search rules) in
    ap₂ ◌&&◌ (ap (λ (n : ℕ). eqb n 0) rows ∙ folds-zero _ 0) (ap (λ (n : ℕ). eqb n 0) names ∙ folds-zero _ 0)
