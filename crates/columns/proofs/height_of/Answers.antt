-- `columns::height_of` meets its contract. Assumes nothing.
use Rattle.std.proofs.Common.{sym, refl, ◌∙◌}
use Rattle.columns.proofs.Laws.Calls.{lengths-sized}
use Rattle.columns.proofs.height_of.Goals as goal

pub returns-then-same_lengths : goal.returns-then-same_lengths
returns-then-same_lengths c =
    let same = sym c.same_lengths.ensures ∙ c.if-same_lengths.true in
    (same, lengths-sized _ _ same)
