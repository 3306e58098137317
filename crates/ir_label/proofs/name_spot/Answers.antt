-- `ir_label::name_spot` meets its contract: a pair inside the names is the part, another gives none. Assumes nothing.
use Rattle.std.proofs.Common.{refl, arith}
use Rattle.ir_label.proofs.Laws.Spots.{name-inside, name-outside}
use Rattle.ir_label.proofs.name_spot.Goals.{then-names-pair-via-then-names-pair, then-names-pair-via-else-names-pair+then-names-pair-2}
use Rattle.ir_label.proofs.name_spot.Goals as goal

pub returns-then-names-pair : goal.returns-then-names-pair
returns-then-names-pair c = (
  name-outside c.args.names.now c.args.pair.at c.args.pair.len (
      elim c.then-names-pair.branch [
        | then-names-pair-via-then-names-pair w ↦ omega (arith, w.if-names-pair.true)
        | then-names-pair-via-else-names-pair+then-names-pair-2 w ↦ omega (arith, w.if-names-pair.false, w.if-names-pair-2.true)
      ]
      ),
  refl,
)

pub returns : goal.returns
returns c = name-inside c.args.names.now c.args.pair.at c.args.pair.len (omega (arith, c.if-names-pair.false, c.if-names-pair-2.false))
