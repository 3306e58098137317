-- `names::same::Spelled::bytes` meets its contract: nothing is read yet, and a name without an underscore normalises to itself. Assumes nothing.
use Rattle.std.proofs.Common.{◌∙◌}
use Rattle.names.proofs.Laws.Names.{spelled-read}
use Rattle.names.proofs.same.Spelled.bytes.Goals as goal
use Rattle.names.proofs.same.Spelled.bytes.Goals.{then-self, else-self}

pub returns : goal.returns
returns c =
    let s = c.args.self in
    rw c.reading_of.ensures
    (elim c.if-self.branch [
      | then-self w ↦ spelled-read s.normalised c.if-self.parted s.name.now (λ e. w.parted-is ∙ w.has_byte-parted.ensures) (λ e. cc (w.if-self.true))
      | else-self w ↦ spelled-read s.normalised c.if-self.parted s.name.now (λ e. cc (w.if-self.false)) (λ e. w.parted-is ∙ e)
    ])
