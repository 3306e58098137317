-- `tape::short::four_at` meets its contract: the four bytes, lowest first. Assumes nothing.
use Rattle.std.proofs.Common.{rules}
use mathlib.Core.Path.{◌∙◌}
use Prim.Native.Nat.{◌-◌}
use lib.ListN.{length}
use Rattle.std.proofs.lemmas.Nat.{le_bytes_4}
use Rattle.tape.proofs.Laws.Short.{cut-small}
use Rattle.tape.proofs.short.four_at.Goals as goal

pub returns-clause-bytes : goal.returns-clause-bytes
returns-clause-bytes c =
    let s = c.args.s.now in
    let chunk = rw c.unwrap.ensures at c.first_chunk.ensures.cases in
    le_bytes_4 c.unwrap.result.now c.from_le_bytes.result (search rules)
    (λ i. rw chunk.same (cut-small s c.args.at 4 (length s - c.args.at) (λ j. (c.type_inv.s j).fits) i)) c.from_le_bytes.ensures
    ∙ chunk.same ∙ search rules
