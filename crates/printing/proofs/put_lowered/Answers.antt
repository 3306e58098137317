-- `printing::put_lowered` meets its contract. Assumes nothing.
use Rattle.std.proofs.Common.{refl, subst}
use Rattle.std.specs.Io.KnownBytes.{Appends}
use Rattle.program.proofs.Laws.Print.{written-last}
use Rattle.printing.specs.Print.{lowered_text}
use Rattle.printing.proofs.put_lowered.Goals as goal

pub returns-in-Ok : goal.returns-in-Ok
unfolding lowered_text
returns-in-Ok g c = written-last _ _ _ _ _ _ _ c.in_ok-put_answer.ensures c.write_sheet.ensures (rw c.in-Ok.is refl)

pub returns-in-Err : goal.returns-in-Err
unfolding lowered_text
returns-in-Err g c = subst (Appends _ _) (rw c.in-Err.is refl) c.in_ok-put_answer.ensures
