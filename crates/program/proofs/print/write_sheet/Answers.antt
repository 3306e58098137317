-- `program::print::write_sheet` meets its contract. Assumes nothing.
use Rattle.std.proofs.Common.{refl}
use Rattle.program.specs.Print.{sheet_text}
use Rattle.program.proofs.Laws.Print.{written-last}
use Rattle.program.proofs.print.write_sheet.Goals as goal

pub returns : goal.returns
unfolding sheet_text
returns g c = written-last _ _ _ _ _ _ _ c.in_ok-put_rows.ensures c.put_names.ensures (rw (c.wide.ensures, c.mark_at.ensures, c.wide-2.ensures, c.mark_at-2.ensures) refl)
