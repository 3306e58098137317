-- Every clearing comes under one case of the table. Assumes nothing.
use mathlib.Core.Logic.{⊎_elim}
use mathlib.Core.Bool.{◌&&◌}
use Prim.Native.Nat.{ℕ}
use lib.Dec.{leb}
use lib.ListN.{length}
use Rattle.std.proofs.lemmas.Bool.{cases_Bool}
use Rattle.sheet.specs.Rows.{Sheet}
use Rattle.sheet.specs.Lengths.{sheet_lengths}
use Rattle.xsd_types.specs.Clear.{clear}
use Rattle.xsd_types.specs.Table.{ClearTable}

pub clear-table : (choice : ℕ) (x : Sheet) → ClearTable choice x (clear choice x)
unfolding clear
clear-table choice x =
    ⊎_elim (λ h. ClearTable.cleared h (rw h)) (λ h. ClearTable.lengths h (rw h))
    (cases_Bool (sheet_lengths (length x.rows) (length x.names) && leb choice 1))
