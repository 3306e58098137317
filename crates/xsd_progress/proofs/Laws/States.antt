-- The numbers that a reading carries and the state that they stand for: row 0 of both is one, and what is used lies inside the buffers. Assumes nothing.
use Prim.Native.Nat.{◌*◌, ◌≤◌}
use mathlib.Core.Path.{◌≡◌, ap, ◌∙◌}
use lib.ListN.{length}
use Rattle.sheet.specs.Rows.{bit}
use Rattle.xsd_types.specs.State.{State}
use Rattle.xsd_types.specs.Rows.{extension_flag, row0, rows_used, names_used}
use Rattle.xsd_types.proofs.Laws.Rows.{bit-again}
use Rattle.xsd_types.proofs.Laws.Made.{flag-context}
use Rattle.rows.specs.declared.writer.SheetWriter.{SheetWriter}
use Rattle.rows.proofs.Laws.Middle.{rows_fit, names-fit}
use Rattle.xsd_actions.specs.declared.Mode.{Mode}
use Rattle.xsd_actions.specs.Actions.{mode_of}
use Rattle.xsd_progress.specs.declared.Progress.{Progress}
use Rattle.xsd_progress.specs.Progress.{progress_row0, At}

pub row0-at : {s : State} {w : SheetWriter} {p : Progress} → At s w p → progress_row0 p w.used ≡ row0 s
unfolding progress_row0 row0 rows_used names_used mode_of
row0-at {s} at =
    let flag = ap (λ (m : Mode). bit m.extension) at.mode ∙ bit-again (extension_flag s.reader.context) (flag-context s.reader.context) in
    λ i. record {
      first = 0;
      rows_used = at.holds.rows_used i;
      names_used = at.holds.names_used i;
      context = (at.mode i).context;
      nesting = (at.mode i).nesting;
      root_seen = bit (at.mode i).root_seen;
      events = at.events i;
      open_tags = at.tags i;
      extension = flag i;
      choice = bit (at.choice i);
    }

-- what is used lies inside the buffers
pub at_small : {s : State} {w : SheetWriter} {p : Progress} → At s w p → (10 * w.used.rows ≤ length w.rows.now) × (w.used.names ≤ length w.names.now)
at_small at =
    let h = at.holds in
    (rw h.rows_used (rows_fit h.packs), rw h.names_used (names-fit h.packs))
