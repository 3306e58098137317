-- Where a good sheet stands: the numbers of its row 0 are those of its state, and its open type's head is the last head. Assumes nothing.
use mathlib.Core.Path.{◌≡◌, refl, sym, ap, subst, ◌∙◌}
use mathlib.Core.Bool.{true}
use mathlib.Core.List.{[], ◌∷◌}
use Rattle.sheet.specs.Rows.{Ten, numbers}
use Rattle.sheet.specs.Calls.{sheet}
use Rattle.sheet.specs.Form.{words, rows_used_in}
use Rattle.xsd_types.specs.State.{State, proper}
use Rattle.xsd_types.specs.Row0.{row0_from, row0_ten}
use Rattle.xsd_types.specs.Rows.{rows_of, row0, rows_used, names_used, context_number}
use Rattle.xsd_types.specs.Good.{bare_good}
use Rattle.xsd_types.specs.Back.{bare_state_of}
use Rattle.xsd_types.proofs.Laws.Items.{bit-back}
use Rattle.xsd_good.specs.Heads.{head_row}
use Rattle.rows.specs.declared.numbers.Used.{Used}
use Rattle.rows.specs.declared.writer.SheetWriter.{SheetWriter}
use Rattle.rows.specs.Packing.{Packs}
use Rattle.xsd_actions.specs.Actions.{mode_of}
use Rattle.xsd_good.proofs.Laws.Open.{open-head-is}
use Rattle.xsd_good.proofs.Laws.Held.{held-good, row0-held}
use Rattle.xsd_progress.specs.Progress.{progress_of, progress_in, used_of, used_in, At}

-- the numbers that row 0 of a state gives stand for the state
pub at-state : (w : SheetWriter) (s : State) → Packs w.rows.now w.names.now (numbers (row0_ten (row0 s) ∷ [])) (rows_of s) → w.used ≡ used_of (row0 s) → proper s ≡ true
    → At s w (progress_of (row0 s) (head_row w.rows.now (row0 s).rows_used))
unfolding progress_of row0 mode_of rows_used names_used
at-state w s p e k =
    record {
      mode = λ i. record {
        context = context_number s.reader.context;
        nesting = (row0 s).nesting;
        root_seen = bit-back s.reader.root_seen i;
        extension = (mode_of s.reader).extension;
      };
      events = refl;
      tags = refl;
      choice = bit-back s.by_standard;
      z = numbers (row0_ten (row0 s) ∷ []);
      holds = record { packs = p; rows_used = ap (λ (u : Used). u.rows) e; names_used = ap (λ (u : Used). u.names) e };
      head = open-head-is s p;
      proper = k;
    }

-- where a good sheet stands
pub at-row0 : (w : SheetWriter) → bare_good (sheet w.rows.now w.names.now) ≡ true → words w.rows.now ≡ true → w.used ≡ used_in w.rows.now
    → At (bare_state_of (sheet w.rows.now w.names.now)) w (progress_in w.rows.now)
unfolding progress_in
at-row0 w g words_there e =
    let s = bare_state_of (sheet w.rows.now w.names.now) in
    let h = held-good w.rows.now w.names.now g words_there in
    let used = e ∙ ap (λ (t : Ten). used_of (row0_from t)) (row0-held h) in
    subst (λ (t : Ten). At s w (progress_of (row0_from t) (head_row w.rows.now (rows_used_in t)))) (sym (row0-held h)) (at-state w s h.packs used h.proper)
