-- `printing::write_tape` meets its contract: the work is begun with empty buffers. Assumes nothing.
use Rattle.std.proofs.Common.{ℕ, List, Option, Ok, Err, OnOk, Result, refl}
use Rattle.std.specs.Io.KnownBytes.{Appends}
use Rattle.text.specs.Text.{Text}
use Rattle.sheet.specs.Rows.{Sheet}
use Rattle.rows.specs.declared.answers.Refused.{Refused}
use Rattle.printing.specs.Print.{made_text, Worked, TapePrinted}
use Rattle.printing.proofs.Laws.Print.{worked-from}
use Rattle.printing.proofs.write_tape.Goals as goal

printed : {E : Type 0} (r : Result (Unit {0}) E) (text : Text) (marks : List ℕ) (read lowered : Result ℕ Refused) (graph : Sheet) (old new : Option Text) → Worked text marks read lowered graph
    → OnOk r (Appends old new (made_text read lowered graph)) → OnOk r (TapePrinted text marks old new)
printed (Ok u) text marks read lowered graph old new w p = (_, _, _, w, p)
printed (Err e) text marks read lowered graph old new w p = tt

pub returns : goal.returns
returns g c =
    printed c.put_made.result _ _ _ _ _ _ _
    (worked-from c.args.text.now c.args.marks.now c.work-made.result.read c.work-made.result.lowered _ _ _ _ _ _ _ _ refl refl refl refl refl c.work-made.ensures) c.put_made.ensures
