-- `xsd_progress::row0_of` meets its contract: row 0 has the numbers and the three flags. Assumes nothing.
use mathlib.Core.Bool.{Bool, true, false}
use mathlib.Core.Path.{◌≡◌, refl, sym, ◌∙◌}
use Rattle.std.specs.Int.{from_bool}
use Rattle.sheet.specs.Rows.{bit}
use Rattle.xsd_progress.specs.Progress.{progress_row0, row0_numbers}
use Rattle.xsd_progress.proofs.row0_of.Goals as goal

bit-from : (b : Bool) → from_bool b ≡ bit b
unfolding bit
bit-from true = refl
bit-from false = refl

pub returns : goal.returns
unfolding row0_numbers progress_row0
returns c =
    let p = c.args.p in
    rw (
      sym (c.from.ensures ∙ bit-from p.mode.root_seen),
      sym (c.from-2.ensures ∙ bit-from p.mode.extension),
      sym (c.from-3.ensures ∙ bit-from p.by_standard),
    )
    c.row0_numbers.ensures
