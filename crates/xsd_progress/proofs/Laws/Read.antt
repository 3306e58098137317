-- The numbers of row 0 with the head that the walk finds are those that the rows give. Assumes nothing.
use Prim.Native.Nat.{ℕ}
use mathlib.Core.Path.{◌≡◌, ap, ◌∙◌}
use mathlib.Core.List.{List}
use Rattle.sheet.specs.Rows.{ten}
use Rattle.xsd_types.specs.Row0.{Row0, row0_from}
use Rattle.xsd_good.specs.Heads.{head_row}
use Rattle.xsd_progress.specs.Progress.{progress_of, progress_in}

pub progress-read : (rows : List ℕ) (z : Row0) (head : ℕ) → z ≡ row0_from (ten rows) → head ≡ head_row rows z.rows_used → progress_of z head ≡ progress_in rows
unfolding progress_in
progress-read rows z head e f = ap (progress_of z) f ∙ ap (λ (y : Row0). progress_of y (head_row rows y.rows_used)) e
