-- `xsd_progress::progress_by` meets its contract: row 0 gives the numbers, the head is the one that is known, or the walk from the end finds it. Assumes nothing.
use Prim.Native.Nat.{ℕ, ◌≤◌, ◌<◌}
use mathlib.Core.Path.{◌≡◌, sym, ap, ◌∙◌}
use mathlib.Core.List.{List}
use native.Mathlib.Omega.{arith}
use Rattle.sheet.specs.Rows.{ten}
use Rattle.xsd_types.specs.Row0.{Row0, row0_from}
use Rattle.xsd_good.specs.Row0.{as_row0}
use Rattle.xsd_good.specs.Heads.{head_row}
use Rattle.xsd_good.specs.End.{HeadIs}
use Rattle.xsd_progress.proofs.Laws.Read.{progress-read}
use Rattle.rows.proofs.Laws.Words.{words-each}
use Rattle.xsd_progress.proofs.progress_by.Goals as goal
use Rattle.xsd_progress.proofs.progress_by.Goals.{then-z-ge-SIMPLE_TYPE, else-z-ge-SIMPLE_TYPE}

-- of a head that is known
known-head : (rows : List ℕ) (z : Row0) (known : ℕ) → z ≡ row0_from (ten rows) → HeadIs rows known → 2 ≤ z.context → known ≡ head_row rows z.rows_used
known-head rows z known e h l = h (omega (arith, l, ap (λ (y : Row0). y.context) e)) ∙ sym (ap (λ (y : Row0). head_row rows y.rows_used) e)

pub open_head-head-requires : goal.open_head-head-requires
open_head-head-requires c = rw (ap (λ (z : Row0). z.rows_used) c.row0_at-z.ensures) c.requires.1

pub returns : goal.returns
returns c =
    let rows = c.args.rows.now in
    let z = as_row0 c.row0_at-z.result in
    let e = c.row0_at-z.ensures in
    let head : c.if-z-ge-SIMPLE_TYPE.head ≡ head_row rows z.rows_used =
    elim c.if-z-ge-SIMPLE_TYPE.branch [
      | then-z-ge-SIMPLE_TYPE w ↦ w.head-is ∙ known-head rows z c.args.known e c.requires.2 w.if-z-ge-SIMPLE_TYPE.true
      | else-z-ge-SIMPLE_TYPE w ↦ w.head-is ∙ w.open_head-head.ensures
    ] in
    record { numbers = c.progress_at.ensures ∙ progress-read rows z _ e head; words = words-each rows (λ i. (c.type_inv.rows i).fits) }
