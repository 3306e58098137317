-- `rows::scan::scan_sheet` meets its contract. The loop's invariant: the pass over what is left from here gives what the pass over all rows behind row 1
-- gives, and the end of the pairs so far is at most 2 ^ 32. Assumes nothing.
use Prim.Native.Nat.{◌-◌}
use mathlib.Core.Path.{refl, ap, ◌∙◌}
use native.Mathlib.Omega.{arith}
use Rattle.rows.specs.Ten.{as_ten}
use Rattle.rows.specs.Scan.{scanned}
use Rattle.rows.proofs.Laws.Tens.{tens-turn}
use Rattle.rows.proofs.Laws.Scan.{first-end, first-on, first-fails, next-end, next-on, next-fails, scan-stops}
use Rattle.rows.proofs.scan.scan_sheet.Goals as goal

pub returns-in_err-s : goal.returns-in_err-s
returns-in_err-s g c =
    c.from_residual.ensures ∙ first-fails g.R.RowTests.tests c.args.names_used (as_ten c.args.row1) _ c.in_err-s.ensures

pub loop-place-init : goal.loop-place-init
loop-place-init g c =
    (omega (arith, first-end g.R.RowTests.tests c.args.names_used (as_ten c.args.row1) c.in_ok-s.s c.in_ok-s.ensures), refl)

pub returns-in_err-s-2 : goal.returns-in_err-s-2
returns-in_err-s-2 g c =
    let x = g.R.RowTests.tests in
    let a = c.args in
    let w = c.loop-place in
    c.from_residual-in_err-s-2.ensures
    ∙ next-fails x a.names_used w.s (as_ten c.ten.result) _ c.in_err-s-2.ensures
    ∙ ap (scanned x a.names_used w.s) (tens-turn w.place a.part.now.end a.part.now.rows.now (omega arith) c.ten.ensures)
    ∙ w.invariant.1
    ∙ first-on x a.names_used (as_ten a.row1) c.in_ok-s.s _ c.in_ok-s.ensures

pub loop-place-preserved : goal.loop-place-preserved
loop-place-preserved g c =
    let x = g.R.RowTests.tests in
    let a = c.args in
    let w = c.loop-place in
    let t = as_ten c.ten.result in
    let next = c.in_ok-s-2 in (
      omega (arith, next-end x a.names_used w.s t next.s next.ensures),
      next-on x a.names_used w.s t next.s _ next.ensures
          ∙ ap (scanned x a.names_used w.s) (tens-turn w.place a.part.now.end a.part.now.rows.now (omega arith) c.ten.ensures)
          ∙ w.invariant.1,
    )

pub returns : goal.returns
returns g c =
    let x = g.R.RowTests.tests in
    let a = c.args in
    let w = c.loop-place in
    scan-stops x a.names_used w.s (a.part.now.end - w.place) _ (omega arith)
    ∙ w.invariant.1
    ∙ first-on x a.names_used (as_ten a.row1) c.in_ok-s.s _ c.in_ok-s.ensures
