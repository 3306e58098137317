-- `xsd_good::is_bare_good` meets its contract: the tests of the code are the parts of `bare_good`, in another order, and where the used parts
-- do not lie inside the buffers, `bare_good` fails too. Assumes nothing.
use mathlib.Core.Path.{sym, ◌∙◌}
use Rattle.xsd_good.specs.Row0.{as_row0}
use Rattle.xsd_good.proofs.Laws.Bare.{bare-short, bare-outside, bare-tests, bare-fails}
use Rattle.xsd_good.proofs.is_bare_good.Goals as goal

pub returns-then-rows-lt-LEAST_ROWS : goal.returns-then-rows-lt-LEAST_ROWS
returns-then-rows-lt-LEAST_ROWS c = sym (bare-short c.args.rows.now c.args.names.now c.if-rows-lt-LEAST_ROWS.true)

pub returns-then-not-parts_fit : goal.returns-then-not-parts_fit
returns-then-not-parts_fit c =
    sym (bare-outside c.args.rows.now c.args.names.now (as_row0 c.row0_at-z.result) c.row0_at-z.ensures (sym c.parts_fit.ensures.fits ∙ c.if-not-parts_fit.true))

pub returns-in_default : goal.returns-in_default
returns-in_default c =
    bare-fails c.args.rows.now c.args.names.now (as_row0 c.row0_at-z.result) c.row0_at-z.ensures (sym c.parts_fit.ensures.fits ∙ c.if-not-parts_fit.false)
    c.bare_row1-row1.ensures c.in_default.ensures

pub returns : goal.returns
returns c =
    bare-tests c.args.rows.now c.args.names.now (as_row0 c.row0_at-z.result) c.row0_at-z.ensures (sym c.parts_fit.ensures.fits ∙ c.if-not-parts_fit.false)
    c.in-Some.s c.row0_form.ensures c.zeros_behind.ensures c.names_test.ensures c.limits.ensures c.root_test.ensures c.nesting_test.ensures
    c.context_test.ensures c.extension_test.ensures c.events_test.ensures c.bare_row1-row1.ensures c.in-Some.ensures
