-- `graph_form::is_form` meets its contract: the tests of the code are the parts of `graph_form`, and where the used parts do not lie inside the buffers,
-- `graph_form` fails too. Assumes nothing.
use mathlib.Core.Path.{sym, ◌∙◌}
use Rattle.rows.specs.Ten.{as_ten}
use Rattle.graph_form.proofs.Laws.Form.{too-short, outside, form-tests, form-fails}
use Rattle.graph_form.proofs.is_form.Goals as goal

pub returns-then-rows-lt-LEAST_ROWS : goal.returns-then-rows-lt-LEAST_ROWS
returns-then-rows-lt-LEAST_ROWS c = sym (too-short c.args.rows.now c.args.names.now c.if-rows-lt-LEAST_ROWS.true)

pub returns-then-not-parts_fit : goal.returns-then-not-parts_fit
returns-then-not-parts_fit c =
    sym (outside c.args.rows.now c.args.names.now (as_ten c.ten_of-z.result) c.ten_of-z.ensures (sym c.parts_fit.ensures.fits ∙ c.if-not-parts_fit.true))

pub returns-in_default : goal.returns-in_default
returns-in_default c =
    form-fails c.args.rows.now c.args.names.now (as_ten c.ten_of-z.result) c.ten_of-z.ensures (sym c.parts_fit.ensures.fits ∙ c.if-not-parts_fit.false)
    c.ten-row1.ensures c.in_default.ensures

pub returns : goal.returns
returns c =
    form-tests c.args.rows.now c.args.names.now (as_ten c.ten_of-z.result) c.ten_of-z.ensures (sym c.parts_fit.ensures.fits ∙ c.if-not-parts_fit.false)
    c.in-Some.s c.row0_form.ensures c.zeros_behind.ensures c.names_test.ensures c.ten-row1.ensures c.count_roots.ensures c.count_types.ensures c.in-Some.ensures
