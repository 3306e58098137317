-- `xml_text::call::stored` meets its contract: 5 before all, then what was found. Assumes nothing.
use mathlib.Core.Path.{sym, ◌∙◌}
use Rattle.std.proofs.lemmas.Result.{err_from_is_err_and}
use Rattle.xml_text.proofs.Laws.Call.{stored-faulty, stored-short, stored-whole}
use Rattle.xml_text.proofs.call.stored.Goals as goal

pub returns-in_err-used : goal.returns-in_err-used
returns-in_err-used c =
    let a = c.args in
    let e = err_from_is_err_and c.from_residual.result c.from_residual.ensures.1 in
    rw (e.1, e.2) (stored-faulty a.text.now a.marks.now c.document.new.marks (sym c.is_text.ensures ∙ c.if-not-is_text.false) c.document.auto.marks _ c.in_err-used.ensures)

pub returns-then-marks-used : goal.returns-then-marks-used
returns-then-marks-used c =
    let a = c.args in
    stored-short a.text.now a.marks.now c.document.new.marks (sym c.is_text.ensures ∙ c.if-not-is_text.false) c.document.auto.marks _ c.in_ok-used.ensures c.if-marks-used.true

pub returns : goal.returns
returns c =
    let a = c.args in
    stored-whole a.text.now a.marks.now c.document.new.marks (sym c.is_text.ensures ∙ c.if-not-is_text.false) c.document.auto.marks _ c.in_ok-used.ensures c.if-marks-used.false
