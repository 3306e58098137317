-- `tape::record_at` meets its contract: the form is judged for the whole record before its pairs are looked at. Assumes nothing.
use mathlib.Core.Path.{refl, sym, ◌∙◌}
use native.Mathlib.Omega.{arith}
use Rattle.std.proofs.lemmas.Result.{err_from_is_err_and}
use Rattle.tape.specs.Answers.{record_event, recorded, IsPlaced}
use Rattle.tape.proofs.Laws.Form.{form-count, form-room}
use Rattle.tape.proofs.Laws.Records.{record-none, record-one, record-bad, record-close, record-tag}
use Rattle.tape.proofs.record_at.Goals as goal

pub returns-then-marks-at : goal.returns-then-marks-at
unfolding recorded IsPlaced
returns-then-marks-at c =
    let a = c.args in
    record { judged = sym (record-none a.v.text.now a.v.marks.now a.at c.if-marks-at.true); places = tt }

pub returns-then-left-lt2 : goal.returns-then-left-lt2
unfolding recorded IsPlaced
returns-then-left-lt2 c =
    let a = c.args in
    record { judged = sym (record-one a.v.text.now a.v.marks.now a.at (omega arith) (omega arith)); places = tt }

pub returns-then-not-has_form : goal.returns-then-not-has_form
unfolding recorded IsPlaced
returns-then-not-has_form c =
    let a = c.args in
    let form = sym c.has_form.ensures ∙ c.if-not-has_form.true in
    record { judged = sym (record-bad a.v.text.now a.v.marks.now a.at _ _ (omega arith) refl c.wide-count.ensures form); places = tt }

pub returns-then-kind : goal.returns-then-kind
unfolding record_event recorded IsPlaced
returns-then-kind c =
    let a = c.args in
    let form = sym c.has_form.ensures ∙ c.if-not-has_form.false in
    rw c.closed.ensures
    (record {
      judged = sym (record-close a.v.text.now a.v.marks.now a.at _ _ (omega arith) refl c.wide-count.ensures form c.if-kind.true);
      places = record { later = omega arith; within = omega arith; tag = λ k. absurd (k refl) };
    })

pub tag_at-requires : goal.tag_at-requires
tag_at-requires c =
    let form = sym c.has_form.ensures ∙ c.if-not-has_form.false in
    let tag = c.if-kind.false in
    record { fact = (tag, form-count _ _ _ form, omega (arith, form-room _ _ _ form tag)); text_value = c.requires }

pub returns-in_err-tag : goal.returns-in_err-tag
unfolding recorded IsPlaced
returns-in_err-tag c =
    let a = c.args in
    let form = sym c.has_form.ensures ∙ c.if-not-has_form.false in
    let tag = record-tag a.v.text.now a.v.marks.now a.at _ _ (omega arith) refl c.wide-count.ensures form c.if-kind.false in
    let e = err_from_is_err_and c.from_residual.result c.from_residual.ensures.1 in
    rw (e.1, e.2) (record { judged = rw tag c.in_err-tag.ensures.judged; places = tt })

pub returns : goal.returns
returns c =
    let a = c.args in
    let form = sym c.has_form.ensures ∙ c.if-not-has_form.false in
    let tag = record-tag a.v.text.now a.v.marks.now a.at _ _ (omega arith) refl c.wide-count.ensures form c.if-kind.false in
    record { judged = rw tag c.in_ok-tag.ensures.judged; places = c.in_ok-tag.ensures.places }
