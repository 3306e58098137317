-- `ir_label::label` meets its contract: the part that was found lies in the buffer that was found. Assumes nothing.
use Rattle.std.proofs.Common.{refl, sym, ap, true, false, arith}
use Rattle.text.proofs.Laws.Tests.{bool_cases}
use Rattle.ir_types.specs.Label.{Labelled, no_label}
use Rattle.ir_label.specs.Spot.{in_words}
use Rattle.ir_label.proofs.Laws.Parts.{spot-inside, spot-is}
use Rattle.ir_label.proofs.label.Goals as goal

pub returns-in_default : goal.returns-in_default
unfolding no_label
returns-in_default c =
    let none = c.in_default.ensures.0 in
    record { bytes = sym (ap (λ (l : Labelled). l.text) none); starts = rw none (refl, omega arith) }

pub overflow_add-end : goal.overflow_add-end
overflow_add-end c =
    let a = c.args in
    let s = c.in-Ok.s in
    let here = c.in-Ok.ensures in
    bool_cases (in_words s.buffer) (λ t. omega (arith, spot-inside a.rows.now a.names.now a.words.now a.k s here true t))
    (λ t. omega (arith, spot-inside a.rows.now a.names.now a.words.now a.k s here false t))

pub slice_bounds-result-end-in-Words : goal.slice_bounds-result-end-in-Words
slice_bounds-result-end-in-Words c =
    let a = c.args in
    omega (arith, spot-inside a.rows.now a.names.now a.words.now a.k c.in-Ok.s c.in-Ok.ensures true (ap in_words c.in-Words.is))

pub slice_bounds-result-end-in-Names : goal.slice_bounds-result-end-in-Names
slice_bounds-result-end-in-Names c =
    let a = c.args in
    omega (arith, spot-inside a.rows.now a.names.now a.words.now a.k c.in-Ok.s c.in-Ok.ensures false (ap in_words c.in-Names.is))

pub returns-in-Words : goal.returns-in-Words
returns-in-Words c =
    let a = c.args in
    spot-is a.rows.now a.names.now a.words.now a.k c.in-Ok.s c.in-Ok.ensures true (ap in_words c.in-Words.is) a.names.ref_ptr a.words.ref_ptr _ (refl, omega arith)

pub returns-in-Names : goal.returns-in-Names
returns-in-Names c =
    let a = c.args in
    spot-is a.rows.now a.names.now a.words.now a.k c.in-Ok.s c.in-Ok.ensures false (ap in_words c.in-Names.is) a.names.ref_ptr a.words.ref_ptr _ (refl, omega arith)
