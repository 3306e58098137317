-- `ir_label::row_spot` meets its contract: each return is the arm of the definition that the tests lead to. Assumes nothing.
use Rattle.std.proofs.Common.{refl, sym, ◌∙◌, arith}
use Rattle.rows.specs.Ten.{as_ten}
use Rattle.ir_types.proofs.Laws.Label.{reference-bound}
use Rattle.ir_label.proofs.Laws.Spots.{row-none, row_word, row-name, second-pair, third-pair}
use Rattle.ir_label.proofs.row_spot.Goals as goal

pub returns-then-not-has_reference : goal.returns-then-not-has_reference
returns-then-not-has_reference c =
    (row-none c.args.names.now c.args.words.now (as_ten c.args.t) (sym c.has_reference.ensures ∙ c.if-not-has_reference.true), refl)

pub word_spot-requires : goal.word_spot-requires
word_spot-requires c =
    let some = sym c.has_reference.ensures ∙ c.if-not-has_reference.false in
    (omega (arith, c.if-t-ne0.true), reference-bound (as_ten c.args.t) some)

pub returns-then-t-ne0 : goal.returns-then-t-ne0
returns-then-t-ne0 c =
    let a = c.args in
    let some = sym c.has_reference.ensures ∙ c.if-not-has_reference.false in
    rw (row_word a.names.now a.words.now (as_ten a.t) some c.if-t-ne0.true) c.word_spot.ensures

pub returns-then-t-eq-VALUE_WITH_ATTRIBUTES : goal.returns-then-t-eq-VALUE_WITH_ATTRIBUTES
returns-then-t-eq-VALUE_WITH_ATTRIBUTES c =
    let a = c.args in
    let some = sym c.has_reference.ensures ∙ c.if-not-has_reference.false in
    let named = row-name a.names.now a.words.now (as_ten a.t) some c.if-t-ne0.false in
    rw (named ∙ second-pair a.names.now (as_ten a.t) c.if-t-eq-VALUE_WITH_ATTRIBUTES.true) (rw c.pair.ensures at c.name_spot.ensures)

pub returns-else-t-eq-VALUE_WITH_ATTRIBUTES : goal.returns-else-t-eq-VALUE_WITH_ATTRIBUTES
returns-else-t-eq-VALUE_WITH_ATTRIBUTES c =
    let a = c.args in
    let some = sym c.has_reference.ensures ∙ c.if-not-has_reference.false in
    let named = row-name a.names.now a.words.now (as_ten a.t) some c.if-t-ne0.false in
    rw (named ∙ third-pair a.names.now (as_ten a.t) c.if-t-eq-VALUE_WITH_ATTRIBUTES.false) (rw c.pair-else-t-eq-VALUE_WITH_ATTRIBUTES.ensures at c.name_spot-else-t-eq-VALUE_WITH_ATTRIBUTES.ensures)
