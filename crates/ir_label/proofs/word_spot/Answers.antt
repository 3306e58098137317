-- `ir_label::word_spot` meets its contract: in a good list each word ends at the first newline byte behind its start. Assumes nothing.
use Rattle.std.proofs.Common.{◌-◌, refl, sym, ◌∙◌, arith}
use Rattle.ir_types.proofs.Laws.Words.{six-words, word-part}
use Rattle.ir_label.proofs.Laws.Spots.{word-bad, word-here}
use Rattle.ir_label.proofs.word_spot.Goals as goal

pub returns-then-not-five_words : goal.returns-then-not-five_words
returns-then-not-five_words c = (word-bad c.args.words.now c.args.a (sym c.five_words.ensures ∙ c.if-not-five_words.true), refl)

pub word_start-at-requires : goal.word_start-at-requires
word_start-at-requires c =
    let good = sym c.five_words.ensures ∙ c.if-not-five_words.false in
    omega (arith, c.requires, six-words c.args.words.now good)

pub line_end-end-requires : goal.line_end-end-requires
line_end-end-requires c =
    let words = c.args.words.now in
    let good = sym c.five_words.ensures ∙ c.if-not-five_words.false in
    omega (arith, c.word_start-at.ensures, (word-part words (c.args.a - 1) (omega (arith, c.requires, six-words words good))).inside)

pub returns : goal.returns
returns c =
    let good = sym c.five_words.ensures ∙ c.if-not-five_words.false in
    word-here c.args.words.now c.args.a _ _ good c.requires.1 c.word_start-at.ensures c.line_end-end.ensures
