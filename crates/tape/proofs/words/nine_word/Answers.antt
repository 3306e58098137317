-- `tape::words::nine_word` meets its contract: the four words of the length are compared. Assumes nothing.
use mathlib.Core.Path.{refl, ◌∙◌}
use Rattle.text.specs.Text.{bytes, every}
use Rattle.xsd_parser.specs.Words.{known_words}
use Rattle.tape.proofs.Laws.Words.{sized, word-sized, found-then}
use Rattle.tape.proofs.words.nine_word.Goals as goal

pub returns : goal.returns
unfolding known_words sized bytes every
returns c =
    found-then _ _ _ c.or-3.ensures
    (found-then _ _ _ c.or-2.ensures (found-then _ _ _ c.or.ensures c.facet_if.ensures c.facet_if-2.ensures refl) c.value_if.ensures refl)
    c.value_if-2.ensures refl
    ∙ word-sized c.args.name.now c.requires
