-- `tape::words::known_word` meets its contract: of the words only those of the length are compared. Assumes nothing.
use mathlib.Core.Path.{refl, sym, ◌∙◌}
use mathlib.Core.List.{map}
use lib.ListN.{length}
use borrow.Author.Tests.{ne_eqb}
use Rattle.std.specs.Prelude.{Some, None}
use Rattle.text.specs.Text.{Text, bytes, every}
use Rattle.xsd_parser.specs.declared.words.Word.{Word}
use Rattle.xsd_parser.specs.Words.{known_words}
use Rattle.tape.specs.Keys.{known_word}
use Rattle.tape.proofs.Laws.Words.{sized, word-sized, found_none, found-then}
use native.Mathlib.Omega.{arith}
use Rattle.tape.proofs.words.known_word.Goals as goal

pub returns-in-3 : goal.returns-in-3
unfolding known_words sized bytes every
returns-in-3 c = c.value_if.ensures ∙ word-sized c.args.name.now c.in-3.is

pub returns-in-6 : goal.returns-in-6
unfolding known_words sized bytes every
returns-in-6 c = found-then _ _ _ c.or.ensures c.value_if-in-6.ensures c.value_if-in-6-2.ensures refl ∙ word-sized c.args.name.now c.in-6.is

pub returns-in-7 : goal.returns-in-7
unfolding known_words sized bytes every
returns-in-7 c = found-then _ _ _ c.or-in-7.ensures c.value_if-in-7.ensures c.facet_if.ensures refl ∙ word-sized c.args.name.now c.in-7.is

pub returns-in-8 : goal.returns-in-8
unfolding known_words sized bytes every
returns-in-8 c = c.value_if-in-8.ensures ∙ word-sized c.args.name.now c.in-8.is

pub returns-in-10 : goal.returns-in-10
unfolding known_words sized bytes every
returns-in-10 c = c.value_if-in-10.ensures ∙ word-sized c.args.name.now c.in-10.is

pub returns-in-13 : goal.returns-in-13
unfolding known_words sized bytes every
returns-in-13 c = c.value_if-in-13.ensures ∙ word-sized c.args.name.now c.in-13.is

pub returns-in-14 : goal.returns-in-14
unfolding known_words sized bytes every
returns-in-14 c = c.facet_if-in-14.ensures ∙ word-sized c.args.name.now c.in-14.is

pub returns-in_default : goal.returns-in_default
unfolding known_word known_words every bytes
returns-in_default c =
    let s = c.args.name.now in
    sym (found_none None (map (λ (x : Text × Word). (x.0, Some x.1)) known_words) s
    (rw (
      ne_eqb 6 (length s) (λ e. omega (arith, e)),
      ne_eqb 10 (length s) (λ e. omega (arith, e)),
      ne_eqb 11 (length s) (λ e. omega (arith, e)),
      ne_eqb 7 (length s) (λ e. omega (arith, e)),
      ne_eqb 9 (length s) (λ e. omega (arith, e)),
      ne_eqb 12 (length s) (λ e. omega (arith, e)),
      ne_eqb 14 (length s) (λ e. omega (arith, e)),
      ne_eqb 8 (length s) (λ e. omega (arith, e)),
      ne_eqb 13 (length s) (λ e. omega (arith, e)),
      ne_eqb 3 (length s) (λ e. omega (arith, e)),
    )))
