-- `tape::words::word_of` meets its contract: a word has no colon, so it is the local name of what it ends. Assumes nothing.
use mathlib.Core.Path.{sym, ap, ◌∙◌}
use Rattle.std.specs.Prelude.{Option, unwrap_or}
use Rattle.xsd_parser.specs.declared.words.Word.{Word}
use Rattle.xsd_parser.specs.Words.{word_of}
use Rattle.tape.proofs.Laws.Words.{word-known, known-clean}
use Rattle.tape.proofs.words.word_of.Goals as goal

pub returns-in-Some : goal.returns-in-Some
returns-in-Some c =
    let t = c.behind_two.result.now in
    let known = sym c.in-Some.ensures in
    ap (λ (o : Option Word). unwrap_or o Word.Other) (sym known) ∙ word-known t ∙ ap word_of (sym (c.behind_two.ensures (known-clean t c.in-Some.word known)))
