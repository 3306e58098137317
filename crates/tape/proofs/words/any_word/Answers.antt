-- `tape::words::any_word` meets its contract: the word of the local name, or another. Assumes nothing.
use mathlib.Core.Path.{ap, ◌∙◌}
use Rattle.std.specs.Prelude.{Option, unwrap_or}
use Rattle.xsd_parser.specs.declared.words.Word.{Word}
use Rattle.xsd_parser.specs.Words.{word_of}
use Rattle.tape.proofs.Laws.Words.{word-known}
use Rattle.tape.proofs.words.any_word.Goals as goal

pub returns : goal.returns
returns c = c.unwrap_or.ensures ∙ ap (λ (o : Option Word). unwrap_or o Word.Other) c.known_word.ensures ∙ word-known _ ∙ ap word_of c.local_name.ensures.bytes
