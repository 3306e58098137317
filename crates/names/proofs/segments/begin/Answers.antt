-- `names::segments::begin` meets its contract: the character is cased, and its form is given byte by byte. Assumes nothing.
use Rattle.std.proofs.Common.{sym, ◌∙◌}
use Rattle.names.specs.Short.{short_bytes}
use Rattle.names.proofs.segments.begin.Goals as goal

pub returns : goal.returns
returns c =
    record {
      character = short_bytes c.character-c.result.0;
      form = c.split_first-b.result.1;
      split = c.character-c.ensures.0;
      cased_is = sym c.cased.ensures ∙ c.split_first-b.ensures;
      reading = c.reading_behind.ensures;
      shorter = c.character-c.ensures.1;
    }
