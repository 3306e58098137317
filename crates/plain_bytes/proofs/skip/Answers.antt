-- `plain_bytes::skip` meets its contract. The loop's invariant: i is no further than the text's end, and every byte from the start up to i is of the run.
-- A word of bytes below 128 with no stop is passed over whole, and one with a stop up to its lowest stop. The measure is how much is left. Assumes
-- nothing.
use native.Mathlib.Omega.{arith}
use mathlib.Core.Path.{sym, ◌∙◌}
use Rattle.plain_bytes.proofs.Laws.Runs.{low_word, stay, to-stop, past_word}
use Rattle.plain_bytes.proofs.skip.Goals as goal

pub returns-then-text-at : goal.returns-then-text-at
returns-then-text-at g c = stay _

pub loop-i-init : goal.loop-i-init
loop-i-init g c = (omega arith, stay _)

pub stops-found-requires : goal.stops-found-requires
stops-found-requires g c = low_word c.word_at-w.ensures c.if-w-ne0.false

pub returns-then-found-ne0 : goal.returns-then-found-ne0
returns-then-found-ne0 g c =
    rw (c.bytes_below.ensures.0, c.stops-found.ensures)
    (to-stop g.met.R.Run.finds c.loop-i.invariant.1 c.word_at-w.ensures c.if-w-ne0.false (omega arith))

pub loop-i-preserved : goal.loop-i-preserved
loop-i-preserved g c = (
  omega arith,
  past_word g.met.R.Run.finds c.loop-i.invariant.1 c.word_at-w.ensures c.if-w-ne0.false (omega arith)
      (sym c.stops-found.ensures ∙ c.if-found-ne0.false),
)
