-- `ir_label::words::word_start`: the bytes passed, and where the word that is so many words on starts in what is left, are where it starts.
use Rattle.std.proofs.Common.{◌≡◌, ◌+◌, ◌-◌, ◌≤◌, ◌<◌, length, drop}
use Rattle.ir_types.specs.Label.{words_of, word_at}
use Rattle.ir_label.proofs.words.word_start.Given as goal

abbrev pub invariant-loop : goal.invariant-loop
invariant-loop l = (l.at ≤ length l.words) × (l.n - l.counter < length (words_of (drop l.at l.words)))
    × (l.at + word_at (l.n - l.counter) (words_of (drop l.at l.words)) ≡ word_at l.n (words_of l.words))
