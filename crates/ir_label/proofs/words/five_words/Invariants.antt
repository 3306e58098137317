-- `ir_label::words::five_words`: the list is good exactly where what is left is as many words as are left to find.
use Rattle.std.proofs.Common.{◌≡◌, ◌-◌, ◌≤◌, length, drop}
use Rattle.ir_types.specs.Label.{good_words}
use Rattle.ir_label.proofs.Laws.Good.{good_from}
use Rattle.ir_label.proofs.words.five_words.Given as goal

abbrev pub invariant-loop : goal.invariant-loop
invariant-loop l = (l.at ≤ length l.words) × (good_from (5 - l.counter) (drop l.at l.words) ≡ good_words l.words)
