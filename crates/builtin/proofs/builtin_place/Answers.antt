-- `builtin::builtin_place` meets its contract: the table is that of the places which the list gives to the slots. Assumes nothing.
use Rattle.std.proofs.Common.{arith, ap, ◌∙◌}
use Rattle.text.specs.Text.{bytes, first}
use Rattle.builtin.specs.Builtin.{builtins}
use Rattle.builtin.specs.Answers.{slot_of, slot_place, builtin_place}
use Rattle.builtin.proofs.Laws.Builtins.{slots_to, slots_at, slot_small}
use Rattle.builtin.proofs.builtin_place.Goals as goal

pub offset_bounds-slot_of : goal.offset_bounds-slot_of
offset_bounds-slot_of c = omega (arith, slot_small c.args.word.now)

pub bounds-slot_of : goal.bounds-slot_of
bounds-slot_of c = omega (arith, slot_small c.args.word.now)

pub returns : goal.returns
unfolding slots_to slot_place builtin_place slot_of bytes first builtins
returns c =
    let word = c.args.word.now in
    slots_at 65 c.slot_of.result (omega (arith, slot_small word)) ∙ ap (λ s. slot_place s 0 builtins) c.slot_of.ensures
