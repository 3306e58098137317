-- `ir_index::enter_turn` meets its contract: a turn without a head enters nothing, and a head what `enter` says. Assumes nothing.
use mathlib.Core.Path.{refl, sym, ◌∙◌}
use native.Mathlib.Omega.{arith}
use Rattle.ir_index.proofs.Laws.Turns.{head-inside}
use Rattle.ir_index.proofs.Laws.Steps.{turn-passed, turn-came, turn-added}
use Rattle.ir_index.proofs.enter_turn.Goals as goal
use Rattle.text.proofs.Laws.Std.{none-is}

pub returns-in_default : goal.returns-in_default
returns-in_default c =
    let a = c.args in
    record {
      same_numbers = refl;
      same_buckets = refl;
      same_length = refl;
      entered = turn-passed a.part.now a.table.now a.turn c.requires.index (sym c.in_default.ensures);
    }

pub enter-requires-clause-entering : goal.enter-requires-clause-entering
enter-requires-clause-entering c =
    let a = c.args in
    let i = head-inside a.part.now a.turn _ (sym c.in-Some.ensures) c.requires.turn_inside.0 in
    record { above = i.0; inside = omega (arith, i.1, a.part.now.within); small = c.requires.turn_inside.1; room = c.requires.room }

pub returns-then-is_some : goal.returns-then-is_some
returns-then-is_some c =
    let a = c.args in
    let e = c.enter.ensures in
    record {
      same_numbers = e.same_numbers;
      same_buckets = e.same_buckets;
      same_length = e.same_length;
      entered = turn-came a.part.now a.table.now a.turn c.enter.new.self (sym c.in-Some.ensures) e.entered (sym c.is_some.ensures ∙ c.if-is_some.true);
    }

pub returns : goal.returns
returns c =
    let a = c.args in
    let e = c.enter.ensures in
    let none = sym c.is_some.ensures ∙ c.if-is_some.false in
    record {
      same_numbers = e.same_numbers;
      same_buckets = e.same_buckets;
      same_length = e.same_length;
      entered =
          turn-added a.part.now a.table.now a.turn c.enter.new.self (sym c.in-Some.ensures) e.entered none (none-is _ none) e.same_buckets (rw none at e.count);
    }
