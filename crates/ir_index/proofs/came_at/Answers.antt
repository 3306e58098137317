-- `ir_index::came_at` meets its contract: a turn without a head, or one whose name is not among the block's, came with none. Assumes nothing.
use Rattle.std.specs.Prelude.{is_some}
use mathlib.Core.Path.{sym, ap, ◌∙◌}
use native.Mathlib.Omega.{arith}
use Rattle.name_index.specs.Index.{places_in}
use Rattle.name_index.proofs.Laws.Places.{place-among}
use Rattle.ir_index.specs.Heads.{head_text}
use Rattle.ir_index.specs.Blocks.{names_in}
use Rattle.ir_index.proofs.Laws.Turns.{head-inside}
use Rattle.ir_index.proofs.Laws.Steps.{asked-none, asked-other}
use Rattle.ir_index.proofs.came_at.Goals as goal

pub returns-in_err-place : goal.returns-in_err-place
returns-in_err-place c =
    let a = c.args in
    rw c.from_residual.ensures (asked-none a.part.now (names_in a.part.now a.table.now) a.turn (sym c.head_at.ensures ∙ c.in_err-place.was))

pub spelled_at-requires : goal.spelled_at-requires
spelled_at-requires c =
    let a = c.args in
    omega (arith, (head-inside a.part.now a.turn _ (sym c.head_at.ensures ∙ c.in_ok-place.was) c.requires.turn_inside).1, a.part.now.within)

pub returns-in_err-find : goal.returns-in_err-find
returns-in_err-find c =
    let a = c.args in
    let t = a.table.now in
    let found = rw c.spelled_at.ensures at c.find.ensures in
    let other = sym (place-among (head_text a.part.now) _ (places_in t.buckets t.entries t.numbers.now)) ∙ ap is_some (sym found ∙ c.in_err-find.was) in
    rw c.from_residual-in_err-find.ensures (asked-other a.part.now (names_in a.part.now t) a.turn (sym c.head_at.ensures ∙ c.in_ok-place.was) other)

pub returns : goal.returns
returns c =
    let a = c.args in
    let t = a.table.now in
    let found = rw c.spelled_at.ensures at c.find.ensures in
    record {
      head = sym c.head_at.ensures ∙ c.in_ok-place.was;
      came = sym (place-among (head_text a.part.now) _ (places_in t.buckets t.entries t.numbers.now)) ∙ ap is_some (sym found ∙ c.in_ok-find.was);
    }
