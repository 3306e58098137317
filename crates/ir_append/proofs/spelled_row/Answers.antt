-- `ir_append::spelled_row` meets its contract: the ten numbers are the definition's, with the offsets that `offset` gives. Assumes nothing.
use Rattle.std.specs.Prelude.{Option, Some, None, if◌then◌else◌}
use Rattle.std.specs.Option.{is_some}
use Prim.Native.Nat.{ℕ}
use mathlib.Core.Path.{◌≡◌, ◌∙◌}
use mathlib.Core.Bool.{Bool}
use Rattle.ir_append.specs.declared.Spelling.{Spelling}
use Rattle.ir_append.specs.Stored.{offset_of, recipe_numbers}
use Rattle.ir_append.proofs.spelled_row.Goals as goal

-- the offset of a text, or of none
at-some : (how : Option Spelling) (at : ℕ) {used : Bool} {n : ℕ} → n ≡ (if used then at else 0) → used ≡ is_some how → n ≡ offset_of how at
at-some None at e u = e ∙ rw u
at-some (Some how) at e u = e ∙ rw u

pub returns : goal.returns
unfolding recipe_numbers
returns c =
    let r = c.args.recipe in
    let first = at-some r.first _ c.offset.ensures c.is_some.ensures in
    let second = at-some r.second _ c.offset-2.ensures c.is_some-2.ensures in
    let third = at-some r.third _ c.offset-3.ensures c.is_some-3.ensures in
    rw (first, second, third)
