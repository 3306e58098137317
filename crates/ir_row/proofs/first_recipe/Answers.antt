-- `ir_row::first_recipe` meets its contract: by the law of each row. Of the tags up to 3 that have a recipe, 1 is left last. Assumes nothing.
use mathlib.Core.Path.{refl}
use mathlib.Core.Bool.{false}
use native.Mathlib.Omega.{arith}
use Rattle.ir_row.proofs.Laws.Tags.{tag-1}
use Rattle.ir_row.proofs.Laws.Recipes.{lowers-as, lowers-only, lowers-1, lowers-2}
use Rattle.ir_row.proofs.first_recipe.Goals as goal

pub returns-in-2 : goal.returns-in-2
returns-in-2 c = λ a b. lowers-as c.in-2.is c.with_texts.ensures (lowers-2 c.args.codes a b c.args.event c.args.reference)

pub returns-in-3 : goal.returns-in-3
returns-in-3 c = λ a b. lowers-as c.in-3.is refl (c.simple_recipe.ensures a b)

pub returns-in_default : goal.returns-in_default
returns-in_default c =
    λ a b. lowers-only c.with_texts-in_default.ensures (lowers-1 false 0 0 0 0).in_order (tag-1 c.args.tag c.requires (λ e. omega arith) (λ e. omega arith))
    (λ h. lowers-1 c.args.codes a b c.args.event c.args.reference)
