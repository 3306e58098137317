-- `ir_row::child_recipe` meets its contract: by the law of each row. Of the tags above 15 that have a recipe, 20 is left last. Assumes nothing.
use mathlib.Core.Path.{refl}
use native.Mathlib.Omega.{arith}
use Rattle.ir_types.specs.Rows.{cardinality_b, cardinality_c}
use Rattle.ir_row.proofs.Laws.Tags.{tag-20}
use Rattle.ir_row.proofs.Laws.Recipes.{lowers-as, lowers-only, lowers-18, lowers-19, lowers-20}
use Rattle.ir_row.proofs.child_recipe.Goals as goal

pub returns-in-17 : goal.returns-in-17
returns-in-17 c = λ codes event. lowers-as c.in-17.is refl (c.bounded_field.ensures codes event)

pub returns-in-18 : goal.returns-in-18
unfolding cardinality_b cardinality_c
returns-in-18 c = λ codes event. lowers-as c.in-18.is c.field.ensures
    (lowers-18 codes c.args.a c.args.b event c.args.reference)

pub returns-in-19 : goal.returns-in-19
returns-in-19 c = λ codes event. lowers-as c.in-19.is c.child.ensures
    (lowers-19 codes c.args.a c.args.b event c.args.reference)

pub returns-in_default : goal.returns-in_default
returns-in_default c =
    λ codes event. lowers-only c.child-in_default.ensures (lowers-20 codes c.args.a c.args.b event c.args.reference).in_order
    (tag-20 c.args.tag c.requires (λ e. omega arith) (λ e. omega arith) (λ e. omega arith))
    (λ h. lowers-20 codes c.args.a c.args.b event c.args.reference)
