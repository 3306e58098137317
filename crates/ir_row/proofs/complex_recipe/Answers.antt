-- `ir_row::complex_recipe` meets its contract: by the law of each row. Of the tags 12 to 15, 15 is left last. Assumes nothing.
use mathlib.Core.Path.{ap, ◌∙◌}
use mathlib.Core.Bool.{false}
use native.Mathlib.Omega.{arith}
use Rattle.ir_append.specs.declared.Spelling.{Spelling}
use Rattle.ir_row.specs.Recipes.{texts_recipe}
use Rattle.ir_row.proofs.Laws.Tags.{tag-15}
use Rattle.ir_row.proofs.Laws.Recipes.{lowers-as, lowers-only, lowers-12, lowers-13, lowers-14, lowers-15}
use Rattle.ir_row.proofs.complex_recipe.Goals as goal

pub returns-in-12 : goal.returns-in-12
returns-in-12 c = λ codes b. lowers-as c.in-12.is c.with_texts.ensures
    (lowers-12 codes c.args.a b c.args.event c.args.reference)

pub returns-in-13 : goal.returns-in-13
returns-in-13 c = λ codes b. lowers-as c.in-13.is c.with_texts-in-13.ensures
    (lowers-13 codes c.args.a b c.args.event c.args.reference)

pub returns-in-14 : goal.returns-in-14
returns-in-14 c =
    let recipe = c.with_texts-in-14.ensures ∙ ap (texts_recipe 7 c.args.reference c.args.event Spelling.FirstNormalized) c.reference_text.ensures in
    λ codes b. lowers-as c.in-14.is recipe (lowers-14 codes c.args.a b c.args.event c.args.reference)

pub returns-in_default : goal.returns-in_default
returns-in_default c =
    let recipe = c.with_texts-in_default.ensures ∙ ap (texts_recipe 8 c.args.a c.args.event Spelling.FirstNormalized) c.namespace_text.ensures in
    λ codes b. lowers-only recipe (lowers-15 false c.args.a 0 c.args.event 0).in_order
    (λ h. tag-15 c.args.tag c.requires.0 c.requires.1 (λ e. omega arith) (λ e. omega arith) (λ e. omega arith))
    (λ h. lowers-15 codes c.args.a b c.args.event c.args.reference)
