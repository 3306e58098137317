-- `ir_row::facet_recipe` meets its contract: by the law of each row. Of the tags 4 to 11 that have a recipe, 4 is left last, and a code enum has it.
-- Assumes nothing.
use mathlib.Core.Path.{refl}
use mathlib.Core.Bool.{true}
use native.Mathlib.Omega.{arith}
use Rattle.ir_row.proofs.Laws.Tags.{tag-4}
use Rattle.ir_row.proofs.Laws.Recipes.{lowers-as, lowers-only, lowers-4, lowers-5, lowers-8, lowers-9}
use Rattle.ir_row.proofs.facet_recipe.Goals as goal

pub returns-in-5 : goal.returns-in-5
returns-in-5 c = λ codes a b event n. lowers-as c.in-5.is c.with_texts.ensures (lowers-5 codes a b event n)

pub returns-in-8 : goal.returns-in-8
returns-in-8 c = λ codes a b event n. lowers-as c.in-8.is c.with_texts-in-8.ensures (lowers-8 codes a b event n)

pub returns-in-9 : goal.returns-in-9
returns-in-9 c = λ codes a b event n. lowers-as c.in-9.is c.with_texts-in-9.ensures (lowers-9 codes a b event n)

pub returns-in_default : goal.returns-in_default
returns-in_default c =
    λ codes a b event n.
    let four = tag-4 {code_enum = codes} c.args.tag c.requires.0 c.requires.1 (λ e. omega arith) (λ e. omega arith) (λ e. omega arith) in
    lowers-only c.with_texts-in_default.ensures (lowers-4 true 0 0 0 0 refl).in_order four (λ h. lowers-4 codes a b event n (h.in_code_enum (four h)))
