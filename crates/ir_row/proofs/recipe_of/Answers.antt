-- `ir_row::recipe_of` meets its contract: by what the call for the group of tags ensures. Assumes nothing.

use Rattle.ir_row.proofs.recipe_of.Goals as goal

pub returns-then-t-le-SIMPLE_TYPE : goal.returns-then-t-le-SIMPLE_TYPE
returns-then-t-le-SIMPLE_TYPE c = c.first_recipe.ensures c.args.t.a c.args.t.b

pub returns-then-t-le-FRACTION_DIGITS : goal.returns-then-t-le-FRACTION_DIGITS
returns-then-t-le-FRACTION_DIGITS c =
    let args = c.args in
    c.facet_recipe.ensures args.codes args.t.a args.t.b args.t.c args.reference

pub returns-then-t-le-ANY : goal.returns-then-t-le-ANY
returns-then-t-le-ANY c =
    let args = c.args in
    c.complex_recipe.ensures args.codes args.t.b

pub returns-else-t-le-ANY : goal.returns-else-t-le-ANY
returns-else-t-le-ANY c =
    let args = c.args in
    c.child_recipe.ensures args.codes args.t.c
