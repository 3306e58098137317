-- `ir_row::put_spelled` meets its contract: a row that has no recipe and is no count gives nothing; any other gives its recipe's row. Assumes nothing.
use mathlib.Core.Path.{sym, ◌∙◌}
use Rattle.sheet.specs.Rows.{text_at}
use Rattle.ir_append.proofs.Laws.Grows.{grows_none}
use Rattle.ir_row.specs.Recipes.{ten_rows}
use Rattle.ir_row.proofs.Laws.Recipes.{lowers-read}
use Rattle.ir_row.proofs.Laws.Rest.{text_at-read, lowered_none}
use Rattle.ir_row.proofs.put_spelled.Goals as goal

pub returns-then-not-has_recipe : goal.returns-then-not-has_recipe
unfolding ten_rows
returns-then-not-has_recipe c =
    let args = c.args in
    let none = lowered_none args.codes args.t.tag args.t.a args.t.b args.t.c (text_at args.names.now args.t.at0 args.t.len0)
    (text_at args.names.now args.t.at1 args.t.len1) c.requires
    (sym c.has_recipe.ensures ∙ c.if-not-has_recipe.true) in
    rw none grows_none

pub returns : goal.returns
unfolding ten_rows
returns c =
    let names = c.args.names.now in
    let first = c.part_of-first.ensures ∙ text_at-read names c.wide.ensures c.wide-2.ensures in
    let second = c.part_of-second.ensures ∙ text_at-read names c.wide-3.ensures c.wide-4.ensures in
    let rows = lowers-read c.recipe_of-recipe.ensures (sym c.has_recipe.ensures ∙ c.if-not-has_recipe.false)
    c.row_reference.ensures first second in
    rw rows c.append_spelled.ensures
