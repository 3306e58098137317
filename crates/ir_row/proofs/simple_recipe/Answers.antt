-- `ir_row::simple_recipe` meets its contract: by the law of each row. Assumes nothing.
use Rattle.ir_row.proofs.Laws.Recipes.{lowers-code-enum, lowers-newtype}
use Rattle.ir_row.proofs.simple_recipe.Goals as goal

pub returns-then-codes : goal.returns-then-codes
returns-then-codes c = λ a b. rw (c.if-codes.true, c.with_texts.ensures) (lowers-code-enum a b c.args.event c.args.reference)

pub returns-else-codes : goal.returns-else-codes
returns-else-codes c = λ a b. rw (c.if-codes.false, c.with_texts-else-codes.ensures) (lowers-newtype a b c.args.event c.args.reference)
