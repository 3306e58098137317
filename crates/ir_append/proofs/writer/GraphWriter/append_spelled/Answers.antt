-- `ir_append::writer::GraphWriter::append_spelled` meets its contract. Without room for a row, or for the texts, the row has no room. Else the texts and the row's ten
-- numbers stand behind the used parts, which is one row more. Assumes nothing.
use mathlib.Core.Path.{refl, ◌∙◌}
use native.Mathlib.Omega.{arith}
use Rattle.ir_append.specs.Spelled.{recipe_row}
use Rattle.ir_append.proofs.Laws.Grows.{short-rows, short-names, grown-one}
use Rattle.ir_append.proofs.Laws.Stored.{stored-whole}
use Rattle.ir_append.proofs.Laws.Recipe.{recipe-bytes, recipe-numbers}
use Rattle.ir_append.proofs.writer.GraphWriter.append_spelled.Goals as goal

pub returns-then-self : goal.returns-then-self
returns-then-self c =
    let a = c.args in
    record { same_rows = refl; same_names = refl; rows_length = refl; names_length = refl; added = short-rows (recipe_row a.recipe a.first.now a.second.now) c.if-self.true }

pub returns-in_err-n : goal.returns-in_err-n
returns-in_err-n c =
    let a = c.args in
    rw c.from_residual.ensures (record {
      same_rows = refl;
      same_names = refl;
      rows_length = refl;
      names_length = c.put_texts.auto.names;
      added = short-names (recipe_row a.recipe a.first.now a.second.now) (rw (recipe-bytes a.recipe a.first.now a.second.now) c.in_err-n.ensures);
    })

pub returns : goal.returns
returns c =
    let a = c.args in
    let s = c.in_ok-n.ensures in
    let bytes = recipe-bytes a.recipe a.first.now a.second.now in
    let numbers = c.spelled_row-row.ensures
    ∙ recipe-numbers a.recipe a.first.now a.second.now _ _ _ _ c.requires s.first_length s.second_length s.third_length in
    grown-one (recipe_row a.recipe a.first.now a.second.now) (omega arith)
    (rw bytes (omega (arith, s.stored.inside, s.stored.count))) refl refl (rw (← numbers) c.put_row.ensures) (rw bytes (stored-whole s.stored))
    refl (rw bytes (omega (arith, s.stored.count)))
