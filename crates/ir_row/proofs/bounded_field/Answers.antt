-- `ir_row::bounded_field` meets its contract: by the law of the field's row. Assumes nothing.
use mathlib.Core.Path.{ap}
use Rattle.ir_types.specs.Rows.{cardinality_b, cardinality_c}
use Rattle.ir_row.proofs.Laws.Recipes.{lowers-17}
use Rattle.ir_row.proofs.bounded_field.Goals as goal

pub returns : goal.returns
returns c =
    let args = c.args in
    λ codes event. rw c.field.ensures
    (lowers-17 codes args.min args.max event args.reference (ap cardinality_b c.bounded.ensures) (ap cardinality_c c.bounded.ensures))
