-- What lowering writes is in the form that a reduction takes, so that it never gives 21: it has the graph's form, and its types have the definitions' names,
-- which are distinct. Assumes nothing.
use Prim.Native.Nat.{ℕ}
use mathlib.Core.Path.{◌≡◌, ap, ◌∙◌}
use mathlib.Core.Bool.{true}
use mathlib.Core.List.{List, map}
use lib.ListN.{length}
use Rattle.text.specs.Text.{Text}
use Rattle.text.proofs.Laws.Tests.{and-true}
use Rattle.sheet.specs.Rows.{Sheet}
use Rattle.sheet.specs.Form.{words}
use Rattle.ir_types.specs.Distinct.{distinct_texts, distinct}
use Rattle.ir_lower.specs.Call.{lowering}
use Rattle.ir_lower.proofs.Laws.Names.{lowering-accepted}
use Rattle.ir_lower.proofs.Laws.Form.{lowering-form, lowering-ok}
use Rattle.ir_reduce.specs.Groups.{type_name}
use Rattle.ir_reduce.specs.Call.{graph_in, in_form}
use Rattle.ir_reduce.proofs.Laws.Names.{sheet-names}

pub lowering-in-form : (x graph : Sheet) (scratch : List ℕ) → words x.rows ≡ true → (lowering x graph scratch).answer.number ≡ 0 → in_form (lowering x graph scratch).graph ≡ true
unfolding in_form distinct
lowering-in-form x graph scratch w z =
    let a = lowering-accepted x graph scratch z in
    let ok = lowering-ok x graph scratch w z a.lowered a.from in
    let names = ap (λ (s : Sheet). map type_name (graph_in s).types) a.sheet ∙ sheet-names a.lowered (length graph.rows) (length graph.names) ok in
    and-true (lowering-form x graph scratch w z) (ap (λ (ts : List Text). distinct_texts ts) names ∙ a.once)
