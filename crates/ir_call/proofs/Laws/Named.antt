-- Named in docs/PORT.md. No contract cites them. Assumes nothing.
use Rattle.std.specs.Prelude.{Option, Some, None}
use Prim.Native.Nat.{ℕ}
use mathlib.Core.Path.{◌≡◌, refl, ap, subst, ◌∙◌}
use mathlib.Core.Bool.{true}
use mathlib.Core.List.{List, []}
use mathlib.Core.Option.{none}
use Rattle.rows.specs.declared.part.SheetPart.{SheetPart}
use Rattle.ir_types.specs.Types.{TypeGraph}
use Rattle.ir_types.specs.Distinct.{distinct_texts}
use Rattle.ir_lower.specs.Repeated.{type_head_names, first_repeated}
use Rattle.ir_lower.proofs.Laws.Repeated.{none-distinct}
use Rattle.ir_rows.specs.Parts.{part_heads}
use Rattle.ir_index.specs.Blocks.{found_row}
use Rattle.ir_call.specs.Steps.{GraphStands, GraphWritten}

pub stands_of : (g : TypeGraph) (rows names : List ℕ) (r : Option ℕ) (rows' names' : List ℕ) {place : ℕ} → GraphWritten g rows names r rows' names' → r ≡ Some place
    → GraphStands g rows names rows' names' place
stands_of g rows names r rows' names' w e = subst (λ (r : Option ℕ). GraphWritten g rows names r rows' names') e w

-- no name comes twice: each head's name is new among those before it, and so no two heads have one name
pub record AllIn (part : SheetPart) : Type 0 where
  pub once : first_repeated [] (part_heads part) ≡ none
  pub apart : distinct_texts (type_head_names (part_heads part)) ≡ true

-- of what the search answers, where it finds none
pub all_of : {part : SheetPart} (r : Option ℕ) → first_repeated [] (part_heads part) ≡ found_row r → r ≡ None → AllIn part
unfolding found_row distinct_texts
all_of {part} r w e =
    let once : first_repeated [] (part_heads part) ≡ none = w ∙ ap found_row e in
    record { once = once; apart = none-distinct [] (part_heads part) refl once }
