-- The graph's rows for the types of one kind.
--     one_rows      those for the type whose head stands at place p, if it is of that kind, else none
--     kind_rows     those for the types of one kind from place p on
use Rattle.std.specs.Prelude.{ℕ, ◌*◌, List, [], get_or, if◌then◌else◌}
use Rattle.sheet.specs.Rows.{Row}
use Rattle.rows.specs.declared.part.SheetPart.{SheetPart}
use Rattle.ir_rows.specs.Lowered.{type_rows_of}
use Rattle.ir_rows.specs.Parts.{part_rows, part_types}
use Rattle.ir_checks.specs.declared.TypeKind.{TypeKind}
use Rattle.ir_checks.specs.Kinds.{is_kind, kind_places}

unfoldable pub one_rows : SheetPart → TypeKind → ℕ → List Row
one_rows part kind p = if is_kind kind (get_or part.rows.now (10 * p) 0) then type_rows_of (part_rows part p) else []

unfoldable pub kind_rows : SheetPart → TypeKind → ℕ → List Row
kind_rows part kind p = part_types part (kind_places part kind p)
