-- The finished types of one kind by the places of their heads.
--     is_kind        a finished type's head: of a simple type, or of a complex one
--     kind_places    the places of such heads from place p on
use Rattle.std.specs.Prelude.{ℕ, List, Bool}
use Rattle.rows.specs.declared.part.SheetPart.{SheetPart}
use Rattle.ir_rows.specs.Types.{is_simple, is_complex, places_of}
use Rattle.ir_rows.specs.Parts.{part_rows}
use Rattle.ir_checks.specs.declared.TypeKind.{TypeKind}

unfoldable pub is_kind : TypeKind → ℕ → Bool
is_kind TypeKind.Simple tag = is_simple tag
is_kind TypeKind.Complex tag = is_complex tag

unfoldable pub kind_places : SheetPart → TypeKind → ℕ → List ℕ
kind_places part kind p = places_of (is_kind kind) p (part_rows part p)
