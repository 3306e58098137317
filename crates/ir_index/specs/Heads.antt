-- The heads of finished types turn by turn: each row behind row 1 has a turn for a simple type, in row order, and then each has a turn for a complex one.
--     kind_place     the place p, if the head of a type of one kind stands there
--     head_place     the place of the head at a turn, if there is one
--     with_place     a place, if there is one, before others
--     places_from    the places of the heads of n turns, from a turn on
--     head_text      the normalised name in the first pair of the row at a place
--     head_in_part   the head at a place, for order 4; turn_heads: that of a turn
--     heads_from     the heads of n turns, from a turn on
use Rattle.std.specs.Prelude.{ℕ, zero, suc, ◌+◌, ◌-◌, ◌*◌, List, [], ◌∷◌, map, true, ltb, get_or, if◌then◌else◌, Option, Some, None}
use Rattle.text.specs.Text.{Text}
use Rattle.rows.specs.declared.part.SheetPart.{SheetPart}
use Rattle.ir_lower.specs.Repeated.{Head}
use Rattle.ir_checks.specs.declared.TypeKind.{TypeKind}
use Rattle.ir_checks.specs.Kinds.{is_kind}
use Rattle.name_index.specs.Index.{spelled_name_at}

unfoldable pub kind_place : SheetPart → TypeKind → ℕ → Option ℕ
kind_place part kind p = if is_kind kind (get_or part.rows.now (10 * p) 0) then Some p else None

-- "Only finished types are lowered, simple ones before complex."
unfoldable pub head_place : SheetPart → ℕ → Option ℕ
head_place part turn =
    if ltb turn (part.end - 2) then kind_place part TypeKind.Simple (turn + 2) else kind_place part TypeKind.Complex (turn - (part.end - 2) + 2)

unfoldable pub with_place : Option ℕ → List ℕ → List ℕ
with_place None ps = ps
with_place (Some p) ps = p ∷ ps

unfoldable pub places_from : SheetPart → ℕ → ℕ → List ℕ
places_from part turn zero = []
places_from part turn (suc n) = with_place (head_place part turn) (places_from part (turn + 1) n)

abbrev pub head_text : SheetPart → ℕ → Text
head_text part p = spelled_name_at part.rows.now part.names.now true p

unfoldable pub head_in_part : SheetPart → ℕ → Head
head_in_part part p = record { row = p; name = head_text part p }

abbrev pub turn_heads : SheetPart → ℕ → List Head
turn_heads part turn = map (head_in_part part) (with_place (head_place part turn) [])

abbrev pub heads_from : SheetPart → ℕ → ℕ → List Head
heads_from part turn n = map (head_in_part part) (places_from part turn n)
