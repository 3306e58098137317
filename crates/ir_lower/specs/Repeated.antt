-- Two types of one name. Order 4: "Lowering refuses when two finished types normalise to the same name; the place is the row of the first head, in
-- lowering's order, whose name came before."
--     Head          a finished type's head: its row in the schema sheet and the type's normalised name
--     simple_head, complex_head    the head of an item that is a simple type, a complex one, at a row; no other item has one
--     heads_of       the heads of the items, the first of which is at the row
--     heads         the finished types' heads in lowering's order; type_head_names: their names
--     first_repeated    the row of the first head whose name came before: among the names seen, or with an earlier head of the list
--     repeated_row   that of a schema's types
--     FirstRepeat   the same without a search: before a head of this row no name came twice, and its own name came there
use Rattle.std.specs.Prelude.{ℕ, ◌+◌, ◌≡◌, true, List, [], ◌∷◌, ◌++◌, map, length, if◌then◌else◌}
use Rattle.std.proofs.Math.Option.{Option, some, none}
use Rattle.text.specs.Text.{Text}
use Rattle.xsd_types.specs.Types.{Item, Schema}
use Rattle.xsd_types.specs.Rows.{item_rows}
use Rattle.ir_types.specs.Distinct.{among, distinct_texts}
use Rattle.ir_lower.specs.Finished.{simple_name, complex_name}

pub record Head : Type 0 where
  pub row : ℕ
  pub name : Text

unfoldable pub simple_head : ℕ → Item → List Head
simple_head row (Item.element e) = []
simple_head row (Item.simple_type t) = record { row = row; name = simple_name t } ∷ []
simple_head row (Item.complex_type t) = []

unfoldable pub complex_head : ℕ → Item → List Head
complex_head row (Item.element e) = []
complex_head row (Item.simple_type t) = []
complex_head row (Item.complex_type t) = record { row = row; name = complex_name t } ∷ []

unfoldable pub heads_of : (ℕ → Item → List Head) → ℕ → List Item → List Head
heads_of head row [] = []
heads_of head row (i ∷ is) = head row i ++ heads_of head (row + length (item_rows i)) is

-- "simple ones before complex"
unfoldable pub heads : ℕ → List Item → List Head
heads row is = heads_of simple_head row is ++ heads_of complex_head row is

unfoldable pub type_head_names : List Head → List Text
type_head_names hs = map (λ (h : Head). h.name) hs

unfoldable pub first_repeated : List Text → List Head → Option ℕ
first_repeated seen [] = none
first_repeated seen (h ∷ hs) = if among h.name seen then some h.row else first_repeated (seen ++ (h.name ∷ [])) hs

-- rows 0 and 1 stand before the items'
unfoldable pub repeated_row : Schema → Option ℕ
repeated_row s = first_repeated [] (heads 2 s.items)

pub record FirstRepeat (seen : List Text) (hs : List Head) (row : ℕ) : Type 0 where
  pub before : List Head
  pub head : Head
  pub behind : List Head
  pub made : hs ≡ before ++ (head ∷ behind)
  pub new : distinct_texts (seen ++ type_head_names before) ≡ true
  pub came : among head.name (seen ++ type_head_names before) ≡ true
  pub place : head.row ≡ row
