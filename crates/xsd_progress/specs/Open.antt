-- The tag of the open type's head. What holds of every reader whose rows the sheet holds is a record's field, so that a caller names it.
--     TagOfHead     the tag is that of the open type's head, for the context that row 0 says and the row where the head stands
use Rattle.std.specs.Prelude.{ℕ, ◌+◌, ◌≤◌, ◌≡◌, List, ◌∷◌, length}
use Rattle.text.specs.Text.{Text}
use Rattle.xsd_types.specs.Contexts.{simple_type_context}
use Rattle.xsd_types.specs.State.{Reader}
use Rattle.xsd_types.specs.Rows.{namespace_row, items_rows, context_number}
use Rattle.xsd_actions.specs.Actions.{head_tag, reader_rows}
use Rattle.rows.specs.declared.numbers.Used.{Used}
use Rattle.rows.specs.Packing.{Holds}

-- the head stands behind row 0, row 1 and the items' rows
pub record TagOfHead (rows : List ℕ) (context head tag : ℕ) : Type 0 where
  pub is : (names : List ℕ) (used : Used) (z : List ℕ) (ns : Text) (r : Reader) → Holds rows names used z (namespace_row ns ∷ reader_rows r)
      → context ≡ context_number r.context → (simple_type_context ≤ context → head ≡ 2 + length (items_rows r.schema.items)) → tag ≡ head_tag r.context
