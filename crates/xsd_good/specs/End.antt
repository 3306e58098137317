-- Where a schema sheet's finished items end, and the state that a sheet holds. Paper 01: "Rows stand in order of arrival, children behind their head, the open
-- type last."
--     finished_end   the place behind the last finished item's rows: the open type's head in contexts 2 and 3, else the end of the used rows
--     HeadIs        a place is that of the open type's head, where row 0 says that a type is open
--     FinishedAt    a place is where the finished items end by row 0; the numbers are u32, for which the laws of a good sheet ask and which the buffer's type gives
--     HeldState     the buffers are the packing of a proper state's rows behind its row 0
use Rattle.std.specs.Prelude.{ℕ, ◌≤◌, ◌≡◌, true, List, [], ◌∷◌, leb, if◌then◌else◌}
use Rattle.sheet.specs.Rows.{ten, numbers}
use Rattle.sheet.specs.Form.{words, rows_used_in}
use Rattle.xsd_types.specs.Contexts.{simple_type_context}
use Rattle.xsd_types.specs.State.{State, proper}
use Rattle.xsd_types.specs.Row0.{row0_from, row0_ten}
use Rattle.xsd_types.specs.Rows.{rows_of, row0}
use Rattle.rows.specs.Packing.{Packs}
use Rattle.xsd_good.specs.Heads.{head_row}

unfoldable pub finished_end : List ℕ → ℕ → ℕ → ℕ
finished_end rows context used = if leb simple_type_context context then head_row rows used else used

abbrev pub HeadIs : List ℕ → ℕ → Type 0
HeadIs rows head = let z = row0_from (ten rows) in simple_type_context ≤ z.context → head ≡ head_row rows z.rows_used

pub record FinishedAt (rows : List ℕ) (end : ℕ) : Type 0 where
  pub place : end ≡ finished_end rows (row0_from (ten rows)).context (rows_used_in (ten rows))
  pub words : words rows ≡ true

pub record HeldState (s : State) (rows names : List ℕ) : Type 0 where
  pub packs : Packs rows names (numbers (row0_ten (row0 s) ∷ [])) (rows_of s)
  pub proper : proper s ≡ true
