-- The steps of a lowering.
--     SizedSheet      the lengths of a sheet's buffers are in the paper's bounds
--     lowered_sheets  what a lowering leaves, as one value
--     Finished        the rows of a schema sheet's finished items, for which the sheet's count is right
--     GraphOf         they are lowered to the graph g
--     LowersState     they are those of the state s
--     GraphWritten    the graph g written into a sheet of zeros, or that it has no room
use Rattle.std.specs.Prelude.{ℕ, Option, MatchOption, ◌≤◌, ◌≡◌, Bool, true, false, List, [], length, get_or}
use Rattle.std.proofs.Math.Option.{none, some}
use Rattle.sheet.specs.Limits.{least_rows, rows_limit, names_limit}
use Rattle.sheet.specs.Lengths.{Answer}
use Rattle.sheet.specs.Calls.{sheet}
use Rattle.rows.specs.declared.part.SheetPart.{SheetPart}
use Rattle.ir_types.specs.Types.{TypeGraph}
use Rattle.ir_types.specs.Rows.{rows_of, rows_used}
use Rattle.ir_types.specs.Sheet.{graph_fits, graph_sheet}
use Rattle.xsd_types.specs.State.{State}
use Rattle.xsd_types.specs.Refused.{refused_place}
use Rattle.xsd_types.specs.Count.{refused_rows}
use Rattle.ir_lower.specs.Lower.{lower, unknown_row}
use Rattle.ir_lower.specs.Repeated.{first_repeated, repeated_row}
use Rattle.ir_lower.specs.Call.{Lowered}
use Rattle.ir_rows.specs.Lowered.{root_rows}
use Rattle.ir_rows.specs.Parts.{part_rows, part_places, part_heads, part_graph}

pub record SizedSheet (rows names : List ℕ) : Type 0 where
  pub some_rows : least_rows ≤ length rows
  pub few_rows : length rows ≤ rows_limit
  pub few_names : length names ≤ names_limit

abbrev pub lowered_sheets : Answer → List ℕ → List ℕ → List ℕ → Lowered
lowered_sheets answer rows names scratch = record { answer = answer; graph = sheet rows names; scratch = scratch }

pub record Finished (part : SheetPart) : Type 0 where
  pub at_least : 2 ≤ part.end
  pub few : length part.rows.now ≤ rows_limit
  pub count : get_or part.rows.now 17 0 ≡ refused_rows (part_rows part 2)

pub record GraphOf (part : SheetPart) (g : TypeGraph) : Type 0 where
  pub rows_are : part_graph part (part_places part) ≡ rows_of g
  pub roots : length (root_rows (part_rows part 2)) ≡ length g.root_elements
  pub types : length (part_places part) ≡ length g.types

pub record LowersState (part : SheetPart) (root_seen : Bool) (s : State) : Type 0 where
  pub root : root_seen ≡ s.reader.root_seen
  pub place : refused_place 2 (part_rows part 2) ≡ unknown_row 2 s.reader.schema.items
  pub refuses : lower s.reader.schema ≡ none → 1 ≤ refused_place 2 (part_rows part 2)
  pub repeated : first_repeated [] (part_heads part) ≡ repeated_row s.reader.schema
  pub lowers : (g : TypeGraph) → lower s.reader.schema ≡ some g → (refused_place 2 (part_rows part 2) ≡ 0) × GraphOf part g

pub record GraphStands (g : TypeGraph) (rows names rows' names' : List ℕ) (place : ℕ) : Type 0 where
  pub fits : graph_fits (length rows) (length names) g ≡ true
  pub place_is : place ≡ rows_used g
  pub graph : sheet rows' names' ≡ graph_sheet g (length rows) (length names)

abbrev pub GraphWritten : TypeGraph → List ℕ → List ℕ → Option ℕ → List ℕ → List ℕ → Type 0
GraphWritten g rows names answer rows' names' =
    MatchOption answer (graph_fits (length rows) (length names) g ≡ false) (λ place. GraphStands g rows names rows' names' place)
