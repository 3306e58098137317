-- Which outcome a lowering of a good sheet's state has, under the table's conditions in their order: 14, 12, 13, 20, 15, and else 0.
--     LoweringOutcome   the six, each with its own condition and those before it failing
--     LoweringAccepted  an accepted lowering's graph: its types are all finished types in lowering's order, and no name stands twice
--     NameTwice         where 20 comes: 1, 2, 14, 12 and 13 do not, and two finished types have one name
use Rattle.std.specs.Prelude.{ℕ, ◌≤◌, ◌<◌, ◌≡◌, List, true, false, ◌&&◌, length}
use Rattle.std.proofs.Math.Option.{some, none}
use Rattle.sheet.specs.Rows.{Sheet}
use Rattle.sheet.specs.Lengths.{lengths_of, good_lengths}
use Rattle.sheet.specs.Returned as returned
use Rattle.xsd_types.specs.Types.{Schema, simple_types}
use Rattle.xsd_types.specs.State.{State}
use Rattle.xsd_types.specs.Count.{good, state_of}
use Rattle.ir_types.specs.Types.{TypeGraph}
use Rattle.ir_types.specs.Distinct.{type_names, distinct_texts, distinct}
use Rattle.ir_types.specs.Rows.{rows_used}
use Rattle.ir_types.specs.Sheet.{graph_fits, graph_sheet}
use Rattle.ir_lower.specs.Lower.{any_unknown, finished_definitions, lower, unknown_row}
use Rattle.ir_lower.specs.Finished.{finished_names}
use Rattle.ir_lower.specs.Repeated.{repeated_row}
use Rattle.ir_lower.specs.Call.{Lowered, zeros, unchanged, cleared, scratch_least}

pub data LoweringOutcome (s : State) (graph : Sheet) (scratch : List ℕ) (l : Lowered) : Type 0 where
  short : length scratch < scratch_least → l ≡ unchanged returned.short_scratch graph scratch → LoweringOutcome s graph scratch l
  rootless : scratch_least ≤ length scratch → s.reader.root_seen ≡ false → l ≡ cleared returned.no_root 0 graph scratch → LoweringOutcome s graph scratch l
  unknown : scratch_least ≤ length scratch → s.reader.root_seen ≡ true → any_unknown (simple_types s.reader.schema.items) ≡ true
      → l ≡ cleared returned.unknown_base (unknown_row 2 s.reader.schema.items) graph scratch → LoweringOutcome s graph scratch l
  repeated : scratch_least ≤ length scratch → s.reader.root_seen ≡ true → (g : TypeGraph) → lower s.reader.schema ≡ some g
      → (row : ℕ) → repeated_row s.reader.schema ≡ some row → l ≡ cleared returned.repeated_name row graph scratch → LoweringOutcome s graph scratch l
  tight : scratch_least ≤ length scratch → s.reader.root_seen ≡ true → (g : TypeGraph) → lower s.reader.schema ≡ some g
      → repeated_row s.reader.schema ≡ none → graph_fits (length graph.rows) (length graph.names) g ≡ false → l ≡ cleared returned.no_room_in_graph 0 graph scratch → LoweringOutcome s graph scratch l
  fitting : scratch_least ≤ length scratch → s.reader.root_seen ≡ true → (g : TypeGraph) → lower s.reader.schema ≡ some g
      → repeated_row s.reader.schema ≡ none → graph_fits (length graph.rows) (length graph.names) g ≡ true
      → l ≡ record { answer = record { number = returned.accepted; place = rows_used g }; graph = graph_sheet g (length graph.rows) (length graph.names); scratch = zeros scratch }
      → LoweringOutcome s graph scratch l

pub record LoweringAccepted (s : Schema) (graph : Sheet) (l : Lowered) : Type 0 where
  pub lowered : TypeGraph
  pub from : lower s ≡ some lowered
  pub types : lowered.types ≡ finished_definitions s
  pub names : type_names lowered.types ≡ finished_names s
  pub once : distinct lowered.types ≡ true
  pub sheet : l.graph ≡ graph_sheet lowered (length graph.rows) (length graph.names)

pub record NameTwice (x graph : Sheet) (scratch : List ℕ) : Type 0 where
  pub lengths : good_lengths (lengths_of x) && good_lengths (lengths_of graph) ≡ true
  pub is_good : good x ≡ true
  pub enough : scratch_least ≤ length scratch
  pub root : (state_of x).reader.root_seen ≡ true
  pub known : any_unknown (simple_types (state_of x).reader.schema.items) ≡ false
  pub twice : distinct_texts (finished_names (state_of x).reader.schema) ≡ false
