-- The lowering call: paper 01, "Returned numbers". "Lowering: 1, 2, 14, 12, 13, 15."; order 4: "20, between 13 and 15".
--     Lowered           a lowering's answer with the graph sheet and the scratch afterwards
--     zeros             as many zeros as the list is long
--     unchanged         a refusal that changes nothing
--     cleared           a refusal that clears graph and scratch
--     graph_written           the graph, or 15
--     repeated_or_written 20, or the graph
--     refused_or_written  13, or what follows it
--     scratch_least      how many numbers a scratch must have
--     lower_finished     the call on a state with scratch enough, from 12 on
--     lower_state        the call on a state, from 14 on
--     lowering          the call; LowerIs: what it says of itself
use Rattle.std.specs.Prelude.{ℕ, ◌≡◌, List, ◌&&◌, leb, length, replicate, if◌then◌else◌}
use Rattle.std.proofs.Math.Option.{Option, some, none}
use Rattle.sheet.specs.Rows.{Sheet}
use Rattle.sheet.specs.Lengths.{Answer, lengths_of, good_lengths}
use Rattle.sheet.specs.Returned as returned
use Rattle.xsd_types.specs.Types.{Schema}
use Rattle.xsd_types.specs.State.{State}
use Rattle.xsd_types.specs.Count.{good, state_of}
use Rattle.ir_types.specs.Types.{TypeGraph}
use Rattle.ir_types.specs.Rows.{rows_used}
use Rattle.ir_types.specs.Sheet.{graph_fits, graph_sheet}
use Rattle.ir_lower.specs.Lower.{lower, unknown_row}
use Rattle.ir_lower.specs.Repeated.{repeated_row}

pub record Lowered : Type 0 where
  pub answer : Answer
  pub graph : Sheet
  pub scratch : List ℕ

unfoldable pub zeros : List ℕ → List ℕ
zeros xs = replicate (length xs) 0

-- "nothing changed"
unfoldable pub unchanged : ℕ → Sheet → List ℕ → Lowered
unchanged r graph scratch = record { answer = record { number = r; place = 0 }; graph = graph; scratch = scratch }

-- "graph and scratch zero"
unfoldable pub cleared : ℕ → ℕ → Sheet → List ℕ → Lowered
cleared r place graph scratch =
    record {
      answer = record { number = r; place = place };
      graph = record { rows = zeros graph.rows; names = zeros graph.names };
      scratch = zeros scratch;
    }

-- 15: "graph needs more rows or names than lent"; 0: "place is .. rows used"
unfoldable pub graph_written : TypeGraph → Sheet → List ℕ → Lowered
graph_written g graph scratch =
    if graph_fits (length graph.rows) (length graph.names) g
    then record {
      answer = record { number = returned.accepted; place = rows_used g };
      graph = graph_sheet g (length graph.rows) (length graph.names);
      scratch = zeros scratch;
    }
    else cleared returned.no_room_in_graph 0 graph scratch

-- 20: "the place is the row of the first head, in lowering's order, whose name came before"
abbrev pub repeated_or_written : Option ℕ → TypeGraph → Sheet → List ℕ → Lowered
repeated_or_written (some row) g graph scratch = cleared returned.repeated_name row graph scratch
repeated_or_written none g graph scratch = graph_written g graph scratch

-- 13: "`UnknownBase`; place is the row of the first such simple type"
abbrev pub refused_or_written : Schema → Option TypeGraph → Sheet → List ℕ → Lowered
refused_or_written s none graph scratch = cleared returned.unknown_base (unknown_row 2 s.items) graph scratch
refused_or_written s (some g) graph scratch = repeated_or_written (repeated_row s) g graph scratch

-- 12: "lowering, no root seen"
unfoldable pub lower_finished : State → Sheet → List ℕ → Lowered
lower_finished s graph scratch =
    if s.reader.root_seen
    then refused_or_written s.reader.schema (lower s.reader.schema) graph scratch
    else cleared returned.no_root 0 graph scratch

-- order 11: "The same graph, refusals and places must come from a scratch of 64 numbers, however many types there are."
abbrev pub scratch_least : ℕ
scratch_least = 64

-- 14, order 11: "From now on 14 means fewer than 64"
unfoldable pub lower_state : State → Sheet → List ℕ → Lowered
lower_state s graph scratch =
    if leb scratch_least (length scratch)
    then lower_finished s graph scratch
    else unchanged returned.short_scratch graph scratch

unfoldable pub lowering : Sheet → Sheet → List ℕ → Lowered
lowering x graph scratch =
    if good_lengths (lengths_of x) && good_lengths (lengths_of graph)
    then if good x then lower_state (state_of x) graph scratch else unchanged returned.not_good graph scratch
    else unchanged returned.bad_length graph scratch

-- what a lowering says of itself: number, place, graph and scratch afterwards are the definition's
abbrev pub LowerIs : Sheet → Sheet → List ℕ → Lowered → Type 0
LowerIs x graph scratch after = after ≡ lowering x graph scratch
