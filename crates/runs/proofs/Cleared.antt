-- Order 5: the rows of a graph without numbers are the graph's rows with c of every head cleared, so that it takes as many rows and names; with that a lowering
-- of a state without numbers answers as one of the state, its places among them; and call by call a run. Assumes nothing.
use Rattle.std.specs.Prelude.{if◌then◌else◌}
use mathlib.Core.Path.{◌≡◌, refl, sym, ap, ◌∙◌}
use mathlib.Core.Bool.{Bool, true, false}
use mathlib.Core.List.{List, [], ◌∷◌, map, map-append}
use mathlib.Core.Option.{Option, some, none}
use Prim.Native.Nat.{ℕ, ◌+◌}
use lib.Dec.{leb}
use lib.ListN.{length, length-map}
use Rattle.text.specs.Text.{Text, between}
use Rattle.text.proofs.Laws.Tests.{bool_cases}
use Rattle.sheet.specs.Rows.{Row, Sheet, row, names_of}
use Rattle.sheet.specs.Lengths.{Lengths, tape_lengths, lengths_of, good_lengths}
use Rattle.xsd_types.specs.Types.{Schema}
use Rattle.xsd_types.specs.State.{State}
use Rattle.xsd_types.specs.Count.{good, state_of}
use Rattle.xsd_types.specs.Unnumbered.{unnumbered_schema, unnumbered_reader, unnumbered}
use Rattle.xsd_parser.specs.Read.{read_state}
use Rattle.xsd_parser.specs.Numbered.{unnumbered_reading}
use Rattle.xsd_parser.proofs.Laws.Cleared.{read_state-unnumbered}
use Rattle.ir_types.specs.Types.{Constraint, TypeDef, RootElement, TypeGraph}
use Rattle.ir_types.specs.Rows.{field_row, variant_row, constraint_row, code_row, attr_row, type_rows, types_rows, root_row, rows_of, rows_used, names_used}
use Rattle.ir_types.specs.Sheet.{graph_fits}
use Rattle.ir_types.specs.Unnumbered.{unnumbered_root, unnumbered_type, unnumbered_graph}
use Rattle.ir_lower.specs.Lower.{lower, unknown_row}
use Rattle.ir_lower.specs.Repeated.{repeated_row}
use Rattle.ir_lower.specs.Unnumbered.{unnumbered_lowered}
use Rattle.ir_lower.specs.Call.{Lowered, unchanged, cleared, graph_written, repeated_or_written, refused_or_written, lower_finished, lower_state, scratch_least}
use Rattle.ir_lower.proofs.Laws.Unnumbered.{lower-unnumbered, unknown_row-unnumbered, repeated_row-unnumbered}
use Rattle.runs.specs.Runs.{Call, number_in_run, RunHolds, sheet_held, refused_with, held_after, read_held, lower_held, answered_first, run_calls, hold, run}
use Rattle.runs.specs.Cleared.{cleared_graph_row, GraphCleared, LoweringCleared, read_before, run_before, AnswersCleared, RunCleared}

-- ---- the rows of a graph
kept-all : {A : Type 0} (f : A → Row) → ((x : A) → cleared_graph_row (f x) ≡ f x) → (xs : List A) → map cleared_graph_row (map f xs) ≡ map f xs
kept-all f step [] = refl
kept-all f step (x ∷ xs) = rw (step x, kept-all f step xs)

constraint-kept : (x : Constraint) → cleared_graph_row (constraint_row x) ≡ constraint_row x
unfolding cleared_graph_row constraint_row row between
constraint-kept (Constraint.pattern v) = refl
constraint-kept (Constraint.min_length n) = refl
constraint-kept (Constraint.max_length n) = refl
constraint-kept (Constraint.min_inclusive v) = refl
constraint-kept (Constraint.max_inclusive v) = refl
constraint-kept (Constraint.total_digits n) = refl
constraint-kept (Constraint.fraction_digits n) = refl

type-cleared : (d : TypeDef) → map cleared_graph_row (type_rows d) ≡ type_rows (unnumbered_type d)
unfolding type_rows unnumbered_type cleared_graph_row field_row variant_row code_row attr_row row between
type-cleared (TypeDef.struct event n fs) = rw (kept-all field_row (λ f. refl) fs)
type-cleared (TypeDef.enum event n vs) = rw (kept-all variant_row (λ v. refl) vs)
type-cleared (TypeDef.newtype event n i cs) = rw (kept-all constraint_row constraint-kept cs)
type-cleared (TypeDef.code_enum event n cs) = rw (kept-all code_row (λ x. refl) cs)
type-cleared (TypeDef.value_with_attr event n v xs) = rw (kept-all attr_row (λ x. refl) xs)
type-cleared (TypeDef.opaque event n none) = refl
type-cleared (TypeDef.opaque event n (some ns)) = refl

types-cleared : (ds : List TypeDef) → map cleared_graph_row (types_rows ds) ≡ types_rows (map unnumbered_type ds)
unfolding types_rows
types-cleared [] = refl
types-cleared (d ∷ ds) = map-append cleared_graph_row (type_rows d) (types_rows ds) ∙ rw (type-cleared d, types-cleared ds)

roots-cleared : (es : List RootElement) → map cleared_graph_row (map root_row es) ≡ map root_row (map unnumbered_root es)
unfolding cleared_graph_row root_row unnumbered_root row between
roots-cleared [] = refl
roots-cleared (e ∷ es) = rw (roots-cleared es)

pub graph-cleared : (g : TypeGraph) → map cleared_graph_row (rows_of g) ≡ rows_of (unnumbered_graph g)
unfolding rows_of unnumbered_graph cleared_graph_row row between
graph-cleared g =
    ap (λ (rs : List Row). row 1 (g.namespace ∷ []) 0 0 0 ∷ rs)
    (map-append cleared_graph_row (map root_row g.root_elements) (types_rows g.types) ∙ rw (roots-cleared g.root_elements, types-cleared g.types))

names-cleared : (rs : List Row) → names_of (map cleared_graph_row rs) ≡ names_of rs
unfolding names_of cleared_graph_row row
names-cleared [] = refl
names-cleared (r ∷ rs) = rw (names-cleared rs)

used-cleared : (g : TypeGraph) → rows_used (unnumbered_graph g) ≡ rows_used g
unfolding rows_used
used-cleared g = ap (λ (n : ℕ). 1 + n) (ap length (sym (graph-cleared g)) ∙ length-map (rows_of g) cleared_graph_row)

fits-cleared : (r n : ℕ) (g : TypeGraph) → graph_fits r n (unnumbered_graph g) ≡ graph_fits r n g
unfolding graph_fits names_used
fits-cleared r n g = rw (used-cleared g, ← graph-cleared g, names-cleared (rows_of g))

-- ---- the call
module _ (graph : Sheet) (scratch : List ℕ) where
  alike : (l : Lowered) → LoweringCleared l l
  alike l = record { answer = refl; graph = GraphCleared.same; scratch = refl }

  if-cleared : (b : Bool) {l l' m m' : Lowered} → LoweringCleared l l' → LoweringCleared m m' → LoweringCleared (if b then l else m) (if b then l' else m')
  if-cleared true x y = x
  if-cleared false x y = y

  written-cleared : (g : TypeGraph) → LoweringCleared (graph_written g graph scratch) (graph_written (unnumbered_graph g) graph scratch)
  unfolding graph_written
  written-cleared g =
      rw (fits-cleared (length graph.rows) (length graph.names) g, used-cleared g)
      (if-cleared (graph_fits (length graph.rows) (length graph.names) g)
      (record { answer = refl; graph = GraphCleared.written g (length graph.rows) (length graph.names); scratch = refl })
      (alike (cleared 15 0 graph scratch)))

  repeated-cleared : (o : Option ℕ) (g : TypeGraph) → LoweringCleared (repeated_or_written o g graph scratch) (repeated_or_written o (unnumbered_graph g) graph scratch)
  repeated-cleared none g = written-cleared g
  repeated-cleared (some row) g = alike (cleared 20 row graph scratch)

  refused-cleared : (s : Schema) (o : Option TypeGraph) → LoweringCleared (refused_or_written s o graph scratch) (refused_or_written (unnumbered_schema s) (unnumbered_lowered o) graph scratch)
  unfolding unnumbered_lowered unnumbered_schema
  refused-cleared s none = rw (unknown_row-unnumbered 2 s.items) (alike (cleared 13 (unknown_row 2 s.items) graph scratch))
  refused-cleared s (some g) = rw (repeated_row-unnumbered s) (repeated-cleared (repeated_row s) g)

  finished-cleared : (s : State) → LoweringCleared (lower_finished s graph scratch) (lower_finished (unnumbered s) graph scratch)
  unfolding lower_finished unnumbered unnumbered_reader
  finished-cleared s =
      rw (← lower-unnumbered s.reader.schema)
      (if-cleared s.reader.root_seen (refused-cleared s.reader.schema (lower s.reader.schema)) (alike (cleared 12 0 graph scratch)))

  pub lowering-cleared : (s : State) → LoweringCleared (lower_state s graph scratch) (lower_state (unnumbered s) graph scratch)
  unfolding lower_state unnumbered unnumbered_reader
  lowering-cleared s =
      if-cleared (leb scratch_least (length scratch)) (finished-cleared s) (alike (unchanged 14 graph scratch))

-- ---- the run
held-cleared : (lent : Lengths) (s : State) (graph : Sheet) (scratch : List ℕ)
    → LoweringCleared (lower_held (RunHolds.holding lent s) graph scratch) (lower_held (RunHolds.holding lent (unnumbered s)) graph scratch)
unfolding lower_held
held-cleared lent s graph scratch = if-cleared graph scratch (good_lengths (lengths_of graph)) (lowering-cleared graph scratch s) (alike graph scratch (unchanged 1 graph scratch))

abbrev RunsCleared : List Call → Lengths → Type 0
RunsCleared calls lent = (s : State) → RunCleared lent (run_calls calls (RunHolds.holding lent s)) (run_before calls lent (unnumbered s))

read-cleared : (text : Text) (marks : List ℕ) (calls : List Call) (lent : Lengths) → RunsCleared calls lent → RunsCleared (Call.reading text marks ∷ calls) lent
unfolding run_calls run_before answered_first read_held held_after refused_with read_before number_in_run between unnumbered unnumbered_reading
read-cleared text marks calls lent ih s =
    bool_cases (tape_lengths (length text) (length marks))
    (λ t. rw (t, ← read_state-unnumbered lent s text marks)
    (let rest = ih (read_state lent s text marks).state in record { answers = AnswersCleared.read rest.answers; state = rest.state; last = rest.last; last_before = rest.last_before }))
    (λ t. rw t (let rest = ih s in record { answers = AnswersCleared.read rest.answers; state = rest.state; last = rest.last; last_before = rest.last_before }))

pub run-cleared : (calls : List Call) (lent : Lengths) → RunsCleared calls lent
unfolding run_calls run_before answered_first sheet_held
run-cleared [] lent s = record { answers = AnswersCleared.end; state = s; last = refl; last_before = refl }
run-cleared (Call.reading text marks ∷ calls) lent s = read-cleared text marks calls lent (run-cleared calls lent) s
run-cleared (Call.lowering graph scratch ∷ calls) lent s =
    let rest = run-cleared calls lent s in
    record { answers = AnswersCleared.lower (held-cleared lent s graph scratch) rest.answers; state = rest.state; last = rest.last; last_before = rest.last_before }

pub sheet-cleared : (x : Sheet) (calls : List Call) → good_lengths (lengths_of x) ≡ true → good x ≡ true
    → RunCleared (lengths_of x) (run x calls) (run_before calls (lengths_of x) (unnumbered (state_of x)))
unfolding run hold
sheet-cleared x calls l g = rw (l, g) (run-cleared calls (lengths_of x) (state_of x))
