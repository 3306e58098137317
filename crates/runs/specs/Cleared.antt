-- Order 5, with c cleared everywhere: calls and runs on a state without numbers beside those on the state.
--     cleared_graph_row   a row of a graph with c cleared if it is a root's or a type's
--     GraphCleared      a graph sheet beside another: the same, or a graph's and that of the graph without numbers
--     LoweringCleared   number, place and scratch are the same, of 13, 20 and every other answer; the graph is cleared
--     read_before, run_before    a reading and a run as before the order, where events have no number
--     zero_number, zero_or_later   a head's number is 0; is 0 or that of an event from some number on
--     StoredEarlier        a sheet stored earlier, the last one of a run from it, and the heads that the run's events gave: the last one is good, keeps the first
--                   one's heads with their names and numbers, the zeros among them, and holds those given behind them, with numbers of the run's events
--     AnswersCleared, RunCleared    a run beside one before the order: the same answers, graphs and last sheet but for the numbers
use Rattle.std.specs.Prelude.{ℕ, ◌≡◌, Bool, true, ◌||◌, List, [], ◌∷◌, ◌++◌, eqb, leb, length, if◌then◌else◌}
use Rattle.std.proofs.Math.Option.{Option}
use Rattle.text.specs.Text.{Text, every, between}
use Rattle.sheet.specs.Rows.{Row, Sheet, row}
use Rattle.sheet.specs.Lengths.{Answer, Lengths, tape_lengths}
use Rattle.xsd_types.specs.State.{HeadNumber, State, heads_pass}
use Rattle.xsd_types.specs.Count.{sheet_of, good, state_of}
use Rattle.xsd_types.specs.Unnumbered.{unnumbered}
use Rattle.xsd_parser.specs.Read.{Reading}
use Rattle.xsd_parser.specs.Numbered.{unknown_number, read_state_by, numbered_heads}
use Rattle.ir_types.specs.Tags.{root_tag, opaque_tag}
use Rattle.ir_types.specs.Types.{TypeGraph}
use Rattle.ir_types.specs.Sheet.{graph_sheet}
use Rattle.ir_types.specs.Unnumbered.{unnumbered_graph}
use Rattle.ir_lower.specs.Call.{Lowered}
use Rattle.runs.specs.Runs.{Call, Answered, number_in_run, RunHolds, lower_held, Ran, answered_first}

unfoldable pub cleared_graph_row : Row → Row
cleared_graph_row r = row r.tag r.texts r.a r.b (if between root_tag opaque_tag r.tag then 0 else r.c)

pub data GraphCleared : Sheet → Sheet → Type 0 where
  same : {x : Sheet} → GraphCleared x x
  written : (g : TypeGraph) (r n : ℕ) → GraphCleared (graph_sheet g r n) (graph_sheet (unnumbered_graph g) r n)

pub record LoweringCleared (l l' : Lowered) : Type 0 where
  pub answer : l.answer ≡ l'.answer
  pub graph : GraphCleared l.graph l'.graph
  pub scratch : l.scratch ≡ l'.scratch

unfoldable pub read_before : Lengths → State → Text → List ℕ → Reading
read_before lent s text marks =
    if tape_lengths (length text) (length marks)
    then read_state_by unknown_number lent s text marks
    else record { answer = record { number = 1; place = 0 }; state = s }

unfoldable pub run_before : List Call → Lengths → State → Ran
run_before [] lent s = record { answers = []; last = sheet_of s lent.rows lent.names }
run_before (Call.reading text marks ∷ calls) lent s =
    let r = read_before lent s text marks in
    answered_first (Answered.read_as r.answer (number_in_run s.events r.answer)) (run_before calls lent r.state)
run_before (Call.lowering graph scratch ∷ calls) lent s = answered_first (Answered.lowered_as (lower_held (RunHolds.holding lent s) graph scratch)) (run_before calls lent s)

unfoldable pub zero_number : Text → ℕ → Bool
zero_number name c = eqb c 0

unfoldable pub zero_or_later : ℕ → Text → ℕ → Bool
zero_or_later from name c = eqb c 0 || leb from c

-- "sheets stored earlier, which stay good", and "its zeros kept", beside the last sheet of a run from one
pub record StoredEarlier (x y : Sheet) (given : List HeadNumber) : Type 0 where
  pub stays : good y ≡ true
  pub kept : numbered_heads (state_of y).reader ≡ numbered_heads (state_of x).reader ++ given
  pub later : every (λ (h : HeadNumber). leb (state_of x).events h.event) given ≡ true
  pub zeros : heads_pass zero_number (state_of x).reader ≡ true → heads_pass (zero_or_later (state_of x).events) (state_of y).reader ≡ true

pub data AnswersCleared : List Answered → List Answered → Type 0 where
  end : AnswersCleared [] []
  read : {a : Answer} {in_run : Option ℕ} {xs ys : List Answered} → AnswersCleared xs ys → AnswersCleared (Answered.read_as a in_run ∷ xs) (Answered.read_as a in_run ∷ ys)
  lower : {l l' : Lowered} {xs ys : List Answered} → LoweringCleared l l' → AnswersCleared xs ys → AnswersCleared (Answered.lowered_as l ∷ xs) (Answered.lowered_as l' ∷ ys)

pub record RunCleared (lent : Lengths) (r r' : Ran) : Type 0 where
  pub answers : AnswersCleared r.answers r'.answers
  pub state : State
  pub last : r.last ≡ sheet_of state lent.rows lent.names
  pub last_before : r'.last ≡ sheet_of (unnumbered state) lent.rows lent.names
