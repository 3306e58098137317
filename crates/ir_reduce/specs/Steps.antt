-- The steps of a reduction.
--     Graph         the numbers of a graph sheet in the form: so many rows are used, and each row's texts stand inside the names
--     MarksDone     the marks of what is reached from row 1
--     Written, WrittenIs    rows written into a target of zeros, or that they have no room
--     Placed        the answer and the target where these rows are to be left
use Rattle.std.specs.Prelude.{Option, MatchOption, ℕ, ◌+◌, ◌≤◌, ◌<◌, ◌≡◌, true, false, List, length, get_or}
use Rattle.sheet.specs.Rows.{Row, Sheet}
use Rattle.sheet.specs.Limits.{rows_limit}
use Rattle.sheet.specs.Lengths.{Answer}
use Rattle.sheet.specs.Calls.{sheet, answered}
use Rattle.sheet.specs.Returned.{accepted, no_room_in_graph}
use Rattle.ir_types.specs.Form.{graph_form}
use Rattle.ir_reduce.specs.Call.{graph_sheet_of, graph_rows_fit, emptied}
use Rattle.ir_reduce.specs.Marks.{head_flags, Marking, QueueMarked}
use Rattle.ir_reduce.specs.Index.{TargetsPut}

pub record Graph (rows names : List ℕ) (end : ℕ) : Type 0 where
  pub form : graph_form (sheet rows names) ≡ true
  pub used : end ≡ get_or rows 1 0
  pub few : length rows ≤ rows_limit

pub record MarksDone (rows names : List ℕ) (end : ℕ) (marks : List ℕ) : Type 0 where
  pub to : List ℕ
  pub queue : List ℕ
  pub count : ℕ
  pub targets : TargetsPut rows names end end to
  pub marking : Marking (head_flags rows end) to marks queue count
  pub done : QueueMarked (head_flags rows end) to marks queue count
  pub first : 0 < get_or marks 1 0

pub record Written (rs : List Row) (rows names rows' names' : List ℕ) (place : ℕ) : Type 0 where
  pub fits : graph_rows_fit rs (sheet rows names) ≡ true
  pub place_is : place ≡ 1 + length rs
  pub graph : sheet rows' names' ≡ graph_sheet_of rs (sheet rows names)

abbrev pub WrittenIs : List Row → List ℕ → List ℕ → List ℕ → List ℕ → Option ℕ → Type 0
WrittenIs rs rows names rows' names' answer =
    MatchOption answer (graph_rows_fit rs (sheet rows names) ≡ false) (λ place. Written rs rows names rows' names' place)

pub data Placed (rs : List Row) (target : Sheet) : Answer → Sheet → Type 0 where
  tight : graph_rows_fit rs target ≡ false → Placed rs target (answered no_room_in_graph 0) (emptied target)
  fitting : graph_rows_fit rs target ≡ true → Placed rs target (answered accepted (1 + length rs)) (graph_sheet_of rs target)
