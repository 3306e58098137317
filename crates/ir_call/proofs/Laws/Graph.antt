-- The graph written into a sheet of zeros: the whole sheet is that of the graph's rows with its counts. By the laws of a whole graph sheet. Assumes nothing.
use Rattle.std.specs.Prelude.{Some, None}
use Prim.Native.Nat.{ℕ}
use mathlib.Core.Path.{◌≡◌, sym, ◌∙◌}
use mathlib.Core.Bool.{false}
use mathlib.Core.List.{List}
use lib.ListN.{length}
use Rattle.sheet.specs.Rows.{Row}
use Rattle.ir_types.specs.Types.{TypeGraph}
use Rattle.ir_types.specs.Rows.{rows_of, rows_used, names_used, row0}
use Rattle.ir_types.specs.Sheet.{graph_fits, graph_sheet}
use Rattle.ir_append.specs.declared.writer.GraphWriter.{GraphWriter}
use Rattle.ir_append.specs.Grows.{Grows}
use Rattle.ir_append.specs.Whole.{ClearedBuffers, Begins, Closes}
use Rattle.ir_append.proofs.Laws.Whole.{whole-short, whole-fits, whole-place, whole-sheet}
use Rattle.ir_call.specs.Steps.{GraphStands}

module _ {rows names : List ℕ} (c : ClearedBuffers rows names) {w w₁ : GraphWriter} (b : Begins rows names w) {more : List Row} (g : TypeGraph) (e : more ≡ rows_of g) where
  pub graph-short : Grows w more w₁ None → graph_fits (length rows) (length names) g ≡ false
  unfolding graph_fits rows_used names_used
  graph-short k = whole-short c b (rw e at k)

  pub graph-stands : {u : Unit {0}} {roots types place : ℕ} {w₂ : GraphWriter} {rows₂ names₂ : List ℕ} → Grows w more w₁ (Some u) → roots ≡ length g.root_elements → types ≡ length g.types
      → Closes w₁ roots types w₂ place → (w.rows.ghost_name ≡ w₂.rows.ghost_name → rows₂ ≡ w₂.rows.now)
      → (w.names.ghost_name ≡ w₂.names.ghost_name → names₂ ≡ w₂.names.now) → GraphStands g rows names rows₂ names₂ place
  unfolding graph_fits rows_used names_used graph_sheet row0
  graph-stands k r t close i j =
      let grown = rw e at k in
      record {
        fits = whole-fits c b grown;
        place_is = whole-place c b grown close;
        graph = rw (i (sym (close.same_rows ∙ k.same_rows)), j (sym (close.same_names ∙ k.same_names)), ← r, ← t) (whole-sheet c b grown close);
      }
