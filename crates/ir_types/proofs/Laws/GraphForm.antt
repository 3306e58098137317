-- The sheet of a graph whose texts and numbers are within their widths, and that has room, has the graph sheet's form: its rows are such as the form allows.
-- Assumes nothing.
use Prim.Native.Nat.{ℕ, ◌+◌, ◌*◌, ◌≤◌}
use mathlib.Core.Path.{◌≡◌, refl, ap}
use mathlib.Core.Bool.{true, ◌&&◌}
use mathlib.Core.List.{List, [], ◌∷◌, ◌++◌, map}
use lib.ListN.{length}
use Rattle.text.specs.Text.{every, is_graph_text, between}
use Rattle.sheet.specs.Rows.{Row, row, pack, names_of, sheet_of_rows}
use Rattle.sheet.specs.Form.{tens_of, texts_counted}
use Rattle.sheet.specs.Lengths.{fits}
use Rattle.ir_types.specs.Types.{TypeGraph}
use Rattle.ir_types.specs.Rows.{types_rows, root_row, rows_of, rows_used, names_used, row0}
use Rattle.ir_types.specs.Row0.{GraphRow0, graph_row0_ten}
use Rattle.ir_types.specs.Sheet.{graph_fits, graph_sheet}
use Rattle.ir_types.specs.Form.{used_pairs, is_type_tag, count, graph_form}
use Rattle.ir_types.specs.Ok.{root_ok, type_ok, graph_ok, row_form, row_small, row_ok}
use Rattle.ir_types.proofs.Laws.GraphRows.{root_ok_lem, types-ok}
use Rattle.ir_types.proofs.Laws.GraphOrder.{order-graph, count-types, count-roots}
use Rattle.ir_types.proofs.Laws.RowsForm.{text_row, Allowed, row0_for, rows_sheet, rows-tens, sizes, rows-length, names-length, rows-form}
use Rattle.text.proofs.Laws.Tests.{and-true-left, and-true-right, and-true}
use Rattle.text.proofs.Laws.Every.{every-append-true, every_map, every-weaken}

-- ---- the sheet is that of the graph's rows

counts : (g : TypeGraph) → row0 g ≡ row0_for (rows_of g)
unfolding row0 rows_used names_used rows_of row count is_type_tag between
counts g = rw (count-roots g.root_elements g.types, count-types g.root_elements g.types)

rows-sheet : (g : TypeGraph) (r n : ℕ) → graph_sheet g r n ≡ rows_sheet (rows_of g) r n
unfolding graph_sheet
rows-sheet g r n = ap (λ (z : GraphRow0). sheet_of_rows (graph_row0_ten z) (rows_of g) r n) (counts g)

pub sheet-tens : (g : TypeGraph) (r n : ℕ) → tens_of (graph_sheet g r n) ≡ pack 0 (rows_of g)
sheet-tens g r n = rw (rows-sheet g r n) (rows-tens (rows_of g) r n)

module _ (g : TypeGraph) (r n : ℕ) (h : graph_fits r n g ≡ true) where
  room : fits (1 + length (rows_of g)) (length (names_of (rows_of g))) r n ≡ true
  unfolding graph_fits rows_used names_used
  room = h

  pub rows_fit : 10 * rows_used g ≤ r
  unfolding rows_used
  rows_fit = (sizes (rows_of g) r n room).0

  pub names-fit : names_used g ≤ n
  unfolding names_used
  names-fit = (sizes (rows_of g) r n room).1

  pub sheet-rows-length : length (graph_sheet g r n).rows ≡ r
  sheet-rows-length = rw (rows-sheet g r n) (rows-length (rows_of g) r n room)

  pub sheet-names-length : length (graph_sheet g r n).names ≡ n
  sheet-names-length = rw (rows-sheet g r n) (names-length (rows_of g) r n room)

-- ---- the rows

abbrev pub behind : TypeGraph → List Row
behind g = map root_row g.root_elements ++ types_rows g.types

pub behind-ok : (g : TypeGraph) → graph_ok g ≡ true → every row_ok (behind g) ≡ true
unfolding graph_ok
behind-ok g h =
    let a = is_graph_text g.namespace in let b = every root_ok g.root_elements in let c = every type_ok g.types in
    every-append-true row_ok (map root_row g.root_elements) (types_rows g.types)
    (every_map root_ok row_ok root_row root_ok_lem g.root_elements (and-true-right a b (and-true-left (a && b) c h)))
    (types-ok g.types (and-true-right (a && b) c h))

namespace-text : (g : TypeGraph) → graph_ok g ≡ true → is_graph_text g.namespace ≡ true
unfolding graph_ok
namespace-text g h =
    let a = is_graph_text g.namespace in let b = every root_ok g.root_elements in let c = every type_ok g.types in
    and-true-left a b (and-true-left (a && b) c h)

-- what an allowed row keeps
ok-uses : (q : Row) → row_ok q ≡ true → texts_counted used_pairs q ≡ true
unfolding row_ok
ok-uses q h =
    let u = texts_counted used_pairs q in let f = row_form q in let s = row_small q in let t = every is_graph_text q.texts in
    and-true-left u f (and-true-left (u && f) s (and-true-left (u && f && s) t h))

ok-form : (q : Row) → row_ok q ≡ true → row_form q ≡ true
unfolding row_ok
ok-form q h =
    let u = texts_counted used_pairs q in let f = row_form q in let s = row_small q in let t = every is_graph_text q.texts in
    and-true-right u f (and-true-left (u && f) s (and-true-left (u && f && s) t h))

pub ok-small : (q : Row) → row_ok q ≡ true → row_small q ≡ true
unfolding row_ok
ok-small q h =
    let u = texts_counted used_pairs q in let f = row_form q in let s = row_small q in let t = every is_graph_text q.texts in
    and-true-right (u && f) s (and-true-left (u && f && s) t h)

ok-texts : (q : Row) → row_ok q ≡ true → text_row q ≡ true
unfolding row_ok text_row
ok-texts q h = and-true-right (texts_counted used_pairs q && row_form q && row_small q) (every is_graph_text q.texts) h

pub rows-use : (g : TypeGraph) → graph_ok g ≡ true → every (texts_counted used_pairs) (rows_of g) ≡ true
unfolding rows_of every texts_counted used_pairs between row
rows-use g h = every-weaken row_ok (texts_counted used_pairs) ok-uses (behind g) (behind-ok g h)

rows-texts : (g : TypeGraph) → graph_ok g ≡ true → every text_row (rows_of g) ≡ true
unfolding rows_of every row text_row
rows-texts g h =
    and-true {a = every is_graph_text (g.namespace ∷ [])} (rw (namespace-text g h)) (every-weaken row_ok text_row ok-texts (behind g) (behind-ok g h))

graph-allowed : (g : TypeGraph) → graph_ok g ≡ true → Allowed (rows_of g)
unfolding rows_of row
graph-allowed g h =
    record {
      first = row 1 (g.namespace ∷ []) 0 0 0;
      rest = behind g;
      made = refl;
      tag_is = refl;
      a_is = refl;
      b_is = refl;
      c_is = refl;
      formed = every-weaken row_ok row_form ok-form (behind g) (behind-ok g h);
      ordered = order-graph g.root_elements g.types;
      uses = rows-use g h;
      texts = rows-texts g h;
    }

pub graph-form : (g : TypeGraph) (r n : ℕ) → graph_ok g ≡ true → graph_fits r n g ≡ true → graph_form (graph_sheet g r n) ≡ true
graph-form g r n h k = rw (rows-sheet g r n) (rows-form (rows_of g) r n (room g r n k) (graph-allowed g h))
