-- What is known of a graph sheet in the form: how many rows are used, that their texts stand in the names, the order of the rows, and the rows with their texts by
-- their places. Assumes nothing.
use mathlib.Core.Path.{◌≡◌, refl, sym, ap, ◌∙◌}
use mathlib.Core.Bool.{Bool, true, false, false≢true}
use mathlib.Core.List.{List, [], ◌∷◌}
use Prim.Native.Nat.{ℕ, ◌-◌, ◌*◌, ◌≤◌, ◌<◌}
use native.Mathlib.Omega.{arith}
use lib.Dec.{eqb}
use lib.ListN.{length, get_or, drop}
use lib.Seq.{get_or-drop}
use borrow.Author.Tests.{eqb-true, eqb-false}
use Rattle.text.specs.Text.{Text, every, between}
use Rattle.sheet.specs.Rows.{Ten, ten, tens}
use Rattle.sheet.specs.Form.{row0_of, rows_used_of, tens_of, covered}
use Rattle.sheet.specs.Calls.{sheet}
use Rattle.rows.proofs.Laws.Tens.{tens-two}
use Rattle.ir_types.specs.Tags.{root_tag}
use Rattle.ir_types.specs.Row0.{GraphRow0, graph_row0_in}
use Rattle.ir_types.specs.Form.{is_type_tag, ten_form, in_order, tags_of, rows_form}
use Rattle.ir_types.proofs.Laws.FormParts.{Parts, parts, behind, few-behind, pairs-cover, names-end}
use Rattle.ir_reduce.specs.Groups.{parted}
use Rattle.ir_reduce.specs.Reach.{In}
use Rattle.ir_reduce.specs.Call.{rows_in, graph_in}
use Rattle.ir_reduce.specs.Places.{row_at, rows_by_place, asked}
use Rattle.ir_reduce.specs.Copy.{Stands}
use Rattle.ir_reduce.specs.Index.{asked_pair}
use Rattle.ir_reduce.specs.Marks.{head_at}
use Rattle.ir_reduce.specs.Steps.{Graph}
use Rattle.ir_reduce.proofs.Laws.Places.{in-none, is_head}
use Rattle.ir_reduce.proofs.Laws.Kept.{row-tag-at}
use Rattle.ir_reduce.proofs.Laws.Chains.{Ordered}
use Rattle.ir_reduce.proofs.Laws.Form.{rows-by-place, tags-by-place, stands_from, tags_from, front-roots, under-types}
use Rattle.ir_reduce.proofs.Laws.Asked.{asked-at, head-is}
use Rattle.sheet.proofs.Laws.Formed.{used-two, used-rows, used-names}

-- what the form of the rows says
record RowsOk (n : Ten) (ts : List Ten) : Type 0 where
  first : n.tag ≡ 1
  forms : every ten_form ts ≡ true
  order : in_order 1 (tags_of ts) ≡ true

rows_ok_lem : (z : GraphRow0) (n : Ten) (ts : List Ten) → rows_form z (n ∷ ts) ≡ true → RowsOk n ts
rows_ok_lem z n ts h =
    let b = behind z (n ∷ ts) h in
    let f : n ≡ b.first = cc in
    let g : ts ≡ b.body = cc in
    record { first = rw f b.tag_is; forms = rw g b.formed; order = rw g b.ordered }

module _ {rows names : List ℕ} {end : ℕ} (g : Graph rows names end) where
  parts-of : Parts (sheet rows names)
  parts-of = parts (sheet rows names) g.form

  used-is : end ≡ rows_used_of (sheet rows names)
  unfolding row0_of ten
  used-is = g.used

  pub at_least : 2 ≤ end
  at_least = rw used-is (used-two (sheet rows names) parts-of.used)

  pub rows_inside_lem : 10 * end ≤ length rows
  rows_inside_lem = rw used-is (used-rows (sheet rows names) parts-of.used)

  tens-are : tens_of (sheet rows names) ≡ tens (end - 1) (drop (10 * 1) rows)
  unfolding tens_of
  tens-are = rw used-is

  tens-split : tens (end - 1) (drop (10 * 1) rows) ≡ ten (drop (10 * 1) rows) ∷ tens (end - 2) (drop (10 * 2) rows)
  tens-split = tens-two end rows at_least

  rows-checked : RowsOk (ten (drop (10 * 1) rows)) (tens (end - 2) (drop (10 * 2) rows))
  rows-checked = rows_ok_lem (graph_row0_in (sheet rows names)) (ten (drop (10 * 1) rows)) (tens (end - 2) (drop (10 * 2) rows)) (rw (tens-are ∙ tens-split) at parts-of.rows)

  first-tag : get_or rows (10 * 1) 0 ≡ 1
  unfolding ten
  first-tag = sym (get_or-drop 10 rows 0 0) ∙ rows-checked.first

  pub rows-stand : (p : ℕ) → 0 < p → p < end → Stands rows names p
  rows-stand p a b =
      let x = sheet rows names in
      let some = few-behind (tens_of x) (behind (graph_row0_in x) (tens_of x) parts-of.rows) in
      let inside : covered 0 (tens_of x) ≤ length names = rw (names-end x parts-of) (used-names x parts-of.used) in
      stands_from rows names (end - 1) 1 0 (rw tens-are at some) (rw tens-are at (pairs-cover x parts-of)) (rw tens-are at inside) p a (omega arith)

  pub rows_are : rows_in (sheet rows names) ≡ rows_by_place (row_at rows names) 1 (end - 1)
  unfolding rows_in
  rows_are = rw tens-are (rows-by-place rows names (end - 1) 1)

  pub graph_is : graph_in (sheet rows names) ≡ parted (rows_by_place (row_at rows names) 1 (end - 1))
  unfolding graph_in
  graph_is = ap parted rows_are

  tags-in-order : in_order 1 (tags_from (λ q. get_or rows (10 * q) 0) 2 (end - 2)) ≡ true
  tags-in-order = rw (tags-by-place rows (end - 2) 2) at rows-checked.order

  plain-first-row : is_head (row_at rows names) 1 ≡ false
  unfolding head_at is_type_tag between
  plain-first-row = head-is rows names 1 ∙ rw first-tag

  asks_nothing : asked (row_at rows names 1) ≡ []
  unfolding asked_pair between
  asks_nothing = asked-at rows names 1 ∙ rw first-tag

  head_plain : (j : ℕ) → is_head (row_at rows names) j ≡ false → is_type_tag (row_at rows names j).tag ≡ false
  unfolding is_head
  head_plain j h = h

  head_of : (j : ℕ) → is_head (row_at rows names) j ≡ true → is_type_tag (row_at rows names j).tag ≡ true
  unfolding is_head
  head_of j h = h

  root-no-head : (row : ℕ) → is_head (row_at rows names) row ≡ true → (row_at rows names row).tag ≡ root_tag → ⊥
  unfolding is_head is_type_tag between
  root-no-head row h e = false≢true (rw e at h)

  pub rows-ordered : Ordered (row_at rows names) end
  rows-ordered = record {
    first = plain-first-row;
    roots = λ row l k plain t i. root-at row l k plain t i
        (eqb row 1) refl;
    children = λ p row a l k h e. child-at p row a l k h e (eqb p row) refl (eqb p 1) refl;
  }
    where
      tag_at : (q : ℕ) → (row_at rows names q).tag ≡ get_or rows (10 * q) 0
      tag_at q = row-tag-at rows names q

      root-at : (row : ℕ) → 1 ≤ row → row < end → ((i : ℕ) → 1 ≤ i → i ≤ row → is_head (row_at rows names) i ≡ false) → (t : Text) → In t (asked (row_at rows names row))
          → (b : Bool) → eqb row 1 ≡ b → (row_at rows names row).tag ≡ root_tag
      root-at row l k plain t i true e = in-none (rw (eqb-true row 1 e, asks_nothing) at i)
      root-at row l k plain t i false e =
          tag_at row ∙ front-roots (λ q. get_or rows (10 * q) 0) (end - 2) 2 1 refl tags-in-order row (omega (arith, eqb-false row 1 e)) (omega arith)
          (λ j a b. ap is_type_tag (sym (tag_at j)) ∙ head_plain j (plain j (omega arith) b))

      child-at : (p row : ℕ) → 0 < p → p ≤ row → row < end → is_head (row_at rows names) p ≡ true → (row_at rows names row).tag ≡ root_tag → (b : Bool) → eqb p row ≡ b → (c : Bool) → eqb p 1 ≡ c → ⊥
      child-at p row a l k h e true s c r = root-no-head row (rw (eqb-true p row s) at h) e
      child-at p row a l k h e false s true r = false≢true (sym plain-first-row ∙ rw (eqb-true p 1 r) at h)
      child-at p row a l k h e false s false r =
          under-types (λ q. get_or rows (10 * q) 0) (end - 2) 2 1 tags-in-order p row (omega (arith, eqb-false p 1 r)) (omega (arith, eqb-false p row s)) (omega arith)
          (ap is_type_tag (sym (tag_at p)) ∙ head_of p h) (sym (tag_at row) ∙ e)
