-- The rows of a packing, read from its two buffers; those of a state's finished items, and how many of these lowering refuses. Assumes nothing.
use Prim.Native.Nat.{ℕ, ◌+◌, ◌-◌, ◌*◌, ◌≤◌}
use mathlib.Core.Path.{◌≡◌, refl, sym, ap, ◌∙◌}
use mathlib.Core.Bool.{true}
use mathlib.Core.List.{List, ◌++◌, append_assoc}
use native.Mathlib.Omega.{arith}
use lib.ListN.{length, set, drop, replicate, length-append}
use lib.Seq.{drop_at}
use Rattle.text.specs.Text.{every}
use Rattle.sheet.specs.Rows.{Row, numbers, pack, names_of, filled}
use Rattle.sheet.specs.Form.{texts_counted}
use Rattle.sheet.proofs.Laws.Numbers.{tens-numbers}
use Rattle.sheet.proofs.Laws.Packs.{rows_back, length-pack}
use Rattle.xsd_types.specs.Types.{Item}
use Rattle.xsd_types.specs.State.{State, proper}
use Rattle.xsd_types.specs.Rows.{namespace_row, items_rows, context_rows, rows_of}
use Rattle.xsd_types.specs.Good.{used_pairs}
use Rattle.xsd_types.specs.Places.{row_at, rows_from}
use Rattle.xsd_types.specs.Count.{count_of, refused_types, refused_rows}
use Rattle.xsd_types.proofs.Laws.Sound.{counted-rows}
use Rattle.xsd_types.proofs.Laws.Places.{row_at-first, rows_from-parts, rows_from-until, rows_from-behind}
use Rattle.xsd_types.proofs.Laws.Count.{drop-count}
use Rattle.xsd_types.proofs.Laws.Counted.{refused_types-append, refused_rows-items, items_rows-append}
use Rattle.rows.specs.Packing.{Packs}
use Rattle.rows.proofs.Laws.Middle.{rows_fit}

module _ (rows names z : List ℕ) (rs : List Row) (p : Packs rows names z rs) where
  packed-numbers : (k : ℕ) → k ≡ 10 → drop k rows ≡ numbers (pack 0 rs) ++ replicate (length rows - length (z ++ numbers (pack 0 rs))) 0
  unfolding filled
  packed-numbers k e =
      let zeros : List ℕ = replicate (length rows - length (z ++ numbers (pack 0 rs))) 0 in
      ap (drop k) (p.rows_are ∙ append_assoc z (numbers (pack 0 rs)) zeros) ∙ drop_at z (numbers (pack 0 rs) ++ zeros) k (p.ten ∙ sym e)

  pub packed-rows : every (texts_counted used_pairs) rs ≡ true → rows_from rows names 1 (1 + length rs) ≡ rs
  unfolding rows_from filled
  packed-rows c =
      let count : 1 + length rs - 1 ≡ length (pack 0 rs) = omega (arith, length-pack 0 rs) in
      rw (count, packed-numbers (10 * 1) refl, tens-numbers (pack 0 rs) _)
      (rows_back used_pairs names 0 rs (replicate (length names - length (names_of rs)) 0) c p.names_are)

module _ (s : State) {rows names z : List ℕ} (p : Packs rows names z (rows_of s)) (k : proper s ≡ true) where
  all-rows : rows_from rows names 1 (1 + length (rows_of s)) ≡ rows_of s
  all-rows = packed-rows rows names z (rows_of s) p (counted-rows s k)

  pub rows-one : row_at rows names 1 ≡ namespace_row s.reader.schema.target_namespace
  unfolding rows_of
  rows-one = row_at-first rows names 1 (1 + length (rows_of s)) _ _ all-rows

  -- the rows behind row 1: the items', and then the open type's
  pub rows_behind : rows_from rows names 2 (1 + length (rows_of s)) ≡ items_rows s.reader.schema.items ++ context_rows s.reader.context
  unfolding rows_of
  rows_behind = (rows_from-parts rows names 1 (1 + length (rows_of s)) _ _ all-rows).1

  module _ {end : ℕ} (e : end ≡ 2 + length (items_rows s.reader.schema.items)) where
    pub finished-rows : rows_from rows names 2 end ≡ items_rows s.reader.schema.items
    finished-rows = rw e (rows_from-until rows names 2 (1 + length (rows_of s)) (items_rows s.reader.schema.items) (context_rows s.reader.context) rows_behind)

    pub end-room : (2 ≤ end) × (10 * end ≤ length rows)
    unfolding rows_of
    end-room = (omega arith, omega (arith, rows_fit p, length-append (items_rows s.reader.schema.items) (context_rows s.reader.context)))

    -- order 7: the count of a state is that of its finished rows
    pub count-finished : refused_rows (rows_from rows names 2 end) ≡ count_of s
    count-finished = rw finished-rows (refused_rows-items s.reader.schema.items)

    -- and where items stood before, of those behind them
    pub count-new : (is more : List Item) → s.reader.schema.items ≡ is ++ more → refused_types is + refused_rows (rows_from rows names (2 + length (items_rows is)) end) ≡ count_of s
    count-new is more q =
        let apart : rows_from rows names 2 end ≡ items_rows is ++ items_rows more = finished-rows ∙ ap items_rows q ∙ items_rows-append is more in
        ap (λ (l : List Row). refused_types is + refused_rows l) (rows_from-behind rows names 2 end (items_rows is) (items_rows more) apart)
        ∙ ap (λ (n : ℕ). refused_types is + n) (refused_rows-items more) ∙ sym (refused_types-append is more) ∙ ap refused_types (sym q)

-- the rows from row 2 on stand behind the count
pub rows_from-count : (rows names : List ℕ) (v p end : ℕ) → 2 ≤ p → rows_from (set rows 17 v) names p end ≡ rows_from rows names p end
unfolding rows_from
rows_from-count rows names v p end h = rw (drop-count rows v (10 * p) (omega arith))
