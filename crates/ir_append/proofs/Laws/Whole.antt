-- A graph sheet written as a whole: zeros are the packing of no rows, the rows are added to it, and row 0 is put. Assumes nothing.
use Rattle.std.specs.Prelude.{Some, None}
use Prim.Native.Nat.{ℕ, ◌+◌, ◌-◌, ◌*◌}
use mathlib.Core.Path.{◌≡◌, refl, sym, ap, ◌∙◌}
use mathlib.Core.Bool.{true, false}
use mathlib.Core.List.{List, [], ◌∷◌, ◌++◌}
use native.Mathlib.Nat.{sub-zero}
use native.Mathlib.Omega.{arith}
use lib.ListN.{length, replicate, replicate-append-replicate}
use borrow.Author.Tests.{le-leb}
use Rattle.text.proofs.Laws.Tests.{and-true}
use Rattle.sheet.specs.Rows.{Row, numbers, pack, names_of, filled, sheet_of_rows}
use Rattle.sheet.specs.Lengths.{fits}
use Rattle.sheet.specs.Calls.{sheet}
use Rattle.rows.specs.Packing.{Packs}
use Rattle.rows.proofs.Laws.Sheet.{packs-sheet}
use Rattle.ir_types.specs.Row0.{graph_row0_of, graph_row0_ten}
use Rattle.ir_append.specs.declared.writer.GraphWriter.{GraphWriter}
use Rattle.ir_append.specs.Grows.{Packed, Grows}
use Rattle.ir_append.specs.Row0.{counted_row0}
use Rattle.ir_append.specs.Whole.{ClearedBuffers, Begins, Closes, whole_sheet}

-- row 0 before it is put
abbrev ten_zeros : List ℕ
ten_zeros = replicate 10 0

module _ {rows names : List ℕ} (c : ClearedBuffers rows names) {w : GraphWriter} (b : Begins rows names w) where
  begin-packed : Packed w ten_zeros []
  unfolding filled numbers pack names_of
  begin-packed =
      let n = length rows in
      let count : 10 + (n - 10) ≡ n = omega (arith, c.some_rows) in
      let split : replicate {A = ℕ} n 0 ≡ ten_zeros ++ replicate (n - 10) 0 = rw (replicate-append-replicate {A = ℕ} 10 (n - 10) 0, count) in
      rw (b.used, b.rows_are, b.names_are) (record {
        packs = record { ten = refl; rows_are = c.rows_zero ∙ split; names_are = c.names_zero ∙ ap (λ (k : ℕ). replicate k 0) (sym (sub-zero (length names))) };
        rows_used = refl;
        names_used = refl;
      })

  -- no room
  pub whole-short : {w' : GraphWriter} {rs : List Row} → Grows w rs w' None → fits (1 + length rs) (length (names_of rs)) (length rows) (length names) ≡ false
  whole-short g = rw (← b.rows_are, ← b.names_are) (g.added.short ten_zeros [] begin-packed)

  module _ {w₁ : GraphWriter} {rs : List Row} {u : Unit {0}} (g : Grows w rs w₁ (Some u)) where
    packed : Packed w₁ ten_zeros rs
    packed = g.added.holds ten_zeros [] begin-packed

    pub whole-fits : fits (1 + length rs) (length (names_of rs)) (length rows) (length names) ≡ true
    unfolding fits
    whole-fits =
        let p = packed in
        let r : length w₁.rows.now ≡ length rows = g.rows_length ∙ ap length b.rows_are in
        let n : length w₁.names.now ≡ length names = g.names_length ∙ ap length b.names_are in
        and-true (le-leb (10 * (1 + length rs)) (length rows) (omega (arith, w₁.rows_inside, p.rows_used)))
        (le-leb (length (names_of rs)) (length names) (omega (arith, w₁.names_inside, p.names_used)))

    pub whole-place : {roots types place : ℕ} {w₂ : GraphWriter} → Closes w₁ roots types w₂ place → place ≡ 1 + length rs
    whole-place k = k.place_is ∙ packed.rows_used

    pub whole-sheet : {roots types place : ℕ} {w₂ : GraphWriter} → Closes w₁ roots types w₂ place → sheet w₂.rows.now w₂.names.now ≡ whole_sheet rs roots types (length rows) (length names)
    unfolding numbers
    whole-sheet {roots} {types} {place} {w₂} k =
        let p = packed in
        let row0 = graph_row0_ten (graph_row0_of (1 + length rs) (length (names_of rs)) roots types) in
        let put : Packs w₂.rows.now w₁.names.now (counted_row0 w₁.used roots types) rs = k.row0.packs w₁.names.now ten_zeros rs p.packs in
        let packs : Packs w₂.rows.now w₂.names.now (numbers (row0 ∷ [])) rs = rw (k.names_kept, ← p.rows_used, ← p.names_used) put in
        packs-sheet row0 packs
        ∙ ap (λ (n : ℕ). sheet_of_rows row0 rs n (length w₂.names.now)) (k.row0.rows_length ∙ g.rows_length ∙ ap length b.rows_are)
        ∙ ap (sheet_of_rows row0 rs (length rows)) (ap length k.names_kept ∙ g.names_length ∙ ap length b.names_are)
