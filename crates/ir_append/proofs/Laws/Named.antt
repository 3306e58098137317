-- Named in docs/PORT.md. No contract cites them. Assumes nothing.
use Rattle.std.specs.Prelude.{Option, Some, None}
use Prim.Native.Nat.{ℕ, ◌+◌, ◌-◌, ◌*◌, ◌≤◌}
use mathlib.Core.Path.{◌≡◌, refl, sym, ap, ◌∙◌}
use mathlib.Core.Bool.{false}
use mathlib.Core.List.{List, [], ◌++◌}
use native.Mathlib.Nat.{sub-zero}
use native.Mathlib.Omega.{arith}
use lib.ListN.{length, replicate, replicate-append-replicate}
use Rattle.sheet.specs.Rows.{numbers, pack, names_of, filled}
use Rattle.sheet.specs.Limits.{rows_limit, names_limit}
use Rattle.rows.specs.Packing.{Holds}
use Rattle.ir_append.specs.declared.writer.GraphWriter.{GraphWriter}
use Rattle.ir_append.specs.declared.Spelling.{Spelling}
use Rattle.ir_append.specs.Spelled.{is_nothing}
use Rattle.ir_append.specs.Whole.{ClearedBuffers}

-- zeros are the packing of no rows behind ten zeros
pub first_holds : {rows names : List ℕ} → ClearedBuffers rows names → Holds rows names (record { rows = 1; names = 0 }) (replicate 10 0) []
unfolding filled numbers pack names_of
first_holds {rows} {names} c =
    let n = length rows in
    let all : 10 + (n - 10) ≡ n = omega (arith, c.some_rows) in
    let split : replicate {A = ℕ} n 0 ≡ replicate 10 0 ++ replicate (n - 10) 0 = rw (replicate-append-replicate {A = ℕ} 10 (n - 10) 0, all) in
    record {
      packs = record { ten = refl; rows_are = c.rows_zero ∙ split; names_are = c.names_zero ∙ ap (λ (k : ℕ). replicate k 0) (sym (sub-zero (length names))) };
      rows_used = refl;
      names_used = refl;
    }

-- the room after rows were added: the type of the writer says it
pub room_after : (w : GraphWriter) → (10 * w.used.rows ≤ length w.rows.now) × (w.used.names ≤ length w.names.now) × (length w.rows.now ≤ rows_limit) × (length w.names.now ≤ names_limit)
room_after w = (w.rows_inside, w.names_inside, w.few_rows, w.few_names)

-- a spelling that is not None is of a text
pub not-nothing : (k : Option Spelling) → (k ≡ None → ⊥) → is_nothing k ≡ false
not-nothing None h = absurd (h refl)
not-nothing (Some how) h = refl
