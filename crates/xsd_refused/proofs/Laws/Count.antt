-- How many simple types lowering refuses, row by row; and there are no more than rows. Assumes nothing.
use Prim.Native.Nat.{ℕ, zero, suc, ◌+◌, ◌-◌, ◌<◌, ◌≤◌}
use mathlib.Core.Path.{◌≡◌, sym, ap, ◌∙◌}
use mathlib.Core.Bool.{true, false}
use mathlib.Core.List.{List, [], ◌∷◌}
use native.Mathlib.Omega.{arith}
use lib.ListN.{length}
use Rattle.text.proofs.Laws.Tests.{if-cases, bool_cases}
use Rattle.std.specs.List.{filter, range_with_len}
use Rattle.sheet.specs.Rows.{Row}
use Rattle.xsd_types.specs.Places.{row_at, rows_from}
use Rattle.xsd_types.specs.Refused.{refused_row}
use Rattle.xsd_types.specs.Count.{refused_rows}
use Rattle.xsd_types.proofs.Laws.Places.{rows_from-cons, rows_from-end, length-rows_from}

module _ (rows names : List ℕ) (p end : ℕ) where
  pub count-end : end ≤ p → refused_rows (rows_from rows names p end) ≡ 0
  unfolding refused_rows
  count-end h = rw (rows_from-end rows names p end h)

  pub count_at : p < end → refused_row (row_at rows names p) (rows_from rows names (p + 1) end) ≡ true
      → refused_rows (rows_from rows names p end) ≡ suc (refused_rows (rows_from rows names (p + 1) end))
  unfolding refused_rows
  count_at h e = rw (rows_from-cons rows names p end h, e)

  pub count-not-at : p < end → refused_row (row_at rows names p) (rows_from rows names (p + 1) end) ≡ false
      → refused_rows (rows_from rows names p end) ≡ refused_rows (rows_from rows names (p + 1) end)
  unfolding refused_rows
  count-not-at h e = rw (rows_from-cons rows names p end h, e)

-- the places of such rows, among n of them from p on
pub counted : (rows names : List ℕ) (end n p : ℕ) → p + n ≡ end
    → length (filter (λ (i : ℕ). refused_row (row_at rows names i) (rows_from rows names (i + 1) end)) (range_with_len p n)) ≡ refused_rows (rows_from rows names p end)
counted rows names end zero p h = sym (count-end rows names p end (omega arith))
counted rows names end (suc n) p h =
    let rest = counted rows names end n (p + 1) (omega arith) in
    bool_cases (refused_row (row_at rows names p) (rows_from rows names (p + 1) end))
    (λ e. rw e (ap suc rest ∙ sym (count_at rows names p end (omega arith) e)))
    (λ e. rw e (rest ∙ sym (count-not-at rows names p end (omega arith) e)))

refused_rows-few : (rs : List Row) → refused_rows rs ≤ length rs
unfolding refused_rows
refused_rows-few [] = omega arith
refused_rows-few (r ∷ rs) = if-cases (λ (n : ℕ). n ≤ length (r ∷ rs)) (refused_row r rs) (λ e. omega (arith, refused_rows-few rs)) (λ e. omega (arith, refused_rows-few rs))

pub count-few : (rows names : List ℕ) (p end : ℕ) → refused_rows (rows_from rows names p end) ≤ end - p
count-few rows names p end = omega (arith, refused_rows-few (rows_from rows names p end), length-rows_from rows names p end)
