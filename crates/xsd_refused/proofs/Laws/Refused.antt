-- The first simple type that lowering refuses, by the numbers at the places. A text that gives no built-in type has the reference 0. Assumes nothing.
use Prim.Native.Nat.{ℕ, zero, suc, ◌+◌, ◌*◌, ◌<◌}
use mathlib.Core.Path.{◌≡◌, refl}
use mathlib.Core.Bool.{true, false}
use mathlib.Core.List.{List}
use mathlib.Core.Option.{Option, some, none}
use native.Mathlib.Omega.{arith}
use lib.Dec.{eqb}
use lib.ListN.{get_or}
use borrow.Author.Tests.{ne_eqb}
use Rattle.std.specs.List.{find, range_with_len}
use Rattle.std.specs.Option.{MatchOption}
use Rattle.text.specs.Text.{Text}
use Rattle.text.proofs.Laws.Tests.{bool_cases}
use Rattle.builtin.specs.Builtin.{RustType, string, bool, decimal, date, date_time, map_builtin, reference}
use Rattle.sheet.specs.Rows.{Row, text_at}
use Rattle.xsd_types.specs.Places.{row_at, rows_from}
use Rattle.xsd_types.specs.Refused.{is_none, is_code_enum, refused_row, refused_place}
use Rattle.xsd_types.proofs.Laws.Places.{rows_from-cons, rows_from-end, row_at-tag}
use Rattle.xsd_refused.proofs.Laws.Base.{row_at-base}

pub reference-none : (m : Option RustType) → eqb (reference m) 0 ≡ is_none m
unfolding is_none
reference-none none = refl
reference-none (some string) = refl
reference-none (some bool) = refl
reference-none (some decimal) = refl
reference-none (some date) = refl
reference-none (some date_time) = refl

module _ (rows names : List ℕ) (p : ℕ) (rs : List Row) where
  pub kept-not-simple : (get_or rows (10 * p) 0 ≡ 3 → ⊥) → refused_row (row_at rows names p) rs ≡ false
  unfolding refused_row
  kept-not-simple e = rw (row_at-tag rows names p, ne_eqb (get_or rows (10 * p) 0) 3 e)

  pub kept-code-enum : get_or rows (10 * p) 0 ≡ 3 → is_code_enum rs ≡ true → refused_row (row_at rows names p) rs ≡ false
  unfolding refused_row
  kept-code-enum e f = rw (row_at-tag rows names p, e, f)

  pub refused-by-base : {base : Text} {n : ℕ} → get_or rows (10 * p) 0 ≡ 3 → is_code_enum rs ≡ false
      → base ≡ text_at names (get_or rows (10 * p + 2 + 1) 0) (get_or rows (10 * p + 2 + 2) 0) → n ≡ reference (map_builtin base) → eqb n 0 ≡ refused_row (row_at rows names p) rs
  unfolding refused_row
  refused-by-base {base} e f b r =
      rw (row_at-base rows names p e, row_at-tag rows names p, e, f, ← b, r) (reference-none (map_builtin base))

-- the place of the first such row, among n of them from row p on
pub found : (rows names : List ℕ) (end n p : ℕ) → 0 < p → p + n ≡ end
    → MatchOption (find (λ (i : ℕ). refused_row (row_at rows names i) (rows_from rows names (i + 1) end)) (range_with_len p n)) (refused_place p (rows_from rows names p end) ≡ 0)
    (λ q. (0 < q) × (refused_place p (rows_from rows names p end) ≡ q))
unfolding refused_place
found rows names end zero p l h = rw (rows_from-end rows names p end (omega arith)) refl
found rows names end (suc n) p l h =
    rw (rows_from-cons rows names p end (omega arith))
    (bool_cases (refused_row (row_at rows names p) (rows_from rows names (p + 1) end)) (λ e. rw e (l, refl)) (λ e. rw e (found rows names end n (p + 1) (omega arith) (omega arith))))
