-- Code enums by the tags at the places behind a head. Assumes nothing.
use Prim.Native.Nat.{ℕ, ◌+◌, ◌*◌, ◌<◌, ◌≤◌}
use mathlib.Core.Path.{◌≡◌}
use mathlib.Core.Bool.{true, false, not}
use mathlib.Core.List.{List}
use lib.ListN.{get_or}
use borrow.Author.Tests.{ne_eqb}
use Rattle.text.specs.Text.{between}
use Rattle.xsd_types.specs.Places.{rows_from}
use Rattle.xsd_types.specs.Refused.{only_codes, is_code_enum}
use Rattle.xsd_types.proofs.Laws.Places.{rows_from-cons, rows_from-end, row_at-tag}

module _ (rows names : List ℕ) (p end : ℕ) where
  pub codes-end : end ≤ p → only_codes (rows_from rows names p end) ≡ true
  unfolding only_codes
  codes-end h = rw (rows_from-end rows names p end h)

  pub codes_at : p < end → get_or rows (10 * p) 0 ≡ 4 → only_codes (rows_from rows names (p + 1) end) ≡ only_codes (rows_from rows names p end)
  unfolding only_codes
  codes_at h e = rw (rows_from-cons rows names p end h, row_at-tag rows names p, e)

  pub codes-not-at : p < end → (get_or rows (10 * p) 0 ≡ 4 → ⊥) → not (between 5 11 (get_or rows (10 * p) 0)) ≡ only_codes (rows_from rows names p end)
  unfolding only_codes
  codes-not-at h e = rw (rows_from-cons rows names p end h, row_at-tag rows names p, ne_eqb (get_or rows (10 * p) 0) 4 e)

  pub enum-none : end ≤ p → is_code_enum (rows_from rows names p end) ≡ false
  unfolding is_code_enum
  enum-none h = rw (rows_from-end rows names p end h)

  pub enum_at : p < end → get_or rows (10 * p) 0 ≡ 4 → only_codes (rows_from rows names (p + 1) end) ≡ is_code_enum (rows_from rows names p end)
  unfolding is_code_enum
  enum_at h e = rw (rows_from-cons rows names p end h, row_at-tag rows names p, e)

  pub enum-not-at : p < end → (get_or rows (10 * p) 0 ≡ 4 → ⊥) → is_code_enum (rows_from rows names p end) ≡ false
  unfolding is_code_enum
  enum-not-at h e = rw (rows_from-cons rows names p end h, row_at-tag rows names p, ne_eqb (get_or rows (10 * p) 0) 4 e)
