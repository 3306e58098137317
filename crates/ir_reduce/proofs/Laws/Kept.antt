-- The rows that are kept, one after the other. What is left to do at a place is the row there, if it is kept, and what is left behind it. Assumes nothing.
use Rattle.std.specs.Prelude.{if◌then◌else◌}
use mathlib.Core.Path.{◌≡◌, refl, sym, ap, ◌∙◌}
use mathlib.Core.Bool.{Bool, true, false, ◌&&◌}
use mathlib.Core.List.{List, [], ◌++◌, map}
use Prim.Native.Nat.{ℕ, suc, ◌+◌, ◌-◌, ◌*◌, ◌≤◌, ◌<◌}
use native.Mathlib.Nat.{add-zero}
use native.Mathlib.Omega.{arith}
use lib.ListN.{get_or}
use lib.Seq.{get_or-drop}
use Rattle.text.specs.Text.{between}
use Rattle.sheet.specs.Rows.{Row, ten, unpack_row}
use Rattle.ir_types.specs.Form.{count}
use Rattle.ir_reduce.specs.Places.{row_at, keeps, one_if, kept_rows}

pub row-tag-at : (rows names : List ℕ) (p : ℕ) → (row_at rows names p).tag ≡ get_or rows (10 * p) 0
unfolding row_at unpack_row ten
row-tag-at rows names p = get_or-drop (10 * p) rows 0 0 ∙ ap (λ (k : ℕ). get_or rows k 0) (omega arith)

module _ (rows names marks : List ℕ) (before : Bool) (p end : ℕ) where
  pub kept_next : p < end → let now = keeps before (get_or rows (10 * p) 0) (get_or marks p 0) in
      kept_rows (row_at rows names) marks before p (end - p) ≡ one_if now (row_at rows names p) ++ kept_rows (row_at rows names) marks now (p + 1) (end - (p + 1))
  unfolding kept_rows
  kept_next h =
      let more : end - p ≡ suc (end - (p + 1)) = omega arith in
      let next : suc p ≡ p + 1 = omega arith in
      rw (more, row-tag-at rows names p, next)

  pub kept-none : end ≤ p → kept_rows (row_at rows names) marks before p (end - p) ≡ []
  unfolding kept_rows
  kept-none h = let none : end - p ≡ 0 = omega arith in rw none

-- ---- rows counted
abbrev pub tagged : List Row → List ℕ
tagged rs = map (λ (r : Row). r.tag) rs

-- the count so far with the row at hand, and then the rest
pub count_next : (P : ℕ → Bool) (n : ℕ) (b : Bool) (r : Row) (rest : List Row) → (if b && P r.tag then n + 1 else n) + count P (tagged rest) ≡ n + count P (tagged (one_if b r ++ rest))
unfolding count
count_next P n false r rest = refl
count_next P n true r rest = by-test (P r.tag) (count P (tagged rest))
  where
    by-test : (t : Bool) (k : ℕ) → (if t then n + 1 else n) + k ≡ n + (if t then suc k else k)
    by-test true k = omega arith
    by-test false k = refl

pub count-bound : (b : Bool) (n p : ℕ) {k : ℕ} → n < p → k ≡ (if b then n + 1 else n) → k < p + 1
count-bound true n p h e = omega arith
count-bound false n p h e = omega arith

module _ (names rows marks : List ℕ) (low high n : ℕ) (before : Bool) (p end : ℕ) (h : p < end) where
  pub count-rest : {now : Bool} {k : ℕ} → now ≡ keeps before (get_or rows (10 * p) 0) (get_or marks p 0) → k ≡ (if now && between low high (get_or rows (10 * p) 0) then n + 1 else n)
      → k + count (between low high) (tagged (kept_rows (row_at rows names) marks now (p + 1) (end - (p + 1))))
      ≡ n + count (between low high) (tagged (kept_rows (row_at rows names) marks before p (end - p)))
  count-rest {now} {k} e f =
      let next = count_next (between low high) n now (row_at rows names p) (kept_rows (row_at rows names) marks now (p + 1) (end - (p + 1))) in
      let tag = row-tag-at rows names p in
      let all = kept_next rows names marks before p end h in
      rw (f, all, ← e, ← tag) next

pub count-end : (P : ℕ → Bool) {rs : List Row} (n : ℕ) {k : ℕ} → rs ≡ [] → n + count P (tagged rs) ≡ k → n ≡ k
unfolding count
count-end P {rs} n {k} e h = sym (add-zero n) ∙ rw e at h
