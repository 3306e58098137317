-- Laws of the last head's row: going back from the last row finds the row whose tag the pass over the rows ends with.
-- Assumes nothing.
use Rattle.std.specs.Prelude.{if◌then◌else◌}
use mathlib.Core.Path.{◌≡◌, refl, sym, ap, ◌∙◌}
use mathlib.Core.Bool.{Bool, true, false}
use mathlib.Core.List.{List, [], ◌∷◌, ◌++◌}
use Prim.Native.Nat.{ℕ, zero, suc, ◌+◌, ◌-◌, ◌*◌, ◌≤◌, ◌<◌}
use native.Mathlib.Nat.{not-suc-le-zero}
use native.Mathlib.Numerals.{sub-one}
use native.Mathlib.Omega.{arith}
use lib.Dec.{eqb}
use lib.ListN.{get_or, drop}
use lib.Seq.{get_or-drop}
use borrow.Author.Tests.{ne_eqb, le-leb, lt-leb}
use Rattle.text.proofs.Laws.Tests.{if-in}
use Rattle.sheet.specs.Rows.{ten, tens}
use Rattle.xsd_types.specs.Good.{is_head, head_after, last_head, head_of}
use Rattle.sheet.specs.Calls.{sheet}
use Rattle.xsd_types.specs.Row0.{row0_from}
use Rattle.xsd_good.specs.Heads.{head_row}
use Rattle.xsd_good.specs.End.{finished_end, HeadIs}
use Rattle.rows.proofs.Laws.Scan.{tags}
use Rattle.sheet.specs.Form.{rows_used_in, row0_of, tens_of}

pub head-none : (rows : List ℕ) (i : ℕ) → i ≤ 0 → 0 ≡ head_row rows i
unfolding head_row
head-none rows zero h = refl
head-none rows (suc i) h = absurd (not-suc-le-zero h)

pub head-hit : (rows : List ℕ) (i : ℕ) → 0 < i → is_head (get_or rows (10 * (i - 1)) 0) ≡ true → i - 1 ≡ head_row rows i
unfolding head_row
head-hit rows zero h e = absurd (not-suc-le-zero h)
head-hit rows (suc i) h e = rw sub-one (rw (rw sub-one at e))

pub head-on : (rows : List ℕ) (i : ℕ) → 0 < i → is_head (get_or rows (10 * (i - 1)) 0) ≡ false → head_row rows (i - 1) ≡ head_row rows i
unfolding head_row
head-on rows zero h e = absurd (not-suc-le-zero h)
head-on rows (suc i) h e = rw sub-one (rw (rw sub-one at e))

-- the tag of a row, 0 of row 0
abbrev pub tag_of : List ℕ → ℕ → ℕ
tag_of rows i = if eqb i 0 then 0 else get_or rows (10 * i) 0

pub tag-of-suc : (rows : List ℕ) (i : ℕ) → tag_of rows (suc i) ≡ get_or rows (10 * suc i) 0
tag-of-suc rows i = rw (ne_eqb (suc i) 0 (λ e. omega arith))

pub last_head-more : (head x : ℕ) (xs : List ℕ) → last_head head (xs ++ (x ∷ [])) ≡ head_after (last_head head xs) x
unfolding last_head
last_head-more head x [] = refl
last_head-more head x (y ∷ xs) = last_head-more (head_after head y) x xs

pub tags-more : (n : ℕ) (s : List ℕ) → tags (tens (suc n) s) ≡ tags (tens n s) ++ (get_or s (10 * n) 0 ∷ [])
unfolding tens ten
tags-more zero s = refl
tags-more (suc n) s =
    let e : 10 + 10 * n ≡ 10 * suc n = omega arith in
    let x : get_or (drop 10 s) (10 * n) 0 ≡ get_or s (10 * suc n) 0 = get_or-drop 10 s (10 * n) 0 ∙ rw e in
    ap (λ (l : List ℕ). get_or s 0 0 ∷ l) (tags-more n (drop 10 s) ∙ rw x)

pub head-first-row : (b : Bool) (rows : List ℕ) → 0 ≡ tag_of rows (if b then 0 else 0)
head-first-row false rows = refl
head-first-row true rows = refl

pub head-row-tag : (rows : List ℕ) (n : ℕ) → last_head 0 (tags (tens n (drop 10 rows))) ≡ tag_of rows (head_row rows (suc n))
unfolding head_row tens last_head head_after
head-row-tag rows zero = head-first-row (is_head (get_or rows 0 0)) rows
head-row-tag rows (suc n) =
    let e : 10 + 10 * n ≡ 10 * suc n = omega arith in
    let x : get_or (drop 10 rows) (10 * n) 0 ≡ get_or rows (10 * suc n) 0 = get_or-drop 10 rows (10 * n) 0 ∙ rw e in
    ap (last_head 0) (tags-more n (drop 10 rows)) ∙ last_head-more 0 (get_or (drop 10 rows) (10 * n) 0) (tags (tens n (drop 10 rows)))
    ∙ rw x (sym (if-in (tag_of rows) (is_head (get_or rows (10 * suc n) 0)) (tag-of-suc rows n) (sym (head-row-tag rows n))))

-- of a sheet with row 1: the row that `head_row` finds has the tag that `head_of` gives
pub open-head : (rows names : List ℕ) → 1 ≤ rows_used_in (ten rows) → head_of (tens_of (sheet rows names)) ≡ tag_of rows (head_row rows (rows_used_in (ten rows)))
unfolding head_of tens_of row0_of
open-head rows names h =
    let n = rows_used_in (ten rows) - 1 in
    let e : suc n ≡ rows_used_in (ten rows) = omega arith in
    head-row-tag rows n ∙ rw e

-- where the finished items end, by a head that is known
module _ (rows : List ℕ) {context : ℕ} (c : context ≡ (row0_from (ten rows)).context) where
  pub end-open : {head : ℕ} → 2 ≤ context → HeadIs rows head → head ≡ finished_end rows (row0_from (ten rows)).context (rows_used_in (ten rows))
  unfolding finished_end
  end-open l h = rw (le-leb 2 (row0_from (ten rows)).context (omega (arith, l, c))) (h (omega (arith, l, c)))

  pub end-closed : {used : ℕ} → context < 2 → used ≡ (row0_from (ten rows)).rows_used → used ≡ finished_end rows (row0_from (ten rows)).context (rows_used_in (ten rows))
  unfolding finished_end
  end-closed l u = rw (lt-leb 2 (row0_from (ten rows)).context (omega (arith, l, c))) u

-- and what such an end says of the head
pub end-head : (rows : List ℕ) {end : ℕ} → end ≡ finished_end rows (row0_from (ten rows)).context (rows_used_in (ten rows)) → HeadIs rows end
unfolding finished_end
end-head rows e l = rw (le-leb 2 (row0_from (ten rows)).context l) at e
