-- The count of the tags that pass a test, as the form has it (`count`), is that of rows' `tags_counted`. Assumes nothing.
use Rattle.std.specs.Prelude.{if◌then◌else◌, cond}
use Prim.Native.Nat.{ℕ, suc, ◌+◌, ◌-◌, ◌*◌, ◌≤◌, ◌<◌}
use mathlib.Core.Path.{◌≡◌, refl, sym, ap, ◌∙◌}
use mathlib.Core.Bool.{Bool, true, false}
use mathlib.Core.List.{List}
use native.Mathlib.Nat.{add-zero}
use native.Mathlib.Omega.{arith}
use lib.ListN.{get_or, drop}
use lib.Seq.{drop-drop}
use Rattle.std.proofs.lemmas.List.{get_or-drop}
use Rattle.sheet.specs.Rows.{ten, tens}
use Rattle.ir_types.specs.Form.{count, tags_of}
use Rattle.rows.specs.Count.{tags_counted}
use Rattle.rows.proofs.Laws.Count.{tags-counted}

one_more : (t : Bool) (k : ℕ) → (if t then suc k else k) ≡ cond t 1 0 + k
one_more true k = omega arith
one_more false k = omega arith

module _ (P : ℕ → Bool) (rows : List ℕ) (end : ℕ) where
  -- so many of the rows from a place on pass
  abbrev counted_from : ℕ → ℕ
  counted_from p = count P (tags_of (tens (end - p) (drop (10 * p) rows)))

  counted-on : (p : ℕ) → p < end → counted_from p ≡ cond (P (get_or rows (10 * p) 0)) 1 0 + counted_from (p + 1)
  unfolding count tags_of tens ten
  counted-on p h =
      let more : end - p ≡ suc (end - (p + 1)) = omega arith in
      let on : 10 * (p + 1) ≡ 10 * p + 10 = omega arith in
      let next : drop (10 * (p + 1)) rows ≡ drop 10 (drop (10 * p) rows) = ap (λ (k : ℕ). drop k rows) on ∙ sym (drop-drop 10 (10 * p) rows) in
      let tag : get_or (drop (10 * p) rows) 0 0 ≡ get_or rows (10 * p) 0 = get_or-drop (10 * p) rows 0 0 ∙ rw add-zero in
      rw (more, next, tag) (one_more (P (get_or rows (10 * p) 0)) _)

  counted-end : counted_from end ≡ 0
  unfolding count tags_of tens
  counted-end = let none : end - end ≡ 0 = omega arith in rw none refl

  pub counted : 2 ≤ end → tags_counted P rows end ≡ count P (tags_of (tens (end - 2) (drop 20 rows)))
  counted h = tags-counted P rows end counted_from counted-on counted-end h
