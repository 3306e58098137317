-- Laws of the pass over the rows of a sheet (specs/Scan.antt): it gives what the form asks of all rows, each test over all of them, in one pass. A row whose
-- pairs end behind the limit fails at once, since the ends only grow and the last one must be the limit. Assumes nothing.
use Rattle.std.specs.Prelude.{if◌then◌else◌, Option, Some, None}
use Rattle.std.proofs.lemmas.Option.{none-some, same_Some}
use mathlib.Core.Path.{◌≡◌, refl, sym, ◌∙◌}
use mathlib.Core.Bool.{Bool, true, false, ◌&&◌, false≢true, and_assoc, and-false}
use mathlib.Core.List.{List, [], ◌∷◌, map}
use Prim.Native.Nat.{ℕ, ◌≤◌}
use lib.Dec.{eqb, leb}
use borrow.Author.Tests.{leb-true}
use Rattle.text.specs.Text.{every}
use Rattle.text.proofs.Laws.Tests.{and-true-right, if-in}
use Rattle.sheet.specs.Rows.{Ten, tens}
use Rattle.sheet.specs.Form.{row_covers, end_of, covers, covered}
use Rattle.rows.specs.declared.scan.Scan.{Scan}
use Rattle.rows.specs.Scan.{Tests, first_passes, first_scan, first_row, next_passes, scan_after, next_row, scanned, scanned_sheet}
use Rattle.rows.proofs.Laws.Tens.{tens-none}
use Rattle.rows.proofs.Laws.Ends.{end-within, tests-apart}

abbrev pub tags : List Ten → List ℕ
tags ts = map (λ (t : Ten). t.tag) ts

-- that each row may stand behind its head, and the tag of the last head
unfoldable pub in_order : Tests → ℕ → List ℕ → Bool
in_order x head [] = true
in_order x head (tag ∷ tags) = x.follows head tag && in_order x (x.head_after head tag) tags

unfoldable pub last_head : Tests → ℕ → List ℕ → ℕ
last_head x head [] = head
last_head x head (tag ∷ tags) = last_head x (x.head_after head tag) tags

-- what is asked of the pass at its end
abbrev pub ends : ℕ → (ℕ → Bool) → Option Scan → Bool
ends limit p None = false
ends limit p (Some s) = eqb s.end limit && p s.head

-- ---- what the pass gives

module _ (x : Tests) (limit : ℕ) (p : ℕ → Bool) where
  pub scanned-ends : (k head : ℕ) (ts : List Ten) → ends limit p (scanned x limit (record { end = k; head = head }) ts)
      ≡ every x.form ts && (in_order x head (tags ts) && (covers x.pairs k ts && (eqb (covered k ts) limit && p (last_head x head (tags ts)))))
  unfolding scanned next_passes every in_order covers covered last_head
  scanned-ends k head [] = refl
  scanned-ends k head (t ∷ ts) =
      if-in (ends limit p) (x.form t && x.follows head t.tag && row_covers x.pairs k t && leb (end_of k t) limit)
      (scanned-ends (end_of k t) (x.head_after head t.tag) ts) refl
      ∙ tests-apart (x.form t) (x.follows head t.tag) (row_covers x.pairs k t) _ _ _ _ _ _ (end-within limit (end_of k t) ts)

-- the tests of the namespace's row and of all behind it, in the definition's order
first-tests-apart : (w v l e i c q r : Bool) → (q ≡ true → l ≡ true) → (if w && v && l then e && (i && (c && (q && r))) else false) ≡ (w && e && i) && (((v && c) && q) && r)
first-tests-apart false v l e i c q r h = refl
first-tests-apart true false l e i c q r h = sym (and-false (e && i))
first-tests-apart true true false e i c false r h = rw (and-false c, and-false (e && i))
first-tests-apart true true false e i c true r h = absurd (false≢true (h refl))
first-tests-apart true true true e i c q r h = simp and_assoc

pub sheet-ends : (x : Tests) (limit : ℕ) (p : ℕ → Bool) (t : Ten) (ts : List Ten) → ends limit p (scanned_sheet x limit (t ∷ ts))
    ≡ (eqb t.tag 1 && eqb t.a 0 && eqb t.b 0 && eqb t.c 0 && every x.form ts && in_order x 1 (tags ts))
    && ((covers x.pairs 0 (t ∷ ts) && eqb (covered 0 (t ∷ ts)) limit) && p (last_head x 1 (tags ts)))
unfolding scanned_sheet first_passes covers covered
sheet-ends x limit p t ts =
    if-in (ends limit p) (first_passes x limit t) (scanned-ends x limit p (end_of 0 t) 1 ts) refl
    ∙ first-tests-apart (eqb t.tag 1 && eqb t.a 0 && eqb t.b 0 && eqb t.c 0) (row_covers x.pairs 0 t) _ _ _ _ _ _ (end-within limit (end_of 0 t) ts)

-- ---- one row

-- a test of the results that the code's calls give comes out as the definition's test does
pub first-passes : (x : Tests) (limit : ℕ) (t : Ten) {v b : Bool} {e l : ℕ} → v ≡ row_covers x.pairs 0 t → e ≡ end_of 0 t → l ≡ limit
    → eqb t.tag 1 && eqb t.a 0 && eqb t.b 0 && eqb t.c 0 && v && leb e l ≡ b → first_passes x limit t ≡ b
unfolding first_passes
first-passes x limit t v e l test = rw (v, e, l) at test

pub next-passes : (x : Tests) (limit : ℕ) (s : Scan) (t : Ten) {p b : Bool} {e l : ℕ} → p ≡ x.form t && x.follows s.head t.tag && row_covers x.pairs s.end t
    → e ≡ end_of s.end t → l ≡ limit → p && leb e l ≡ b → next_passes x limit s t ≡ b
unfolding next_passes
next-passes x limit s t p e l test = rw (p, e, l) at test

-- what a test answers
module _ {A : Type 0} where
  if-some : (b : Bool) (x y : A) → Some y ≡ (if b then Some x else None) → (b ≡ true) × (y ≡ x)
  if-some true x y e = (refl, same_Some y x e)
  if-some false x y e = absurd (none-some y (sym e))

  if-none : (b : Bool) (x : A) → None ≡ (if b then Some x else None) → b ≡ false
  if-none true x e = absurd (none-some x e)
  if-none false x e = refl

module _ (x : Tests) (limit : ℕ) where
  -- the row of the namespace passes, and its end is small, or fails
  module _ (t : Ten) where
    pub first-end : (s : Scan) → Some s ≡ first_row x limit t → s.end ≤ limit
    unfolding first_row first_passes
    first-end s e =
        let p = if-some (first_passes x limit t) (first_scan t) s e in
        rw p.1 (leb-true (end_of 0 t) limit (and-true-right (eqb t.tag 1 && eqb t.a 0 && eqb t.b 0 && eqb t.c 0 && row_covers x.pairs 0 t) _ p.0))

    pub first-on : (s : Scan) (ts : List Ten) → Some s ≡ first_row x limit t → scanned x limit s ts ≡ scanned_sheet x limit (t ∷ ts)
    unfolding first_row scanned_sheet
    first-on s ts e = let p = if-some (first_passes x limit t) (first_scan t) s e in rw (p.0, p.1)

    pub first-fails : (ts : List Ten) → None ≡ first_row x limit t → None ≡ scanned_sheet x limit (t ∷ ts)
    unfolding first_row scanned_sheet
    first-fails ts e = rw (if-none (first_passes x limit t) (first_scan t) e)

  -- and a row behind it
  module _ (s : Scan) (t : Ten) where
    pub next-end : (next : Scan) → Some next ≡ next_row x limit s t → next.end ≤ limit
    unfolding next_row next_passes
    next-end next e =
        let p = if-some (next_passes x limit s t) (scan_after x s t) next e in
        rw p.1 (leb-true (end_of s.end t) limit (and-true-right (x.form t && x.follows s.head t.tag && row_covers x.pairs s.end t) _ p.0))

    pub next-on : (next : Scan) (ts : List Ten) → Some next ≡ next_row x limit s t → scanned x limit next ts ≡ scanned x limit s (t ∷ ts)
    unfolding next_row scanned
    next-on next ts e = let p = if-some (next_passes x limit s t) (scan_after x s t) next e in rw (p.0, p.1)

    pub next-fails : (ts : List Ten) → None ≡ next_row x limit s t → None ≡ scanned x limit s (t ∷ ts)
    unfolding next_row scanned
    next-fails ts e = rw (if-none (next_passes x limit s t) (scan_after x s t) e)

  pub scan-stops : (s : Scan) (left : ℕ) (rows : List ℕ) → left ≤ 0 → Some s ≡ scanned x limit s (tens left rows)
  unfolding scanned
  scan-stops s left rows h = rw (tens-none left rows h)
