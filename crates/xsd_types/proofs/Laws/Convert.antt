-- Order 7's conversion: what it takes becomes good and holds the state that it held, a good sheet stays, and twice is once. Assumes nothing.
use Prim.Native.Nat.{ℕ, ◌%◌, ◌<◌}
use mathlib.Core.Path.{◌≡◌, sym, ap, ◌∙◌}
use mathlib.Core.Logic.{⊎_elim}
use mathlib.Core.Bool.{true, false}
use native.Mathlib.Omega.{arith}
use lib.Dec.{eqb, leb}
use lib.ListN.{length}
use borrow.Author.Tests.{leb-true, eq-eqb}
use Rattle.std.proofs.lemmas.Bool.{cases_Bool, or_right}
use Rattle.text.proofs.Laws.Tests.{bool_cases, four, and-true-left, and-true}
use Rattle.sheet.specs.Rows.{Sheet}
use Rattle.sheet.specs.Lengths.{sheet_lengths}
use Rattle.xsd_types.specs.Good.{bare_good}
use Rattle.xsd_types.specs.Count.{count_of, count_in, with_count, bare, state_of, good}
use Rattle.xsd_types.specs.Convert.{Converted, convertible, convert}
use Rattle.xsd_types.specs.Table.{ConvertTable}
use Rattle.xsd_types.proofs.Laws.Count.{with_count-bare, bare-with_count, with_count-twice, count_in-with_count, state_of-with_count, good-bare, good-count, good-both}

lengths-long : (r n : ℕ) → sheet_lengths r n ≡ true → 17 < r
unfolding sheet_lengths
lengths-long r n e = omega (arith, leb-true 20 r (four (eqb (r % 10) 0) (leb 20 r) (leb r 40960) (leb n 65536) e).1)

module _ (x : Sheet) where
  -- the three cases
  pub convert-table : ConvertTable x (convert x)
  unfolding convert
  convert-table =
      ⊎_elim (λ l. ⊎_elim (λ c. ConvertTable.filled l c (rw (l, c))) (λ c. ConvertTable.fault l c (rw (l, c))) (cases_Bool (convertible x)))
      (λ l. ConvertTable.lengths l (rw l)) (cases_Bool (sheet_lengths (length x.rows) (length x.names)))

  -- the right count is its own state's
  pub same_count : good x ≡ true → with_count (count_of (state_of x)) x ≡ x
  same_count g = ap (λ (c : ℕ). with_count c x) (sym (good-count x g)) ∙ sym (with_count-twice x (count_in x)) ∙ with_count-bare x

  pub good-convertible : good x ≡ true → convertible x ≡ true
  unfolding convertible
  good-convertible g = and-true (good-bare x g) (or_right (eqb (count_in x) 0) _ (eq-eqb (count_in x) (count_of (state_of x)) (good-count x g)))

  -- a good sheet stays
  pub convert-good : good x ≡ true → (convert x).sheet ≡ x
  unfolding convert
  convert-good g =
      bool_cases (sheet_lengths (length x.rows) (length x.names)) (λ l. rw (l, good-convertible g) (same_count g)) (λ l. rw l)

  filled-good : sheet_lengths (length x.rows) (length x.names) ≡ true → convertible x ≡ true → good (with_count (count_of (state_of x)) x) ≡ true
  unfolding convertible
  filled-good l c =
      let y = with_count (count_of (state_of x)) x in
      let b : bare_good (bare y) ≡ true = rw (bare-with_count x (count_of (state_of x))) (and-true-left (bare_good (bare x)) _ c) in
      good-both y b (count_in-with_count x (count_of (state_of x)) (lengths-long _ _ l) ∙ sym (ap count_of (state_of-with_count x (count_of (state_of x)))))

  -- what conversion gives is good
  pub converted-good : (convert x).answer.number ≡ 0 → good (convert x).sheet ≡ true
  converted-good z = go (convert x) convert-table z
    where
      go : (r : Converted) → ConvertTable x r → r.answer.number ≡ 0 → good r.sheet ≡ true
      go r (ConvertTable.lengths l e) k = let q : r.answer.number ≡ 1 = ap (λ y. y.answer.number) e in absurd (omega arith)
      go r (ConvertTable.fault l c e) k = let q : r.answer.number ≡ 2 = ap (λ y. y.answer.number) e in absurd (omega arith)
      go r (ConvertTable.filled l c e) k = rw e (filled-good l c)

  -- it holds the state that the sheet held, and its lengths are the sheet's
  pub converted-state : state_of (convert x).sheet ≡ state_of x
  unfolding convert
  converted-state =
      bool_cases (sheet_lengths (length x.rows) (length x.names))
      (λ l. bool_cases (convertible x) (λ c. rw (l, c) (state_of-with_count x (count_of (state_of x)))) (λ c. rw (l, c)))
      (λ l. rw l)

  -- 1 and 2 change nothing
  kept-lengths : sheet_lengths (length x.rows) (length x.names) ≡ false → (convert x).sheet ≡ x
  unfolding convert
  kept-lengths l = rw l

  kept-fault : sheet_lengths (length x.rows) (length x.names) ≡ true → convertible x ≡ false → (convert x).sheet ≡ x
  unfolding convert
  kept-fault l c = rw (l, c)

-- converting twice is converting once
pub convert-twice : (x : Sheet) → (convert (convert x).sheet).sheet ≡ (convert x).sheet
convert-twice x = go (convert x) (convert-table x)
  where
    go : (r : Converted) → ConvertTable x r → (convert r.sheet).sheet ≡ r.sheet
    go r (ConvertTable.lengths l e) = rw e (kept-lengths x l)
    go r (ConvertTable.fault l c e) = rw e (kept-fault x l c)
    go r (ConvertTable.filled l c e) = rw e (convert-good (with_count (count_of (state_of x)) x) (filled-good x l c))
