-- The sheets that are good with their count, from those that are good without: one number differs, and nothing but the count is read from it. Assumes nothing.
use Prim.Native.Nat.{ℕ, zero, suc, ◌<◌}
use mathlib.Core.Path.{◌≡◌, refl, sym, ap, ap₂, subst, ◌∙◌}
use mathlib.Core.Logic.{◌↔◌}
use mathlib.Core.Bool.{Bool, true}
use mathlib.Core.List.{List, [], ◌∷◌, ◌++◌}
use native.Mathlib.Omega.{arith}
use lib.Dec.{ltb}
use lib.ListN.{length, get_or, set, drop, length-set}
use lib.Seq.{set-set, set-get_or, get_or-set_same, get_or-set_other, drop-set-lt}
use borrow.Author.Tests.{eqb-true, eq-eqb}
use Rattle.text.specs.Text.{every}
use Rattle.text.proofs.Laws.Tests.{and-true-left, and-true-right, and-true}
use Rattle.sheet.specs.Rows.{Sheet, ten, numbers, pack, pack_row, row, names_of, filled, bit, sheet_of_rows}
use Rattle.sheet.specs.Form.{words, row0_of}
use Rattle.xsd_types.specs.State.{State, proper}
use Rattle.xsd_types.specs.Row0.{row0_from, row0_ten, row0_in}
use Rattle.xsd_types.specs.Rows.{rows_of, namespace_row, namespace_a, items_rows, context_rows, rows_used, names_used, row0}
use Rattle.xsd_types.specs.Sheet.{bare_sheet_of, state_fits}
use Rattle.xsd_types.specs.Good.{bare_good}
use Rattle.xsd_types.specs.Back.{bare_state_of}
use Rattle.xsd_types.specs.Count.{count_of, count_in, with_count, bare, sheet_of, state_of, good}
use Rattle.xsd_types.specs.Choice.{chosen, sheet_chosen}
use Rattle.xsd_types.proofs.Laws.SheetOf.{row0-made, length-bare_sheet_of, fit-rows, rows_used-two, bare_state_of-bare_sheet_of, bare_good-bare_sheet_of}
use Rattle.xsd_types.proofs.Laws.StateOf.{bare_sheet_of-bare_state_of, proper-bare_state_of, fits-bare_state_of}
use Rattle.xsd_types.proofs.Laws.Choice.{bare_choice-again}

-- ---- the numbers of a sheet but the count

words-set : (l : List ℕ) (i : ℕ) → words l ≡ true → words (set l i 0) ≡ true
unfolding every
words-set [] i w = refl
words-set (x ∷ xs) zero w = and-true refl (and-true-right (ltb x 4294967296) _ w)
words-set (x ∷ xs) (suc i) w = and-true (and-true-left (ltb x 4294967296) _ w) (words-set xs i (and-true-right (ltb x 4294967296) _ w))

module _ (rows : List ℕ) (v : ℕ) where
  other-number : (k : ℕ) → (k ≡ 17 → ⊥) → get_or (set rows 17 v) k 0 ≡ get_or rows k 0
  other-number k h = get_or-set_other rows 17 k v 0 h

  -- row 0 stands before it
  pub ten-count : ten (set rows 17 v) ≡ ten rows
  unfolding ten
  ten-count =
      λ i. record {
        tag = other-number 0 (λ e. omega arith) i;
        at0 = other-number 1 (λ e. omega arith) i;
        len0 = other-number 2 (λ e. omega arith) i;
        at1 = other-number 3 (λ e. omega arith) i;
        len1 = other-number 4 (λ e. omega arith) i;
        at2 = other-number 5 (λ e. omega arith) i;
        len2 = other-number 6 (λ e. omega arith) i;
        a = other-number 7 (λ e. omega arith) i;
        b = other-number 8 (λ e. omega arith) i;
        c = other-number 9 (λ e. omega arith) i;
      }

  -- the rows from row 2 on stand behind it
  pub drop-count : (k : ℕ) → 17 < k → drop k (set rows 17 v) ≡ drop k rows
  drop-count k h = drop-set-lt k rows 17 v h

-- ---- a sheet, and the sheet with 0 there

module _ (x : Sheet) where
  pub bare-words : words x.rows ≡ true → words (bare x).rows ≡ true
  unfolding bare with_count
  bare-words w = words-set x.rows 17 w

  pub bare-length : length (bare x).rows ≡ length x.rows
  unfolding bare with_count
  bare-length = length-set x.rows 17 0

  pub bare-row0 : row0_in (bare x) ≡ row0_in x
  unfolding bare with_count row0_of
  bare-row0 = ap row0_from (ten-count x.rows 0)

  pub with_count-bare : with_count (count_in x) (bare x) ≡ x
  unfolding with_count bare count_in
  with_count-bare = ap (λ (l : List ℕ). record { rows = l; names = x.names }) (set-set x.rows 17 0 (get_or x.rows 17 0) ∙ set-get_or x.rows 17 0)

  -- the count set anew
  pub bare-with_count : (c : ℕ) → bare (with_count c x) ≡ bare x
  unfolding bare with_count
  bare-with_count c = ap (λ (l : List ℕ). record { rows = l; names = x.names }) (set-set x.rows 17 c 0)

  pub bare_twice : bare (bare x) ≡ bare x
  unfolding bare
  bare_twice = bare-with_count 0

  pub with_count-twice : (c : ℕ) → with_count c (bare x) ≡ with_count c x
  unfolding with_count bare
  with_count-twice c = ap (λ (l : List ℕ). record { rows = l; names = x.names }) (set-set x.rows 17 0 c)

  pub length-with_count : (c : ℕ) → length (with_count c x).rows ≡ length x.rows
  unfolding with_count
  length-with_count c = length-set x.rows 17 c

  pub count_in-with_count : (c : ℕ) → 17 < length x.rows → count_in (with_count c x) ≡ c
  unfolding count_in with_count
  count_in-with_count c h = get_or-set_same x.rows 17 c 0 h

  -- the state is read from the other numbers
  pub state_of-with_count : (c : ℕ) → state_of (with_count c x) ≡ state_of x
  unfolding state_of
  state_of-with_count c = ap bare_state_of (bare-with_count c)

  -- a good sheet by its two tests
  pub good-bare : good x ≡ true → bare_good (bare x) ≡ true
  unfolding good
  good-bare g = and-true-left (bare_good (bare x)) _ g

  pub good-count : good x ≡ true → count_in x ≡ count_of (state_of x)
  unfolding good
  good-count g = eqb-true (count_in x) (count_of (state_of x)) (and-true-right (bare_good (bare x)) _ g)

  pub good-both : bare_good (bare x) ≡ true → count_in x ≡ count_of (state_of x) → good x ≡ true
  unfolding good
  good-both g c = and-true g (eq-eqb (count_in x) (count_of (state_of x)) c)

-- ---- the sheet of a state

module _ (s : State) (r n : ℕ) where
  -- a of row 1 is 0 in a sheet without its count
  zero-there : get_or (bare_sheet_of s r n).rows 17 0 ≡ 0
  unfolding bare_sheet_of sheet_of_rows filled numbers rows_of pack pack_row namespace_row namespace_a row
  zero-there = refl

  pub bare-sheet_of : bare (sheet_of s r n) ≡ bare_sheet_of s r n
  unfolding bare sheet_of with_count
  bare-sheet_of =
      ap (λ (l : List ℕ). record { rows = l; names = (bare_sheet_of s r n).names })
      (set-set (bare_sheet_of s r n).rows 17 (count_of s) 0 ∙ ap (set (bare_sheet_of s r n).rows 17) (sym zero-there) ∙ set-get_or (bare_sheet_of s r n).rows 17 0)

  -- "Keep that count in row 1 under a": the sheet is the packing of the state's rows with the count there
  pub sheet_of-rows : sheet_of s r n
      ≡ sheet_of_rows (row0_ten (row0 s))
      (row 1 (s.reader.schema.target_namespace ∷ []) (count_of s) 0 0 ∷ (items_rows s.reader.schema.items ++ context_rows s.reader.context)) r n
  unfolding sheet_of with_count bare_sheet_of sheet_of_rows filled numbers rows_of pack pack_row names_of namespace_row namespace_a row
  sheet_of-rows = refl

  pub row0-sheet_of : row0_of (sheet_of s r n) ≡ row0_ten (row0 s)
  unfolding row0_of sheet_of with_count
  row0-sheet_of = ten-count (bare_sheet_of s r n).rows (count_of s) ∙ row0-made s r n

  pub choice-made : (row0_in (sheet_of s r n)).choice ≡ bit s.by_standard
  unfolding row0
  choice-made = rw row0-sheet_of

  pub length-sheet_of : state_fits r n s ≡ true → (length (sheet_of s r n).rows ≡ r) × (length (sheet_of s r n).names ≡ n)
  unfolding sheet_of with_count
  length-sheet_of fit =
      let l = length-bare_sheet_of s r n fit in
      (length-set (bare_sheet_of s r n).rows 17 (count_of s) ∙ l.0, l.1)

  -- the state can be read back
  pub state_of-sheet_of : proper s ≡ true → state_fits r n s ≡ true → state_of (sheet_of s r n) ≡ s
  unfolding state_of
  state_of-sheet_of p f = ap bare_state_of bare-sheet_of ∙ bare_state_of-bare_sheet_of s r n p f

  long : state_fits r n s ≡ true → 17 < length (bare_sheet_of s r n).rows
  unfolding rows_used
  long f = omega (arith, (length-bare_sheet_of s r n f).0, fit-rows s r n f, rows_used-two s)

  pub count-sheet_of : state_fits r n s ≡ true → count_in (sheet_of s r n) ≡ count_of s
  unfolding sheet_of
  count-sheet_of f = count_in-with_count (bare_sheet_of s r n) (count_of s) (long f)

  pub good-sheet_of : proper s ≡ true → state_fits r n s ≡ true → good (sheet_of s r n) ≡ true
  good-sheet_of p f =
      good-both (sheet_of s r n) (rw bare-sheet_of (bare_good-bare_sheet_of s r n p f)) (count-sheet_of f ∙ sym (ap count_of (state_of-sheet_of p f)))

-- under a choice the sheet is the same but for the last number of row 0
pub sheet-chosen : (b : Bool) (s : State) (r n : ℕ) → sheet_of (chosen b s) r n ≡ sheet_chosen b (sheet_of s r n)
unfolding sheet_of with_count bare_sheet_of sheet_of_rows filled numbers row0 rows_used names_used rows_of pack pack_row namespace_row namespace_a row chosen sheet_chosen
sheet-chosen b s r n = refl

-- ---- the state of a good sheet

module _ (x : Sheet) (w : words x.rows ≡ true) (g : good x ≡ true) where
  at-lengths : (P : ℕ → ℕ → Type 0) → P (length (bare x).rows) (length (bare x).names) → P (length x.rows) (length x.names)
  unfolding bare with_count
  at-lengths P p = subst (λ (r : ℕ). P r (length x.names)) (bare-length x) p

  pub proper-state_of : proper (state_of x) ≡ true
  unfolding state_of
  proper-state_of = proper-bare_state_of (bare x) (bare-words x w) (good-bare x g)

  pub fits-state_of : state_fits (length x.rows) (length x.names) (state_of x) ≡ true
  unfolding state_of
  fits-state_of = at-lengths (λ r n. state_fits r n (bare_state_of (bare x)) ≡ true) (fits-bare_state_of (bare x) (bare-words x w) (good-bare x g))

  pub sheet_of-state_of : sheet_of (state_of x) (length x.rows) (length x.names) ≡ x
  unfolding sheet_of state_of
  sheet_of-state_of =
      let e = at-lengths (λ r n. bare_sheet_of (bare_state_of (bare x)) r n ≡ bare x) (bare_sheet_of-bare_state_of (bare x) (bare-words x w) (good-bare x g)) in
      ap₂ with_count (sym (good-count x g)) e ∙ with_count-bare x

-- a sheet of u32 is good exactly if it is the sheet of a proper state in buffers of these lengths
pub good-exactly : (x : Sheet) → words x.rows ≡ true
    → (good x ≡ true) ↔ ((s : State) × (proper s ≡ true) × (state_fits (length x.rows) (length x.names) s ≡ true) × (sheet_of s (length x.rows) (length x.names) ≡ x))
good-exactly x w =
    (λ g. (state_of x, proper-state_of x w g, fits-state_of x w g, sheet_of-state_of x w g), λ h. rw h.3 at (good-sheet_of h.0 (length x.rows) (length x.names) h.1 h.2))

-- a good sheet's choice is its state's
pub choice-again : (x : Sheet) → good x ≡ true → bit (state_of x).by_standard ≡ (row0_in x).choice
unfolding state_of
choice-again x g = bare_choice-again (bare x) (good-bare x g) ∙ ap (λ z. z.choice) (bare-row0 x)
