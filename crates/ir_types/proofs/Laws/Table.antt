-- Every label comes under one case of the table: the call's tests are taken apart one by one, and which number they give is known already. Assumes nothing.
use Rattle.std.specs.Prelude.{if◌then◌else◌}
use Prim.Native.Nat.{ℕ, ◌+◌, ◌*◌, ◌%◌}
use mathlib.Core.Path.{◌≡◌, refl, sym, ◌∙◌, ap}
use mathlib.Core.Logic.{⊎_elim}
use mathlib.Core.Bool.{Bool, true, false, ◌&&◌}
use mathlib.Core.List.{List}
use native.Mathlib.Omega.{arith}
use lib.Dec.{eqb, leb, ltb}
use lib.ListN.{length}
use borrow.Author.Tests.{eqb-true, eqb-false}
use Rattle.ir_types.specs.Label.{Labelled, no_label, good_words, row_ten, has_reference, reference_at, reference_length, named_label, word_label, row_label, label}
use Rattle.ir_types.specs.Refuses.{refuses}
use Rattle.ir_types.specs.Table.{LabelTable}
use Rattle.ir_types.proofs.Laws.Label.{reference-bound}
use Rattle.ir_types.proofs.Laws.Refuses.{label-number-exactly}
use Rattle.std.proofs.lemmas.Bool.{cases_Bool}
use Rattle.text.proofs.Laws.Tests.{if-cases}

-- a test by the number that it gives
refuses-by : (b : Bool) → ◌≡◌ {A = ℕ} (if b then 16 else 0) 16 → b ≡ true
refuses-by true e = refl
refuses-by false e = absurd (omega arith)

accepts-by : (b : Bool) → ◌≡◌ {A = ℕ} (if b then 16 else 0) 0 → b ≡ false
accepts-by true e = absurd (omega arith)
accepts-by false e = refl

module _ (rows names words : List ℕ) (k : ℕ) where
  refused-so : (l : Labelled) → label rows names words k ≡ l → l ≡ no_label → LabelTable rows names words k l
  unfolding no_label
  refused-so l e n = LabelTable.refused (refuses-by _ (sym (label-number-exactly rows names words k) ∙ ap (λ (x : Labelled). x.number) (e ∙ n))) n

  accepted-so : (l : Labelled) → label rows names words k ≡ l → l.number ≡ 0 → refuses rows names words k ≡ false
  accepted-so l e n = accepts-by _ (sym (label-number-exactly rows names words k) ∙ ap (λ (x : Labelled). x.number) e ∙ n)

  named-so : label rows names words k ≡ named_label names (reference_at (row_ten rows k)) (reference_length (row_ten rows k)) → (row_ten rows k).a ≡ 0
      → LabelTable rows names words k (named_label names (reference_at (row_ten rows k)) (reference_length (row_ten rows k)))
  unfolding named_label
  named-so e a =
      if-cases (λ (l : Labelled). label rows names words k ≡ l → LabelTable rows names words k l)
      (leb (reference_at (row_ten rows k) + reference_length (row_ten rows k)) (length names))
      (λ h q. LabelTable.named (accepted-so _ q refl) a refl) (λ h q. refused-so _ q refl) e

  word-so : label rows names words k ≡ word_label words (row_ten rows k).a → has_reference (row_ten rows k) ≡ true → ((row_ten rows k).a ≡ 0 → ⊥)
      → LabelTable rows names words k (word_label words (row_ten rows k).a)
  unfolding word_label
  word-so e h z =
      if-cases (λ (l : Labelled). label rows names words k ≡ l → LabelTable rows names words k l) (good_words words)
      (λ g q. LabelTable.word (accepted-so _ q refl) (omega arith) (reference-bound (row_ten rows k) h) refl) (λ g q. refused-so _ q refl) e

  row-so : label rows names words k ≡ row_label names words (row_ten rows k) → LabelTable rows names words k (row_label names words (row_ten rows k))
  unfolding row_label
  row-so e =
      if-cases (λ (l : Labelled). label rows names words k ≡ l → LabelTable rows names words k l) (has_reference (row_ten rows k))
      (λ h. if-cases (λ (l : Labelled). label rows names words k ≡ l → LabelTable rows names words k l) (eqb (row_ten rows k).a 0)
      (λ z q. named-so q (eqb-true _ 0 z)) (λ z q. word-so q h (eqb-false _ 0 z)))
      (λ h q. refused-so _ q refl) e

  label-row : eqb (length rows % 10) 0 && ltb (10 * k) (length rows) ≡ true → label rows names words k ≡ row_label names words (row_ten rows k)
  unfolding label
  label-row h = rw h

  label-none : eqb (length rows % 10) 0 && ltb (10 * k) (length rows) ≡ false → label rows names words k ≡ no_label
  unfolding label
  label-none h = rw h

  pub label-table : LabelTable rows names words k (label rows names words k)
  label-table =
      ⊎_elim (λ h. rw (label-row h) (row-so (label-row h))) (λ h. rw (label-none h) (refused-so _ (label-none h) refl))
      (cases_Bool (eqb (length rows % 10) 0 && ltb (10 * k) (length rows)))
