-- Bytes that are passed over eight at a time change nothing that goes on byte by byte (plain_bytes, specs/Scan.antt). Assumes nothing.
use Prim.Native.Nat.{ℕ, zero, suc, ◌+◌, ◌-◌, ◌≤◌, ◌<◌}
use mathlib.Core.Path.{◌≡◌, sym, ap, ◌∙◌}
use mathlib.Core.Bool.{Bool, true, false≢true}
use native.Mathlib.Omega.{arith}
use borrow.Author.Tests.{eq-eqb}
use lib.ListN.{length, get_or, take, drop}
use Rattle.std.proofs.lemmas.List.{get_or-take, get_or-drop}
use Rattle.text.specs.Text.{Text}
use Rattle.plain_bytes.specs.Scan.{Skips}
use Rattle.xml.specs.Steps.{many, until}
use Rattle.xml_parts.specs.Answers.{Before}
use Rattle.xml.proofs.Laws.Steps.{many-on, until-on, starts-differ}

-- what stands the same at each place up to another stands the same there
over : {A : Type 0} (f : ℕ → A) (n at : ℕ) → ((k : ℕ) → at ≤ k → k < at + n → f k ≡ f (suc k)) → f at ≡ f (at + n)
over f zero at h = ap f (omega arith)
over f (suc n) at h = h at (omega arith) (omega arith) ∙ over f n (suc at) (λ k a b. h k (omega arith) (omega arith)) ∙ ap f (omega arith)

-- bytes that are passed over eight at a time
module _ {q : ℕ → Bool} {s : Text} {at r : ℕ} (u : Skips q s at r) where
  over-all : {A : Type 0} (f : ℕ → A) → ((k : ℕ) → k < length s → q (get_or s k 0) ≡ true → f k ≡ f (suc k)) → f r ≡ f at
  over-all f h =
      let e : at + (r - at) ≡ r = omega (arith, u.from) in
      ap f (sym e) ∙ sym (over f (r - at) at (λ k a b. let i = u.all k a (omega arith) in h k i.0 i.1))

  pub many-over : (p : ℕ → Bool) → ((b : ℕ) → q b ≡ true → p b ≡ true) → many p r (drop r s) ≡ many p at (drop at s)
  many-over p h = over-all (λ (k : ℕ). many p k (drop k s)) (λ k i e. many-on p s k k i (h (get_or s k 0) e))

  pub until-over : (word : Text) → Before q word → until word r (drop r s) ≡ until word at (drop at s)
  until-over word h =
      over-all (λ (k : ℕ). until word k (drop k s))
      (λ k i e. let d = h.others (get_or s k 0) e in
      until-on word s k k i (starts-differ word s 0 k h.some i (λ t. false≢true (sym d ∙ eq-eqb _ _ t))) (h.chars (get_or s k 0) e))

-- the first bytes of a part are of a class
pub part-skips : (q : ℕ → Bool) (s : Text) (i n m : ℕ) → i + n ≤ length s → m ≤ n → ((k : ℕ) → k < m → q (get_or (take n (drop i s)) k 0) ≡ true) → Skips q s i (i + m)
part-skips q s i n m fits l h = record {
  from = omega arith;
  all = λ k a b.
      let e : i + (k - i) ≡ k = omega arith in
      let f = get_or-take n (drop i s) (k - i) 0 (omega arith) ∙ get_or-drop i s (k - i) 0 in
      (omega arith, ap (λ (j : ℕ). q (get_or s j 0)) (sym e) ∙ ap q (sym f) ∙ h (k - i) (omega arith));
}
