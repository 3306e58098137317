-- From numbers and names to rows, and back: where the used pairs cover the names, the rows read from them give the same numbers and names again.
-- Assumes nothing.
use mathlib.Core.Path.{◌≡◌, refl, sym, ap, ◌∙◌}
use mathlib.Core.Bool.{Bool, true, false, ◌&&◌}
use mathlib.Core.List.{List, [], ◌∷◌, ◌++◌, map, append_assoc}
use Prim.Native.Nat.{ℕ, zero, suc, ◌+◌, ◌≤◌}
use native.Mathlib.Omega.{arith}
use lib.Dec.{eqb, leb}
use lib.ListN.{length, take, drop, length-take, length-drop, take-append-drop}
use lib.Seq.{drop-drop}
use borrow.Author.Tests.{eqb-true, leb-true, eq-eqb}
use Rattle.text.specs.Text.{every, join}
use Rattle.text.proofs.Laws.Tests.{three, and-true-left, and-true-right, and-true}
use Rattle.sheet.specs.Rows.{Ten, Pairs, pairs, pack_row, pack, names_of, text_at, unpack_row}
use Rattle.sheet.specs.Form.{pair_form, row_covers, end_of, covers, covered, texts_counted}
use Rattle.sheet.proofs.Laws.Packs.{counted-small, texts_at, end_of-pack}
use Rattle.text.proofs.Laws.Every.{every-head, every-tail}

-- a row of numbers uses at most three pairs
unfoldable pub few : (ℕ → ℕ → ℕ) → Ten → Bool
few used t = leb (used t.tag t.a) 3

unfoldable pub pairs_of : Ten → Pairs
pairs_of t = record { at0 = t.at0; len0 = t.len0; at1 = t.at1; len1 = t.len1; at2 = t.at2; len2 = t.len2 }

-- u pairs are used, and they cover the names from k
unfoldable pub pairs_cover : ℕ → ℕ → Pairs → Bool
pairs_cover u k p = pair_form (leb 1 u) k p.at0 p.len0 && pair_form (leb 2 u) (k + p.len0) p.at1 p.len1 && pair_form (leb 3 u) (k + p.len0 + p.len1) p.at2 p.len2

pub covered-from : (k : ℕ) (ts : List Ten) → k ≤ covered k ts
unfolding covered end_of
covered-from k [] = omega arith
covered-from k (t ∷ ts) = omega (arith, covered-from (k + t.len0 + t.len1 + t.len2) ts)

pub length-text_at : (names : List ℕ) (at len : ℕ) → at + len ≤ length names → length (text_at names at len) ≡ len
unfolding text_at
length-text_at names at len h = simp (length-take, length-drop) (omega arith)

-- a used pair starts at k, an unused one is 0 0
pub pair-used : (k at len : ℕ) → pair_form true k at len ≡ true → at ≡ k
unfolding pair_form
pair-used k at len e = eqb-true at k e

pub pair-unused : (k at len : ℕ) → pair_form false k at len ≡ true → (at ≡ 0) × (len ≡ 0)
unfolding pair_form
pair-unused k at len e = (eqb-true at 0 (and-true-left (eqb at 0) (eqb len 0) e), eqb-true len 0 (and-true-right (eqb at 0) (eqb len 0) e))

module _ (u k : ℕ) (p : Pairs) (e : pairs_cover u k p ≡ true) where
  pub cover-parts : (pair_form (leb 1 u) k p.at0 p.len0 ≡ true) × (pair_form (leb 2 u) (k + p.len0) p.at1 p.len1 ≡ true)
      × (pair_form (leb 3 u) (k + p.len0 + p.len1) p.at2 p.len2 ≡ true)
  unfolding pairs_cover
  cover-parts = three (pair_form (leb 1 u) k p.at0 p.len0) (pair_form (leb 2 u) (k + p.len0) p.at1 p.len1) (pair_form (leb 3 u) (k + p.len0 + p.len1) p.at2 p.len2) e

pub text-then : (names : List ℕ) (k at len next : ℕ) → at ≡ k → next ≡ k + len → drop k names ≡ text_at names at len ++ drop next names
unfolding text_at
text-then names k at len next s e = rw (s, e, ← drop-drop len k names) (sym (take-append-drop len (drop k names)))

-- what the pairs are where none, one, two or all three are used
module _ (k : ℕ) (p : Pairs) where
  used-none : pairs_cover 0 k p ≡ true → ((p.at0 ≡ 0) × (p.len0 ≡ 0)) × ((p.at1 ≡ 0) × (p.len1 ≡ 0)) × ((p.at2 ≡ 0) × (p.len2 ≡ 0))
  used-none e = let w = cover-parts 0 k p e in (pair-unused _ _ _ w.0, pair-unused _ _ _ w.1, pair-unused _ _ _ w.2)

  used-one : pairs_cover 1 k p ≡ true → (p.at0 ≡ k) × ((p.at1 ≡ 0) × (p.len1 ≡ 0)) × ((p.at2 ≡ 0) × (p.len2 ≡ 0))
  used-one e = let w = cover-parts 1 k p e in (pair-used _ _ _ w.0, pair-unused _ _ _ w.1, pair-unused _ _ _ w.2)

  used-two : pairs_cover 2 k p ≡ true → (p.at0 ≡ k) × (p.at1 ≡ k + p.len0) × ((p.at2 ≡ 0) × (p.len2 ≡ 0))
  used-two e = let w = cover-parts 2 k p e in (pair-used _ _ _ w.0, pair-used _ _ _ w.1, pair-unused _ _ _ w.2)

  used-three : pairs_cover 3 k p ≡ true → (p.at0 ≡ k) × (p.at1 ≡ k + p.len0) × (p.at2 ≡ k + p.len0 + p.len1)
  used-three e = let w = cover-parts 3 k p e in (pair-used _ _ _ w.0, pair-used _ _ _ w.1, pair-used _ _ _ w.2)

-- the names from k are the texts of the pairs, and then the names from their end
module _ (names : List ℕ) (k : ℕ) (p : Pairs) where
  cover-none : pairs_cover 0 k p ≡ true → drop k names ≡ drop (k + p.len0 + p.len1 + p.len2) names
  cover-none e =
      let c = used-none k p e in
      let same : k + p.len0 + p.len1 + p.len2 ≡ k = omega arith in
      rw same

  cover_one : pairs_cover 1 k p ≡ true → drop k names ≡ text_at names p.at0 p.len0 ++ drop (k + p.len0 + p.len1 + p.len2) names
  cover_one e =
      let c = used-one k p e in
      text-then names k p.at0 p.len0 (k + p.len0 + p.len1 + p.len2) c.0 (omega arith)

  cover-two : pairs_cover 2 k p ≡ true → drop k names ≡ text_at names p.at0 p.len0 ++ (text_at names p.at1 p.len1 ++ drop (k + p.len0 + p.len1 + p.len2) names)
  cover-two e =
      let c = used-two k p e in
      let t₁ = text-then names (k + p.len0) p.at1 p.len1 (k + p.len0 + p.len1 + p.len2) c.1 (omega arith) in
      text-then names k p.at0 p.len0 (k + p.len0) c.0 refl ∙ ap (λ (l : List ℕ). text_at names p.at0 p.len0 ++ l) t₁

  cover-three : pairs_cover 3 k p ≡ true
      → drop k names ≡ text_at names p.at0 p.len0
      ++ (text_at names p.at1 p.len1 ++ (text_at names p.at2 p.len2 ++ drop (k + p.len0 + p.len1 + p.len2) names))
  cover-three e =
      let c = used-three k p e in
      let t₁ = text-then names (k + p.len0) p.at1 p.len1 (k + p.len0 + p.len1) c.1 refl in
      let t₂ = text-then names (k + p.len0 + p.len1) p.at2 p.len2 (k + p.len0 + p.len1 + p.len2) c.2 refl in
      text-then names k p.at0 p.len0 (k + p.len0) c.0 refl ∙ ap (λ (l : List ℕ). text_at names p.at0 p.len0 ++ l) (t₁ ∙ ap (λ (l : List ℕ). text_at names p.at1 p.len1 ++ l) t₂)

  pub texts-cover : (u : ℕ) → u ≤ 3 → pairs_cover u k p ≡ true → drop k names ≡ join (take u (texts_at names p)) ++ drop (k + p.len0 + p.len1 + p.len2) names
  unfolding texts_at join
  texts-cover zero h e = cover-none e
  texts-cover (suc zero) h e = simp append_assoc (cover_one e)
  texts-cover (suc (suc zero)) h e = simp append_assoc (cover-two e)
  texts-cover (suc (suc (suc zero))) h e = simp append_assoc (cover-three e)
  texts-cover (suc (suc (suc (suc u)))) h e = absurd (omega arith)

-- the texts' pairs are the pairs again
module _ (names : List ℕ) (k : ℕ) (p : Pairs) (n : k + p.len0 + p.len1 + p.len2 ≤ length names) where
  again-none : pairs_cover 0 k p ≡ true → pairs k [] ≡ p
  unfolding pairs
  again-none e =
      let c = used-none k p e in
      λ i. record { at0 = sym c.0.0 i; len0 = sym c.0.1 i; at1 = sym c.1.0 i; len1 = sym c.1.1 i; at2 = sym c.2.0 i; len2 = sym c.2.1 i }

  again-one : pairs_cover 1 k p ≡ true → pairs k (text_at names p.at0 p.len0 ∷ []) ≡ p
  unfolding pairs
  again-one e =
      let c = used-one k p e in
      let l₀ = length-text_at names p.at0 p.len0 (omega arith) in
      λ i. record { at0 = sym c.0 i; len0 = l₀ i; at1 = sym c.1.0 i; len1 = sym c.1.1 i; at2 = sym c.2.0 i; len2 = sym c.2.1 i }

  again_two : pairs_cover 2 k p ≡ true → pairs k (text_at names p.at0 p.len0 ∷ text_at names p.at1 p.len1 ∷ []) ≡ p
  unfolding pairs
  again_two e =
      let c = used-two k p e in
      let l₀ = length-text_at names p.at0 p.len0 (omega arith) in
      let l₁ = length-text_at names p.at1 p.len1 (omega arith) in
      let a₁ : k + length (text_at names p.at0 p.len0) ≡ p.at1 = omega arith in
      λ i. record { at0 = sym c.0 i; len0 = l₀ i; at1 = a₁ i; len1 = l₁ i; at2 = sym c.2.0 i; len2 = sym c.2.1 i }

  again-three : pairs_cover 3 k p ≡ true → pairs k (texts_at names p) ≡ p
  unfolding pairs texts_at
  again-three e =
      let c = used-three k p e in
      let l₀ = length-text_at names p.at0 p.len0 (omega arith) in
      let l₁ = length-text_at names p.at1 p.len1 (omega arith) in
      let l₂ = length-text_at names p.at2 p.len2 (omega arith) in
      let a₁ : k + length (text_at names p.at0 p.len0) ≡ p.at1 = omega arith in
      let a₂ : k + length (text_at names p.at0 p.len0) + length (text_at names p.at1 p.len1) ≡ p.at2 = omega arith in
      λ i. record { at0 = sym c.0 i; len0 = l₀ i; at1 = a₁ i; len1 = l₁ i; at2 = a₂ i; len2 = l₂ i }

  pub pairs-again : (u : ℕ) → u ≤ 3 → pairs_cover u k p ≡ true → pairs k (take u (texts_at names p)) ≡ p
  unfolding texts_at pairs
  pairs-again zero h e = again-none e
  pairs-again (suc zero) h e = again-one e
  pairs-again (suc (suc zero)) h e = again_two e
  pairs-again (suc (suc (suc zero))) h e = again-three e
  pairs-again (suc (suc (suc (suc u)))) h e = absurd (omega arith)

module _ (used : ℕ → ℕ → ℕ) where
  pub few-used : (t : Ten) → few used t ≡ true → used t.tag t.a ≤ 3
  unfolding few
  few-used t e = leb-true (used t.tag t.a) 3 e

  pub row_covers-pairs : (k : ℕ) (t : Ten) → row_covers used k t ≡ true → pairs_cover (used t.tag t.a) k (pairs_of t) ≡ true
  unfolding row_covers pairs_cover pairs_of
  row_covers-pairs k t e = e

  pub row-again : (names : List ℕ) (k : ℕ) (t : Ten) → few used t ≡ true → row_covers used k t ≡ true → end_of k t ≤ length names → pack_row k (unpack_row used names t) ≡ t
  unfolding pack_row unpack_row texts_at pairs_of end_of
  row-again names k t f e n =
      let p : pairs k (take (used t.tag t.a) (texts_at names (pairs_of t))) ≡ pairs_of t = pairs-again names k (pairs_of t) n (used t.tag t.a) (few-used t f) (row_covers-pairs k t e) in
      λ i. record { tag = t.tag; at0 = (p i).at0; len0 = (p i).len0; at1 = (p i).at1; len1 = (p i).len1; at2 = (p i).at2; len2 = (p i).len2; a = t.a; b = t.b; c = t.c }

  pub names-row : (names : List ℕ) (k : ℕ) (t : Ten) → few used t ≡ true → row_covers used k t ≡ true → drop k names ≡ join (unpack_row used names t).texts ++ drop (end_of k t) names
  unfolding unpack_row texts_at pairs_of end_of
  names-row names k t f e = texts-cover names k (pairs_of t) (used t.tag t.a) (few-used t f) (row_covers-pairs k t e)

  pub names-again : (names : List ℕ) (k : ℕ) (ts : List Ten) → every (few used) ts ≡ true → covers used k ts ≡ true
      → drop k names ≡ names_of (map (unpack_row used names) ts) ++ drop (covered k ts) names
  unfolding covers covered names_of
  names-again names k [] f e = refl
  names-again names k (t ∷ ts) f e =
      let first = names-row names k t (every-head (few used) t ts f) (and-true-left (row_covers used k t) (covers used (end_of k t) ts) e) in
      let rest = names-again names (end_of k t) ts (every-tail (few used) t ts f) (and-true-right (row_covers used k t) (covers used (end_of k t) ts) e) in
      first ∙ ap (λ (l : List ℕ). join (unpack_row used names t).texts ++ l) rest
      ∙ sym (append_assoc (join (unpack_row used names t).texts) (names_of (map (unpack_row used names) ts)) (drop (covered (end_of k t) ts) names))

  pub counted-unpack : (names : List ℕ) (t : Ten) → few used t ≡ true → texts_counted used (unpack_row used names t) ≡ true
  unfolding texts_counted unpack_row few
  counted-unpack names t f =
      let some = few-used t f in
      let l : length (take (used t.tag t.a) (text_at names t.at0 t.len0 ∷ text_at names t.at1 t.len1 ∷ text_at names t.at2 t.len2 ∷ []))
      ≡ used t.tag t.a = simp length-take (omega arith) in
      rw l (and-true (eq-eqb (used t.tag t.a) (used t.tag t.a) refl) f)

  pub rows-again : (names : List ℕ) (k : ℕ) (ts : List Ten) → every (few used) ts ≡ true → covers used k ts ≡ true → covered k ts ≤ length names → pack k (map (unpack_row used names) ts) ≡ ts
  unfolding covers covered pack
  rows-again names k [] f e n = refl
  rows-again names k (t ∷ ts) f e n =
      let f₀ = every-head (few used) t ts f in
      let first = row-again names k t f₀ (and-true-left (row_covers used k t) (covers used (end_of k t) ts) e) (omega (arith, covered-from (end_of k t) ts)) in
      let r = unpack_row used names t in
      let next : k + length (join r.texts) ≡ end_of k t = sym (end_of-pack k r (counted-small used r (counted-unpack names t f₀))) ∙ ap (end_of k) first in
      rw (first, next, rows-again names (end_of k t) ts (every-tail (few used) t ts f) (and-true-right (row_covers used k t) (covers used (end_of k t) ts) e) n)
