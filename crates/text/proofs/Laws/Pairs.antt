-- Laws of `text_by` (specs/Text.antt), for any rule that says which two bytes are a character. Assumes nothing.
use Rattle.std.specs.Prelude.{if◌then◌else◌}
use mathlib.Core.Path.{◌≡◌, refl, sym, ap, ◌∙◌}
use mathlib.Core.Bool.{Bool, true, false, ◌&&◌, false≢true}
use mathlib.Core.List.{List, [], ◌∷◌, ◌++◌}
use Prim.Native.Nat.{ℕ, ◌≤◌}
use native.Mathlib.Omega.{arith}
use lib.Dec.{eqb}
use borrow.Author.Tests.{eqb-true, ne_eqb, le-ltb}
use Rattle.std.specs.List.{fold}
use Rattle.text.specs.Text.{Text, every, join, is_plain_byte, is_plain, text_by, lead_after}
use Rattle.text.proofs.Laws.Every.{every-head, every-tail}
use Rattle.text.proofs.Laws.Tests.{and-true-left, and-true-right, bool_cases}

module _ (pair : ℕ → ℕ → Bool) where
  pub by-plain : (s : Text) → is_plain s ≡ true → text_by pair 0 s ≡ true
  unfolding text_by is_plain every
  by-plain [] e = refl
  by-plain (b ∷ s) e = rw (and-true-left (is_plain_byte b) (every is_plain_byte s) e) (by-plain s (and-true-right (is_plain_byte b) (every is_plain_byte s) e))

  pub by-append : (x y : Text) (lead : ℕ) → text_by pair lead x ≡ true → text_by pair lead (x ++ y) ≡ text_by pair 0 y
  unfolding text_by
  by-append [] y lead e = ap (λ (l : ℕ). text_by pair l y) (eqb-true lead 0 e)
  by-append (b ∷ x) y lead e =
      bool_cases (eqb lead 0)
      (λ z. rw z (by-append x y (if is_plain_byte b then 0 else b) (rw z at e)))
      (λ z. let h : pair lead b && text_by pair 0 x ≡ true = rw z at e in
      rw (z, and-true-left (pair lead b) (text_by pair 0 x) h) (by-append x y 0 (and-true-right (pair lead b) (text_by pair 0 x) h)))

  pub by-join : (ts : List Text) → every (text_by pair 0) ts ≡ true → text_by pair 0 (join ts) ≡ true
  unfolding join text_by
  by-join [] e = refl
  by-join (t ∷ ts) e = by-append t (join ts) 0 (every-head (text_by pair 0) t ts e) ∙ by-join ts (every-tail (text_by pair 0) t ts e)

  -- where no second byte of a character is a first one, a text is cut in front of a text only
  module _ (apart : (l b u : ℕ) → pair l b ≡ true → (128 ≤ b) × (pair b u ≡ false)) where
    no-tail : (lead : ℕ) (y : Text) → text_by pair lead y ≡ true → text_by pair 0 y ≡ true → eqb lead 0 ≡ true
    unfolding text_by is_plain_byte
    no-tail lead [] e h = e
    no-tail lead (b ∷ y) e h =
        bool_cases (eqb lead 0) (λ z. z)
        (λ z. let k : pair lead b && text_by pair 0 y ≡ true = rw z at e in
        let g = apart lead b in
        let o = and-true-left (pair lead b) (text_by pair 0 y) k in
        absurd (behind b y (g 0 o).0 (λ u. (g u o).1) (rw (le-ltb b 128 (g 0 o).0) at h)))
      where
        behind : (b : ℕ) (y : Text) → 128 ≤ b → ((u : ℕ) → pair b u ≡ false) → text_by pair b y ≡ true → ⊥
        behind b [] l n w = false≢true (sym (ne_eqb b 0 (λ v. omega (arith, v, l))) ∙ w)
        behind b (u ∷ y) l n w = false≢true (rw (ne_eqb b 0 (λ v. omega (arith, v, l)), n u) at w)

    pub by-cut : (x y : Text) (lead : ℕ) → text_by pair lead (x ++ y) ≡ true → text_by pair 0 y ≡ true → text_by pair lead x ≡ true
    unfolding text_by
    by-cut [] y lead e h = no-tail lead y e h
    by-cut (b ∷ x) y lead e h =
        bool_cases (eqb lead 0)
        (λ z. rw z (by-cut x y (if is_plain_byte b then 0 else b) (rw z at e) h))
        (λ z. let k : pair lead b && text_by pair 0 (x ++ y) ≡ true = rw z at e in
        rw (z, and-true-left (pair lead b) (text_by pair 0 (x ++ y)) k) (by-cut x y 0 (and-true-right (pair lead b) (text_by pair 0 (x ++ y)) k) h))

  -- behind 255 no text goes on, where no character begins with it
  module _ (none : (b : ℕ) → pair 255 b ≡ false) where
    by-none : (s : Text) → text_by pair 255 s ≡ false
    unfolding text_by
    by-none [] = refl
    by-none (b ∷ s) = rw (none b)

    pub by-step : (lead b : ℕ) (s : Text) → text_by pair lead (b ∷ s) ≡ text_by pair (lead_after pair lead b) s
    unfolding text_by lead_after
    by-step lead b s =
        bool_cases (eqb lead 0) (λ z. rw z)
        (λ z. rw z (bool_cases (pair lead b) (λ k. rw k) (λ k. rw k (sym (by-none s)))))

    -- the byte that waits at the end
    pub by-fold : (s : Text) (lead : ℕ) → eqb (fold (lead_after pair) lead s) 0 ≡ text_by pair lead s
    unfolding text_by
    by-fold [] lead = refl
    by-fold (b ∷ s) lead = by-fold s (lead_after pair lead b) ∙ sym (by-step lead b s)

-- a text by one rule is a text by a wider one
pub by-wider : (p q : ℕ → ℕ → Bool) → ((l b : ℕ) → p l b ≡ true → q l b ≡ true) → (s : Text) (lead : ℕ) → text_by p lead s ≡ true → text_by q lead s ≡ true
unfolding text_by
by-wider p q w [] lead e = e
by-wider p q w (b ∷ s) lead e =
    bool_cases (eqb lead 0)
    (λ z. rw z (by-wider p q w s (if is_plain_byte b then 0 else b) (rw z at e)))
    (λ z. let k : p lead b && text_by p 0 s ≡ true = rw z at e in
    rw (z, w lead b (and-true-left (p lead b) (text_by p 0 s) k)) (by-wider p q w s 0 (and-true-right (p lead b) (text_by p 0 s) k)))
