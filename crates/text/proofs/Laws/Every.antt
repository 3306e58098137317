-- Laws of `every` and of ranges (specs/Text.antt). Assumes nothing.
use mathlib.Core.Path.{◌≡◌, refl, sym, ap, ◌∙◌}
use mathlib.Core.Logic.{◌⊎◌, inl, inr, ⊎_elim}
use mathlib.Core.Bool.{Bool, true, false, ◌&&◌, and_assoc}
use mathlib.Core.List.{List, [], ◌∷◌, ◌++◌, map}
use Prim.Native.Nat.{ℕ, zero, suc, ◌+◌, ◌≤◌, ◌<◌}
use native.Mathlib.Omega.{arith}
use lib.Dec.{eqb, leb}
use lib.ListN.{length, get_or, take, drop, take-append-drop}
use borrow.Author.Tests.{le-leb, eqb-true, eqb-false}
use Rattle.text.specs.Text.{every, between}
use Rattle.std.proofs.lemmas.Bool.{cases_Bool}
use Rattle.text.proofs.Laws.Tests.{and-true-left, and-true-right, and-true}
use Rattle.text.proofs.Laws.Texts.{between-low, between-high}

module _ {A : Type 0} (p : A → Bool) where
  pub every-head : (x : A) (xs : List A) → every p (x ∷ xs) ≡ true → p x ≡ true
  unfolding every
  every-head x xs e = and-true-left (p x) (every p xs) e

  pub every-tail : (x : A) (xs : List A) → every p (x ∷ xs) ≡ true → every p xs ≡ true
  unfolding every
  every-tail x xs e = and-true-right (p x) (every p xs) e

  pub every-cons : (x : A) (xs : List A) → p x ≡ true → every p xs ≡ true → every p (x ∷ xs) ≡ true
  unfolding every
  every-cons x xs h t = and-true h t

  pub every_append : (xs ys : List A) → every p (xs ++ ys) ≡ every p xs && every p ys
  unfolding every
  every_append [] ys = refl
  every_append (x ∷ xs) ys = rw (every_append xs ys) (sym (and_assoc (p x) (every p xs) (every p ys)))

  pub every-get_d : (d : A) → p d ≡ true → (xs : List A) (i : ℕ) → every p xs ≡ true → p (get_or xs i d) ≡ true
  every-get_d d h [] i e = h
  every-get_d d h (x ∷ xs) zero e = every-head x xs e
  every-get_d d h (x ∷ xs) (suc i) e = every-get_d d h xs i (every-tail x xs e)

  pub every_drop : (i : ℕ) (xs : List A) → every p xs ≡ true → every p (drop i xs) ≡ true
  every_drop zero xs e = e
  every_drop (suc i) [] e = e
  every_drop (suc i) (x ∷ xs) e = every_drop i xs (every-tail x xs e)

  pub every_take : (n : ℕ) (xs : List A) → every p xs ≡ true → every p (take n xs) ≡ true
  every_take n xs e = and-true-left (every p (take n xs)) _ (sym (every_append (take n xs) (drop n xs)) ∙ ap (every p) (take-append-drop n xs) ∙ e)

  -- what every element of a list passes, the element at an index passes
  pub every-at : (d : A) (xs : List A) (i : ℕ) → every p xs ≡ true → i < length xs → p (get_or xs i d) ≡ true
  every-at d [] i e h = absurd (omega arith)
  every-at d (x ∷ xs) zero e h = every-head x xs e
  every-at d (x ∷ xs) (suc i) e h = every-at d xs i (every-tail x xs e) (omega arith)

pub every-append-true : {A : Type 0} (p : A → Bool) (xs ys : List A) → every p xs ≡ true → every p ys ≡ true → every p (xs ++ ys) ≡ true
every-append-true p xs ys h k = every_append p xs ys ∙ and-true h k

pub every-one-more : {A : Type 0} (p : A → Bool) (xs : List A) (x : A) → every p xs ≡ true → p x ≡ true → every p (xs ++ x ∷ []) ≡ true
unfolding every
every-one-more p xs x e h = every-append-true p xs (x ∷ []) e (and-true h refl)

-- elements that pass q are taken to elements that pass p
pub every_map : {A B : Type 0} (q : A → Bool) (p : B → Bool) (f : A → B) → ((x : A) → q x ≡ true → p (f x) ≡ true) → (xs : List A) → every q xs ≡ true → every p (map f xs) ≡ true
unfolding every
every_map q p f step [] e = refl
every_map q p f step (x ∷ xs) e = and-true (step x (every-head q x xs e)) (every_map q p f step xs (every-tail q x xs e))

pub every-weaken : {A : Type 0} (q p : A → Bool) → ((x : A) → q x ≡ true → p x ≡ true) → (xs : List A) → every q xs ≡ true → every p xs ≡ true
unfolding every
every-weaken q p step [] e = refl
every-weaken q p step (x ∷ xs) e = and-true (step x (every-head q x xs e)) (every-weaken q p step xs (every-tail q x xs e))

pub every-both : {A : Type 0} (p q r : A → Bool) → ((x : A) → p x ≡ true → q x ≡ true → r x ≡ true) → (xs : List A) → every p xs ≡ true → every q xs ≡ true → every r xs ≡ true
unfolding every
every-both p q r step [] e f = refl
every-both p q r step (x ∷ xs) e f =
    and-true (step x (every-head p x xs e) (every-head q x xs f)) (every-both p q r step xs (every-tail p x xs e) (every-tail q x xs f))

-- a number of a range is its first or one of the rest
between_split : (low high b : ℕ) → between low high b ≡ true → (b ≡ low) ⊎ (between (suc low) high b ≡ true)
unfolding between
between_split low high b e = go (cases_Bool (eqb b low))
  where
    go : (eqb b low ≡ true) ⊎ (eqb b low ≡ false) → (b ≡ low) ⊎ (leb (suc low) b && leb b high ≡ true)
    go (inl h) = inl (eqb-true b low h)
    go (inr h) =
        let more : suc low ≤ b = omega (arith, eqb-false b low h, between-low low high b e) in
        inr (and-true (le-leb (suc low) b more) (le-leb b high (between-high low high b e)))

between_none : (low high b : ℕ) → high < low → between low high b ≡ true → ⊥
between_none low high b h e = omega (arith, between-low low high b e, between-high low high b e)

-- P holds of the n + 1 numbers from low on
unfoldable pub EachFrom : (ℕ → Type 0) → ℕ → ℕ → Type 0
EachFrom P low zero = P low
EachFrom P low (suc n) = P low × EachFrom P (suc low) n

-- what holds of each number of a range holds of a number in it
pub between-each : (P : ℕ → Type 0) (low n high b : ℕ) → high ≡ low + n → EachFrom P low n → between low high b ≡ true → P b
unfolding EachFrom
between-each P low zero high b h p e = ⊎_elim (λ w. rw w p) (λ w. absurd (between_none (suc low) high b (omega (arith, h)) w)) (between_split low high b e)
between-each P low (suc n) high b h (p, q) e = ⊎_elim (λ w. rw w p) (between-each P (suc low) n high b (omega (arith, h)) q) (between_split low high b e)
