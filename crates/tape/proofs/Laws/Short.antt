-- Two texts of one length told apart by their first and their last k bytes, which may overlap. No contract cites them. Assumes nothing.
use Rattle.std.proofs.Common.{◌≡◌, ℕ, zero, suc, ◌+◌, ◌-◌, ◌*◌, ◌≤◌, ◌<◌, List, [], ◌∷◌, ◌++◌, length, get_or, take, drop, nat_eq}
use Rattle.std.proofs.Common.{sym, ap, ◌∙◌, arith, take-append-drop, length-drop}
use Rattle.std.proofs.lemmas.List.{drop-drop, take_all, get_or-drop}
use Rattle.text.specs.Text.{Text, same}
use Rattle.text.proofs.Laws.Tests.{bool_cases}
use Rattle.text.proofs.Laws.Texts.{same_refl, same-differ}
use borrow.Author.Tests.{eqb-true, eqb-false, ne_eqb}

-- bytes cut out of bytes
front-small : (s : Text) (n : ℕ) → ((i : ℕ) → get_or s i 0 < 256) → (i : ℕ) → get_or (take n s) i 0 < 256
front-small s zero h i = omega arith
front-small [] (suc n) h i = omega arith
front-small (b ∷ s) (suc n) h zero = h zero
front-small (b ∷ s) (suc n) h (suc i) = front-small s n (λ j. h (suc j)) i

pub cut-small : (s : Text) (at n m : ℕ) → ((i : ℕ) → get_or s i 0 < 256) → (i : ℕ) → get_or (take n (take m (drop at s))) i 0 < 256
cut-small s at n m h = front-small (take m (drop at s)) n (front-small (drop at s) m (λ i. rw (get_or-drop at s i 0) (h (at + i))))

-- texts whose two ends are the same
ends-same : (k : ℕ) (s t : Text) → length s ≡ length t → k ≤ length s → length s ≤ 2 * k
    → take k s ≡ take k t → take k (drop (length s - k) s) ≡ take k (drop (length s - k) t) → s ≡ t
ends-same k s t e h g first last =
    let n = length s - k in
    let tail : drop n s ≡ drop n t =
    sym (take_all k (drop n s) (rw (length-drop n s) (omega arith))) ∙ last ∙ take_all k (drop n t) (rw (length-drop n t) (omega (arith, e))) in
    let all : n + (2 * k - length s) ≡ k = omega arith in
    let rest : drop k s ≡ drop k t =
    ap (λ (i : ℕ). drop i s) (sym all) ∙ sym (drop-drop (2 * k - length s) n s) ∙ ap (λ (u : Text). drop (2 * k - length s) u) tail
    ∙ drop-drop (2 * k - length s) n t ∙ ap (λ (i : ℕ). drop i t) all in
    sym (take-append-drop k s) ∙ ap (λ (u : Text). u ++ drop k s) first ∙ ap (λ (u : Text). take k t ++ u) rest ∙ take-append-drop k t

-- a number of each end, from which its bytes can be told: where those of the first ends are equal, those of the last ends decide
pub same-ends : (k : ℕ) (s t : Text) (p q p' q' : ℕ) (number : List ℕ → ℕ) (bytes : ℕ → List ℕ) → length s ≡ length t → k ≤ length s → length s ≤ 2 * k
    → bytes p ≡ take k (drop 0 s) → bytes q ≡ take k (drop 0 t) → p ≡ q
    → p' ≡ number (take k (drop (length s - k) s)) → q' ≡ number (take k (drop (length s - k) t))
    → bytes p' ≡ take k (drop (length s - k) s) → bytes q' ≡ take k (drop (length s - k) t)
    → nat_eq p' q' ≡ same s t
same-ends k s t p q p' q' number bytes e h g first second alike n m last other =
    bool_cases (nat_eq p' q')
    (λ u. let all = ends-same k s t e h g (sym first ∙ ap bytes alike ∙ second) (sym last ∙ ap bytes (eqb-true p' q' u) ∙ other) in u ∙ sym (rw all (same_refl t)))
    (λ u. u ∙ sym (same-differ s t (λ r. eqb-false p' q' u (n ∙ ap (λ (v : Text). number (take k (drop (length s - k) v))) r ∙ sym m))))

-- where the numbers of the first ends differ, the texts do
pub ends-differ : (k : ℕ) (s t : Text) (p q : ℕ) (number : List ℕ → ℕ) → p ≡ number (take k (drop 0 s)) → q ≡ number (take k (drop 0 t)) → (p ≡ q → ⊥) → nat_eq p q ≡ same s t
ends-differ k s t p q number n m h =
    ne_eqb p q h ∙ sym (same-differ s t (λ r. h (n ∙ ap (λ (v : Text). number (take k (drop 0 v))) r ∙ sym m)))
