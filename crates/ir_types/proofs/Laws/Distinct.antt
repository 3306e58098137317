-- Lists of texts in which none stands twice: one more that is not among them, and one that is. Assumes nothing.
use mathlib.Core.Path.{◌≡◌, refl, sym, ◌∙◌}
use mathlib.Core.Bool.{true, false, not, ◌||◌, false≢true, or_assoc}
use mathlib.Core.List.{List, [], ◌∷◌, ◌++◌}
use borrow.Author.Tests.{not-true}
use Rattle.text.specs.Text.{Text, same}
use Rattle.text.proofs.Laws.Texts.{same_refl, same-differ}
use Rattle.text.proofs.Laws.Tests.{and-true-left, and-true-right, or-false-left, or-false-right}
use Rattle.ir_types.specs.Distinct.{among, distinct_texts}

pub among-append : (t : Text) (us vs : List Text) → among t (us ++ vs) ≡ (among t us || among t vs)
unfolding among
among-append t [] vs = refl
among-append t (u ∷ us) vs = rw (among-append t us vs) (sym (or_assoc (same u t) (among t us) (among t vs)))

same_not : (s t : Text) → same s t ≡ false → same t s ≡ false
same_not s t h = same-differ t s (λ e. false≢true (sym h ∙ rw e (same_refl s)))

pub distinct_snoc : (t : Text) (us : List Text) → distinct_texts us ≡ true → among t us ≡ false → distinct_texts (us ++ (t ∷ [])) ≡ true
unfolding distinct_texts among
distinct_snoc t [] h k = refl
distinct_snoc t (u ∷ us) h k =
    let r = distinct_snoc t us (and-true-right (not (among u us)) (distinct_texts us) h) (or-false-right (same u t) (among t us) k) in
    let n : among u us ≡ false = not-true (among u us) (and-true-left (not (among u us)) (distinct_texts us) h) in
    let s : same t u ≡ false = same_not u t (or-false-left (same u t) (among t us) k) in
    rw (among-append u us (t ∷ []), n, s, r)

-- of texts of which none stands twice, none is among those before it
pub distinct-before : (t : Text) (us vs : List Text) → distinct_texts (us ++ (t ∷ vs)) ≡ true → among t us ≡ false
unfolding distinct_texts among
distinct-before t [] vs h = refl
distinct-before t (u ∷ us) vs h =
    let n = not-true (among u (us ++ (t ∷ vs))) (and-true-left (not (among u (us ++ (t ∷ vs)))) (distinct_texts (us ++ (t ∷ vs))) h) in
    let behind : same t u || among u vs ≡ false = or-false-right (among u us) _ (rw (among-append u us (t ∷ vs)) at n) in
    rw (same_not t u (or-false-left (same t u) (among u vs) behind)) (distinct-before t us vs (and-true-right (not (among u (us ++ (t ∷ vs)))) (distinct_texts (us ++ (t ∷ vs))) h))
