-- Laws of the steps (specs/Steps.antt): what the bytes from place i on give, by the byte there. A loop that scans goes by them. Assumes nothing.
use Prim.Native.Nat.{ℕ, suc, ◌+◌, ◌≤◌, ◌<◌}
use mathlib.Core.Path.{◌≡◌, refl, sym, ap}
use mathlib.Core.List.{[], ◌∷◌, ◌++◌}
use mathlib.Core.Bool.{Bool, true, false, false≢true}
use native.Mathlib.Omega.{arith}
use lib.Dec.{eqb, ltb}
use lib.ListN.{length, get_or, drop, drop_of_length-le, get_or-eq_default}
use lib.Seq.{drop-cons, drop-drop}
use borrow.Author.Tests.{eq-eqb, ne_eqb, ltb-true, ltb-false}
use Rattle.text.specs.Text.{Text}
use Rattle.text.proofs.Laws.Tests.{and-true-right, bool_cases}
use Rattle.xml.specs.Classes.{is_char}
use Rattle.xml.specs.Steps.{bad, behind, starts_with, literal, many, one_then, until}

-- a word
pub starts-end : (word s : Text) (k : ℕ) → length word ≤ k → starts_with (drop k word) s ≡ true
unfolding starts_with
starts-end word s k h = rw (drop_of_length-le word h)

pub starts-past : (word s : Text) (k i : ℕ) → k < length word → length s ≤ i → starts_with (drop k word) (drop i s) ≡ false
unfolding starts_with
starts-past word s k i h e = rw (drop-cons word k 0 h, drop_of_length-le s e)

pub starts-differ : (word s : Text) (k i : ℕ) → k < length word → i < length s → (get_or s i 0 ≡ get_or word k 0 → ⊥) → starts_with (drop k word) (drop i s) ≡ false
unfolding starts_with
starts-differ word s k i h e d = rw (drop-cons word k 0 h, drop-cons s i 0 e, ne_eqb (get_or s i 0) (get_or word k 0) d)

pub starts-on : (word s : Text) (k i : ℕ) → k < length word → i < length s → get_or s i 0 ≡ get_or word k 0 → starts_with (drop k word) (drop i s) ≡ starts_with (drop (suc k) word) (drop (suc i) s)
unfolding starts_with
starts-on word s k i h e d = rw (drop-cons word k 0 h, drop-cons s i 0 e, eq-eqb (get_or s i 0) (get_or word k 0) d)

pub starts-length : (word s : Text) → starts_with word s ≡ true → length word ≤ length s
unfolding starts_with
starts-length [] s e = omega arith
starts-length (w ∷ word) [] e = let z : ◌≡◌ {A = Bool} false true = e in let y : ◌≡◌ {A = ℕ} 0 1 = cc in absurd (omega arith)
starts-length (w ∷ word) (b ∷ s) e = omega (arith, starts-length word s (and-true-right (eqb b w) (starts_with word s) e))

-- a word that begins with another stands nowhere where that does not
pub starts-longer : (word more s : Text) → starts_with word s ≡ false → starts_with (word ++ more) s ≡ false
unfolding starts_with
starts-longer [] more s e = absurd (false≢true (sym e))
starts-longer (w ∷ word) more [] e = refl
starts-longer (w ∷ word) more (b ∷ s) e = bool_cases (eqb b w) (λ h. rw h (starts-longer word more s (rw h at e))) (λ h. rw h)

-- a byte that is not 0 stands inside
pub inside-some : (s : Text) (i b : ℕ) → get_or s i 0 ≡ suc b → i < length s
inside-some s i b e =
    bool_cases (ltb i (length s))
    (λ h. ltb-true i (length s) h)
    (λ h. let z : 0 ≡ suc b = rw (get_or-eq_default s 0 (ltb-false i (length s) h)) at e in absurd (omega arith))

-- a run of a class
pub many-stop : (p : ℕ → Bool) (s : Text) (at i : ℕ) → i < length s → p (get_or s i 0) ≡ false → many p at (drop i s) ≡ behind at (drop i s)
unfolding many
many-stop p s at i h e = rw (drop-cons s i 0 h, e)

pub many-on : (p : ℕ → Bool) (s : Text) (at i : ℕ) → i < length s → p (get_or s i 0) ≡ true → many p at (drop i s) ≡ many p (suc at) (drop (suc i) s)
unfolding many
many-on p s at i h e = rw (drop-cons s i 0 h, e)

pub many-end : (p : ℕ → Bool) (s : Text) (at i : ℕ) → length s ≤ i → many p at (drop i s) ≡ behind at (drop i s)
unfolding many
many-end p s at i h = rw (drop_of_length-le s h)

pub one-past : (p q : ℕ → Bool) (s : Text) (at i : ℕ) → length s ≤ i → one_then p q at (drop i s) ≡ bad
unfolding one_then
one-past p q s at i h = rw (drop_of_length-le s h)

pub one-wrong : (p q : ℕ → Bool) (s : Text) (at i : ℕ) → i < length s → p (get_or s i 0) ≡ false → one_then p q at (drop i s) ≡ bad
unfolding one_then
one-wrong p q s at i h e = rw (drop-cons s i 0 h, e)

pub one_on : (p q : ℕ → Bool) (s : Text) (at i : ℕ) → i < length s → p (get_or s i 0) ≡ true → one_then p q at (drop i s) ≡ many q (suc at) (drop (suc i) s)
unfolding one_then
one_on p q s at i h e = rw (drop-cons s i 0 h, e)

-- up to a word
pub until-hit : (word s : Text) (at i : ℕ) → i < length s → starts_with word (drop i s) ≡ true → until word at (drop i s) ≡ literal word at (drop i s)
unfolding until
until-hit word s at i h e = rw (drop-cons s i 0 h, (rw (drop-cons s i 0 h) at e))

pub until-wrong : (word s : Text) (at i : ℕ) → i < length s → starts_with word (drop i s) ≡ false → is_char (get_or s i 0) ≡ false → until word at (drop i s) ≡ bad
unfolding until
until-wrong word s at i h e d = rw (drop-cons s i 0 h, (rw (drop-cons s i 0 h) at e), d)

pub until-on : (word s : Text) (at i : ℕ) → i < length s → starts_with word (drop i s) ≡ false → is_char (get_or s i 0) ≡ true → until word at (drop i s) ≡ until word (suc at) (drop (suc i) s)
unfolding until
until-on word s at i h e d = rw (drop-cons s i 0 h, (rw (drop-cons s i 0 h) at e), d)

pub until_end : (word s : Text) (at i : ℕ) → length s ≤ i → until word at (drop i s) ≡ bad
unfolding until
until_end word s at i h = rw (drop_of_length-le s h)

pub literal-yes : (word s : Text) (at : ℕ) → starts_with word (drop at s) ≡ true → literal word at (drop at s) ≡ behind (at + length word) (drop (at + length word) s)
unfolding literal
literal-yes word s at e = rw e (ap (behind (at + length word)) (drop-drop (length word) at s))

pub literal-no : (word : Text) (at : ℕ) (s : Text) → starts_with word s ≡ false → literal word at s ≡ bad
unfolding literal
literal-no word at s e = rw e
