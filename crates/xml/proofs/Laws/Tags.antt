-- Laws of a tag's parts (specs/Tags.antt) and of the numbers of its attributes. Assumes nothing.
use Prim.Native.Nat.{ℕ, zero, suc, ◌-◌, ◌*◌, ◌≤◌, ◌<◌}
use mathlib.Core.Path.{◌≡◌, refl, ap}
use mathlib.Core.List.{List, [], ◌∷◌, ◌++◌}
use mathlib.Core.Bool.{true, false}
use native.Mathlib.Omega.{arith}
use lib.ListN.{length}
use Rattle.text.specs.Text.{Text, bytes}
use Rattle.xml.specs.Steps.{behind, literal, name, leading_name}
use Rattle.xml.specs.Tape.{AttributePairs, attribute_marks}
use Rattle.xml.specs.Tags.{wrong, last, more, part_of, TagEnd, unended, ended, attributes_from, attributes, tagged, span, tag}
use Rattle.xml.specs.Grammar.{is_among}

-- the parts of a tag, by the next one
pub attributes-wrong : (turns : ℕ) (keys : List Text) (xs : List AttributePairs) (at : ℕ) (s : Text) → part_of at s ≡ wrong → attributes_from turns keys xs at s ≡ unended
unfolding attributes_from
attributes-wrong zero keys xs at s e = refl
attributes-wrong (suc turns) keys xs at s e = rw e

pub attributes-last : (turns : ℕ) (keys : List Text) (xs : List AttributePairs) (at : ℕ) (s : Text) (kind a : ℕ) (r : Text) → 0 < turns → part_of at s ≡ last kind a r
    → attributes_from turns keys xs at s ≡ ended kind xs a r
unfolding attributes_from
attributes-last zero keys xs at s kind a r h e = absurd (omega arith)
attributes-last (suc turns) keys xs at s kind a r h e = rw e

pub attributes-twice : (turns : ℕ) (keys : List Text) (xs : List AttributePairs) (at : ℕ) (s : Text) (x : AttributePairs) (key : Text) (a : ℕ) (r : Text) → part_of at s ≡ more x key a r
    → is_among key keys ≡ true → attributes_from turns keys xs at s ≡ unended
unfolding attributes_from
attributes-twice zero keys xs at s x key a r e m = refl
attributes-twice (suc turns) keys xs at s x key a r e m = rw (e, m)

pub attributes-on : (n turns : ℕ) (keys : List Text) (xs : List AttributePairs) (at : ℕ) (s : Text) (x : AttributePairs) (key : Text) (a : ℕ) (r : Text) (whole : TagEnd)
    → n - at < turns → at < a → a ≤ n → part_of at s ≡ more x key a r → is_among key keys ≡ false → attributes_from turns keys xs at s ≡ whole
    → (t : ℕ) × (n - a < t) × (attributes_from t (key ∷ keys) (xs ++ x ∷ []) a r ≡ whole)
unfolding attributes_from
attributes-on n zero keys xs at s x key a r whole h g k e m w = absurd (omega arith)
attributes-on n (suc turns) keys xs at s x key a r whole h g k e m w = (turns, omega arith, rw (e, m) at w)

pub marks-length : (xs : List AttributePairs) → length (attribute_marks xs) ≡ 4 * length xs
unfolding attribute_marks
marks-length [] = refl
marks-length (x ∷ xs) = omega (arith, marks-length xs)

pub marks-append : (xs ys : List AttributePairs) → attribute_marks (xs ++ ys) ≡ attribute_marks xs ++ attribute_marks ys
unfolding attribute_marks
marks-append [] ys = refl
marks-append (x ∷ xs) ys = ap (λ (l : List ℕ). x.key.offset ∷ x.key.size ∷ x.value.offset ∷ x.value.size ∷ l) (marks-append xs ys)

pub tag-found : (at : ℕ) (s : Text) {n : ℕ} {t : Text} {e : ℕ} {r : Text} {kind : ℕ} {xs : List AttributePairs} {a : ℕ} {u : Text}
    → literal (bytes "<") at s ≡ behind n t → name n t ≡ behind e r → attributes e r ≡ ended kind xs a u → tag at s ≡ tagged kind (span n e) xs (leading_name t) a u
unfolding tag
tag-found at s p q w = rw (p, q, w)
