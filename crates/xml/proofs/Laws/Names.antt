-- Laws of names (specs/Steps.antt). A name that is read is the characters of names that the bytes left begin with: `name` moves over as many bytes as `leading_name`
-- has, and these are a text. Assumes nothing.
use Prim.Native.Nat.{ℕ, suc, ◌+◌, ◌-◌, ◌≤◌, ◌<◌}
use mathlib.Core.Path.{◌≡◌, refl, sym, ap, ◌∙◌}
use mathlib.Core.List.{[], ◌∷◌, ◌++◌}
use mathlib.Core.Bool.{Bool, true, false, ◌&&◌, ◌||◌, not, false≢true, and-false}
use native.Mathlib.Numerals.{add-one}
use native.Mathlib.Omega.{arith}
use lib.Dec.{eqb, leb, ltb}
use lib.ListN.{length, take, drop, drop_of_length-le}
use lib.Seq.{drop-cons, drop-drop}
use borrow.Author.Tests.{eqb-true, eqb-false, ltb-true, ltb-false, lt-leb, le-ltb, le-leb}
use Rattle.text.specs.Text.{Text, first, is_tail, is_pair, is_text, same, between}
use Rattle.std.proofs.lemmas.Bool.{or_left, or_right}
use Rattle.text.proofs.Laws.Tests.{bool_cases, and-true-left, and-true-right, or-false-left, or-false-right, or-true-left, and-true}
use Rattle.text.proofs.Laws.Class.{empty-text, text-behind, text-pair}
use Rattle.text.proofs.Laws.Texts.{between-low, same-cons-on, same-cons-differ, first-drop}
use Rattle.xml.specs.Classes.{is_letter, is_name_start, is_name, is_byte_of, is_pair_of, begins}
use Rattle.xml.specs.Steps.{bad, behind, many, name, leading_name, target}
use Rattle.xml.specs.Grammar.{is_xml}

-- ---- characters of a class

pub byte-low : (p : ℕ → Bool) (b : ℕ) → is_byte_of p b ≡ true → b < 128
unfolding is_byte_of
byte-low p b e = ltb-true b 128 (and-true-left (ltb b 128) (p b) e)

pub pair-high : (p : ℕ → Bool) (b t : ℕ) → is_pair_of p b t ≡ true → 194 ≤ b
unfolding is_pair_of is_pair
pair-high p b t e = between-low 194 197 b (and-true-left _ _ (and-true-left _ _ e))

-- a byte from 128 on is no character
pub high-no-byte : (p : ℕ → Bool) (b : ℕ) → 128 ≤ b → is_byte_of p b ≡ false
unfolding is_byte_of
high-no-byte p b h = rw (le-ltb b 128 h)

pub pair-no-byte : (p q : ℕ → Bool) (b t : ℕ) → is_pair_of p b t ≡ true → is_byte_of q b ≡ false
pair-no-byte p q b t e = high-no-byte q b (omega (arith, pair-high p b t e))

-- a byte below 128 leads no character
pub low-no-pair : (p : ℕ → Bool) (b t : ℕ) → b < 128 → is_pair_of p b t ≡ false
unfolding is_pair_of is_pair is_tail between
low-no-pair p b t h = rw (lt-leb 194 b (omega arith))

-- nor does one with nothing behind it
pub lone-no-pair : (p : ℕ → Bool) (b : ℕ) → is_pair_of p b 0 ≡ false
unfolding is_pair_of is_pair is_tail between
lone-no-pair p b = rw (and-false (between 194 197 b))

-- the byte past the end is no name character
pub zero-no-name : is_name 0 ≡ false
unfolding is_name is_name_start is_letter between
zero-no-name = refl

pub start-is-name : (c : ℕ) → is_name_start c ≡ true → is_name c ≡ true
unfolding is_name
start-is-name c e = rw e

-- a class inside another
module _ (p q : ℕ → Bool) (inside : (c : ℕ) → p c ≡ true → q c ≡ true) where
  pub byte-inside : (b : ℕ) → is_byte_of p b ≡ true → is_byte_of q b ≡ true
  unfolding is_byte_of
  byte-inside b e = and-true (and-true-left (ltb b 128) (p b) e) (inside b (and-true-right (ltb b 128) (p b) e))

  pub pair-inside : (b t : ℕ) → is_pair_of p b t ≡ true → is_pair_of q b t ≡ true
  unfolding is_pair_of
  pair-inside b t e = and-true (and-true-left (is_pair b t) _ e) (inside _ (and-true-right (is_pair b t) _ e))

-- ---- how a text begins

pub begins-byte : (p : ℕ → Bool) (b : ℕ) (s : Text) → is_byte_of p b ≡ true → begins p (b ∷ s) ≡ true
unfolding begins
begins-byte p b s e = rw e

pub begins-pair : (p : ℕ → Bool) (b t : ℕ) (s : Text) → is_pair_of p b t ≡ true → begins p (b ∷ t ∷ s) ≡ true
unfolding begins first
begins-pair p b t s e = rw (pair-no-byte p p b t e, e)

-- a byte below 128 decides by itself
pub begins-low : (p : ℕ → Bool) (b : ℕ) (s : Text) → b < 128 → p b ≡ false → begins p (b ∷ s) ≡ false
unfolding begins is_byte_of
begins-low p b s h e = rw (e, low-no-pair p b (first s) h, and-false (ltb b 128))

-- by the first character, where there is one
pub begins-cases : (p : ℕ → Bool) (C : Text → Type 0) (s : Text) → begins p s ≡ true → ((b : ℕ) (u : Text) → is_byte_of p b ≡ true → C (b ∷ u))
    → ((b t : ℕ) (u : Text) → is_pair_of p b t ≡ true → C (b ∷ t ∷ u)) → C s
unfolding begins first
begins-cases p C [] e one more = absurd (false≢true e)
begins-cases p C (b ∷ []) e one more = one b [] (or-true-left (is_byte_of p b) _ e (lone-no-pair p b))
begins-cases p C (b ∷ t ∷ u) e one more =
    bool_cases (is_pair_of p b t) (more b t u) (λ h. one b (t ∷ u) (or-true-left (is_byte_of p b) (is_pair_of p b t) e h))

pub begins-name : (s : Text) → begins is_name_start s ≡ true → begins is_name s ≡ true
begins-name s e =
    begins-cases is_name_start (λ u. begins is_name u ≡ true) s e
    (λ b u h. begins-byte is_name b u (byte-inside is_name_start is_name start-is-name b h))
    (λ b t u h. begins-pair is_name b t u (pair-inside is_name_start is_name start-is-name b t h))

-- the first byte of a name: a lead, or a byte that starts one
abbrev pub may_start : ℕ → Bool
may_start b = leb 128 b || is_name_start b

pub byte-may-start : (b : ℕ) → is_byte_of is_name_start b ≡ true → may_start b ≡ true
unfolding is_byte_of
byte-may-start b e = or_right (leb 128 b) _ (and-true-right (ltb b 128) (is_name_start b) e)

pub pair-may-start : (b t : ℕ) → is_pair_of is_name_start b t ≡ true → may_start b ≡ true
pair-may-start b t e = or_left _ (is_name_start b) (le-leb 128 b (omega (arith, pair-high is_name_start b t e)))

pub begins-may-start : (s : Text) → begins is_name_start s ≡ true → may_start (first s) ≡ true
unfolding first
begins-may-start s e = begins-cases is_name_start (λ u. may_start (first u) ≡ true) s e (λ b u h. byte-may-start b h) (λ b t u h. pair-may-start b t h)

-- what follows changes no beginning
pub begins-append : (p : ℕ → Bool) (s r : Text) → begins p s ≡ true → begins p (s ++ r) ≡ true
begins-append p s r e =
    begins-cases p (λ u. begins p (u ++ r) ≡ true) s e (λ b u h. begins-byte p b (u ++ r) h) (λ b t u h. begins-pair p b t (u ++ r) h)

-- by two bytes at a place
pub begins-at : (p : ℕ → Bool) (s : Text) → p 0 ≡ false → begins p s ≡ is_byte_of p (first s) || is_pair_of p (first s) (first (drop 1 s))
unfolding begins first is_byte_of
begins-at p [] e = rw (e, lone-no-pair p 0)
begins-at p (b ∷ s) e = refl

-- ---- the characters of names that a text begins with

pub name_of-none : (s : Text) → begins is_name s ≡ false → leading_name s ≡ []
unfolding leading_name begins first
name_of-none [] e = refl
name_of-none (b ∷ []) e = rw (or-false-left (is_byte_of is_name b) _ e)
name_of-none (b ∷ t ∷ s) e = rw (or-false-left (is_byte_of is_name b) _ e, or-false-right (is_byte_of is_name b) _ e)

pub name_of-some : (b : ℕ) (s : Text) → is_byte_of is_name b ≡ true → leading_name (b ∷ s) ≡ b ∷ leading_name s
unfolding leading_name
name_of-some b [] e = rw e
name_of-some b (t ∷ s) e = rw e

pub name_of-pair : (b t : ℕ) (s : Text) → is_pair_of is_name b t ≡ true → leading_name (b ∷ t ∷ s) ≡ b ∷ t ∷ leading_name s
unfolding leading_name
name_of-pair b t s e = rw (pair-no-byte is_name is_name b t e, e)

-- what holds where no name goes on, and of a text that begins with a character of names where it holds of the rest, holds of every text
pub by_name : (P : Text → Type 0) → ((s : Text) → begins is_name s ≡ false → P s) → ((b : ℕ) (s : Text) → is_byte_of is_name b ≡ true → P s → P (b ∷ s))
    → ((b t : ℕ) (s : Text) → is_pair_of is_name b t ≡ true → P s → P (b ∷ t ∷ s)) → (s : Text) → P s
unfolding begins first
by_name P none one more [] = none [] refl
by_name P none one more (b ∷ []) =
    bool_cases (is_byte_of is_name b)
    (λ e. one b [] e (none [] refl))
    (λ e. none (b ∷ []) (rw (e, lone-no-pair is_name b)))
by_name P none one more (b ∷ t ∷ s) =
    bool_cases (is_byte_of is_name b)
    (λ e. one b (t ∷ s) e (by_name P none one more (t ∷ s)))
    (λ e. bool_cases (is_pair_of is_name b t)
    (λ h. more b t s h (by_name P none one more s))
    (λ h. none (b ∷ t ∷ s) (rw (e, h))))

pub name_of-take : (s : Text) → take (length (leading_name s)) s ≡ leading_name s
name_of-take s =
    by_name (λ u. take (length (leading_name u)) u ≡ leading_name u)
    (λ u e. rw (name_of-none u e))
    (λ b u e h. rw (name_of-some b u e) (ap (λ (t : Text). b ∷ t) h))
    (λ b t u e h. rw (name_of-pair b t u e) (ap (λ (v : Text). b ∷ t ∷ v) h))
    s

pub name_of-length : (s : Text) → length (leading_name s) ≤ length s
name_of-length s =
    by_name (λ u. length (leading_name u) ≤ length u)
    (λ u e. rw (name_of-none u e) (omega arith))
    (λ b u e h. rw (name_of-some b u e) (omega arith))
    (λ b t u e h. rw (name_of-pair b t u e) (omega arith))
    s

-- they are a text
pub name-text : (s : Text) → is_text (leading_name s) ≡ true
unfolding is_byte_of is_pair_of
name-text s =
    by_name (λ u. is_text (leading_name u) ≡ true)
    (λ u e. rw (name_of-none u e) empty-text)
    (λ b u e h. rw (name_of-some b u e) (text-behind b (leading_name u) (and-true-left (ltb b 128) (is_name b) e) ∙ h))
    (λ b t u e h. rw (name_of-pair b t u e)
    (text-pair b t (leading_name u) (le-ltb b 128 (omega (arith, pair-high is_name b t e))) ∙ and-true (and-true-left (is_pair b t) _ e) h))
    s

pub name_of-begun : (s : Text) → begins is_name s ≡ true → 0 < length (leading_name s)
name_of-begun s e =
    begins-cases is_name (λ u. 0 < length (leading_name u)) s e
    (λ b u h. rw (name_of-some b u h) (omega arith))
    (λ b t u h. rw (name_of-pair b t u h) (omega arith))

-- what a step behind tells
pub behind-at : {a e : ℕ} {s r : Text} → behind a s ≡ behind e r → a ≡ e
behind-at q = cc

pub behind-rest : {a e : ℕ} {s r : Text} → behind a s ≡ behind e r → s ≡ r
behind-rest q = cc

pub bad-not : {e : ℕ} {r : Text} → bad ≡ behind e r → ⊥
bad-not q = let z : ◌≡◌ {A = ℕ} 0 1 = cc in omega arith

-- ---- a name that is read

pub name-begun : (at : ℕ) (s : Text) → begins is_name_start s ≡ true → name at s ≡ behind (at + length (leading_name s)) (drop (length (leading_name s)) s)
unfolding name
name-begun at s e = rw e

pub name-no-start : (at : ℕ) (s : Text) → begins is_name_start s ≡ false → name at s ≡ bad
unfolding name
name-no-start at s e = rw e

pub name-read : (at : ℕ) (s : Text) (e : ℕ) (r : Text) → name at s ≡ behind e r
    → (begins is_name_start s ≡ true) × (e ≡ at + length (leading_name s)) × (r ≡ drop (length (leading_name s)) s)
name-read at s e r q =
    bool_cases (begins is_name_start s)
    (λ h. let k = sym (name-begun at s h) ∙ q in (h, sym (behind-at k), sym (behind-rest k)))
    (λ h. absurd (bad-not (sym (name-no-start at s h) ∙ q)))

pub name-size : (at : ℕ) (s : Text) (e : ℕ) (r : Text) → name at s ≡ behind e r → (e ≡ at + length (leading_name s)) × (0 < length (leading_name s))
name-size at s e r q = let n = name-read at s e r q in (n.1, name_of-begun s (begins-name s n.0))

-- a name that is read lies in what is left
pub name-length : (at : ℕ) (s : Text) (e : ℕ) (r : Text) → name at s ≡ behind e r → (at < e) × (e ≤ at + length s)
name-length at s e r q = omega (arith, name-size at s e r q, name_of-length s)

-- the part that a name moved over
pub name-part : (at : ℕ) (s : Text) (e : ℕ) (r : Text) → name at s ≡ behind e r → take (e - at) s ≡ leading_name s
name-part at s e r q =
    let size = name-size at s e r q in
    let count : e - at ≡ length (leading_name s) = omega arith in
    rw count (name_of-take s)

pub target-bad : (at : ℕ) (s : Text) → name at s ≡ bad → target at s ≡ bad
unfolding target
target-bad at s e = bool_cases (is_xml (leading_name s)) (λ h. rw h) (λ h. rw (h, e))

pub target-xml : (at : ℕ) (s : Text) → is_xml (leading_name s) ≡ true → target at s ≡ bad
unfolding target
target-xml at s h = rw h

pub target_name : (at : ℕ) (s : Text) → is_xml (leading_name s) ≡ false → target at s ≡ name at s
unfolding target
target_name at s h = rw h

-- ---- two names

pub same-nil : same [] [] ≡ true
unfolding same
same-nil = refl

pub same-cons-nil : (b : ℕ) (s : Text) → same (b ∷ s) [] ≡ false
unfolding same
same-cons-nil b s = refl

pub same_none : (t : Text) → begins is_name t ≡ true → same [] (leading_name t) ≡ false
unfolding same
same_none t e =
    begins-cases is_name (λ u. same [] (leading_name u) ≡ false) t e
    (λ b u h. rw (name_of-some b u h))
    (λ b c u h. rw (name_of-pair b c u h))

-- both go on with one byte below 128, and the rest decides
pub same-byte : (b : ℕ) (s t : Text) → is_byte_of is_name b ≡ true → same (leading_name (b ∷ s)) (leading_name (b ∷ t)) ≡ same (leading_name s) (leading_name t)
same-byte b s t e = rw (name_of-some b s e, name_of-some b t e) (same-cons-on b b (leading_name s) (leading_name t) refl)

-- they begin with no character alike: then they are the same where both have ended
abbrev pub Apart : Text → Text → Type 0
Apart s t = (is_byte_of is_name (first s) ≡ true → first s ≡ first t → ⊥) × (is_pair_of is_name (first s) (first (drop 1 s)) ≡ true → first s ≡ first t → first (drop 1 s) ≡ first (drop 1 t) → ⊥)

same-other : (b : ℕ) (s t : Text) → (b ≡ first t → ⊥) → same (b ∷ s) (leading_name t) ≡ false
unfolding first
same-other b s t d =
    bool_cases (begins is_name t)
    (λ h. begins-cases is_name (λ u. (b ≡ first u → ⊥) → same (b ∷ s) (leading_name u) ≡ false) t h
    (λ c u e n. rw (name_of-some c u e) (same-cons-differ b c s (leading_name u) n))
    (λ c y u e n. rw (name_of-pair c y u e) (same-cons-differ b c s (y ∷ leading_name u) n))
    d)
    (λ h. rw (name_of-none t h) (same-cons-nil b s))

same-others : (b c : ℕ) (s t : Text) → 194 ≤ b → (b ≡ first t → c ≡ first (drop 1 t) → ⊥) → same (b ∷ c ∷ s) (leading_name t) ≡ false
unfolding first
same-others b c s t l d =
    bool_cases (begins is_name t)
    (λ h. begins-cases is_name (λ u. (b ≡ first u → c ≡ first (drop 1 u) → ⊥) → same (b ∷ c ∷ s) (leading_name u) ≡ false) t h
    (λ x u e n. rw (name_of-some x u e) (same-cons-differ b x (c ∷ s) (leading_name u) (λ q. omega (arith, byte-low is_name x e))))
    (λ x y u e n. rw (name_of-pair x y u e)
    (bool_cases (eqb b x)
    (λ q. same-cons-on b x (c ∷ s) (y ∷ leading_name u) (eqb-true b x q) ∙ same-cons-differ c y s (leading_name u) (n (eqb-true b x q)))
    (λ q. same-cons-differ b x (c ∷ s) (y ∷ leading_name u) (eqb-false b x q))))
    d)
    (λ h. rw (name_of-none t h) (same-cons-nil b (c ∷ s)))

-- where the first name has ended, the second must have ended too
pub same-nothing : (s t : Text) → begins is_name s ≡ false → same (leading_name s) (leading_name t) ≡ not (begins is_name t)
same-nothing s t e =
    rw (name_of-none s e)
    (bool_cases (begins is_name t) (λ k. rw k (same_none t k)) (λ k. rw (k, name_of-none t k) same-nil))

pub same-ended : (s t : Text) → Apart s t → (not (begins is_name s) && not (begins is_name t)) ≡ same (leading_name s) (leading_name t)
unfolding first
same-ended s t d =
    bool_cases (begins is_name s)
    (λ h. begins-cases is_name (λ u. Apart u t → (not (begins is_name u) && not (begins is_name t)) ≡ same (leading_name u) (leading_name t)) s h
    (λ b u e a. rw (begins-byte is_name b u e, name_of-some b u e) (sym (same-other b (leading_name u) t (a.0 e))))
    (λ b c u e a. rw (begins-pair is_name b c u e, name_of-pair b c u e) (sym (same-others b c (leading_name u) t (pair-high is_name b c e) (a.1 e))))
    d)
    (λ h. rw h (sym (same-nothing s t h)))

-- ---- by places of a text

-- the run of name bytes below 128 is the beginning of the name
pub many-name : (at : ℕ) (s : Text) (e : ℕ) (r : Text) → many (is_byte_of is_name) at s ≡ behind e r → (at ≤ e) × (e + length (leading_name r) ≡ at + length (leading_name s))
unfolding many
many-name at [] e r q = (omega (arith, behind-at q), ap (λ (k : ℕ). k + length (leading_name r)) (sym (behind-at q)) ∙ ap (λ (t : Text). at + length (leading_name t)) (sym (behind-rest q)))
many-name at (b ∷ s) e r q =
    bool_cases (is_byte_of is_name b)
    (λ h. let (l, k) = many-name (suc at) s e r (rw h at q) in (omega arith, rw (name_of-some b s h) (omega arith)))
    (λ h.
    let k : behind at (b ∷ s) ≡ behind e r = rw h at q in
    (omega (arith, behind-at k), ap (λ (j : ℕ). j + length (leading_name r)) (sym (behind-at k)) ∙ ap (λ (t : Text). at + length (leading_name t)) (sym (behind-rest k))))

-- behind it stands no name byte below 128
pub many-stops : (p : ℕ → Bool) (at : ℕ) (s : Text) (e : ℕ) (r : Text) → p 0 ≡ false → many p at s ≡ behind e r → p (first r) ≡ false
unfolding many first
many-stops p at [] e r z q = ap (λ (t : Text). p (first t)) (sym (behind-rest q)) ∙ z
many-stops p at (b ∷ s) e r z q =
    bool_cases (p b)
    (λ h. many-stops p (suc at) s e r z (rw h at q))
    (λ h. let k : behind at (b ∷ s) ≡ behind e r = rw h at q in ap (λ (t : Text). p (first t)) (sym (behind-rest k)) ∙ h)

pub zero-no-byte : is_byte_of is_name 0 ≡ false
unfolding is_byte_of
zero-no-byte = zero-no-name

pub zero-no-start : is_name_start 0 ≡ false
unfolding is_name_start is_letter between
zero-no-start = refl

-- a byte that is not 0 stands inside
pub first-inside : (s : Text) (i : ℕ) → (first (drop i s) ≡ 0 → ⊥) → i < length s
unfolding first
first-inside s i d =
    bool_cases (ltb i (length s))
    (λ h. ltb-true i (length s) h)
    (λ h. absurd (d (ap first (drop_of_length-le s (ltb-false i (length s) h)))))

pub byte-inside-text : (p : ℕ → Bool) (s : Text) (i : ℕ) → p 0 ≡ false → is_byte_of p (first (drop i s)) ≡ true → drop i s ≡ first (drop i s) ∷ drop (suc i) s
unfolding is_byte_of
byte-inside-text p s i z e =
    let h = first-inside s i (λ q. false≢true (sym z ∙ ap p (sym q) ∙ and-true-right (ltb (first (drop i s)) 128) (p (first (drop i s))) e)) in
    drop-cons s i 0 h ∙ ap (λ (b : ℕ). b ∷ drop (suc i) s) (sym (first-drop s i))

pub pair-two-inside : (p : ℕ → Bool) (s : Text) (i : ℕ) → is_pair_of p (first (drop i s)) (first (drop (suc i) s)) ≡ true → suc i < length s
unfolding is_pair_of is_pair is_tail
pair-two-inside p s i e =
    first-inside s (suc i) (λ q. omega (arith, between-low 128 191 (first (drop (suc i) s)) (and-true-right _ _ (and-true-left _ _ e))))

pub pair-inside-text : (p : ℕ → Bool) (s : Text) (i : ℕ) → is_pair_of p (first (drop i s)) (first (drop (suc i) s)) ≡ true
    → drop i s ≡ first (drop i s) ∷ first (drop (suc i) s) ∷ drop (suc (suc i)) s
pair-inside-text p s i e =
    let h = pair-two-inside p s i e in
    drop-cons s i 0 (omega arith)
    ∙ ap (λ (b : ℕ). b ∷ drop (suc i) s) (sym (first-drop s i))
    ∙ ap (λ (t : Text). first (drop i s) ∷ t) (drop-cons s (suc i) 0 h ∙ ap (λ (b : ℕ). b ∷ drop (suc (suc i)) s) (sym (first-drop s (suc i))))

pub begins-place : (p : ℕ → Bool) (s : Text) (i : ℕ) → p 0 ≡ false → begins p (drop i s) ≡ is_byte_of p (first (drop i s)) || is_pair_of p (first (drop i s)) (first (drop (suc i) s))
begins-place p s i z =
    begins-at p (drop i s) z
    ∙ ap (λ (t : Text). is_byte_of p (first (drop i s)) || is_pair_of p (first (drop i s)) (first t)) (drop-drop 1 i s ∙ ap (λ (k : ℕ). drop k s) (add-one i))
