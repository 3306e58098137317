-- Words found in a list: those of other lengths need not be compared, and of numbered words that differ exactly one has a name's number. Laws of xsd_parser's
-- Words and of specs/Keys.antt. No contract cites them. Assumes nothing.
--     sized         the words of a length
--     differ        no two of the words are the same
use Rattle.std.specs.Prelude.{if◌then◌else◌, ◌++◌, Option, Some, None, unwrap_or, is_some}
use Rattle.std.specs.Option.{option_or}
use Rattle.std.proofs.lemmas.Option.{none-some}
use mathlib.Core.Path.{◌≡◌, refl, sym, ap, ◌∙◌}
use mathlib.Core.Bool.{Bool, true, false, not, ◌&&◌, false≢true}
use mathlib.Core.List.{List, [], ◌∷◌, map}
use Prim.Native.Nat.{ℕ, zero, suc, ◌+◌, ◌-◌, ◌≤◌, ◌<◌}
use native.Mathlib.Nat.{not-suc-le-zero}
use lib.Arith.{lt_of_le-ne}
use native.Mathlib.Omega.{arith}
use lib.Dec.{eqb}
use lib.ListN.{length, get_or}
use denote.Enum.Declared.{tag_of}
use borrow.Author.Tests.{eq-eqb, ne_eqb, eqb-false, not-true}
use Rattle.text.specs.Text.{Text, bytes, every, same}
use Rattle.text.proofs.Laws.Texts.{same-eq, same-differ}
use Rattle.std.proofs.lemmas.Bool.{and_parts}
use Rattle.text.proofs.Laws.Tests.{bool_cases}
use Rattle.text.specs.Text.{contains, colon, local_name}
use Rattle.text.proofs.Laws.Local.{after_last-none}
use Rattle.xsd_parser.specs.declared.words.Word.{Word}
use Rattle.xsd_parser.specs.Words.{found, known_words, word_of}
use Rattle.tape.specs.contracts.words.Key.{the_type}
use Rattle.tape.specs.declared.words.Key.{Key}
use Rattle.tape.specs.Keys.{numbered, known_word, key_words, key_number, key_of}

unfoldable pub sized : {A : Type 0} → ℕ → List (Text × A) → List (Text × A)
sized n [] = []
sized n (x ∷ xs) = if eqb (length x.0) n then x ∷ sized n xs else sized n xs

pub found-sized : {A : Type 0} (other : A) (xs : List (Text × A)) (s : Text) → found other xs s ≡ found other (sized (length s) xs) s
unfolding found sized
found-sized other [] s = refl
found-sized {A} other (x ∷ xs) s =
    bool_cases (eqb (length x.0) (length s))
    (λ e. rw e (ap (λ (r : A). if same s x.0 then x.1 else r) (found-sized other xs s)))
    (λ e. rw (e, same-differ s x.0 (λ q. eqb-false (length x.0) (length s) e (sym (ap (λ (t : Text). length t) q)))) (found-sized other xs s))

-- for a name of a known length
pub found_of : {A : Type 0} (other : A) (xs : List (Text × A)) (s : Text) {n : ℕ} → length s ≡ n → found other (sized n xs) s ≡ found other xs s
found_of other xs s e = rw (← e) (sym (found-sized other xs s))

unfoldable pub differ : List Text → Bool
differ [] = true
differ (w ∷ ws) = every (λ v. not (same w v)) ws && differ ws

numbers-above : (o i : ℕ) (ws : List Text) (s : Text) → i + length ws ≤ o → i ≤ found o (numbered i ws) s
unfolding found numbered
numbers-above o i [] s h = omega arith
numbers-above o i (w ∷ ws) s h =
    bool_cases (same s w) (λ e. rw e (omega arith)) (λ e. rw e (let k = numbers-above o (suc i) ws s (omega arith) in omega (arith, k)))

other_word : (w : Text) (ws : List Text) (k : ℕ) → k < length ws → every (λ v. not (same w v)) ws ≡ true → same w (get_or ws k []) ≡ false
unfolding every
other_word w [] k h e = absurd (not-suc-le-zero h)
other_word w (v ∷ ws) zero h e = not-true (same w v) (and_parts (not (same w v)) _ e).0
other_word w (v ∷ ws) (suc k) h e = other_word w ws k (omega arith) (and_parts (not (same w v)) _ e).1

-- the number that is found is a word's own exactly for that word
pub found_number : (o i : ℕ) (ws : List Text) (s : Text) (k : ℕ) → i + length ws ≤ o → k < length ws → differ ws ≡ true → same s (get_or ws k []) ≡ eqb (found o (numbered i ws) s) (i + k)
unfolding found numbered differ
found_number o i [] s k h l d = absurd (not-suc-le-zero l)
found_number o i (w ∷ ws) s zero h l d =
    bool_cases (same s w)
    (λ e. rw e (sym (eq-eqb i (i + 0) (omega arith))))
    (λ e. rw e (let a = numbers-above o (suc i) ws s (omega arith) in sym (ne_eqb _ (i + 0) (λ q. omega (arith, a, q)))))
found_number o i (w ∷ ws) s (suc k) h l d =
    bool_cases (same s w)
    (λ e. rw (e, same-eq s w e) (other_word w ws k (omega arith) (and_parts (every (λ v. not (same w v)) ws) (differ ws) d).0 ∙ sym (ne_eqb i (i + suc k) (λ q. omega (arith, q)))))
    (λ e. rw e (let j : i + suc k ≡ suc i + k = omega arith in rw j (found_number o (suc i) ws s k (omega arith) (omega arith) (and_parts (every (λ v. not (same w v)) ws) (differ ws) d).1)))

-- Named in docs/PORT.md: what is found beside a text stands at the text's number
pub found_at : {A : Type 0} (o : A) (n i : ℕ) (xs : List (Text × A)) (s : Text) → i + length xs ≤ n
    → found o xs s ≡ get_or (map (λ (x : Text × A). x.1) xs) (found n (numbered i (map (λ (x : Text × A). x.0) xs)) s - i) o
unfolding found numbered
found_at o n i [] s h = refl
found_at {A} o n i (x ∷ xs) s h =
    bool_cases (same s x.0)
    (λ e. rw e (let z : i - i ≡ 0 = omega arith in rw z))
    (λ e. rw e (
    let ws = map (λ (y : Text × A). y.0) xs in
    let a = numbers-above n (suc i) ws s (omega (arith, texts-length xs)) in
    let z : found n (numbered (suc i) ws) s - i ≡ suc (found n (numbered (suc i) ws) s - suc i) = omega (arith, a) in
    rw z (found_at o n (suc i) xs s (omega arith))))
  where
    texts-length : (ys : List (Text × A)) → length (map (λ (y : Text × A). y.0) ys) ≡ length ys
    texts-length [] = refl
    texts-length (y ∷ ys) = ap suc (texts-length ys)

-- what is found, with none for all others
pub found-known : {A : Type 0} (o : A) (xs : List (Text × A)) (s : Text) → unwrap_or (found None (map (λ (x : Text × A). (x.0, Some x.1)) xs) s) o ≡ found o xs s
unfolding found
found-known o [] s = refl
found-known o (x ∷ xs) s = bool_cases (same s x.0) (λ e. rw e) (λ e. rw e (found-known o xs s))

-- a name beside which something is found has no colon where none of the texts has
found-clean : {A : Type 0} (xs : List (Text × Option A)) (s : Text) (v : A) → every (λ (x : Text × Option A). not (contains colon x.0)) xs ≡ true
    → found None xs s ≡ Some v → contains colon s ≡ false
unfolding found every
found-clean [] s v e h = absurd (none-some v h)
found-clean {A} (x ∷ xs) s v e h =
    let p = and_parts (not (contains colon x.0)) (every (λ (y : Text × Option A). not (contains colon y.0)) xs) e in
    bool_cases (same s x.0)
    (λ q. rw (same-eq s x.0 q) (not-true (contains colon x.0) p.0))
    (λ q. found-clean xs s v p.1 (rw q at h))

pub known-clean : (s : Text) (w : Word) → known_word s ≡ Some w → contains colon s ≡ false
unfolding known_word known_words bytes every contains
known-clean s w h = found-clean (map (λ (x : Text × Word). (x.0, Some x.1)) known_words) s w refl h

pub word-known : (s : Text) → unwrap_or (known_word s) Word.Other ≡ word_of s
unfolding known_word word_of
word-known s = found-known Word.Other known_words s

-- a name whose number is a text's is that text, and has no colon where none of them has
clean-word : (o i : ℕ) (ws : List Text) (s : Text) → every (λ w. not (contains colon w)) ws ≡ true → found o (numbered i ws) s < o → contains colon s ≡ false
unfolding found numbered every
clean-word o i [] s e h = absurd (omega arith)
clean-word o i (w ∷ ws) s e h =
    let p = and_parts (not (contains colon w)) (every (λ v. not (contains colon v)) ws) e in
    bool_cases (same s w)
    (λ q. rw (same-eq s w q) (not-true (contains colon w) p.0))
    (λ q. clean-word o (suc i) ws s p.1 (rw q at h))

pub local-clean : (s : Text) → contains colon s ≡ false → local_name s ≡ s
unfolding local_name
local-clean s h = after_last-none colon s s h

pub key-local : (s : Text) → key_of s < 9 → local_name s ≡ s
unfolding key_of key_words bytes every contains
key-local s h = local-clean s (clean-word 9 0 key_words s refl h)

-- the number of a local name is a key's own exactly for that key
pub key-number : (s : Text) (k : ℕ) → k < 9 → same s (get_or key_words k []) ≡ eqb (key_of s) k
unfolding key_of key_words bytes differ every same
key-number s k h = found_number 9 0 key_words s k (omega arith) h refl ∙ ap (eqb (key_of s)) (omega arith)

-- a number that is at least k and is not k
pub above : {k n : ℕ} → k ≤ n → (n ≡ k → ⊥) → suc k ≤ n
above h other = lt_of_le-ne h (λ e. other (sym e))

-- a name of a known length
pub word-sized : (s : Text) {n : ℕ} → length s ≡ n → found None (sized n (map (λ (x : Text × Word). (x.0, Some x.1)) known_words)) s ≡ known_word s
unfolding known_word
word-sized s e = found_of None (map (λ (x : Text × Word). (x.0, Some x.1)) known_words) s e

pub key-sized : (s : Text) {n : ℕ} → length s ≡ n → found 9 (sized n (numbered 0 key_words)) s ≡ key_of s
unfolding key_of
key-sized s e = found_of 9 (numbered 0 key_words) s e

or-some : {A : Type 0} (o p : Option A) → is_some o ≡ true → option_or o p ≡ o
or-some None p h = absurd (false≢true h)
or-some (Some v) p h = refl

-- what is found in one list, or else in another
pub found-or : {A : Type 0} (xs ys : List (Text × Option A)) (s : Text) → every (λ (x : Text × Option A). is_some x.1) xs ≡ true
    → option_or (found None xs s) (found None ys s) ≡ found None (xs ++ ys) s
unfolding found every
found-or [] ys s e = refl
found-or {A} (x ∷ xs) ys s e =
    let p = and_parts (is_some x.1) (every (λ (y : Text × Option A). is_some y.1) xs) e in
    bool_cases (same s x.0)
    (λ q. rw q (or-some x.1 (found None ys s) p.0))
    (λ q. rw q (found-or xs ys s p.1))

pub found-then : {A : Type 0} (xs ys : List (Text × Option A)) (s : Text) {o p r : Option A} → r ≡ option_or o p → o ≡ found None xs s → p ≡ found None ys s
    → every (λ (x : Text × Option A). is_some x.1) xs ≡ true → r ≡ found None (xs ++ ys) s
found-then xs ys s h a b e = rw (h, a, b) (found-or xs ys s e)

-- the number of a key that is found
pub key-found : (xs : List (Text × Option Key)) (s : Text) → key_number (found None xs s) ≡ found 9 (map (λ (x : Text × Option Key). (x.0, key_number x.1)) xs) s
unfolding found key_number
key-found [] s = refl
key-found (x ∷ xs) s = bool_cases (same s x.0) (λ e. rw e) (λ e. rw e (key-found xs s))

pub key-few : (k : Key) → key_number (Some k) < 9
unfolding key_number
key-few Key.Name = omega arith
key-few Key.Type = omega arith
key-few Key.Base = omega arith
key-few Key.Value = omega arith
key-few Key.MinOccurs = omega arith
key-few Key.MaxOccurs = omega arith
key-few Key.Use = omega arith
key-few Key.Namespace = omega arith
key-few Key.TargetNamespace = omega arith

-- the place of a key is its number
pub key-place : (k : Key) → tag_of the_type k ≡ key_number (Some k)
unfolding key_number
key-place Key.Name = refl
key-place Key.Type = refl
key-place Key.Base = refl
key-place Key.Value = refl
key-place Key.MinOccurs = refl
key-place Key.MaxOccurs = refl
key-place Key.Use = refl
key-place Key.Namespace = refl
key-place Key.TargetNamespace = refl

-- a name that has the length of none
pub found_none : {A : Type 0} (o : A) (xs : List (Text × A)) (s : Text) → every (λ (x : Text × A). not (eqb (length x.0) (length s))) xs ≡ true → found o xs s ≡ o
unfolding found every
found_none o [] s e = refl
found_none {A} o (x ∷ xs) s e =
    let p = and_parts (not (eqb (length x.0) (length s))) (every (λ (y : Text × A). not (eqb (length y.0) (length s))) xs) e in
    let other = eqb-false (length x.0) (length s) (not-true (eqb (length x.0) (length s)) p.0) in
    rw (same-differ s x.0 (λ q. other (sym (ap (λ (t : Text). length t) q)))) (found_none o xs s p.1)
