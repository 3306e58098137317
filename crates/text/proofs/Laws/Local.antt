-- The local name of a local name is itself: behind its last colon no colon is left. A word without a colon is the local name of a name that ends with
-- it and has nothing or a colon before it. Laws of specs/Text.antt. Assumes nothing.
use Rattle.std.specs.Prelude.{if◌then◌else◌}
use mathlib.Core.Path.{◌≡◌, refl, sym, ap, ◌∙◌}
use mathlib.Core.Bool.{Bool, true, false, ◌||◌, false≢true}
use mathlib.Core.Logic.{◌⊎◌, inl, inr}
use mathlib.Core.List.{[], ◌∷◌, ◌++◌}
use Prim.Native.Nat.{ℕ, zero, suc, ◌+◌, ◌-◌, ◌≤◌, ◌<◌}
use native.Mathlib.Nat.{le_refl, not-suc-le-zero, le_of_suc-le-suc}
use native.Mathlib.Omega.{arith}
use borrow.Author.Tests.{eq-eqb, eqb-true, eqb-false}
use lib.ListN.{length, get_or, drop, length-append}
use lib.Seq.{drop-append-add, get_or-append_seam}
use lib.Dec.{eqb}
use Rattle.text.proofs.Laws.Tests.{or-false-left, or-false-right, bool_cases}
use Rattle.text.proofs.Laws.Texts.{same_refl, same-differ}
use Rattle.text.specs.Text.{Text, contains, same, after_last, colon, local_name}

-- where the separator does not stand in s, what is kept stays
pub after_last-none : (c : ℕ) (kept s : Text) → contains c s ≡ false → after_last c kept s ≡ kept
unfolding contains after_last
after_last-none c kept [] e = refl
after_last-none c kept (b ∷ s) e =
    ap (λ (t : Bool). after_last c (if t then s else kept) s) (or-false-left (eqb b c) (contains c s) e)
    ∙ after_last-none c kept s (or-false-right (eqb b c) (contains c s) e)

step : (t : Bool) (c : ℕ) (kept s : Text) → (t || contains c s ≡ false → contains c kept ≡ false) → contains c s ≡ false → contains c (if t then s else kept) ≡ false
step true c kept s h e = e
step false c kept s h e = h e

-- the separator does not stand behind its last place
pub after_last-clean : (c : ℕ) (kept s : Text) → (contains c s ≡ false → contains c kept ≡ false) → contains c (after_last c kept s) ≡ false
unfolding contains after_last
after_last-clean c kept [] h = h refl
after_last-clean c kept (b ∷ s) h = after_last-clean c (if eqb b c then s else kept) s (step (eqb b c) c kept s h)

pub local_name-clean : (name : Text) → contains colon (local_name name) ≡ false
unfolding local_name
local_name-clean name = after_last-clean colon name name (λ e. e)

pub local_name-again : (name : Text) → local_name (local_name name) ≡ local_name name
unfolding local_name
local_name-again name = after_last-none colon (local_name name) (local_name name) (local_name-clean name)

-- a local name is no longer than the name
pub after_last-length : (c : ℕ) (kept s : Text) (n : ℕ) → length kept ≤ n → length s ≤ n → length (after_last c kept s) ≤ n
unfolding after_last
after_last-length c kept [] n h k = h
after_last-length c kept (b ∷ s) n h k = after_last-length c (if eqb b c then s else kept) s n (either (eqb b c)) (omega arith)
  where
    either : (t : Bool) → length (if t then s else kept) ≤ n
    either true = omega arith
    either false = h

pub local_name-length : (name : Text) → length (local_name name) ≤ length name
unfolding local_name
local_name-length name = after_last-length colon name name (length name) (le_refl (length name)) (le_refl (length name))

-- behind a separator whose rest has none is that rest
pub after_last-at : (c : ℕ) (kept s : Text) (i : ℕ) → i < length s → get_or s i 0 ≡ c → contains c (drop (suc i) s) ≡ false → after_last c kept s ≡ drop (suc i) s
unfolding after_last
after_last-at c kept [] i h e f = absurd (not-suc-le-zero h)
after_last-at c kept (b ∷ s) zero h e f =
    ap (λ (t : Bool). after_last c (if t then s else kept) s) (eq-eqb b c e) ∙ after_last-none c s s f
after_last-at c kept (b ∷ s) (suc i) h e f = after_last-at c (if eqb b c then s else kept) s i (le_of_suc-le-suc h) e f

-- what is found is what was kept, or the end of the text behind a separator
abbrev Behind : ℕ → Text → Text → Type 0
Behind c s r = (p : Text) × (s ≡ p ++ c ∷ r)

after_last-behind : (c : ℕ) (kept s : Text) → (after_last c kept s ≡ kept) ⊎ Behind c s (after_last c kept s)
unfolding after_last
after_last-behind c kept [] = inl refl
after_last-behind c kept (b ∷ s) = go (eqb b c) (eqb-true b c) (after_last-behind c (if eqb b c then s else kept) s)
  where
    go : (t : Bool) → (t ≡ true → b ≡ c) → (after_last c (if t then s else kept) s ≡ (if t then s else kept)) ⊎ Behind c s (after_last c (if t then s else kept) s)
        → (after_last c (if t then s else kept) s ≡ kept) ⊎ Behind c (b ∷ s) (after_last c (if t then s else kept) s)
    go true h (inl e) = let g : b ≡ c = h refl in inr ([], cc)
    go false h (inl e) = inl e
    go t h (inr (p, e)) = inr (b ∷ p, ap (λ (l : Text). b ∷ l) e)

-- what is found is an end of the name, and a colon stands before it if it is not the whole name
ends : (name r : Text) → (r ≡ name) ⊎ Behind colon name r → drop (length name - length r) name ≡ r
ends name r (inl e) =
    let none : length name - length r ≡ 0 = omega (arith, ap length e) in
    rw none (sym e)
ends name r (inr (p, e)) =
    let before : length name - length r ≡ length p + 1 = omega (arith, ap length e, length-append p (colon ∷ r)) in
    rw before (ap (drop (length p + 1)) e ∙ drop-append-add p (colon ∷ r) 1)

before-end : (name r : Text) (i : ℕ) → suc i ≡ length name - length r → (r ≡ name) ⊎ Behind colon name r → get_or name i 0 ≡ colon
before-end name r i h (inl e) = let no : ⊥ = omega (arith, ap length e) in absurd no
before-end name r i h (inr (p, e)) =
    let before : i ≡ length p = omega (arith, ap length e, length-append p (colon ∷ r)) in
    rw before (ap (λ (l : Text). get_or l (length p) 0) e ∙ get_or-append_seam p colon r 0)

-- whether the local name is a word
module _ (part word : Text) where
  ends_as : local_name part ≡ word → (word ≡ part) ⊎ Behind colon part word
  unfolding local_name
  ends_as e = rw e at (after_last-behind colon part part)

  pub local-other : same (drop (length part - length word) part) word ≡ false → same (local_name part) word ≡ false
  local-other f =
      same-differ (local_name part) word (λ e. false≢true (sym f ∙ ap (λ (l : Text). same l word) (ends part word (ends_as e)) ∙ same_refl word))

  module _ (clean : contains colon word ≡ false) where
    pub local-whole : part ≡ word → same (local_name part) word ≡ true
    unfolding local_name
    local-whole e = rw (e, after_last-none colon word word clean) (same_refl word)

    -- a colon at the place before the word decides
    pub local-behind : (i : ℕ) → suc i ≡ length part - length word → drop (suc i) part ≡ word → same (local_name part) word ≡ eqb (get_or part i 0) colon
    unfolding local_name
    local-behind i h e =
        bool_cases (eqb (get_or part i 0) colon)
        (λ t. let found = after_last-at colon part part i (omega arith) (eqb-true (get_or part i 0) colon t) (rw e clean) ∙ e in rw (t, found) (same_refl word))
        (λ t. rw t (same-differ (local_name part) word (λ f. eqb-false (get_or part i 0) colon t (before-end part word i h (ends_as f)))))
