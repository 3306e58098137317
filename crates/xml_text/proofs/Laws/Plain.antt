-- A tag's part that stands behind one space, and a value that stands right behind its key and `=` (specs/Tags.antt of the crate `xml`): what the steps over white
-- space give there. Assumes nothing.
use Prim.Native.Nat.{ℕ, suc, ◌+◌, ◌≤◌, ◌<◌}
use mathlib.Core.Path.{◌≡◌, refl, sym, ap, ap₂, ◌∙◌}
use mathlib.Core.List.{[], ◌∷◌}
use mathlib.Core.Bool.{true, false, false≢true}
use native.Mathlib.Omega.{arith}
use native.Mathlib.Numerals.{add-one}
use lib.Dec.{eqb, ltb}
use lib.ListN.{length, drop, length-drop, get_or-eq_default}
use lib.Seq.{drop-drop}
use borrow.Author.Tests.{eqb-true, ne_eqb, ltb-true, ltb-false}
use Rattle.text.specs.Text.{Text, bytes, first}
use Rattle.text.specs.Trim.{is_white_space}
use Rattle.text.proofs.Laws.Texts.{first-drop}
use Rattle.text.proofs.Laws.Tests.{bool_cases, and-true-left, and-true-right}
use Rattle.xml.specs.Steps.{Step, bad, behind, ◌and_then◌, starts_with, spaces}
use Rattle.xml.specs.Values.{value, value_end, is_quote}
use Rattle.xml.specs.Prolog.{eq}
use Rattle.xml.specs.Tags.{wrong, last, attribute_behind, value_behind, attribute, part_of}
use Rattle.xml.proofs.Laws.Steps.{inside-some, starts-length}
use Rattle.xml.proofs.Laws.Written.{spaces-stop, spaces-one, eq-written}
use Rattle.xml_text.specs.Answers.{next_part, last_part, PartIn, is_key_next}
use Rattle.std.specs.Prelude.{is_some, if◌then◌else◌}

-- ---- a part behind one space

record Other (b : ℕ) : Type 0 where
  pub space : is_white_space b ≡ false
  pub slash : eqb b 47 ≡ false
  pub greater : eqb b 62 ≡ false

-- a byte above 62 is no white space and ends no tag
key-other : (b : ℕ) → ltb 62 b ≡ true → Other b
unfolding is_white_space
key-other b e =
    let h = ltb-true 62 b e in record {
      space = rw (ne_eqb b 9 (omega arith), ne_eqb b 10 (omega arith), ne_eqb b 13 (omega arith), ne_eqb b 32 (omega arith));
      slash = ne_eqb b 47 (omega arith);
      greater = ne_eqb b 62 (omega arith);
    }

starts-none : (w : ℕ) (word s : Text) → eqb (first s) w ≡ false → starts_with (w ∷ word) s ≡ false
unfolding starts_with first
starts-none w word [] e = refl
starts-none w word (b ∷ s) e = rw e

starts-first : (w : ℕ) (word s : Text) → starts_with (w ∷ word) s ≡ true → first s ≡ w
unfolding starts_with first
starts-first w word [] e = absurd (false≢true e)
starts-first w word (b ∷ s) e = eqb-true b w (and-true-left (eqb b w) (starts_with word s) e)

key-here : (at : ℕ) (s : Text) → is_key_next s ≡ true → part_of at s ≡ attribute (at + 1) (drop 1 s)
unfolding part_of is_key_next bytes first
key-here at [] e = absurd (false≢true e)
key-here at (b ∷ s) e =
    let o = key-other (first s) (and-true-right (eqb b 32) (ltb 62 (first s)) e) in
    rw (
      eqb-true b 32 (and-true-left (eqb b 32) (ltb 62 (first s)) e),
      spaces-one at s o.space,
      starts-none 47 (62 ∷ []) s o.slash,
      starts-none 62 [] s o.greater,
      ne_eqb (suc at) at (λ (q : suc at ≡ at). omega arith),
      add-one at,
    )

pub key-part : (s : Text) (at : ℕ) → is_key_next (drop at s) ≡ true → part_of at (drop at s) ≡ attribute (at + 1) (drop (at + 1) s)
key-part s at e = key-here at (drop at s) e ∙ ap (attribute (at + 1)) (drop-drop 1 at s)

pub key-inside : (s : Text) (at : ℕ) → is_key_next (drop at s) ≡ true → at < length s
unfolding is_key_next
key-inside s at e =
    inside-some s at 31
    (sym (first-drop s at) ∙ eqb-true (first (drop at s)) 32 (and-true-left (eqb (first (drop at s)) 32) (ltb 62 (first (drop 1 (drop at s)))) e))

-- ---- the end of a tag

-- what stands behind white space: the end of a tag, or what the definition says of another part
module _ (s : Text) (at start : ℕ) (p : spaces at (drop at s) ≡ behind start (drop start s)) where
  pub ends : at ≤ start → is_some (last_part start (drop start s)) ≡ true
      → (next_part s (last_part start (drop start s)) ≡ part_of at (drop at s)) × PartIn (length s) at (last_part start (drop start s))
  unfolding last_part part_of bytes
  ends l h =
      bool_cases (starts_with (47 ∷ 62 ∷ []) (drop start s))
      (λ e. rw (p, e) (sym (ap (last 2 (start + 2)) (drop-drop 2 start s)), (omega arith, omega (arith, starts-length _ _ e, length-drop start s))))
      (λ e. bool_cases (starts_with (62 ∷ []) (drop start s))
      (λ f. rw (p, e, f) (sym (ap (last 1 (start + 1)) (drop-drop 1 start s)), (omega arith, omega (arith, starts-length _ _ f, length-drop start s))))
      (λ f. absurd (false≢true (rw (e, f) at h))))

  pub goes-on : is_some (last_part start (drop start s)) ≡ false → part_of at (drop at s) ≡ (if eqb start at then wrong else attribute start (drop start s))
  unfolding last_part part_of bytes
  goes-on h =
      bool_cases (starts_with (47 ∷ 62 ∷ []) (drop start s))
      (λ e. absurd (false≢true (sym (rw e at h))))
      (λ e. bool_cases (starts_with (62 ∷ []) (drop start s)) (λ f. absurd (false≢true (sym (rw (e, f) at h)))) (λ f. rw (p, e, f)))

stops-here : (w : ℕ) (word : Text) (at : ℕ) (s : Text) → is_white_space w ≡ false → starts_with (w ∷ word) s ≡ true → spaces at s ≡ behind at s
stops-here w word at s n h = spaces-stop at s (ap is_white_space (starts-first w word s h) ∙ n)

-- no white space stands before the end of a tag that stands here
pub ends-here : (at : ℕ) (s : Text) → is_some (last_part at s) ≡ true → spaces at s ≡ behind at s
unfolding last_part bytes is_white_space
ends-here at s h =
    bool_cases (starts_with (47 ∷ 62 ∷ []) s) (λ e. stops-here 47 (62 ∷ []) at s refl e)
    (λ e. bool_cases (starts_with (62 ∷ []) s) (λ f. stops-here 62 [] at s refl f) (λ f. absurd (false≢true (rw (e, f) at h))))

-- ---- a value right behind its key

quote-solid : (b : ℕ) → is_quote b ≡ true → is_white_space b ≡ false
unfolding is_quote is_white_space
quote-solid b e = bool_cases (eqb b 34) (λ h. rw (eqb-true b 34 h)) (λ h. rw (eqb-true b 39 (rw h at e)))

zero-no-quote : is_quote 0 ≡ false
unfolding is_quote
zero-no-quote = refl

value-begun : (at : ℕ) (s : Text) → is_quote (first s) ≡ true → value at s ≡ value_end (first s) (suc at) (drop 1 s)
unfolding value first
value-begun at [] e = absurd (false≢true (sym zero-no-quote ∙ e))
value-begun at (b ∷ s) e = rw e

begun : (s : Text) → starts_with (61 ∷ []) s ≡ true → s ≡ 61 ∷ drop 1 s
unfolding starts_with
begun [] e = absurd (false≢true e)
begun (a ∷ s) e = rw (eqb-true a 61 (and-true-left (eqb a 61) true e))

pub eq-plain : (s : Text) (at : ℕ) → is_quote (first (drop (at + 1) s)) ≡ true → starts_with (61 ∷ []) (drop at s) ≡ true
    → eq at (drop at s) ≡ behind (at + 1) (drop (at + 1) s)
eq-plain s at q h =
    ap (eq at) (begun (drop at s) h ∙ ap (λ (t : Text). 61 ∷ t) (drop-drop 1 at s)) ∙ eq-written at (drop (at + 1) s) (quote-solid (first (drop (at + 1) s)) q)

-- a value that a quote begins, and none without one
module _ (s : Text) (at : ℕ) (q : is_quote (first (drop at s)) ≡ true) where
  pub value-opened : value at (drop at s) ≡ value_end (first (drop at s)) (at + 1) (drop (at + 1) s)
  value-opened =
      let e : suc at ≡ at + 1 = omega arith in
      value-begun at (drop at s) q ∙ ap₂ (value_end (first (drop at s))) e (drop-drop 1 at s)

  pub quote-within : at < length s
  quote-within =
      bool_cases (ltb at (length s))
      (λ h. ltb-true at (length s) h)
      (λ h.
      let e : first (drop at s) ≡ 0 = first-drop s at ∙ get_or-eq_default s 0 (ltb-false at (length s) h) in
      absurd (false≢true (sym zero-no-quote ∙ ap is_quote (sym e) ∙ q)))

pub value-none : (at : ℕ) (s : Text) → is_quote (first s) ≡ false → value at s ≡ bad
unfolding value first
value-none at [] e = refl
value-none at (b ∷ s) e = rw e

pub no-value : (at : ℕ) (s : Text) (e : ℕ) (d : Step) → d and_then value ≡ bad → value_behind at s e d ≡ wrong
no-value at s e bad h = refl
no-value at s e (behind q t) h = ap (attribute_behind at s e q) h
