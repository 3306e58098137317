-- A value that may be written whole (is_value of the crate `xml`, specs/Written.antt), from place i on, and bytes that stand inside a text. Assumes nothing.
use Prim.Native.Nat.{ℕ, zero, suc, ◌+◌, ◌≤◌, ◌<◌}
use native.Mathlib.Omega.{arith}
use native.Mathlib.Numerals.{add-one}
use Prim.Native.Char.{code}
use mathlib.Core.Path.{◌≡◌, refl, sym, ap, ◌∙◌}
use mathlib.Core.List.{[], ◌∷◌}
use mathlib.Core.Bool.{Bool, true, false, false≢true, not}
use lib.Dec.{eqb}
use lib.ListN.{length, get_or, take, drop, drop_of_length-le}
use lib.Seq.{drop-cons}
use borrow.Author.Tests.{eq-eqb, ne_eqb, not-true}
use Rattle.text.specs.Text.{Text, every}
use Rattle.text.proofs.Laws.Tests.{bool_cases, four, and-true}
use Rattle.text.proofs.Laws.Every.{every-head, every-tail}
use Rattle.xml.specs.Classes.{is_char}
use Rattle.xml.specs.Steps.{behind, many}
use Rattle.xml.specs.Values.{starts_character, is_quote, is_in_text, is_in_value}
use Rattle.xml.specs.Written.{is_value}
use Rattle.xml.proofs.Laws.Steps.{inside-some, many-on}
use Rattle.xml.proofs.Laws.Names.{behind-at, behind-rest}
use Rattle.xml.proofs.Laws.Values.{other-quote}

module _ (quote : ℕ) (s : Text) (i : ℕ) where
  pub held-end : length s ≤ i → is_value quote (drop i s) ≡ true
  unfolding is_value
  held-end h = rw (drop_of_length-le s h)

  pub held-quote : i < length s → get_or s i 0 ≡ quote → is_value quote (drop i s) ≡ false
  unfolding is_value
  held-quote h e = rw (drop-cons s i 0 h, eq-eqb (get_or s i 0) quote e)

  pub held-less : i < length s → (get_or s i 0 ≡ quote → ⊥) → get_or s i 0 ≡ code "<" → is_value quote (drop i s) ≡ false
  unfolding is_value
  held-less h e d = rw (drop-cons s i 0 h, ne_eqb (get_or s i 0) quote e, eq-eqb (get_or s i 0) 60 d)

  pub held-wrong : i < length s → (get_or s i 0 ≡ quote → ⊥) → (get_or s i 0 ≡ code "<" → ⊥) → starts_character (drop i s) ≡ false → is_value quote (drop i s) ≡ false
  unfolding is_value
  held-wrong h e d p = rw (drop-cons s i 0 h, ne_eqb (get_or s i 0) quote e, ne_eqb (get_or s i 0) 60 d, (rw (drop-cons s i 0 h) at p))

  pub held_on : i < length s → (get_or s i 0 ≡ quote → ⊥) → (get_or s i 0 ≡ code "<" → ⊥) → starts_character (drop i s) ≡ true → is_value quote (drop i s) ≡ is_value quote (drop (suc i) s)
  unfolding is_value
  held_on h e d p = rw (drop-cons s i 0 h, ne_eqb (get_or s i 0) quote e, ne_eqb (get_or s i 0) 60 d, (rw (drop-cons s i 0 h) at p))

-- a run of bytes that need no look leaves the verdict to what stands behind it
in_held : (quote b : ℕ) (s : Text) → is_quote quote ≡ true → is_in_value b ≡ true → is_value quote (b ∷ s) ≡ is_value quote s
unfolding is_in_value is_value starts_character
in_held quote b s q h =
    let f = four (is_char b) (not (eqb b 60)) (not (eqb b 38)) (not (is_quote b)) h in
    rw (other-quote quote b q (not-true (is_quote b) f.3), not-true (eqb b 60) f.1, not-true (eqb b 38) f.2, f.0)

pub held-run : (quote : ℕ) → is_quote quote ≡ true → (at : ℕ) (s : Text) (e : ℕ) (r : Text) → behind e r ≡ many is_in_value at s → is_value quote s ≡ is_value quote r
unfolding many
held-run quote q at [] e r h = ap (is_value quote) (sym (behind-rest h))
held-run quote q at (b ∷ s) e r h =
    bool_cases (is_in_value b)
    (λ t. in_held quote b s q t ∙ held-run quote q (suc at) s e r (rw t at h))
    (λ t. ap (is_value quote) (sym (behind-rest (rw t at h))))

-- a text of such bytes alone may be written between either quotes
pub plain-held : (quote : ℕ) → is_quote quote ≡ true → (s : Text) → every is_in_value s ≡ true → is_value quote s ≡ true
unfolding is_value
plain-held quote q [] h = refl
plain-held quote q (b ∷ s) h = in_held quote b s q (every-head is_in_value b s h) ∙ plain-held quote q s (every-tail is_in_value b s h)

-- the bytes that a run passes over are all of the class
pub many-every : (p : ℕ → Bool) (at : ℕ) (s : Text) (e : ℕ) (r : Text) (n : ℕ) → behind e r ≡ many p at s → at + n ≤ e → every p (take n s) ≡ true
unfolding many every
many-every p at s e r zero h k = refl
many-every p at [] e r (suc n) h k = refl
many-every p at (b ∷ s) e r (suc n) h k =
    bool_cases (p b)
    (λ t. and-true t (many-every p (suc at) s e r n (rw t at h) (omega arith)))
    (λ t. absurd (omega (arith, behind-at (rw t at h))))

-- a byte that is not 0 stands inside the text
pub byte-inside : (b : ℕ) → 0 < b → (s : Text) (i : ℕ) → get_or s i 0 ≡ b → i < length s
byte-inside zero h s i e = absurd (omega arith)
byte-inside (suc b) h s i e = inside-some s i b e

-- a byte that text may hold is passed over
pub text-past : (b : ℕ) → 0 < b → is_in_text b ≡ true → (s : Text) (i : ℕ) → get_or s i 0 ≡ b → many is_in_text (i + 1) (drop (i + 1) s) ≡ many is_in_text i (drop i s)
text-past b z h s i e = rw (add-one i) (sym (many-on is_in_text s i i (byte-inside b z s i e) (ap is_in_text e ∙ h)))

-- a quote is a byte of the text, since none is 0
pub quote-inside : (quote : ℕ) → is_quote quote ≡ true → (s : Text) (i : ℕ) → get_or s i 0 ≡ quote → i < length s
unfolding is_quote
quote-inside zero q s i e = absurd (false≢true q)
quote-inside (suc b) q s i e = inside-some s i b e
