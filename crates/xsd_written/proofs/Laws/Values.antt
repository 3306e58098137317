-- 22 by the grammar of XML 1.0: a value is held exactly if it stands between the quotes of an [10] AttValue. What a derivation has between its quotes passes byte by byte,
-- references whole; and between the quotes that are written the recogniser takes it, which is sound. Assumes nothing.
use Prim.Native.Nat.{ℕ, ◌+◌}
use native.Mathlib.Omega.{arith}
use mathlib.Core.Path.{◌≡◌, refl, sym, ap, subst, ◌∙◌}
use mathlib.Core.Logic.{◌↔◌}
use mathlib.Core.Bool.{true, false, not}
use mathlib.Core.List.{[], ◌∷◌, ◌++◌, append-nil}
use lib.Dec.{eqb}
use lib.ListN.{length, length-append, take, drop}
use lib.Seq.{take_at}
use Rattle.text.specs.Text.{Text, bytes, every, contains}
use Rattle.std.proofs.lemmas.Bool.{and_parts, not-true}
use Rattle.text.proofs.Laws.Tests.{four, bool_cases, or-false-left, or-false-right}
use Rattle.text.proofs.Laws.Every.{every-head, every-tail}
use Rattle.xml.specs.Classes.{is_char}
use Rattle.xml.specs.Grammar.{Many, none, more, is_value_char, ValuePart, value_char, value_reference, AttValue, double_quoted, single_quoted}
use Rattle.xml.specs.Values.{starts_character, is_reference, is_quote, is_in_text, is_in_value}
use Rattle.xml.specs.Written.{is_value, quote_of}
use Rattle.xml.proofs.Laws.Values.{other-quote}
use Rattle.xml.proofs.Laws.Written.{value_written, quote-is}
use Rattle.xml.proofs.Laws.Grammar.References.{is_in_both, reference-complete, reference-bytes}
use Rattle.xml.proofs.Laws.Grammar.Texts.{value-sound}
use Rattle.xsd_written.specs.Call.{holds}

-- ---- what is derived passes

-- the bytes of a reference behind its `&`
bytes-value : (q : ℕ) → is_quote q ≡ true → (w t : Text) → every is_in_both w ≡ true → is_value q t ≡ true → is_value q (w ++ t) ≡ true
unfolding is_value starts_character is_in_both is_in_value
bytes-value q k [] t h e = e
bytes-value q k (b ∷ w) t h e =
    let (_, i) = and_parts (is_in_text b) (is_in_value b) (every-head is_in_both b w h) in
    let (c, l, a, n) = four (is_char b) (not (eqb b 60)) (not (eqb b 38)) (not (is_quote b)) i in
    rw (other-quote q b k (not-true (is_quote b) n), not-true (eqb b 60) l, not-true (eqb b 38) a, c) (bytes-value q k w t (every-tail is_in_both b w h) e)

parts-value : (q : ℕ) → is_quote q ≡ true → eqb 38 q ≡ false → {v : Text} → Many (ValuePart q) v → is_value q v ≡ true
unfolding is_value starts_character is_value_char
parts-value q k z none = refl
parts-value q k z (more {t = t} (value_char {b} e) m) =
    let (c, l, a, n) = four (is_char b) (not (eqb b 60)) (not (eqb b 38)) (not (eqb b q)) e in
    rw (not-true (eqb b q) n, not-true (eqb b 60) l, not-true (eqb b 38) a, c) (parts-value q k z m)
parts-value q k z (more {s = u} {t = t} (value_reference d) m) =
    let (w, e, h) = reference-bytes d in
    let r : is_reference (38 ∷ (w ++ t)) ≡ true = rw e at (reference-complete d t) in
    rw e (rw (z, r) (bytes-value q k w t h (parts-value q k z m)))

-- ---- the quote that is written

no-quote : (q : ℕ) (v : Text) → is_value q v ≡ true → contains q v ≡ false
unfolding is_value contains
no-quote q [] h = refl
no-quote q (b ∷ v) h =
    let (n, l, p, e) = four (not (eqb b q)) (not (eqb b 60)) (starts_character (b ∷ v)) (is_value q v) h in
    rw (not-true (eqb b q) n, no-quote q v e)

-- what stands between quotes of one kind and has none of the other may stand between those
other-value : (q r : ℕ) (v : Text) → is_value q v ≡ true → contains r v ≡ false → is_value r v ≡ true
unfolding is_value contains
other-value q r [] h c = refl
other-value q r (b ∷ v) h c =
    let (n, l, p, e) = four (not (eqb b q)) (not (eqb b 60)) (starts_character (b ∷ v)) (is_value q v) h in
    rw (or-false-left (eqb b r) (contains r v) c, not-true (eqb b 60) l, p) (other-value q r v e (or-false-right (eqb b r) (contains r v) c))

derived-held : {v w : Text} → AttValue v w → holds v ≡ true
unfolding holds quote_of is_quote
derived-held (double_quoted {s = v} m) = let e = parts-value 34 refl refl m in rw (no-quote 34 v e) e
derived-held (single_quoted {s = v} m) =
    let e = parts-value 39 refl refl m in
    bool_cases (contains 34 v) (λ c. rw c e) (λ c. rw c (other-value 39 34 v e c))

-- ---- what is held is derived

same-inside : (v u : Text) (q p : ℕ) → q ∷ (v ++ (q ∷ [])) ≡ (p ∷ (u ++ (p ∷ []))) ++ [] → u ≡ v
same-inside v u q p e =
    let f : v ++ (q ∷ []) ≡ u ++ (p ∷ []) = ap (drop 1) e ∙ append-nil (u ++ (p ∷ [])) in
    let n : length u ≡ length v = omega (arith, ap length f, length-append v (q ∷ []), length-append u (p ∷ [])) in
    sym (take_at u (p ∷ []) (length v) n) ∙ ap (take (length v)) (sym f) ∙ take_at v (q ∷ []) (length v) refl

value_of : {u w : Text} → AttValue u w → (v : Text) (q : ℕ) → q ∷ (v ++ (q ∷ [])) ≡ w ++ [] → u ≡ v
unfolding bytes
value_of (double_quoted {s = u} m) v q e = same-inside v u q 34 e
value_of (single_quoted {s = u} m) v q e = same-inside v u q 39 e

held-derived : (v : Text) → holds v ≡ true → (w : Text) × AttValue v w
unfolding holds
held-derived v h =
    let q = quote_of v in
    let (u, w, d, e) = value-sound 0 (q ∷ v ++ q ∷ []) (0 + length v + 2) [] (value_written q 0 v [] (quote-is v) h) in
    (w, subst (λ (t : Text). AttValue t w) (value_of d v q e) d)

pub held-exactly : (v : Text) → (holds v ≡ true) ↔ ((w : Text) × AttValue v w)
held-exactly v = (held-derived v, λ d. derived-held d.1)
