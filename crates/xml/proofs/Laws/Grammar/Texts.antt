-- Attribute values [10] and character data [14] (specs/Grammar.antt), both ways. The scan goes byte by byte through a reference, whose bytes behind `&` are
-- plain ones. Assumes nothing.
use Prim.Native.Nat.{ℕ, zero, suc, ◌+◌, ◌≤◌, ◌<◌}
use mathlib.Core.Path.{◌≡◌, refl, sym, ap, subst, ◌∙◌}
use mathlib.Core.Logic.{◌⊎◌, ⊎_elim}
use mathlib.Core.List.{[], ◌∷◌, ◌++◌, append_assoc}
use mathlib.Core.Bool.{true, false, not}
use native.Mathlib.Omega.{arith}
use lib.Dec.{eqb}
use lib.ListN.{length, length-append}
use borrow.Author.Tests.{eqb-true, eq-eqb, not-true}
use Rattle.text.specs.Text.{Text, bytes, first, every}
use Rattle.std.proofs.lemmas.Bool.{and_parts, or_cases}
use Rattle.text.proofs.Laws.Tests.{bool_cases, three, four}
use Rattle.text.proofs.Laws.Every.{every-cons, every-head, every-tail}
use Rattle.xml.specs.Classes.{is_char}
use Rattle.xml.specs.Steps.{Step, behind, starts_with}
use Rattle.xml.specs.Values.{is_reference, starts_character, value_end, is_quote, value, char_data, is_in_text, is_in_value}
use Rattle.xml.specs.Grammar.{Many, none, more, Without, Reference, is_value_char, ValuePart, value_char, value_reference, AttValue, double_quoted, single_quoted, is_text_char, CharData}
use Rattle.xml.specs.Grammar as grammar
use Rattle.xml.proofs.Laws.Names.{behind-rest, bad-not}
use Rattle.xml.proofs.Laws.Values.{in-value, in-data}
use Rattle.xml.proofs.Laws.Grammar.Basics.{behind-same, regroup}
use Rattle.xml.proofs.Laws.Grammar.Markup.{without_more, without-tail, some-not, bracket-third}
use Rattle.xml.proofs.Laws.Grammar.References.{reference-sound, reference-complete, is_in_both, reference-bytes}

-- a reference has bytes
pub reference-some : {v : Text} → Reference v → 0 < length v
reference-some d = let b = reference-bytes d in omega (arith, ap length b.1)

-- over a reference
value-over : (q : ℕ) → is_quote q ≡ true → (w : Text) → every is_in_both w ≡ true → (at : ℕ) (r : Text) → value_end q at (w ++ r) ≡ value_end q (at + length w) r
unfolding every is_in_both
value-over q k [] h at r = ap (λ (x : ℕ). value_end q x r) (omega arith)
value-over q k (b ∷ w) h at r =
    let f = and_parts (is_in_both b) (every is_in_both w) h in
    let g = and_parts (is_in_text b) (is_in_value b) f.0 in
    in-value q b at (w ++ r) k g.1 ∙ value-over q k w f.1 (suc at) r ∙ ap (λ (x : ℕ). value_end q x r) (omega arith)

amp-no-quote : (q : ℕ) → is_quote q ≡ true → eqb 38 q ≡ false
unfolding is_quote
amp-no-quote q k = ⊎_elim (λ e. rw (eqb-true q 34 e)) (λ e. rw (eqb-true q 39 e)) (or_cases (eqb q 34) (eqb q 39) k)

value-amp : (q : ℕ) → is_quote q ≡ true → (at : ℕ) (s : Text) → is_reference (38 ∷ s) ≡ true → value_end q at (38 ∷ s) ≡ value_end q (suc at) s
unfolding value_end starts_character
value-amp q k at s h = rw (amp-no-quote q k, h)

pub value-pass : (q : ℕ) → is_quote q ≡ true → {v : Text} → Reference v → (at : ℕ) (r : Text) → value_end q at (v ++ r) ≡ value_end q (at + length v) r
value-pass q k {v} d at r =
    let b = reference-bytes d in
    let h : is_reference (38 ∷ (b.0 ++ r)) ≡ true = subst (λ (t : Text). is_reference (t ++ r) ≡ true) b.1 (reference-complete d r) in
    ap (λ (t : Text). value_end q at (t ++ r)) b.1 ∙ value-amp q k at (b.0 ++ r) h ∙ value-over q k b.0 b.2 (suc at) r
    ∙ ap (λ (x : ℕ). value_end q x r) (omega (arith, ap length b.1))

data-over : (w : Text) → every is_in_both w ≡ true → (at : ℕ) (r : Text) → char_data at (w ++ r) ≡ char_data (at + length w) r
unfolding every is_in_both
data-over [] h at r = ap (λ (x : ℕ). char_data x r) (omega arith)
data-over (b ∷ w) h at r =
    let f = and_parts (is_in_both b) (every is_in_both w) h in
    let g = and_parts (is_in_text b) (is_in_value b) f.0 in
    in-data b at (w ++ r) g.0 ∙ data-over w f.1 (suc at) r ∙ ap (λ (x : ℕ). char_data x r) (omega arith)

data-amp : (at : ℕ) (s : Text) → is_reference (38 ∷ s) ≡ true → char_data at (38 ∷ s) ≡ char_data (suc at) s
unfolding char_data starts_character bytes starts_with
data-amp at s h = rw h

pub data-pass : {v : Text} → Reference v → (at : ℕ) (r : Text) → char_data at (v ++ r) ≡ char_data (at + length v) r
data-pass {v} d at r =
    let b = reference-bytes d in
    let h : is_reference (38 ∷ (b.0 ++ r)) ≡ true = subst (λ (t : Text). is_reference (t ++ r) ≡ true) b.1 (reference-complete d r) in
    ap (λ (t : Text). char_data at (t ++ r)) b.1 ∙ data-amp at (b.0 ++ r) h ∙ data-over b.0 b.2 (suc at) r
    ∙ ap (λ (x : ℕ). char_data x r) (omega (arith, ap length b.1))

-- a reference taken off the front: the scan goes on behind it
reference-off : (f : ℕ → Text → Step) → ((v : Text) → Reference v → (at : ℕ) (r : Text) → f at (v ++ r) ≡ f (at + length v) r) → (n at : ℕ) (s : Text) → is_reference s ≡ true
    → length s ≤ suc n → (v : Text) × (t : Text) × Reference v × (s ≡ v ++ t) × (length t ≤ n) × (f at s ≡ f (at + length v) t)
reference-off f pass n at s w l =
    let d = reference-sound s w in
    let size = ap length d.3 ∙ length-append d.0 d.1 in
    (d.0, d.1, d.2, d.3, omega (arith, reference-some d.2), ap (f at) d.3 ∙ pass d.0 d.2 at d.1)

-- [10]
value-end-sound : (n q : ℕ) → is_quote q ≡ true → (at : ℕ) (s : Text) → length s ≤ n → (e : ℕ) (r : Text) → value_end q at s ≡ behind e r → (v : Text) × Many (ValuePart q) v × (s ≡ v ++ (q ∷ r))
unfolding value_end starts_character is_value_char
value-end-sound zero q k at [] l e r h = absurd (bad-not h)
value-end-sound zero q k at (b ∷ s) l e r h = absurd (omega arith)
value-end-sound (suc n) q k at [] l e r h = absurd (bad-not h)
value-end-sound (suc n) q k at (b ∷ s) l e r h =
    bool_cases (eqb b q)
    (λ y. ([], none, rw (eqb-true b q y, behind-rest (rw y at h))))
    (λ y.
    let p = rw y at h in
    bool_cases (eqb b 60)
    (λ z. absurd (bad-not (rw z at p)))
    (λ z.
    let o = rw z at p in
    bool_cases (eqb b 38)
    (λ x.
    bool_cases (is_reference (b ∷ s))
    (λ w.
    let d = reference-off (value_end q) (λ v d. value-pass q k d) n at (b ∷ s) w l in
    let i = value-end-sound n q k (at + length d.0) d.1 d.4 e r (sym d.5 ∙ h) in
    (d.0 ++ i.0, more (value_reference d.2) i.1, d.3 ∙ ap (λ (t : Text). d.0 ++ t) i.2 ∙ sym (append_assoc d.0 i.0 (q ∷ r))))
    (λ w. absurd (bad-not (rw (x, w) at o))))
    (λ x.
    bool_cases (is_char b)
    (λ w.
    let i = value-end-sound n q k (suc at) s (omega arith) e r (rw (x, w) at o) in
    (b ∷ i.0, more (value_char (rw (w, z, x, y))) i.1, ap (λ (t : Text). b ∷ t) i.2))
    (λ w. absurd (bad-not (rw (x, w) at o))))))

pub value-end-complete : (q : ℕ) → is_quote q ≡ true → {v : Text} → Many (ValuePart q) v → (at : ℕ) (r : Text) → value_end q at (v ++ (q ∷ r)) ≡ behind (at + length v + 1) r
unfolding value_end starts_character is_value_char
value-end-complete q k none at r = rw (eq-eqb q q refl) (behind-same (omega arith))
value-end-complete q k (more {t = v} (value_char {b} c) m) at r =
    let f = four (is_char b) (not (eqb b 60)) (not (eqb b 38)) (not (eqb b q)) c in
    rw (not-true (eqb b q) f.3, not-true (eqb b 60) f.1, not-true (eqb b 38) f.2, f.0)
    (value-end-complete q k m (suc at) r ∙ behind-same (omega arith))
value-end-complete q k (more {s = u} {t = v} (value_reference d) m) at r =
    rw (append_assoc u v (q ∷ r))
    (value-pass q k d at (v ++ (q ∷ r)) ∙ value-end-complete q k m (at + length u) r ∙ behind-same (omega (arith, length-append u v)))

pub value-sound : (at : ℕ) (s : Text) (e : ℕ) (r : Text) → value at s ≡ behind e r → (v : Text) × (w : Text) × AttValue v w × (s ≡ w ++ r)
unfolding value is_quote bytes
value-sound at [] e r h = absurd (bad-not h)
value-sound at (b ∷ s) e r h =
    bool_cases (eqb b 34)
    (λ y.
    let q = eqb-true b 34 y in
    let i = value-end-sound (length s) 34 refl (suc at) s (omega arith) e r (subst (λ (x : ℕ). value at (x ∷ s) ≡ behind e r) q h) in
    (i.0, 34 ∷ (i.0 ++ (34 ∷ [])), double_quoted i.1, ap (λ (x : ℕ). x ∷ s) q ∙ ap (λ (t : Text). 34 ∷ t) (i.2 ∙ sym (append_assoc i.0 (34 ∷ []) r))))
    (λ y.
    bool_cases (eqb b 39)
    (λ z.
    let q = eqb-true b 39 z in
    let i = value-end-sound (length s) 39 refl (suc at) s (omega arith) e r (subst (λ (x : ℕ). value at (x ∷ s) ≡ behind e r) q h) in
    (i.0, 39 ∷ (i.0 ++ (39 ∷ [])), single_quoted i.1, ap (λ (x : ℕ). x ∷ s) q ∙ ap (λ (t : Text). 39 ∷ t) (i.2 ∙ sym (append_assoc i.0 (39 ∷ []) r))))
    (λ z. absurd (bad-not (rw (y, z) at h))))

pub value-complete : {v w : Text} → AttValue v w → (at : ℕ) (r : Text) → (value at (w ++ r) ≡ behind (at + length v + 2) r) × (length w ≡ length v + 2)
unfolding value is_quote bytes
value-complete (double_quoted {s} m) at r =
    (rw (append_assoc s (34 ∷ []) r) (value-end-complete 34 refl m (suc at) r ∙ behind-same (omega arith)), omega (arith, length-append s (34 ∷ [])))
value-complete (single_quoted {s} m) at r =
    (rw (append_assoc s (39 ∷ []) r) (value-end-complete 39 refl m (suc at) r ∙ behind-same (omega arith)), omega (arith, length-append s (39 ∷ [])))

-- [14] with the references behind it
pub data Refs : Text → Type 0 where
  no_ref : Refs []
  one_ref : {s t u : Text} → Reference s → CharData t → Refs u → Refs (s ++ (t ++ u))

pub nothing : CharData []
unfolding every bytes
nothing = grammar.char_data refl (some-not 93 (93 ∷ 62 ∷ []))

more-data : (b : ℕ) (s a x : Text) → is_char b ≡ true → eqb b 60 ≡ false → eqb b 38 ≡ false → starts_with (bytes "]]>") (b ∷ s) ≡ false → s ≡ a ++ x → CharData a → CharData (b ∷ a)
unfolding is_text_char
more-data b s a x c l m n h (grammar.char_data y k) = grammar.char_data {s = b ∷ a} (every-cons is_text_char b a (rw (c, l, m)) y) (without_more (bytes "]]>") b s a x n h k)

data-sound-from : (n at : ℕ) (s : Text) → length s ≤ n → (e : ℕ) (r : Text) → char_data at s ≡ behind e r → (a : Text) × (t : Text) × CharData a × Refs t × (s ≡ a ++ (t ++ r))
unfolding char_data starts_character
data-sound-from zero at [] l e r h = ([], [], nothing, no_ref, behind-rest h)
data-sound-from (suc n) at [] l e r h = ([], [], nothing, no_ref, behind-rest h)
data-sound-from zero at (b ∷ s) l e r h = absurd (omega arith)
data-sound-from (suc n) at (b ∷ s) l e r h =
    bool_cases (eqb b 60)
    (λ y. ([], [], nothing, no_ref, behind-rest (rw y at h)))
    (λ y.
    let p = rw y at h in
    bool_cases (starts_with (bytes "]]>") (b ∷ s))
    (λ z. absurd (bad-not (rw z at p)))
    (λ z.
    let o = rw z at p in
    bool_cases (eqb b 38)
    (λ x.
    bool_cases (is_reference (b ∷ s))
    (λ w.
    let d = reference-off char_data (λ v d. data-pass d) n at (b ∷ s) w l in
    let i = data-sound-from n (at + length d.0) d.1 d.4 e r (sym d.5 ∙ h) in
    ([], d.0 ++ (i.0 ++ i.1), nothing, one_ref d.2 i.2 i.3, d.3 ∙ ap (λ (t : Text). d.0 ++ t) i.4 ∙ sym (regroup d.0 i.0 i.1 r)))
    (λ w. absurd (bad-not (rw (x, w) at o))))
    (λ x.
    bool_cases (is_char b)
    (λ w.
    let i = data-sound-from n (suc at) s (omega arith) e r (rw (x, w) at o) in
    (b ∷ i.0, i.1, more-data b s i.0 (i.1 ++ r) w y x z i.4 i.2, i.3, ap (λ (t : Text). b ∷ t) i.4))
    (λ w. absurd (bad-not (rw (x, w) at o))))))

pub data-sound : (at : ℕ) (s : Text) (e : ℕ) (r : Text) → char_data at s ≡ behind e r → (a : Text) × (t : Text) × CharData a × Refs t × (s ≡ a ++ (t ++ r))
data-sound at s e r h = data-sound-from (length s) at s (omega arith) e r h

-- what stands behind character data begins with `<` or `&`
abbrev pub Stops : Text → Type 0
Stops r = (first r ≡ 60) ⊎ (first r ≡ 38)

stops-other : (k : ℕ) → eqb 60 k ≡ false → eqb 38 k ≡ false → (b : ℕ) (r : Text) → Stops (b ∷ r) → eqb b k ≡ false
unfolding first
stops-other k x y b r h = ⊎_elim (λ (e : b ≡ 60). rw e x) (λ (e : b ≡ 38). rw e y) h

no-bracket : (b : ℕ) (c r : Text) → Without (93 ∷ 93 ∷ 62 ∷ []) (b ∷ c) → Stops r → starts_with (93 ∷ 93 ∷ 62 ∷ []) (b ∷ (c ++ r)) ≡ false
unfolding starts_with
no-bracket b [] [] n h = bool_cases (eqb b 93) (λ y. rw y) (λ y. rw y)
no-bracket b [] (x ∷ r) n h = bool_cases (eqb b 93) (λ y. rw (y, stops-other 93 refl refl x r h)) (λ y. rw y)
no-bracket b (c ∷ []) [] n h = bool_cases (eqb b 93) (λ y. bool_cases (eqb c 93) (λ z. rw (y, z)) (λ z. rw (y, z))) (λ y. rw y)
no-bracket b (c ∷ []) (x ∷ r) n h =
    bool_cases (eqb b 93) (λ y. bool_cases (eqb c 93) (λ z. rw (y, z, stops-other 62 refl refl x r h)) (λ z. rw (y, z))) (λ y. rw y)
no-bracket b (c ∷ d ∷ v) r n h = bracket-third b c d v (v ++ r) n

data-on-complete : (c : Text) → every is_text_char c ≡ true → Without (93 ∷ 93 ∷ 62 ∷ []) c → (at : ℕ) (r : Text) → Stops r → char_data at (c ++ r) ≡ char_data (at + length c) r
unfolding char_data starts_character is_text_char bytes
data-on-complete [] y n at r h = ap (λ (x : ℕ). char_data x r) (omega arith)
data-on-complete (b ∷ c) y n at r h =
    let f = three (is_char b) (not (eqb b 60)) (not (eqb b 38)) (every-head is_text_char b c y) in
    rw (not-true (eqb b 60) f.1, no-bracket b c r n h, not-true (eqb b 38) f.2, f.0)
    (data-on-complete c (every-tail is_text_char b c y) (without-tail (93 ∷ 93 ∷ 62 ∷ []) b c n) (suc at) r h ∙ ap (λ (x : ℕ). char_data x r) (omega arith))

pub data-complete : {c : Text} → CharData c → (at : ℕ) (r : Text) → Stops r → char_data at (c ++ r) ≡ char_data (at + length c) r
unfolding bytes
data-complete {c} (grammar.char_data y n) at r h = data-on-complete c y n at r h
