-- What stands around the root (specs/Grammar.antt, [22] to [27], [32], [80] and [81]), both ways. Assumes nothing.
use Prim.Native.Nat.{ℕ, zero, suc, ◌+◌, ◌<◌}
use mathlib.Core.Path.{◌≡◌, refl, sym, ap, subst, ◌∙◌}
use mathlib.Core.List.{[], ◌∷◌, ◌++◌, append-nil, append_assoc}
use mathlib.Core.Bool.{true, false, false≢true}
use native.Mathlib.Omega.{arith}
use lib.Dec.{eqb}
use lib.ListN.{length, length-append}
use borrow.Author.Tests.{eqb-true}
use Rattle.text.specs.Text.{Text, bytes, first, every, between, is_digit}
use Rattle.text.specs.Trim.{is_white_space}
use Rattle.std.proofs.lemmas.Bool.{and_parts}
use Rattle.text.proofs.Laws.Tests.{bool_cases}
use Rattle.xml.specs.Classes.{is_letter, is_encoding}
use Rattle.xml.specs.Steps.{Step, behind, ◌and_then◌, starts_with, literal, many, one_then, spaces, space}
use Rattle.xml.specs.Grammar.{Opt, absent, present, Many, none, more, S, Comment, PI, VersionNum, version_num, EncName, YesNo, Quoted, single, double, Declares}
use Rattle.xml.specs.Grammar.{declares, XMLDecl, xml_decl, Misc, misc_comment, misc_pi, misc_s}
use Rattle.xml.specs.Values.{is_quote}
use Rattle.xml.specs.Prolog.{eq, quoted, version_number, encoding_name, yes_or_no, declared, ends_at, optional, declaration, is_misc, misc_part, misc_from, misc}
use Rattle.xml.specs.Grammar as grammar
use Rattle.xml.proofs.Laws.Names.{behind-at, behind-rest, bad-not}
use Rattle.xml.proofs.Laws.Moves.{then-ends, spaces-moves, misc-stop}
use Rattle.xml.proofs.Laws.Grammar.Basics.{Splits, Sound, behind-same, starts-word, literal-sound, literal-complete, run_sound, run-complete, space-sound}
use Rattle.xml.proofs.Laws.Grammar.Basics.{space-complete, s-white, spaces-sound, spaces-complete, eq-sound, eq-complete, Is, is-sound, Then, then-sound, then_is}
use Rattle.xml.proofs.Laws.Grammar.Markup.{comment-sound, comment-complete, comment-some, instruction-sound, instruction-complete, instruction-some}

-- [27]
misc-opt : {w t : Text} → Opt S w → Many Misc t → Many Misc (w ++ t)
misc-opt absent m = m
misc-opt (present s) m = more (misc_s s) m

misc-part-sound : Sound Misc misc_part
unfolding misc_part
misc-part-sound at s e r h =
    bool_cases (starts_with (bytes "<!--") s)
    (λ y. let k = comment-sound at s e r (rw y at h) in (k.0, misc_comment k.1, k.2, k.3))
    (λ y. let k = instruction-sound at s e r (rw y at h) in (k.0, misc_pi k.1, k.2, k.3))

misc-from-sound : (turns at : ℕ) (s : Text) (a : ℕ) (t : Text) (e : ℕ) (r : Text) → spaces at s ≡ behind a t → misc_from turns a t ≡ behind e r → Splits (Many Misc) at s e r
unfolding misc_from
misc-from-sound zero at s a t e r p h = absurd (bad-not h)
misc-from-sound (suc turns) at s a t e r p h =
    let o = spaces-sound at s a t p in
    bool_cases (is_misc t)
    (λ y.
    let z = then-ends (misc_part a t and_then spaces) (misc_from turns) e r (rw y at h) in
    let x = then-ends (misc_part a t) spaces z.0 z.1 z.2 in
    let d = misc-part-sound a t x.0 x.1 x.2 in
    let k = misc-from-sound turns x.0 x.1 z.0 z.1 e r x.3 z.3 in
    let size = length-append o.0 (d.0 ++ k.0) ∙ ap (λ (j : ℕ). length o.0 + j) (length-append d.0 k.0) in (
      o.0 ++ (d.0 ++ k.0),
      misc-opt o.1 (more d.1 k.1),
      o.2 ∙ ap (λ (w : Text). o.0 ++ w) (d.2 ∙ ap (λ (w : Text). d.0 ++ w) k.2) ∙ simp append_assoc,
      omega (arith, size, o.3, d.3, k.3),
    ))
    (λ y.
    let k = rw y at h in (
      o.0 ++ [],
      misc-opt o.1 none,
      o.2 ∙ ap (λ (w : Text). o.0 ++ w) (behind-rest k) ∙ ap (λ (w : Text). w ++ r) (sym (append-nil o.0)),
      omega (arith, o.3, behind-at k, ap length (append-nil o.0)),
    ))

pub misc-sound : Sound (Many Misc) misc
unfolding misc
misc-sound at s e r h =
    let z = then-ends (spaces at s) (λ (a : ℕ) (t : Text). misc_from (suc (length t)) a t) e r h in
    misc-from-sound (suc (length z.1)) at s z.0 z.1 e r z.2 z.3

-- what may stand behind Misc*
abbrev pub Follows : Text → Type 0
Follows r = (is_white_space (first r) ≡ false) × (is_misc r ≡ false)

abbrev Leads : ℕ → Text → ℕ → Text → Type 0
Leads at s e r = (a : ℕ) × (v : Text) × (spaces at s ≡ behind a v) × ((turns : ℕ) → length v < turns → misc_from turns a v ≡ behind e r)

white-over : (w : Text) → every is_white_space w ≡ true → (at : ℕ) (u : Text) → spaces at (w ++ u) ≡ spaces (at + length w) u
unfolding spaces many every
white-over [] h at u = ap (λ (x : ℕ). many is_white_space x u) (omega arith)
white-over (b ∷ w) h at u =
    let k = and_parts (is_white_space b) (every is_white_space w) h in
    rw k.0 (white-over w k.1 (suc at) u ∙ ap (λ (x : ℕ). many is_white_space x u) (omega arith))

less-stop : (at : ℕ) (s : Text) → spaces at (60 ∷ s) ≡ behind at (60 ∷ s)
unfolding spaces many is_white_space
less-stop at s = refl

comment-first : {v : Text} → Comment v → (r : Text) → (w : Text) × (v ++ r ≡ 60 ∷ w) × (is_misc (v ++ r) ≡ true) × (starts_with (bytes "<!--") (v ++ r) ≡ true)
unfolding bytes is_misc starts_with
comment-first (grammar.comment {s} k) r = (33 ∷ 45 ∷ 45 ∷ ((s ++ bytes "-->") ++ r), refl, refl, refl)

instruction-first : {v : Text} → PI v → (r : Text) → (w : Text) × (v ++ r ≡ 60 ∷ w) × (is_misc (v ++ r) ≡ true) × (starts_with (bytes "<!--") (v ++ r) ≡ false)
unfolding bytes is_misc starts_with
instruction-first (grammar.instruction {n} {s} a o) r = (63 ∷ ((n ++ (s ++ bytes "?>")) ++ r), refl, refl, refl)

part-leads : (v : Text) (at : ℕ) (u : Text) (e : ℕ) (r w : Text) → v ++ u ≡ 60 ∷ w → is_misc (v ++ u) ≡ true → misc_part at (v ++ u) ≡ behind (at + length v) u → 0 < length v
    → Leads (at + length v) u e r → Leads at (v ++ u) e r
unfolding misc_from
part-leads v at u e r w p m h z (a, t, q, k) =
    (at, v ++ u, subst (λ (x : Text). spaces at x ≡ behind at x) (sym p) (less-stop at w), λ turns l. go turns l)
  where
    go : (turns : ℕ) → length (v ++ u) < turns → misc_from turns at (v ++ u) ≡ behind e r
    go zero l = absurd (omega arith)
    go (suc turns) l = rw (m, h, q) (k turns (omega (arith, length-append v u, spaces-moves (at + length v) u a t q)))

misc-leads : {t : Text} → Many Misc t → (at : ℕ) (r : Text) → Follows r → Leads at (t ++ r) (at + length t) r
unfolding misc_part
misc-leads none at r f =
    (at, r, spaces-complete absent at r f.0 ∙ behind-same (omega arith), λ turns l. misc-stop turns at r (omega arith) f.1 ∙ behind-same (omega arith))
misc-leads (more {s} {t} (misc_s w) k) at r f =
    let h = misc-leads k (at + length s) r f in
    (h.0, h.1, ap (spaces at) (append_assoc s t r) ∙ white-over s (s-white w) at (t ++ r) ∙ h.2, λ turns l. h.3 turns l ∙ behind-same (omega (arith, length-append s t)))
misc-leads (more {s} {t} (misc_comment d) k) at r f =
    let c = comment-first d (t ++ r) in
    let h = misc-leads k (at + length s) r f in
    let g = part-leads s at (t ++ r) (at + length s + length t) r c.0 c.1 c.2 (rw c.3 (comment-complete d at (t ++ r))) (comment-some d) h in
    subst (λ (z : Text). Leads at z (at + length (s ++ t)) r) (sym (append_assoc s t r)) (subst (λ (z : ℕ). Leads at (s ++ (t ++ r)) z r) (omega (arith, length-append s t)) g)
misc-leads (more {s} {t} (misc_pi d) k) at r f =
    let c = instruction-first d (t ++ r) in
    let h = misc-leads k (at + length s) r f in
    let g = part-leads s at (t ++ r) (at + length s + length t) r c.0 c.1 c.2 (rw c.3 (instruction-complete d at (t ++ r))) (instruction-some d) h in
    subst (λ (z : Text). Leads at z (at + length (s ++ t)) r) (sym (append_assoc s t r)) (subst (λ (z : ℕ). Leads at (s ++ (t ++ r)) z r) (omega (arith, length-append s t)) g)

pub misc-complete : {t : Text} → Many Misc t → (at : ℕ) (r : Text) → Follows r → misc at (t ++ r) ≡ behind (at + length t) r
unfolding misc
misc-complete m at r f = let h = misc-leads m at r f in rw h.2 (h.3 (suc (length h.1)) (omega arith))

-- a step between two quotes of one kind
quoted-by : (P : Text → Type 0) (body : ℕ → Text → Step) → Sound P body → (q : ℕ) → ((v : Text) → P v → Quoted P (q ∷ (v ++ (q ∷ []))))
    → (at : ℕ) (s : Text) (e : ℕ) (r : Text) → body (suc at) s and_then literal (q ∷ []) ≡ behind e r → Splits (Quoted P) at (q ∷ s) e r
quoted-by P body k q made at s e r h =
    let z = then-ends (body (suc at) s) (literal (q ∷ [])) e r h in
    let d = k (suc at) s z.0 z.1 z.2 in
    let l = literal-sound (q ∷ []) z.0 z.1 e r z.3 in (
      q ∷ (d.0 ++ (q ∷ [])),
      made d.0 d.1,
      ap (λ (t : Text). q ∷ t) (d.2 ∙ ap (λ (t : Text). d.0 ++ t) l.0 ∙ sym (append_assoc d.0 (q ∷ []) r)),
      omega (arith, d.3, l.1, length-append d.0 (q ∷ [])),
    )

-- a quoted step
quoted-sound : (P : Text → Type 0) (body : ℕ → Text → Step) → Sound P body → Sound (Quoted P) (quoted body)
unfolding quoted is_quote bytes
quoted-sound P body k at [] e r h = absurd (bad-not h)
quoted-sound P body k at (b ∷ s) e r h =
    bool_cases (eqb b 34)
    (λ y. let q = eqb-true b 34 y in
    subst (λ (x : ℕ). Splits (Quoted P) at (x ∷ s) e r) (sym q)
    (quoted-by P body k 34 (λ v p. double p) at s e r (subst (λ (x : ℕ). quoted body at (x ∷ s) ≡ behind e r) q h)))
    (λ y.
    bool_cases (eqb b 39)
    (λ x. let q = eqb-true b 39 x in
    subst (λ (x : ℕ). Splits (Quoted P) at (x ∷ s) e r) (sym q)
    (quoted-by P body k 39 (λ v p. single p) at s e r (subst (λ (x : ℕ). quoted body at (x ∷ s) ≡ behind e r) q h)))
    (λ x. absurd (bad-not (rw (y, x) at h))))

-- a step passes over each derivation that stands before a quote
abbrev Fits : (Text → Type 0) → (ℕ → Text → Step) → Type 0
Fits P body = (v : Text) → P v → (at : ℕ) (q : ℕ) (r : Text) → is_quote q ≡ true → body at (v ++ (q ∷ r)) ≡ behind (at + length v) (q ∷ r)

quoted-complete : (P : Text → Type 0) (body : ℕ → Text → Step) → Fits P body → {v : Text} → Quoted P v → (at : ℕ) (r : Text) → quoted body at (v ++ r) ≡ behind (at + length v) r
unfolding quoted is_quote bytes literal starts_with
quoted-complete P body k (single {s} d) at r =
    rw (append_assoc s (39 ∷ []) r, k s d (suc at) 39 r refl) (behind-same (omega (arith, length-append s (39 ∷ []))))
quoted-complete P body k (double {s} d) at r =
    rw (append_assoc s (34 ∷ []) r, k s d (suc at) 34 r refl) (behind-same (omega (arith, length-append s (34 ∷ []))))

quote-is : (P : ℕ → Type 0) → P 34 → P 39 → (q : ℕ) → is_quote q ≡ true → P q
unfolding is_quote
quote-is P x y q h =
    bool_cases (eqb q 34) (λ z. subst P (sym (eqb-true q 34 z)) x)
    (λ z. bool_cases (eqb q 39) (λ w. subst P (sym (eqb-true q 39 w)) y) (λ w. absurd (false≢true (rw (z, w) at h))))

-- [26], [81] and ('yes' | 'no')
version-sound : Sound VersionNum version_number
unfolding version_number bytes
version-sound at s e r h =
    let z = then-ends (literal (bytes "1.") at s) (one_then is_digit is_digit) e r h in
    let l = literal-sound (bytes "1.") at s z.0 z.1 z.2 in
    let d = run_sound is_digit is_digit z.0 z.1 e r z.3 in
    (bytes "1." ++ d.0, version_num d.1, l.0 ∙ ap (λ (t : Text). bytes "1." ++ t) d.2, omega (arith, l.1, d.3))

quote-no-digit : (q : ℕ) → is_quote q ≡ true → is_digit q ≡ false
unfolding between
quote-no-digit = quote-is (λ (q : ℕ). is_digit q ≡ false) refl refl

version-fits : Fits VersionNum version_number
unfolding version_number bytes literal starts_with first
version-fits v (version_num {s} d) at q r k = rw (run-complete is_digit is_digit d (at + 2) (q ∷ r) (quote-no-digit q k)) (behind-same (omega arith))

encoding-sound : Sound EncName encoding_name
unfolding encoding_name
encoding-sound = run_sound is_letter is_encoding

quote-no-encoding : (q : ℕ) → is_quote q ≡ true → is_encoding q ≡ false
unfolding is_encoding is_letter between
quote-no-encoding = quote-is (λ (q : ℕ). is_encoding q ≡ false) refl refl

encoding-fits : Fits EncName encoding_name
unfolding encoding_name first
encoding-fits v d at q r k = run-complete is_letter is_encoding d at (q ∷ r) (quote-no-encoding q k)

yes-sound : Sound YesNo yes_or_no
unfolding yes_or_no bytes
yes-sound at s e r h =
    bool_cases (starts_with (bytes "yes") s)
    (λ y. let l = literal-sound (bytes "yes") at s e r (rw y at h) in (bytes "yes", grammar.yes, l.0, l.1))
    (λ y. let l = literal-sound (bytes "no") at s e r (rw y at h) in (bytes "no", grammar.no, l.0, l.1))

yes-fits : Fits YesNo yes_or_no
unfolding yes_or_no bytes literal starts_with
yes-fits v grammar.yes at q r k = refl
yes-fits v grammar.no at q r k = refl

-- [24], [80] and [32]
declared-sound : (word : Text) (P : Text → Type 0) (body : ℕ → Text → Step) → Sound P body → Sound (Declares word P) (declared word body)
unfolding declared
declared-sound word P body k at s e r h =
    let z = then-ends (space at s and_then literal word and_then eq) (quoted body) e r h in
    let y = then-ends (space at s and_then literal word) eq z.0 z.1 z.2 in
    let x = then-ends (space at s) (literal word) y.0 y.1 y.2 in
    let a = space-sound at s x.0 x.1 x.2 in
    let b = literal-sound word x.0 x.1 y.0 y.1 x.3 in
    let c = eq-sound y.0 y.1 z.0 z.1 y.3 in
    let d = quoted-sound P body k z.0 z.1 e r z.3 in
    let size : length (a.0 ++ (word ++ (c.0 ++ d.0))) ≡ length a.0 + (length word + (length c.0 + length d.0)) = simp length-append in (
      a.0 ++ (word ++ (c.0 ++ d.0)),
      declares a.1 c.1 d.1,
      a.2 ∙ ap (λ (t : Text). a.0 ++ t) (b.0 ∙ ap (λ (t : Text). word ++ t) (c.2 ∙ ap (λ (t : Text). c.0 ++ t) d.2)) ∙ simp append_assoc,
      omega (arith, size, a.3, b.1, c.3, d.3),
    )

quoted-no-white : {P : Text → Type 0} {q : Text} → Quoted P q → (r : Text) → is_white_space (first (q ++ r)) ≡ false
unfolding first bytes is_white_space
quoted-no-white (single d) r = refl
quoted-no-white (double d) r = refl

declared-complete : (w : ℕ) (word : Text) → is_white_space w ≡ false → (P : Text → Type 0) (body : ℕ → Text → Step) → Fits P body → {v : Text} → Declares (w ∷ word) P v → (at : ℕ) (r : Text)
    → declared (w ∷ word) body at (v ++ r) ≡ behind (at + length v) r
unfolding declared first
declared-complete w word n P body k (declares {s} {e} {q} a c d) at r =
    let whole : (s ++ ((w ∷ word) ++ (e ++ q))) ++ r ≡ s ++ ((w ∷ word) ++ (e ++ (q ++ r))) = simp append_assoc in
    let size : length (s ++ ((w ∷ word) ++ (e ++ q))) ≡ length s + (length (w ∷ word) + (length e + length q)) = simp length-append in
    rw (
      whole,
      space-complete a at ((w ∷ word) ++ (e ++ (q ++ r))) n,
      literal-complete (w ∷ word) (at + length s) (e ++ (q ++ r)),
      eq-complete c (at + length s + length (w ∷ word)) (q ++ r)
          (quoted-no-white d r),
      quoted-complete P body k d (at + length s + length (w ∷ word) + length e) r,
    )
    (behind-same (omega arith))

-- X? in the declaration
optional-sound : (word : Text) (P : Text → Type 0) (body : ℕ → Text → Step) → Sound P body → Sound (Opt (Declares word P)) (optional word body)
unfolding optional
optional-sound word P body k at s e r h =
    bool_cases (ends_at word (spaces at s))
    (λ y. let d = declared-sound word P body k at s e r (rw y at h) in (d.0, present d.1, d.2, d.3))
    (λ y. let b = rw y at h in ([], absent, behind-rest b, omega (arith, behind-at b)))

ends_with : (word : Text) {s : Text} → Opt S s → (at : ℕ) (x : Text) → is_white_space (first x) ≡ false → ends_at word (spaces at (s ++ x)) ≡ starts_with word x
ends_with word o at x n = rw (spaces-complete o at x n)

optional-complete : (w : ℕ) (word : Text) → is_white_space w ≡ false → (P : Text → Type 0) (body : ℕ → Text → Step) → Fits P body → {v : Text} → Opt (Declares (w ∷ word) P) v → (at : ℕ) (r : Text)
    → ends_at (w ∷ word) (spaces at r) ≡ false → optional (w ∷ word) body at (v ++ r) ≡ behind (at + length v) r
unfolding optional first
optional-complete w word n P body k absent at r h = rw h (behind-same (omega arith))
optional-complete w word n P body k (present (declares {s} {e} {q} a c d)) at r h =
    let whole : (s ++ ((w ∷ word) ++ (e ++ q))) ++ r ≡ s ++ ((w ∷ word) ++ ((e ++ q) ++ r)) = simp append_assoc in
    let t : ends_at (w ∷ word) (spaces at ((s ++ ((w ∷ word) ++ (e ++ q))) ++ r)) ≡ true =
    ap (λ (z : Text). ends_at (w ∷ word) (spaces at z)) whole ∙ ends_with (w ∷ word) (present a) at ((w ∷ word) ++ ((e ++ q) ++ r)) n ∙ starts-word (w ∷ word) ((e ++ q) ++ r) in
    rw t (declared-complete w word n P body k (declares a c d) at r)

no-standalone : {s : Text} → Opt S s → (at : ℕ) (r : Text) → ends_at (bytes "standalone") (spaces at (s ++ (63 ∷ r))) ≡ false
unfolding bytes starts_with first is_white_space
no-standalone o at r = ends_with (bytes "standalone") o at (63 ∷ r) refl

no-encoding : {d s : Text} → Opt (Declares (bytes "standalone") YesNo) d → Opt S s → (at : ℕ) (r : Text) → ends_at (bytes "encoding") (spaces at (d ++ (s ++ (63 ∷ r)))) ≡ false
unfolding bytes starts_with first is_white_space
no-encoding absent o at r = ends_with (bytes "encoding") o at (63 ∷ r) refl
no-encoding {s = t} (present (declares {s} {e} {q} a c d)) o at r =
    ap (λ (z : Text). ends_at (bytes "encoding") (spaces at z)) (append_assoc s (bytes "standalone" ++ (e ++ q)) (t ++ (63 ∷ r)))
    ∙ ends_with (bytes "encoding") (present a) at ((bytes "standalone" ++ (e ++ q)) ++ (t ++ (63 ∷ r))) refl

-- [23]
abbrev Version : Text → Type 0
Version = Declares (bytes "version") VersionNum

abbrev Encoding : Text → Type 0
Encoding = Opt (Declares (bytes "encoding") EncName)

abbrev Standalone : Text → Type 0
Standalone = Opt (Declares (bytes "standalone") YesNo)

declaration-of : (v : Text) → Then (Then (Then (Then (Then (Is (bytes "<?xml")) Version) Encoding) Standalone) (Opt S)) (Is (bytes "?>")) v → XMLDecl v
declaration-of v (p, q, (p1, s, (p2, d, (p3, e, (p4, a, z4, v4, e4), v3, e3), v2, e2), v1, e1), z0, e0) =
    let whole : v ≡ bytes "<?xml" ++ (a ++ (e ++ (d ++ (s ++ bytes "?>")))) = rw (e0, e1, e2, e3, e4, z4, z0) (simp append_assoc) in
    subst XMLDecl (sym whole) (xml_decl v4 v3 v2 v1)

pub declaration-sound : Sound XMLDecl declaration
unfolding declaration
declaration-sound at s e r h =
    let k = then-sound _ _ _ _
    (then-sound _ _ _ _
    (then-sound _ _ _ _
    (then-sound _ _ _ _
    (then-sound _ _ _ _ (is-sound (bytes "<?xml")) (declared-sound (bytes "version") VersionNum version_number version-sound))
    (optional-sound (bytes "encoding") EncName encoding_name encoding-sound))
    (optional-sound (bytes "standalone") YesNo yes_or_no yes-sound)) spaces-sound) (is-sound (bytes "?>")) at s e r h in
    (k.0, declaration-of k.0 k.1, k.2, k.3)

pub declaration-complete : {v : Text} → XMLDecl v → (at : ℕ) (r : Text) → declaration at (v ++ r) ≡ behind (at + length v) r
unfolding declaration bytes is_white_space first
declaration-complete (xml_decl {v} {e} {d} {s} a b c o) at r =
    let whole : (v ++ (e ++ (d ++ (s ++ (63 ∷ 62 ∷ []))))) ++ r ≡ v ++ (e ++ (d ++ (s ++ (63 ∷ 62 ∷ r)))) = simp append_assoc in
    let size : length (v ++ (e ++ (d ++ (s ++ (63 ∷ 62 ∷ []))))) ≡ length v + (length e + (length d + (length s + 2))) = simp length-append in
    ap (λ (t : Text). declaration at (bytes "<?xml" ++ t)) whole
    ∙ then_is (literal (bytes "?>")) (then_is spaces (then_is (optional (bytes "standalone") yes_or_no) (then_is (optional (bytes "encoding") encoding_name)
    (then_is (declared (bytes "version") version_number) (literal-complete (bytes "<?xml") at (v ++ (e ++ (d ++ (s ++ (63 ∷ 62 ∷ r))))))
    (declared-complete 118 (bytes "ersion") refl VersionNum version_number version-fits a (at + 5) (e ++ (d ++ (s ++ (63 ∷ 62 ∷ r))))))
    (optional-complete 101 (bytes "ncoding") refl EncName encoding_name encoding-fits b (at + 5 + length v) (d ++ (s ++ (63 ∷ 62 ∷ r))) (no-encoding c o (at + 5 + length v) (62 ∷ r))))
    (optional-complete 115 (bytes "tandalone") refl YesNo yes_or_no yes-fits c (at + 5 + length v + length e) (s ++ (63 ∷ 62 ∷ r)) (no-standalone o (at + 5 + length v + length e) (62 ∷ r))))
    (spaces-complete o (at + 5 + length v + length e + length d) (63 ∷ 62 ∷ r) refl))
    (literal-complete (bytes "?>") (at + 5 + length v + length e + length d + length s) r)
    ∙ behind-same (omega arith)
