-- The productions without a tag, both ways: what a step of specs/Steps.antt passes over has a derivation, and a derivation that stands before a suitable
-- rest is passed over exactly. White space, names, `=`, comments, instructions, CDATA sections. Assumes nothing.
use Prim.Native.Nat.{ℕ, suc, ◌+◌, ◌<◌}
use mathlib.Core.Path.{◌≡◌, refl, sym, ap, subst, ◌∙◌}
use mathlib.Core.List.{[], ◌∷◌, ◌++◌, append_assoc}
use mathlib.Core.Bool.{Bool, true, false, not, ◌||◌, false≢true}
use native.Mathlib.Omega.{arith}
use lib.Dec.{eqb}
use lib.ListN.{length, take, drop, length-append, take-append-drop}
use lib.Seq.{drop-append_seam, take-append_seam}
use borrow.Author.Tests.{eqb-true, eq-eqb}
use Rattle.text.specs.Text.{Text, bytes, first, every, between}
use Rattle.text.specs.Trim.{is_white_space}
use Rattle.std.proofs.lemmas.Bool.{and_parts}
use Rattle.text.proofs.Laws.Tests.{bool_cases}
use Rattle.text.proofs.Laws.Table.{passes, at as at_place}
use Rattle.xml.specs.Classes.{is_char, is_letter, is_name_start, is_name, begins}
use Rattle.xml.specs.Steps.{Step, behind, ◌and_then◌, starts_with, literal, many, one_then, spaces, space, name, leading_name}
use Rattle.xml.specs.Grammar.{Opt, absent, present, Many, none, more, Run, run, CharOf, one_byte, two_bytes, S, Name, Eq, equals}
use Rattle.xml.specs.Grammar as grammar
use Rattle.xml.specs.Prolog.{eq}
use Rattle.xml.proofs.Laws.Names.{behind-at, behind-rest, bad-not, name_of-none, name_of-some, name_of-pair, name_of-take, by_name, name-size, name-read, name-begun}
use Rattle.xml.proofs.Laws.Names.{start-is-name, byte-inside, pair-inside, begins-cases, begins-byte, begins-pair, begins-low, may_start, byte-may-start, pair-may-start}
use Rattle.xml.proofs.Laws.Moves.{Moves, moves, then-ends, eq-passes}
use Rattle.xml.proofs.Laws.Written.{many-written}

-- a derivation of what stands before the rest, and where it ends
abbrev pub Splits : (Text → Type 0) → ℕ → Text → ℕ → Text → Type 0
Splits P at s e r = (v : Text) × P v × (s ≡ v ++ r) × (e ≡ at + length v)

abbrev pub Sound : (Text → Type 0) → (ℕ → Text → Step) → Type 0
Sound P f = (at : ℕ) (s : Text) (e : ℕ) (r : Text) → f at s ≡ behind e r → Splits P at s e r

-- the end of a step is where what it passed over ends
pub ends_at : (f : ℕ → Text → Step) → Moves f → (at : ℕ) (s : Text) (e : ℕ) (r v : Text) → f at s ≡ behind e r → s ≡ v ++ r → e ≡ at + length v
ends_at f m at s e r v q h =
    let n = m at s e r q in
    let k = ap length h ∙ length-append v r in
    omega (arith, n.1)

pub behind-same : {a b : ℕ} {r : Text} → a ≡ b → behind a r ≡ behind b r
behind-same {a} {b} {r} e = ap (λ (x : ℕ). behind x r) e

-- words
pub word-starts : (w s : Text) → starts_with w s ≡ true → s ≡ w ++ drop (length w) s
unfolding starts_with
word-starts [] s h = refl
word-starts (x ∷ w) [] h = absurd (false≢true h)
word-starts (x ∷ w) (b ∷ s) h =
    bool_cases (eqb b x)
    (λ y. rw (eqb-true b x y) (ap (λ (t : Text). x ∷ t) (word-starts w s (rw y at h))))
    (λ y. absurd (false≢true (rw y at h)))

pub starts-word : (w r : Text) → starts_with w (w ++ r) ≡ true
unfolding starts_with
starts-word [] r = refl
starts-word (x ∷ w) r = rw (eq-eqb x x refl) (starts-word w r)

pub literal-sound : (w : Text) (at : ℕ) (s : Text) (e : ℕ) (r : Text) → literal w at s ≡ behind e r → (s ≡ w ++ r) × (e ≡ at + length w)
unfolding literal
literal-sound w at s e r q =
    bool_cases (starts_with w s)
    (λ y.
    let p = rw y at q in
    (word-starts w s y ∙ ap (λ (t : Text). w ++ t) (behind-rest p), sym (behind-at p)))
    (λ y. absurd (bad-not (rw y at q)))

pub literal-complete : (w : Text) (at : ℕ) (r : Text) → literal w at (w ++ r) ≡ behind (at + length w) r
unfolding literal
literal-complete w at r = rw (starts-word w r, drop-append_seam w r)

-- a class of bytes below 128 inside another
pub class-in : (p q : ℕ → Bool) → passes (λ (k : ℕ). not (p k) || q k) 128 ≡ true → (b : ℕ) → b < 128 → p b ≡ true → q b ≡ true
class-in p q t b l e = rw e at (at_place (λ (k : ℕ). not (p k) || q k) 128 t b l)

-- runs of a class
pub many-sound : (p : ℕ → Bool) → Sound (λ (v : Text). every p v ≡ true) (many p)
unfolding many every
many-sound p at [] e r q = ([], refl, behind-rest q, omega (arith, behind-at q))
many-sound p at (b ∷ s) e r q =
    bool_cases (p b)
    (λ y.
    let h = many-sound p (suc at) s e r (rw y at q) in
    (b ∷ h.0, rw y h.1, ap (λ (t : Text). b ∷ t) h.2, omega (arith, h.3)))
    (λ y. let k = rw y at q in ([], refl, behind-rest k, omega (arith, behind-at k)))

pub run_sound : (p q : ℕ → Bool) → Sound (Run p q) (one_then p q)
unfolding one_then
run_sound p q at [] e r h = absurd (bad-not h)
run_sound p q at (b ∷ s) e r h =
    bool_cases (p b)
    (λ y.
    let k = many-sound q (suc at) s e r (rw y at h) in
    (b ∷ k.0, run y k.1, ap (λ (t : Text). b ∷ t) k.2, omega (arith, k.3)))
    (λ y. absurd (bad-not (rw y at h)))

pub run-complete : (p q : ℕ → Bool) {v : Text} → Run p q v → (at : ℕ) (r : Text) → q (first r) ≡ false → one_then p q at (v ++ r) ≡ behind (at + length v) r
unfolding one_then
run-complete p q (run {b} {s} y h) at r n = rw y (many-written q (suc at) s r h n ∙ behind-same (omega arith))

-- names
name-chars : (s : Text) → Many (CharOf is_name) (leading_name s)
name-chars s =
    by_name (λ u. Many (CharOf is_name) (leading_name u))
    (λ u e. rw (name_of-none u e) none)
    (λ b u e m. rw (name_of-some b u e) (more (one_byte e) m))
    (λ b t u e m. rw (name_of-pair b t u e) (more (two_bytes e) m))
    s

pub name-made : (s : Text) → begins is_name_start s ≡ true → Name (leading_name s)
name-made s e =
    begins-cases is_name_start (λ u. Name (leading_name u)) s e
    (λ b u h. rw (name_of-some b u (byte-inside is_name_start is_name start-is-name b h)) (grammar.name (one_byte h) (name-chars u)))
    (λ b t u h. rw (name_of-pair b t u (pair-inside is_name_start is_name start-is-name b t h)) (grammar.name (two_bytes h) (name-chars u)))

pub name-sound : Sound Name name
name-sound at s e r q =
    let n = name-read at s e r q in (
      leading_name s,
      name-made s n.0,
      sym (take-append-drop (length (leading_name s)) s) ∙ ap (λ (t : Text). t ++ drop (length (leading_name s)) s) (name_of-take s) ∙ ap (λ (t : Text). leading_name s ++ t) (sym n.2),
      n.1,
    )

chars-complete : {v : Text} → Many (CharOf is_name) v → (r : Text) → begins is_name r ≡ false → leading_name (v ++ r) ≡ v
chars-complete none r n = name_of-none r n
chars-complete (more {t} (one_byte {b} e) m) r n = name_of-some b (t ++ r) e ∙ ap (λ (u : Text). b ∷ u) (chars-complete m r n)
chars-complete (more {t} (two_bytes {b} {t = c} e) m) r n = name_of-pair b c (t ++ r) e ∙ ap (λ (u : Text). b ∷ c ∷ u) (chars-complete m r n)

pub name_of-complete : {v : Text} → Name v → (r : Text) → begins is_name r ≡ false → leading_name (v ++ r) ≡ v
name_of-complete (grammar.name {t} (one_byte {b} e) m) r n =
    name_of-some b (t ++ r) (byte-inside is_name_start is_name start-is-name b e) ∙ ap (λ (u : Text). b ∷ u) (chars-complete m r n)
name_of-complete (grammar.name {t} (two_bytes {b} {t = c} e) m) r n =
    name_of-pair b c (t ++ r) (pair-inside is_name_start is_name start-is-name b c e) ∙ ap (λ (u : Text). b ∷ c ∷ u) (chars-complete m r n)

name-begins : {v : Text} → Name v → (r : Text) → begins is_name_start (v ++ r) ≡ true
name-begins (grammar.name {t} (one_byte {b} e) m) r = begins-byte is_name_start b (t ++ r) e
name-begins (grammar.name {t} (two_bytes {b} {t = c} e) m) r = begins-pair is_name_start b c (t ++ r) e

pub name-complete : {v : Text} → Name v → (at : ℕ) (r : Text) → begins is_name r ≡ false → name at (v ++ r) ≡ behind (at + length v) r
name-complete {v} n at r h = name-begun at (v ++ r) (name-begins n r) ∙ (rw (name_of-complete n r h, drop-append_seam v r))

-- its first byte
pub name-first : {v : Text} → Name v → (b : ℕ) × (u : Text) × (v ≡ b ∷ u) × (may_start b ≡ true)
name-first (grammar.name {t} (one_byte {b} e) m) = (b, t, refl, byte-may-start b e)
name-first (grammar.name {t} (two_bytes {b} {t = c} e) m) = (b, c ∷ t, refl, pair-may-start b c e)

pub name-whole : (at : ℕ) (s : Text) (e : ℕ) (r v : Text) → name at s ≡ behind e r → s ≡ v ++ r → e ≡ at + length v → leading_name s ≡ v
name-whole at s e r v q h k =
    let n = name-size at s e r q in
    let size : length (leading_name s) ≡ length v = omega (arith, n.0) in
    sym (name_of-take s) ∙ ap (λ (j : ℕ). take j s) size ∙ ap (take (length v)) h ∙ take-append_seam v r

-- the four bytes of white space
pub white-is : (P : ℕ → Type 0) → P 9 → P 10 → P 13 → P 32 → (b : ℕ) → is_white_space b ≡ true → P b
unfolding is_white_space
white-is P p q r t b h =
    bool_cases (eqb b 9) (λ y. subst P (sym (eqb-true b 9 y)) p)
    (λ y. bool_cases (eqb b 10) (λ z. subst P (sym (eqb-true b 10 z)) q)
    (λ z. bool_cases (eqb b 13) (λ x. subst P (sym (eqb-true b 13 x)) r)
    (λ x. bool_cases (eqb b 32) (λ w. subst P (sym (eqb-true b 32 w)) t)
    (λ w. absurd (false≢true (rw (y, z, x, w) at h))))))

pub white-no-name : (b : ℕ) → is_white_space b ≡ true → (s : Text) → begins is_name (b ∷ s) ≡ false
unfolding is_name is_name_start is_letter between
white-no-name =
    white-is (λ (b : ℕ). (s : Text) → begins is_name (b ∷ s) ≡ false) (λ s. begins-low is_name 9 s (omega arith) refl) (λ s. begins-low is_name 10 s (omega arith) refl)
    (λ s. begins-low is_name 13 s (omega arith) refl) (λ s. begins-low is_name 32 s (omega arith) refl)

pub white-char : (b : ℕ) → is_white_space b ≡ true → is_char b ≡ true
unfolding is_char between
white-char = white-is (λ (b : ℕ). is_char b ≡ true) refl refl refl refl

pub space-sound : Sound S space
unfolding space
space-sound = run_sound is_white_space is_white_space

pub space-complete : {v : Text} → S v → (at : ℕ) (r : Text) → is_white_space (first r) ≡ false → space at (v ++ r) ≡ behind (at + length v) r
unfolding space
space-complete n = run-complete is_white_space is_white_space n

pub white-opt : (v : Text) → every is_white_space v ≡ true → Opt S v
unfolding every
white-opt [] h = absent
white-opt (b ∷ v) h = let k = and_parts (is_white_space b) (every is_white_space v) h in present (run k.0 k.1)

pub opt-white : {v : Text} → Opt S v → every is_white_space v ≡ true
unfolding every
opt-white absent = refl
opt-white (present (run y h)) = rw y h

pub s-white : {v : Text} → S v → every is_white_space v ≡ true
s-white h = opt-white (present h)

pub spaces-sound : Sound (Opt S) spaces
unfolding spaces
spaces-sound at s e r q = let h = many-sound is_white_space at s e r q in (h.0, white-opt h.0 h.1, h.2, h.3)

pub white-complete : (v : Text) → every is_white_space v ≡ true → (at : ℕ) (r : Text) → is_white_space (first r) ≡ false → spaces at (v ++ r) ≡ behind (at + length v) r
unfolding spaces
white-complete v h at r n = many-written is_white_space at v r h n

pub spaces-complete : {v : Text} → Opt S v → (at : ℕ) (r : Text) → is_white_space (first r) ≡ false → spaces at (v ++ r) ≡ behind (at + length v) r
spaces-complete {v} o = white-complete v (opt-white o)

-- [25]
pub regroup : (a b c r : Text) → (a ++ (b ++ c)) ++ r ≡ a ++ (b ++ (c ++ r))
regroup a b c r = simp append_assoc

pub regroup4 : (a b c d r : Text) → (a ++ (b ++ (c ++ d))) ++ r ≡ a ++ (b ++ (c ++ (d ++ r)))
regroup4 a b c d r = simp append_assoc

pub eq-sound : Sound Eq eq
unfolding eq bytes
eq-sound at s e r q =
    let z = then-ends (spaces at s and_then literal (bytes "=")) spaces e r q in
    let y = then-ends (spaces at s) (literal (bytes "=")) z.0 z.1 z.2 in
    let a = spaces-sound at s y.0 y.1 y.2 in
    let b = literal-sound (bytes "=") y.0 y.1 z.0 z.1 y.3 in
    let c = spaces-sound z.0 z.1 e r z.3 in
    let split : s ≡ (a.0 ++ (bytes "=" ++ c.0)) ++ r = a.2 ∙ ap (λ (t : Text). a.0 ++ t) (b.0 ∙ ap (λ (t : Text). bytes "=" ++ t) c.2) ∙ sym (regroup a.0 (bytes "=") c.0 r) in
    (a.0 ++ (bytes "=" ++ c.0), equals a.1 c.1, split, ends_at eq (moves eq-passes) at s e r (a.0 ++ (bytes "=" ++ c.0)) q split)

equals-no-white : is_white_space 61 ≡ false
unfolding is_white_space
equals-no-white = refl

pub eq-complete : {v : Text} → Eq v → (at : ℕ) (r : Text) → is_white_space (first r) ≡ false → eq at (v ++ r) ≡ behind (at + length v) r
unfolding eq bytes literal starts_with first
eq-complete (equals {s} {t} a b) at r n =
    rw (append_assoc s (61 ∷ t) r, spaces-complete a at (61 ∷ (t ++ r)) equals-no-white, spaces-complete b (at + length s + 1) r n)
    (behind-same (omega (arith, length-append s (61 ∷ t))))

-- one step behind the other
abbrev pub Is : Text → Text → Type 0
Is w v = v ≡ w

pub is-sound : (w : Text) → Sound (Is w) (literal w)
is-sound w at s e r h = let l = literal-sound w at s e r h in (w, refl, l.0, l.1)

abbrev pub Then : (Text → Type 0) → (Text → Type 0) → Text → Type 0
Then P Q v = (a : Text) × (b : Text) × P a × Q b × (v ≡ a ++ b)

pub then-sound : (P Q : Text → Type 0) (f g : ℕ → Text → Step) → Sound P f → Sound Q g → Sound (Then P Q) (λ (at : ℕ) (s : Text). f at s and_then g)
then-sound P Q f g k l at s e r h =
    let z = then-ends (f at s) g e r h in
    let a = k at s z.0 z.1 z.2 in
    let b = l z.0 z.1 e r z.3 in
    (a.0 ++ b.0, (a.0, b.0, a.1, b.1, refl), a.2 ∙ ap (λ (t : Text). a.0 ++ t) b.2 ∙ sym (append_assoc a.0 b.0 r), omega (arith, a.3, b.3, length-append a.0 b.0))

pub then_is : {d : Step} (g : ℕ → Text → Step) {a : ℕ} {t : Text} {x : Step} → d ≡ behind a t → g a t ≡ x → d and_then g ≡ x
then_is g p q = rw p q
