-- Comments, instructions and CDATA sections (specs/Grammar.antt, [15] to [21]), both ways. A scan up to the first place of a word is the longest text without
-- it, since neither `?>` nor `]]>` begins inside itself; in a comment the first `--` is that of the end. Assumes nothing.
use Prim.Native.Nat.{ℕ, suc, ◌+◌, ◌<◌}
use mathlib.Core.Path.{◌≡◌, refl, sym, ap, subst, ◌∙◌}
use mathlib.Core.List.{[], ◌∷◌, ◌++◌, append_assoc}
use mathlib.Core.Bool.{true, false, false≢true}
use native.Mathlib.Omega.{arith}
use lib.Dec.{eqb}
use lib.ListN.{length, length-append}
use borrow.Author.Tests.{eqb-true, eq-eqb, ne_eqb}
use Rattle.text.specs.Text.{Text, bytes, first, every, between}
use Rattle.text.specs.Trim.{is_white_space}
use Rattle.std.proofs.lemmas.Bool.{and_parts}
use Rattle.text.proofs.Laws.Tests.{bool_cases}
use Rattle.text.proofs.Laws.Every.{every-cons, every-append-true, every-weaken}
use Rattle.xml.specs.Classes.{is_char, is_letter, is_name_start, is_name, begins}
use Rattle.xml.specs.Steps.{behind, ◌and_then◌, starts_with, literal, until, comment, leading_name, target, instruction_end, instruction, section}
use Rattle.xml.specs.Grammar.{is_xml, Opt, absent, present, Many, none, more, run, Without, S, CommentPart, no_hyphen, one_hyphen, Comment, PITarget, PIText, behind_target, PI, CDSect}
use Rattle.xml.specs.Grammar as grammar
use Rattle.xml.proofs.Laws.Names.{bad-not, begins-low}
use Rattle.xml.proofs.Laws.Moves.{moves, then-ends, comment-passes, section-passes, instruction-passes}
use Rattle.xml.proofs.Laws.Grammar.Basics.{Sound, ends_at, behind-same, starts-word, literal-sound, literal-complete, name-sound, name-complete, name_of-complete}
use Rattle.xml.proofs.Laws.Grammar.Basics.{name-whole, white-is, white-no-name, white-char, s-white, regroup, regroup4}

-- [15]: a byte before a comment's text, where no `--` begins
behind-hyphen : (v r : Text) → Many CommentPart v → (b : ℕ) → starts_with (45 ∷ []) (v ++ (45 ∷ 45 ∷ r)) ≡ false → b ≡ 45 → Many CommentPart (b ∷ v)
unfolding starts_with
behind-hyphen v r none b m e = absurd (false≢true (sym m))
behind-hyphen v r (more {t = w} (no_hyphen {b = d} c n) k) b m e = subst (λ (x : ℕ). Many CommentPart (x ∷ d ∷ w)) (sym e) (more (one_hyphen c n) k)
behind-hyphen v r (more (one_hyphen c n) k) b m e = absurd (false≢true (sym m))

prepend : (b : ℕ) (v r : Text) → is_char b ≡ true → starts_with (45 ∷ 45 ∷ []) (b ∷ (v ++ (45 ∷ 45 ∷ r))) ≡ false → Many CommentPart v → Many CommentPart (b ∷ v)
unfolding starts_with
prepend b v r c n k =
    bool_cases (eqb b 45)
    (λ y. behind-hyphen v r k b (rw y at n) (eqb-true b 45 y))
    (λ y. more (no_hyphen c (λ (e : b ≡ 45). false≢true (sym y ∙ eq-eqb b 45 e))) k)

hyphens-sound : (at : ℕ) (s : Text) (e : ℕ) (r : Text) → until (45 ∷ 45 ∷ []) at s ≡ behind e r → (v : Text) × Many CommentPart v × (s ≡ v ++ (45 ∷ 45 ∷ r))
unfolding until
hyphens-sound at [] e r q = absurd (bad-not q)
hyphens-sound at (b ∷ s) e r q =
    bool_cases (starts_with (45 ∷ 45 ∷ []) (b ∷ s))
    (λ y. ([], none, (literal-sound (45 ∷ 45 ∷ []) at (b ∷ s) e r (rw y at q)).0))
    (λ y.
    let p = rw y at q in
    bool_cases (is_char b)
    (λ z.
    let h = hyphens-sound (suc at) s e r (rw z at p) in
    let n = subst (λ (t : Text). starts_with (45 ∷ 45 ∷ []) (b ∷ t) ≡ false) h.2 y in
    (b ∷ h.0, prepend b h.0 r z n h.1, ap (λ (t : Text). b ∷ t) h.2))
    (λ z. absurd (bad-not (rw z at p))))

char-hyphen : is_char 45 ≡ true
unfolding is_char between
char-hyphen = refl

hyphens-complete : {v : Text} → Many CommentPart v → (at : ℕ) (r : Text) → until (45 ∷ 45 ∷ []) at (v ++ (45 ∷ 45 ∷ r)) ≡ behind (at + length v + 2) r
unfolding until literal starts_with
hyphens-complete none at r = behind-same (omega arith)
hyphens-complete (more (no_hyphen {b} c n) k) at r = rw (ne_eqb b 45 n, c) (hyphens-complete k (suc at) r ∙ behind-same (omega arith))
hyphens-complete (more (one_hyphen {b} c n) k) at r = rw (ne_eqb b 45 n, char-hyphen, c) (hyphens-complete k (suc (suc at)) r ∙ behind-same (omega arith))

pub comment-sound : Sound Comment comment
unfolding comment bytes
comment-sound at s e r q =
    let z = then-ends (literal (bytes "<!--") at s and_then until (bytes "--")) (literal (bytes ">")) e r q in
    let y = then-ends (literal (bytes "<!--") at s) (until (bytes "--")) z.0 z.1 z.2 in
    let a = literal-sound (bytes "<!--") at s y.0 y.1 y.2 in
    let b = hyphens-sound y.0 y.1 z.0 z.1 y.3 in
    let c = literal-sound (bytes ">") z.0 z.1 e r z.3 in
    let split : s ≡ (bytes "<!--" ++ (b.0 ++ bytes "-->")) ++ r =
    a.0 ∙ ap (λ (t : Text). bytes "<!--" ++ t) (b.2 ∙ ap (λ (t : Text). b.0 ++ (45 ∷ 45 ∷ t)) c.0) ∙ sym (regroup (bytes "<!--") b.0 (bytes "-->") r) in
    (bytes "<!--" ++ (b.0 ++ bytes "-->"), grammar.comment b.1, split, ends_at comment (moves comment-passes) at s e r (bytes "<!--" ++ (b.0 ++ bytes "-->")) q split)

pub comment-complete : {v : Text} → Comment v → (at : ℕ) (r : Text) → comment at (v ++ r) ≡ behind (at + length v) r
unfolding comment bytes literal starts_with
comment-complete (grammar.comment {s} k) at r =
    rw (regroup (bytes "<!--") s (bytes "-->") r, hyphens-complete k (at + 4) (62 ∷ r))
    (behind-same (omega (arith, length-append s (bytes "-->"))))

-- up to a word: what stands before its first place
abbrev pub Before : Text → Text → Type 0
Before word v = (every is_char v ≡ true) × Without word v

pub without_more : (word : Text) (b : ℕ) (s v x : Text) → starts_with word (b ∷ s) ≡ false → s ≡ v ++ x → Without word v → Without word (b ∷ v)
without_more word b s v x n h k [] w e =
    let whole : b ∷ s ≡ word ++ (w ++ x) = ap (λ (t : Text). b ∷ t) h ∙ ap (λ (t : Text). t ++ x) e ∙ append_assoc word w x in
    false≢true (sym n ∙ ap (starts_with word) whole ∙ starts-word word (w ++ x))
without_more word b s v x n h k (c ∷ u) w e = k u w (cc)

pub until-sound : (word : Text) → Without word [] → (at : ℕ) (s : Text) (e : ℕ) (r : Text) → until word at s ≡ behind e r → (v : Text) × Before word v × (s ≡ v ++ (word ++ r))
unfolding until every
until-sound word w at [] e r q = absurd (bad-not q)
until-sound word w at (b ∷ s) e r q =
    bool_cases (starts_with word (b ∷ s))
    (λ y. ([], (refl, w), (literal-sound word at (b ∷ s) e r (rw y at q)).0))
    (λ y.
    let p = rw y at q in
    bool_cases (is_char b)
    (λ z.
    let h = until-sound word w (suc at) s e r (rw z at p) in
    (b ∷ h.0, (every-cons is_char b h.0 z h.1.0, without_more word b s h.0 (word ++ r) y h.2 h.1.1), ap (λ (t : Text). b ∷ t) h.2))
    (λ z. absurd (bad-not (rw z at p))))

-- no place of the word begins before it and reaches into it
abbrev pub Alone : Text → Type 0
Alone word = (b : ℕ) (v r : Text) → Without word (b ∷ v) → starts_with word (b ∷ (v ++ (word ++ r))) ≡ false

pub without-tail : (word : Text) (b : ℕ) (v : Text) → Without word (b ∷ v) → Without word v
without-tail word b v n u w e = n (b ∷ u) w (ap (λ (t : Text). b ∷ t) e)

pub until-complete : (w : ℕ) (word : Text) → Alone (w ∷ word) → (v : Text) → every is_char v ≡ true → Without (w ∷ word) v → (at : ℕ) (r : Text)
    → until (w ∷ word) at (v ++ (w ∷ word ++ r)) ≡ behind (at + length v + length (w ∷ word)) r
unfolding until every
until-complete w word al [] c n at r = rw (starts-word (w ∷ word) r) (literal-complete (w ∷ word) at r ∙ behind-same (omega arith))
until-complete w word al (b ∷ v) c n at r =
    let k = and_parts (is_char b) (every is_char v) c in
    rw (al b v r n, k.0) (until-complete w word al v k.1 (without-tail (w ∷ word) b v n) (suc at) r ∙ behind-same (omega arith))

pub some-not : (w : ℕ) (word : Text) → Without (w ∷ word) []
some-not w word [] v e = let y : 0 ≡ suc (length (word ++ v)) = ap length e in omega arith
some-not w word (b ∷ u) v e = let y : 0 ≡ suc (length (u ++ (w ∷ word ++ v))) = ap length e in omega arith

-- `?>`
pub question-alone : Alone (63 ∷ 62 ∷ [])
unfolding starts_with
question-alone b [] r n = bool_cases (eqb b 63) (λ y. rw y) (λ y. rw y)
question-alone b (c ∷ v) r n =
    bool_cases (eqb b 63)
    (λ y. bool_cases (eqb c 62)
    (λ z. absurd (n [] v (rw (eqb-true b 63 y, eqb-true c 62 z))))
    (λ z. rw (y, z)))
    (λ y. rw y)

-- `]]>`, where the three bytes stand in what it does not stand in
pub bracket-third : (b c d : ℕ) (v t : Text) → Without (93 ∷ 93 ∷ 62 ∷ []) (b ∷ c ∷ d ∷ v) → starts_with (93 ∷ 93 ∷ 62 ∷ []) (b ∷ c ∷ d ∷ t) ≡ false
unfolding starts_with
bracket-third b c d v t n =
    bool_cases (eqb b 93)
    (λ y. bool_cases (eqb c 93)
    (λ z. bool_cases (eqb d 62)
    (λ x. absurd (n [] v (rw (eqb-true b 93 y, eqb-true c 93 z, eqb-true d 62 x))))
    (λ x. rw (y, z, x)))
    (λ z. rw (y, z)))
    (λ y. rw y)

pub bracket-alone : Alone (93 ∷ 93 ∷ 62 ∷ [])
unfolding starts_with
bracket-alone b [] r n = bool_cases (eqb b 93) (λ y. rw y) (λ y. rw y)
bracket-alone b (c ∷ []) r n = bool_cases (eqb b 93) (λ y. bool_cases (eqb c 93) (λ z. rw (y, z)) (λ z. rw (y, z))) (λ y. rw y)
bracket-alone b (c ∷ d ∷ v) r n = bracket-third b c d v (v ++ (93 ∷ 93 ∷ 62 ∷ r)) n

-- [18]
pub section-sound : Sound CDSect section
unfolding section bytes
section-sound at s e r q =
    let z = then-ends (literal (bytes "<![CDATA[") at s) (until (bytes "]]>")) e r q in
    let a = literal-sound (bytes "<![CDATA[") at s z.0 z.1 z.2 in
    let b = until-sound (bytes "]]>") (some-not 93 (93 ∷ 62 ∷ [])) z.0 z.1 e r z.3 in
    let split : s ≡ (bytes "<![CDATA[" ++ (b.0 ++ bytes "]]>")) ++ r = a.0 ∙ ap (λ (t : Text). bytes "<![CDATA[" ++ t) b.2 ∙ sym (regroup (bytes "<![CDATA[") b.0 (bytes "]]>") r) in
    (bytes "<![CDATA[" ++ (b.0 ++ bytes "]]>"), grammar.section b.1.0 b.1.1, split, ends_at section (moves section-passes) at s e r (bytes "<![CDATA[" ++ (b.0 ++ bytes "]]>")) q split)

pub section-complete : {v : Text} → CDSect v → (at : ℕ) (r : Text) → section at (v ++ r) ≡ behind (at + length v) r
unfolding section bytes literal starts_with
section-complete (grammar.section {s} c n) at r =
    rw (regroup (bytes "<![CDATA[") s (bytes "]]>") r, until-complete 93 (93 ∷ 62 ∷ []) bracket-alone s c n (at + 9) r)
    (behind-same (omega (arith, length-append s (bytes "]]>"))))

-- [17]
pub target_sound : Sound PITarget target
unfolding target
target_sound at s e r q =
    bool_cases (is_xml (leading_name s))
    (λ y. absurd (bad-not (rw y at q)))
    (λ y.
    let p = rw y at q in
    let h = name-sound at s e r p in
    (h.0, grammar.target h.1 (rw (name-whole at s e r h.0 p h.2 h.3) at y), h.2, h.3))

pub target-complete : {v : Text} → PITarget v → (at : ℕ) (r : Text) → begins is_name r ≡ false → target at (v ++ r) ≡ behind (at + length v) r
unfolding target
target-complete (grammar.target n x) at r h = rw (name_of-complete n r h, x) (name-complete n at r h)

-- what stands behind a target
first-white : (v r : Text) → is_white_space (first (v ++ (63 ∷ 62 ∷ r))) ≡ true → Before (63 ∷ 62 ∷ []) v → PIText v
unfolding first is_white_space every bytes
first-white [] r h k = absurd (false≢true h)
first-white (b ∷ v) r h k = behind_target {s = b ∷ []} {t = v} (run h refl) (and_parts (is_char b) (every is_char v) k.0).1 (without-tail (63 ∷ 62 ∷ []) b v k.1)

instruction-end-sound : (at : ℕ) (s : Text) (e : ℕ) (r : Text) → instruction_end at s ≡ behind e r → (v : Text) × Opt PIText v × (s ≡ v ++ (bytes "?>" ++ r))
unfolding instruction_end bytes
instruction-end-sound at s e r q =
    bool_cases (is_white_space (first s))
    (λ y.
    let h = until-sound (bytes "?>") (some-not 63 (62 ∷ [])) at s e r (rw y at q) in
    (h.0, present (first-white h.0 r (subst (λ (t : Text). is_white_space (first t) ≡ true) h.2 y) h.1), h.2))
    (λ y. ([], absent, (literal-sound (bytes "?>") at s e r (rw y at q)).0))

white-not : (b : ℕ) → is_white_space b ≡ true → eqb b 63 ≡ false
white-not = white-is (λ (b : ℕ). eqb b 63 ≡ false) refl refl refl refl

white-without : (s t : Text) → every is_white_space s ≡ true → Without (63 ∷ 62 ∷ []) t → Without (63 ∷ 62 ∷ []) (s ++ t)
unfolding every
white-without [] t h n u w e = n u w e
white-without (b ∷ s) t h n [] w e =
    let p : b ≡ 63 = cc in
    false≢true (sym (white-not b (and_parts (is_white_space b) (every is_white_space s) h).0) ∙ eq-eqb b 63 p)
white-without (b ∷ s) t h n (c ∷ u) w e = white-without s t (and_parts (is_white_space b) (every is_white_space s) h).1 n u w (cc)

instruction-end-complete : {v : Text} → Opt PIText v → (at : ℕ) (r : Text) → instruction_end at (v ++ (bytes "?>" ++ r)) ≡ behind (at + length v + 2) r
unfolding instruction_end bytes first is_white_space literal starts_with
instruction-end-complete absent at r = behind-same (omega arith)
instruction-end-complete (present (behind_target {t} (run {b} {s} y h) c n)) at r =
    let blank : S (b ∷ s) = run y h in
    let white = s-white blank in
    rw y
    (until-complete 63 (62 ∷ []) question-alone (b ∷ (s ++ t)) (every-append-true is_char (b ∷ s) t (every-weaken is_white_space is_char white-char (b ∷ s) white) c)
    (white-without (b ∷ s) t white n) at r)

pub instruction-sound : Sound PI instruction
unfolding instruction bytes
instruction-sound at s e r q =
    let z = then-ends (literal (bytes "<?") at s and_then target) instruction_end e r q in
    let y = then-ends (literal (bytes "<?") at s) target z.0 z.1 z.2 in
    let a = literal-sound (bytes "<?") at s y.0 y.1 y.2 in
    let b = target_sound y.0 y.1 z.0 z.1 y.3 in
    let c = instruction-end-sound z.0 z.1 e r z.3 in
    let v = bytes "<?" ++ (b.0 ++ (c.0 ++ bytes "?>")) in
    let split : s ≡ v ++ r =
    a.0 ∙ ap (λ (t : Text). bytes "<?" ++ t) (b.2 ∙ ap (λ (t : Text). b.0 ++ t) c.2) ∙ sym (regroup4 (bytes "<?") b.0 c.0 (bytes "?>") r) in
    (v, grammar.instruction b.1 c.1, split, ends_at instruction (moves instruction-passes) at s e r v q split)

mark-no-name : (r : Text) → begins is_name (63 ∷ r) ≡ false
unfolding is_name is_name_start is_letter between
mark-no-name r = begins-low is_name 63 r (omega arith) refl

pub behind-target : {s : Text} → Opt PIText s → (r : Text) → begins is_name (s ++ (63 ∷ r)) ≡ false
behind-target absent r = mark-no-name r
behind-target (present (behind_target (run {b} y h) c n)) r = white-no-name b y _

pub instruction-complete : {v : Text} → PI v → (at : ℕ) (r : Text) → instruction at (v ++ r) ≡ behind (at + length v) r
unfolding instruction bytes literal starts_with
instruction-complete (grammar.instruction {n} {s} a o) at r =
    let size = length-append n (s ++ bytes "?>") in
    let size2 = length-append s (bytes "?>") in
    rw (regroup4 (bytes "<?") n s (bytes "?>") r, target-complete a (at + 2) (s ++ (63 ∷ 62 ∷ r)) (behind-target o (62 ∷ r)), instruction-end-complete o (at + 2 + length n) r)
    (behind-same (omega arith))

-- they have bytes
pub comment-some : {v : Text} → Comment v → 0 < length v
unfolding bytes
comment-some (grammar.comment k) = omega arith

pub section-some : {v : Text} → CDSect v → 0 < length v
unfolding bytes
section-some (grammar.section c k) = omega arith

pub instruction-some : {v : Text} → PI v → 0 < length v
unfolding bytes
instruction-some (grammar.instruction a o) = omega arith
