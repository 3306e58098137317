-- [22] prolog (specs/Grammar.antt), both ways: a declaration and Misc*, and a declaration is never read as an instruction. Assumes nothing.
use Prim.Native.Nat.{ℕ, ◌+◌}
use mathlib.Core.Path.{◌≡◌, refl, sym, ap, ◌∙◌}
use mathlib.Core.List.{[], ◌∷◌, ◌++◌, append_assoc}
use mathlib.Core.Bool.{true, false, not, ◌&&◌, false≢true}
use native.Mathlib.Omega.{arith}
use lib.Dec.{eqb}
use lib.ListN.{length, drop, length-append}
use Rattle.text.specs.Text.{Text, bytes, between, lower_byte}
use Rattle.text.specs.Trim.{is_white_space}
use Rattle.text.proofs.Laws.Tests.{bool_cases, or-false-right}
use Rattle.xml.specs.Classes.{is_letter, is_name_start, is_name, is_byte_of, begins}
use Rattle.xml.specs.Steps.{behind, starts_with, leading_name}
use Rattle.xml.specs.Grammar.{is_xml, absent, present, Many, none, more, run, PITarget, PI, declares, XMLDecl, xml_decl, Misc, misc_comment, misc_pi, misc_s, Prolog}
use Rattle.xml.specs.Prolog.{declaration, is_misc, misc, is_declaration, prolog}
use Rattle.xml.specs.Grammar as grammar
use Rattle.xml.proofs.Laws.Steps.{starts-longer}
use Rattle.xml.proofs.Laws.Names.{name_of-none, name_of-some}
use Rattle.xml.proofs.Laws.Moves.{then-ends}
use Rattle.xml.proofs.Laws.Grammar.Basics.{Sound, behind-same, word-starts, name_of-complete, white-is, white-no-name}
use Rattle.xml.proofs.Laws.Grammar.Markup.{behind-target}
use Rattle.xml.proofs.Laws.Grammar.Prolog.{Follows, misc-sound, misc-complete, declaration-sound, declaration-complete}

pub prolog-sound : Sound Prolog prolog
unfolding prolog
prolog-sound at s e r h =
    bool_cases (is_declaration s)
    (λ y.
    let z = then-ends (declaration at s) misc e r (rw y at h) in
    let a = declaration-sound at s z.0 z.1 z.2 in
    let b = misc-sound z.0 z.1 e r z.3 in
    (a.0 ++ b.0, grammar.prolog (present a.1) b.1, a.2 ∙ ap (λ (t : Text). a.0 ++ t) b.2 ∙ sym (append_assoc a.0 b.0 r), omega (arith, a.3, b.3, length-append a.0 b.0)))
    (λ y. let b = misc-sound at s e r (rw y at h) in (b.0, grammar.prolog absent b.1, b.2, b.3))

-- a declaration begins a text with a declaration
declaration-is : {v : Text} → XMLDecl v → (r : Text) → is_declaration (v ++ r) ≡ true
unfolding is_declaration bytes starts_with
declaration-is (xml_decl (declares (run {b} y h) c d) e f o) r = ap not (white-no-name b y _)

-- and Misc* with what may stand behind it does not
white-no-less : (b : ℕ) → is_white_space b ≡ true → eqb b 60 ≡ false
white-no-less = white-is (λ (b : ℕ). eqb b 60 ≡ false) refl refl refl refl

name-xml : (n : Text) (s : Text) → leading_name s ≡ n → starts_with (bytes "xml") s ≡ true → begins is_name (drop 3 s) ≡ false → is_xml n ≡ true
unfolding is_xml bytes lower_byte between is_byte_of is_name is_name_start is_letter
name-xml n s h k f =
    let w = word-starts (bytes "xml") s k in
    let e : n ≡ bytes "xml" =
    sym h ∙ ap leading_name w ∙ name_of-some 120 _ refl
    ∙ ap (λ (t : Text). 120 ∷ t) (name_of-some 109 _ refl ∙ ap (λ (t : Text). 109 ∷ t) (name_of-some 108 _ refl ∙ ap (λ (t : Text). 108 ∷ t) (name_of-none (drop 3 s) f))) in
    ap is_xml e

target-no-xml : {n : Text} → PITarget n → (s : Text) → begins is_name s ≡ false → starts_with (bytes "xml") (n ++ s) && not (begins is_name (drop 3 (n ++ s))) ≡ false
target-no-xml {n} (grammar.target m x) s f =
    bool_cases (starts_with (bytes "xml") (n ++ s))
    (λ y. bool_cases (begins is_name (drop 3 (n ++ s)))
    (λ z. rw (y, z))
    (λ z. absurd (false≢true (sym x ∙ name-xml n (n ++ s) (name_of-complete m s f) y z))))
    (λ y. rw y)

instruction-no-declaration : {v : Text} → PI v → (r : Text) → is_declaration (v ++ r) ≡ false
unfolding is_declaration bytes starts_with
instruction-no-declaration (grammar.instruction {n} {s} t o) r =
    let whole : (n ++ (s ++ (63 ∷ 62 ∷ []))) ++ r ≡ n ++ (s ++ (63 ∷ 62 ∷ r)) = simp append_assoc in
    rw whole (target-no-xml t (s ++ (63 ∷ 62 ∷ r)) (behind-target o (62 ∷ r)))

no-declaration : {t : Text} → Many Misc t → (r : Text) → Follows r → is_declaration (t ++ r) ≡ false
unfolding is_declaration is_misc bytes starts_with
no-declaration none r f =
    rw (starts-longer (bytes "<?") (bytes "xml") r (or-false-right (starts_with (bytes "<!--") r) (starts_with (bytes "<?") r) f.1))
no-declaration (more {t} (misc_s (run {b} y h)) k) r f = rw (white-no-less b y)
no-declaration (more (misc_comment (grammar.comment c)) k) r f = refl
no-declaration (more {s} {t} (misc_pi d) k) r f = ap is_declaration (append_assoc s t r) ∙ instruction-no-declaration d (t ++ r)

pub prolog-complete : {v : Text} → Prolog v → (at : ℕ) (r : Text) → Follows r → prolog at (v ++ r) ≡ behind (at + length v) r
unfolding prolog
prolog-complete (grammar.prolog {t} absent m) at r f = rw (no-declaration m r f) (misc-complete m at r f)
prolog-complete (grammar.prolog {s} {t} (present d) m) at r f =
    rw (append_assoc s t r, declaration-is d (t ++ r), declaration-complete d at (t ++ r)) (misc-complete m (at + length s) r f ∙ behind-same (omega (arith, length-append s t)))
