-- What is derived is scanned (specs/Grammar.antt, specs/Scan.antt): by the derivation. A quantity in braces is scanned as characters. Assumes nothing.
use Prim.Native.Nat.{ℕ, suc}
use Prim.Native.Char.{code}
use mathlib.Core.Path.{◌≡◌, refl, sym, ap, ◌∙◌}
use mathlib.Core.Bool.{Bool, true, false, false≢true}
use mathlib.Core.List.{[], ◌∷◌, ◌++◌, append_assoc}
use lib.Dec.{eqb}
use borrow.Author.Tests.{ne_eqb}
use Rattle.text.specs.Text.{Text, bytes, contains, between, is_digit, first}
use Rattle.std.proofs.lemmas.Bool.{or_left, or_right}
use Rattle.text.proofs.Laws.Tests.{and-true, and-true-left}
use Rattle.text.proofs.Laws.Every.{EachFrom, between-each}
use Rattle.xml.specs.Classes.{is_char}
use Rattle.pattern.specs.Grammar.{char_but, is_normal, is_xml_char, is_in_class, is_mark, is_single, is_multi, QuantExact, digit, digits, Quantity, range, least, exact}
use Rattle.pattern.specs.Grammar.{Quantifier, mark, counted, SingleCharEsc, single}
use Rattle.pattern.specs.Grammar.{single_esc, multi_esc, CharOrEsc, xml_char, char_esc, CharRange, se_range, char_inc_dash, GroupItem, range_item, esc_item}
use Rattle.pattern.specs.Grammar.{PosCharGroup, item, items, CharGroup, positive, negative, CharClass, class_esc, class_expr, wildcard}
use Rattle.pattern.specs.Grammar.{Symbol, reg_exp, branch, piece, Derives, one, or, none, more, once, times, char, class, group}
use Rattle.pattern.specs.Scan.{Mode, start, atom, go, is_escaped, leave, is_single_char, fresh, class_step, pattern_step, final, scan}

-- a byte that passes a test is not one that fails it
pub differs : (p : ℕ → Bool) (c : ℕ) {b : ℕ} → p b ≡ true → p c ≡ false → eqb b c ≡ false
differs p c {b} h k = ne_eqb b c (λ e. false≢true (sym k ∙ ap p (sym e) ∙ h))

pub differs' : (p : ℕ → Bool) (c : ℕ) {b : ℕ} → p b ≡ true → p c ≡ false → eqb c b ≡ false
differs' p c {b} h k = ne_eqb c b (λ e. false≢true (sym k ∙ ap p e ∙ h))

pub plain-fresh : (d b : ℕ) → is_single_char b ≡ true → fresh d b ≡ go d atom
unfolding fresh is_single_char is_normal char_but is_char contains bytes between
plain-fresh d b h = rw (differs is_single_char 40 h refl, differs is_single_char 41 h refl, differs is_single_char 124 h refl, differs is_single_char 91 h refl, differs is_single_char 92 h refl, h)

pub plain-unmarked : (b : ℕ) → is_single_char b ≡ true → is_mark b ≡ false
unfolding is_mark is_single_char is_normal char_but is_char contains bytes between
plain-unmarked b h = rw (differs' is_single_char 63 h refl, differs' is_single_char 42 h refl, differs' is_single_char 43 h refl)

normal-plain : (b : ℕ) → is_normal b ≡ true → is_single_char b ≡ true
unfolding is_single_char
normal-plain b h = or_right (eqb b 46) _ h

-- behind an atom a character is scanned as where an atom may come
pub unmarked-scan : (d : ℕ) (r : Text) → is_mark (first r) ≡ false → scan (go d atom) r ≡ scan (go d start) r
unfolding scan final pattern_step first
unmarked-scan d [] h = refl
unmarked-scan d (b ∷ r) h = rw h

-- a character behind an atom
char-scan : (d b : ℕ) (r : Text) → is_single_char b ≡ true → scan (go d atom) (b ∷ r) ≡ scan (go d atom) r
unfolding scan pattern_step
char-scan d b r h = rw (plain-unmarked b h, plain-fresh d b h)

digit-plain : (b : ℕ) → is_digit b ≡ true → is_single_char b ≡ true
unfolding is_single_char is_normal char_but is_char contains bytes between EachFrom
digit-plain b h = between-each (λ (k : ℕ). is_single_char k ≡ true) 48 9 57 b refl (refl, (refl, (refl, (refl, (refl, (refl, (refl, (refl, (refl, refl))))))))) h

exact-scan : {s : Text} → QuantExact s → (d : ℕ) (r : Text) → scan (go d atom) (s ++ r) ≡ scan (go d atom) r
exact-scan (digit {b} h) d r = char-scan d b r (digit-plain b h)
exact-scan (digits {b} {s} h q) d r = char-scan d b (s ++ r) (digit-plain b h) ∙ exact-scan q d r

quantity-scan : {s : Text} → Quantity s → (d : ℕ) (r : Text) → scan (go d atom) (s ++ r) ≡ scan (go d atom) r
unfolding is_single_char is_normal char_but is_char contains bytes between
quantity-scan (range {s} {t} p q) d r = rw append_assoc (exact-scan p d (code "," ∷ t ++ r) ∙ char-scan d 44 (t ++ r) refl ∙ exact-scan q d r)
quantity-scan (least {s} p) d r = rw append_assoc (exact-scan p d (code "," ∷ r) ∙ char-scan d 44 r refl)
quantity-scan (exact p) d r = exact-scan p d r

mark-scan : (d b : ℕ) (r : Text) → is_mark b ≡ true → scan (go d atom) (b ∷ r) ≡ scan (go d start) r
unfolding scan pattern_step
mark-scan d b r h = rw h

quantifier-scan : {q : Text} → Quantifier q → (d : ℕ) (r : Text) → is_mark (first r) ≡ false → scan (go d atom) (q ++ r) ≡ scan (go d start) r
unfolding is_single_char is_normal char_but is_char contains bytes between
quantifier-scan (mark {b} h) d r u = mark-scan d b r h
quantifier-scan (counted {s} q) d r u =
    rw append_assoc (char-scan d 123 (s ++ code "}" ∷ r) refl ∙ quantity-scan q d (code "}" ∷ r) ∙ char-scan d 125 r refl ∙ unmarked-scan d r u)

-- classes: `true` for the mode behind the opening bracket, `false` for those after
abbrev in_class : Bool → Mode
in_class true = Mode.opened
in_class false = Mode.class

in-scan : (f : Bool) (d b : ℕ) (r : Text) → is_in_class b ≡ true → scan (go d (in_class f)) (b ∷ r) ≡ scan (go d Mode.class) r
unfolding scan pattern_step class_step is_in_class char_but is_char contains bytes between
in-scan true d b r h = rw (differs is_in_class 92 h refl, h)
in-scan false d b r h = rw (differs is_in_class 93 h refl, differs is_in_class 92 h refl, h)

xml-char-in : (b : ℕ) → is_xml_char b ≡ true → is_in_class b ≡ true
unfolding is_xml_char is_in_class char_but is_char contains bytes between
xml-char-in b h =
    and-true (and-true-left (is_char b) _ h) (rw (differs' is_xml_char 92 h refl, differs' is_xml_char 91 h refl, differs' is_xml_char 93 h refl))

single-escaped : (b : ℕ) → is_single b ≡ true → is_escaped b ≡ true
unfolding is_escaped
single-escaped b h = or_left _ (is_multi b) h

multi-escaped : (b : ℕ) → is_multi b ≡ true → is_escaped b ≡ true
unfolding is_escaped
multi-escaped b h = or_right (is_single b) _ h

in-esc : (f : Bool) (d b : ℕ) (r : Text) → is_escaped b ≡ true → scan (go d (in_class f)) (code "\\" ∷ b ∷ r) ≡ scan (go d Mode.class) r
unfolding scan pattern_step class_step
in-esc true d b r h = rw h
in-esc false d b r h = rw h

esc-scan : (d b : ℕ) (r : Text) → is_escaped b ≡ true → scan (go d start) (code "\\" ∷ b ∷ r) ≡ scan (go d atom) r
unfolding scan pattern_step fresh
esc-scan d b r h = rw h

in-single : {s : Text} → SingleCharEsc s → (f : Bool) (d : ℕ) (r : Text) → scan (go d (in_class f)) (s ++ r) ≡ scan (go d Mode.class) r
in-single (single {b} h) f d r = in-esc f d b r (single-escaped b h)

or-esc-scan : {s : Text} → CharOrEsc s → (f : Bool) (d : ℕ) (r : Text) → scan (go d (in_class f)) (s ++ r) ≡ scan (go d Mode.class) r
or-esc-scan (xml_char {b} h) f d r = in-scan f d b r (xml-char-in b h)
or-esc-scan (char_esc e) f d r = in-single e f d r

range-scan : {s : Text} → CharRange s → (f : Bool) (d : ℕ) (r : Text) → scan (go d (in_class f)) (s ++ r) ≡ scan (go d Mode.class) r
unfolding is_in_class char_but is_char contains bytes between
range-scan (se_range {s} {t} p q) f d r = rw append_assoc (or-esc-scan p f d (code "-" ∷ t ++ r) ∙ in-scan false d 45 (t ++ r) refl ∙ or-esc-scan q false d r)
range-scan (char_inc_dash {b} h) f d r = in-scan f d b r h

item-scan : {s : Text} → GroupItem s → (f : Bool) (d : ℕ) (r : Text) → scan (go d (in_class f)) (s ++ r) ≡ scan (go d Mode.class) r
item-scan (range_item q) f d r = range-scan q f d r
item-scan (esc_item (single_esc e)) f d r = in-single e f d r
item-scan (esc_item (multi_esc {b} h)) f d r = in-esc f d b r (multi-escaped b h)

items-scan : {s : Text} → PosCharGroup s → (f : Bool) (d : ℕ) (r : Text) → scan (go d (in_class f)) (s ++ r) ≡ scan (go d Mode.class) r
items-scan (item q) f d r = item-scan q f d r
items-scan (items {s} {t} q p) f d r = rw append_assoc (item-scan q f d (t ++ r) ∙ items-scan p false d r)

group-scan : {s : Text} → CharGroup s → (d : ℕ) (r : Text) → scan (go d Mode.opened) (s ++ r) ≡ scan (go d Mode.class) r
unfolding is_in_class char_but is_char contains bytes between
group-scan (positive p) d r = items-scan p true d r
group-scan (negative {s} p) d r = in-scan true d 94 (s ++ r) refl ∙ items-scan p false d r

open-scan : (d : ℕ) (r : Text) → scan (go d start) (code "[" ∷ r) ≡ scan (go d Mode.opened) r
unfolding scan pattern_step fresh
open-scan d r = refl

close-scan : (d : ℕ) (r : Text) → scan (go d Mode.class) (code "]" ∷ r) ≡ scan (go d atom) r
unfolding scan pattern_step
close-scan d r = refl

plain-scan : (d b : ℕ) (r : Text) → is_single_char b ≡ true → scan (go d start) (b ∷ r) ≡ scan (go d atom) r
unfolding scan pattern_step
plain-scan d b r h = rw (plain-fresh d b h)

class-scan : {s : Text} → CharClass s → (d : ℕ) (r : Text) → scan (go d start) (s ++ r) ≡ scan (go d atom) r
unfolding is_single_char
class-scan (class_esc (single_esc (single {b} h))) d r = esc-scan d b r (single-escaped b h)
class-scan (class_esc (multi_esc {b} h)) d r = esc-scan d b r (multi-escaped b h)
class-scan (class_expr {s} g) d r = rw append_assoc (open-scan d (s ++ code "]" ∷ r) ∙ group-scan g d (code "]" ∷ r) ∙ close-scan d r)
class-scan wildcard d r = plain-scan d 46 r refl

-- no piece begins with a quantifier
class-first : {s : Text} → CharClass s → (r : Text) → is_mark (first (s ++ r)) ≡ false
unfolding is_mark contains bytes first
class-first (class_esc (single_esc (single h))) r = refl
class-first (class_esc (multi_esc h)) r = refl
class-first (class_expr g) r = refl
class-first wildcard r = refl

atom-first : {s : Text} → Derives Symbol.atom s → (r : Text) → is_mark (first (s ++ r)) ≡ false
unfolding is_mark contains bytes first
atom-first (char {b} h) r = plain-unmarked b (normal-plain b h)
atom-first (class k) r = class-first k r
atom-first (group e) r = refl

piece-first : {s : Text} → Derives piece s → (r : Text) → is_mark (first (s ++ r)) ≡ false
piece-first (once a) r = atom-first a r
piece-first (times {s} {q} a k) r = rw append_assoc (atom-first a (q ++ r))

branch-first : {s : Text} → Derives branch s → (r : Text) → is_mark (first r) ≡ false → is_mark (first (s ++ r)) ≡ false
branch-first none r u = u
branch-first (more {s} {t} p b) r u = rw append_assoc (piece-first p (t ++ r))

enter-scan : (d : ℕ) (r : Text) → scan (go d start) (code "(" ∷ r) ≡ scan (go (suc d) start) r
unfolding scan pattern_step fresh
enter-scan d r = refl

leave-scan : (d : ℕ) (r : Text) → scan (go (suc d) start) (code ")" ∷ r) ≡ scan (go d atom) r
unfolding scan pattern_step fresh leave
leave-scan d r = refl

or-scan : (d : ℕ) (r : Text) → scan (go d start) (code "|" ∷ r) ≡ scan (go d start) r
unfolding scan pattern_step fresh
or-scan d r = refl

-- what a derivation says of the scan
abbrev pub Scanned : Symbol → Text → Type 0
Scanned reg_exp s = (d : ℕ) (r : Text) → is_mark (first r) ≡ false → scan (go d start) (s ++ r) ≡ scan (go d start) r
Scanned branch s = (d : ℕ) (r : Text) → is_mark (first r) ≡ false → scan (go d start) (s ++ r) ≡ scan (go d start) r
Scanned piece s = (d : ℕ) (r : Text) → is_mark (first r) ≡ false → scan (go d start) (s ++ r) ≡ scan (go d start) r
Scanned Symbol.atom s = (d : ℕ) (r : Text) → scan (go d start) (s ++ r) ≡ scan (go d atom) r

pub derived-scan : {x : Symbol} {s : Text} → Derives x s → Scanned x s
unfolding is_mark contains bytes first
derived-scan (one b) = derived-scan b
derived-scan (or {s} {t} b e) = λ d r u. rw append_assoc (derived-scan b d (code "|" ∷ t ++ r) refl ∙ or-scan d (t ++ r) ∙ derived-scan e d r u)
derived-scan none = λ d r u. refl
derived-scan (more {s} {t} p b) = λ d r u. rw append_assoc (derived-scan p d (t ++ r) (branch-first b r u) ∙ derived-scan b d r u)
derived-scan (once a) = λ d r u. derived-scan a d r ∙ unmarked-scan d r u
derived-scan (times {s} {q} a k) = λ d r u. rw append_assoc (derived-scan a d (q ++ r) ∙ quantifier-scan k d r u)
derived-scan (char {b} h) = λ d r. plain-scan d b r (normal-plain b h)
derived-scan (class k) = λ d r. class-scan k d r
derived-scan (group {s} e) = λ d r. rw append_assoc (enter-scan d (s ++ code ")" ∷ r) ∙ derived-scan e (suc d) (code ")" ∷ r) refl ∙ leave-scan d r)
