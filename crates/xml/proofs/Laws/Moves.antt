-- Steps move forward in what is left: where a step ends, the offset and the bytes left make up the same whole (`Moves`), and most take a byte at least
-- (`Passes`). Assumes nothing.
use Prim.Native.Nat.{ℕ, zero, suc, ◌+◌, ◌-◌, ◌≤◌, ◌<◌}
use Prim.Native.Char.{code}
use mathlib.Core.Path.{◌≡◌, refl, ap, ◌∙◌}
use mathlib.Core.List.{[], ◌∷◌, ◌++◌}
use mathlib.Core.Bool.{Bool, true, false, not, ◌&&◌}
use mathlib.Core.Logic.{⊎_elim}
use native.Mathlib.Omega.{arith}
use lib.Dec.{eqb}
use lib.ListN.{length, drop, length-drop, length-append}
use borrow.Author.Tests.{eqb-true}
use Rattle.text.specs.Text.{Text, bytes, first, contains}
use Rattle.std.proofs.lemmas.Bool.{or_cases}
use Rattle.text.proofs.Laws.Tests.{bool_cases}
use Rattle.text.specs.Trim.{is_white_space}
use Rattle.xml.specs.Classes.{is_char}
use Rattle.xml.specs.Steps.{Step, bad, behind, ◌and_then◌, starts_with, literal, many, one_then, spaces, name, leading_name, until, comment, target, instruction_end, instruction, section}
use Rattle.xml.specs.Grammar.{is_xml}
use Rattle.xml.specs.Values.{starts_character, is_quote, value_end, value, char_data}
use Rattle.xml.specs.Prolog.{eq, is_misc, misc_part, misc_from}
use Rattle.xml.proofs.Laws.Steps.{starts-length}
use Rattle.xml.proofs.Laws.Names.{behind-at, behind-rest, bad-not, name-read, name_of-begun, name_of-length, begins-name}

abbrev pub Moves : (ℕ → Text → Step) → Type 0
Moves f = (at : ℕ) (s : Text) (e : ℕ) (r : Text) → f at s ≡ behind e r → (at ≤ e) × (e + length r ≡ at + length s)

abbrev pub Passes : (ℕ → Text → Step) → Type 0
Passes f = (at : ℕ) (s : Text) (e : ℕ) (r : Text) → f at s ≡ behind e r → (at < e) × (e + length r ≡ at + length s)

pub stays : (at : ℕ) (s : Text) (e : ℕ) (r : Text) → behind at s ≡ behind e r → (at ≤ e) × (e + length r ≡ at + length s)
stays at s e r q =
    let h = behind-at q in
    let k = ap length (behind-rest q) in
    (omega arith, omega arith)

pub moves : {f : ℕ → Text → Step} → Passes f → Moves f
moves p at s e r q = let h = p at s e r q in (omega arith, omega arith)

pub literal-passes : (word : Text) → 0 < length word → Passes (literal word)
unfolding literal
literal-passes word w at s e r q =
    bool_cases (starts_with word s)
    (λ y.
    let b = rw y at q in
    let h = behind-at b in
    let k = ap length (behind-rest b) in
    let n = starts-length word s y in
    let d = length-drop (length word) s in
    (omega arith, omega arith))
    (λ y. absurd (bad-not (rw y at q)))

pub many-moves : (p : ℕ → Bool) → Moves (many p)
unfolding many
many-moves p at [] e r q = stays at [] e r q
many-moves p at (b ∷ s) e r q =
    bool_cases (p b)
    (λ y. let h = many-moves p (suc at) s e r (rw y at q) in (omega arith, omega arith))
    (λ y. stays at (b ∷ s) e r (rw y at q))

pub one_passes : (p q : ℕ → Bool) → Passes (one_then p q)
unfolding one_then
one_passes p k at [] e r q = absurd (bad-not q)
one_passes p k at (b ∷ s) e r q =
    bool_cases (p b)
    (λ y. let h = many-moves k (suc at) s e r (rw y at q) in (omega arith, omega arith))
    (λ y. absurd (bad-not (rw y at q)))

pub spaces-moves : Moves spaces
unfolding spaces
spaces-moves at s e r q = many-moves is_white_space at s e r q

pub name-passes : Passes name
name-passes at s e r q =
    let n = name-read at s e r q in
    omega (arith, n.1, ap length n.2, name_of-begun s (begins-name s n.0), name_of-length s, length-drop (length (leading_name s)) s)

pub until-moves : (word : Text) → 0 < length word → Moves (until word)
unfolding until
until-moves word w at [] e r q = absurd (bad-not q)
until-moves word w at (b ∷ s) e r q =
    bool_cases (starts_with word (b ∷ s))
    (λ y. moves (literal-passes word w) at (b ∷ s) e r (rw y at q))
    (λ y.
    let p = rw y at q in
    bool_cases (is_char b)
    (λ z. let h = until-moves word w (suc at) s e r (rw z at p) in (omega arith, omega arith))
    (λ z. absurd (bad-not (rw z at p))))

-- where two steps one behind the other end, the first has ended too
pub then-ends : (d : Step) (g : ℕ → Text → Step) (e : ℕ) (r : Text) → d and_then g ≡ behind e r → (a : ℕ) × (t : Text) × (d ≡ behind a t) × (g a t ≡ behind e r)
then-ends bad g e r q = absurd (bad-not q)
then-ends (behind a t) g e r q = (a, t, refl, q)

pub then-passes : {f g : ℕ → Text → Step} → Passes f → Moves g → Passes (λ (at : ℕ) (s : Text). f at s and_then g)
then-passes {f} {g} p m at s e r q =
    let z = then-ends (f at s) g e r q in
    let h = p at s z.0 z.1 z.2 in
    let k = m z.0 z.1 e r z.3 in
    (omega arith, omega arith)

pub comment-passes : Passes comment
unfolding comment bytes
comment-passes = then-passes (then-passes (literal-passes (bytes "<!--") (omega arith)) (until-moves (bytes "--") (omega arith))) (moves (literal-passes (bytes ">") (omega arith)))

pub section-passes : Passes section
unfolding section bytes
section-passes = then-passes (literal-passes (bytes "<![CDATA[") (omega arith)) (until-moves (bytes "]]>") (omega arith))

pub target-passes : Passes target
unfolding target
target-passes at s e r q =
    bool_cases (is_xml (leading_name s)) (λ y. absurd (bad-not (rw y at q))) (λ y. name-passes at s e r (rw y at q))

pub instruction-end-moves : Moves instruction_end
unfolding instruction_end bytes
instruction-end-moves at s e r q =
    bool_cases (is_white_space (first s))
    (λ y. until-moves (bytes "?>") (omega arith) at s e r (rw y at q))
    (λ y. moves (literal-passes (bytes "?>") (omega arith)) at s e r (rw y at q))

pub instruction-passes : Passes instruction
unfolding instruction bytes
instruction-passes = then-passes (then-passes (literal-passes (bytes "<?") (omega arith)) (moves target-passes)) instruction-end-moves

pub misc-part-passes : Passes misc_part
unfolding misc_part
misc-part-passes at s e r q =
    bool_cases (starts_with (bytes "<!--") s)
    (λ y. comment-passes at s e r (rw y at q))
    (λ y. instruction-passes at s e r (rw y at q))

pub misc-some : (s : Text) → is_misc s ≡ true → 0 < length s
unfolding is_misc bytes
misc-some s e =
    ⊎_elim
    (λ y. omega (arith, starts-length (bytes "<!--") s y))
    (λ y. omega (arith, starts-length (bytes "<?") s y))
    (or_cases (starts_with (bytes "<!--") s) (starts_with (bytes "<?") s) e)

-- a turn of Misc moves forward
pub misc-ahead : (text : Text) (i e j : ℕ) → is_misc (drop i text) ≡ true → misc_part i (drop i text) ≡ behind e (drop e text) → spaces e (drop e text) ≡ behind j (drop j text)
    → (i < length text) × (i < j)
misc-ahead text i e j m p q =
    let some = misc-some (drop i text) m in
    let part = misc-part-passes i (drop i text) e (drop e text) p in
    let ends = spaces-moves e (drop e text) j (drop j text) q in
    let n = length-drop i text in
    (omega arith, omega arith)

pub misc-bad : (turns at : ℕ) (s : Text) → is_misc s ≡ true → misc_part at s ≡ bad → misc_from turns at s ≡ bad
unfolding misc_from
misc-bad zero at s m p = refl
misc-bad (suc turns) at s m p = rw (m, p)

pub misc-stop : (turns at : ℕ) (s : Text) → 0 < turns → is_misc s ≡ false → misc_from turns at s ≡ behind at s
unfolding misc_from
misc-stop zero at s h m = absurd (omega arith)
misc-stop (suc turns) at s h m = rw m

pub misc-on : (text : Text) (turns i e j : ℕ) (whole : Step) → length text - i < turns → is_misc (drop i text) ≡ true → misc_part i (drop i text) ≡ behind e (drop e text)
    → spaces e (drop e text) ≡ behind j (drop j text)
    → misc_from turns i (drop i text) ≡ whole → (t : ℕ) × (length text - j < t) × (misc_from t j (drop j text) ≡ whole)
unfolding misc_from
misc-on text zero i e j whole h m p q w = absurd (omega arith)
misc-on text (suc turns) i e j whole h m p q w =
    let a = misc-ahead text i e j m p q in
    (turns, omega arith, rw (m, p, q) at w)

-- a step on what is left of a text ends inside the text
pub inside-text : {f : ℕ → Text → Step} → Passes f → (text : Text) (at e : ℕ) → f at (drop at text) ≡ behind e (drop e text) → (at < e) × (e ≤ length text)
inside-text p text at e q =
    let h = p at (drop at text) e (drop e text) q in
    let n = length-drop at text in
    let m = length-drop e text in
    (omega arith, omega arith)

pub eq-passes : Passes eq
unfolding eq bytes
eq-passes at s e r q =
    let y = then-ends (spaces at s and_then literal (bytes "=")) spaces e r q in
    let z = then-ends (spaces at s) (literal (bytes "=")) y.0 y.1 y.2 in
    let a = spaces-moves at s z.0 z.1 z.2 in
    let b = literal-passes (bytes "=") (omega arith) z.0 z.1 y.0 y.1 z.3 in
    let c = spaces-moves y.0 y.1 e r y.3 in
    (omega arith, omega arith)

-- a value stands before its quote, and has no such quote in it
pub value-end-stands : (quote at : ℕ) (s : Text) (e : ℕ) (r : Text) → value_end quote at s ≡ behind e r → (v : Text) × (s ≡ v ++ quote ∷ r) × (contains quote v ≡ false) × (e ≡ at + length v + 1)
unfolding value_end contains
value-end-stands quote at [] e r q = absurd (bad-not q)
value-end-stands quote at (b ∷ s) e r q =
    bool_cases (eqb b quote)
    (λ y. let p = rw y at q in let n = behind-at p in ([], rw (eqb-true b quote y, behind-rest p), refl, omega arith))
    (λ y.
    let p = rw y at q in
    bool_cases (eqb b (code "<"))
    (λ z. absurd (bad-not (rw z at p)))
    (λ z.
    let o = rw z at p in
    bool_cases (starts_character (b ∷ s))
    (λ x. let i = value-end-stands quote (suc at) s e r (rw x at o) in (b ∷ i.0, ap (λ (t : Text). b ∷ t) i.1, rw y i.2, omega (arith, i.3)))
    (λ x. absurd (bad-not (rw x at o)))))

pub value-end-passes : (quote : ℕ) → Passes (value_end quote)
value-end-passes quote at s e r q =
    let h = value-end-stands quote at s e r q in
    let long = ap length h.1 ∙ length-append h.0 (quote ∷ r) in
    (omega (arith, h.3), omega (arith, h.3, long))

-- a value has two quotes
pub value-two : (at : ℕ) (s : Text) (e : ℕ) (r : Text) → value at s ≡ behind e r → (at + 2 ≤ e) × (e + length r ≡ at + length s)
unfolding value
value-two at [] e r q = absurd (bad-not q)
value-two at (b ∷ s) e r q =
    bool_cases (is_quote b)
    (λ y. let h = value-end-passes b (suc at) s e r (rw y at q) in (omega arith, omega arith))
    (λ y. absurd (bad-not (rw y at q)))

pub value_passes : Passes value
value_passes at s e r q = let h = value-two at s e r q in (omega arith, omega arith)

pub char-data-moves : Moves char_data
unfolding char_data
char-data-moves at [] e r q = stays at [] e r q
char-data-moves at (b ∷ s) e r q =
    bool_cases (eqb b (code "<"))
    (λ y. stays at (b ∷ s) e r (rw y at q))
    (λ y.
    let p = rw y at q in
    bool_cases (not (starts_with (bytes "]]>") (b ∷ s)) && starts_character (b ∷ s))
    (λ z. let h = char-data-moves (suc at) s e r (rw z at p) in (omega arith, omega arith))
    (λ z. absurd (bad-not (rw z at p))))
