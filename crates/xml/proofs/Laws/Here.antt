-- Where a step ends, what is left is the rest of the text from there on (`Here`). Assumes nothing.
use Prim.Native.Nat.{ℕ, zero, suc}
use mathlib.Core.Path.{◌≡◌, ap, ◌∙◌}
use mathlib.Core.List.{[], ◌∷◌}
use mathlib.Core.Bool.{Bool, not, ◌&&◌}
use native.Mathlib.Numerals.{add-one}
use lib.Dec.{eqb}
use lib.ListN.{length, drop}
use lib.Seq.{drop-drop}
use Prim.Native.Char.{code}
use Rattle.text.specs.Text.{Text, bytes, first, is_digit}
use Rattle.text.proofs.Laws.Tests.{if-either}
use Rattle.text.specs.Trim.{is_white_space}
use Rattle.xml.specs.Classes.{is_char, is_name_start, is_letter, is_encoding, begins}
use Rattle.xml.specs.Steps.{Step, bad, behind, ◌and_then◌, starts_with, literal, many, one_then, spaces, space, name, leading_name, until, comment, target, instruction_end, instruction, section}
use Rattle.xml.specs.Grammar.{is_xml}
use Rattle.xml.specs.Values.{starts_character, is_quote, value_end, value, char_data}
use Rattle.xml.specs.Prolog.{eq, quoted, version_number, encoding_name, yes_or_no, declared, ends_at, optional, declaration, is_misc, misc_part, misc_from, misc_behind, misc, is_declaration, prolog}

abbrev pub Here : Text → Step → Type 0
Here text bad = Unit {0}
Here text (behind e r) = r ≡ drop e text

abbrev pub Keeps : Text → (ℕ → Text → Step) → Type 0
Keeps text f = (at : ℕ) (s : Text) → s ≡ drop at text → Here text (f at s)

pub here-next : (text : Text) (at b : ℕ) (s : Text) → b ∷ s ≡ drop at text → s ≡ drop (suc at) text
here-next text at b s h = ap (drop 1) h ∙ drop-drop 1 at text ∙ ap (λ (k : ℕ). drop k text) (add-one at)

pub then-here : (text : Text) (d : Step) (g : ℕ → Text → Step) → Here text d → Keeps text g → Here text (d and_then g)
then-here text bad g h k = tt
then-here text (behind e r) g h k = k e r h

pub then_keeps : (text : Text) (f g : ℕ → Text → Step) → Keeps text f → Keeps text g → Keeps text (λ (at : ℕ) (s : Text). f at s and_then g)
then_keeps text f g k m at s h = then-here text (f at s) g (k at s h) m

pub three-keeps : (text : Text) (f g l : ℕ → Text → Step) → Keeps text f → Keeps text g → Keeps text l → Keeps text (λ (at : ℕ) (s : Text). f at s and_then g and_then l)
three-keeps text f g l k m n at s h = then-here text (f at s and_then g) l (then-here text (f at s) g (k at s h) m) n

-- words and runs
pub literal-keeps : (word text : Text) → Keeps text (literal word)
unfolding literal
literal-keeps word text at s h =
    if-either (Here text) (starts_with word s) (ap (drop (length word)) h ∙ drop-drop (length word) at text) tt

pub many-keeps : (p : ℕ → Bool) (text : Text) → Keeps text (many p)
unfolding many
many-keeps p text at [] h = h
many-keeps p text at (b ∷ s) h = if-either (Here text) (p b) (many-keeps p text (suc at) s (here-next text at b s h)) h

pub one-keeps : (p q : ℕ → Bool) (text : Text) → Keeps text (one_then p q)
unfolding one_then
one-keeps p q text at [] h = tt
one-keeps p q text at (b ∷ s) h = if-either (Here text) (p b) (many-keeps q text (suc at) s (here-next text at b s h)) tt

pub spaces-keeps : (text : Text) → Keeps text spaces
unfolding spaces
spaces-keeps text = many-keeps is_white_space text

pub space-keeps : (text : Text) → Keeps text space
unfolding space
space-keeps text = one-keeps is_white_space is_white_space text

pub name-keeps : (text : Text) → Keeps text name
unfolding name
name-keeps text at s h =
    if-either (Here text) (begins is_name_start s) (ap (drop (length (leading_name s))) h ∙ drop-drop (length (leading_name s)) at text) tt

pub until-keeps : (word text : Text) → Keeps text (until word)
unfolding until
until-keeps word text at [] h = tt
until-keeps word text at (b ∷ s) h =
    if-either (Here text) (starts_with word (b ∷ s)) (literal-keeps word text at (b ∷ s) h)
    (if-either (Here text) (is_char b) (until-keeps word text (suc at) s (here-next text at b s h)) tt)

-- comments, instructions and sections
pub comment-keeps : (text : Text) → Keeps text comment
unfolding comment
comment-keeps text =
    three-keeps text (literal (bytes "<!--")) (until (bytes "--")) (literal (bytes ">")) (literal-keeps (bytes "<!--") text) (until-keeps (bytes "--") text) (literal-keeps (bytes ">") text)

pub section-keeps : (text : Text) → Keeps text section
unfolding section
section-keeps text =
    then_keeps text (literal (bytes "<![CDATA[")) (until (bytes "]]>")) (literal-keeps (bytes "<![CDATA[") text) (until-keeps (bytes "]]>") text)

pub target_keeps : (text : Text) → Keeps text target
unfolding target
target_keeps text at s h = if-either (Here text) (is_xml (leading_name s)) tt (name-keeps text at s h)

pub instruction-end-keeps : (text : Text) → Keeps text instruction_end
unfolding instruction_end
instruction-end-keeps text at s h =
    if-either (Here text) (is_white_space (first s)) (until-keeps (bytes "?>") text at s h) (literal-keeps (bytes "?>") text at s h)

pub instruction-keeps : (text : Text) → Keeps text instruction
unfolding instruction
instruction-keeps text =
    three-keeps text (literal (bytes "<?")) target instruction_end (literal-keeps (bytes "<?") text) (target_keeps text) (instruction-end-keeps text)

-- values and character data
pub value-end-keeps : (quote : ℕ) (text : Text) → Keeps text (value_end quote)
unfolding value_end
value-end-keeps quote text at [] h = tt
value-end-keeps quote text at (b ∷ s) h =
    let k = here-next text at b s h in
    if-either (Here text) (eqb b quote) k
    (if-either (Here text) (eqb b (code "<")) tt (if-either (Here text) (starts_character (b ∷ s)) (value-end-keeps quote text (suc at) s k) tt))

pub value_keeps : (text : Text) → Keeps text value
unfolding value
value_keeps text at [] h = tt
value_keeps text at (b ∷ s) h = if-either (Here text) (is_quote b) (value-end-keeps b text (suc at) s (here-next text at b s h)) tt

pub char-data-keeps : (text : Text) → Keeps text char_data
unfolding char_data
char-data-keeps text at [] h = h
char-data-keeps text at (b ∷ s) h =
    if-either (Here text) (eqb b (code "<")) h
    (if-either (Here text) (not (starts_with (bytes "]]>") (b ∷ s)) && starts_character (b ∷ s)) (char-data-keeps text (suc at) s (here-next text at b s h)) tt)

-- the prolog
pub eq-keeps : (text : Text) → Keeps text eq
unfolding eq
eq-keeps text = three-keeps text spaces (literal (bytes "=")) spaces (spaces-keeps text) (literal-keeps (bytes "=") text) (spaces-keeps text)

pub quoted-keeps : (body : ℕ → Text → Step) (text : Text) → Keeps text body → Keeps text (quoted body)
unfolding quoted
quoted-keeps body text k at [] h = tt
quoted-keeps body text k at (b ∷ s) h =
    if-either (Here text) (is_quote b) (then-here text (body (suc at) s) (literal (b ∷ [])) (k (suc at) s (here-next text at b s h)) (literal-keeps (b ∷ []) text)) tt

pub version-keeps : (text : Text) → Keeps text version_number
unfolding version_number
version-keeps text =
    then_keeps text (literal (bytes "1.")) (one_then is_digit is_digit) (literal-keeps (bytes "1.") text) (one-keeps is_digit is_digit text)

pub encoding-keeps : (text : Text) → Keeps text encoding_name
unfolding encoding_name
encoding-keeps text = one-keeps is_letter is_encoding text

pub yes-keeps : (text : Text) → Keeps text yes_or_no
unfolding yes_or_no
yes-keeps text at s h =
    if-either (Here text) (starts_with (bytes "yes") s) (literal-keeps (bytes "yes") text at s h) (literal-keeps (bytes "no") text at s h)

pub declared-keeps : (word : Text) (body : ℕ → Text → Step) (text : Text) → Keeps text body → Keeps text (declared word body)
unfolding declared
declared-keeps word body text k =
    then_keeps text (λ (at : ℕ) (s : Text). space at s and_then literal word and_then eq) (quoted body)
    (three-keeps text space (literal word) eq (space-keeps text) (literal-keeps word text) (eq-keeps text)) (quoted-keeps body text k)

pub optional-keeps : (word : Text) (body : ℕ → Text → Step) (text : Text) → Keeps text body → Keeps text (optional word body)
unfolding optional
optional-keeps word body text k at s h = if-either (Here text) (ends_at word (spaces at s)) (declared-keeps word body text k at s h) h

pub declaration-keeps : (text : Text) → Keeps text declaration
unfolding declaration
declaration-keeps text =
    let version = declared (bytes "version") version_number in
    let encoding = optional (bytes "encoding") encoding_name in
    let standalone = optional (bytes "standalone") yes_or_no in
    let front : ℕ → Text → Step = λ at s. literal (bytes "<?xml") at s and_then version and_then encoding in
    then_keeps text (λ (at : ℕ) (s : Text). front at s and_then standalone and_then spaces) (literal (bytes "?>"))
    (three-keeps text front standalone spaces
    (three-keeps text (literal (bytes "<?xml")) version encoding (literal-keeps (bytes "<?xml") text)
    (declared-keeps (bytes "version") version_number text (version-keeps text)) (optional-keeps (bytes "encoding") encoding_name text (encoding-keeps text)))
    (optional-keeps (bytes "standalone") yes_or_no text (yes-keeps text)) (spaces-keeps text))
    (literal-keeps (bytes "?>") text)

pub misc-part-keeps : (text : Text) → Keeps text misc_part
unfolding misc_part
misc-part-keeps text at s h = if-either (Here text) (starts_with (bytes "<!--") s) (comment-keeps text at s h) (instruction-keeps text at s h)

pub misc-from-keeps : (turns : ℕ) (text : Text) → Keeps text (misc_from turns)
unfolding misc_from
misc-from-keeps zero text at s h = tt
misc-from-keeps (suc turns) text at s h =
    if-either (Here text) (is_misc s)
    (then-here text (misc_part at s and_then spaces) (misc_from turns) (then-here text (misc_part at s) spaces (misc-part-keeps text at s h) (spaces-keeps text))
    (λ a r k. misc-from-keeps turns text a r k))
    h

pub misc-keeps : (text : Text) → Keeps text misc
unfolding misc
misc-keeps text = then_keeps text spaces misc_behind (spaces-keeps text) (λ a r k. misc-from-keeps (suc (length r)) text a r k)

pub prolog-keeps : (text : Text) → Keeps text prolog
unfolding prolog
prolog-keeps text at s h =
    if-either (Here text) (is_declaration s) (then-here text (declaration at s) misc (declaration-keeps text at s h) (misc-keeps text)) (misc-keeps text at s h)
