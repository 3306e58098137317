-- Patterns by derivation, and patterns that the scan refuses, by computation.
--     one_char      a piece that is one character
use Rattle.std.specs.Prelude.{ℕ, ◌≡◌, refl, Bool, true, not, [], ◌∷◌}
use Prim.Native.Char.{code}
use Rattle.text.specs.Text.{Text, bytes, every}
use Rattle.pattern.specs.Grammar.{is_normal, digit, exact, mark, counted, single, single_esc, multi_esc, xml_char, se_range, char_inc_dash, range_item, item, positive}
use Rattle.pattern.specs.Grammar.{negative, class_esc, class_expr, wildcard, reg_exp, piece, Derives, one, or, none, more, once, times, char, class, group}
use Rattle.pattern.specs.Scan.{start, go, scan}
use Rattle.pattern.specs.Call.{is_aside}
use Rattle.pattern.specs.Unfold.{computes}

one_char : (b : ℕ) → is_normal b ≡ true → Derives piece (b ∷ [])
one_char b h = once (char h)

-- no branch has a least number of pieces: the empty pattern, `|` and `()`
empty-pattern : Derives reg_exp (bytes "")
unfolding computes
empty-pattern = one none

empty-branches : Derives reg_exp (bytes "|")
unfolding computes
empty-branches = or none (one none)

empty_group : Derives reg_exp (bytes "()")
unfolding computes
empty_group = one (more (once (group (one none))) none)

-- a quantity in braces, and braces that are characters: `a{2}*` has a starred `}`
quantity : Derives reg_exp (bytes "a{2}")
unfolding computes
quantity = one (more (times (char {b = code "a"} refl) (counted (exact (digit {b = code "2"} refl)))) none)

starred-brace : Derives reg_exp (bytes "a{2}*")
unfolding computes
starred-brace = one (more (one_char (code "a") refl) (more (one_char (code "{") refl) (more (one_char (code "2") refl) (more (times (char {b = code "}"} refl) (mark {b = code "*"} refl)) none))))

lone-brace : Derives reg_exp (bytes "{")
unfolding computes
lone-brace = one (more (one_char (code "{") refl) none)

-- classes: `[^]` has one character, `[^a]` leaves one out, `[z-a]` is a range by the productions
caret-alone : Derives reg_exp (bytes "[^]")
unfolding computes
caret-alone = one (more (once (class (class_expr (positive (item (range_item (char_inc_dash {b = code "^"} refl))))))) none)

all_but_one : Derives reg_exp (bytes "[^a]")
unfolding computes
all_but_one = one (more (once (class (class_expr (negative (item (range_item (char_inc_dash {b = code "a"} refl))))))) none)

range-backwards : Derives reg_exp (bytes "[z-a]")
unfolding computes
range-backwards = one (more (once (class (class_expr (positive (item (range_item (se_range (xml_char {b = code "z"} refl) (xml_char {b = code "a"} refl)))))))) none)

-- `\d+`, `\-`, `.?`, `(a|.)`
digits-pattern : Derives reg_exp (bytes "\\d+")
unfolding computes
digits-pattern = one (more (times (class (class_esc (multi_esc {b = code "d"} refl))) (mark {b = code "+"} refl)) none)

dash-escaped : Derives reg_exp (bytes "\\-")
unfolding computes
dash-escaped = one (more (once (class (class_esc (single_esc (single {b = code "-"} refl))))) none)

dot-or-none : Derives reg_exp (bytes ".?")
unfolding computes
dot-or-none = one (more (times (class wildcard) (mark {b = code "?"} refl)) none)

either : Derives reg_exp (bytes "(a|.)")
unfolding computes
either = one (more (once (group (or (more (one_char (code "a") refl) none) (one (more (once (class wildcard)) none))))) none)

-- refused: two quantifiers, a quantifier with no atom, classes without content or inside one another, what is left open or closed too often, escapes that are
-- none, a byte that is no character of XML
refuses : Text → Bool
refuses s = not (scan (go 0 start) s)

not-derived : every refuses (bytes "a**" ∷ bytes "*" ∷ bytes "a|+" ∷ bytes "(?:a)" ∷ bytes "[]" ∷ bytes "[[a]]" ∷ bytes "[a"
    ∷ bytes "(" ∷ bytes "a)" ∷ bytes "\\0" ∷ bytes "\\" ∷ bytes "[\\]" ∷ (1 ∷ []) ∷ []) ≡ true
unfolding computes every refuses
not-derived = refl

-- left aside by their bytes alone: an escaped backslash before a p, a subtraction, a class that holds a dash and a bracket
aside : every is_aside (bytes "\\\\p" ∷ bytes "[a-z-[b]]" ∷ bytes "[-[]" ∷ bytes "*-[" ∷ []) ≡ true
unfolding computes every
aside = refl
