-- Steps over the bytes that are left of a text, for XML 1.0. `at` is the offset of the first of them, so a step says where it ends as an offset of the text.
--     Step          where a step ends and the bytes left there, or bad: what stands there is not what the step takes
--     and_then       one step behind the other
--     starts_with    the bytes left begin with the word
--     literal       a word
--     many          as many bytes of a class as stand there, none too
--     spaces        S?; space: S
--     leading_name   the characters of names that the bytes left begin with; name: [5]
--     until         characters up to the first place of a word, and the word
--     comment       [15]; instruction: [16] with its [17]; section: [18] CDATA
use Rattle.std.specs.Prelude.{ℕ, suc, ◌+◌, [], ◌∷◌, Bool, true, false, ◌&&◌, eqb, length, drop, if◌then◌else◌}
use Rattle.text.specs.Text.{Text, bytes, first}
use Rattle.text.specs.Trim.{is_white_space}
use Rattle.xml.specs.Grammar.{is_xml}
use Rattle.xml.specs.Classes.{is_char, is_name_start, is_name, is_byte_of, is_pair_of, begins}

pub data Step : Type 0 where
  bad : Step
  behind : ℕ → Text → Step

infixl 15 ◌and_then◌
abbrev pub ◌and_then◌ : Step → (ℕ → Text → Step) → Step
bad and_then next = bad
behind at s and_then next = next at s

unfoldable pub starts_with : Text → Text → Bool
starts_with [] s = true
starts_with (w ∷ word) [] = false
starts_with (w ∷ word) (b ∷ s) = eqb b w && starts_with word s

unfoldable pub literal : Text → ℕ → Text → Step
literal word at s = if starts_with word s then behind (at + length word) (drop (length word) s) else bad

unfoldable pub many : (ℕ → Bool) → ℕ → Text → Step
many p at [] = behind at []
many p at (b ∷ s) = if p b then many p (suc at) s else behind at (b ∷ s)

-- a byte of one class, then as many of another as stand there
unfoldable pub one_then : (ℕ → Bool) → (ℕ → Bool) → ℕ → Text → Step
one_then p q at [] = bad
one_then p q at (b ∷ s) = if p b then many q (suc at) s else bad

unfoldable pub spaces : ℕ → Text → Step
spaces at s = many is_white_space at s

-- [3] S ::= (#x20 | #x9 | #xD | #xA)+
unfoldable pub space : ℕ → Text → Step
space at s = one_then is_white_space is_white_space at s

unfoldable pub leading_name : Text → Text
leading_name [] = []
leading_name (b ∷ []) = if is_byte_of is_name b then b ∷ [] else []
leading_name (b ∷ t ∷ s) =
    if is_byte_of is_name b then b ∷ leading_name (t ∷ s) else
    if is_pair_of is_name b t then b ∷ t ∷ leading_name s else []

-- [5] Name ::= NameStartChar (NameChar)*
unfoldable pub name : ℕ → Text → Step
name at s = if begins is_name_start s then behind (at + length (leading_name s)) (drop (length (leading_name s)) s) else bad

-- "Char* - (Char* word Char*)" and the word
unfoldable pub until : Text → ℕ → Text → Step
until word at [] = bad
until word at (b ∷ s) =
    if starts_with word (b ∷ s) then literal word at (b ∷ s) else if is_char b then until word (suc at) s else bad

-- [15] Comment ::= '<!--' ((Char - '-') | ('-' (Char - '-')))* '-->'. So the first `--` is that of the end.
unfoldable pub comment : ℕ → Text → Step
comment at s = literal (bytes "<!--") at s and_then until (bytes "--") and_then literal (bytes ">")

-- [17] PITarget ::= Name - (('X' | 'x') ('M' | 'm') ('L' | 'l'))
unfoldable pub target : ℕ → Text → Step
target at s = if is_xml (leading_name s) then bad else name at s

-- "(S (Char* - (Char* '?>' Char*)))? '?>'"
unfoldable pub instruction_end : ℕ → Text → Step
instruction_end at s = if is_white_space (first s) then until (bytes "?>") at s else literal (bytes "?>") at s

-- [16] PI ::= '<?' PITarget (S (Char* - (Char* '?>' Char*)))? '?>'
unfoldable pub instruction : ℕ → Text → Step
instruction at s = literal (bytes "<?") at s and_then target and_then instruction_end

-- [18] CDSect ::= CDStart CData CDEnd; [19] CDStart ::= '<![CDATA['; [20] CData ::= (Char* - (Char* ']]>' Char*)); [21] CDEnd ::= ']]>'
unfoldable pub section : ℕ → Text → Step
section at s = literal (bytes "<![CDATA[") at s and_then until (bytes "]]>")
