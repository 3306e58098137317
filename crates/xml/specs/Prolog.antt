-- What may stand before and behind the root: XML 1.0 (Fifth Edition), [22] prolog and [27] Misc.
--     eq            [25]
--     quoted        a step between two equal quotes
--     declared      a word, Eq and a quoted step, as the declaration has them; optional: the same, or nothing where the word does not stand there
--     declaration   [23] XMLDecl
--     is_misc        a comment or an instruction stands here; misc_part: it
--     misc          [27] Misc, as many as stand there
--     prolog        [22] without its doctypedecl
use Rattle.std.specs.Prelude.{ℕ, zero, suc, [], ◌∷◌, Bool, false, not, ◌&&◌, ◌||◌, length, drop, if◌then◌else◌}
use Rattle.text.specs.Text.{Text, bytes, is_digit}
use Rattle.xml.specs.Classes.{is_name, is_letter, is_encoding, begins}
use Rattle.xml.specs.Steps.{Step, bad, behind, ◌and_then◌, starts_with, literal, one_then, spaces, space, comment, instruction}
use Rattle.xml.specs.Values.{is_quote}

-- [25] Eq ::= S? '=' S?
unfoldable pub eq : ℕ → Text → Step
eq at s = spaces at s and_then literal (bytes "=") and_then spaces

unfoldable pub quoted : (ℕ → Text → Step) → ℕ → Text → Step
quoted body at [] = bad
quoted body at (b ∷ s) = if is_quote b then body (suc at) s and_then literal (b ∷ []) else bad

-- [26] VersionNum ::= '1.' [0-9]+
unfoldable pub version_number : ℕ → Text → Step
version_number at s = literal (bytes "1.") at s and_then one_then is_digit is_digit

-- [81] EncName ::= [A-Za-z] ([A-Za-z0-9._] | '-')*
unfoldable pub encoding_name : ℕ → Text → Step
encoding_name at s = one_then is_letter is_encoding at s

-- "('yes' | 'no')"
unfoldable pub yes_or_no : ℕ → Text → Step
yes_or_no at s = if starts_with (bytes "yes") s then literal (bytes "yes") at s else literal (bytes "no") at s

-- [24] VersionInfo ::= S 'version' Eq ("'" VersionNum "'" | '"' VersionNum '"'), and [80] EncodingDecl and [32] SDDecl alike
unfoldable pub declared : Text → (ℕ → Text → Step) → ℕ → Text → Step
declared word body at s = space at s and_then literal word and_then eq and_then quoted body

-- the word stands where a step ends
abbrev pub ends_at : Text → Step → Bool
ends_at word bad = false
ends_at word (behind a r) = starts_with word r

unfoldable pub optional : Text → (ℕ → Text → Step) → ℕ → Text → Step
optional word body at s = if ends_at word (spaces at s) then declared word body at s else behind at s

-- [23] XMLDecl ::= '<?xml' VersionInfo EncodingDecl? SDDecl? S? '?>'
unfoldable pub declaration : ℕ → Text → Step
declaration at s =
    literal (bytes "<?xml") at s
    and_then declared (bytes "version") version_number
    and_then optional (bytes "encoding") encoding_name
    and_then optional (bytes "standalone") yes_or_no
    and_then spaces
    and_then literal (bytes "?>")

-- [27] Misc ::= Comment | PI | S: a comment or an instruction stands here
unfoldable pub is_misc : Text → Bool
is_misc s = starts_with (bytes "<!--") s || starts_with (bytes "<?") s

unfoldable pub misc_part : ℕ → Text → Step
misc_part at s = if starts_with (bytes "<!--") s then comment at s else instruction at s

-- Misc*, from behind white space on. Each turn takes a byte or is the last, so one turn more than there are bytes left is enough.
unfoldable pub misc_from : ℕ → ℕ → Text → Step
misc_from zero at s = bad
misc_from (suc turns) at s = if is_misc s then misc_part at s and_then spaces and_then misc_from turns else behind at s

abbrev pub misc_behind : ℕ → Text → Step
misc_behind at s = misc_from (suc (length s)) at s

unfoldable pub misc : ℕ → Text → Step
misc at s = spaces at s and_then misc_behind

-- a declaration stands here, and no instruction whose name begins with `xml`
unfoldable pub is_declaration : Text → Bool
is_declaration s = starts_with (bytes "<?xml") s && not (begins is_name (drop 5 s))

-- [22] prolog ::= XMLDecl? Misc* (doctypedecl Misc*)?, up to where a doctypedecl may stand
unfoldable pub prolog : ℕ → Text → Step
prolog at s = if is_declaration s then declaration at s and_then misc else misc at s
