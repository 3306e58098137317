-- The regular expressions of XML Schema Part 2 (Second Edition), Appendix F, production by production: a value of `Derives reg_exp s` is a derivation of s.
-- Left aside, with the bytes that refusal 25 names: [16] charClassSub, [25] to [36], and so catEsc and complEsc in [23].
--     is_normal      [10] Char; is_mark: [?*+]; is_single, is_multi: what stands behind the backslash in [24] and [37]
--     is_in_class     [22] XmlCharIncDash; is_xml_char: [21]
use Rattle.std.specs.Prelude.{ℕ, ◌≡◌, [], ◌∷◌, ◌++◌, Bool, true, not, ◌&&◌}
use Prim.Native.Char.{code}
use Rattle.text.specs.Text.{Text, bytes, contains, is_digit}
use Rattle.xml.specs.Classes.{is_char}

-- a character of XML 1.0 that is none of the quoted ones
unfoldable pub char_but : Text → ℕ → Bool
char_but w b = is_char b && not (contains b w)

-- [10] Char ::= [^.\?*+()|#x5B#x5D]
unfoldable pub is_normal : ℕ → Bool
is_normal b = char_but (bytes ".\\?*+()|[]") b

-- [21] XmlChar ::= [^\#x2D#x5B#x5D]
unfoldable pub is_xml_char : ℕ → Bool
is_xml_char b = char_but (bytes "\\-[]") b

-- [22] XmlCharIncDash ::= [^\#x5B#x5D]
unfoldable pub is_in_class : ℕ → Bool
is_in_class b = char_but (bytes "\\[]") b

unfoldable pub is_mark : ℕ → Bool
is_mark b = contains b (bytes "?*+")

-- [24] SingleCharEsc ::= '\' [nrt\|.?*+(){}#x2D#x5B#x5D#x5E]
unfoldable pub is_single : ℕ → Bool
is_single b = contains b (bytes "nrt\\|.?*+(){}-[]^")

-- [37] MultiCharEsc ::= '\' [sSiIcCdDwW]
unfoldable pub is_multi : ℕ → Bool
is_multi b = contains b (bytes "sSiIcCdDwW")

-- [8] QuantExact ::= [0-9]+
pub data QuantExact : Text → Type 0 where
  digit : {b : ℕ} → is_digit b ≡ true → QuantExact (b ∷ [])
  digits : {b : ℕ} {s : Text} → is_digit b ≡ true → QuantExact s → QuantExact (b ∷ s)

-- [5] quantity ::= quantRange | quantMin | QuantExact, [6] quantRange ::= QuantExact ',' QuantExact, [7] quantMin ::= QuantExact ','
pub data Quantity : Text → Type 0 where
  range : {s t : Text} → QuantExact s → QuantExact t → Quantity (s ++ code "," ∷ t)
  least : {s : Text} → QuantExact s → Quantity (s ++ code "," ∷ [])
  exact : {s : Text} → QuantExact s → Quantity s

-- [4] quantifier ::= [?*+] | ( '{' quantity '}' )
pub data Quantifier : Text → Type 0 where
  mark : {b : ℕ} → is_mark b ≡ true → Quantifier (b ∷ [])
  counted : {s : Text} → Quantity s → Quantifier (code "{" ∷ s ++ code "}" ∷ [])

pub data SingleCharEsc : Text → Type 0 where
  single : {b : ℕ} → is_single b ≡ true → SingleCharEsc (code "\\" ∷ b ∷ [])

-- [23] charClassEsc ::= ( SingleCharEsc | MultiCharEsc | catEsc | complEsc )
pub data CharClassEsc : Text → Type 0 where
  single_esc : {s : Text} → SingleCharEsc s → CharClassEsc s
  multi_esc : {b : ℕ} → is_multi b ≡ true → CharClassEsc (code "\\" ∷ b ∷ [])

-- [20] charOrEsc ::= XmlChar | SingleCharEsc
pub data CharOrEsc : Text → Type 0 where
  xml_char : {b : ℕ} → is_xml_char b ≡ true → CharOrEsc (b ∷ [])
  char_esc : {s : Text} → SingleCharEsc s → CharOrEsc s

-- [17] charRange ::= seRange | XmlCharIncDash, [18] seRange ::= charOrEsc '-' charOrEsc
pub data CharRange : Text → Type 0 where
  se_range : {s t : Text} → CharOrEsc s → CharOrEsc t → CharRange (s ++ code "-" ∷ t)
  char_inc_dash : {b : ℕ} → is_in_class b ≡ true → CharRange (b ∷ [])

pub data GroupItem : Text → Type 0 where
  range_item : {s : Text} → CharRange s → GroupItem s
  esc_item : {s : Text} → CharClassEsc s → GroupItem s

-- [14] posCharGroup ::= ( charRange | charClassEsc )+
pub data PosCharGroup : Text → Type 0 where
  item : {s : Text} → GroupItem s → PosCharGroup s
  items : {s t : Text} → GroupItem s → PosCharGroup t → PosCharGroup (s ++ t)

-- [13] charGroup ::= posCharGroup | negCharGroup | charClassSub, [15] negCharGroup ::= '^' posCharGroup
pub data CharGroup : Text → Type 0 where
  positive : {s : Text} → PosCharGroup s → CharGroup s
  negative : {s : Text} → PosCharGroup s → CharGroup (code "^" ∷ s)

-- [11] charClass ::= charClassEsc | charClassExpr | WildcardEsc, [12] charClassExpr ::= '[' charGroup ']', [37a] WildcardEsc ::= '.'
pub data CharClass : Text → Type 0 where
  class_esc : {s : Text} → CharClassEsc s → CharClass s
  class_expr : {s : Text} → CharGroup s → CharClass (code "[" ∷ s ++ code "]" ∷ [])
  wildcard : CharClass (code "." ∷ [])

pub data Symbol : Type 0 where
  reg_exp : Symbol
  branch : Symbol
  piece : Symbol
  atom : Symbol

pub data Derives : Symbol → Text → Type 0 where
  -- [1] regExp ::= branch ( '|' branch )*
  one : {s : Text} → Derives branch s → Derives reg_exp s
  or : {s t : Text} → Derives branch s → Derives reg_exp t → Derives reg_exp (s ++ code "|" ∷ t)
  -- [2] branch ::= piece*
  none : Derives branch []
  more : {s t : Text} → Derives piece s → Derives branch t → Derives branch (s ++ t)
  -- [3] piece ::= atom quantifier?
  once : {s : Text} → Derives atom s → Derives piece s
  times : {s q : Text} → Derives atom s → Quantifier q → Derives piece (s ++ q)
  -- [9] atom ::= Char | charClass | ( '(' regExp ')' )
  char : {b : ℕ} → is_normal b ≡ true → Derives atom (b ∷ [])
  class : {s : Text} → CharClass s → Derives atom s
  group : {s : Text} → Derives reg_exp s → Derives atom (code "(" ∷ s ++ code ")" ∷ [])
