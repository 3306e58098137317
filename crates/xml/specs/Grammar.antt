-- XML 1.0 (Fifth Edition), production by production, as far as a text up to U+017F without a document type uses it: a value of `Derived s es` is a derivation
-- of the text s, with its tags in order as the events es. A well-formedness constraint is a premise where the standard hangs it. `Document.document` accepts
-- exactly what has a derivation (proofs/Laws/Grammar.antt). Names are of characters in UTF-8. Where a production takes any Char but for bytes below 128, it is
-- asked of each byte: every byte from 128 on passes, and so does every code point of a text from U+0080 on (`char-points` of proofs/Laws/Points.antt).
--     Opt, Many     X? and X*; Run: a byte of a class and as many as there are of another; Without: "- (Char* word Char*)"
--     CharOf        a character of a class of code points
--     is_text_char    [^<&]; is_value_char: [^<&"] or [^<&']; is_hex_digit: [0-9a-fA-F]; number_of: what digits name
--     Offsets: `at` is where the derived text begins. A tag is derived with the text of its name and its event, attributes with their keys and their pairs.
use Rattle.std.specs.Prelude.{ℕ, ◌+◌, ◌-◌, ◌*◌, ◌≡◌, List, [], ◌∷◌, ◌++◌, Bool, true, false, not, ◌&&◌, ◌||◌, eqb, length, if◌then◌else◌}
use Prim.Native.Char.{code}
use Rattle.text.specs.Text.{Text, bytes, every, between, is_digit, same, lower_byte}
use Rattle.text.specs.Trim.{is_white_space}
use Rattle.xsd_parser.specs.Kinds.{start_kind, empty_kind}
use Rattle.xml.specs.Classes.{is_char, is_letter, is_name_start, is_name, is_encoding, is_byte_of, is_pair_of}
use Rattle.xml.specs.Tape.{AttributePairs, TapeEvent}

pub data Opt (P : Text → Type 0) : Text → Type 0 where
  absent : Opt P []
  present : {s : Text} → P s → Opt P s

pub data Many (P : Text → Type 0) : Text → Type 0 where
  none : Many P []
  more : {s t : Text} → P s → Many P t → Many P (s ++ t)

pub data Run (p q : ℕ → Bool) : Text → Type 0 where
  run : {b : ℕ} {s : Text} → p b ≡ true → every q s ≡ true → Run p q (b ∷ s)

abbrev pub Without : Text → Text → Type 0
Without word s = (u v : Text) → s ≡ u ++ (word ++ v) → ⊥

pub data CharOf (p : ℕ → Bool) : Text → Type 0 where
  one_byte : {b : ℕ} → is_byte_of p b ≡ true → CharOf p (b ∷ [])
  two_bytes : {b t : ℕ} → is_pair_of p b t ≡ true → CharOf p (b ∷ t ∷ [])

-- [2] Char, [4] NameStartChar and [4a] NameChar are `is_char`, `is_name_start` and `is_name` (Classes.antt), which `is_white_space` of [3] stands beside.
-- [3] S ::= (#x20 | #x9 | #xD | #xA)+
abbrev pub S : Text → Type 0
S = Run is_white_space is_white_space

-- [5] Name ::= NameStartChar (NameChar)*
pub data Name : Text → Type 0 where
  name : {s t : Text} → CharOf is_name_start s → Many (CharOf is_name) t → Name (s ++ t)

unfoldable pub is_hex_digit : ℕ → Bool
is_hex_digit b = is_digit b || between (code "a") (code "f") b || between (code "A") (code "F") b

-- a digit's value, in either case; 16 for any other byte
unfoldable pub digit_of : ℕ → ℕ
digit_of b =
    if is_digit b then b - code "0" else
    if between (code "a") (code "f") b then b - 87 else
    if between (code "A") (code "F") b then b - 55 else 16

unfoldable pub number_of : ℕ → ℕ → Text → ℕ
number_of base v [] = v
number_of base v (b ∷ s) = number_of base (v * base + digit_of b) s

-- [66] CharRef ::= '&#' [0-9]+ ';' | '&#x' [0-9a-fA-F]+ ';'
-- "Legal Character": "Characters referred to using character references MUST match the production for Char."
pub data CharRef : Text → Type 0 where
  decimal : {s : Text} → Run is_digit is_digit s → is_char (number_of 10 0 s) ≡ true → CharRef (bytes "&#" ++ (s ++ bytes ";"))
  hex : {s : Text} → Run is_hex_digit is_hex_digit s → is_char (number_of 16 0 s) ≡ true → CharRef (bytes "&#x" ++ (s ++ bytes ";"))

-- 4.6: "amp, lt, gt, apos, quot"
pub data Predefined : Text → Type 0 where
  amp : Predefined (bytes "amp")
  lt : Predefined (bytes "lt")
  gt : Predefined (bytes "gt")
  apos : Predefined (bytes "apos")
  quot : Predefined (bytes "quot")

-- [68] EntityRef ::= '&' Name ';'
-- "Entity Declared": "In a document without any DTD .. the Name given in the entity reference MUST match that in an entity declaration .., except that
-- well-formed documents need not declare any of the following entities: amp, lt, gt, apos, quot."
pub data EntityRef : Text → Type 0 where
  entity : {n : Text} → Name n → Predefined n → EntityRef (bytes "&" ++ (n ++ bytes ";"))

-- [67] Reference ::= EntityRef | CharRef
pub data Reference : Text → Type 0 where
  entity_ref : {s : Text} → EntityRef s → Reference s
  char_ref : {s : Text} → CharRef s → Reference s

-- [^<&"] or [^<&'], and references
unfoldable pub is_value_char : ℕ → ℕ → Bool
is_value_char quote b = is_char b && not (eqb b (code "<")) && not (eqb b (code "&")) && not (eqb b quote)

pub data ValuePart (quote : ℕ) : Text → Type 0 where
  value_char : {b : ℕ} → is_value_char quote b ≡ true → ValuePart quote (b ∷ [])
  value_reference : {s : Text} → Reference s → ValuePart quote s

-- [10] AttValue ::= '"' ([^<&"] | Reference)* '"' | "'" ([^<&'] | Reference)* "'", with what stands between the quotes
-- "No < in Attribute Values": of the five entities `lt` alone names `<`, and its replacement text is `&#60;`.
pub data AttValue : Text → Text → Type 0 where
  double_quoted : {s : Text} → Many (ValuePart (code "\"")) s → AttValue s (bytes "\"" ++ (s ++ bytes "\""))
  single_quoted : {s : Text} → Many (ValuePart (code "'")) s → AttValue s (bytes "'" ++ (s ++ bytes "'"))

-- [14] CharData ::= [^<&]* - ([^<&]* ']]>' [^<&]*)
unfoldable pub is_text_char : ℕ → Bool
is_text_char b = is_char b && not (eqb b (code "<")) && not (eqb b (code "&"))

pub data CharData : Text → Type 0 where
  char_data : {s : Text} → every is_text_char s ≡ true → Without (bytes "]]>") s → CharData s

-- [15] Comment ::= '<!--' ((Char - '-') | ('-' (Char - '-')))* '-->'
pub data CommentPart : Text → Type 0 where
  no_hyphen : {b : ℕ} → is_char b ≡ true → (b ≡ code "-" → ⊥) → CommentPart (b ∷ [])
  one_hyphen : {b : ℕ} → is_char b ≡ true → (b ≡ code "-" → ⊥) → CommentPart (code "-" ∷ b ∷ [])

pub data Comment : Text → Type 0 where
  comment : {s : Text} → Many CommentPart s → Comment (bytes "<!--" ++ (s ++ bytes "-->"))

-- the three letters `xml` in any case
unfoldable pub is_xml : Text → Bool
is_xml [] = false
is_xml (a ∷ []) = false
is_xml (a ∷ b ∷ []) = false
is_xml (a ∷ b ∷ c ∷ []) = eqb (lower_byte a) (code "x") && eqb (lower_byte b) (code "m") && eqb (lower_byte c) (code "l")
is_xml (a ∷ b ∷ c ∷ d ∷ s) = false

-- [17] PITarget ::= Name - (('X' | 'x') ('M' | 'm') ('L' | 'l'))
pub data PITarget : Text → Type 0 where
  target : {n : Text} → Name n → is_xml n ≡ false → PITarget n

pub data PIText : Text → Type 0 where
  behind_target : {s t : Text} → S s → every is_char t ≡ true → Without (bytes "?>") t → PIText (s ++ t)

-- [16] PI ::= '<?' PITarget (S (Char* - (Char* '?>' Char*)))? '?>'
pub data PI : Text → Type 0 where
  instruction : {n s : Text} → PITarget n → Opt PIText s → PI (bytes "<?" ++ (n ++ (s ++ bytes "?>")))

-- [18] CDSect ::= CDStart CData CDEnd; [19] CDStart ::= '<![CDATA['; [20] CData ::= (Char* - (Char* ']]>' Char*)); [21] CDEnd ::= ']]>'
pub data CDSect : Text → Type 0 where
  section : {s : Text} → every is_char s ≡ true → Without (bytes "]]>") s → CDSect (bytes "<![CDATA[" ++ (s ++ bytes "]]>"))

-- [25] Eq ::= S? '=' S?
pub data Eq : Text → Type 0 where
  equals : {s t : Text} → Opt S s → Opt S t → Eq (s ++ (bytes "=" ++ t))

-- [26] VersionNum ::= '1.' [0-9]+
pub data VersionNum : Text → Type 0 where
  version_num : {s : Text} → Run is_digit is_digit s → VersionNum (bytes "1." ++ s)

-- [81] EncName ::= [A-Za-z] ([A-Za-z0-9._] | '-')*
abbrev pub EncName : Text → Type 0
EncName = Run is_letter is_encoding

-- ('yes' | 'no')
pub data YesNo : Text → Type 0 where
  yes : YesNo (bytes "yes")
  no : YesNo (bytes "no")

-- ("'" X "'" | '"' X '"')
pub data Quoted (P : Text → Type 0) : Text → Type 0 where
  single : {s : Text} → P s → Quoted P (bytes "'" ++ (s ++ bytes "'"))
  double : {s : Text} → P s → Quoted P (bytes "\"" ++ (s ++ bytes "\""))

-- [24] VersionInfo ::= S 'version' Eq ("'" VersionNum "'" | '"' VersionNum '"')
-- [80] EncodingDecl ::= S 'encoding' Eq ('"' EncName '"' | "'" EncName "'")
-- [32] SDDecl ::= S 'standalone' Eq (("'" ('yes' | 'no') "'") | ('"' ('yes' | 'no') '"'))
pub data Declares (word : Text) (P : Text → Type 0) : Text → Type 0 where
  declares : {s e q : Text} → S s → Eq e → Quoted P q → Declares word P (s ++ (word ++ (e ++ q)))

-- [23] XMLDecl ::= '<?xml' VersionInfo EncodingDecl? SDDecl? S? '?>'
pub data XMLDecl : Text → Type 0 where
  xml_decl : {v e d s : Text} → Declares (bytes "version") VersionNum v → Opt (Declares (bytes "encoding") EncName) e → Opt (Declares (bytes "standalone") YesNo) d → Opt S s
      → XMLDecl (bytes "<?xml" ++ (v ++ (e ++ (d ++ (s ++ bytes "?>")))))

-- [27] Misc ::= Comment | PI | S
pub data Misc : Text → Type 0 where
  misc_comment : {s : Text} → Comment s → Misc s
  misc_pi : {s : Text} → PI s → Misc s
  misc_s : {s : Text} → S s → Misc s

-- [22] prolog ::= XMLDecl? Misc* (doctypedecl Misc*)?, without a doctypedecl
pub data Prolog : Text → Type 0 where
  prolog : {s t : Text} → Opt XMLDecl s → Many Misc t → Prolog (s ++ t)

-- [41] Attribute ::= Name Eq AttValue, at an offset, with its key and its pairs
pub data Attribute (at : ℕ) : Text → Text → AttributePairs → Type 0 where
  attribute : {k e v w : Text} → Name k → Eq e → AttValue v w
      → Attribute at (k ++ (e ++ w)) k (record { key = record { offset = at; size = length k }; value = record { offset = at + length k + length e + 1; size = length v } })

-- (S Attribute)*
pub data Attributes : ℕ → Text → List Text → List AttributePairs → Type 0 where
  no_attribute : {at : ℕ} → Attributes at [] [] []
  one_more : {at : ℕ} {s t u k : Text} {x : AttributePairs} {ks : List Text} {xs : List AttributePairs} → S s → Attribute (at + length s) t k x → Attributes (at + length s + length t) u ks xs
      → Attributes at (s ++ (t ++ u)) (k ∷ ks) (x ∷ xs)

unfoldable pub is_among : Text → List Text → Bool
is_among t [] = false
is_among t (u ∷ us) = same t u || is_among t us

-- no key is among those before it
unfoldable pub new_key : List Text → List Text → Bool
new_key before [] = true
new_key before (k ∷ ks) = not (is_among k before) && new_key (k ∷ before) ks

-- '<' Name (S Attribute)* S?, with the name and the attributes
-- "Unique Att Spec": "An attribute name MUST NOT appear more than once in the same start-tag or empty-element tag."
pub data TagBody (at : ℕ) : Text → Text → List AttributePairs → Type 0 where
  tag_body : {n s t : Text} {ks : List Text} {xs : List AttributePairs} → Name n → Attributes (at + 1 + length n) s ks xs → new_key [] ks ≡ true → Opt S t
      → TagBody at (bytes "<" ++ (n ++ (s ++ t))) n xs

abbrev pub event_at : ℕ → ℕ → Text → List AttributePairs → TapeEvent
event_at kind at n xs = TapeEvent.tag kind (record { offset = at + 1; size = length n }) xs

-- [40] STag ::= '<' Name (S Attribute)* S? '>'
pub data STag (at : ℕ) : Text → Text → TapeEvent → Type 0 where
  start_tag : {s n : Text} {xs : List AttributePairs} → TagBody at s n xs → STag at (s ++ bytes ">") n (event_at start_kind at n xs)

-- [44] EmptyElemTag ::= '<' Name (S Attribute)* S? '/>'
pub data EmptyElemTag (at : ℕ) : Text → TapeEvent → Type 0 where
  empty_tag : {s n : Text} {xs : List AttributePairs} → TagBody at s n xs → EmptyElemTag at (s ++ bytes "/>") (event_at empty_kind at n xs)

-- [42] ETag ::= '</' Name S? '>'
pub data ETag : Text → Text → Type 0 where
  end_tag : {n s : Text} → Name n → Opt S s → ETag (bytes "</" ++ (n ++ (s ++ bytes ">"))) n

mutual
  -- [39] element ::= EmptyElemTag | STag content ETag
  -- "Element Type Match": "The Name in an element's end-tag MUST match the element type in the start-tag."
  pub data Element : ℕ → Text → List TapeEvent → Type 0 where
    empty_element : {at : ℕ} {s : Text} {e : TapeEvent} → EmptyElemTag at s e → Element at s (e ∷ [])
    whole_element : {at : ℕ} {s t u n m : Text} {e : TapeEvent} {es : List TapeEvent} → STag at s n e → Content (at + length s) t es → ETag u m → m ≡ n
        → Element at (s ++ (t ++ u)) (e ∷ (es ++ TapeEvent.close ∷ []))

  -- [43] content ::= CharData? ((element | Reference | CDSect | PI | Comment) CharData?)*
  pub data Content : ℕ → Text → List TapeEvent → Type 0 where
    content : {at : ℕ} {s t : Text} {es : List TapeEvent} → Opt CharData s → Items (at + length s) t es → Content at (s ++ t) es

  pub data Items : ℕ → Text → List TapeEvent → Type 0 where
    no_item : {at : ℕ} → Items at [] []
    one_item : {at : ℕ} {s t u : Text} {es fs : List TapeEvent} → Item at s es → Opt CharData t → Items (at + length s + length t) u fs → Items at (s ++ (t ++ u)) (es ++ fs)

  pub data Item : ℕ → Text → List TapeEvent → Type 0 where
    item_element : {at : ℕ} {s : Text} {es : List TapeEvent} → Element at s es → Item at s es
    item_reference : {at : ℕ} {s : Text} → Reference s → Item at s []
    item_section : {at : ℕ} {s : Text} → CDSect s → Item at s []
    item_pi : {at : ℕ} {s : Text} → PI s → Item at s []
    item_comment : {at : ℕ} {s : Text} → Comment s → Item at s []

-- [1] document ::= prolog element Misc*
pub data Derived : Text → List TapeEvent → Type 0 where
  document : {s t u : Text} {es : List TapeEvent} → Prolog s → Element (length s) t es → Many Misc u → Derived (s ++ (t ++ u)) es

-- [28] doctypedecl ::= '<!DOCTYPE' ..: a prolog, and behind it a document type begins
pub data BegunByDoctype : Text → Type 0 where
  begun : {s : Text} (r : Text) → Prolog s → BegunByDoctype (s ++ (bytes "<!DOCTYPE" ++ r))
