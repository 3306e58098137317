-- Texts, and the words of paper 01 that speak of them. 000 is parser.rs.
--     if b then x else y    x where the test b passes, else y
--     Text          a text: the list of its bytes
--     bytes         a quoted text as bytes; `code "A"` is the byte of one quoted character
--     is_plain_byte, is_plain    a byte below 128; all bytes of the text are such
--     between       the byte is one of a range
--     is_tail       a byte that may stand second in a character of two bytes
--     is_pair, is_graph_pair    the two bytes are a character of UTF-8 from U+0080 to U+017F; or one of the three more that a graph may hold
--     text_by       the text goes on behind a first byte that waits for its second one, or behind none: by a rule that says which two bytes are a character
--     is_text, is_graph_text    the texts that a tape and a sheet may hold, and those that a graph may hold
--     lead_after    the byte that waits behind a byte
--     is_upper, is_lower, is_digit    the classes of a byte, as Rust's is_uppercase, is_lowercase and is_ascii_digit have them below 128
--     upper_byte, lower_byte  the upper and the lower form of a letter; every other byte is its own
--     every         each element of the list passes the test
--     contains      the byte stands in the text
--     split         the segments between separators, as `str::split` gives them: one more than there are separators
--     join          the segments put together
--     first         the first byte, 0 where there is none: 0 is no letter
--     same          the two texts are equal
--     is            the text is the quoted word
--     colon         the byte of the colon
--     local_name     the part after the last colon (000, `local_name`)
--     StartsAt      where a part starts in a buffer; LocalPart: a part of a name that is its local name
use Rattle.std.specs.Prelude.{ℕ, ◌+◌, ◌-◌, ◌≡◌, List, [], ◌∷◌, ◌++◌, Bool, true, false, ◌&&◌, ◌||◌, eqb, leb, ltb, length, if◌then◌else◌}
use Prim.Native.String.{String}
use Prim.Native.Char.{code}

abbrev pub Text : Type 0
Text = List ℕ

unfoldable pub bytes : String → Text
bytes String.[] = []
bytes (String.◌∷◌ c s) = code c ∷ bytes s

unfoldable pub every : {A : Type 0} → (A → Bool) → List A → Bool
every p [] = true
every p (b ∷ s) = p b && every p s

unfoldable pub is_plain_byte : ℕ → Bool
is_plain_byte b = ltb b 128

unfoldable pub is_plain : Text → Bool
is_plain s = every is_plain_byte s

unfoldable pub between : ℕ → ℕ → ℕ → Bool
between low high b = leb low b && leb b high

-- RFC 3629, section 3: a character from U+0080 to U+07FF is a byte 110xxxxx and a byte 10xxxxxx, here from C2 80 (U+0080) to C5 BF (U+017F)
unfoldable pub is_tail : ℕ → Bool
is_tail b = between 128 191 b

unfoldable pub is_pair : ℕ → ℕ → Bool
is_pair lead tail = between 194 197 lead && is_tail tail

-- "in graphs also U+02BC, U+0307 and U+039C": CA BC, CC 87, CE 9C
unfoldable pub is_graph_pair : ℕ → ℕ → Bool
is_graph_pair lead tail =
    is_pair lead tail || (eqb lead 202 && eqb tail 188) || (eqb lead 204 && eqb tail 135) || (eqb lead 206 && eqb tail 156)

-- behind the byte `lead`, which waits for the second byte of its character; 0 where none waits
unfoldable pub text_by : (ℕ → ℕ → Bool) → ℕ → Text → Bool
text_by pair lead [] = eqb lead 0
text_by pair lead (b ∷ s) =
    if eqb lead 0 then text_by pair (if is_plain_byte b then 0 else b) s else (pair lead b && text_by pair 0 s)

-- "Accept UTF-8 for code points U+0080 to U+017F."
unfoldable pub is_text : Text → Bool
is_text s = text_by is_pair 0 s

unfoldable pub is_graph_text : Text → Bool
is_graph_text s = text_by is_graph_pair 0 s

-- the byte that waits behind b; 255, with which no character begins, where no text goes on so
unfoldable pub lead_after : (ℕ → ℕ → Bool) → ℕ → ℕ → ℕ
lead_after pair lead b =
    if eqb lead 0 then (if is_plain_byte b then 0 else b) else (if pair lead b then 0 else 255)

abbrev pub is_upper : ℕ → Bool
is_upper b = between (code "A") (code "Z") b

abbrev pub is_lower : ℕ → Bool
is_lower b = between (code "a") (code "z") b

abbrev pub is_digit : ℕ → Bool
is_digit b = between (code "0") (code "9") b

unfoldable pub upper_byte : ℕ → ℕ
upper_byte b = if is_lower b then b - 32 else b

unfoldable pub lower_byte : ℕ → ℕ
lower_byte b = if is_upper b then b + 32 else b

unfoldable pub contains : ℕ → Text → Bool
contains c [] = false
contains c (b ∷ s) = eqb b c || contains c s

-- the byte before the first segment
unfoldable pub in_front : ℕ → List Text → List Text
in_front b [] = (b ∷ []) ∷ []
in_front b (t ∷ ts) = (b ∷ t) ∷ ts

unfoldable pub split : ℕ → Text → List Text
split c [] = [] ∷ []
split c (b ∷ s) = if eqb b c then [] ∷ split c s else in_front b (split c s)

unfoldable pub join : List Text → Text
join [] = []
join (t ∷ ts) = t ++ join ts

unfoldable pub first : Text → ℕ
first [] = 0
first (b ∷ s) = b

unfoldable pub same : Text → Text → Bool
same [] [] = true
same [] (c ∷ t) = false
same (b ∷ s) [] = false
same (b ∷ s) (c ∷ t) = eqb b c && same s t

unfoldable pub is : Text → String → Bool
is s word = same s (bytes word)

-- the rest behind the last c of s, or what is kept where s has none
unfoldable pub after_last : ℕ → Text → Text → Text
after_last c kept [] = kept
after_last c kept (b ∷ s) = after_last c (if eqb b c then s else kept) s

abbrev pub colon : ℕ
colon = code ":"

-- "Tag names and attribute keys are compared after their last colon."
-- 000: name.rfind(':').map_or(name, |pos| &name[pos + 1..]). Namespaces in XML 1.0, section 4: the LocalPart of a QName.
unfoldable pub local_name : Text → Text
local_name name = after_last colon name name

-- a part starts `at` bytes behind the start of a buffer; a place in memory is a block and an offset in it
abbrev pub StartsAt : ℕ × ℕ → ℕ → ℕ × ℕ → Type 0
StartsAt buffer at part = (part.0 ≡ buffer.0) × (part.1 ≡ buffer.1 + at)

-- a part of a name, with the places of both, is its local name: the bytes, and the last part of the name
pub record LocalPart (name_place : ℕ × ℕ) (name : Text) (part_place : ℕ × ℕ) (part : Text) : Type 0 where
  pub bytes : part ≡ local_name name
  pub starts : StartsAt name_place (length name - length part) part_place
