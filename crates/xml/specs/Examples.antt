-- Order 1's readings by computation: small texts with the number that the call gives for them, in the order of the productions, and tapes.
--     utf8_text     a quoted text of characters up to U+07FF in UTF-8 (RFC 3629)
--     tape_number_is  the number for a text where 32 marks are lent
--     all_give       each of the texts gives the number
use Rattle.std.specs.Prelude.{◌≡◌, refl, Bool, true, List, [], ◌∷◌, ◌++◌, ℕ, ◌+◌, ◌/◌, ◌%◌, eqb, ltb, replicate, if◌then◌else◌}
use Prim.Native.Char.{code}
use Prim.Native.String.{String}
use Rattle.text.specs.Text.{Text, bytes, every}
use Rattle.text.specs.Unfold.{computes as texts}
use Rattle.sheet.specs.Unfold.{computes as sheets}
use Rattle.sheet.specs.Returned.{accepted, not_ascii, malformed, doctype}
use Rattle.xml.specs.Document.{tape_of}
use Rattle.xml.specs.Unfold.{computes as taken}

unfoldable pub utf8_text : String → Text
utf8_text String.[] = []
utf8_text (String.◌∷◌ c s) = if ltb (code c) 128 then code c ∷ utf8_text s else (192 + code c / 64) ∷ (128 + code c % 64) ∷ utf8_text s

unfoldable pub tape_number_is : ℕ → String → Bool
tape_number_is number text = eqb (tape_of (utf8_text text) (replicate 32 7)).number number

unfoldable pub all_give : ℕ → List String → Bool
all_give number ss = every (tape_number_is number) ss

pub doctypes : all_give doctype ("<!DOCTYPE" ∷ "<!DOCTYPEx" ∷ "<!DOCTYPE>" ∷ " <!DOCTYPE" ∷ "<!--x--><?p?> <!DOCTYPE" ∷ "<?xml version='1.0'?><!DOCTYPE"
    ∷ "<!--<!DOCTYPE--><!DOCTYPE" ∷ "<!DOCTYPE a><" ∷ []) ≡ true
unfolding utf8_text tape_number_is all_give texts sheets taken
doctypes = refl

pub no-doctypes : all_give malformed ("<!doctype a>" ∷ "<! DOCTYPE a>" ∷ "<!DOCTYP" ∷ "x<!DOCTYPE a>" ∷ " <?xml version='1.0'?><!DOCTYPE a>" ∷ "<?xml version='2.0'?><!DOCTYPE a>"
    ∷ "<!-- -- --><!DOCTYPE a>" ∷ "<a/><!DOCTYPE a>" ∷ "<a><!DOCTYPE a></a>" ∷ "<!--<!DOCTYPE" ∷ []) ≡ true
unfolding utf8_text tape_number_is all_give texts sheets taken
no-doctypes = refl

-- [1]: one root, and comments, instructions and white space around it
pub documents : all_give accepted ("<a/>" ∷ "<a></a>" ∷ " <a/> " ∷ "<!--x--><?p?><a/><!--y--><?q r?> " ∷ "<?xml version=\"1.0\"?><a/>" ∷ "<!--<!DOCTYPE a>--><a/>" ∷ []) ≡ true
unfolding utf8_text tape_number_is all_give texts sheets taken
documents = refl

-- the text must be whole, and nothing else stands outside the root
pub no-documents : all_give malformed ("" ∷ " " ∷ "x" ∷ "<a/><b/>" ∷ "<a/>x" ∷ "<a/>&#32;" ∷ "<a/><![CDATA[]]>" ∷ "x<a/>" ∷ "<a>" ∷ "<a><a>" ∷ "<a><b></a>" ∷ "</a>" ∷ "<a/></a>" ∷ "<" ∷ []) ≡ true
unfolding utf8_text tape_number_is all_give texts sheets taken
no-documents = refl

-- [4], [4a], [5]
pub names-right : all_give accepted ("<:/>" ∷ "<a:b:c/>" ∷ "<a:/>" ∷ "<xml/>" ∷ "<_a-b.c1/>" ∷ "<x:a xmlns:xml='x'/>" ∷ []) ≡ true
unfolding utf8_text tape_number_is all_give texts sheets taken
names-right = refl

-- a name begins with a letter, `_` or `:`
pub names-wrong : all_give malformed ("<1/>" ∷ "<-a/>" ∷ "<.a/>" ∷ "< a/>" ∷ "</>" ∷ "<>" ∷ []) ≡ true
unfolding utf8_text tape_number_is all_give texts sheets taken
names-wrong = refl

-- accented letters, and behind the first character U+00B7
pub accents-right : all_give accepted ("<é/>" ∷ "<Größe></Größe>" ∷ "<a é='1' è='2' é1='ä'/>" ∷ "<À/>" ∷ "<Ö/>" ∷ "<Ø/>"
    ∷ "<ö/>" ∷ "<ø/>" ∷ "<ſ/>" ∷ "<Ĳ/>" ∷ "<ŉ/>" ∷ "<a·b/>" ∷ "<é·é/>" ∷ "<_é-é.1:é/>"
    ∷ "<a>×÷·¡¿ª</a>" ∷ "<a b='×÷·'/>" ∷ "<!--é×--><?é ×?><?xmlé?><a/>" ∷ []) ≡ true
unfolding utf8_text tape_number_is all_give texts sheets taken
accents-right = refl

-- U+00D7 and U+00F7 in no name, U+00B7 not first, nor the other characters of U+0080 to U+00BF; names are compared by character
pub accents-wrong : all_give malformed ("<×/>" ∷ "<a×/>" ∷ "<÷/>" ∷ "<a÷/>" ∷ "<·/>" ∷ "<a ·='1'/>" ∷ "<ª/>" ∷ "<aª/>" ∷ "<a¿/>" ∷ "<a>&é;</a>" ∷ "<é></è>" ∷ "<é></ê>" ∷ "<é></é1>" ∷ "<é1></é>"
    ∷ "<a></é>" ∷ "<é></a>" ∷ "<a é='1' é='2'/>" ∷ "<?×?><a/>" ∷ "<?XmL?><é/>" ∷ []) ≡ true
unfolding utf8_text tape_number_is all_give texts sheets taken
accents-wrong = refl

-- any other byte above 127: U+02BC, U+0307, U+039C, U+0180
pub others-wrong : all_give not_ascii ("<a>ʼ</a>" ∷ "<a>i̇</a>" ∷ "<a>Μ</a>" ∷ "<a>ƀ</a>" ∷ []) ≡ true
unfolding utf8_text tape_number_is all_give texts sheets taken
others-wrong = refl

-- [40], [41], [42], [44], [10], [25]
pub tags-right : all_give accepted ("<a b='1' c='2'/>" ∷ "<a b = '1' />" ∷ "<a b=\"'\" c='\"'/>" ∷ "<a b='&lt;>]]>--'/>" ∷ "<a b=''></a >" ∷ "<a b='1' x:b='1' B='1'/>" ∷ []) ≡ true
unfolding utf8_text tape_number_is all_give texts sheets taken
tags-right = refl

-- white space before each attribute, quotes, no `<`, no key twice, names of end tags compared byte by byte
pub tags-wrong : all_give malformed ("<a b='1'c='2'/>" ∷ "<a b/>" ∷ "<a b=1/>" ∷ "<a b='1\"/>" ∷ "<a b='<'/>" ∷ "<a b='&'/>" ∷ "<a b='1' b='2'/>" ∷ "<a b='1' c='1' b='1'/>"
    ∷ "<a / >" ∷ "<a></ a>" ∷ "<a></a/>" ∷ "<a></a b=''>" ∷ "<x:a></a>" ∷ "<a></A>" ∷ "<a></ab>" ∷ "<ab></a>" ∷ "<a/ ></a>" ∷ []) ≡ true
unfolding utf8_text tape_number_is all_give texts sheets taken
tags-wrong = refl

-- [14], [20]
pub text-right : all_give accepted ("<a>]]</a>" ∷ "<a>]></a>" ∷ "<a>></a>" ∷ "<a>]]&gt;</a>" ∷ "<a>]]<b/>></a>" ∷ "<a>]]<!--x-->></a>" ∷ "<a>%p;</a>" ∷ "<a><![CDATA[<&]]]]></a>"
    ∷ "<a><![CDATA[]]></a>" ∷ []) ≡ true
unfolding utf8_text tape_number_is all_give texts sheets taken
text-right = refl

-- `]]>` may not stand in text
pub text-wrong : all_give malformed ("<a>]]></a>" ∷ "<a>]]]></a>" ∷ "<a><![CDATA[]]>]]></a>" ∷ "<a><![cdata[]]></a>" ∷ "<a><![CDATA[]></a>" ∷ "<a><![CDATA[]]></b></a>" ∷ []) ≡ true
unfolding utf8_text tape_number_is all_give texts sheets taken
text-wrong = refl

-- [66] to [68]
pub references-right : all_give accepted ("<a>&amp;&lt;&gt;&apos;&quot;</a>" ∷ "<a>&#233;&#128;&#xE9;&#xe9;&#0000000009;</a>" ∷ "<a>&#x10FFFF;&#xD7FF;&#xE000;&#xFFFD;</a>"
    ∷ "<a><!--&--><?p &?><![CDATA[&]]></a>" ∷ []) ≡ true
unfolding utf8_text tape_number_is all_give texts sheets taken
references-right = refl

-- only the five entities; a number must be a character
pub references-wrong : all_give malformed ("<a>&AMP;</a>" ∷ "<a>&nbsp;</a>" ∷ "<a>&;</a>" ∷ "<a>&amp</a>" ∷ "<a>&#;</a>" ∷ "<a>&#x;</a>" ∷ "<a>&#X41;</a>" ∷ "<a>&#4294967361;</a>"
    ∷ "<a>&#xD800;</a>" ∷ "<a>&#xFFFE;</a>" ∷ "<a>&#x110000;</a>" ∷ "<a>&#8;</a>" ∷ "<a>&#0;</a>" ∷ "<a>&#1a;</a>" ∷ "<a>& amp;</a>" ∷ []) ≡ true
unfolding utf8_text tape_number_is all_give texts sheets taken
references-wrong = refl

-- [15]
pub comments-right : all_give accepted ("<!----><a/>" ∷ "<!-- - --><a/>" ∷ "<!--]]>--><a/>" ∷ []) ≡ true
unfolding utf8_text tape_number_is all_give texts sheets taken
comments-right = refl

-- `--` only in the end
pub comments-wrong : all_give malformed ("<!--><a/>" ∷ "<!---><a/>" ∷ "<!-- -- --><a/>" ∷ "<!-- ---><a/>" ∷ "<!--" ∷ "<!-- --" ∷ []) ≡ true
unfolding utf8_text tape_number_is all_give texts sheets taken
comments-wrong = refl

-- [16], [17]
pub instructions-right : all_give accepted ("<?p ??><a/>" ∷ "<?p?><a/>" ∷ "<?xml-stylesheet a?><a/>" ∷ "<?xmlx?><a/>" ∷ "<?xml:a?><a/>" ∷ "<?a:b ?><a/>" ∷ []) ≡ true
unfolding utf8_text tape_number_is all_give texts sheets taken
instructions-right = refl

-- a name first, never `xml`
pub instructions-wrong : all_give malformed ("<?p??><a/>" ∷ "<?p=x?><a/>" ∷ "<? p?><a/>" ∷ "<??><a/>" ∷ "<?xml?><a/>" ∷ "<?XmL ?><a/>" ∷ "<a><?xml version=\"1.0\"?></a>" ∷ "<?p" ∷ []) ≡ true
unfolding utf8_text tape_number_is all_give texts sheets taken
instructions-wrong = refl

-- [23] to [26], [32], [80], [81]; the name of the encoding is not looked up
pub declarations-right : all_give accepted ("<?xml version='1.0'?><a/>" ∷ "<?xml version = '1.1' ?><a/>" ∷ "<?xml version='1.999' encoding='UTF-16'?><a/>"
    ∷ "<?xml version='1.0' encoding='x' standalone='yes'?><a/>" ∷ "<?xml version='1.0' standalone=\"no\" ?><a/>" ∷ []) ≡ true
unfolding utf8_text tape_number_is all_give texts sheets taken
declarations-right = refl

-- in this order, each behind white space, at the first byte or not at all
pub declarations-wrong : all_give malformed (" <?xml version='1.0'?><a/>" ∷ "<?xml version='1.'?><a/>" ∷ "<?xml version='1'?><a/>" ∷ "<?xml version='2.0'?><a/>"
    ∷ "<?xml version='1.0 '?><a/>" ∷ "<?xml encoding='x'?><a/>" ∷ "<?xml version='1.0' standalone='yes' encoding='x'?><a/>" ∷ "<?xml version='1.0'encoding='x'?><a/>"
    ∷ "<?xml version='1.0' encoding='1'?><a/>" ∷ "<?xml version='1.0' encoding=''?><a/>" ∷ "<?xml version='1.0' standalone='YES'?><a/>" ∷ "<?xml version='1.0\"?><a/>" ∷ []) ≡ true
unfolding utf8_text tape_number_is all_give texts sheets taken
declarations-wrong = refl

-- the worked example of order 1: a declaration, text, a comment, an attribute with a reference, a line end between attributes, CDATA
unfoldable pub sample : Text
sample = bytes "<?xml version=\"1.0\"?><a>x<!--y--><b c=\"&lt; \"" ++ 10 ∷ bytes " d='\"'/><![CDATA[z]]></a"

unfoldable pub sample_tape : List ℕ
sample_tape = 1 ∷ 0 ∷ 22 ∷ 1 ∷ 2 ∷ 2 ∷ 34 ∷ 1 ∷ 36 ∷ 1 ∷ 39 ∷ 5 ∷ 47 ∷ 1 ∷ 50 ∷ 1 ∷ 3 ∷ 0 ∷ []

pub sample-taken : tape_of (sample ++ bytes ">") (replicate 20 7) ≡ record { number = 0; place = 18; marks = sample_tape ++ 0 ∷ 0 ∷ [] }
unfolding sample sample_tape texts sheets taken
sample-taken = refl

-- with one number less than it needs
pub sample-short : tape_of (sample ++ bytes ">") (replicate 17 7) ≡ record { number = 19; place = 0; marks = replicate 17 0 }
unfolding sample texts sheets taken
sample-short = refl

-- with its last byte taken away, also where no number is lent
pub sample-cut : tape_of sample [] ≡ record { number = 17; place = 0; marks = [] }
unfolding sample texts sheets taken
sample-cut = refl

-- a high byte in the last place, though the text has a DOCTYPE before it
pub high_byte : tape_of (bytes "<!DOCTYPE a [" ++ 233 ∷ []) (7 ∷ []) ≡ record { number = 5; place = 0; marks = 0 ∷ [] }
unfolding texts sheets taken
high_byte = refl

-- a combining accent, U+0301; a tail byte by itself, a lead byte before the end of a name, the bytes of a longer spelling
pub combining : tape_of (bytes "<e" ++ 204 ∷ 129 ∷ bytes "/>") [] ≡ record { number = 5; place = 0; marks = [] }
unfolding texts sheets taken
combining = refl

pub lone-tail : tape_of (bytes "<a" ++ 169 ∷ bytes "/>") [] ≡ record { number = 5; place = 0; marks = [] }
unfolding texts sheets taken
lone-tail = refl

pub lone-lead : tape_of (bytes "<a" ++ 195 ∷ bytes "/>") [] ≡ record { number = 5; place = 0; marks = [] }
unfolding texts sheets taken
lone-lead = refl

pub overlong : tape_of (bytes "<" ++ 193 ∷ 161 ∷ bytes "/>") [] ≡ record { number = 5; place = 0; marks = [] }
unfolding texts sheets taken
overlong = refl

-- places count bytes: the name `é`, the key `ü` and the value `ß`
pub accented : tape_of (utf8_text "<é ü='ß'/>") (replicate 8 7) ≡ record { number = 0; place = 8; marks = 2 ∷ 1 ∷ 1 ∷ 2 ∷ 4 ∷ 2 ∷ 8 ∷ 2 ∷ [] }
unfolding utf8_text texts sheets taken
accented = refl

-- the spelling decides between a start and an empty tag; pairs are the raw bytes
pub spelled-open : tape_of (bytes "<a></a>") (replicate 6 7) ≡ record { number = 0; place = 6; marks = 1 ∷ 0 ∷ 1 ∷ 1 ∷ 3 ∷ 0 ∷ [] }
unfolding texts sheets taken
spelled-open = refl

pub spelled-empty : tape_of (bytes "<ab  c = 'de' />") (replicate 8 7) ≡ record { number = 0; place = 8; marks = 2 ∷ 1 ∷ 1 ∷ 2 ∷ 5 ∷ 1 ∷ 10 ∷ 2 ∷ [] }
unfolding texts sheets taken
spelled-empty = refl

-- an empty value is the offset behind the opening quote and 0
pub empty-value : tape_of (bytes "<a b=''/>") (replicate 8 7) ≡ record { number = 0; place = 8; marks = 2 ∷ 1 ∷ 1 ∷ 1 ∷ 3 ∷ 1 ∷ 6 ∷ 0 ∷ [] }
unfolding texts sheets taken
empty-value = refl

-- a control byte anywhere
pub control-byte : tape_of (bytes "<a/><!--" ++ 1 ∷ bytes "-->") [] ≡ record { number = 17; place = 0; marks = [] }
unfolding texts sheets taken
control-byte = refl

pub delete-byte : tape_of (bytes "<a>" ++ 127 ∷ 9 ∷ 10 ∷ 13 ∷ bytes "</a>") [] ≡ record { number = 19; place = 0; marks = [] }
unfolding texts sheets taken
delete-byte = refl
