-- What the code's enums say in the terms of the definitions.
--     next_part      the part of a tag of a `Next`; next_piece: the piece of content of a `Content`
--     last_part      the end of a tag that stands at an offset, as a `Next`
--     is_key_next    one space stands here, and behind it a byte above all white space and the bytes that end a tag
--     names_up_to     the names at the offsets of the first slots, the last one first
--     PartIn        where a part of a tag lies in a text of a length, from an offset on; PieceIn: where a piece of content lies
--     OpensValue    the quote before a value, with all that stands between a key and it
--     EndsTag, IsTag, GoesOn, IsRoot, FoundIs    an answer with the marks before and behind it says what the definition gives, and where it lies
--     fault_of      why a text that has no tape has none; taken, StoredIs: the call's answer, and what is stored for it
use Rattle.std.specs.Prelude.{ℕ, Option, Some, None, Result, Ok, Err, zero, suc, ◌+◌, ◌-◌, ◌*◌, ◌≤◌, ◌<◌, ◌≡◌, List, [], ◌∷◌, length, get_or, take, drop, Bool, true, ◌&&◌, eqb, ltb, if◌then◌else◌, MatchResult, ⊤}
use Rattle.sheet.specs.Rows.{filled}
use Rattle.std.proofs.lemmas.List.Edits.{sets}
use Rattle.text.specs.Text.{Text, bytes, is_text, first}
use Rattle.xml.specs.Steps.{bad, behind, ◌and_then◌, starts_with, leading_name}
use Rattle.xml.specs.Values.{value, is_quote}
use Rattle.xml.specs.Prolog.{eq}
use Rattle.xsd_parser.specs.Tape.{Pair}
use Rattle.xsd_parser.specs.Kinds.{kind_number}
use Rattle.xsd_parser.specs.declared.kinds.Kind.{Kind}
use Rattle.xml.specs.Tape.{AttributePairs, TapeEvent, attribute_marks, event_marks, tape_marks}
use Rattle.xml.specs.Tags.{Part, wrong, last, more, attribute_from, TagEnd, unended, ended, Tagged, untagged, tagged}
use Rattle.xml.specs.Root.{Piece, passed, starting, Level, stop, on, Rooted, unrooted, rooted}
use Rattle.xml_text.specs.declared.tags.OpeningQuote.{OpeningQuote}
use Rattle.xml_text.specs.declared.tags.Next.{Next}
use Rattle.xml_text.specs.declared.tags.EndOfTag.{EndOfTag}
use Rattle.xml_text.specs.declared.tags.WholeTag.{WholeTag}
use Rattle.xml_text.specs.declared.root.Content.{Content}
use Rattle.xml_text.specs.declared.onward.Onward.{Onward}
use Rattle.xml_text.specs.declared.root.WholeRoot.{WholeRoot}
use Rattle.xml.specs.Document.{Document, with_doctype, not_well_formed, well_formed, document, Taken, refused, taken_of}
use Rattle.sheet.specs.Returned.{accepted, not_ascii, refusal_number}
use Rattle.sheet.specs.declared.refusal.Refusal.{Refusal}

abbrev pub next_part : Text → Option Next → Part
next_part text None = wrong
next_part text (Some (Next.Last kind a)) = last (kind_number kind) a (drop a text)
next_part text (Some (Next.More v)) = more (attribute_from v.key v.key_end v.quote v.behind) (leading_name (drop v.key text)) v.behind (drop v.behind text)

unfoldable pub last_part : ℕ → Text → Option Next
last_part at s =
    if starts_with (bytes "/>") s then Some (Next.Last Kind.Empty (at + 2)) else
    if starts_with (bytes ">") s then Some (Next.Last Kind.Start (at + 1)) else None

abbrev pub next_piece : Text → Option Content → Piece
next_piece text None = Piece.wrong
next_piece text (Some (Content.Passed a)) = passed a (drop a text)
next_piece text (Some (Content.Starting a)) = starting a (drop a text)

unfoldable pub is_key_next : Text → Bool
is_key_next s = eqb (first s) 32 && ltb 62 (first (drop 1 s))

unfoldable pub names_up_to : Text → List ℕ → ℕ → List Text
names_up_to text slots zero = []
names_up_to text slots (suc k) = leading_name (drop (get_or slots k 0) text) ∷ names_up_to text slots k

abbrev pub PartIn : ℕ → ℕ → Option Next → Type 0
PartIn n at None = Unit {0}
PartIn n at (Some (Next.Last kind a)) = (at < a) × (a ≤ n)
PartIn n at (Some (Next.More v)) = (at ≤ v.key) × (v.key < v.key_end) × (v.key_end < v.quote) × (v.quote + 2 ≤ v.behind) × (v.behind ≤ n)

-- the quote that `=`, and any white space around it, stands before, or that no value stands there
abbrev pub OpensValue : Text → ℕ → Option OpeningQuote → Type 0
OpensValue text at None = (eq at (drop at text) and_then value) ≡ bad
OpensValue text at (Some q) = (eq at (drop at text) ≡ behind q.at (drop q.at text)) × (q.byte ≡ first (drop q.at text)) × (is_quote q.byte ≡ true)

abbrev pub PieceIn : ℕ → ℕ → Option Content → Type 0
PieceIn n at None = Unit {0}
PieceIn n at (Some (Content.Passed a)) = (at < a) × (a ≤ n)
PieceIn n at (Some (Content.Starting a)) = at ≤ a

abbrev pub EndsTag : Text → ℕ → List ℕ → ℕ → List ℕ → Option EndOfTag → TagEnd → Type 0
EndsTag text at marks from after None d = d ≡ unended
EndsTag text at marks from after (Some e) d =
    (xs : List AttributePairs) × (d ≡ ended (kind_number e.kind) xs e.behind (drop e.behind text)) × (e.count ≡ length xs)
    × (after ≡ sets marks from (attribute_marks xs)) × (at + 3 * e.count < e.behind) × (e.behind ≤ length text)

abbrev pub IsTag : Text → ℕ → List ℕ → ℕ → List ℕ → Option WholeTag → Tagged → Type 0
IsTag text at marks used after None d = d ≡ untagged
IsTag text at marks used after (Some t) d =
    (pair : Pair) × (xs : List AttributePairs) × (d ≡ tagged (kind_number t.kind) pair xs (leading_name (drop t.start text)) t.behind (drop t.behind text))
    × (t.used ≡ used + length (event_marks (TapeEvent.tag (kind_number t.kind) pair xs)))
    × (after ≡ sets marks used (event_marks (TapeEvent.tag (kind_number t.kind) pair xs))) × (at < t.start) × (t.start < t.behind)
    × (t.behind ≤ length text) × (at + 3 ≤ t.behind) × (t.used ≤ used + 2 * (t.behind - at))

abbrev pub GoesOn : Text → ℕ → List ℕ → List ℕ → ℕ → List ℕ → Option Onward → Level → Type 0
GoesOn text at slots marks used after None d = d ≡ stop
GoesOn text at slots marks used after (Some o) d =
    (events : List TapeEvent) × (d ≡ on (names_up_to text slots o.count) events o.at (drop o.at text)) × (o.used ≡ used + length (tape_marks events)) × (after ≡ sets marks used (tape_marks events))
    × (at < o.at) × (o.at ≤ length text)

abbrev pub IsRoot : Text → List ℕ → ℕ → List ℕ → Option WholeRoot → Rooted → Type 0
IsRoot text marks used after None d = d ≡ unrooted
IsRoot text marks used after (Some r) d =
    (events : List TapeEvent) × (d ≡ rooted events r.behind (drop r.behind text)) × (r.used ≡ used + length (tape_marks events)) × (after ≡ sets marks used (tape_marks events))

-- why a text has no tape: it is begun by a DOCTYPE, or not well formed
abbrev pub fault_of : Document → Option Refusal
fault_of with_doctype = Some Refusal.Doctype
fault_of not_well_formed = Some Refusal.Malformed
fault_of (well_formed events) = None

abbrev pub FoundIs : List ℕ → List ℕ → Result ℕ Refusal → Document → Type 0
FoundIs marks after (Err refusal) d = fault_of d ≡ Some refusal
FoundIs marks after (Ok n) d = (events : List TapeEvent) × (d ≡ well_formed events) × (n ≡ length (tape_marks events)) × (after ≡ sets marks 0 (tape_marks events))

-- the answer, once the marks behind those used are zeroed
abbrev pub taken : List ℕ → Result ℕ Refusal → Taken
taken after (Err refusal) = refused (length after) (refusal_number refusal)
taken after (Ok used) = record { number = accepted; place = used; marks = filled (length after) (take used after) }

-- a text of right lengths was read, and its tape stored where it has one and the marks reach
pub record StoredIs (text : Text) (before after : List ℕ) (result : Result ℕ Refusal) : Type 0 where
  pub kept : length after ≡ length before
  pub room : MatchResult result (λ used. used ≤ length after) (λ refusal. ⊤)
  pub is : taken after result ≡ (if is_text text then taken_of (length before) (document text) else refused (length before) not_ascii)
