-- The tape: paper 01, "Tape", and the refusals 3, 4 and 5.
--     Pair          an offset and a length
--     pairs_of n     the first n pairs of the marks
--     pair_text      the part of the text under a pair
--     all_inside     each pair lies inside the text and starts at or after the end of the one before
--     all_ascii      under each pair stands a text
--     tag_of         the tag that a record's pairs stand for
--     Judged        what a record is judged to be: an event, or a refusal with its number
--     Recorded      the first record of the marks: none left, a refusal, or an event with the marks behind it
--     record1       the first record, judged for 3, then 4, then 5 as a whole
--     records       all records of the marks, up to and with the first refused one
use Rattle.std.specs.Prelude.{ℕ, zero, suc, ◌+◌, ◌*◌, List, [], ◌∷◌, Bool, true, ◌&&◌, eqb, leb, length, take, drop, if◌then◌else◌}
use Rattle.text.specs.Text.{Text, every, is_text, between}
use Rattle.sheet.specs.Limits.{attributes_limit}
use Rattle.sheet.specs.Returned.{bad_record, bad_pair, not_ascii}
use Rattle.xsd_parser.specs.Kinds.{start_kind, close_kind}
use Rattle.xsd_parser.specs.Event.{Attr, Tag, Event}

pub record Pair : Type 0 where
  pub offset : ℕ
  pub size : ℕ

-- "then pairs of offset and length into the text: tag name, then key and value of each attribute"
unfoldable pub pairs_of : ℕ → List ℕ → List Pair
pairs_of zero marks = []
pairs_of (suc n) [] = []
pairs_of (suc n) (o ∷ []) = []
pairs_of (suc n) (o ∷ l ∷ marks) = record { offset = o; size = l } ∷ pairs_of n marks

unfoldable pub pair_text : Text → Pair → Text
pair_text text p = take p.size (drop p.offset text)

-- 4: "pair outside the text or out of order". "Within one event each pair starts at or after the end of the one before."
unfoldable pub all_inside : ℕ → ℕ → List Pair → Bool
all_inside text_length end [] = true
all_inside text_length end (p ∷ ps) =
    leb end p.offset && leb (p.offset + p.size) text_length && all_inside text_length (p.offset + p.size) ps

-- 5: "byte above 127 under a pair". Order 12: "any other byte above 127" than those of a character up to U+017F, "those of a character cut by an end of its
-- pair among them"
unfoldable pub all_ascii : Text → List Pair → Bool
all_ascii text ps = every (λ (p : Pair). is_text (pair_text text p)) ps

unfoldable pub attrs_of : Text → List Pair → List Attr
attrs_of text [] = []
attrs_of text (k ∷ []) = []
attrs_of text (k ∷ v ∷ ps) = record { key = pair_text text k; value = pair_text text v } ∷ attrs_of text ps

unfoldable pub tag_of : Text → List Pair → Tag
tag_of text [] = record { name = []; attributes = [] }
tag_of text (n ∷ ps) = record { name = pair_text text n; attributes = attrs_of text ps }

pub data Judged : Type 0 where
  event : Event → Judged
  refused : ℕ → Judged

pub data Recorded : Type 0 where
  finished : Recorded
  bad : ℕ → Recorded
  next : Event → List ℕ → Recorded

-- how many pairs a start or empty tag with so many attributes has
unfoldable pub pair_count : ℕ → ℕ
pair_count n = 1 + 2 * n

-- "Kind 1 start, 2 empty, 3 close; a close is just `3 0`."
unfoldable pub event_of : ℕ → Tag → Event
event_of kind t = if eqb kind start_kind then Event.start t else Event.empty t

-- 3: "kind not 1 to 3, record cut short, over 32 attributes, a close with any"
unfoldable pub form_test : ℕ → ℕ → ℕ → Bool
form_test kind count left =
    between start_kind close_kind kind && leb count attributes_limit && (if eqb kind close_kind then eqb count 0 else leb (2 * pair_count count) left)

unfoldable pub tag_record : Text → ℕ → List Pair → List ℕ → Recorded
tag_record text kind ps rest =
    if all_inside (length text) 0 ps
    then if all_ascii text ps then next (event_of kind (tag_of text ps)) rest else bad not_ascii
    else bad bad_pair

unfoldable pub record1 : Text → List ℕ → Recorded
record1 text [] = finished
record1 text (kind ∷ []) = bad bad_record
record1 text (kind ∷ count ∷ rest) =
    if form_test kind count (length rest)
    then if eqb kind close_kind
    then next Event.close rest
    else tag_record text kind (pairs_of (pair_count count) rest) (drop (2 * pair_count count) rest)
    else bad bad_record

-- the records of the marks; each takes at least two numbers, so `fuel` records are all where the marks have no more numbers than that
unfoldable pub records_from : ℕ → Text → List ℕ → List Judged
records_from zero text marks = []
records_from (suc fuel) text marks =
    elim (record1 text marks) [ finished ↦ [] | bad r ↦ refused r ∷ [] | next e rest ↦ event e ∷ records_from fuel text rest ]

unfoldable pub records : Text → List ℕ → List Judged
records text marks = records_from (length marks) text marks
