-- Paper 01, "Returned numbers": the numbers that the calls return, in the order of the table, and those of the refusals.
--     accepted .. bad_label    the numbers 0 to 16; malformed, doctype, short_marks: 17 to 19, of order 1; repeated_name: 20, of order 4; not_in_form: 21, of order 6; unheld_value,
--                             short_text: 22 and 23, of order 8; no_pattern, pattern_aside: 24 and 25, of order 13
--     refusal_number           the number of a refusal
use Rattle.std.specs.Prelude.{ℕ}
use Rattle.sheet.specs.declared.refusal.Refusal.{Refusal}

-- "accepted; place is events read, rows used, or 0"
abbrev pub accepted : ℕ
accepted = 0

-- "a rows length not a multiple of 10, below 20 or above 40,960; names above 65,536; tape buffers too long"
abbrev pub bad_length : ℕ
bad_length = 1

-- "schema sheet not good"
abbrev pub not_good : ℕ
not_good = 2

-- "kind not 1 to 3, record cut short, over 32 attributes, a close with any"
abbrev pub bad_record : ℕ
bad_record = 3

-- "pair outside the text or out of order"
abbrev pub bad_pair : ℕ
bad_pair = 4

-- "byte above 127 under a pair"; by order 12 "any other byte above 127" than those of a character up to U+017F whole in its pair
abbrev pub not_ascii : ℕ
not_ascii = 5

-- "close with no tag open"
abbrev pub no_tag_open : ℕ
no_tag_open = 6

-- "start with 255 open"
abbrev pub too_many_open : ℕ
too_many_open = 7

-- "1,000,000 events done"
abbrev pub too_many_events : ℕ
too_many_events = 8

-- "`MissingAttribute`"
abbrev pub missing_attribute : ℕ
missing_attribute = 9

-- "`InvalidAttributeValue`"
abbrev pub invalid_attribute_value : ℕ
invalid_attribute_value = 10

-- "the state after the event needs more rows or names than lent"
abbrev pub no_room : ℕ
no_room = 11

-- "lowering, no root seen"
abbrev pub no_root : ℕ
no_root = 12

-- "`UnknownBase`; place is the row of the first such simple type"
abbrev pub unknown_base : ℕ
unknown_base = 13

-- order 11: "From now on 14 means fewer than 64"
abbrev pub short_scratch : ℕ
short_scratch = 14

-- "graph needs more rows or names than lent"
abbrev pub no_room_in_graph : ℕ
no_room_in_graph = 15

-- "label: length not a multiple of 10, no such row, tag not 5, 7, 9, 10 or 19, .."
abbrev pub bad_label : ℕ
bad_label = 16

-- order 1: "17 not well formed"
abbrev pub malformed : ℕ
malformed = 17

-- order 1: "18 the bytes `<!DOCTYPE` with only a well-formed prolog, or nothing, before them"
abbrev pub doctype : ℕ
doctype = 18

-- order 1: "19 marks too short"
abbrev pub short_marks : ℕ
short_marks = 19

-- order 4: "two finished types normalise to the same name; the place is the row of the first head, in lowering's order, whose name came before"
abbrev pub repeated_name : ℕ
repeated_name = 20

-- order 6: "21 not in paper 01's graph form (..), or two types of one name"
abbrev pub not_in_form : ℕ
not_in_form = 21

-- order 8: "22 a value XML 1.0 cannot hold in an attribute .., place the first such row"
abbrev pub unheld_value : ℕ
unheld_value = 22

-- order 8: "23 text longer than lent"
abbrev pub short_text : ℕ
short_text = 23

-- order 13: "24 not in the grammar"
abbrev pub no_pattern : ℕ
no_pattern = 24

-- order 13: "25 the bytes `\p`, `\P` or `-[` anywhere or more than 32 bytes `(`, escaped ones too"
abbrev pub pattern_aside : ℕ
pattern_aside = 25

-- the number of a refusal
abbrev pub refusal_number : Refusal → ℕ
refusal_number Refusal.BadLength = bad_length
refusal_number Refusal.NotGood = not_good
refusal_number Refusal.BadRecord = bad_record
refusal_number Refusal.BadPair = bad_pair
refusal_number Refusal.NotAscii = not_ascii
refusal_number Refusal.NoTagOpen = no_tag_open
refusal_number Refusal.TooManyOpen = too_many_open
refusal_number Refusal.TooManyEvents = too_many_events
refusal_number Refusal.MissingAttribute = missing_attribute
refusal_number Refusal.InvalidAttributeValue = invalid_attribute_value
refusal_number Refusal.NoRoom = no_room
refusal_number Refusal.NoRoot = no_root
refusal_number Refusal.UnknownBase = unknown_base
refusal_number Refusal.ShortScratch = short_scratch
refusal_number Refusal.NoRoomInGraph = no_room_in_graph
refusal_number Refusal.BadLabel = bad_label
refusal_number Refusal.Malformed = malformed
refusal_number Refusal.Doctype = doctype
refusal_number Refusal.ShortMarks = short_marks
refusal_number Refusal.RepeatedName = repeated_name
refusal_number Refusal.GraphForm = not_in_form
refusal_number Refusal.NoValue = unheld_value
refusal_number Refusal.TextRoom = short_text
refusal_number Refusal.NoPattern = no_pattern
refusal_number Refusal.PatternAside = pattern_aside
