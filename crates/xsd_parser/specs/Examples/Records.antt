-- Reading by computation: the numbers 3, 4 and 5, on the text "schema".
use Rattle.std.specs.Prelude.{◌≡◌, refl, [], ◌∷◌, ◌++◌, replicate}
use Rattle.text.specs.Text.{bytes}
use Rattle.xsd_parser.specs.Read.{read}
use Rattle.xsd_types.specs.Examples.Sheets.{line, no_namespace, filled_sheet, blank}
use Rattle.xsd_parser.specs.Examples.Tapes.{read_gives, taped}

-- ---- 3: "kind not 1 to 3, record cut short, over 32 attributes, a close with any"

-- kind 0 behind a `schema`: the sheet holds the state after the event before
kind_0 :
    read (blank 20 0) (bytes "schema") (1 ∷ 0 ∷ 0 ∷ 6 ∷ 0 ∷ 0 ∷ 0 ∷ 6 ∷ [])
    ≡ read_gives 3 1 (filled_sheet 20 0 (line 0 2 0 1 0 1 1 1 0 0 ∷ no_namespace ∷ []) "")
unfolding taped
kind_0 = refl

-- kind 4
kind-4 : read (blank 20 0) (bytes "schema") (4 ∷ 0 ∷ 0 ∷ 6 ∷ []) ≡ read_gives 3 0 (blank 20 0)
unfolding taped
kind-4 = refl

-- no event behind a refused one is read: "drops the rest of the piece"
rest-dropped : read (blank 20 0) (bytes "schema") (0 ∷ 0 ∷ 1 ∷ 0 ∷ 0 ∷ 6 ∷ []) ≡ read_gives 3 0 (blank 20 0)
unfolding taped
rest-dropped = refl

-- "record cut short": one number left (T6)
one_number : read (blank 20 0) (bytes "schema") (1 ∷ 0 ∷ 0 ∷ 6 ∷ 3 ∷ []) ≡ read_gives 3 1 (filled_sheet 20 0 (line 0 2 0 1 0 1 1 1 0 0 ∷ no_namespace ∷ []) "")
unfolding taped
one_number = refl

-- no tag name
cut-0 : read (blank 20 0) (bytes "schema") (1 ∷ 0 ∷ []) ≡ read_gives 3 0 (blank 20 0)
unfolding taped
cut-0 = refl

-- an offset without its length
cut-1 : read (blank 20 0) (bytes "schema") (1 ∷ 0 ∷ 0 ∷ []) ≡ read_gives 3 0 (blank 20 0)
unfolding taped
cut-1 = refl

-- a key without its value
cut-key : read (blank 20 0) (bytes "schema") (2 ∷ 1 ∷ 0 ∷ 6 ∷ 6 ∷ 0 ∷ []) ≡ read_gives 3 0 (blank 20 0)
unfolding taped
cut-key = refl

-- a value without its length
cut-value : read (blank 20 0) (bytes "schema") (2 ∷ 1 ∷ 0 ∷ 6 ∷ 6 ∷ 0 ∷ 6 ∷ []) ≡ read_gives 3 0 (blank 20 0)
unfolding taped
cut-value = refl

-- "33 give 3": all pairs are there
attributes-33 : read (blank 20 0) [] (2 ∷ 33 ∷ replicate 134 0) ≡ read_gives 3 0 (blank 20 0)
unfolding taped
attributes-33 = refl

-- "32 attributes pass"
attributes-32 : read (blank 20 0) [] (2 ∷ 32 ∷ replicate 130 0) ≡ read_gives 0 1 (filled_sheet 20 0 (line 0 2 0 0 0 0 1 0 0 0 ∷ no_namespace ∷ []) "")
unfolding taped
attributes-32 = refl

-- 32 attributes cut short
attributes-32-cut : read (blank 20 0) [] (2 ∷ 32 ∷ replicate 129 0) ≡ read_gives 3 0 (blank 20 0)
unfolding taped
attributes-32-cut = refl

-- "a close with any", with the pairs (T5)
close-with-pairs :
    read (blank 20 0) (bytes "schema") (1 ∷ 0 ∷ 0 ∷ 6 ∷ 3 ∷ 1 ∷ 0 ∷ 0 ∷ 0 ∷ 0 ∷ 0 ∷ 0 ∷ [])
    ≡ read_gives 3 1 (filled_sheet 20 0 (line 0 2 0 1 0 1 1 1 0 0 ∷ no_namespace ∷ []) "")
unfolding taped
close-with-pairs = refl

-- and without them
close-with-one :
    read (blank 20 0) (bytes "schema") (1 ∷ 0 ∷ 0 ∷ 6 ∷ 3 ∷ 1 ∷ [])
    ≡ read_gives 3 1 (filled_sheet 20 0 (line 0 2 0 1 0 1 1 1 0 0 ∷ no_namespace ∷ []) "")
unfolding taped
close-with-one = refl

-- ---- 4: "pair outside the text or out of order"

-- outside
outside : read (blank 20 0) (bytes "schema") (1 ∷ 0 ∷ 0 ∷ 7 ∷ []) ≡ read_gives 4 0 (blank 20 0)
unfolding taped
outside = refl

-- offset and length inside, their sum outside
outside-by-sum : read (blank 20 0) (bytes "schema") (1 ∷ 0 ∷ 3 ∷ 4 ∷ []) ≡ read_gives 4 0 (blank 20 0)
unfolding taped
outside-by-sum = refl

-- an empty pair at the text's length is inside (T2)
at-the-end : read (blank 20 0) (bytes "schema") (1 ∷ 0 ∷ 6 ∷ 0 ∷ []) ≡ read_gives 0 1 (filled_sheet 20 0 (line 0 2 0 0 0 0 1 1 0 0 ∷ no_namespace ∷ []) "")
unfolding taped
at-the-end = refl

-- one past it is not
past_the_end : read (blank 20 0) (bytes "schema") (1 ∷ 0 ∷ 7 ∷ 0 ∷ []) ≡ read_gives 4 0 (blank 20 0)
unfolding taped
past_the_end = refl

-- the sums are of natural numbers (T2): 4294967295 + 1
sum-high-offset : read (blank 20 0) (bytes "schema") (1 ∷ 0 ∷ 4294967295 ∷ 1 ∷ []) ≡ read_gives 4 0 (blank 20 0)
unfolding taped
sum-high-offset = refl

-- 1 + 4294967295
sum-high-length : read (blank 20 0) (bytes "schema") (1 ∷ 0 ∷ 1 ∷ 4294967295 ∷ []) ≡ read_gives 4 0 (blank 20 0)
unfolding taped
sum-high-length = refl

-- both
sum_both : read (blank 20 0) (bytes "schema") (1 ∷ 0 ∷ 4294967295 ∷ 4294967295 ∷ []) ≡ read_gives 4 0 (blank 20 0)
unfolding taped
sum_both = refl

-- "each pair starts at or after the end of the one before": at it
touching :
    read (blank 20 0) (bytes "schema") (2 ∷ 1 ∷ 0 ∷ 6 ∷ 6 ∷ 0 ∷ 6 ∷ 0 ∷ [])
    ≡ read_gives 0 1 (filled_sheet 20 0 (line 0 2 0 0 0 1 1 0 0 0 ∷ no_namespace ∷ []) "")
unfolding taped
touching = refl

-- before it
overlapping : read (blank 20 0) (bytes "schema") (2 ∷ 1 ∷ 0 ∷ 6 ∷ 5 ∷ 1 ∷ 6 ∷ 0 ∷ []) ≡ read_gives 4 0 (blank 20 0)
unfolding taped
overlapping = refl

-- an empty pair before it
empty-before : read (blank 20 0) (bytes "schema") (2 ∷ 1 ∷ 0 ∷ 6 ∷ 5 ∷ 0 ∷ 6 ∷ 0 ∷ []) ≡ read_gives 4 0 (blank 20 0)
unfolding taped
empty-before = refl

-- before an empty pair
before-an-empty : read (blank 20 0) (bytes "schema") (2 ∷ 1 ∷ 6 ∷ 0 ∷ 0 ∷ 6 ∷ 6 ∷ 0 ∷ []) ≡ read_gives 4 0 (blank 20 0)
unfolding taped
before-an-empty = refl

-- "Within one event": another event may go back over the same text (T3)
two-events :
    read (blank 20 0) (bytes "schema") (2 ∷ 0 ∷ 3 ∷ 3 ∷ 2 ∷ 0 ∷ 0 ∷ 6 ∷ [])
    ≡ read_gives 0 2 (filled_sheet 20 0 (line 0 2 0 0 0 1 2 0 0 0 ∷ no_namespace ∷ []) "")
unfolding taped
two-events = refl

-- ---- 5: a byte above 127 under a pair that is of no character, and, by order 12, one "of a character cut by an end of its pair"

-- under a tag name
high-tag : read (blank 20 0) (200 ∷ bytes "schema") (1 ∷ 0 ∷ 0 ∷ 7 ∷ []) ≡ read_gives 5 0 (blank 20 0)
unfolding taped
high-tag = refl

-- under no pair (T4)
high-uncovered :
    read (blank 20 0) (200 ∷ bytes "schema") (1 ∷ 0 ∷ 1 ∷ 6 ∷ [])
    ≡ read_gives 0 1 (filled_sheet 20 0 (line 0 2 0 1 0 1 1 1 0 0 ∷ no_namespace ∷ []) "")
unfolding taped
high-uncovered = refl

-- 128 under a value that no lookup reads (T4)
high_value : read (blank 20 0) (bytes "ak" ++ 128 ∷ []) (2 ∷ 1 ∷ 0 ∷ 1 ∷ 1 ∷ 1 ∷ 2 ∷ 1 ∷ []) ≡ read_gives 5 0 (blank 20 0)
unfolding taped
high_value = refl

-- 127 passes
byte-127 :
    read (blank 20 0) (bytes "ak" ++ 127 ∷ []) (2 ∷ 1 ∷ 0 ∷ 1 ∷ 1 ∷ 1 ∷ 2 ∷ 1 ∷ [])
    ≡ read_gives 0 1 (filled_sheet 20 0 (line 0 2 0 0 0 0 1 0 0 0 ∷ no_namespace ∷ []) "")
unfolding taped
byte-127 = refl

-- order 12: é, C3 A9, under a value that no lookup reads
accented :
    read (blank 20 0) (bytes "ak" ++ 195 ∷ 169 ∷ []) (2 ∷ 1 ∷ 0 ∷ 1 ∷ 1 ∷ 1 ∷ 2 ∷ 2 ∷ [])
    ≡ read_gives 0 1 (filled_sheet 20 0 (line 0 2 0 0 0 0 1 0 0 0 ∷ no_namespace ∷ []) "")
unfolding taped
accented = refl

-- its lead alone, its tail alone
lead-alone : read (blank 20 0) (bytes "ak" ++ 195 ∷ 169 ∷ []) (2 ∷ 1 ∷ 0 ∷ 1 ∷ 1 ∷ 1 ∷ 2 ∷ 1 ∷ []) ≡ read_gives 5 0 (blank 20 0)
unfolding taped
lead-alone = refl

tail-alone : read (blank 20 0) (bytes "ak" ++ 195 ∷ 169 ∷ []) (2 ∷ 1 ∷ 0 ∷ 1 ∷ 1 ∷ 1 ∷ 3 ∷ 1 ∷ []) ≡ read_gives 5 0 (blank 20 0)
unfolding taped
tail-alone = refl

-- key and value share it
shared-character : read (blank 20 0) (bytes "a" ++ 195 ∷ 169 ∷ []) (2 ∷ 1 ∷ 0 ∷ 1 ∷ 1 ∷ 1 ∷ 2 ∷ 1 ∷ []) ≡ read_gives 5 0 (blank 20 0)
unfolding taped
shared-character = refl

-- U+039C, which only a graph may hold, and U+0301, a combining accent
graph-character : read (blank 20 0) (bytes "ak" ++ 206 ∷ 156 ∷ []) (2 ∷ 1 ∷ 0 ∷ 1 ∷ 1 ∷ 1 ∷ 2 ∷ 2 ∷ []) ≡ read_gives 5 0 (blank 20 0)
unfolding taped
graph-character = refl

combining-accent : read (blank 20 0) (bytes "ake" ++ 204 ∷ 129 ∷ []) (2 ∷ 1 ∷ 0 ∷ 1 ∷ 1 ∷ 1 ∷ 2 ∷ 3 ∷ []) ≡ read_gives 5 0 (blank 20 0)
unfolding taped
combining-accent = refl

-- control bytes and `<` pass (T8)
control-bytes :
    read (blank 20 0) (0 ∷ 10 ∷ 60 ∷ []) (2 ∷ 1 ∷ 0 ∷ 1 ∷ 1 ∷ 1 ∷ 2 ∷ 1 ∷ [])
    ≡ read_gives 0 1 (filled_sheet 20 0 (line 0 2 0 0 0 0 1 0 0 0 ∷ no_namespace ∷ []) "")
unfolding taped
control-bytes = refl

-- under the second tag
high-second :
    read (blank 20 0) (200 ∷ bytes "schema") (1 ∷ 0 ∷ 1 ∷ 6 ∷ 2 ∷ 0 ∷ 0 ∷ 1 ∷ [])
    ≡ read_gives 5 1 (filled_sheet 20 0 (line 0 2 0 1 0 1 1 1 0 0 ∷ no_namespace ∷ []) "")
unfolding taped
high-second = refl

-- ---- "event by event 3, 4, 5": each for the whole record (T1)

-- a high byte under the first pair, the third out of order
four-before-five : read (blank 20 0) (200 ∷ bytes "abc") (2 ∷ 1 ∷ 0 ∷ 1 ∷ 2 ∷ 1 ∷ 1 ∷ 1 ∷ []) ≡ read_gives 4 0 (blank 20 0)
unfolding taped
four-before-five = refl

-- a cut character under the first pair, the third out of order
four-before-cut : read (blank 20 0) (195 ∷ bytes "abc") (2 ∷ 1 ∷ 0 ∷ 1 ∷ 2 ∷ 1 ∷ 1 ∷ 1 ∷ []) ≡ read_gives 4 0 (blank 20 0)
unfolding taped
four-before-cut = refl

-- a pair outside, the record cut short
three-before-four : read (blank 20 0) (bytes "schema") (2 ∷ 1 ∷ 9 ∷ 9 ∷ 9 ∷ 9 ∷ []) ≡ read_gives 3 0 (blank 20 0)
unfolding taped
three-before-four = refl

-- a high byte, the record cut short
three-before-five : read (blank 20 0) (200 ∷ bytes "schema") (2 ∷ 1 ∷ 0 ∷ 1 ∷ []) ≡ read_gives 3 0 (blank 20 0)
unfolding taped
three-before-five = refl
