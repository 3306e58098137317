-- Good sheets at the borders, by computation. "A sheet is good if it has this form, .." Nothing more is asked than the sentences say.
use Rattle.std.specs.Prelude.{◌≡◌, refl, [], ◌∷◌}
use Rattle.sheet.specs.Rows.{Sheet}
use Rattle.xsd_types.specs.Examples.Sheets.{line, no_namespace, filled_sheet}
use Rattle.xsd_types.specs.Examples.Judging.{verdict, fine, judged}

-- ---- the form

-- an empty namespace and no room to spare
two-rows : verdict (filled_sheet 20 0 (line 0 2 0 0 0 0 0 0 0 0 ∷ no_namespace ∷ []) "") ≡ fine
unfolding judged
two-rows = refl

-- "1 target namespace (always row 1)"
namespace : verdict (filled_sheet 20 2 (line 0 2 2 0 0 1 1 0 0 0 ∷ line 1 0 2 0 0 0 0 0 0 0 ∷ []) "ns") ≡ fine
unfolding judged
namespace = refl

-- every finished tag behind its head: facets behind 3; its base is no built-in type, so the count is 1
facets :
    verdict (filled_sheet 110 8 (line 0 11 8 0 0 1 0 0 0 0 ∷ line 1 0 0 0 0 0 0 1 0 0 ∷ line 3 0 1 1 1 0 0 0 0 0 ∷ line 4 2 1 0 0 0 0 0 0 0
    ∷ line 5 3 1 0 0 0 0 0 0 0 ∷ line 6 0 0 0 0 0 0 5 6 0 ∷ line 7 0 0 0 0 0 0 4294967295 4294967295 0 ∷ line 8 4 2 0 0 0 0 0 0 0
    ∷ line 9 6 2 0 0 0 0 0 0 0 ∷ line 10 0 0 0 0 0 0 18 0 0 ∷ line 11 0 0 0 0 0 0 5 0 0 ∷ []) "SBvp1020")
    ≡ fine
unfolding judged
facets = refl

-- 12: 17, 18; 13: 19; 14: 20; 15; and 2 without any
heads :
    verdict (filled_sheet 120 16 (line 0 12 16 0 0 1 0 0 0 0 ∷ no_namespace ∷ line 12 0 1 0 0 0 0 0 0 0 ∷ line 17 1 1 2 1 0 0 7 3 0
    ∷ line 18 3 1 4 1 0 0 9 0 0 ∷ line 13 5 1 0 0 0 0 0 0 0 ∷ line 19 6 1 7 1 0 0 0 0 0 ∷ line 14 8 1 9 1 0 0 0 0 0
    ∷ line 20 10 1 11 1 0 0 1 0 0 ∷ line 20 12 1 13 1 0 0 0 0 0 ∷ line 2 14 1 15 1 0 0 0 0 0
    ∷ line 15 16 0 0 0 0 0 0 0 0 ∷ []) "QatbtCvtVBxtytDT")
    ≡ fine
unfolding judged
heads = refl

-- "each (an empty one too) starting at the end of the one before": an `any` with an empty namespace (S2)
any-empty-namespace : verdict (filled_sheet 30 1 (line 0 3 1 1 0 1 0 1 0 0 ∷ no_namespace ∷ line 15 0 1 1 0 0 0 1 0 0 ∷ []) "A") ≡ fine
unfolding judged
any-empty-namespace = refl

-- an `any` without one (S2)
any-no-namespace : verdict (filled_sheet 30 1 (line 0 3 1 1 0 1 0 1 0 0 ∷ no_namespace ∷ line 15 0 1 0 0 0 0 0 0 0 ∷ []) "A") ≡ fine
unfolding judged
any-no-namespace = refl

-- empty name and empty type behind a namespace
empty-pairs : verdict (filled_sheet 30 2 (line 0 3 2 1 0 1 0 1 0 0 ∷ line 1 0 2 0 0 0 0 0 0 0 ∷ line 2 2 0 2 0 0 0 0 0 0 ∷ []) "ns") ≡ fine
unfolding judged
empty-pairs = refl

-- "all past the used parts, are zero"
room-to-spare : verdict (filled_sheet 50 9 (line 0 3 2 1 0 1 0 1 0 0 ∷ no_namespace ∷ line 2 0 1 1 1 0 0 0 0 0 ∷ []) "DT") ≡ fine
unfolding judged
room-to-spare = refl

-- order 12: "each used pair by itself holds such text": 127 is one

byte-127-sheet : Sheet
byte-127-sheet = record { rows = (filled_sheet 20 0 (line 0 2 1 0 0 1 0 0 0 0 ∷ line 1 0 1 0 0 0 0 0 0 0 ∷ []) "").rows; names = 127 ∷ [] }

byte-127 : verdict byte-127-sheet ≡ fine
unfolding byte-127-sheet judged
byte-127 = refl

-- so are é and ß, C3 A9 and C3 9F, a character to each pair
accented-sheet : Sheet
accented-sheet =
    record { rows = (filled_sheet 30 0 (line 0 3 4 1 0 1 0 1 0 0 ∷ no_namespace ∷ line 2 0 2 2 2 0 0 0 0 0 ∷ []) "").rows; names = 195 ∷ 169 ∷ 195 ∷ 159 ∷ [] }

accented : verdict accented-sheet ≡ fine
unfolding accented-sheet judged
accented = refl

-- ---- order 5, event numbers

-- with 9 events done and two heads: c 8 and 0
events-8-0 : verdict (filled_sheet 40 3 (line 0 4 3 1 0 1 9 1 0 0 ∷ no_namespace ∷ line 2 0 1 1 1 0 0 0 0 8 ∷ line 12 2 1 0 0 0 0 0 0 0 ∷ []) "DTC") ≡ fine
unfolding judged
events-8-0 = refl

-- nothing is asked of an order among them: c 5 and 2
events-5-2 : verdict (filled_sheet 40 3 (line 0 4 3 1 0 1 9 1 0 0 ∷ no_namespace ∷ line 2 0 1 1 1 0 0 0 0 5 ∷ line 12 2 1 0 0 0 0 0 0 2 ∷ []) "DTC") ≡ fine
unfolding judged
events-5-2 = refl

-- c 5 and 5
events-5-5 : verdict (filled_sheet 40 3 (line 0 4 3 1 0 1 9 1 0 0 ∷ no_namespace ∷ line 2 0 1 1 1 0 0 0 0 5 ∷ line 12 2 1 0 0 0 0 0 0 5 ∷ []) "DTC") ≡ fine
unfolding judged
events-5-5 = refl

-- the open type too, and the largest number that there is
events-open : verdict (filled_sheet 30 1 (line 0 3 1 3 0 1 1000000 2 0 0 ∷ no_namespace ∷ line 16 0 1 0 0 0 0 0 0 999999 ∷ []) "C") ≡ fine
unfolding judged
events-open = refl

-- ---- counters and contexts

-- "events are at most 1,000,000" (S12), "open tags at most 255", also without root seen (S8)
highest-counts : verdict (filled_sheet 20 0 (line 0 2 0 0 0 0 1000000 255 0 0 ∷ no_namespace ∷ []) "") ≡ fine
unfolding judged
highest-counts = refl

-- root seen, context 0 and no events (S6)
root-and-no-events : verdict (filled_sheet 20 0 (line 0 2 0 0 0 1 0 0 0 0 ∷ no_namespace ∷ []) "") ≡ fine
unfolding judged
root-and-no-events = refl

-- "context 1 has an open tag", with no events done (S6)
schema-no-events : verdict (filled_sheet 20 0 (line 0 2 0 1 0 1 0 1 0 0 ∷ no_namespace ∷ []) "") ≡ fine
unfolding judged
schema-no-events = refl

-- context 0 with open tags and a finished type
context-0-open-tags : verdict (filled_sheet 30 1 (line 0 3 1 0 0 1 9 4 0 0 ∷ no_namespace ∷ line 12 0 1 0 0 0 0 0 0 0 ∷ []) "C") ≡ fine
unfolding judged
context-0-open-tags = refl

-- "contexts 2 and 3 have at least nesting + 2": exactly so many
simple-type : verdict (filled_sheet 30 1 (line 0 3 1 2 0 1 0 2 0 0 ∷ no_namespace ∷ line 3 0 1 1 0 0 0 0 0 0 ∷ []) "S") ≡ fine
unfolding judged
simple-type = refl

-- nesting is at most 253 (S7)
simple-type-deep : verdict (filled_sheet 30 1 (line 0 3 1 2 253 1 0 255 0 0 ∷ no_namespace ∷ line 3 0 1 1 0 0 0 0 0 0 ∷ []) "S") ≡ fine
unfolding judged
simple-type-deep = refl

-- more open tags than nesting + 2
simple-type-more-tags : verdict (filled_sheet 30 1 (line 0 3 1 2 1 1 0 200 0 0 ∷ no_namespace ∷ line 3 0 1 1 0 0 0 0 0 0 ∷ []) "S") ≡ fine
unfolding judged
simple-type-more-tags = refl

-- ---- order 3: "a good sheet has one of the two there"

-- cleared with choice 1, and with root seen
standard-two-rows : verdict (filled_sheet 20 0 (line 0 2 0 0 0 0 0 0 0 1 ∷ no_namespace ∷ []) "") ≡ fine
unfolding judged
standard-two-rows = refl

-- "a good sheet in context 1 has open tags of at least nesting + 1, and any nesting"
standard-direct : verdict (filled_sheet 20 0 (line 0 2 0 1 0 1 0 1 0 1 ∷ no_namespace ∷ []) "") ≡ fine
unfolding judged
standard-direct = refl

standard-nested : verdict (filled_sheet 20 0 (line 0 2 0 1 3 1 0 4 0 1 ∷ no_namespace ∷ []) "") ≡ fine
unfolding judged
standard-nested = refl

standard-deepest : verdict (filled_sheet 20 0 (line 0 2 0 1 254 1 0 255 0 1 ∷ no_namespace ∷ []) "") ≡ fine
unfolding judged
standard-deepest = refl

standard-more-tags : verdict (filled_sheet 20 0 (line 0 2 0 1 0 1 0 255 0 1 ∷ no_namespace ∷ []) "") ≡ fine
unfolding judged
standard-more-tags = refl

-- "with 0, nesting there stays 0", with any open tags
original-more-tags : verdict (filled_sheet 20 0 (line 0 2 0 1 0 1 0 255 0 0 ∷ no_namespace ∷ []) "") ≡ fine
unfolding judged
original-more-tags = refl

-- in context 2
standard-simple-type : verdict (filled_sheet 30 1 (line 0 3 1 2 0 1 0 2 0 1 ∷ no_namespace ∷ line 3 0 1 1 0 0 0 0 0 0 ∷ []) "S") ≡ fine
unfolding judged
standard-simple-type = refl

-- ---- the open type

-- "3 in context 2", with its facets last
open-facet : verdict (filled_sheet 40 2 (line 0 4 2 2 1 1 5 3 0 0 ∷ no_namespace ∷ line 3 0 1 1 0 0 0 0 0 0 ∷ line 4 1 1 0 0 0 0 0 0 0 ∷ []) "Sv") ≡ fine
unfolding judged
open-facet = refl

-- "12 to 16 in 3": 12 with a child
open-12 : verdict (filled_sheet 40 3 (line 0 4 3 3 1 1 5 3 0 0 ∷ no_namespace ∷ line 12 0 1 0 0 0 0 0 0 0 ∷ line 17 1 1 2 1 0 0 1 1 0 ∷ []) "Cet") ≡ fine
unfolding judged
open-12 = refl

-- 13
open-13 : verdict (filled_sheet 30 1 (line 0 3 1 3 1 1 5 3 0 0 ∷ no_namespace ∷ line 13 0 1 0 0 0 0 0 0 0 ∷ []) "C") ≡ fine
unfolding judged
open-13 = refl

-- 15
open-15 : verdict (filled_sheet 30 1 (line 0 3 1 3 1 1 5 3 0 0 ∷ no_namespace ∷ line 15 0 1 0 0 0 0 0 0 0 ∷ []) "C") ≡ fine
unfolding judged
open-15 = refl

-- "16 no content yet (name; only while open)" (S4)
open-16 : verdict (filled_sheet 30 1 (line 0 3 1 3 0 1 2 2 0 0 ∷ no_namespace ∷ line 16 0 1 0 0 0 0 0 0 0 ∷ []) "C") ≡ fine
unfolding judged
open-16 = refl

-- an open 16 behind an element
open-16-last : verdict (filled_sheet 40 3 (line 0 4 3 3 0 1 3 2 0 0 ∷ no_namespace ∷ line 2 0 1 1 1 0 0 0 0 0 ∷ line 16 2 1 0 0 0 0 0 0 0 ∷ []) "DTC") ≡ fine
unfolding judged
open-16-last = refl

-- "the extension flag is 1 only with an open head 14"
open-14-flag-1 :
    verdict (filled_sheet 40 4 (line 0 4 4 3 2 1 4 4 1 0 ∷ no_namespace ∷ line 14 0 1 1 1 0 0 0 0 0 ∷ line 20 2 1 3 1 0 0 1 0 0 ∷ []) "VBxt")
    ≡ fine
unfolding judged
open-14-flag-1 = refl

-- an open 14 with base, attributes and flag 0 (S6)
open-14-flag-0 :
    verdict (filled_sheet 40 4 (line 0 4 4 3 0 1 0 2 0 0 ∷ no_namespace ∷ line 14 0 1 1 1 0 0 0 0 0 ∷ line 20 2 1 3 1 0 0 0 0 0 ∷ []) "VBxt")
    ≡ fine
unfolding judged
open-14-flag-0 = refl

-- "In contexts 0 and 1 any heads but 16" (S5): a finished 14 last, in context 1
last-14-in-1 : verdict (filled_sheet 30 2 (line 0 3 2 1 0 1 5 1 0 0 ∷ no_namespace ∷ line 14 0 1 1 1 0 0 0 0 0 ∷ []) "VB") ≡ fine
unfolding judged
last-14-in-1 = refl
