-- Bad sheets, continued: the order of rows, the pairs, and what stands past the used parts.
use Rattle.std.specs.Prelude.{ℕ, ◌-◌, ◌≡◌, refl, [], ◌∷◌}
use Rattle.sheet.specs.Rows.{Sheet}
use Rattle.xsd_types.specs.Examples.Sheets.{line, no_namespace, filled_sheet}
use Rattle.xsd_types.specs.Examples.Judging.{GoodClause, verdict, bad_by, bad_by_both, judged}

-- ---- "children behind their head (3: facets; 12: 17, 18; 13: 19; 14: 20)"

-- a facet behind no head
loose-facet : verdict (filled_sheet 30 1 (line 0 3 1 0 0 1 0 0 0 0 ∷ no_namespace ∷ line 4 0 1 0 0 0 0 0 0 0 ∷ []) "v") ≡ bad_by GoodClause.order
unfolding judged
loose-facet = refl

-- a facet behind an element
facet-behind-2 :
    verdict (filled_sheet 40 3 (line 0 4 3 0 0 1 0 0 0 0 ∷ no_namespace ∷ line 2 0 1 1 1 0 0 0 0 0 ∷ line 4 2 1 0 0 0 0 0 0 0 ∷ []) "DTv")
    ≡ bad_by GoodClause.order
unfolding judged
facet-behind-2 = refl

-- a facet behind 12
facet-behind-12 :
    verdict (filled_sheet 40 2 (line 0 4 2 0 0 1 0 0 0 0 ∷ no_namespace ∷ line 12 0 1 0 0 0 0 0 0 0 ∷ line 4 1 1 0 0 0 0 0 0 0 ∷ []) "Cv")
    ≡ bad_by GoodClause.order
unfolding judged
facet-behind-12 = refl

-- 17 behind 3
17-behind-3 :
    verdict (filled_sheet 40 4 (line 0 4 4 0 0 1 0 0 0 0 ∷ no_namespace ∷ line 3 0 1 1 1 0 0 0 0 0 ∷ line 17 2 1 3 1 0 0 1 1 0 ∷ []) "SBet")
    ≡ bad_by GoodClause.order
unfolding judged
17-behind-3 = refl

-- 18 behind 13
18-behind-13 :
    verdict (filled_sheet 40 3 (line 0 4 3 0 0 1 0 0 0 0 ∷ no_namespace ∷ line 13 0 1 0 0 0 0 0 0 0 ∷ line 18 1 1 2 1 0 0 1 0 0 ∷ []) "Cet")
    ≡ bad_by GoodClause.order
unfolding judged
18-behind-13 = refl

-- 19 behind 12
19-behind-12 :
    verdict (filled_sheet 40 3 (line 0 4 3 0 0 1 0 0 0 0 ∷ no_namespace ∷ line 12 0 1 0 0 0 0 0 0 0 ∷ line 19 1 1 2 1 0 0 0 0 0 ∷ []) "Cvt")
    ≡ bad_by GoodClause.order
unfolding judged
19-behind-12 = refl

-- 20 behind 12
20-behind-12 :
    verdict (filled_sheet 40 3 (line 0 4 3 0 0 1 0 0 0 0 ∷ no_namespace ∷ line 12 0 1 0 0 0 0 0 0 0 ∷ line 20 1 1 2 1 0 0 0 0 0 ∷ []) "Cxt")
    ≡ bad_by GoodClause.order
unfolding judged
20-behind-12 = refl

-- 17 behind 15
17-behind-15 :
    verdict (filled_sheet 40 3 (line 0 4 3 0 0 1 0 0 0 0 ∷ no_namespace ∷ line 15 0 1 0 0 0 0 0 0 0 ∷ line 17 1 1 2 1 0 0 1 1 0 ∷ []) "Cet")
    ≡ bad_by GoodClause.order
unfolding judged
17-behind-15 = refl

-- 17 behind an open 16 (S4)
17-behind-16 :
    verdict (filled_sheet 40 3 (line 0 4 3 3 1 1 3 3 0 0 ∷ no_namespace ∷ line 16 0 1 0 0 0 0 0 0 0 ∷ line 17 1 1 2 1 0 0 1 1 0 ∷ []) "Cet")
    ≡ bad_by GoodClause.order
unfolding judged
17-behind-16 = refl

-- a head behind 16: "the open type .. last"
head-behind-16 :
    verdict (filled_sheet 40 2 (line 0 4 2 3 0 1 3 2 0 0 ∷ no_namespace ∷ line 16 0 1 0 0 0 0 0 0 0 ∷ line 12 1 1 0 0 0 0 0 0 0 ∷ []) "CD")
    ≡ bad_by GoodClause.order
unfolding judged
head-behind-16 = refl

-- row 1 again
tag-1-again : verdict (filled_sheet 30 0 (line 0 3 0 0 0 1 0 0 0 0 ∷ no_namespace ∷ no_namespace ∷ []) "") ≡ bad_by_both GoodClause.numbers GoodClause.order
unfolding judged
tag-1-again = refl

-- ---- "Used pairs, read in row order, cover the names from 0"

-- a gap (the names have a byte more)
gap : verdict (filled_sheet 30 3 (line 0 3 3 0 0 1 0 0 0 0 ∷ no_namespace ∷ line 2 0 1 2 1 0 0 0 0 0 ∷ []) "DxT") ≡ bad_by_both GoodClause.pairs GoodClause.names_used
unfolding judged
gap = refl

-- an overlap
overlap : verdict (filled_sheet 30 2 (line 0 3 2 0 0 1 0 0 0 0 ∷ no_namespace ∷ line 2 0 1 0 1 0 0 0 0 0 ∷ []) "DT") ≡ bad_by GoodClause.pairs
unfolding judged
overlap = refl

-- the wrong order
pairs-swapped : verdict (filled_sheet 30 2 (line 0 3 2 0 0 1 0 0 0 0 ∷ no_namespace ∷ line 2 1 1 0 1 0 0 0 0 0 ∷ []) "DT") ≡ bad_by GoodClause.pairs
unfolding judged
pairs-swapped = refl

-- an empty pair at 0 behind a name (S2)
empty-pair-at-0 : verdict (filled_sheet 30 2 (line 0 3 2 0 0 1 0 0 0 0 ∷ no_namespace ∷ line 2 0 2 0 0 0 0 0 0 0 ∷ []) "DT") ≡ bad_by GoodClause.pairs
unfolding judged
empty-pair-at-0 = refl

-- "an unused pair is 0 0" (S2)
unused-pair : verdict (filled_sheet 30 1 (line 0 3 1 0 0 1 0 0 0 0 ∷ no_namespace ∷ line 15 0 1 1 0 0 0 0 0 0 ∷ []) "A") ≡ bad_by GoodClause.pairs
unfolding judged
unused-pair = refl

-- the third pair of 2
third-pair : verdict (filled_sheet 30 2 (line 0 3 2 0 0 1 0 0 0 0 ∷ no_namespace ∷ line 2 0 1 1 1 2 0 0 0 0 ∷ []) "DT") ≡ bad_by GoodClause.pairs
unfolding judged
third-pair = refl

-- a pair of 6
pair-of-6 :
    verdict (filled_sheet 40 2 (line 0 4 2 0 0 1 0 0 0 0 ∷ no_namespace ∷ line 3 0 1 1 1 0 0 0 0 0 ∷ line 6 2 0 0 0 0 0 1 0 0 ∷ []) "SB")
    ≡ bad_by GoodClause.pairs
unfolding judged
pair-of-6 = refl

-- names used above what the pairs cover (S3): the names are zero there
names-not-covered : verdict (filled_sheet 30 3 (line 0 3 3 0 0 1 0 0 0 0 ∷ no_namespace ∷ line 2 0 1 1 1 0 0 0 0 0 ∷ []) "DT") ≡ bad_by GoodClause.names_used
unfolding judged
names-not-covered = refl

-- names used below it: the byte left out is 0
names-one-less : verdict (filled_sheet 30 2 (line 0 3 1 0 0 1 0 0 0 0 ∷ no_namespace ∷ line 2 0 1 1 1 0 0 0 0 0 ∷ []) "D") ≡ bad_by GoodClause.names_used
unfolding judged
names-one-less = refl

-- ---- "and all past the used parts, are zero"; order 12: "each used pair by itself holds such text"

-- rows
rows_behind :
    verdict (filled_sheet 40 2 (line 0 3 2 0 0 1 0 0 0 0 ∷ no_namespace ∷ line 2 0 1 1 1 0 0 0 0 0 ∷ line 0 0 0 0 0 0 0 0 0 1 ∷ []) "DT")
    ≡ bad_by GoodClause.zeros
unfolding judged
rows_behind = refl

-- names
names-behind : verdict (filled_sheet 30 3 (line 0 3 2 0 0 1 0 0 0 0 ∷ no_namespace ∷ line 2 0 1 1 1 0 0 0 0 0 ∷ []) "DTx") ≡ bad_by GoodClause.zeros
unfolding judged
names-behind = refl

byte-128-sheet : Sheet
byte-128-sheet = record { rows = (filled_sheet 20 0 (line 0 2 1 0 0 1 0 0 0 0 ∷ line 1 0 1 0 0 0 0 0 0 0 ∷ []) "").rows; names = 128 ∷ [] }

-- byte 128 (127 is in GoodSheets)
byte-128 : verdict byte-128-sheet ≡ bad_by GoodClause.names
unfolding byte-128-sheet judged
byte-128 = refl

-- the names as a whole are a text, é and ß, but the first pair ends in the middle of é
cut_sheet : ℕ → Sheet
cut_sheet k =
    record { rows = (filled_sheet 30 0 (line 0 3 4 1 0 1 0 1 0 0 ∷ no_namespace ∷ line 2 0 k k (4 - k) 0 0 0 0 0 ∷ []) "").rows; names = 195 ∷ 169 ∷ 195 ∷ 159 ∷ [] }

shared-character : verdict (cut_sheet 1) ≡ bad_by GoodClause.names
unfolding cut_sheet judged
shared-character = refl

shared-second : verdict (cut_sheet 3) ≡ bad_by GoodClause.names
unfolding cut_sheet judged
shared-second = refl

-- U+039C is a graph's alone
graph-character_sheet : Sheet
graph-character_sheet = record { rows = (filled_sheet 20 0 (line 0 2 2 0 0 1 0 0 0 0 ∷ line 1 0 2 0 0 0 0 0 0 0 ∷ []) "").rows; names = 206 ∷ 156 ∷ [] }

graph-character : verdict graph-character_sheet ≡ bad_by GoodClause.names
unfolding graph-character_sheet judged
graph-character = refl
