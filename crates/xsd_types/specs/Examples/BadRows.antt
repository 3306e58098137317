-- Each sentence of "A sheet is good if" broken once, by computation; `bad_by` says that no other is. First row 0, row 1 and the numbers of rows.
use Rattle.std.specs.Prelude.{false, ◌≡◌, refl, [], ◌∷◌}
use Rattle.xsd_types.specs.Count.{good}
use Rattle.xsd_types.specs.Examples.Sheets.{line, no_namespace, filled_sheet}
use Rattle.xsd_types.specs.Examples.Judging.{GoodClause, verdict, bad_by, bad_by_both, judged}

-- ---- row 0: "0, rows used, names used, context, nesting, root seen, events done, open tags, extension flag", and order 3's choice

-- the first number
row0-first : verdict (filled_sheet 20 0 (line 1 2 0 0 0 1 0 0 0 0 ∷ no_namespace ∷ []) "") ≡ bad_by GoodClause.row0
unfolding judged
row0-first = refl

-- context 4
row0-context : verdict (filled_sheet 30 0 (line 0 3 0 4 0 1 0 9 0 0 ∷ no_namespace ∷ line 15 0 0 0 0 0 0 0 0 0 ∷ []) "") ≡ bad_by GoodClause.row0
unfolding judged
row0-context = refl

-- "Flags are 0 or 1": root seen
row0-root : verdict (filled_sheet 20 0 (line 0 2 0 0 0 2 0 0 0 0 ∷ no_namespace ∷ []) "") ≡ bad_by GoodClause.row0
unfolding judged
row0-root = refl

-- the extension flag
row0-flag : verdict (filled_sheet 30 2 (line 0 3 2 3 0 1 0 2 2 0 ∷ no_namespace ∷ line 14 0 1 1 1 0 0 0 0 0 ∷ []) "VB") ≡ bad_by GoodClause.row0
unfolding judged
row0-flag = refl

-- order 3: "a good sheet has one of the two there"
row0-choice : verdict (filled_sheet 20 0 (line 0 2 0 0 0 1 0 0 0 2 ∷ no_namespace ∷ []) "") ≡ bad_by GoodClause.row0
unfolding judged
row0-choice = refl

row0-choice-in-1 : verdict (filled_sheet 20 0 (line 0 2 0 1 0 1 0 1 0 2 ∷ no_namespace ∷ []) "") ≡ bad_by GoodClause.row0
unfolding judged
row0-choice-in-1 = refl

-- ---- the used parts lie in the buffers

-- names used above the names
names-past : verdict (filled_sheet 30 1 (line 0 3 2 1 0 1 0 1 0 0 ∷ no_namespace ∷ line 2 0 1 1 1 0 0 0 0 0 ∷ []) "D") ≡ bad_by GoodClause.lent
unfolding judged
names-past = refl

-- rows used above the rows
rows-past : good (filled_sheet 30 2 (line 0 4 2 1 0 1 0 1 0 0 ∷ no_namespace ∷ line 2 0 1 1 1 0 0 0 0 0 ∷ []) "DT") ≡ false
unfolding judged
rows-past = refl

-- rows used below 2: row 1 is always there
one-row : good (filled_sheet 20 0 (line 0 1 0 0 0 1 0 0 0 0 ∷ no_namespace ∷ []) "") ≡ false
unfolding judged
one-row = refl

-- rows used 0
no_rows : good (filled_sheet 20 0 (line 0 0 0 0 0 1 0 0 0 0 ∷ no_namespace ∷ []) "") ≡ false
unfolding judged
no_rows = refl

-- all zero: a sheet that was never cleared
all-zero : good (filled_sheet 20 3 [] "") ≡ false
unfolding judged
all-zero = refl

-- ---- row 1

-- "tag 1 in row 1"
row1-tag : verdict (filled_sheet 20 0 (line 0 2 0 0 0 1 0 0 0 0 ∷ line 0 0 0 0 0 0 0 0 0 0 ∷ []) "") ≡ bad_by GoodClause.row1
unfolding judged
row1-tag = refl

-- b and c of row 1; a is the count
row1-a : verdict (filled_sheet 20 0 (line 0 2 0 0 0 1 0 0 0 0 ∷ line 1 0 0 0 0 0 0 1 0 0 ∷ []) "") ≡ bad_by GoodClause.count
unfolding judged
row1-a = refl

row1-b : verdict (filled_sheet 20 0 (line 0 2 0 0 0 1 0 0 0 0 ∷ line 1 0 0 0 0 0 0 0 1 0 ∷ []) "") ≡ bad_by GoodClause.row1
unfolding judged
row1-b = refl

row1-c : verdict (filled_sheet 20 0 (line 0 2 0 0 0 1 9 0 0 0 ∷ line 1 0 0 0 0 0 0 0 0 1 ∷ []) "") ≡ bad_by GoodClause.row1
unfolding judged
row1-c = refl

-- its second pair is unused
row1-pair : verdict (filled_sheet 20 1 (line 0 2 1 0 0 1 0 0 0 0 ∷ line 1 0 1 1 0 0 0 0 0 0 ∷ []) "n") ≡ bad_by GoodClause.pairs
unfolding judged
row1-pair = refl

-- ---- numbers of the other rows (S10)

-- no such tag: 21, which no head has as a child either
tag-21 : verdict (filled_sheet 30 0 (line 0 3 0 0 0 1 0 0 0 0 ∷ no_namespace ∷ line 21 0 0 0 0 0 0 0 0 0 ∷ []) "") ≡ bad_by_both GoodClause.numbers GoodClause.order
unfolding judged
tag-21 = refl

-- tag 0
tag-0 : verdict (filled_sheet 30 0 (line 0 3 0 0 0 1 0 0 0 0 ∷ no_namespace ∷ line 0 0 0 0 0 0 0 0 0 0 ∷ []) "") ≡ bad_by_both GoodClause.numbers GoodClause.order
unfolding judged
tag-0 = refl

-- a of 2
a-of-2 : verdict (filled_sheet 30 2 (line 0 3 2 0 0 1 0 0 0 0 ∷ no_namespace ∷ line 2 0 1 1 1 0 0 1 0 0 ∷ []) "DT") ≡ bad_by GoodClause.numbers
unfolding judged
a-of-2 = refl

-- a of 3
a-of-3 : verdict (filled_sheet 30 2 (line 0 3 2 0 0 1 0 0 0 0 ∷ no_namespace ∷ line 3 0 1 1 1 0 0 1 0 0 ∷ []) "SB") ≡ bad_by GoodClause.numbers
unfolding judged
a-of-3 = refl

-- a of 4
a-of-4 :
    verdict (filled_sheet 40 3 (line 0 4 3 0 0 1 0 0 0 0 ∷ no_namespace ∷ line 3 0 1 1 1 0 0 0 0 0 ∷ line 4 2 1 0 0 0 0 1 0 0 ∷ []) "SBv")
    ≡ bad_by GoodClause.numbers
unfolding judged
a-of-4 = refl

-- a of 12
a-of-12 : verdict (filled_sheet 30 1 (line 0 3 1 0 0 1 0 0 0 0 ∷ no_namespace ∷ line 12 0 1 0 0 0 0 1 0 0 ∷ []) "C") ≡ bad_by GoodClause.numbers
unfolding judged
a-of-12 = refl

-- a of 13
a-of-13 : verdict (filled_sheet 30 1 (line 0 3 1 0 0 1 0 0 0 0 ∷ no_namespace ∷ line 13 0 1 0 0 0 0 1 0 0 ∷ []) "C") ≡ bad_by GoodClause.numbers
unfolding judged
a-of-13 = refl

-- a of 14
a-of-14 : verdict (filled_sheet 30 2 (line 0 3 2 0 0 1 0 0 0 0 ∷ no_namespace ∷ line 14 0 1 1 1 0 0 1 0 0 ∷ []) "CB") ≡ bad_by GoodClause.numbers
unfolding judged
a-of-14 = refl

-- a of 19
a-of-19 :
    verdict (filled_sheet 40 3 (line 0 4 3 0 0 1 0 0 0 0 ∷ no_namespace ∷ line 13 0 1 0 0 0 0 0 0 0 ∷ line 19 1 1 2 1 0 0 1 0 0 ∷ []) "Cvt")
    ≡ bad_by GoodClause.numbers
unfolding judged
a-of-19 = refl

-- "Flags are 0 or 1": a of 20
a-of-20 :
    verdict (filled_sheet 40 4 (line 0 4 4 0 0 1 0 0 0 0 ∷ no_namespace ∷ line 14 0 1 1 1 0 0 0 0 0 ∷ line 20 2 1 3 1 0 0 2 0 0 ∷ []) "VBxt")
    ≡ bad_by GoodClause.numbers
unfolding judged
a-of-20 = refl

-- a of 5
a-of-5 :
    verdict (filled_sheet 40 3 (line 0 4 3 0 0 1 0 0 0 0 ∷ no_namespace ∷ line 3 0 1 1 1 0 0 0 0 0 ∷ line 5 2 1 0 0 0 0 1 0 0 ∷ []) "SBv")
    ≡ bad_by GoodClause.numbers
unfolding judged
a-of-5 = refl

-- a of 8
a-of-8 :
    verdict (filled_sheet 40 3 (line 0 4 3 0 0 1 0 0 0 0 ∷ no_namespace ∷ line 3 0 1 1 1 0 0 0 0 0 ∷ line 8 2 1 0 0 0 0 1 0 0 ∷ []) "SBv")
    ≡ bad_by GoodClause.numbers
unfolding judged
a-of-8 = refl

-- a of 9
a-of-9 :
    verdict (filled_sheet 40 3 (line 0 4 3 0 0 1 0 0 0 0 ∷ no_namespace ∷ line 3 0 1 1 1 0 0 0 0 0 ∷ line 9 2 1 0 0 0 0 1 0 0 ∷ []) "SBv")
    ≡ bad_by GoodClause.numbers
unfolding judged
a-of-9 = refl

-- a of an open 16
a-of-16 : verdict (filled_sheet 30 1 (line 0 3 1 3 0 1 2 2 0 0 ∷ no_namespace ∷ line 16 0 1 0 0 0 0 1 0 0 ∷ []) "C") ≡ bad_by GoodClause.numbers
unfolding judged
a-of-16 = refl

-- a of 15 is a flag
a-of-15 : good (filled_sheet 30 1 (line 0 3 1 0 0 1 0 0 0 0 ∷ no_namespace ∷ line 15 0 1 1 0 0 0 2 0 0 ∷ []) "A") ≡ false
unfolding judged
a-of-15 = refl

-- b of 2
b-of-2 : verdict (filled_sheet 30 2 (line 0 3 2 0 0 1 0 0 0 0 ∷ no_namespace ∷ line 2 0 1 1 1 0 0 0 1 0 ∷ []) "DT") ≡ bad_by GoodClause.numbers
unfolding judged
b-of-2 = refl

-- b of 10: a digit facet is one number
b-of-10 :
    verdict (filled_sheet 40 2 (line 0 4 2 0 0 1 0 0 0 0 ∷ no_namespace ∷ line 3 0 1 1 1 0 0 0 0 0 ∷ line 10 0 0 0 0 0 0 1 1 0 ∷ []) "SB")
    ≡ bad_by GoodClause.numbers
unfolding judged
b-of-10 = refl

-- b of 18: an unbounded element has no max
b-of-18 :
    verdict (filled_sheet 40 3 (line 0 4 3 0 0 1 0 0 0 0 ∷ no_namespace ∷ line 12 0 1 0 0 0 0 0 0 0 ∷ line 18 1 1 2 1 0 0 1 1 0 ∷ []) "Cet")
    ≡ bad_by GoodClause.numbers
unfolding judged
b-of-18 = refl

-- b of 20
b-of-20 :
    verdict (filled_sheet 40 4 (line 0 4 4 0 0 1 0 0 0 0 ∷ no_namespace ∷ line 14 0 1 1 1 0 0 0 0 0 ∷ line 20 2 1 3 1 0 0 1 1 0 ∷ []) "VBxt")
    ≡ bad_by GoodClause.numbers
unfolding judged
b-of-20 = refl

-- order 5: "in a good sheet any other c is below events done". With 0 events done: 0 and 0 good (last-14-in-1 and others), 1 and 0 not
c-of-3 : verdict (filled_sheet 30 2 (line 0 3 2 0 0 1 0 0 0 0 ∷ no_namespace ∷ line 3 0 1 1 1 0 0 0 0 1 ∷ []) "SB") ≡ bad_by GoodClause.events
unfolding judged
c-of-3 = refl

-- with 9 events done and two heads: c 9 and 0
c-at-events :
    verdict (filled_sheet 40 3 (line 0 4 3 1 0 1 9 1 0 0 ∷ no_namespace ∷ line 2 0 1 1 1 0 0 0 0 9 ∷ line 12 2 1 0 0 0 0 0 0 0 ∷ []) "DTC")
    ≡ bad_by GoodClause.events
unfolding judged
c-at-events = refl

-- with 9 events done, c of an open 16 above them
c-of-16 : verdict (filled_sheet 30 1 (line 0 3 1 3 0 1 9 2 0 0 ∷ no_namespace ∷ line 16 0 1 0 0 0 0 0 0 10 ∷ []) "C") ≡ bad_by GoodClause.events
unfolding judged
c-of-16 = refl

-- c of a child is unused, whatever the events done: c of 6
c-of-6 :
    verdict (filled_sheet 40 2 (line 0 4 2 0 0 1 0 0 0 0 ∷ no_namespace ∷ line 3 0 1 1 1 0 0 0 0 0 ∷ line 6 0 0 0 0 0 0 1 1 1 ∷ []) "SB")
    ≡ bad_by_both GoodClause.numbers GoodClause.events
unfolding judged
c-of-6 = refl

-- c of 17
c-of-17 :
    verdict (filled_sheet 40 3 (line 0 4 3 0 0 1 9 0 0 0 ∷ no_namespace ∷ line 12 0 1 0 0 0 0 0 0 0 ∷ line 17 1 1 2 1 0 0 1 1 1 ∷ []) "Cet")
    ≡ bad_by GoodClause.numbers
unfolding judged
c-of-17 = refl
