-- Bad sheets, continued: the counters, root seen, nesting, the open type and the extension flag.
use Rattle.std.specs.Prelude.{◌≡◌, refl, [], ◌∷◌}
use Rattle.xsd_types.specs.Examples.Sheets.{line, no_namespace, filled_sheet}
use Rattle.xsd_types.specs.Examples.Judging.{GoodClause, verdict, bad_by, judged}

-- ---- "events are at most 1,000,000, open tags at most 255"

events : verdict (filled_sheet 20 0 (line 0 2 0 0 0 1 1000001 0 0 0 ∷ no_namespace ∷ []) "") ≡ bad_by GoodClause.counts
unfolding judged
events = refl

open-tags : verdict (filled_sheet 20 0 (line 0 2 0 0 0 1 0 256 0 0 ∷ no_namespace ∷ []) "") ≡ bad_by GoodClause.counts
unfolding judged
open-tags = refl

-- ---- "context above 0 has root seen; no root seen means two rows and no names"

context-without-root : verdict (filled_sheet 20 0 (line 0 2 0 1 0 0 1 1 0 0 ∷ no_namespace ∷ []) "") ≡ bad_by GoodClause.root
unfolding judged
context-without-root = refl

row-without-root : verdict (filled_sheet 30 0 (line 0 3 0 0 0 0 1 0 0 0 ∷ no_namespace ∷ line 2 0 0 0 0 0 0 0 0 0 ∷ []) "") ≡ bad_by GoodClause.root
unfolding judged
row-without-root = refl

names-without-root : verdict (filled_sheet 20 2 (line 0 2 2 0 0 0 1 0 0 0 ∷ line 1 0 2 0 0 0 0 0 0 0 ∷ []) "ns") ≡ bad_by GoodClause.root
unfolding judged
names-without-root = refl

-- ---- open tags and nesting

-- "context 1 has an open tag"
schema-no-tag : verdict (filled_sheet 20 0 (line 0 2 0 1 0 1 1 0 0 0 ∷ no_namespace ∷ []) "") ≡ bad_by GoodClause.nesting
unfolding judged
schema-no-tag = refl

-- "contexts 2 and 3 have at least nesting + 2"
simple-type-one-less : verdict (filled_sheet 30 1 (line 0 3 1 2 1 1 5 2 0 0 ∷ no_namespace ∷ line 3 0 1 1 0 0 0 0 0 0 ∷ []) "S") ≡ bad_by GoodClause.nesting
unfolding judged
simple-type-one-less = refl

complex-type-one-less : verdict (filled_sheet 30 1 (line 0 3 1 3 0 1 5 1 0 0 ∷ no_namespace ∷ line 16 0 1 0 0 0 0 0 0 0 ∷ []) "C") ≡ bad_by GoodClause.nesting
unfolding judged
complex-type-one-less = refl

-- nesting 2^32 - 2 and 0 open tags: the sum is of natural numbers
nesting-huge : verdict (filled_sheet 30 1 (line 0 3 1 2 4294967294 1 5 0 0 0 ∷ no_namespace ∷ line 3 0 1 1 0 0 0 0 0 0 ∷ []) "S") ≡ bad_by GoodClause.nesting
unfolding judged
nesting-huge = refl

-- "nesting is 0 in contexts 0 and 1"
nesting-in-0 : verdict (filled_sheet 20 0 (line 0 2 0 0 1 1 5 9 0 0 ∷ no_namespace ∷ []) "") ≡ bad_by GoodClause.nesting
unfolding judged
nesting-in-0 = refl

nesting-in-1 : verdict (filled_sheet 20 0 (line 0 2 0 1 1 1 5 9 0 0 ∷ no_namespace ∷ []) "") ≡ bad_by GoodClause.nesting
unfolding judged
nesting-in-1 = refl

-- order 3: "With choice 1, a good sheet in context 1 has open tags of at least nesting + 1"
standard-one-less : verdict (filled_sheet 20 0 (line 0 2 0 1 1 1 0 1 0 1 ∷ no_namespace ∷ []) "") ≡ bad_by GoodClause.nesting
unfolding judged
standard-one-less = refl

standard-255 : verdict (filled_sheet 20 0 (line 0 2 0 1 255 1 0 255 0 1 ∷ no_namespace ∷ []) "") ≡ bad_by GoodClause.nesting
unfolding judged
standard-255 = refl

-- nesting 2^32 - 1: the sum is of natural numbers
standard-huge : verdict (filled_sheet 20 0 (line 0 2 0 1 4294967295 1 0 0 0 1 ∷ no_namespace ∷ []) "") ≡ bad_by GoodClause.nesting
unfolding judged
standard-huge = refl

standard-huge-255 : verdict (filled_sheet 20 0 (line 0 2 0 1 4294967295 1 0 255 0 1 ∷ no_namespace ∷ []) "") ≡ bad_by GoodClause.nesting
unfolding judged
standard-huge-255 = refl

-- "with 0, nesting there stays 0"
nesting-original : verdict (filled_sheet 20 0 (line 0 2 0 1 3 1 0 4 0 0 ∷ no_namespace ∷ []) "") ≡ bad_by GoodClause.nesting
unfolding judged
nesting-original = refl

-- context 0 is not loosened by choice 1
standard-nesting-in-0 : verdict (filled_sheet 20 0 (line 0 2 0 0 1 1 5 9 0 1 ∷ no_namespace ∷ []) "") ≡ bad_by GoodClause.nesting
unfolding judged
standard-nesting-in-0 = refl

-- contexts 2 and 3 have at least nesting + 2 with choice 1 too
standard-simple-type-one-less : verdict (filled_sheet 30 1 (line 0 3 1 2 1 1 5 2 0 1 ∷ no_namespace ∷ line 3 0 1 1 0 0 0 0 0 0 ∷ []) "S") ≡ bad_by GoodClause.nesting
unfolding judged
standard-simple-type-one-less = refl

-- ---- "the open type (3 in context 2, 12 to 16 in 3) last"

-- no type at all
no-open-type : verdict (filled_sheet 20 0 (line 0 2 0 2 0 1 5 2 0 0 ∷ no_namespace ∷ []) "") ≡ bad_by GoodClause.context
unfolding judged
no-open-type = refl

-- 12 in context 2
12-in-2 : verdict (filled_sheet 30 1 (line 0 3 1 2 0 1 5 2 0 0 ∷ no_namespace ∷ line 12 0 1 0 0 0 0 0 0 0 ∷ []) "C") ≡ bad_by GoodClause.context
unfolding judged
12-in-2 = refl

-- an element behind it (S5)
element-behind-open :
    verdict (filled_sheet 40 3 (line 0 4 3 2 0 1 5 2 0 0 ∷ no_namespace ∷ line 3 0 1 1 0 0 0 0 0 0 ∷ line 2 1 1 2 1 0 0 0 0 0 ∷ []) "SDT")
    ≡ bad_by GoodClause.context
unfolding judged
element-behind-open = refl

-- 3 in context 3
3-in-3 : verdict (filled_sheet 30 1 (line 0 3 1 3 0 1 5 2 0 0 ∷ no_namespace ∷ line 3 0 1 1 0 0 0 0 0 0 ∷ []) "S") ≡ bad_by GoodClause.context
unfolding judged
3-in-3 = refl

-- 2 in context 3
2-in-3 : verdict (filled_sheet 30 2 (line 0 3 2 3 0 1 5 2 0 0 ∷ no_namespace ∷ line 2 0 1 1 1 0 0 0 0 0 ∷ []) "DT") ≡ bad_by GoodClause.context
unfolding judged
2-in-3 = refl

-- 16 "only while open": in context 1 (S4)
16-in-1 : verdict (filled_sheet 30 1 (line 0 3 1 1 0 1 5 1 0 0 ∷ no_namespace ∷ line 16 0 1 0 0 0 0 0 0 0 ∷ []) "C") ≡ bad_by GoodClause.context
unfolding judged
16-in-1 = refl

-- in context 0
16-in-0 : verdict (filled_sheet 30 1 (line 0 3 1 0 0 1 5 1 0 0 ∷ no_namespace ∷ line 16 0 1 0 0 0 0 0 0 0 ∷ []) "C") ≡ bad_by GoodClause.context
unfolding judged
16-in-0 = refl

-- ---- "the extension flag is 1 only with an open head 14" (S9)

-- in context 0
flag-in-0 : verdict (filled_sheet 20 0 (line 0 2 0 0 0 1 5 0 1 0 ∷ no_namespace ∷ []) "") ≡ bad_by GoodClause.extension
unfolding judged
flag-in-0 = refl

-- a finished head 14 in context 1
flag-in-1 : verdict (filled_sheet 30 2 (line 0 3 2 1 0 1 5 1 1 0 ∷ no_namespace ∷ line 14 0 1 1 1 0 0 0 0 0 ∷ []) "VB") ≡ bad_by GoodClause.extension
unfolding judged
flag-in-1 = refl

-- in context 2
flag-in-2 : verdict (filled_sheet 30 1 (line 0 3 1 2 0 1 5 2 1 0 ∷ no_namespace ∷ line 3 0 1 1 0 0 0 0 0 0 ∷ []) "S") ≡ bad_by GoodClause.extension
unfolding judged
flag-in-2 = refl

-- with an open head 12
flag-with-12 : verdict (filled_sheet 30 1 (line 0 3 1 3 0 1 5 2 1 0 ∷ no_namespace ∷ line 12 0 1 0 0 0 0 0 0 0 ∷ []) "C") ≡ bad_by GoodClause.extension
unfolding judged
flag-with-12 = refl

-- with an open head 16
flag-with-16 : verdict (filled_sheet 30 1 (line 0 3 1 3 0 1 5 2 1 0 ∷ no_namespace ∷ line 16 0 1 0 0 0 0 0 0 0 ∷ []) "C") ≡ bad_by GoodClause.extension
unfolding judged
flag-with-16 = refl
