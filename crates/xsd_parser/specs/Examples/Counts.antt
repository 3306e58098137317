-- Reading by computation: the numbers 6, 7 and 8, and the order of refusals.
use Rattle.std.specs.Prelude.{ℕ, ◌≡◌, refl, [], ◌∷◌}
use Rattle.sheet.specs.Rows.{Sheet}
use Rattle.xsd_parser.specs.Read.{read}
use Rattle.xsd_types.specs.Examples.Sheets.{line, no_namespace, filled_sheet, blank}
use Rattle.xsd_parser.specs.Examples.Tapes.{start, empty, close, value_attribute, simple_type, reads, read_gives, taped}

-- a sheet without a root, with so many events done and tags open
at : ℕ → ℕ → Sheet
at events open-tags = filled_sheet 20 0 (line 0 2 0 0 0 0 events open-tags 0 0 ∷ no_namespace ∷ []) ""

-- ---- 6: "close with no tag open"

-- at once
close-at-once : reads (blank 20 0) (close ∷ []) ≡ read_gives 6 0 (blank 20 0)
unfolding taped
close-at-once = refl

-- after the last close
close-after-close : reads (blank 20 0) (start "a" [] ∷ close ∷ close ∷ []) ≡ read_gives 6 2 (at 2 0)
unfolding at taped
close-after-close = refl

-- an empty tag opens none
close-after-empty : reads (blank 20 0) (empty "a" [] ∷ close ∷ []) ≡ read_gives 6 1 (at 1 0)
unfolding at taped
close-after-empty = refl

-- ---- 7: "start with 255 open"

-- "The 255th open tag passes, the 256th gives 7"
tag-256 : reads (at 5 254) (start "a" [] ∷ start "a" [] ∷ []) ≡ read_gives 7 1 (at 6 255)
unfolding at taped
tag-256 = refl

-- an empty tag opens none
empty-at-255 : reads (at 5 255) (empty "a" [] ∷ []) ≡ read_gives 0 1 (at 6 255)
unfolding at taped
empty-at-255 = refl

-- a close passes too
close-at-255 : reads (at 5 255) (close ∷ []) ≡ read_gives 0 1 (at 6 254)
unfolding at taped
close-at-255 = refl

-- ---- 8: "1,000,000 events done"

-- the event 1,000,000 passes, the next gives 8
event-1000001 : reads (at 999999 0) (empty "a" [] ∷ empty "a" [] ∷ []) ≡ read_gives 8 1 (at 1000000 0)
unfolding at taped
event-1000001 = refl

-- any event: a close too
close-at-million : reads (at 1000000 1) (close ∷ []) ≡ read_gives 8 0 (at 1000000 1)
unfolding at taped
close-at-million = refl

-- ---- "3, 4, 5, 8, then 6 or 7, 9, 10, 11" (E3)

-- 8 before 6
eight-before-six : reads (at 1000000 0) (close ∷ []) ≡ read_gives 8 0 (at 1000000 0)
unfolding at taped
eight-before-six = refl

-- 8 before 7
eight-before-seven : reads (at 1000000 255) (start "a" [] ∷ []) ≡ read_gives 8 0 (at 1000000 255)
unfolding at taped
eight-before-seven = refl

-- 3 before 8
three-before-eight : read (at 1000000 0) [] (0 ∷ 0 ∷ []) ≡ read_gives 3 0 (at 1000000 0)
unfolding at taped
three-before-eight = refl

-- 4 before 8
four-before-eight : read (at 1000000 0) [] (1 ∷ 0 ∷ 0 ∷ 1 ∷ []) ≡ read_gives 4 0 (at 1000000 0)
unfolding at taped
four-before-eight = refl

-- 5 before 8
five-before-eight : read (at 1000000 0) (128 ∷ []) (1 ∷ 0 ∷ 0 ∷ 1 ∷ []) ≡ read_gives 5 0 (at 1000000 0)
unfolding at taped
five-before-eight = refl

-- 3 before 6: a close with an attribute
three-before-six : read (at 1000000 0) [] (3 ∷ 1 ∷ []) ≡ read_gives 3 0 (at 1000000 0)
unfolding at taped
three-before-six = refl

-- 8 before 9
eight-before-nine :
    reads (filled_sheet 20 0 (line 0 2 0 1 0 1 1000000 1 0 0 ∷ no_namespace ∷ []) "") (start "simpleType" [] ∷ [])
    ≡ read_gives 8 0 (filled_sheet 20 0 (line 0 2 0 1 0 1 1000000 1 0 0 ∷ no_namespace ∷ []) "")
unfolding taped
eight-before-nine = refl

-- 7 before 9
seven-before-nine :
    reads (filled_sheet 20 0 (line 0 2 0 1 0 1 5 255 0 0 ∷ no_namespace ∷ []) "") (start "simpleType" [] ∷ [])
    ≡ read_gives 7 0 (filled_sheet 20 0 (line 0 2 0 1 0 1 5 255 0 0 ∷ no_namespace ∷ []) "")
unfolding taped
seven-before-nine = refl

-- 7 before 11
seven-before-eleven :
    reads (filled_sheet 20 0 (line 0 2 0 1 0 1 5 255 0 0 ∷ no_namespace ∷ []) "") (simple_type "S" ∷ [])
    ≡ read_gives 7 0 (filled_sheet 20 0 (line 0 2 0 1 0 1 5 255 0 0 ∷ no_namespace ∷ []) "")
unfolding taped
seven-before-eleven = refl

-- without 255 tags that is 11
eleven-alone :
    reads (filled_sheet 20 0 (line 0 2 0 1 0 1 5 254 0 0 ∷ no_namespace ∷ []) "") (simple_type "S" ∷ [])
    ≡ read_gives 11 0 (filled_sheet 20 0 (line 0 2 0 1 0 1 5 254 0 0 ∷ no_namespace ∷ []) "")
unfolding taped
eleven-alone = refl

-- 9 before 11: there is no room for a type either
nine-before-eleven :
    reads (filled_sheet 20 0 (line 0 2 0 1 0 1 5 1 0 0 ∷ no_namespace ∷ []) "") (start "simpleType" [] ∷ [])
    ≡ read_gives 9 0 (filled_sheet 20 0 (line 0 2 0 1 0 1 5 1 0 0 ∷ no_namespace ∷ []) "")
unfolding taped
nine-before-eleven = refl

-- 7 before 10
seven-before-ten :
    reads (filled_sheet 30 1 (line 0 3 1 3 1 1 5 255 0 0 ∷ no_namespace
    ∷ line 12 0 1 0 0 0 0 0 0 0 ∷ []) "C") (start "element" (("name", "e") ∷ ("type", "t") ∷ ("minOccurs", "x") ∷ []) ∷ [])
    ≡ read_gives 7 0 (filled_sheet 30 1 (line 0 3 1 3 1 1 5 255 0 0 ∷ no_namespace ∷ line 12 0 1 0 0 0 0 0 0 0 ∷ []) "C")
unfolding taped
seven-before-ten = refl

-- 10 before 11: there is no room for the row
ten-before-eleven :
    reads (filled_sheet 30 1 (line 0 3 1 3 1 1 5 3 0 0 ∷ no_namespace
    ∷ line 12 0 1 0 0 0 0 0 0 0 ∷ []) "C") (start "element" (("name", "e") ∷ ("type", "t") ∷ ("minOccurs", "x") ∷ []) ∷ [])
    ≡ read_gives 10 0 (filled_sheet 30 1 (line 0 3 1 3 1 1 5 3 0 0 ∷ no_namespace ∷ line 12 0 1 0 0 0 0 0 0 0 ∷ []) "C")
unfolding taped
ten-before-eleven = refl

-- the same with a facet
ten-before-eleven-facet :
    reads (filled_sheet 30 1 (line 0 3 1 2 1 1 5 3 0 0 ∷ no_namespace ∷ line 3 0 1 1 0 0 0 0 0 0 ∷ []) "S") (empty "totalDigits" (value_attribute "x") ∷ [])
    ≡ read_gives 10 0 (filled_sheet 30 1 (line 0 3 1 2 1 1 5 3 0 0 ∷ no_namespace ∷ line 3 0 1 1 0 0 0 0 0 0 ∷ []) "S")
unfolding taped
ten-before-eleven-facet = refl

-- with a good value it is 11
eleven-facet :
    reads (filled_sheet 30 1 (line 0 3 1 2 1 1 5 3 0 0 ∷ no_namespace ∷ line 3 0 1 1 0 0 0 0 0 0 ∷ []) "S") (empty "totalDigits" (value_attribute "1") ∷ [])
    ≡ read_gives 11 0 (filled_sheet 30 1 (line 0 3 1 2 1 1 5 3 0 0 ∷ no_namespace ∷ line 3 0 1 1 0 0 0 0 0 0 ∷ []) "S")
unfolding taped
eleven-facet = refl
