-- What an event does, by computation: complex types, their contents and elements.
use Rattle.std.specs.Prelude.{◌≡◌, refl, [], ◌∷◌}
use Rattle.xsd_types.specs.Examples.Sheets.{line, no_namespace, filled_sheet, blank}
use Rattle.xsd_parser.specs.Examples.Tapes.{start, empty, close, name_attribute, type_attributes, based, schema, complex_type, reads, read_gives, taped}

-- ---- the content

-- "16 no content yet"
no-content :
    reads (blank 60 12) (schema ∷ complex_type "C" ∷ [])
    ≡ read_gives 0 2 (filled_sheet 60 12 (line 0 3 1 3 0 1 2 2 0 0 ∷ no_namespace ∷ line 16 0 1 0 0 0 0 0 0 1 ∷ []) "C")
unfolding taped
no-content = refl

-- "Content still absent at the close becomes 15 with a = 0."
content-absent :
    reads (blank 60 12) (schema ∷ complex_type "C" ∷ close ∷ [])
    ≡ read_gives 0 3 (filled_sheet 60 12 (line 0 3 1 1 0 1 3 1 0 0 ∷ no_namespace ∷ line 15 0 1 0 0 0 0 0 0 1 ∷ []) "C")
unfolding taped
content-absent = refl

-- "start `sequence` .. at 1 replaces the content"
sequence :
    reads (blank 60 12) (schema ∷ complex_type "C" ∷ start "sequence" [] ∷ [])
    ≡ read_gives 0 3 (filled_sheet 60 12 (line 0 3 1 3 1 1 3 3 0 0 ∷ no_namespace ∷ line 12 0 1 0 0 0 0 0 0 1 ∷ []) "C")
unfolding taped
sequence = refl

-- not at 2 (E4): a choice in a sequence, whose elements are the sequence's
choice-in-sequence :
    reads (blank 60 12) (schema ∷ complex_type "C" ∷ start "sequence" [] ∷ start "choice" [] ∷ empty "element" (type_attributes "e" "t") ∷ [])
    ≡ read_gives 0 5 (filled_sheet 60 12 (line 0 4 3 3 2 1 5 4 0 0 ∷ no_namespace ∷ line 12 0 1 0 0 0 0 0 0 1 ∷ line 17 1 1 2 1 0 0 1 1 0 ∷ []) "Cet")
unfolding taped
choice-in-sequence = refl

-- nor inside another tag
sequence-at-2 :
    reads (blank 60 12) (schema ∷ complex_type "C" ∷ start "a" [] ∷ start "sequence" [] ∷ empty "element" (type_attributes "e" "t") ∷ [])
    ≡ read_gives 0 5 (filled_sheet 60 12 (line 0 3 1 3 2 1 5 4 0 0 ∷ no_namespace ∷ line 16 0 1 0 0 0 0 0 0 1 ∷ []) "C")
unfolding taped
sequence-at-2 = refl

-- an empty `sequence`, `choice`, `simpleContent` or `extension` does nothing (E9)
empty-contents :
    reads (blank 60 12) (schema ∷ complex_type "C" ∷ empty "sequence" [] ∷ empty "choice" [] ∷ empty "simpleContent" []
    ∷ empty "extension" (based "b") ∷ [])
    ≡ read_gives 0 6 (filled_sheet 60 12 (line 0 3 1 3 0 1 6 2 0 0 ∷ no_namespace ∷ line 16 0 1 0 0 0 0 0 0 1 ∷ []) "C")
unfolding taped
empty-contents = refl

-- a later content drops the children of the one before
sequence-again :
    reads (blank 60 12) (schema ∷ complex_type "C" ∷ start "sequence" [] ∷ empty "element" (type_attributes "e" "t") ∷ close
    ∷ start "sequence" [] ∷ [])
    ≡ read_gives 0 6 (filled_sheet 60 12 (line 0 3 1 3 1 1 6 3 0 0 ∷ no_namespace ∷ line 12 0 1 0 0 0 0 0 0 1 ∷ []) "C")
unfolding taped
sequence-again = refl

-- ---- elements

-- "start `element` at 2"
element-at-2 :
    reads (blank 60 12) (schema ∷ complex_type "C" ∷ start "sequence" [] ∷ start "element" (type_attributes "e" "t") ∷ [])
    ≡ read_gives 0 4 (filled_sheet 60 12 (line 0 4 3 3 2 1 4 4 0 0 ∷ no_namespace ∷ line 12 0 1 0 0 0 0 0 0 1 ∷ line 17 1 1 2 1 0 0 1 1 0 ∷ []) "Cet")
unfolding taped
element-at-2 = refl

-- not at 3
element-at-3 :
    reads (blank 60 12) (schema ∷ complex_type "C" ∷ start "sequence" [] ∷ start "a" [] ∷ start "element" (type_attributes "e" "t") ∷ [])
    ≡ read_gives 0 5 (filled_sheet 60 12 (line 0 3 1 3 3 1 5 5 0 0 ∷ no_namespace ∷ line 12 0 1 0 0 0 0 0 0 1 ∷ []) "C")
unfolding taped
element-at-3 = refl

-- not at 1
element-at-1 :
    reads (blank 60 12) (schema ∷ complex_type "C" ∷ start "sequence" [] ∷ close ∷ start "element" (type_attributes "e" "t") ∷ [])
    ≡ read_gives 0 5 (filled_sheet 60 12 (line 0 3 1 3 1 1 5 3 0 0 ∷ no_namespace ∷ line 12 0 1 0 0 0 0 0 0 1 ∷ []) "C")
unfolding taped
element-at-1 = refl

-- "empty `element` at any depth", also after the sequence has closed (E5)
empty-element-at-0 :
    reads (blank 60 12) (schema ∷ complex_type "C" ∷ start "sequence" [] ∷ close ∷ empty "element" (type_attributes "e" "t") ∷ [])
    ≡ read_gives 0 5 (filled_sheet 60 12 (line 0 4 3 3 0 1 5 2 0 0 ∷ no_namespace ∷ line 12 0 1 0 0 0 0 0 0 1 ∷ line 17 1 1 2 1 0 0 1 1 0 ∷ []) "Cet")
unfolding taped
empty-element-at-0 = refl

-- and at 4
empty-element-at-4 :
    reads (blank 60 12) (schema ∷ complex_type "C" ∷ start "sequence" [] ∷ start "a" [] ∷ start "a" [] ∷ start "a" []
    ∷ empty "element" (type_attributes "e" "t") ∷ [])
    ≡ read_gives 0 7 (filled_sheet 60 12 (line 0 4 3 3 4 1 7 6 0 0 ∷ no_namespace ∷ line 12 0 1 0 0 0 0 0 0 1 ∷ line 17 1 1 2 1 0 0 1 1 0 ∷ []) "Cet")
unfolding taped
empty-element-at-4 = refl

-- "adds to a sequence or choice": a variant
variant :
    reads (blank 60 12) (schema ∷ complex_type "C" ∷ start "choice" [] ∷ empty "element" (type_attributes "e" "t")
    ∷ empty "element" (type_attributes "f" "u") ∷ [])
    ≡ read_gives 0 5 (filled_sheet 60 12 (line 0 5 5 3 1 1 5 3 0 0 ∷ no_namespace ∷ line 13 0 1 0 0 0 0 0 0 1 ∷ line 19 1 1 2 1 0 0 0 0 0
    ∷ line 19 3 1 4 1 0 0 0 0 0 ∷ []) "Cetfu")
unfolding taped
variant = refl

-- "if name and type are there"
element-no-type :
    reads (blank 60 12) (schema ∷ complex_type "C" ∷ start "choice" [] ∷ empty "element" (name_attribute "e")
    ∷ empty "element" (("type", "t") ∷ []) ∷ [])
    ≡ read_gives 0 5 (filled_sheet 60 12 (line 0 3 1 3 1 1 5 3 0 0 ∷ no_namespace ∷ line 13 0 1 0 0 0 0 0 0 1 ∷ []) "C")
unfolding taped
element-no-type = refl

-- not while there is no content
element-no-content :
    reads (blank 60 12) (schema ∷ complex_type "C" ∷ empty "element" (type_attributes "e" "t") ∷ [])
    ≡ read_gives 0 3 (filled_sheet 60 12 (line 0 3 1 3 0 1 3 2 0 0 ∷ no_namespace ∷ line 16 0 1 0 0 0 0 0 0 1 ∷ []) "C")
unfolding taped
element-no-content = refl

-- ---- `any`

-- to shut out: "elements kept after an empty `any`"
after_any :
    reads (blank 60 12) (schema ∷ complex_type "C" ∷ start "sequence" [] ∷ empty "element" (type_attributes "e" "t") ∷ empty "any" []
    ∷ empty "element" (type_attributes "f" "u") ∷ [])
    ≡ read_gives 0 6 (filled_sheet 60 12 (line 0 3 1 3 1 1 6 3 0 0 ∷ no_namespace ∷ line 15 0 1 0 0 0 0 0 0 1 ∷ []) "C")
unfolding taped
after_any = refl

-- finished so
after-any-closed :
    reads (blank 60 12) (schema ∷ complex_type "C" ∷ start "sequence" [] ∷ empty "any" [] ∷ empty "element" (type_attributes "f" "u") ∷ close
    ∷ close ∷ [])
    ≡ read_gives 0 7 (filled_sheet 60 12 (line 0 3 1 1 0 1 7 1 0 0 ∷ no_namespace ∷ line 15 0 1 0 0 0 0 0 0 1 ∷ []) "C")
unfolding taped
after-any-closed = refl

-- "a is 1 and the namespace follows if present"
any-namespace :
    reads (blank 60 12) (schema ∷ complex_type "C" ∷ empty "any" (("namespace", "ab") ∷ []) ∷ [])
    ≡ read_gives 0 3 (filled_sheet 60 12 (line 0 3 3 3 0 1 3 2 0 0 ∷ no_namespace ∷ line 15 0 1 1 2 0 0 1 0 1 ∷ []) "Cab")
unfolding taped
any-namespace = refl

-- present and empty: a used pair at the end of the name (S2)
any-empty-namespace :
    reads (blank 60 12) (schema ∷ complex_type "C" ∷ empty "any" (("namespace", "") ∷ []) ∷ [])
    ≡ read_gives 0 3 (filled_sheet 60 12 (line 0 3 1 3 0 1 3 2 0 0 ∷ no_namespace ∷ line 15 0 1 1 0 0 0 1 0 1 ∷ []) "C")
unfolding taped
any-empty-namespace = refl

-- a started `any` does nothing
started-any :
    reads (blank 60 12) (schema ∷ complex_type "C" ∷ start "sequence" [] ∷ start "any" (("namespace", "ab") ∷ []) ∷ close
    ∷ empty "element" (type_attributes "e" "t") ∷ [])
    ≡ read_gives 0 6 (filled_sheet 60 12 (line 0 4 3 3 1 1 6 3 0 0 ∷ no_namespace ∷ line 12 0 1 0 0 0 0 0 0 1 ∷ line 17 1 1 2 1 0 0 1 1 0 ∷ []) "Cet")
unfolding taped
started-any = refl

-- a content that starts later replaces it
sequence-after-any :
    reads (blank 60 12) (schema ∷ complex_type "C" ∷ empty "any" [] ∷ start "sequence" [] ∷ empty "element" (type_attributes "e" "t") ∷ [])
    ≡ read_gives 0 5 (filled_sheet 60 12 (line 0 4 3 3 1 1 5 3 0 0 ∷ no_namespace ∷ line 12 0 1 0 0 0 0 0 0 1 ∷ line 17 1 1 2 1 0 0 1 1 0 ∷ []) "Cet")
unfolding taped
sequence-after-any = refl
