-- What an event does, by computation: simple content, its extension and attributes.
use Rattle.std.specs.Prelude.{◌≡◌, refl, [], ◌∷◌}
use Rattle.sheet.specs.Rows.{Sheet}
use Rattle.xsd_types.specs.Examples.Sheets.{line, no_namespace, filled_sheet, blank}
use Rattle.xsd_parser.specs.Examples.Tapes.{start, empty, close, name_attribute, type_attributes, based, schema, complex_type, reads, read_gives, taped}

-- ---- `extension`

-- simple content, flag 0, an empty base
simple-content :
    reads (blank 60 12) (schema ∷ complex_type "C" ∷ start "simpleContent" [] ∷ [])
    ≡ read_gives 0 3 (filled_sheet 60 12 (line 0 3 1 3 1 1 3 3 0 0 ∷ no_namespace ∷ line 14 0 1 1 0 0 0 0 0 1 ∷ []) "C")
unfolding taped
simple-content = refl

-- "start `extension` at 2 inside simple content sets base and flag"
extension :
    reads (blank 60 12) (schema ∷ complex_type "C" ∷ start "simpleContent" [] ∷ start "extension" (based "b") ∷ [])
    ≡ read_gives 0 4 (filled_sheet 60 12 (line 0 3 2 3 2 1 4 4 1 0 ∷ no_namespace ∷ line 14 0 1 1 1 0 0 0 0 1 ∷ []) "Cb")
unfolding taped
extension = refl

-- not at 1 (E4)
extension-at-1 :
    reads (blank 60 12) (schema ∷ complex_type "C" ∷ start "simpleContent" [] ∷ close ∷ start "extension" (based "b") ∷ [])
    ≡ read_gives 0 5 (filled_sheet 60 12 (line 0 3 1 3 1 1 5 3 0 0 ∷ no_namespace ∷ line 14 0 1 1 0 0 0 0 0 1 ∷ []) "C")
unfolding taped
extension-at-1 = refl

-- not at 3
extension-at-3 :
    reads (blank 60 12) (schema ∷ complex_type "C" ∷ start "simpleContent" [] ∷ start "a" [] ∷ start "extension" (based "b") ∷ [])
    ≡ read_gives 0 5 (filled_sheet 60 12 (line 0 3 1 3 3 1 5 5 0 0 ∷ no_namespace ∷ line 14 0 1 1 0 0 0 0 0 1 ∷ []) "C")
unfolding taped
extension-at-3 = refl

-- "inside simple content": the content as it stands, not the tag around it (E5)
extension-elsewhere :
    reads (blank 60 12) (schema ∷ complex_type "C" ∷ start "simpleContent" [] ∷ close ∷ start "a" [] ∷ start "extension" (based "b") ∷ [])
    ≡ read_gives 0 6 (filled_sheet 60 12 (line 0 3 2 3 2 1 6 4 1 0 ∷ no_namespace ∷ line 14 0 1 1 1 0 0 0 0 1 ∷ []) "Cb")
unfolding taped
extension-elsewhere = refl

-- not in a sequence
extension-in-sequence :
    reads (blank 60 12) (schema ∷ complex_type "C" ∷ start "sequence" [] ∷ start "extension" (based "b") ∷ [])
    ≡ read_gives 0 4 (filled_sheet 60 12 (line 0 3 1 3 2 1 4 4 0 0 ∷ no_namespace ∷ line 12 0 1 0 0 0 0 0 0 1 ∷ []) "C")
unfolding taped
extension-in-sequence = refl

-- an empty one does nothing
empty-extension :
    reads (blank 60 12) (schema ∷ complex_type "C" ∷ start "simpleContent" [] ∷ empty "extension" (based "b") ∷ [])
    ≡ read_gives 0 4 (filled_sheet 60 12 (line 0 3 1 3 1 1 4 3 0 0 ∷ no_namespace ∷ line 14 0 1 1 0 0 0 0 0 1 ∷ []) "C")
unfolding taped
empty-extension = refl

-- an absent base is empty text, and the flag is set
extension-no-base :
    reads (blank 60 12) (schema ∷ complex_type "C" ∷ start "simpleContent" [] ∷ start "extension" [] ∷ [])
    ≡ read_gives 0 4 (filled_sheet 60 12 (line 0 3 1 3 2 1 4 4 1 0 ∷ no_namespace ∷ line 14 0 1 1 0 0 0 0 0 1 ∷ []) "C")
unfolding taped
extension-no-base = refl

-- ---- `attribute`

-- "Empty `attribute` with name and type counts once the flag is set"
attribute :
    reads (blank 60 12) (schema ∷ complex_type "C" ∷ start "simpleContent" [] ∷ start "extension" (based "b")
    ∷ empty "attribute" (("name", "x") ∷ ("type", "t") ∷ ("use", "required") ∷ []) ∷ [])
    ≡ read_gives 0 5 (filled_sheet 60 12 (line 0 4 4 3 2 1 5 4 1 0 ∷ no_namespace ∷ line 14 0 1 1 1 0 0 0 0 1 ∷ line 20 2 1 3 1 0 0 1 0 0 ∷ []) "Cbxt")
unfolding taped
attribute = refl

-- not before
attribute-before :
    reads (blank 60 12) (schema ∷ complex_type "C" ∷ start "simpleContent" []
    ∷ empty "attribute" (("name", "x") ∷ ("type", "t") ∷ ("use", "required") ∷ []) ∷ start "extension" (based "b") ∷ [])
    ≡ read_gives 0 5 (filled_sheet 60 12 (line 0 3 2 3 2 1 5 4 1 0 ∷ no_namespace ∷ line 14 0 1 1 1 0 0 0 0 1 ∷ []) "Cb")
unfolding taped
attribute-before = refl

-- "also after `extension` closes"
attribute-after :
    reads (blank 60 12) (schema ∷ complex_type "C" ∷ start "simpleContent" [] ∷ start "extension" (based "b") ∷ close ∷ close
    ∷ empty "attribute" (("name", "x") ∷ ("type", "t") ∷ ("use", "required") ∷ []) ∷ [])
    ≡ read_gives 0 7 (filled_sheet 60 12 (line 0 4 4 3 0 1 7 2 1 0 ∷ no_namespace ∷ line 14 0 1 1 1 0 0 0 0 1 ∷ line 20 2 1 3 1 0 0 1 0 0 ∷ []) "Cbxt")
unfolding taped
attribute-after = refl

-- not without a type
attribute-no-type :
    reads (blank 60 12) (schema ∷ complex_type "C" ∷ start "simpleContent" [] ∷ start "extension" (based "b") ∷ empty "attribute" (name_attribute "x")
    ∷ empty "attribute" (("type", "t") ∷ []) ∷ [])
    ≡ read_gives 0 6 (filled_sheet 60 12 (line 0 3 2 3 2 1 6 4 1 0 ∷ no_namespace ∷ line 14 0 1 1 1 0 0 0 0 1 ∷ []) "Cb")
unfolding taped
attribute-no-type = refl

-- a started one does not count
started-attribute :
    reads (blank 60 12) (schema ∷ complex_type "C" ∷ start "simpleContent" [] ∷ start "extension" (based "b")
    ∷ start "attribute" (type_attributes "x" "t") ∷ [])
    ≡ read_gives 0 5 (filled_sheet 60 12 (line 0 3 2 3 3 1 5 5 1 0 ∷ no_namespace ∷ line 14 0 1 1 1 0 0 0 0 1 ∷ []) "Cb")
unfolding taped
started-attribute = refl

-- "required means `use` is exactly `required`": absent, another word, and the first `use` (E14)
required :
    reads (blank 60 12) (schema ∷ complex_type "C" ∷ start "simpleContent" [] ∷ start "extension" (based "b")
    ∷ empty "attribute" (type_attributes "y" "t") ∷ empty "attribute" (("name", "x") ∷ ("type", "t") ∷ ("use", "Required") ∷ [])
    ∷ empty "attribute" (("name", "z") ∷ ("type", "t") ∷ ("use", "optional") ∷ ("use", "required") ∷ []) ∷ [])
    ≡ read_gives 0 7 (filled_sheet 60 12 (line 0 6 8 3 2 1 7 4 1 0 ∷ no_namespace ∷ line 14 0 1 1 1 0 0 0 0 1 ∷ line 20 2 1 3 1 0 0 0 0 0
    ∷ line 20 4 1 5 1 0 0 0 0 0 ∷ line 20 6 1 7 1 0 0 0 0 0 ∷ []) "Cbytxtzt")
unfolding taped
required = refl

-- exactly: white space around it makes another word
required-exactly :
    reads (blank 50 12) (schema ∷ complex_type "C" ∷ start "simpleContent" [] ∷ start "extension" (based "b")
    ∷ empty "attribute" (("name", "x") ∷ ("type", "t") ∷ ("use", " required") ∷ [])
    ∷ empty "attribute" (("name", "y") ∷ ("type", "t") ∷ ("use", "required ") ∷ []) ∷ [])
    ≡ read_gives 0 6 (filled_sheet 50 12 (line 0 5 6 3 2 1 6 4 1 0 ∷ no_namespace ∷ line 14 0 1 1 1 0 0 0 0 1 ∷ line 20 2 1 3 1 0 0 0 0 0 ∷ line 20 4 1 5 1 0 0 0 0 0 ∷ []) "Cbxtyt")
unfolding taped
required-exactly = refl

-- the close finishes the type, "flag 0"
finished :
    reads (blank 60 12) (schema ∷ complex_type "C" ∷ start "simpleContent" [] ∷ start "extension" (based "b")
    ∷ empty "attribute" (("name", "x") ∷ ("type", "t") ∷ ("use", "required") ∷ []) ∷ close ∷ close ∷ close ∷ [])
    ≡ read_gives 0 8 (filled_sheet 60 12 (line 0 4 4 1 0 1 8 1 0 0 ∷ no_namespace ∷ line 14 0 1 1 1 0 0 0 0 1 ∷ line 20 2 1 3 1 0 0 1 0 0 ∷ []) "Cbxt")
unfolding taped
finished = refl

-- ---- twice (E9)

-- a second `extension` replaces the base and keeps the attributes
extension-again :
    reads (blank 60 12) (schema ∷ complex_type "C" ∷ start "simpleContent" [] ∷ start "extension" (based "b")
    ∷ empty "attribute" (("name", "x") ∷ ("type", "t") ∷ ("use", "required") ∷ []) ∷ close ∷ start "extension" (based "ab") ∷ [])
    ≡ read_gives 0 7 (filled_sheet 60 12 (line 0 4 5 3 2 1 7 4 1 0 ∷ no_namespace ∷ line 14 0 1 1 2 0 0 0 0 1 ∷ line 20 3 1 4 1 0 0 1 0 0 ∷ []) "Cabxt")
unfolding taped
extension-again = refl

-- a second `simpleContent` drops both and the flag
simple-content-again :
    reads (blank 60 12) (schema ∷ complex_type "C" ∷ start "simpleContent" [] ∷ start "extension" (based "b")
    ∷ empty "attribute" (("name", "x") ∷ ("type", "t") ∷ ("use", "required") ∷ []) ∷ close ∷ close ∷ start "simpleContent" []
    ∷ empty "attribute" (("name", "x") ∷ ("type", "t") ∷ ("use", "required") ∷ []) ∷ [])
    ≡ read_gives 0 9 (filled_sheet 60 12 (line 0 3 1 3 1 1 9 3 0 0 ∷ no_namespace ∷ line 14 0 1 1 0 0 0 0 0 1 ∷ []) "C")
unfolding taped
simple-content-again = refl

-- "Empty `any` replaces the content, flag 0."
any-flag-0 :
    reads (blank 60 12) (schema ∷ complex_type "C" ∷ start "simpleContent" [] ∷ start "extension" (based "b")
    ∷ empty "attribute" (("name", "x") ∷ ("type", "t") ∷ ("use", "required") ∷ []) ∷ empty "any" [] ∷ [])
    ≡ read_gives 0 6 (filled_sheet 60 12 (line 0 3 1 3 2 1 6 4 0 0 ∷ no_namespace ∷ line 15 0 1 0 0 0 0 0 0 1 ∷ []) "C")
unfolding taped
any-flag-0 = refl

-- so does a sequence
sequence-flag-0 :
    reads (blank 60 12) (schema ∷ complex_type "C" ∷ start "simpleContent" [] ∷ start "extension" (based "b")
    ∷ empty "attribute" (("name", "x") ∷ ("type", "t") ∷ ("use", "required") ∷ []) ∷ close ∷ close ∷ start "sequence" [] ∷ [])
    ≡ read_gives 0 8 (filled_sheet 60 12 (line 0 3 1 3 1 1 8 3 0 0 ∷ no_namespace ∷ line 12 0 1 0 0 0 0 0 0 1 ∷ []) "C")
unfolding taped
sequence-flag-0 = refl

-- ---- a good sheet that no reading leaves is served: an open 14 with base, attribute and flag 0 (S6)

flag0 : Sheet
flag0 = filled_sheet 60 12 (line 0 4 4 3 1 1 0 3 0 0 ∷ no_namespace ∷ line 14 0 1 1 1 0 0 0 0 0 ∷ line 20 2 1 3 1 0 0 1 0 0 ∷ []) "Cbxt"

-- an attribute does not count
flag-0-attribute :
    reads flag0 (empty "attribute" (type_attributes "y" "t") ∷ [])
    ≡ read_gives 0 1 (filled_sheet 60 12 (line 0 4 4 3 1 1 1 3 0 0 ∷ no_namespace ∷ line 14 0 1 1 1 0 0 0 0 0 ∷ line 20 2 1 3 1 0 0 1 0 0 ∷ []) "Cbxt")
unfolding flag0 taped
flag-0-attribute = refl

-- an `extension` sets base and flag, and the old children stay
flag-0-extension :
    reads flag0 (start "extension" (based "ab") ∷ empty "attribute" (type_attributes "y" "t") ∷ [])
    ≡ read_gives 0 2 (filled_sheet 60 12 (line 0 5 7 3 2 1 2 4 1 0 ∷ no_namespace ∷ line 14 0 1 1 2 0 0 0 0 0 ∷ line 20 3 1 4 1 0 0 1 0 0
    ∷ line 20 5 1 6 1 0 0 0 0 0 ∷ []) "Cabxtyt")
unfolding flag0 taped
flag-0-extension = refl

-- closes finish it
flag-0-close :
    reads flag0 (close ∷ close ∷ [])
    ≡ read_gives 0 2 (filled_sheet 60 12 (line 0 4 4 1 0 1 2 1 0 0 ∷ no_namespace ∷ line 14 0 1 1 1 0 0 0 0 0 ∷ line 20 2 1 3 1 0 0 1 0 0 ∷ []) "Cbxt")
unfolding flag0 taped
flag-0-close = refl
