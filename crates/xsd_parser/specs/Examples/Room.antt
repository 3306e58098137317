-- Reading by computation: the number 11, and the room that is used again.
use Rattle.std.specs.Prelude.{◌≡◌, refl, [], ◌∷◌}
use Rattle.sheet.specs.Rows.{Sheet}
use Rattle.xsd_types.specs.Examples.Sheets.{line, no_namespace, filled_sheet, blank}
use Rattle.xsd_parser.specs.Examples.Tapes.{start, empty, close, name_attribute, type_attributes, based, schema, complex_type, reads, read_gives, taped}

-- ---- 11: "the state after the event needs more rows or names than lent"

-- a third row in 20 numbers
no_row : reads (blank 20 2) (schema ∷ empty "element" (type_attributes "D" "T") ∷ []) ≡ read_gives 11 1 (filled_sheet 20 2 (line 0 2 0 1 0 1 1 1 0 0 ∷ no_namespace ∷ []) "")
unfolding taped
no_row = refl

-- in 30 it has room
exact-rows :
    reads (blank 30 2) (schema ∷ empty "element" (type_attributes "D" "T") ∷ [])
    ≡ read_gives 0 2 (filled_sheet 30 2 (line 0 3 2 1 0 1 2 1 0 0 ∷ no_namespace ∷ line 2 0 1 1 1 0 0 0 0 1 ∷ []) "DT")
unfolding taped
exact-rows = refl

-- two bytes in one
no_names :
    reads (blank 30 1) (schema ∷ empty "element" (type_attributes "D" "T") ∷ [])
    ≡ read_gives 11 1 (filled_sheet 30 1 (line 0 2 0 1 0 1 1 1 0 0 ∷ no_namespace ∷ []) "")
unfolding taped
no_names = refl

-- a namespace
no-namespace-room : reads (blank 20 1) (start "schema" (("targetNamespace", "ab") ∷ []) ∷ []) ≡ read_gives 11 0 (blank 20 1)
unfolding taped
no-namespace-room = refl

-- a type
no-type-room : reads (blank 20 1) (schema ∷ complex_type "C" ∷ []) ≡ read_gives 11 1 (filled_sheet 20 1 (line 0 2 0 1 0 1 1 1 0 0 ∷ no_namespace ∷ []) "")
unfolding taped
no-type-room = refl

-- "drops the rest of the piece": the close behind it is not read
rest-dropped :
    reads (blank 20 2) (schema ∷ empty "element" (type_attributes "D" "T") ∷ close ∷ [])
    ≡ read_gives 11 1 (filled_sheet 20 2 (line 0 2 0 1 0 1 1 1 0 0 ∷ no_namespace ∷ []) "")
unfolding taped
rest-dropped = refl

-- ---- "Replaced content, bases and namespaces free their room, and it is used again" (E2)

-- a simple type whose base fills the names
full_base : Sheet
full_base = filled_sheet 30 3 (line 0 3 3 2 0 1 2 2 0 0 ∷ no_namespace ∷ line 3 0 1 1 2 0 0 0 0 0 ∷ []) "Sab"

-- a base as long as the one before
same_base :
    reads full_base (empty "restriction" (based "cd") ∷ [])
    ≡ read_gives 0 1 (filled_sheet 30 3 (line 0 3 3 2 0 1 3 2 0 0 ∷ no_namespace ∷ line 3 0 1 1 2 0 0 0 0 0 ∷ []) "Scd")
unfolding full_base taped
same_base = refl

-- a shorter one: the byte behind it is zero
shorter-base :
    reads full_base (empty "restriction" (based "c") ∷ [])
    ≡ read_gives 0 1 (filled_sheet 30 3 (line 0 3 2 2 0 1 3 2 0 0 ∷ no_namespace ∷ line 3 0 1 1 1 0 0 0 0 0 ∷ []) "Sc")
unfolding full_base taped
shorter-base = refl

-- a longer one
longer-base : reads full_base (empty "restriction" (based "cde") ∷ []) ≡ read_gives 11 0 full_base
unfolding full_base taped
longer-base = refl

-- a started restriction
started-base :
    reads full_base (start "restriction" (based "cd") ∷ [])
    ≡ read_gives 0 1 (filled_sheet 30 3 (line 0 3 3 2 1 1 3 3 0 0 ∷ no_namespace ∷ line 3 0 1 1 2 0 0 0 0 0 ∷ []) "Scd")
unfolding full_base taped
started-base = refl

-- a sequence that fills rows and names
full_sequence : Sheet
full_sequence = filled_sheet 40 3 (line 0 4 3 3 0 1 5 2 0 0 ∷ no_namespace ∷ line 12 0 1 0 0 0 0 0 0 0 ∷ line 17 1 1 2 1 0 0 1 1 0 ∷ []) "Cet"

-- a choice with another element in its place
replaced-content :
    reads full_sequence (start "choice" [] ∷ empty "element" (type_attributes "f" "u") ∷ [])
    ≡ read_gives 0 2 (filled_sheet 40 3 (line 0 4 3 3 1 1 7 3 0 0 ∷ no_namespace ∷ line 13 0 1 0 0 0 0 0 0 0 ∷ line 19 1 1 2 1 0 0 0 0 0 ∷ []) "Cfu")
unfolding full_sequence taped
replaced-content = refl

-- an `any` with a namespace in the room of name and type
replaced-by-any :
    reads full_sequence (empty "any" (("namespace", "ab") ∷ []) ∷ [])
    ≡ read_gives 0 1 (filled_sheet 40 3 (line 0 3 3 3 0 1 6 2 0 0 ∷ no_namespace ∷ line 15 0 1 1 2 0 0 1 0 0 ∷ []) "Cab")
unfolding full_sequence taped
replaced-by-any = refl

-- a longer one
longer-any : reads full_sequence (empty "any" (("namespace", "abc") ∷ []) ∷ []) ≡ read_gives 11 0 full_sequence
unfolding full_sequence taped
longer-any = refl

-- a namespace before an element, names full
full_namespace : Sheet
full_namespace = filled_sheet 30 4 (line 0 3 4 0 0 1 3 0 0 0 ∷ line 1 0 2 0 0 0 0 0 0 0 ∷ line 2 2 1 3 1 0 0 0 0 0 ∷ []) "abDT"

-- "the namespace anew": as long
same-namespace :
    reads full_namespace (start "schema" (("targetNamespace", "xy") ∷ []) ∷ [])
    ≡ read_gives 0 1 (filled_sheet 30 4 (line 0 3 4 1 0 1 4 1 0 0 ∷ line 1 0 2 0 0 0 0 0 0 0 ∷ line 2 2 1 3 1 0 0 0 0 0 ∷ []) "xyDT")
unfolding full_namespace taped
same-namespace = refl

-- "(empty if absent)": the names behind it move
absent-namespace :
    reads full_namespace (schema ∷ [])
    ≡ read_gives 0 1 (filled_sheet 30 4 (line 0 3 2 1 0 1 4 1 0 0 ∷ no_namespace ∷ line 2 0 1 1 1 0 0 0 0 0 ∷ []) "DT")
unfolding full_namespace taped
absent-namespace = refl

-- longer
longer-namespace : reads full_namespace (empty "schema" (("targetNamespace", "xyz") ∷ []) ∷ []) ≡ read_gives 11 0 full_namespace
unfolding full_namespace taped
longer-namespace = refl

-- ---- an event that does not grow the state is never 11 (E2)

-- a close
close-full :
    reads (filled_sheet 30 1 (line 0 3 1 3 0 1 2 2 0 0 ∷ no_namespace ∷ line 16 0 1 0 0 0 0 0 0 0 ∷ []) "C") (close ∷ [])
    ≡ read_gives 0 1 (filled_sheet 30 1 (line 0 3 1 1 0 1 3 1 0 0 ∷ no_namespace ∷ line 15 0 1 0 0 0 0 0 0 0 ∷ []) "C")
unfolding taped
close-full = refl

-- a start that opens the content
start-full :
    reads (filled_sheet 30 1 (line 0 3 1 3 0 1 2 2 0 0 ∷ no_namespace ∷ line 16 0 1 0 0 0 0 0 0 0 ∷ []) "C") (start "sequence" [] ∷ [])
    ≡ read_gives 0 1 (filled_sheet 30 1 (line 0 3 1 3 1 1 3 3 0 0 ∷ no_namespace ∷ line 12 0 1 0 0 0 0 0 0 0 ∷ []) "C")
unfolding taped
start-full = refl

-- simple content has an empty base at the end of the name (S2)
simple-content-full :
    reads (filled_sheet 30 1 (line 0 3 1 3 0 1 2 2 0 0 ∷ no_namespace ∷ line 16 0 1 0 0 0 0 0 0 0 ∷ []) "C") (start "simpleContent" [] ∷ [])
    ≡ read_gives 0 1 (filled_sheet 30 1 (line 0 3 1 3 1 1 3 3 0 0 ∷ no_namespace ∷ line 14 0 1 1 0 0 0 0 0 0 ∷ []) "C")
unfolding taped
simple-content-full = refl

-- an unknown tag
unknown-full :
    reads (filled_sheet 30 1 (line 0 3 1 3 0 1 2 2 0 0 ∷ no_namespace ∷ line 16 0 1 0 0 0 0 0 0 0 ∷ []) "C") (empty "x" (name_attribute "abc") ∷ [])
    ≡ read_gives 0 1 (filled_sheet 30 1 (line 0 3 1 3 0 1 3 2 0 0 ∷ no_namespace ∷ line 16 0 1 0 0 0 0 0 0 0 ∷ []) "C")
unfolding taped
unknown-full = refl
