-- Order 5, by computation: c of a head is the number in the run of the event that gave it its name. The other examples show it too.
use Rattle.std.specs.Prelude.{◌≡◌, refl, false, [], ◌∷◌}
use Rattle.text.specs.Text.{bytes}
use Rattle.sheet.specs.Rows.{Sheet}
use Rattle.xsd_types.specs.State.{first_state}
use Rattle.xsd_types.specs.Examples.Sheets.{line, no_namespace, filled_sheet, blank}
use Rattle.xsd_parser.specs.Tape.{records}
use Rattle.xsd_parser.specs.Numbered.{heads_given}
use Rattle.xsd_parser.specs.Examples.Tapes.{start, empty, close, type_attributes, based, schema, simple_type, complex_type, text_of, tags_marks, reads, read_gives, taped}

-- new content, an empty `any` and the close leave it: head 15, c 1, before the close
content-leaves-it :
    reads (blank 60 12) (schema ∷ complex_type "D" ∷ start "sequence" [] ∷ close ∷ start "choice" [] ∷ close ∷ empty "any" (("namespace", "n") ∷ []) ∷ [])
    ≡ read_gives 0 7 (filled_sheet 60 12 (line 0 3 2 3 0 1 7 2 0 0 ∷ no_namespace ∷ line 15 0 1 1 1 0 0 1 0 1 ∷ []) "Dn")
unfolding taped
content-leaves-it = refl

-- and after it
close-leaves-it :
    reads (blank 60 12) (schema ∷ complex_type "D" ∷ start "sequence" [] ∷ close ∷ start "choice" [] ∷ close ∷ empty "any" (("namespace", "n") ∷ []) ∷ close ∷ [])
    ≡ read_gives 0 8 (filled_sheet 60 12 (line 0 3 2 1 0 1 8 1 0 0 ∷ no_namespace ∷ line 15 0 1 1 1 0 0 1 0 1 ∷ []) "Dn")
unfolding taped
close-leaves-it = refl

-- a field of the type's own name leaves it
own-name-leaves-it :
    reads (blank 60 12) (schema ∷ complex_type "D" ∷ start "sequence" [] ∷ empty "element" (type_attributes "D" "t") ∷ [])
    ≡ read_gives 0 4 (filled_sheet 60 12 (line 0 4 3 3 1 1 4 3 0 0 ∷ no_namespace ∷ line 12 0 1 0 0 0 0 0 0 1 ∷ line 17 1 1 2 1 0 0 1 1 0 ∷ []) "DDt")
unfolding taped
own-name-leaves-it = refl

-- nor does the field's tag give a name
field-tag-gives-none :
    let tags = schema ∷ complex_type "D" ∷ start "sequence" [] ∷ empty "element" (type_attributes "D" "t") ∷ close ∷ close ∷ empty "element" (type_attributes "D" "D") ∷ [] in
    heads_given (record { rows = 60; names = 12 }) 0 (first_state false) (records (text_of tags) (tags_marks 0 tags))
    ≡ record { name = bytes "D"; event = 1 } ∷ record { name = bytes "D"; event = 6 } ∷ []
unfolding taped
field-tag-gives-none = refl

-- a tag that is passed over is an event, and counts
passed-over-counts :
    reads (blank 60 12) (schema ∷ start "annotation" [] ∷ complex_type "D" ∷ [])
    ≡ read_gives 0 3 (filled_sheet 60 12 (line 0 3 1 3 0 1 3 3 0 0 ∷ no_namespace ∷ line 16 0 1 0 0 0 0 0 0 2 ∷ []) "D")
unfolding taped
passed-over-counts = refl

-- "Zero means unknown, as in sheets stored earlier": an open type keeps it while it is read on, and the numbers go on from the stored events done
stored : Sheet
stored = filled_sheet 60 12 (line 0 3 1 3 0 1 2 2 0 0 ∷ no_namespace ∷ line 16 0 1 0 0 0 0 0 0 0 ∷ []) "T"

stored-keeps-zeros :
    reads stored (start "sequence" [] ∷ close ∷ empty "any" [] ∷ close ∷ empty "element" (type_attributes "b" "t") ∷ [])
    ≡ read_gives 0 5 (filled_sheet 60 12 (line 0 4 3 1 0 1 7 1 0 0 ∷ no_namespace ∷ line 15 0 1 0 0 0 0 0 0 0 ∷ line 2 1 1 2 1 0 0 0 0 6 ∷ []) "Tbt")
unfolding stored taped
stored-keeps-zeros = refl

-- "or event 0 of a run begun inside a schema": 0 like unknown, and nobody adds 1; with 40 events done it is 40
inside : Sheet
inside = filled_sheet 40 6 (line 0 2 0 1 0 1 0 1 0 0 ∷ no_namespace ∷ []) ""

event-zero : reads inside (empty "element" (type_attributes "b" "t") ∷ []) ≡ read_gives 0 1 (filled_sheet 40 6 (line 0 3 2 1 0 1 1 1 0 0 ∷ no_namespace ∷ line 2 0 1 1 1 0 0 0 0 0 ∷ []) "bt")
unfolding inside taped
event-zero = refl

later : Sheet
later = filled_sheet 40 6 (line 0 2 0 1 0 1 40 1 0 0 ∷ no_namespace ∷ []) ""

event-forty : reads later (simple_type "S" ∷ empty "restriction" (based "b") ∷ []) ≡ read_gives 0 2 (filled_sheet 40 6 (line 0 3 2 2 0 1 42 2 0 0 ∷ no_namespace ∷ line 3 0 1 1 1 0 0 0 0 40 ∷ []) "Sb")
unfolding later taped
event-forty = refl

-- the largest number: 8 stops the next event
last-event : Sheet
last-event = filled_sheet 40 6 (line 0 2 0 1 0 1 999999 1 0 0 ∷ no_namespace ∷ []) ""

largest : reads last-event (empty "element" (type_attributes "b" "t") ∷ close ∷ [])
    ≡ read_gives 8 1 (filled_sheet 40 6 (line 0 3 2 1 0 1 1000000 1 0 0 ∷ no_namespace ∷ line 2 0 1 1 1 0 0 0 0 999999 ∷ []) "bt")
unfolding last-event taped
largest = refl
