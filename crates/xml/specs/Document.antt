-- The recogniser's document and the call by it. Only proofs use these definitions: the call's contract is `Call.TapeIs`, by the grammar, and is exactly
-- `tape_of` (proofs/Laws/Grammar).
--     Document      what a text is: begun by a DOCTYPE, not well formed, or well formed with its events
--     document      [1]
--     Taken         number, place and marks afterwards
--     tape_of        the call
use Rattle.std.specs.Prelude.{ℕ, List, [], ◌∷◌, leb, length, if◌then◌else◌}
use Rattle.text.specs.Text.{Text, bytes, is_text}
use Rattle.sheet.specs.Rows.{filled}
use Rattle.sheet.specs.Lengths.{tape_lengths}
use Rattle.sheet.specs.Returned.{accepted, bad_length, not_ascii, malformed, doctype, short_marks}
use Rattle.xml.specs.Steps.{Step, bad, behind, starts_with}
use Rattle.xml.specs.Prolog.{misc, prolog}
use Rattle.xml.specs.Tape.{TapeEvent, tape_marks}
use Rattle.xml.specs.Root.{Rooted, unrooted, rooted, root}

pub data Document : Type 0 where
  with_doctype : Document
  not_well_formed : Document
  well_formed : List TapeEvent → Document

-- "Misc*" up to the end of the text
unfoldable pub to_end : List TapeEvent → Step → Document
to_end events bad = not_well_formed
to_end events (behind a []) = well_formed events
to_end events (behind a (b ∷ s)) = not_well_formed

-- [1] document ::= prolog element Misc*, from behind the root on
abbrev pub root_behind : Rooted → Document
root_behind unrooted = not_well_formed
root_behind (rooted events a r) = to_end events (misc a r)

unfoldable pub document_from : ℕ → Text → Document
document_from at s = root_behind (root at s)

-- from behind the prolog on
abbrev pub prolog_behind : Step → Document
prolog_behind bad = not_well_formed
prolog_behind (behind at s) = if starts_with (bytes "<!DOCTYPE") s then with_doctype else document_from at s

unfoldable pub document : Text → Document
document text = prolog_behind (prolog 0 text)

pub record Taken : Type 0 where
  pub number : ℕ
  pub place : ℕ
  pub marks : List ℕ

-- "marks zero from 5 on"
unfoldable pub refused : ℕ → ℕ → Taken
refused lent number = record { number = number; place = 0; marks = filled lent [] }

-- "accepted, place is the marks used and the rest are zero"
unfoldable pub tape_written : ℕ → List ℕ → Taken
tape_written lent tape =
    if leb (length tape) lent
    then record { number = accepted; place = length tape; marks = filled lent tape }
    else refused lent short_marks

unfoldable pub taken_of : ℕ → Document → Taken
taken_of lent with_doctype = refused lent doctype
taken_of lent not_well_formed = refused lent malformed
taken_of lent (well_formed events) = tape_written lent (tape_marks events)

-- "order 1, 5 for any byte above 127, 18, 17, 19"
unfoldable pub tape_of : Text → List ℕ → Taken
tape_of text marks =
    if tape_lengths (length text) (length marks)
    then if is_text text then taken_of (length marks) (document text) else refused (length marks) not_ascii
    else record { number = bad_length; place = 0; marks = marks }
