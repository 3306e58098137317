-- Runs by computation, from paper 01's words.
--     reading, lowering    a call: a tape of these tags; a lowering into buffers of r numbers and n names filled with other values, with k numbers of scratch
--     read_to, refused_by    a reading's answer that refuses no event; that refuses an event, with its number in the run
--     kept          a lowering's answer that leaves graph and scratch as they were
--     left          a lowering's answer that leaves this graph and zero scratch
use Rattle.std.specs.Prelude.{ℕ, ◌≡◌, refl, true, List, [], ◌∷◌, replicate}
use Rattle.std.proofs.Math.Option.{some, none}
use Rattle.builtin.specs.Unfold.{computes as builtins}
use Rattle.names.specs.Unfold.{computes as conversions}
use Rattle.text.specs.Text.{bytes}
use Rattle.sheet.specs.Rows.{Sheet}
use Rattle.xsd_types.specs.Examples.Sheets.{line, no_namespace, filled_sheet, junk, blank, blank_by, answer}
use Rattle.xsd_types.specs.Count.{good}
use Rattle.xsd_parser.specs.Examples.Tapes.{Tag, start, empty, close, type_attributes, schema, complex_type, text_of, tags_marks, taped}
use Rattle.xsd_parser.specs.Event.{Event}
use Rattle.xsd_parser.specs.Tape.{event}
use Rattle.ir_types.specs.Unfold.{computes as graphs}
use Rattle.ir_lower.specs.Unfold.{computes as lowerings}
use Rattle.runs.specs.Runs.{Call, Answered, run}
use Rattle.runs.specs.Joined.{joined}
use Rattle.runs.specs.Unfold.{computes as running}

reading : List Tag → Call
reading ts = Call.reading (text_of ts) (tags_marks 0 ts)

lowering : ℕ → ℕ → ℕ → Call
lowering r n k = Call.lowering (junk r n) (replicate k 7)

read_to : ℕ → ℕ → Answered
read_to num place = Answered.read_as (answer num place) none

refused_by : ℕ → ℕ → ℕ → Answered
refused_by num place in_run = Answered.read_as (answer num place) (some in_run)

kept : ℕ → ℕ → ℕ → ℕ → Answered
kept num r n k = Answered.lowered_as (record { answer = answer num 0; graph = junk r n; scratch = replicate k 7 })

left : ℕ → ℕ → Sheet → ℕ → Answered
left num place g k = Answered.lowered_as (record { answer = answer num place; graph = g; scratch = replicate k 0 })

-- A cleared sheet lowered (12), read, lowered, lowered into a graph of a bad length (1), a refused event (6), number 3 of the run, with the one before it
-- kept, a tape too long (1), a type read on, whose number in the run is 4, too little scratch (14), and lowered at the end.
a-run :
    run (blank 40 6) (lowering 30 4 64 ∷ reading (schema ∷ empty "element" (type_attributes "D" "T") ∷ []) ∷ lowering 30 4 64 ∷ lowering 25 4 1
    ∷ reading (close ∷ close ∷ schema ∷ []) ∷ Call.reading [] (replicate 16385 0) ∷ reading (start "schema" [] ∷ complex_type "C" ∷ close ∷ []) ∷ lowering 30 4 0 ∷ lowering 40 4 64 ∷ [])
    ≡ record {
      answers = left 12 0 (filled_sheet 30 4 [] "") 64 ∷ read_to 0 2
          ∷ left 0 3 (filled_sheet 30 4 (line 0 3 2 1 0 0 0 0 0 0 ∷ no_namespace ∷ line 2 0 1 1 1 0 0 0 0 1 ∷ []) "DT") 64
          ∷ kept 1 25 4 1 ∷ refused_by 6 1 3 ∷ read_to 1 0 ∷ read_to 0 3 ∷ kept 14 30 4 0
          ∷ left 0 4 (filled_sheet 40 4 (line 0 4 3 1 1 0 0 0 0 0 ∷ no_namespace ∷ line 2 0 1 1 1 0 0 0 0 1 ∷ line 8 2 1 0 0 0 0 0 0 4 ∷ []) "DTC") 64 ∷ [];
      last = filled_sheet 40 6 (line 0 4 3 1 0 1 6 1 0 0 ∷ no_namespace ∷ line 2 0 1 1 1 0 0 0 0 1 ∷ line 15 2 1 0 0 0 0 0 0 4 ∷ []) "DTC";
    }
unfolding reading lowering read_to refused_by kept left taped builtins conversions graphs lowerings running
a-run = refl

-- From a sheet that is not good each call gives 2, or 1 where a length of its own is bad, and changes nothing.
bad-run : run (junk 40 6) (reading (schema ∷ []) ∷ Call.reading [] (replicate 16385 0) ∷ lowering 30 4 0 ∷ lowering 25 4 0 ∷ [])
    ≡ record { answers = read_to 2 0 ∷ read_to 1 0 ∷ kept 2 30 4 0 ∷ kept 1 25 4 0 ∷ []; last = junk 40 6 }
unfolding reading lowering read_to refused_by kept left taped builtins conversions graphs lowerings running
bad-run = refl

-- A sheet can be good and have a length that gives 1: no call gives 2.
odd : Sheet
odd = filled_sheet 25 0 (line 0 2 0 0 0 0 0 0 0 0 ∷ no_namespace ∷ []) ""

odd-good : good odd ≡ true
unfolding odd taped
odd-good = refl

odd-run : run odd (reading (schema ∷ []) ∷ lowering 30 4 0 ∷ []) ≡ record { answers = read_to 1 0 ∷ kept 1 30 4 0 ∷ []; last = odd }
unfolding odd reading lowering read_to refused_by kept left taped builtins conversions graphs lowerings running
odd-run = refl

-- A reading uncut, and cut in two with a lowering between: the second close is refused, number 2 of the run both times, and the last sheet is the same.
uncut-run : run (blank 20 0) (Call.reading (bytes "schema") (1 ∷ 0 ∷ 0 ∷ 6 ∷ 3 ∷ 0 ∷ 3 ∷ 0 ∷ []) ∷ [])
    ≡ record { answers = refused_by 6 2 2 ∷ []; last = filled_sheet 20 0 (line 0 2 0 0 0 1 2 0 0 0 ∷ no_namespace ∷ []) "" }
unfolding refused_by taped running
uncut-run = refl

cut-run : run (blank 20 0) (Call.reading (bytes "schema") (1 ∷ 0 ∷ 0 ∷ 6 ∷ []) ∷ lowering 20 0 64 ∷ Call.reading (bytes "schema") (3 ∷ 0 ∷ 3 ∷ 0 ∷ []) ∷ [])
    ≡ record {
      answers = read_to 0 1 ∷ left 0 2 (filled_sheet 20 0 (line 0 2 0 0 0 0 0 0 0 0 ∷ no_namespace ∷ []) "") 64 ∷ refused_by 6 1 2 ∷ [];
      last = filled_sheet 20 0 (line 0 2 0 0 0 1 2 0 0 0 ∷ no_namespace ∷ []) "";
    }
unfolding lowering read_to refused_by left taped builtins conversions graphs lowerings running
cut-run = refl

-- With choice 1 an annotation that is cut in two does not end the schema: order 3.
standard-run : run (blank_by 1 40 6) (reading (schema ∷ start "annotation" [] ∷ []) ∷ reading (close ∷ complex_type "C" ∷ []) ∷ [])
    ≡ record { answers = read_to 0 2 ∷ read_to 0 2 ∷ []; last = filled_sheet 40 6 (line 0 3 1 3 0 1 4 2 0 1 ∷ no_namespace ∷ line 16 0 1 0 0 0 0 0 0 3 ∷ []) "C" }
unfolding reading read_to taped running
standard-run = refl

-- Events joined: a refused close is judged and the start behind it dropped; a tape too long has none; the next piece's start is judged.
some-joined : joined (blank 20 0) (reading (close ∷ schema ∷ []) ∷ lowering 20 0 0 ∷ Call.reading [] (replicate 16385 0) ∷ reading (schema ∷ []) ∷ [])
    ≡ event Event.close ∷ event (Event.start (record { name = bytes "schema"; attributes = [] })) ∷ []
unfolding reading lowering taped running
some-joined = refl
