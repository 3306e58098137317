-- Order 8's round trip on the calls: what an accepted writing wrote is taken by order 1, and its tape is read into a cleared sheet as the finished part, but for marks and
-- room. The text is the schema's, the cleared sheet holds the first state, and reading it is reading that state. Assumes nothing.
use Rattle.std.specs.Prelude.{if◌then◌else◌}
use Prim.Native.Nat.{ℕ, ◌≤◌}
use native.Mathlib.Omega.{arith}
use mathlib.Core.Path.{◌≡◌, refl, sym, ap, subst, ◌∙◌}
use mathlib.Core.Bool.{Bool, true, false, ◌&&◌}
use mathlib.Core.List.{List, ◌++◌, map, map-append}
use mathlib.Core.Option.{none}
use lib.Dec.{eqb, leb}
use lib.ListN.{length, take}
use borrow.Author.Tests.{leb-true, leb-false, le-leb}
use Rattle.text.specs.Text.{Text}
use Rattle.text.proofs.Laws.Tests.{and-true, and-true-left, bool_cases}
use Rattle.sheet.specs.Rows.{Row, Sheet}
use Rattle.sheet.specs.Form.{words}
use Rattle.sheet.specs.Lengths.{sheet_lengths, tape_lengths, lengths_of, good_lengths, Answer}
use Rattle.sheet.specs.Calls.{answered}
use Rattle.sheet.specs.Returned.{accepted, no_room}
use Rattle.xsd_types.specs.Types.{Schema}
use Rattle.xsd_types.specs.State.{State, first_state, schema_ok, proper}
use Rattle.xsd_types.specs.Rows.{context_rows, rows_of}
use Rattle.xsd_types.specs.Sheet.{state_fits}
use Rattle.xsd_types.specs.Count.{sheet_of, good, state_of}
use Rattle.xsd_types.specs.Clear.{Cleared, clear, ClearIs}
use Rattle.xsd_types.specs.Unnumbered.{cleared_row, unnumbered_schema}
use Rattle.xsd_parser.specs.Read.{Reading, ReadAnswer, read_state, refused_at, sheet_of_reading, read, ReadIs}
use Rattle.xsd_parser.proofs.Laws.Reads.{stopped, read_state-proper, read_state-fits}
use Rattle.xml.specs.Tape.{tape_marks}
use Rattle.xml.specs.Document.{Taken, tape_of}
use Rattle.xml.specs.Call.{TapeIs}
use Rattle.xml.proofs.Laws.Grammar.Taken.{taken, tape-exactly}
use Rattle.xsd_written.specs.Schema.{schema_markup, schema_text}
use Rattle.xsd_written.specs.Call.{first_unheld, Wrote, write_back, WriteIs}
use Rattle.xsd_written.specs.Reads.{events_of}
use Rattle.xsd_written.specs.Round.{marks_needed, finished_state, finished_of, SameFinished, written_text, read_written, RoundTrip}
use Rattle.xsd_types.proofs.Laws.Clear.{first-proper, first_fits, clear-sheet}
use Rattle.xsd_types.proofs.Laws.Sound.{proper-parts}
use Rattle.xsd_types.proofs.Laws.Count.{state_of-sheet_of, proper-state_of}
use Rattle.xsd_written.proofs.Laws.Call.{written-accepted}
use Rattle.xsd_written.proofs.Laws.Round.{marks-placed, finished-rows, tape_events, tape-enough, tape-few, tape-used, last-state, reading-accepted, reading-lacks, last-schema, last-rows}
use Rattle.runs.proofs.Served.{read-state}
use Rattle.runs.proofs.Choices.{cleared-with}

-- ---- a reading into a cleared sheet

abbrev first_read : Bool → Sheet → Text → List ℕ → Reading
first_read b x text marks = read_state (lengths_of x) (first_state b) text marks

abbrev first_sheet : Bool → Sheet → Sheet
first_sheet b x = sheet_of (first_state b) (length x.rows) (length x.names)

module _ (choice : ℕ) (x : Sheet) (text : Text) (marks : List ℕ) (e : sheet_lengths (length x.rows) (length x.names) && leb choice 1 ≡ true) where
  read-cleared : read (clear choice x).sheet text marks
      ≡ (if tape_lengths (length text) (length marks) then sheet_of_reading (lengths_of x) (first_read (eqb choice 1) x text marks) else refused_at 1 (first_sheet (eqb choice 1) x))
  unfolding lengths_of good_lengths
  read-cleared =
      let l = and-true-left (sheet_lengths (length x.rows) (length x.names)) _ e in
      rw (clear-sheet choice x e)
      (read-state (lengths_of x) (first_state (eqb choice 1)) text marks l (first-proper (eqb choice 1)) (first_fits (eqb choice 1) (length x.rows) (length x.names) l))

-- its schema's text, put through the calls
module _ (x y : Sheet) (choice : ℕ) (marks : List ℕ) (w : words x.rows ≡ true) (g : good x ≡ true) (held : first_unheld (finished_of x) ≡ none)
    (short : length (schema_text (finished_of x)) ≤ 65536) (c : (clear choice y).answer.number ≡ accepted) (l : length marks ≤ 16384) where
  abbrev schema : Schema
  schema = finished_of x

  abbrev text : Text
  text = schema_text schema

  schema-ok : schema_ok schema ≡ true
  unfolding finished_of
  schema-ok = (proper-parts (state_of x) (proper-state_of x w g)).3

  abbrev tape : List ℕ
  tape = tape_marks (tape_events schema schema-ok held)

  first-room : state_fits (lengths_of y).rows (lengths_of y).names (first_state (eqb choice 1)) ≡ true
  unfolding lengths_of
  first-room = first_fits (eqb choice 1) (length y.rows) (length y.names) (and-true-left _ _ (cleared-with choice y c))

  tape-lengths : (tape_of text marks).number ≡ accepted → tape_lengths (length text) (length tape) ≡ true
  unfolding tape_lengths marks_needed
  tape-lengths h =
      let m = marks-placed 0 (schema_markup schema) in
      and-true (le-leb (length text) 65536 short)
      (bool_cases (leb (marks_needed schema) (length marks))
      (λ e. let k = leb-true (marks_needed schema) (length marks) e in le-leb (length tape) 16384 (omega arith))
      (λ e. let k = leb-false (marks_needed schema) (length marks) e in absurd (omega (arith, tape-few schema schema-ok held marks short l k))))

  reads : (tape_of text marks).number ≡ accepted → read_written y choice text marks ≡ sheet_of_reading (lengths_of y) (first_read (eqb choice 1) y text tape)
  unfolding read_written
  reads h =
      rw (tape-used schema schema-ok held marks short l h, read-cleared choice y text tape (cleared-with choice y c), tape-lengths h)

  abbrev last_state : State
  last_state = last-state schema schema-ok held (lengths_of y) (eqb choice 1) short first-room

  abbrev room : Bool
  room = state_fits (length y.rows) (length y.names) (finished_state schema)

  reading-is : room ≡ true → first_read (eqb choice 1) y text tape ≡ stopped 0 (length (events_of (schema_markup schema))) last_state
  unfolding lengths_of
  reading-is f = reading-accepted schema schema-ok held (lengths_of y) (eqb choice 1) short first-room f

  last-proper : room ≡ true → proper last_state ≡ true
  last-proper f = rw (reading-is f) at (read_state-proper (lengths_of y) (first_state (eqb choice 1)) text tape (first-proper (eqb choice 1)))

  abbrev last_sheet : Sheet
  last_sheet = sheet_of last_state (length y.rows) (length y.names)

  last_fits : room ≡ true → state_fits (length y.rows) (length y.names) last_state ≡ true
  unfolding lengths_of
  last_fits f = rw (reading-is f) at (read_state-fits (lengths_of y) (first_state (eqb choice 1)) text tape first-room)

  last-back : room ≡ true → state_of last_sheet ≡ last_state
  last-back f = state_of-sheet_of last_state (length y.rows) (length y.names) (last-proper f) (last_fits f)

  -- the finished rows of both, event numbers aside
  same_rows : map cleared_row (rows_of (state_of x)) ≡ map cleared_row (rows_of last_state) ++ map cleared_row (context_rows (state_of x).reader.context)
  unfolding finished_of
  same_rows =
      let open-rows = context_rows (state_of x).reader.context in
      ap (map cleared_row) (finished-rows (state_of x)) ∙ map-append cleared_row (rows_of (finished_state schema)) open-rows
      ∙ ap (λ (rs : List Row). rs ++ map cleared_row open-rows) (sym (last-rows schema schema-ok held (lengths_of y) (eqb choice 1) short first-room))

  last-same : room ≡ true → SameFinished x last_sheet
  unfolding finished_of
  last-same f =
      let k = last-back f in
      record {
        schema = last-schema schema schema-ok held (lengths_of y) (eqb choice 1) short first-room ∙ ap (λ (t : State). unnumbered_schema t.reader.schema) (sym k);
        rows = rw k same_rows;
      }

  given_back_lem : (tape_of text marks).number ≡ accepted → room ≡ true
      → ((read_written y choice text marks).answer.number ≡ accepted) × SameFinished x (read_written y choice text marks).sheet
  unfolding sheet_of_reading lengths_of
  given_back_lem h f = rw (reads h, reading-is f) (refl, last-same f)

  small-sheet : (tape_of text marks).number ≡ accepted → room ≡ false → (read_written y choice text marks).answer.number ≡ no_room
  unfolding sheet_of_reading lengths_of
  small-sheet h f = rw (reads h) (reading-lacks schema schema-ok held (lengths_of y) (eqb choice 1) short first-room f)

  schema-trip : RoundTrip x y (length marks) (tape_of text marks).number (read_written y choice text marks)
  schema-trip =
      record {
        taped = tape-enough schema schema-ok held marks short l;
        few_marks = tape-few schema schema-ok held marks short l;
        given_back = given_back_lem;
        small_sheet = small-sheet;
      }

pub round_trip : (x y : Sheet) (choice : ℕ) (lent marks : List ℕ) → words x.rows ≡ true → (write_back x lent).number ≡ accepted → (clear choice y).answer.number ≡ accepted → length marks ≤ 16384
    → let text = written_text x lent in RoundTrip x y (length marks) (tape_of text marks).number (read_written y choice text marks)
round_trip x y choice lent marks w h c l =
    let a = written-accepted x lent h in
    rw a.holds.text (schema-trip x y choice marks w a.is_good a.holds.none (omega (arith, a.holds.fits, a.small)) c l)

-- the same by what the four calls say of themselves
module _ (x y y' z : Sheet) (choice place number used k : ℕ) (lent text marks tape : List ℕ) (a : Answer)
    (wrote : WriteIs x lent accepted place text) (cleared : ClearIs choice y (answered accepted k) y')
    (taped : TapeIs (take place text) marks number used tape) (reading : ReadIs y' (take place text) (take used tape) a z) where
  text-is : take place text ≡ written_text x lent
  text-is = ap (λ (v : Wrote). take v.place v.text) wrote

  tape-is : taken number used tape ≡ tape_of (written_text x lent) marks
  tape-is = (tape-exactly (take place text) marks number used tape).0 taped ∙ ap (λ (t : Text). tape_of t marks) text-is

  reading-is-that : ◌≡◌ {A = ReadAnswer} (record { answer = a; sheet = z }) (read_written y choice (written_text x lent) marks)
  unfolding read_written
  reading-is-that =
      reading ∙ ap (λ (v : Cleared). read v.sheet (take place text) (take used tape)) cleared ∙ ap (λ (t : Text). read (clear choice y).sheet t (take used tape)) text-is
      ∙ ap (λ (t : Taken). read (clear choice y).sheet (written_text x lent) (take t.place t.marks)) tape-is

  pub round-made : words x.rows ≡ true → length marks ≤ 16384 → RoundTrip x y (length marks) number (record { answer = a; sheet = z })
  round-made w l =
      let r = round_trip x y choice lent marks w (sym (ap (λ (v : Wrote). v.number) wrote)) (sym (ap (λ (v : Cleared). v.answer.number) cleared)) l in
      subst (λ (n : ℕ). RoundTrip x y (length marks) n (record { answer = a; sheet = z })) (sym (ap (λ (t : Taken). t.number) tape-is))
      (subst (λ (v : ReadAnswer). RoundTrip x y (length marks) (tape_of (written_text x lent) marks).number v) (sym reading-is-that) r)
