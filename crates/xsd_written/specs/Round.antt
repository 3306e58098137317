-- What comes of a written text that is read. Order 8: "Read into a cleared sheet through order 1 and the event reader, under either choice of order 3, where marks and
-- sheet have the room, it gives the same finished rows and names, event numbers aside." No contract cites it: it is what the claim says.
--     mark_count     the numbers of a tag on a tape; marks_needed: those of a schema's text
--     finished_state a schema with no type open, which needs the room of its finished rows and names
--     finished_of    the finished part of a sheet
--     cleared_ten    a row's numbers without the number of an event
--     SameFinished  two sheets hold the same finished items, and the rows of the one are those of the other and behind them the open type's; c of heads aside
--     SameNumbers   the same of their buffers, number by number and byte by byte
--     read_written   the reading of a text, over its tape, into a cleared sheet
--     RoundTrip     tape and reading accept the text and give the sheet back; but for marks or room, where they give 19 or 11
use Rattle.std.specs.Prelude.{ℕ, ◌+◌, ◌*◌, ◌≤◌, ◌<◌, ◌≡◌, List, [], ◌∷◌, ◌++◌, map, true, false, length, take, if◌then◌else◌}
use Rattle.text.specs.Text.{Text}
use Rattle.sheet.specs.Rows.{Ten, Sheet}
use Rattle.sheet.specs.Form.{names_used_of, tens_of}
use Rattle.sheet.specs.Returned.{accepted, no_room, short_marks}
use Rattle.xsd_types.specs.Types.{Schema}
use Rattle.xsd_types.specs.State.{Context, State}
use Rattle.xsd_types.specs.Rows.{context_rows, rows_of}
use Rattle.xsd_types.specs.Sheet.{state_fits}
use Rattle.xsd_types.specs.Good.{is_head}
use Rattle.xsd_types.specs.Count.{count_in, bare, state_of}
use Rattle.xsd_types.specs.Clear.{clear}
use Rattle.xsd_types.specs.Unnumbered.{cleared_row, unnumbered_schema}
use Rattle.xsd_parser.specs.Read.{ReadAnswer, read}
use Rattle.xml.specs.Document.{tape_of}
use Rattle.xsd_written.specs.Markup.{Markup, starts, empties, ends}
use Rattle.xsd_written.specs.Schema.{schema_markup}
use Rattle.xsd_written.specs.Call.{write_back}

-- kind, count and the pair of the name, two pairs for an attribute; "a close is just `3 0`"
unfoldable pub mark_count : Markup → ℕ
mark_count (starts t) = 4 + 4 * length t.attributes
mark_count (empties t) = 4 + 4 * length t.attributes
mark_count (ends n) = 2

unfoldable pub marks_of : List Markup → ℕ
marks_of [] = 0
marks_of (m ∷ ms) = mark_count m + marks_of ms

unfoldable pub marks_needed : Schema → ℕ
marks_needed s = marks_of (schema_markup s)

unfoldable pub finished_state : Schema → State
finished_state s =
    record { reader = record { schema = s; root_seen = true; context = Context.no_context }; events = 0; open_tags = 0; by_standard = false }

unfoldable pub finished_of : Sheet → Schema
finished_of x = (state_of x).reader.schema

-- the ten numbers of a row, c cleared if it is a head's
unfoldable pub cleared_ten : Ten → Ten
cleared_ten t =
    record {
      tag = t.tag;
      at0 = t.at0;
      len0 = t.len0;
      at1 = t.at1;
      len1 = t.len1;
      at2 = t.at2;
      len2 = t.len2;
      a = t.a;
      b = t.b;
      c = if is_head t.tag then 0 else t.c;
    }

-- the items, and the rows that they are, with their texts; the names are these texts one behind the other
pub record SameFinished (x y : Sheet) : Type 0 where
  pub schema : unnumbered_schema (finished_of x) ≡ unnumbered_schema (finished_of y)
  pub rows : map cleared_row (rows_of (state_of x)) ≡ map cleared_row (rows_of (state_of y)) ++ map cleared_row (context_rows (state_of x).reader.context)

-- the buffers of both, up to where those of y are used: the count of order 7, the rows with 0 for it, and the names
pub record SameNumbers (x y : Sheet) : Type 0 where
  pub count : count_in x ≡ count_in y
  pub numbers : take (length (tens_of (bare y))) (map cleared_ten (tens_of (bare x))) ≡ map cleared_ten (tens_of (bare y))
  pub names : take (names_used_of (bare y)) (bare x).names ≡ take (names_used_of (bare y)) (bare y).names

abbrev pub written_text : Sheet → List ℕ → Text
written_text x lent = take (write_back x lent).place (write_back x lent).text

unfoldable pub read_written : Sheet → ℕ → Text → List ℕ → ReadAnswer
read_written y choice text marks = read (clear choice y).sheet text (take (tape_of text marks).place (tape_of text marks).marks)

-- the sheet x was written, the sheet y cleared; so many marks were lent for the tape, which gave a number, and the reading gave r
pub record RoundTrip (x y : Sheet) (marks number : ℕ) (r : ReadAnswer) : Type 0 where
  pub taped : marks_needed (finished_of x) ≤ marks → number ≡ accepted
  pub few_marks : marks < marks_needed (finished_of x) → number ≡ short_marks
  pub given_back : number ≡ accepted → state_fits (length y.rows) (length y.names) (finished_state (finished_of x)) ≡ true → (r.answer.number ≡ accepted) × SameFinished x r.sheet
  pub small_sheet : number ≡ accepted → state_fits (length y.rows) (length y.names) (finished_state (finished_of x)) ≡ false → r.answer.number ≡ no_room
