-- The text of a schema is a document whose tape is read, from a cleared sheet, as the schema, event numbers aside. Assumes nothing.
--     read_state of a list of events is `read_records`; `behind_all` is the state that they lead to
use Prim.Native.Nat.{ℕ, suc, ◌+◌, ◌*◌, ◌≤◌, ◌<◌}
use native.Mathlib.Omega.{arith}
use mathlib.Core.Path.{◌≡◌, refl, sym, ap, ◌∙◌}
use mathlib.Core.Bool.{Bool, true, false}
use mathlib.Core.List.{List, [], ◌∷◌, ◌++◌, map, append-nil}
use mathlib.Core.Option.{none}
use lib.ListN.{length, length-append, take}
use borrow.Author.Tests.{le-leb, lt-leb}
use Rattle.text.specs.Text.{Text, every, is_text}
use Rattle.text.specs.Unfold.{computes as texts}
use Rattle.text.proofs.Laws.Tests.{and-true, and-true-right}
use Rattle.text.proofs.Laws.Every.{every-head, every-tail}
use Rattle.sheet.specs.Rows.{Row, row}
use Rattle.sheet.specs.Lengths.{Lengths, tape_lengths}
use Rattle.sheet.specs.Returned.{accepted, no_room, short_marks}
use Rattle.xsd_types.specs.Types.{Item, Schema}
use Rattle.xsd_types.specs.State.{Context, State, first_state, item_ok, schema_ok}
use Rattle.xsd_types.specs.Rows.{namespace_row, items_rows, context_rows, rows_of, rows_used, names_used}
use Rattle.xsd_types.specs.Sheet.{state_fits}
use Rattle.xsd_types.specs.Unnumbered.{cleared_row, unnumbered_item, unnumbered_schema, unnumbered_reader, unnumbered}
use Rattle.xsd_types.proofs.Laws.Unnumbered.{rows-cleared}
use Rattle.xsd_parser.specs.Event.{Tag, Event}
use Rattle.xsd_parser.specs.Tape.{event, records}
use Rattle.xsd_parser.specs.Step.{counted}
use Rattle.xsd_parser.specs.Read.{Reading, read_records, read_state}
use Rattle.xsd_parser.specs.Unfold.{computes as parses}
use Rattle.xsd_parser.proofs.Laws.Reads.{stopped}
use Rattle.xsd_parser.proofs.Laws.Cleared.{room-unnumbered}
use Rattle.xml.specs.Tape.{TapeEvent, attribute_marks, event_marks, tape_marks}
use Rattle.xml.specs.Document.{well_formed, document, tape_written, refused, taken_of, tape_of}
use Rattle.xml.specs.Written.{tag_places}
use Rattle.xml.proofs.Laws.Tags.{marks-length}
use Rattle.xml.proofs.Laws.Reads.{tape-taken, accepted-tape}
use Rattle.xsd_written.specs.Markup.{Markup, starts, empties, ends, markup_text}
use Rattle.xsd_written.specs.Schema.{attr, prefixed, prefixed_tag, around, items_markup, schema_markup, schema_text}
use Rattle.xsd_written.specs.Call.{first_unheld}
use Rattle.xsd_written.specs.Reads.{written_tag_ok, markup_ok, nested, placed_events, events_of, Handled, none_left, one_more}
use Rattle.xsd_written.specs.Round.{mark_count, marks_of, marks_needed, finished_state}
use Rattle.xsd_written.proofs.Laws.Documents.{markups-long, document-written}
use Rattle.xsd_written.proofs.Laws.Records.{records-written}
use Rattle.xsd_written.proofs.Laws.Fine.{markup_fine, markups-ok, markups-text, markups-few, places-length}
use Rattle.xsd_written.proofs.Laws.Held.{schema_attributes, schema-fine}
use Rattle.xsd_written.proofs.Laws.Nested.{schema-nested}
use Rattle.xsd_written.proofs.Laws.Handled.{below-same, handled-reads}
use Rattle.xsd_written.proofs.Laws.Items.{below-cons, around-handled, within, with_items, context-below, one-handled, items-handled}

-- ---- the tape

tag-marks : (at : ℕ) (t : Tag) (rest : List ℕ) → length (attribute_marks (tag_places at t) ++ rest) ≡ 4 * length t.attributes + length rest
tag-marks at t rest =
    let xs = tag_places at t in
    omega (arith, length-append (attribute_marks xs) rest, marks-length xs, places-length (at + 1 + length t.name) t.attributes)

pub marks-placed : (at : ℕ) (ms : List Markup) → length (tape_marks (placed_events at ms)) ≡ marks_of ms
unfolding tape_marks event_marks placed_events marks_of mark_count
marks-placed at [] = refl
marks-placed at (starts t ∷ ms) =
    let b = at + length (markup_text (starts t)) in
    omega (arith, tag-marks at t (tape_marks (placed_events b ms)), marks-placed b ms)
marks-placed at (empties t ∷ ms) =
    let b = at + length (markup_text (empties t)) in
    omega (arith, tag-marks at t (tape_marks (placed_events b ms)), marks-placed b ms)
marks-placed at (ends n ∷ ms) = omega (arith, marks-placed (at + length (markup_text (ends n))) ms)

-- ---- the events

-- the state behind all events of a schema's text
abbrev pub behind_all : Bool → ℕ → Text → List Item → State
behind_all y k n is =
    record { reader = record { schema = record { target_namespace = n; items = is }; root_seen = true; context = Context.no_context }; events = k; open_tags = 0; by_standard = y }

-- a schema read from a cleared sheet, event numbers aside
pub record SchemaRead (y : Bool) (s : Schema) : Type 0 where
  pub read : List Item
  pub last : ℕ
  pub events : Handled (first_state y) (events_of (schema_markup s)) (behind_all y last s.target_namespace read)
  pub aside : map unnumbered_item read ≡ map unnumbered_item s.items

root-handled : (y : Bool) (n : Text) → Handled (first_state y) (event (Event.start (prefixed_tag "schema" (schema_attributes n))) ∷ []) (within y (record {
  target_namespace = n;
  items =
      [];
}) (Context.in_schema 0) 1 1)
unfolding texts parses attr prefixed_tag prefixed first_state counted rows_of items_rows context_rows namespace_row row
root-handled y n =
    one_more {open_tags = 1} {r = record { schema = record { target_namespace = n; items = [] }; root_seen = true; context = Context.in_schema 0 }} refl refl
    (below-cons (namespace_row []) (namespace_row n) (omega arith) (below-same refl)) none_left

pub schema-handled : (y : Bool) (s : Schema) → schema_ok s ≡ true → SchemaRead y s
unfolding schema_ok schema_markup parses context_rows
schema-handled y s h =
    let z : Schema = record { target_namespace = s.target_namespace; items = [] } in
    let r = items-handled y s.items z 1 (and-true-right (is_text s.target_namespace) (every item_ok s.items) h) in
    let k = r.last in
    let whole = with_items y z r.read in
    record {
      read = r.read;
      last = suc k;
      events =
          around-handled "schema" (schema_attributes s.target_namespace) (items_markup s.items) (root-handled y s.target_namespace) r.events
          (one-handled y whole whole (Context.in_schema 0) Context.no_context Event.close 1 0 k refl refl (context-below y whole (Context.in_schema 0) Context.no_context 1 k 0 (suc k)
          (below-same refl)));
      aside = r.aside;
    }

-- ---- rows

-- a state's rows are its finished rows, and behind them the open type's
pub finished-rows : (t : State) → rows_of t ≡ rows_of (finished_state t.reader.schema) ++ context_rows t.reader.context
unfolding rows_of finished_state context_rows
finished-rows t =
    let is = items_rows t.reader.schema.items in
    ap (λ (rs : List Row). namespace_row t.reader.schema.target_namespace ∷ (rs ++ context_rows t.reader.context)) (sym (append-nil is))

fits-rows : (r n : ℕ) (s t : State) → rows_of s ≡ rows_of t → state_fits r n s ≡ state_fits r n t
unfolding state_fits rows_used names_used
fits-rows r n s t e = rw e

module _ (y : Bool) (k : ℕ) (s : Schema) (is : List Item) (aside : map unnumbered_item is ≡ map unnumbered_item s.items) where
  rows_aside : rows_of (unnumbered (behind_all y k s.target_namespace is)) ≡ rows_of (unnumbered (finished_state s))
  unfolding unnumbered unnumbered_reader unnumbered_schema rows_of finished_state
  rows_aside = rw aside

  pub rows_back : map cleared_row (rows_of (behind_all y k s.target_namespace is)) ≡ map cleared_row (rows_of (finished_state s))
  rows_back = rows-cleared (behind_all y k s.target_namespace is) ∙ rows_aside ∙ sym (rows-cleared (finished_state s))

  room_back : (r n : ℕ) → state_fits r n (behind_all y k s.target_namespace is) ≡ state_fits r n (finished_state s)
  room_back r n =
      let t = behind_all y k s.target_namespace is in
      sym (room-unnumbered r n t) ∙ fits-rows r n (unnumbered t) (unnumbered (finished_state s)) rows_aside ∙ room-unnumbered r n (finished_state s)

-- ---- a schema that is held

events-length : (ms : List Markup) → length (events_of ms) ≡ length ms
unfolding events_of
events-length [] = refl
events-length (m ∷ ms) = ap suc (events-length ms)

module _ (s : Schema) (ok₁ : schema_ok s ≡ true) (held : first_unheld s ≡ none) where
  abbrev root : Tag
  root = prefixed_tag "schema" (schema_attributes s.target_namespace)

  abbrev inner : List Markup
  inner = items_markup s.items ++ ends (prefixed "schema") ∷ []

  abbrev pub tape_events : List TapeEvent
  tape_events = placed_events 0 (schema_markup s)

  fine : every markup_fine (starts root ∷ inner) ≡ true
  unfolding schema_markup around
  fine = schema-fine s ok₁ held

  root_ok : written_tag_ok root ≡ true
  unfolding markup_ok
  root_ok = every-head markup_ok (starts root) inner (markups-ok (starts root ∷ inner) fine)

  inner-ok : every markup_ok inner ≡ true
  inner-ok = every-tail markup_ok (starts root) inner (markups-ok (starts root ∷ inner) fine)

  inner-nested : nested (root.name ∷ []) inner ≡ true
  unfolding prefixed_tag
  inner-nested = schema-nested s.items (prefixed "schema")

  pub schema-text : is_text (schema_text s) ≡ true
  unfolding schema_text schema_markup around
  schema-text = markups-text (starts root ∷ inner) fine

  pub schema-document : document (schema_text s) ≡ well_formed tape_events
  unfolding schema_text schema_markup around
  schema-document = document-written root inner root_ok inner-ok inner-nested

  pub schema-records : records (schema_text s) (tape_marks tape_events) ≡ events_of (schema_markup s)
  unfolding schema_text schema_markup around
  schema-records = records-written root inner root_ok inner-ok inner-nested (markups-text (starts root ∷ inner) fine) (markups-few 0 (starts root ∷ inner) fine)

  -- ---- its tape

  module _ (marks : List ℕ) (short : length (schema_text s) ≤ 65536) (few : length marks ≤ 16384) where
    schema-taken : tape_of (schema_text s) marks ≡ tape_written (length marks) (tape_marks tape_events)
    unfolding tape_lengths taken_of
    schema-taken =
        let l = and-true (le-leb (length (schema_text s)) 65536 short) (le-leb (length marks) 16384 few) in
        tape-taken (schema_text s) marks l schema-text ∙ ap (taken_of (length marks)) schema-document

    pub tape-enough : marks_needed s ≤ length marks → (tape_of (schema_text s) marks).number ≡ accepted
    unfolding tape_written marks_needed
    tape-enough h = rw (schema-taken, le-leb (length (tape_marks tape_events)) (length marks) (omega (arith, marks-placed 0 (schema_markup s))))

    pub tape-few : length marks < marks_needed s → (tape_of (schema_text s) marks).number ≡ short_marks
    unfolding tape_written refused marks_needed
    tape-few h = rw (schema-taken, lt-leb (length (tape_marks tape_events)) (length marks) (omega (arith, marks-placed 0 (schema_markup s))))

    pub tape-used : (tape_of (schema_text s) marks).number ≡ accepted → take (tape_of (schema_text s) marks).place (tape_of (schema_text s) marks).marks ≡ tape_marks tape_events
    tape-used h =
        let (es, d, t, e) = accepted-tape (schema_text s) marks h in
        let w : es ≡ tape_events = cc (d, schema-document) in
        e ∙ ap tape_marks w

  -- ---- its reading

  module _ (lent : Lengths) (y : Bool) (short : length (schema_text s) ≤ 65536) (first : state_fits lent.rows lent.names (first_state y) ≡ true) where
    abbrev pub read_by : SchemaRead y s
    read_by = schema-handled y s ok₁

    abbrev pub last-state : State
    last-state = behind_all y read_by.last s.target_namespace read_by.read

    reads-events : read_state lent (first_state y) (schema_text s) (tape_marks tape_events) ≡ read_records lent 0 (first_state y) (events_of (schema_markup s))
    unfolding read_state
    reads-events = ap (read_records lent 0 (first_state y)) schema-records

    few-events : (first_state y).events + length (events_of (schema_markup s)) ≤ 1000000
    unfolding first_state schema_text
    few-events = omega (arith, events-length (schema_markup s), markups-long (schema_markup s))

    pub reading-accepted : state_fits lent.rows lent.names (finished_state s) ≡ true
        → read_state lent (first_state y) (schema_text s) (tape_marks tape_events) ≡ stopped 0 (length (events_of (schema_markup s))) last-state
    reading-accepted f =
        reads-events ∙ (handled-reads lent read_by.events few-events first).0 (room_back y read_by.last s read_by.read read_by.aside lent.rows lent.names ∙ f)

    pub reading-lacks : state_fits lent.rows lent.names (finished_state s) ≡ false → (read_state lent (first_state y) (schema_text s) (tape_marks tape_events)).answer.number ≡ no_room
    reading-lacks f =
        ap (λ (r : Reading). r.answer.number) reads-events
        ∙ (handled-reads lent read_by.events few-events first).1 (room_back y read_by.last s read_by.read read_by.aside lent.rows lent.names ∙ f)

    pub last-schema : unnumbered_schema s ≡ unnumbered_schema last-state.reader.schema
    unfolding unnumbered_schema
    last-schema = rw read_by.aside

    pub last-rows : map cleared_row (rows_of last-state) ≡ map cleared_row (rows_of (finished_state s))
    last-rows = rows_back y read_by.last s read_by.read read_by.aside
