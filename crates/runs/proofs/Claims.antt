-- The outer claims, each under the paper's words. What a call says of itself is `ClearIs`, `ConvertIs`, `ReadIs`, `TapeIs`, `LowerIs`, `LabelIs`, `LabelNumberIs`, `FormIs`,
-- `Reduction`, `WriteIs`, `PatternIs`, `ColumnsIs` and `RowsIs` (specs/ of xsd_types, xsd_parser, xml, ir_lower, ir_types, graph_form, ir_reduce, xsd_written, pattern
-- and columns); the code's contracts state these. A `Trace` is a list of readings and lowerings that were made one after the other on one sheet, each with what it
-- answered and by its `ReadIs` or `LowerIs`; `run` gives the same by the definition, from the first sheet alone. A `GoodStart` is a good sheet with lengths
-- within the limits. Every claim is proved below this file. Assumes nothing.
use Prim.Native.Nat.{ℕ, ◌+◌, ◌≤◌, ◌<◌}
use mathlib.Core.Path.{◌≡◌}
use mathlib.Core.Logic.{◌↔◌}
use mathlib.Core.Bool.{Bool, true, false, ◌&&◌}
use lib.Dec.{leb}
use mathlib.Core.List.{List, [], ◌++◌, map}
use lib.ListN.{length, take, drop}
use Rattle.text.specs.Text.{Text, bytes, every, is_plain, is_text, is_graph_text, local_name}
use Rattle.text.specs.Utf8.{is_point, is_graph_point, SpelledBy}
use Rattle.text.proofs.Laws.Class.{plain-text, plain-graph-text}
use Rattle.text.proofs.Laws.Utf8.{text-exactly, graph-text-exactly}
use Rattle.text.specs.Trim.{Around}
use Rattle.number.specs.Number.{parsed, plain_number, number, Spells}
use Rattle.number.proofs.Laws.Spellings.{number-kept, number-exactly}
use Rattle.builtin.specs.Builtin.{first_match, map_builtin}
use Rattle.builtin.specs.Source.{source_builtins}
use Rattle.builtin.proofs.Laws.Source.{builtin-kept}
use Rattle.names.specs.Cases.{case_table, lower_of, is_upper_char, is_lower_char, in_table}
use Rattle.names.specs.Names.{normalize_type_name, xml_to_snake_case, code_to_pascal_case}
use Rattle.names.specs.Plain.{byte_normalize, byte_snake, byte_pascal}
use Rattle.names.proofs.Laws.Rules.{table-length, case-apart, case-down}
use Rattle.names.proofs.Laws.Names.{normalize-text, snake-text, pascal-text}
use Rattle.names.proofs.Laws.Plain.{normalize-ascii, snake-ascii, pascal-ascii}
use Rattle.sheet.specs.Rows.{Row, Sheet}
use Rattle.sheet.specs.Form.{words, rows_used_of, names_used_of, tens_of}
use Rattle.sheet.specs.Returned.{accepted, malformed, doctype}
use Rattle.sheet.specs.Lengths.{sheet_lengths, Lengths, lengths_of, good_lengths, fits, Answer}
use Rattle.sheet.specs.Calls.{answered}
use Rattle.xsd_types.specs.Types.{Schema, MaxOccurs}
use Rattle.xsd_types.specs.State.{Reader, State, first_state, heads_pass, proper}
use Rattle.xsd_types.specs.Rows.{rows_of}
use Rattle.xsd_types.specs.Unnumbered.{cleared_row, unnumbered_schema, unnumbered}
use Rattle.xsd_types.proofs.Laws.Unnumbered.{rows-cleared}
use Rattle.xsd_types.specs.Row0.{row0_in}
use Rattle.xsd_types.specs.Good.{bare_good}
use Rattle.xsd_types.specs.Back.{bare_state_of}
use Rattle.xsd_types.specs.Count.{refused_types, count_in, bare, sheet_of, good, state_of}
use Rattle.xsd_types.specs.Sheet.{state_fits}
use Rattle.xsd_types.specs.Clear.{clear, ClearIs}
use Rattle.xsd_types.specs.Convert.{convert}
use Rattle.xsd_types.specs.Table.{ClearTable, ConvertTable}
use Rattle.xsd_types.specs.Choice.{no_numbers, paper_good, sheet_chosen}
use Rattle.xsd_types.proofs.Laws.Count.{good-bare, good-count, count-sheet_of, state_of-sheet_of, good-exactly, sheet_of-state_of}
use Rattle.xsd_types.proofs.Laws.Convert.{convert-table, convert-good, converted-good, converted-state, convert-twice}
use Rattle.xsd_types.proofs.Laws.Clear.{good-clear}
use Rattle.xsd_types.proofs.Laws.Table.{clear-table}
use Rattle.xsd_types.proofs.Laws.Choice.{good-before}
use Rattle.xsd_types.proofs.Laws.Whole.{plain_good, good-plain}
use Rattle.xsd_parser.specs.Event.{Tag, Event}
use Rattle.xsd_parser.specs.Kinds.{start_kind, empty_kind}
use Rattle.xsd_parser.specs.EventText.{event_ok}
use Rattle.xsd_parser.specs.Tape.{Pair, all_ascii, Judged, event, event_of, records}
use Rattle.xsd_parser.proofs.Laws.EventTexts.{ascii-whole}
use Rattle.xsd_parser.specs.Handlers.{ok, is_unbounded}
use Rattle.xsd_parser.specs.Step.{step}
use Rattle.xsd_parser.specs.Read.{read_records, read, read_state, ReadIs}
use Rattle.xsd_parser.specs.Table.{ReadTable}
use Rattle.xsd_parser.proofs.Laws.Table.{read_table}
use Rattle.xsd_parser.specs.Numbered.{read_records_by, read_state_by, unknown_number, unnumbered_reading, numbered_heads, heads_given, gave}
use Rattle.xsd_parser.specs.Children.{direct_children, child_heads, only_types}
use Rattle.xsd_parser.proofs.Laws.Cleared.{read_state-unnumbered, read_records-numbered}
use Rattle.xsd_parser.proofs.Laws.Occurs.{unbounded-exactly}
use Rattle.xsd_parser.proofs.Laws.Steps.{step-proper}
use Rattle.xsd_parser.proofs.Laws.Reads.{read_state-place}
use Rattle.xml.specs.Tape.{TapeEvent, tape_marks}
use Rattle.xml.specs.Tags.{tag}
use Rattle.xml.specs.Document.{well_formed, document, tape_of}
use Rattle.xml.specs.Accepted.{EventsAt, few_attributes, event_read, records_read, ReadsThrough}
use Rattle.xml.specs.Written.{is_name_text, written_attribute_ok, new_keys, written_tag, written_event, tagged_as}
use Rattle.xml.specs.Grammar.{AttValue, Derived, BegunByDoctype}
use Rattle.xml.specs.Call.{Readable, TapeIs}
use Rattle.xml.proofs.Laws.Grammar.Documents.{document-exactly, derived-once}
use Rattle.xml.proofs.Laws.Grammar.Taken.{taken, tape-exactly, eighteen-exactly, seventeen-exactly}
use Rattle.xml.proofs.Laws.Events.{events-at}
use Rattle.xml.proofs.Laws.Records.{tape-records}
use Rattle.xml.proofs.Laws.Reads.{tape-reads, accepted-tape}
use Rattle.xml.proofs.Laws.Written.{tag-written}
use Rattle.xml.proofs.Laws.Back.{tag_back}
use Rattle.ir_types.specs.Types.{Cardinality, TypeGraph}
use Rattle.ir_types.specs.Sheet.{graph_sheet}
use Rattle.ir_types.specs.Ok.{graph_ok}
use Rattle.ir_types.specs.Back.{graph_back}
use Rattle.ir_types.proofs.Laws.Back.{graph-back}
use Rattle.ir_types.specs.Last.{insert_all}
use Rattle.ir_types.specs.Form.{graph_form}
use Rattle.ir_types.proofs.Laws.Whole.{plain_form, form-plain}
use Rattle.ir_types.specs.Label.{label}
use Rattle.ir_types.specs.Table.{LabelTable}
use Rattle.ir_types.proofs.Laws.Table.{label-table}
use Rattle.ir_lower.specs.Lower.{lower, lower_cardinality, finished_definitions}
use Rattle.ir_lower.specs.Repeated.{heads as type_heads, FirstRepeat}
use Rattle.ir_lower.specs.Call.{lowering, scratch_least}
use Rattle.ir_lower.specs.Unnumbered.{unnumbered_lowered}
use Rattle.ir_lower.proofs.Laws.Unnumbered.{lower-unnumbered}
use Rattle.ir_lower.specs.Outcome.{LoweringAccepted, NameTwice}
use Rattle.ir_lower.specs.Table.{LoweringTable, FirstUnknown, LoweredLabels}
use Rattle.ir_lower.proofs.Laws.Table.{lowering-table, unknown-first, lowering-labels}
use Rattle.ir_lower.proofs.Laws.Cardinality.{optional-exactly, vec-exactly, bounded-exactly, required-exactly}
use Rattle.ir_lower.proofs.Laws.Names.{lowering-accepted, lowering-last, repeated-exactly, repeated-place}
use Rattle.ir_lower.proofs.Laws.Form.{lowering-form}
use Rattle.ir_lower.proofs.Laws.Count.{thirteen-exactly}
use Rattle.ir_reduce.specs.Groups.{GraphType, Parted, parted, rows_of_parted as rows_of_graph}
use Rattle.ir_reduce.specs.Reach.{In, Chain, Reduced}
use Rattle.ir_reduce.specs.Call.{in_form, Reduction}
use Rattle.ir_reduce.specs.Twice.{SameUsed}
use Rattle.ir_reduce.proofs.Laws.Reach.{reduced-exactly}
use Rattle.ir_reduce.proofs.Laws.Parted.{rows-twice}
use Rattle.ir_reduce.proofs.Laws.Once.{reduction-once}
use Rattle.ir_reduce.proofs.Laws.Twice.{reduced-form, no-twenty_one, sheet-twice, room-again}
use Rattle.pattern.specs.Grammar.{Derives, reg_exp}
use Rattle.pattern.specs.Scan.{start, go, scan}
use Rattle.pattern.specs.Call.{Verdict}
use Rattle.pattern.proofs.Laws.One.{verdict-one, scan-exactly}
use Rattle.xsd_written.specs.Call.{holds, Wrote, write_back, WriteIs}
use Rattle.xsd_written.specs.Round.{SameFinished, SameNumbers, written_text, read_written, RoundTrip}
use Rattle.xsd_written.proofs.Laws.Finished.{finished-numbers}
use Rattle.xsd_written.specs.Table.{WriteTable}
use Rattle.xsd_written.proofs.Laws.Values.{held-exactly}
use Rattle.xsd_written.proofs.Laws.Table.{write-exactly}
use Rattle.columns.specs.Columns.{columns_of, rows_of_columns}
use Rattle.columns.proofs.Laws.Calls.{rows_back, columns-back}
use Rattle.runs.specs.Runs.{Call, Answered, GoodStart, Ran, run}
use Rattle.runs.specs.Trace.{Trace}
use Rattle.runs.specs.Cuts.{Job, jobs_done, jobs_judged, jobs_of, CutInto, CutAlike}
use Rattle.runs.specs.Joined.{joined, accepted_events, after_records}
use Rattle.runs.specs.Notes.{AlikeCalls, meets_none, AlikeRuns, sheets_of, sheets_made}
use Rattle.runs.proofs.NoTwo.{NoneTwo, no-two}
use Rattle.runs.proofs.Runs.{runs}
use Rattle.runs.proofs.Joined.{last-joined, made-joined}
use Rattle.runs.proofs.Converted.{converted-run}
use Rattle.runs.proofs.Carried.{carried-run}
use Rattle.runs.proofs.Again.{cut-self, cut-again}
use Rattle.runs.proofs.Cuts.{cut-run, cut-made, cut-joined}
use Rattle.runs.proofs.Choices.{run-choice}
use Rattle.runs.proofs.Both.{cleared-runs}
use Rattle.runs.proofs.Accepted.{run-children}
use Rattle.runs.proofs.Notes.{notes-nothing, notes-made}
use Rattle.ir_types.specs.Rows.{rows_of as graph_rows_of}
use Rattle.ir_types.specs.Unnumbered.{unnumbered_graph}
use Rattle.runs.specs.Cleared.{cleared_graph_row, StoredEarlier, run_before, RunCleared}
use Rattle.runs.proofs.Cleared.{graph-cleared, sheet-cleared}
use Rattle.runs.proofs.Stored.{stored-run}
use mathlib.Core.Option.{some}
use Rattle.runs.specs.Given.{GraphPasses}
use Rattle.runs.proofs.Given.{graph-passes}
use Rattle.runs.proofs.Written.{round_trip, round-made}
use Rattle.runs.proofs.Reduced.{lowering-in-form}

-- "A sheet is good if it has this form, ..": exactly the sheets of proper states
pub claim-good : (x : Sheet) → words x.rows ≡ true
    → (good x ≡ true) ↔ ((s : State) × (proper s ≡ true) × (state_fits (length x.rows) (length x.names) s ≡ true)
    × (sheet_of s (length x.rows) (length x.names) ≡ x))
claim-good = good-exactly

-- the state can be read back, and reading back and writing gives the same sheet
pub claim-back : (s : State) (r n : ℕ) → proper s ≡ true → state_fits r n s ≡ true → state_of (sheet_of s r n) ≡ s
claim-back = state_of-sheet_of

pub claim-again : (x : Sheet) → words x.rows ≡ true → good x ≡ true → sheet_of (state_of x) (length x.rows) (length x.names) ≡ x
claim-again = sheet_of-state_of

-- "A number comes under its row's condition and under no other": every call ends in one case of its table, each case with its own condition, those before it
-- failing, its place and all that is left
pub claim-clear-table : (choice : ℕ) (x : Sheet) → ClearTable choice x (clear choice x)
claim-clear-table = clear-table

pub claim-read-table : (x : Sheet) (text : Text) (marks : List ℕ) → ReadTable x text marks (read x text marks)
claim-read-table = read_table

pub claim-lower-table : (x graph : Sheet) (scratch : List ℕ) → LoweringTable x graph scratch (lowering x graph scratch)
claim-lower-table = lowering-table

pub claim-label-table : (rows names words : List ℕ) (k : ℕ) → LabelTable rows names words k (label rows names words k)
claim-label-table = label-table

-- "**The label call** gives a row's type reference": on an accepted graph, for every row
pub claim-labels : (x graph : Sheet) (scratch words : List ℕ) → (lowering x graph scratch).answer.number ≡ 0
    → LoweredLabels (state_of x).reader.schema (lowering x graph scratch).graph words
claim-labels = lowering-labels

-- "A cleared sheet is good"
pub claim-cleared-good : (choice : ℕ) (x : Sheet) → sheet_lengths (length x.rows) (length x.names) && leb choice 1 ≡ true → good (clear choice x).sheet ≡ true
claim-cleared-good = good-clear

-- 13: "place is the row of the first such simple type"
pub claim-unknown-place : (x graph : Sheet) (scratch : List ℕ) → (lowering x graph scratch).answer.number ≡ 13
    → FirstUnknown 2 (state_of x).reader.schema.items (lowering x graph scratch).answer.place
claim-unknown-place = unknown-first

-- each event keeps a proper state proper
pub claim-event : (lent : Lengths) (s : State) (e : Event) (s' : State) → proper s ≡ true → event_ok e ≡ true → step lent s e ≡ ok s' → proper s' ≡ true
claim-event = step-proper

-- "Demand 3 is one claim about the list": the answers of the calls made, a refused event's number in the run among them, and the last sheet are the
-- definition's, from every first sheet
pub claim-runs : {x x' : Sheet} {calls : List Call} {answers : List Answered} → words x.rows ≡ true → Trace x calls answers x'
    → ◌≡◌ {A = Ran} (record { answers = answers; last = x' }) (run x calls)
claim-runs = runs

-- "Events joined are the records so judged." From a good sheet the last sheet is that of the first state after them, one after the other, wherever the
-- pieces ended: by the definition, and for the calls made
pub claim-joined : (x : Sheet) (calls : List Call) → GoodStart x
    → (run x calls).last ≡ sheet_of (after_records (lengths_of x) (state_of x) (joined x calls)) (length x.rows) (length x.names)
claim-joined x calls g = last-joined x calls g.lengths g.is_good

pub claim-joined-made : {x x' : Sheet} {calls : List Call} {answers : List Answered} → words x.rows ≡ true → GoodStart x
    → Trace x calls answers x' → x' ≡ sheet_of (after_records (lengths_of x) (state_of x) (joined x calls)) (length x.rows) (length x.names)
claim-joined-made w g made = made-joined w g.lengths g.is_good made

-- "From a good sheet no call of the run gives 2."
pub claim-no-two : (x : Sheet) (calls : List Call) → good x ≡ true → NoneTwo (run x calls).answers
claim-no-two = no-two

-- "Added to events done before the call, it is the number in the run."
pub claim-number : (lent : Lengths) (s : State) (text : Text) (marks : List ℕ) → s.events + (read_state lent s text marks).answer.place ≡ (read_state lent s text marks).state.events
claim-number = read_state-place

-- "where no reading meets 1, a tape may be cut between any events over the same text: up to its first refused event the sheet is the same, and that
-- event has the same refusal and the same number in the run". "Past it the cut counts, since it decides what is dropped": any number of tapes, each of any
-- length and in any number of pieces, any calls between them that pass by (lowerings, readings that meet 1), end as the tapes read whole; by the definition, and for the calls made
pub claim-cut : (x : Sheet) (jobs : List Job) (calls : List Call) → GoodStart x → CutInto (lengths_of x) (state_of x) jobs calls
    → CutAlike (lengths_of x) (jobs_done (lengths_of x) (state_of x) jobs) (run x calls)
claim-cut x jobs calls g = cut-run x jobs calls g.lengths g.is_good

pub claim-cut-made : {x x' : Sheet} {jobs : List Job} {calls : List Call} {answers : List Answered} → words x.rows ≡ true → GoodStart x
    → CutInto (lengths_of x) (state_of x) jobs calls → Trace x calls answers x' → CutAlike (lengths_of x) (jobs_done (lengths_of x) (state_of x) jobs) (record { answers = answers; last = x' })
claim-cut-made w g = cut-made w g.lengths g.is_good

-- the events joined are those of the tapes, wherever the pieces end
pub claim-joined-cut : (x : Sheet) (jobs : List Job) (calls : List Call) → GoodStart x → CutInto (lengths_of x) (state_of x) jobs calls
    → joined x calls ≡ jobs_judged (lengths_of x) (state_of x) jobs
claim-joined-cut x jobs calls g = cut-joined x jobs calls g.lengths g.is_good

-- calls cut elsewhere may be cut again: any calls do the jobs that they are as they stand, and calls that do these do the jobs that the first calls did
pub claim-cut-self : (lent : Lengths) (s : State) (calls : List Call) → CutInto lent s (jobs_of calls) calls
claim-cut-self = cut-self

pub claim-cut-again : {lent : Lengths} {s : State} {jobs : List Job} {calls again : List Call} → CutInto lent s jobs calls → CutInto lent s (jobs_of calls) again → CutInto lent s jobs again
claim-cut-again = cut-again

-- order 2, "The number leaf takes both from now on, a minus only before zeros": a text accepted before keeps its value. What is accepted is white space around
-- a text accepted before or around minus zeros, or such a text alone, at every width; what is new is `-` before zeros and white space around either
pub claim-number-kept : (w : ℕ) (s : Text) (v : ℕ) → plain_number w s ≡ parsed v → number w s ≡ parsed v
claim-number-kept = number-kept

pub claim-number-exactly : (w : ℕ) (s : Text) (v : ℕ) → (number w s ≡ parsed v) ↔ ((core : Text) × Around core s × Spells w core v)
claim-number-exactly = number-exactly

-- order 2, "`unbounded` may have white space around it too", and nothing else is unbounded
pub claim-unbounded : (v : Text) → (is_unbounded v ≡ true) ↔ Around (bytes "unbounded") v
claim-unbounded = unbounded-exactly

-- order 1: "by XML 1.0 (Fifth Edition)": a text is accepted exactly if it derives a document by the productions, and the events are the derivation's tags in
-- order, so that "close names compared, keys unique" and none is left out or invented; a text has at most one list of events
pub claim-document : (text : Text) (es : List TapeEvent) → (document text ≡ well_formed es) ↔ Derived text es
claim-document = document-exactly

pub claim-document-once : {text : Text} {es fs : List TapeEvent} → Derived text es → Derived text fs → es ≡ fs
claim-document-once = derived-once

-- order 1, "18 the bytes `<!DOCTYPE` with only a well-formed prolog, or nothing, before them", behind 1 and 5
pub claim-doctype : (text : Text) (before : List ℕ) → ((tape_of text before).number ≡ doctype) ↔ (Readable text before × BegunByDoctype text)
claim-doctype = eighteen-exactly

-- order 1, "17 not well formed": a text of order 12, not 18, and no derivation
pub claim-malformed : (text : Text) (before : List ℕ)
    → ((tape_of text before).number ≡ malformed) ↔ (Readable text before × (BegunByDoctype text → ⊥) × ((es : List TapeEvent) → Derived text es → ⊥))
claim-malformed = seventeen-exactly

-- order 1, "order 1, 5 for any byte above 127, 18, 17, 19, marks zero from 5 on; accepted, place is the marks used and the rest are zero": what the call says of
-- itself, by the productions alone, fixes number, place and every mark
pub claim-tape-is : (text : Text) (before : List ℕ) (number place : ℕ) (after : List ℕ) → TapeIs text before number place after ↔ (taken number place after ≡ tape_of text before)
claim-tape-is = tape-exactly

-- order 1, "accepted, place is the marks used": an accepted tape is that of a well-formed text, up to its place
pub claim-tape : (text : Text) (before : List ℕ) → (tape_of text before).number ≡ accepted → (es : List TapeEvent) × (document text ≡ well_formed es) × (is_text text ≡ true)
    × (take (tape_of text before).place (tape_of text before).marks ≡ tape_marks es)
claim-tape = accepted-tape

-- order 1, "a tape whose pairs point into it": under each pair stands the name or the value that the production has at that place
pub claim-tape-pairs : (text : Text) (es : List TapeEvent) → document text ≡ well_formed es → EventsAt text es
claim-tape-pairs = events-at

-- order 1, "Over 32 attributes are written too, for reading to refuse": such a tape, read whole with its text, is read as its events; with at most 32 attributes
-- it meets none of 3, 4 and 5
pub claim-tape-records : (text : Text) (es : List TapeEvent) → document text ≡ well_formed es → is_text text ≡ true
    → every few_attributes es ≡ true → records text (tape_marks es) ≡ records_read text es
claim-tape-records = tape-records

-- order 1, "The text must be whole; unclosed tags .. are malformed here": nor does it meet 6, from any state, and where it is accepted as many tags are open as before
pub claim-tape-read : (lent : Lengths) (s : State) (text : Text) (es : List TapeEvent) → document text ≡ well_formed es → is_text text ≡ true
    → every few_attributes es ≡ true → ReadsThrough s.open_tags (read_state lent s text (tape_marks es))
claim-tape-read = tape-reads

-- order 8, "Read into a cleared sheet through order 1": a tag written by the productions is read as that tag, whatever stands behind it
pub claim-tag-written : (at kind : ℕ) (t : Tag) (rest : Text) → start_kind ≤ kind → kind ≤ empty_kind → is_name_text t.name ≡ true
    → every written_attribute_ok t.attributes ≡ true → new_keys [] t.attributes ≡ true → tag at (written_tag kind t ++ rest) ≡ tagged_as at kind t rest
claim-tag-written = tag-written

-- order 1, "a tape whose pairs point into it": the pairs of what such a tag is read as stand for the tag's own texts
pub claim-tag-back : (text : Text) (at kind : ℕ) (t : Tag) (rest : Text) → drop at text ≡ written_tag kind t ++ rest → event_read text (written_event at kind t) ≡ event_of kind t
claim-tag-back = tag_back

-- order 8, "1 (over 65,536 bytes of text lent too), 2, 12, 22, 23, text zero from 12 on; accepted, place is the length and the rest is zero"
-- exactly what the table says, 22 by the grammar of XML 1.0
pub claim-write-table : (x : Sheet) (before : List ℕ) (w : Wrote) → WriteTable x before w ↔ (w ≡ write_back x before)
claim-write-table = write-exactly

-- order 8, 22, "a value XML 1.0 cannot hold in an attribute": what is held is exactly what stands between the quotes of a derived AttValue
pub claim-held : (v : Text) → (holds v ≡ true) ↔ ((w : Text) × AttValue v w)
claim-held = held-exactly

-- order 8, "Read into a cleared sheet through order 1 and the event reader, under either choice of order 3, where marks and sheet have the room, it gives the same
-- finished rows and names, event numbers aside": where they have not, the numbers are 19 and 11, and no other is met
pub claim-written-back : (x y : Sheet) (choice : ℕ) (lent marks : List ℕ) → words x.rows ≡ true → (write_back x lent).number ≡ accepted → (clear choice y).answer.number ≡ accepted
    → length marks ≤ 16384 → let text = written_text x lent in RoundTrip x y (length marks) (tape_of text marks).number (read_written y choice text marks)
claim-written-back = round_trip

-- "it gives the same finished rows and names, event numbers aside", of any four such calls, by what they say of themselves
pub claim-written-made : (x y y' z : Sheet) (choice place number used k : ℕ) (lent text marks tape : List ℕ) (a : Answer) → WriteIs x lent accepted place text
    → ClearIs choice y (answered accepted k) y' → TapeIs (take place text) marks number used tape → ReadIs y' (take place text) (take used tape) a z
    → words x.rows ≡ true → length marks ≤ 16384 → RoundTrip x y (length marks) number (record { answer = a; sheet = z })
claim-written-made = round-made

-- order 8, "the same finished rows and names, event numbers aside": two sheets with the same finished part have the same numbers and bytes up to where those of
-- the second are used, but for c of heads
pub claim-written-numbers : (x y : Sheet) → words x.rows ≡ true → words y.rows ≡ true → good x ≡ true → good y ≡ true → SameFinished x y → SameNumbers x y
claim-written-numbers = finished-numbers

-- order 3, "0 as before", and order 5, "sheets stored earlier, which stay good": the sheets that paper 01 calls good are those that are good now, but for order 7's
-- count, with choice 0, no number in c and 0 for the count
pub claim-good-before : (x : Sheet) → (paper_good x ≡ true) ↔ ((bare_good x ≡ true) × ((bare_state_of x).by_standard ≡ false) × (no_numbers (tens_of x) ≡ true))
claim-good-before = good-before

-- order 3, "kept as the last number of row 0": no call changes it, refused or not, from every first sheet
pub claim-choice-kept : (x : Sheet) (calls : List Call) → (row0_in (run x calls).last).choice ≡ (row0_in x).choice
claim-choice-kept = run-choice

-- order 3, with choice 1 "only its direct children become elements or types": of the accepted events of every run from a cleared sheet, in any pieces, refused events
-- and refused calls among them
pub claim-children : (x : Sheet) (calls : List Call) → (clear 1 x).answer.number ≡ 0
    → child_heads (state_of (run (clear 1 x).sheet calls).last).reader ≡ direct_children (map event (accepted_events (lengths_of x) (first_state true) (joined (clear 1 x).sheet calls)))
claim-children = run-children

-- order 3, "any close there leads to context 0. Part 1 has the schema end at its own tag": where of the accepted events of a run only types are started directly below
-- the schema, so that its own close is the only one in context 1, both choices answer the same, call by call, refused events and refused calls among them, and
-- leave the same sheet but for the last number of row 0
pub claim-both-choices : (x : Sheet) (calls : List Call) → (clear 0 x).answer.number ≡ 0
    → only_types (map event (accepted_events (lengths_of x) (first_state false) (joined (clear 0 x).sheet calls))) ≡ true
    → let r = run (clear 0 x).sheet calls in run (clear 1 x).sheet calls ≡ record { answers = r.answers; last = sheet_chosen true r.last }
claim-both-choices = cleared-runs

-- order 5, "Equality with the Rust leaves the heads' c out .. New numbers: none": with c cleared everywhere, reading and lowering are those of before. A state
-- without numbers has the state's rows, without order 7's count, with c of every head cleared. Sheets, and the claims on cutting, are with c: a cut changes none
pub claim-cleared-rows : (s : State) → map cleared_row (rows_of s) ≡ rows_of (unnumbered s)
claim-cleared-rows = rows-cleared

-- order 5, "leaves the heads' c out": a reading without numbers from the state without numbers answers the same and leaves the state of the reading, without numbers
pub claim-cleared-read : (lent : Lengths) (s : State) (text : Text) (marks : List ℕ) → unnumbered_reading (read_state lent s text marks) ≡ read_state_by unknown_number lent (unnumbered s) text marks
claim-cleared-read = read_state-unnumbered

-- order 5, "carries in c the number in the run": reading by a numbering is reading where the numbering gives the events done
pub claim-numbered-read : (lent : Lengths) (n : ℕ) (s : State) (js : List Judged) → read_records_by (λ k. k) lent n s js ≡ read_records lent n s js
claim-numbered-read = read_records-numbered

-- order 5, "leaves the heads' c out": a schema without numbers is lowered to the graph without numbers
pub claim-cleared-lower : (s : Schema) → unnumbered_lowered (lower s) ≡ lower (unnumbered_schema s)
claim-cleared-lower = lower-unnumbered

-- order 5, "(.. graph tags 2 to 8)": the rows of a graph without numbers are the graph's with c of roots and types cleared; and calls and runs on a state
-- without numbers, numbered as before the order, answer as those on the state: numbers, places, 13's and 20's among them, the number in the run; graphs and
-- last sheet are cleared
pub claim-cleared-graph : (g : TypeGraph) → map cleared_graph_row (graph_rows_of g) ≡ graph_rows_of (unnumbered_graph g)
claim-cleared-graph = graph-cleared

pub claim-cleared-run : (x : Sheet) (calls : List Call) → GoodStart x
    → RunCleared (lengths_of x) (run x calls) (run_before calls (lengths_of x) (unnumbered (state_of x)))
claim-cleared-run x calls g = sheet-cleared x calls g.lengths g.is_good

-- order 5, "Zero means unknown, as in sheets stored earlier, which stay good", "A sheet stored earlier counts as the one its run began with, its events done and its
-- zeros kept": from every good sheet the last sheet of a run is good; its heads are those of the first one, each with the c that it had there, 0 too, and behind
-- them those that the run's events gave, each with its event's number in the run, which is not below the events done
pub claim-stored : (x : Sheet) (calls : List Call) → words x.rows ≡ true → GoodStart x
    → StoredEarlier x (run x calls).last (heads_given (lengths_of x) (state_of x).events (state_of x) (joined x calls))
claim-stored = stored-run

-- order 5, "Every head .. carries in c the number in the run of the event that gave it its name": the heads of the last sheet of a run from a cleared one, in order,
-- with their names and c, are those that the accepted events gave: each by a start or empty tag of that name, whose number in the run is c, and in whose handling
-- the head was made. So no head has the number of a field's tag, of the same name or not; `claim-graph-names` carries that to the graph
pub claim-carried : (by_standard : Bool) (x : Sheet) (calls : List Call) → GoodStart x → state_of x ≡ first_state by_standard
    → (s : State) × ((run x calls).last ≡ sheet_of s (length x.rows) (length x.names))
    × (let given = heads_given (lengths_of x) 0 (first_state by_standard) (joined x calls) in (numbered_heads s.reader ≡ given) × (heads_pass (gave given) s.reader ≡ true))
claim-carried = carried-run

-- order 5, "Every head of both sheets": what the names and numbers of a state's heads pass, those of its graph pass, a type's by its name in the schema
pub claim-graph-names : (p : Text → ℕ → Bool) (r : Reader) (g : TypeGraph) → heads_pass p r ≡ true → lower r.schema ≡ some g → GraphPasses p g
claim-graph-names = graph-passes

-- "min 0 and max 1 optional", and nothing else is
pub claim-optional : (min : ℕ) (max : MaxOccurs) → (lower_cardinality min max ≡ Cardinality.optional) ↔ ((min ≡ 0) × (max ≡ MaxOccurs.bounded 1))
claim-optional = optional-exactly

-- "max above 1 bounded"; "all else required": a max of at most 1, but for min 0 with max 1
pub claim-bounded : (min : ℕ) (max : MaxOccurs) (n : ℕ) → (lower_cardinality min max ≡ Cardinality.bounded_vec n) ↔ ((max ≡ MaxOccurs.bounded n) × (1 < n))
claim-bounded = bounded-exactly

pub claim-required : (min n : ℕ) → (lower_cardinality min (MaxOccurs.bounded n) ≡ Cardinality.required) ↔ ((n ≤ 1) × ((min ≡ 0) × (n ≡ 1) → ⊥))
claim-required = required-exactly

-- "unbounded gives vec", and nothing else does
pub claim-vec : (min : ℕ) (max : MaxOccurs) → (lower_cardinality min max ≡ Cardinality.vec) ↔ (max ≡ MaxOccurs.unbounded)
claim-vec = vec-exactly

-- order 4, "Lowering refuses when two finished types normalise to the same name": in an accepted lowering the names are distinct, and the types are all
-- finished types in lowering's order
pub claim-types : (x graph : Sheet) (scratch : List ℕ) → (lowering x graph scratch).answer.number ≡ 0 → LoweringAccepted (state_of x).reader.schema graph (lowering x graph scratch)
claim-types = lowering-accepted

-- order 4, "The last-definition rule then touches no accepted sheet": by paper 01's rule the types would be the same
pub claim-last : (x graph : Sheet) (scratch : List ℕ) → (lowering x graph scratch).answer.number ≡ 0
    → insert_all (finished_definitions (state_of x).reader.schema) [] ≡ finished_definitions (state_of x).reader.schema
claim-last = lowering-last

-- order 4, "New numbers: 20, between 13 and 15": exactly where 1, 2, 14, 12 and 13 do not come and "two finished types normalise to the same name"
pub claim-repeated : (x graph : Sheet) (scratch : List ℕ) → ((lowering x graph scratch).answer.number ≡ 20) ↔ NameTwice x graph scratch
claim-repeated = repeated-exactly

-- order 4, "the place is the row of the first head, in lowering's order, whose name came before"
pub claim-repeated-place : (x graph : Sheet) (scratch : List ℕ) → (lowering x graph scratch).answer.number ≡ 20
    → FirstRepeat [] (type_heads 2 (state_of x).reader.schema.items) (lowering x graph scratch).answer.place
claim-repeated-place = repeated-place

-- a graph sheet can be read back, as a schema sheet can
pub claim-graph-back : (g : TypeGraph) (r n : ℕ) → graph_ok g ≡ true → graph_back (graph_sheet g r n) ≡ g
claim-graph-back = graph-back

-- order 6, "paper 01's graph form (tag 5 with a 1 to 5, any c in heads, any number of children; what names say is not judged)": what lowering writes has it
pub claim-form : (x graph : Sheet) (scratch : List ℕ) → words x.rows ≡ true → (lowering x graph scratch).answer.number ≡ 0 → graph_form (lowering x graph scratch).graph ≡ true
claim-form = lowering-form

-- order 6, only what the message uses: "The answer is shown against chains, with a definition that does not search". What the call says of itself is
-- `Reduction` (specs/ of ir_reduce); it fixes number, place, and every number and byte of the target
pub claim-reduction-once : {x target y z : Sheet} {a b : Answer} → Reduction x target a y → Reduction x target b z → (a ≡ b) × (y ≡ z)
claim-reduction-once = reduction-once

-- order 6, "exactly the types that some chain of references reaches from a root": a type is among those kept exactly if there is a chain to it
pub claim-reduced : {p q : Parted} → Reduced p q → (t : GraphType) → In t q.types ↔ Chain p t
claim-reduced = reduced-exactly

-- order 6, "reducing twice equals reducing once": the rows of what is kept, parted and reduced again
pub claim-reduced-twice : (rs : List Row) {q r : Parted} → Reduced (parted rs) q → Reduced (parted (rows_of_graph q)) r → r ≡ q
claim-reduced-twice = rows-twice

-- and the sheet that is left: it is in the form, "in paper 01's graph form" and without "two types of one name". 21 is for no such sheet, so a call on it never gives 21
pub claim-reduced-form : {x target y : Sheet} {a : Answer} → Reduction x target a y → a.number ≡ 0 → in_form y ≡ true
claim-reduced-form = reduced-form

pub claim-no-twenty_one : {x target y : Sheet} {a : Answer} → Reduction x target a y → in_form x ≡ true → a.number ≡ 21 → ⊥
claim-no-twenty_one = no-twenty_one

-- "reducing twice equals reducing once", on sheets: a call on the sheet that is left, with a target whose lengths no call refuses and that has room for the used rows and
-- names, gives 0 and the same place, and leaves the same used rows and names; where the target has the same lengths, the same sheet
pub claim-reduced-sheet-twice : {x target y again z : Sheet} {a b : Answer} → Reduction x target a y → a.number ≡ 0 → sheet_lengths (length again.rows) (length again.names) ≡ true
    → fits (rows_used_of y) (names_used_of y) (length again.rows) (length again.names) ≡ true → Reduction y again b z → (b ≡ a) × SameUsed y z
claim-reduced-sheet-twice = sheet-twice

-- a target of at least the lengths of the first has that room
pub claim-reduced-room : {x target y : Sheet} {a : Answer} (r n : ℕ) → Reduction x target a y → a.number ≡ 0 → length target.rows ≤ r → length target.names ≤ n
    → fits (rows_used_of y) (names_used_of y) r n ≡ true
claim-reduced-room = room-again

-- order 6, "21 not in paper 01's graph form .., or two types of one name": what lowering writes never gives 21
pub claim-lowered-in-form : (x graph : Sheet) (scratch : List ℕ) → words x.rows ≡ true → (lowering x graph scratch).answer.number ≡ 0 → in_form (lowering x graph scratch).graph ≡ true
claim-lowered-in-form = lowering-in-form

-- order 7, the count: "how many finished simple types lowering would refuse by 13 .. Keep that count in row 1 under a. Each event keeps it right, and a sheet is good
-- only if it is": in a good sheet, and in that of every state that an event leads to
pub claim-count-good : (x : Sheet) → good x ≡ true → count_in x ≡ refused_types (state_of x).reader.schema.items
claim-count-good = good-count

pub claim-count-kept : (s : State) (r n : ℕ) → state_fits r n s ≡ true → count_in (sheet_of s r n) ≡ refused_types s.reader.schema.items
claim-count-kept = count-sheet_of

-- order 7, "Keep that count in row 1 under a": but for it a good sheet is as it was before the order
pub claim-count-bare : (x : Sheet) → good x ≡ true → bare_good (bare x) ≡ true
claim-count-bare = good-bare

-- order 7, "how many finished simple types lowering would refuse by 13": where 1, 2, 14 and 12 do not come, 13 comes exactly if a of row 1 is above 0
pub claim-red-light : (x graph : Sheet) (scratch : List ℕ) → good_lengths (lengths_of x) && good_lengths (lengths_of graph) ≡ true → good x ≡ true
    → (state_of x).reader.root_seen ≡ true → scratch_least ≤ length scratch
    → ((lowering x graph scratch).answer.number ≡ 13) ↔ (0 < count_in x)
claim-red-light = thirteen-exactly

-- order 7, "A conversion .. gives 1, or 2 for any other fault, and then changes nothing"
pub claim-convert-table : (x : Sheet) → ConvertTable x (convert x)
claim-convert-table = convert-table

-- order 7, "A conversion takes sheets with 0 there, or the right count, and fills it in": what it gives is good
pub claim-converted-good : (x : Sheet) → (convert x).answer.number ≡ 0 → good (convert x).sheet ≡ true
claim-converted-good = converted-good

-- order 7, "or the right count": a good sheet stays
pub claim-convert-good : (x : Sheet) → good x ≡ true → (convert x).sheet ≡ x
claim-convert-good = convert-good

-- order 7, "and fills it in": converting twice is converting once
pub claim-convert-twice : (x : Sheet) → (convert (convert x).sheet).sheet ≡ (convert x).sheet
claim-convert-twice = convert-twice

-- order 7, "a converted sheet, too, counts as the one its run began with": it holds the state that was stored, its events done among it, and a run from it goes
-- on from there
pub claim-converted-state : (x : Sheet) → state_of (convert x).sheet ≡ state_of x
claim-converted-state = converted-state

pub claim-converted-run : (x : Sheet) (calls : List Call) → (convert x).answer.number ≡ 0
    → (run (convert x).sheet calls).last ≡ sheet_of (after_records (lengths_of x) (state_of x) (joined (convert x).sheet calls)) (length x.rows) (length x.names)
claim-converted-run = converted-run

-- order 13, patterns: exactly one number fits every pattern, "order 1 for length, 5 for a byte above 127, 25, 24"
pub claim-pattern-one : (s : Text) → (n : ℕ) × Verdict s n × ((m : ℕ) → Verdict s m → m ≡ n)
claim-pattern-one = verdict-one

-- order 13, "Accepted means a derivation exists by the productions alone, refused that none does": the recogniser is the grammar, what it takes has a
-- derivation by the productions, and what has one it takes
pub claim-pattern-scan : (s : Text) → (scan (go 0 start) s ≡ true) ↔ Derives reg_exp s
claim-pattern-scan = scan-exactly

-- order 14, notes change nothing. "Compare two runs of the same number of events, cut alike, lowerings at the same places, from equal sheets, lent equal lengths
-- .. If neither run meets 1, 3, 4 or 5, numbers, places and sheets are equal at every step, and graphs unless lowering gives 2 or 14": from every first sheet,
-- by the definition, and for the calls made
pub claim-notes : {cs cs' : List Call} (x : Sheet) → AlikeCalls cs cs' → meets_none (run x cs).answers ≡ true → meets_none (run x cs').answers ≡ true
    → AlikeRuns (run x cs) (run x cs') (sheets_of x cs) (sheets_of x cs')
claim-notes = notes-nothing

pub claim-notes-made : {x x₁ x₂ : Sheet} {cs cs' : List Call} {xs ys : List Answered} → words x.rows ≡ true → AlikeCalls cs cs'
    → (made₁ : Trace x cs xs x₁) (made₂ : Trace x cs' ys x₂) → meets_none xs ≡ true → meets_none ys ≡ true
    → AlikeRuns (record { answers = xs; last = x₁ }) (record { answers = ys; last = x₂ }) (sheets_made made₁) (sheets_made made₂)
claim-notes-made = notes-made

-- order 9: "The answer .. stays the same for every name": as by the list of 001
pub claim-builtin-kept : (name : Text) → map_builtin name ≡ first_match (local_name name) source_builtins
claim-builtin-kept = builtin-kept

-- order 10, columns: "Both work for every rectangle of u32 within the length limits, each undoes the other". The calls say of themselves `ColumnsIs` and
-- `RowsIs` (specs/ of columns): what is accepted writes `columns_of` or `rows_of` of its source
pub claim-rows-back : (rows : List ℕ) → words rows ≡ true → sheet_lengths (length rows) 0 ≡ true → rows_of_columns (columns_of rows) ≡ rows
claim-rows-back = rows_back

pub claim-columns-back : (columns : List ℕ) → words columns ≡ true → sheet_lengths (length columns) 0 ≡ true → columns_of (rows_of_columns columns) ≡ columns
claim-columns-back = columns-back

-- order 12, "Accept UTF-8 for code points U+0080 to U+017F": a text is exactly the UTF-8 of code points below U+0180; "in graphs also U+02BC, U+0307 and U+039C"
pub claim-text : (s : Text) → (is_text s ≡ true) ↔ SpelledBy is_point s
claim-text = text-exactly

pub claim-graph-text : (s : Text) → (is_graph_text s ≡ true) ↔ SpelledBy is_graph_point s
claim-graph-text = graph-text-exactly

-- order 12, everything of before for texts below 128: they are texts, 5 is refused for none of their pairs, and where the used names are such, a schema sheet is
-- good and a graph sheet is in the form by the tests of before, which asked that and nothing else of them
pub claim-text-ascii : (s : Text) → is_plain s ≡ true → (is_text s ≡ true) × (is_graph_text s ≡ true)
claim-text-ascii s e = (plain-text s e, plain-graph-text s e)

pub claim-pairs-ascii : (text : Text) → is_plain text ≡ true → (ps : List Pair) → all_ascii text ps ≡ true
claim-pairs-ascii = ascii-whole

pub claim-good-ascii : (x : Sheet) → is_plain (take (names_used_of x) x.names) ≡ true → bare_good x ≡ plain_good x
claim-good-ascii = good-plain

pub claim-form-ascii : (x : Sheet) → is_plain (take (names_used_of x) x.names) ≡ true → graph_form x ≡ plain_form x
claim-form-ascii = form-plain

-- order 12: "Case comes from a table of 256 code points"; "Over the whole table: no letter is both upper and lower, and the lower form of an upper letter, if itself in
-- the table, is a lower letter." A character is its bytes, below 128 one of ASCII.
pub claim-case-table : length case_table ≡ 256
claim-case-table = table-length

pub claim-case-apart : (c : Text) → is_upper_char c && is_lower_char c ≡ false
claim-case-apart = case-apart

pub claim-case-down : (c : Text) → is_upper_char c ≡ true → in_table (lower_of c) ≡ true → is_lower_char (lower_of c) ≡ true
claim-case-down = case-down

-- what the conversions of names give is a text of graphs; on texts below 128 each conversion is the one of before, byte by byte
pub claim-names-text : (s : Text) → is_text s ≡ true
    → (is_graph_text (normalize_type_name s) ≡ true) × (is_graph_text (xml_to_snake_case s) ≡ true) × (is_graph_text (code_to_pascal_case s) ≡ true)
claim-names-text s e = (normalize-text s e, snake-text s e, pascal-text s e)

pub claim-normalize-ascii : (s : Text) → is_plain s ≡ true → normalize_type_name s ≡ byte_normalize s
claim-normalize-ascii = normalize-ascii

pub claim-snake-ascii : (s : Text) → is_plain s ≡ true → xml_to_snake_case s ≡ byte_snake s
claim-snake-ascii = snake-ascii

pub claim-pascal-ascii : (s : Text) → is_plain s ≡ true → code_to_pascal_case s ≡ byte_pascal s
claim-pascal-ascii = pascal-ascii
