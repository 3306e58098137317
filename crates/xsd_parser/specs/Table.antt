-- Paper 01, "Returned numbers", for a reading: "A number comes under its row's condition and under no other." Each row of the table is one case, with its own
-- condition, those before it in the paper's order failing, its place and what is left.
--     RecordTable text marks k     the first record of the marks is refused with k: 3, 4 or 5
--     EventTable lent s e k        the event e is refused with k in the state s: 8, then 6 or 7, 9, 10, 11
--     ReadsOn lent text n s marks r    the records of the marks judged in order from the state s, n events of the piece read before; r is how it ends
--     ReadTable x text marks r     the call: 1, 2, then event by event
use Rattle.std.specs.Prelude.{ℕ, suc, ◌≤◌, ◌<◌, ◌≡◌, List, [], ◌∷◌, true, false, ◌&&◌, length}
use Rattle.text.specs.Text.{Text}
use Rattle.sheet.specs.Rows.{Sheet}
use Rattle.sheet.specs.Limits.{events_limit, open_tags_limit}
use Rattle.sheet.specs.Lengths.{tape_lengths, Lengths, lengths_of, good_lengths}
use Rattle.sheet.specs.Returned as returned
use Rattle.xsd_types.specs.State.{Reader, State}
use Rattle.xsd_types.specs.Sheet.{state_fits}
use Rattle.xsd_types.specs.Count.{good, state_of}
use Rattle.xsd_parser.specs.Kinds.{close_kind}
use Rattle.xsd_parser.specs.Event.{Tag, Event}
use Rattle.xsd_parser.specs.Tape.{next, all_inside, all_ascii, pair_count, pairs_of, form_test, record1}
use Rattle.xsd_parser.specs.Handlers.{ok, refuse}
use Rattle.xsd_parser.specs.Step.{handled, tags_after, counted, step}
use Rattle.xsd_parser.specs.Read.{Reading, ReadAnswer, refused_at, sheet_of_reading}

pub data RecordTable (text : Text) : List ℕ → ℕ → Type 0 where
  -- 3: "kind not 1 to 3, record cut short, over 32 attributes, a close with any"
  cut_in_head : {kind : ℕ} → RecordTable text (kind ∷ []) returned.bad_record
  bad_form : {kind count : ℕ} {rest : List ℕ} → form_test kind count (length rest) ≡ false → RecordTable text (kind ∷ count ∷ rest) returned.bad_record
  -- 4: "pair outside the text or out of order"
  outside : {kind count : ℕ} {rest : List ℕ} → form_test kind count (length rest) ≡ true → (kind ≡ close_kind → ⊥)
      → all_inside (length text) 0 (pairs_of (pair_count count) rest) ≡ false → RecordTable text (kind ∷ count ∷ rest) returned.bad_pair
  -- 5: "byte above 127 under a pair", by order 12 of no character, or of one cut by an end of its pair
  high : {kind count : ℕ} {rest : List ℕ} → form_test kind count (length rest) ≡ true → (kind ≡ close_kind → ⊥)
      → all_inside (length text) 0 (pairs_of (pair_count count) rest) ≡ true → all_ascii text (pairs_of (pair_count count) rest) ≡ false
      → RecordTable text (kind ∷ count ∷ rest) returned.not_ascii

pub data EventTable (lent : Lengths) (s : State) : Event → ℕ → Type 0 where
  -- 8: "1,000,000 events done"
  events_done : {e : Event} → events_limit ≤ s.events → EventTable lent s e returned.too_many_events
  -- 6: "close with no tag open"
  none_open : s.events < events_limit → s.open_tags ≡ 0 → EventTable lent s Event.close returned.no_tag_open
  -- 7: "start with 255 open"
  all_open : {t : Tag} → s.events < events_limit → open_tags_limit ≤ s.open_tags → EventTable lent s (Event.start t) returned.too_many_open
  -- 9 and 10: "`MissingAttribute`", "`InvalidAttributeValue`", as 000's handlers have them
  missing : {e : Event} (open_tags : ℕ) → s.events < events_limit → tags_after e s.open_tags ≡ ok open_tags
      → handled s.by_standard s.events e s.reader ≡ refuse returned.missing_attribute → EventTable lent s e returned.missing_attribute
  invalid : {e : Event} (open_tags : ℕ) → s.events < events_limit → tags_after e s.open_tags ≡ ok open_tags
      → handled s.by_standard s.events e s.reader ≡ refuse returned.invalid_attribute_value → EventTable lent s e returned.invalid_attribute_value
  -- 11: "the state after the event needs more rows or names than lent"
  tight : {e : Event} (open_tags : ℕ) (r : Reader) → s.events < events_limit → tags_after e s.open_tags ≡ ok open_tags
      → handled s.by_standard s.events e s.reader ≡ ok r → state_fits lent.rows lent.names (counted s open_tags r) ≡ false → EventTable lent s e returned.no_room

-- a reading that ends with the number k behind n events of its piece, in the state s
abbrev pub ends_with : ℕ → ℕ → State → Reading
ends_with k n s = record { answer = record { number = k; place = n }; state = s }

-- "place is the event's number in the piece, from 0, and the sheet holds the state after the events before it"
pub data ReadsOn (lent : Lengths) (text : Text) : ℕ → State → List ℕ → Reading → Type 0 where
  -- 0: "place is events read"
  all_read : {n : ℕ} {s : State} → ReadsOn lent text n s [] (ends_with returned.accepted n s)
  onward : {n : ℕ} {s : State} {marks : List ℕ} {r : Reading} (e : Event) (rest : List ℕ) (after : State) → record1 text marks ≡ next e rest → step lent s e ≡ ok after
      → ReadsOn lent text (suc n) after rest r → ReadsOn lent text n s marks r
  bad_record : {n : ℕ} {s : State} {marks : List ℕ} {k : ℕ} → RecordTable text marks k → ReadsOn lent text n s marks (ends_with k n s)
  refused_event : {n : ℕ} {s : State} {marks : List ℕ} {k : ℕ} (e : Event) (rest : List ℕ) → record1 text marks ≡ next e rest → EventTable lent s e k
      → ReadsOn lent text n s marks (ends_with k n s)

pub data ReadTable (x : Sheet) (text : Text) (marks : List ℕ) (r : ReadAnswer) : Type 0 where
  -- 1: a length; "nothing changed"
  lengths : good_lengths (lengths_of x) && tape_lengths (length text) (length marks) ≡ false → r ≡ refused_at returned.bad_length x → ReadTable x text marks r
  -- 2: "schema sheet not good"; "nothing changed"
  not_good : good_lengths (lengths_of x) && tape_lengths (length text) (length marks) ≡ true → good x ≡ false → r ≡ refused_at returned.not_good x → ReadTable x text marks r
  judged : good_lengths (lengths_of x) && tape_lengths (length text) (length marks) ≡ true → good x ≡ true → (o : Reading)
      → ReadsOn (lengths_of x) text 0 (state_of x) marks o → r ≡ sheet_of_reading (lengths_of x) o → ReadTable x text marks r
