-- Order 14, notes in attributes: "equal kinds, tag names and key and value sequences among attributes whose local word is name, type, base, value, minOccurs,
-- maxOccurs, use, namespace or targetNamespace. Add, drop or alter the others and move the text about."
--     read_words     the nine words; is_one: a text is one of some words
--     read_of        the attributes whose local word is one of the nine, in order
--     AlikeTags, AlikeEvents    two tags, two events but for the other attributes
--     AlikeRecords  the records of two readings, event by event; a record that is refused with 3, 4 or 5 stands beside any such, and what is behind it is free
--     AlikeCalls    "two runs of the same number of events, cut alike, lowerings at the same places, .. lent equal lengths for sheet, graph and scratch"
--     meets_none     no call of a run gives 1, 3, 4 or 5
--     AlikeAnswers, AlikeRuns    what is equal then
--     sheets_of      the sheet after each call, by the definition; sheets_made: by the calls made
use Rattle.std.specs.Prelude.{◌≡◌, Bool, true, false, not, ◌||◌, List, [], ◌∷◌, ℕ, eqb, length, if◌then◌else◌}
use Prim.Native.String.{String}
use Rattle.std.proofs.Math.Option.{Option}
use Rattle.text.specs.Text.{Text, every, is, between, local_name}
use Rattle.sheet.specs.Rows.{Sheet}
use Rattle.sheet.specs.Lengths.{Answer, lengths_of}
use Rattle.xsd_parser.specs.Event.{Attr, Tag, Event}
use Rattle.xsd_parser.specs.Tape.{Judged, event, refused, records}
use Rattle.ir_lower.specs.Call.{Lowered}
use Rattle.runs.specs.Runs.{Call, Answered, Ran, RunHolds, hold, sheet_held, read_held}
use Rattle.runs.specs.Trace.{Trace}

unfoldable pub read_words : List String
read_words = "name" ∷ "type" ∷ "base" ∷ "value" ∷ "minOccurs" ∷ "maxOccurs" ∷ "use" ∷ "namespace" ∷ "targetNamespace" ∷ []

unfoldable pub is_one : List String → Text → Bool
is_one [] t = false
is_one (w ∷ ws) t = is t w || is_one ws t

unfoldable pub read_of : List Attr → List Attr
read_of [] = []
read_of (x ∷ xs) = if is_one read_words (local_name x.key) then x ∷ read_of xs else read_of xs

-- "event by event, equal kinds, tag names and key and value sequences among attributes whose local word is .."
pub record AlikeTags (t t' : Tag) : Type 0 where
  pub name : t.name ≡ t'.name
  pub attributes : read_of t.attributes ≡ read_of t'.attributes

pub data AlikeEvents : Event → Event → Type 0 where
  start : {t t' : Tag} → AlikeTags t t' → AlikeEvents (Event.start t) (Event.start t')
  empty : {t t' : Tag} → AlikeTags t t' → AlikeEvents (Event.empty t) (Event.empty t')
  close : AlikeEvents Event.close Event.close

pub data AlikeRecords : List Judged → List Judged → Type 0 where
  end : AlikeRecords [] []
  alike : {e e' : Event} {js js' : List Judged} → AlikeEvents e e' → AlikeRecords js js' → AlikeRecords (event e ∷ js) (event e' ∷ js')
  bad : {r r' : ℕ} {js js' : List Judged} → between 3 5 r ≡ true → between 3 5 r' ≡ true → AlikeRecords (refused r ∷ js) (refused r' ∷ js')

pub data AlikeCalls : List Call → List Call → Type 0 where
  end : AlikeCalls [] []
  read : {text text' : Text} {marks marks' : List ℕ} {cs cs' : List Call} → AlikeRecords (records text marks) (records text' marks')
      → AlikeCalls cs cs' → AlikeCalls (Call.reading text marks ∷ cs) (Call.reading text' marks' ∷ cs')
  lower : {graph graph' : Sheet} {scratch scratch' : List ℕ} {cs cs' : List Call} → lengths_of graph ≡ lengths_of graph' → length scratch ≡ length scratch'
      → AlikeCalls cs cs' → AlikeCalls (Call.lowering graph scratch ∷ cs) (Call.lowering graph' scratch' ∷ cs')

-- "If neither run meets 1, 3, 4 or 5"
unfoldable pub meets : ℕ → Bool
meets n = eqb n 1 || between 3 5 n

unfoldable pub answered_number : Answered → ℕ
answered_number (Answered.read_as a in_run) = a.number
answered_number (Answered.lowered_as l) = l.answer.number

unfoldable pub meets_none : List Answered → Bool
meets_none xs = every (λ (x : Answered). not (meets (answered_number x))) xs

-- "numbers, places and sheets are equal at every step, and graphs unless lowering gives 2 or 14"
pub data AlikeAnswers : List Answered → List Answered → Type 0 where
  end : AlikeAnswers [] []
  read : {a : Answer} {in_run : Option ℕ} {xs ys : List Answered} → AlikeAnswers xs ys → AlikeAnswers (Answered.read_as a in_run ∷ xs) (Answered.read_as a in_run ∷ ys)
  lower : {l l' : Lowered} {xs ys : List Answered} → l.answer ≡ l'.answer → (eqb l.answer.number 2 || eqb l.answer.number 14 ≡ false → l.graph ≡ l'.graph)
      → AlikeAnswers xs ys → AlikeAnswers (Answered.lowered_as l ∷ xs) (Answered.lowered_as l' ∷ ys)

-- .. of two runs with the sheets after each call
pub record AlikeRuns (r r' : Ran) (sheets sheets' : List Sheet) : Type 0 where
  pub answers : AlikeAnswers r.answers r'.answers
  pub last : r.last ≡ r'.last
  pub between : sheets ≡ sheets'

unfoldable pub sheets_after : List Call → RunHolds → List Sheet
sheets_after [] h = []
sheets_after (Call.reading text marks ∷ calls) h = sheet_held (read_held h text marks).held ∷ sheets_after calls (read_held h text marks).held
sheets_after (Call.lowering graph scratch ∷ calls) h = sheet_held h ∷ sheets_after calls h

unfoldable pub sheets_of : Sheet → List Call → List Sheet
sheets_of x calls = sheets_after calls (hold x)

-- .. and as the calls left it
unfoldable pub sheets_made : {x x' : Sheet} {calls : List Call} {answers : List Answered} → Trace x calls answers x' → List Sheet
sheets_made Trace.done = []
sheets_made (Trace.read_next {x₁ = x₁} is on) = x₁ ∷ sheets_made on
sheets_made (Trace.lower_next {x = x} is on) = x ∷ sheets_made on
