-- What the answers of the tape's leaf, which are results, say in the terms of xsd_parser's Tape and Event.
--     record_event   the event that an accepted record stands for
--     recorded      what a record that was read stands for: xsd_parser's `Recorded`
--     TagPlaced     where the pairs of a start or an empty tag stand
--     EventPlaced   where the next record starts, and the parts of a tag
--     IsPlaced        the same for each answer; nothing is said of the end and of a refusal
--     RecordAt      the answer for the place `at` of the marks
--     option_of     a tag's record, as the answer for its place
--     TagAnswer     the same for a record of a good form that is a tag
use Rattle.std.specs.Prelude.{ℕ, ◌+◌, ◌*◌, ◌≤◌, ◌<◌, ◌≡◌, List, eqb, length, drop, if◌then◌else◌, Option, Some, None, Result, Ok, Err}
use Rattle.text.specs.Text.{Text}
use Rattle.sheet.specs.Limits.{attributes_limit}
use Rattle.sheet.specs.declared.refusal.Refusal.{Refusal}
use Rattle.sheet.specs.Returned.{refusal_number}
use Rattle.xsd_parser.specs.Event.{Event}
use Rattle.xsd_parser.specs.Kinds.{close_kind}
use Rattle.xsd_parser.specs.Tape.{Recorded, record1, tag_record, pairs_of, pair_count, event_of}
use Rattle.tape.specs.Pairs.{TagInside, tag_at}
use Rattle.tape.specs.declared.TagRecord.{TagRecord}

-- "Kind 1 start, 2 empty, 3 close; a close is just `3 0`."
unfoldable pub record_event : Text → List ℕ → TagRecord → Event
record_event text marks t =
    if eqb t.kind close_kind
    then Event.close
    else event_of t.kind (tag_at text marks t.pairs t.count)

unfoldable pub recorded : Text → List ℕ → Result (Option TagRecord) Refusal → Recorded
recorded text marks (Ok None) = Recorded.finished
recorded text marks (Err r) = Recorded.bad (refusal_number r)
recorded text marks (Ok (Some t)) = Recorded.next (record_event text marks t) (drop t.next marks)

pub record TagPlaced (text : Text) (marks : List ℕ) (t : TagRecord) : Type 0 where
  pub few : t.count ≤ attributes_limit
  pub behind : t.next ≡ t.pairs + 2 * pair_count t.count
  pub inside : TagInside text marks t.pairs t.count

pub record EventPlaced (text : Text) (marks : List ℕ) (at : ℕ) (t : TagRecord) : Type 0 where
  pub later : at < t.next
  pub within : t.next ≤ length marks
  pub tag : (t.kind ≡ close_kind → ⊥) → TagPlaced text marks t

unfoldable pub IsPlaced : Text → List ℕ → ℕ → Result (Option TagRecord) Refusal → Type 0
IsPlaced text marks at (Ok None) = Unit
IsPlaced text marks at (Err r) = Unit
IsPlaced text marks at (Ok (Some t)) = EventPlaced text marks at t

pub record RecordAt (text : Text) (marks : List ℕ) (at : ℕ) (r : Result (Option TagRecord) Refusal) : Type 0 where
  pub judged : recorded text marks r ≡ record1 text (drop at marks)
  pub places : IsPlaced text marks at r

abbrev pub option_of : Result TagRecord Refusal → Result (Option TagRecord) Refusal
option_of (Ok t) = Ok (Some t)
option_of (Err r) = Err r

pub record TagAnswer (text : Text) (marks : List ℕ) (at kind count : ℕ) (r : Result TagRecord Refusal) : Type 0 where
  pub judged : recorded text marks (option_of r) ≡ tag_record text kind (pairs_of (pair_count count) (drop (at + 2) marks)) (drop (at + 2 + 2 * pair_count count) marks)
  pub places : IsPlaced text marks at (option_of r)
