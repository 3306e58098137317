-- The records of written markup are its events. Assumes nothing.
use Prim.Native.Nat.{ℕ, ◌+◌}
use mathlib.Core.Path.{◌≡◌, refl, ◌∙◌}
use mathlib.Core.Bool.{true}
use mathlib.Core.List.{List, [], ◌∷◌, ◌++◌}
use lib.ListN.{length, drop}
use Rattle.text.specs.Text.{Text, every, is_text}
use Rattle.xsd_parser.specs.Event.{Tag}
use Rattle.xsd_parser.specs.Tape.{event_of, records}
use Rattle.xml.specs.Tape.{tape_marks}
use Rattle.xml.specs.Accepted.{event_read, records_read, few_attributes}
use Rattle.xml.proofs.Laws.Back.{tag_back, drop_past}
use Rattle.xml.proofs.Laws.Records.{tape-records}
use Rattle.xsd_written.specs.Markup.{Markup, starts, empties, ends, markup_text, markups_text}
use Rattle.xsd_written.specs.Reads.{written_tag_ok, markup_ok, nested, placed_one, placed_events, event_of_markup, events_of}
use Rattle.xsd_written.proofs.Laws.Documents.{document-written}

markup-back : (m : Markup) (text : Text) (at : ℕ) (rest : Text) → drop at text ≡ markup_text m ++ rest → event_read text (placed_one at m) ≡ event_of_markup m
unfolding markup_text event_of event_read
markup-back (starts t) text at rest e = tag_back text at 1 t rest e
markup-back (empties t) text at rest e = tag_back text at 2 t rest e
markup-back (ends n) text at rest e = refl

pub markups-back : (ms : List Markup) (text : Text) (at : ℕ) → drop at text ≡ markups_text ms → records_read text (placed_events at ms) ≡ events_of ms
unfolding records_read placed_events markups_text events_of
markups-back [] text at e = refl
markups-back (m ∷ ms) text at e =
    let h = markup-back m text at (markups_text ms) e in
    let k = markups-back ms text (at + length (markup_text m)) (drop_past text at (at + length (markup_text m)) (markup_text m) (markups_text ms) e refl) in
    rw (h, k)

-- a whole document of markup, read as records
pub records-written : (t : Tag) (ms : List Markup) → written_tag_ok t ≡ true → every markup_ok ms ≡ true → nested (t.name ∷ []) ms ≡ true
    → is_text (markups_text (starts t ∷ ms)) ≡ true → every few_attributes (placed_events 0 (starts t ∷ ms)) ≡ true
    → records (markups_text (starts t ∷ ms)) (tape_marks (placed_events 0 (starts t ∷ ms))) ≡ events_of (starts t ∷ ms)
records-written t ms ok all nest plain few =
    let text = markups_text (starts t ∷ ms) in
    tape-records text (placed_events 0 (starts t ∷ ms)) (document-written t ms ok all nest) plain few ∙ markups-back (starts t ∷ ms) text 0 refl
