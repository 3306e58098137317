-- Where a tape may be cut. Paper 01: "a tape may be cut between any events over the same text".
--     all_events       none of the judged records is refused for its form
--     cut_short        the record at the head of the marks has fewer numbers than it needs
--     whole_records    no record is cut short by the end of the marks: they end where a record ends, or behind the start of one that is refused for
--                     another fault
use Rattle.std.specs.Prelude.{ℕ, zero, suc, ◌*◌, List, [], ◌∷◌, Bool, true, false, not, ◌&&◌, leb, ltb, length}
use Rattle.text.specs.Text.{Text, between}
use Rattle.xsd_parser.specs.Tape.{Judged, event, refused, finished, bad, next, pair_count, record1}

unfoldable pub all_events : List Judged → Bool
all_events [] = true
all_events (event e ∷ js) = all_events js
all_events (refused r ∷ js) = false

unfoldable pub cut_short : List ℕ → Bool
cut_short [] = false
cut_short (kind ∷ []) = true
cut_short (kind ∷ count ∷ rest) = between 1 2 kind && leb count 32 && ltb (length rest) (2 * pair_count count)

unfoldable pub whole_from : ℕ → Text → List ℕ → Bool
whole_from zero text marks = true
whole_from (suc fuel) text marks =
    not (cut_short marks) && (elim (record1 text marks) [ finished ↦ true | bad r ↦ true | next e rest ↦ whole_from fuel text rest ])

unfoldable pub whole_records : Text → List ℕ → Bool
whole_records text marks = whole_from (length marks) text marks
