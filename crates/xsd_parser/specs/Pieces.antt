-- A tape read in pieces over the same text, up to its first refused event.
--     onward        a reading and, where it refused nothing, the next one behind it: the places add up
--     read_pieces    the pieces in order, each from the state that the one before left
use Rattle.std.specs.Prelude.{ℕ, ◌+◌, List, [], ◌∷◌, eqb, if◌then◌else◌}
use Rattle.sheet.specs.Lengths.{Lengths}
use Rattle.text.specs.Text.{Text}
use Rattle.xsd_types.specs.State.{State}
use Rattle.xsd_parser.specs.Read.{Reading, read_state}

unfoldable pub onward : Reading → Reading → Reading
onward r next =
    if eqb r.answer.number 0
    then record { answer = record { number = next.answer.number; place = r.answer.place + next.answer.place }; state = next.state }
    else r

unfoldable pub read_pieces : Lengths → State → Text → List (List ℕ) → Reading
read_pieces lent s text [] = record { answer = record { number = 0; place = 0 }; state = s }
read_pieces lent s text (marks ∷ pieces) =
    let r = read_state lent s text marks in
    onward r (read_pieces lent r.state text pieces)
