-- Past the first refused event the cut counts: a close with no tag open is refused, and the start behind it is dropped or read, as the tape is cut.
use Rattle.std.specs.Prelude.{◌≡◌, refl, false, List, [], ◌∷◌, ◌++◌, ℕ}
use Rattle.sheet.specs.Lengths.{Lengths}
use Rattle.text.specs.Text.{bytes}
use Rattle.text.specs.Unfold.{computes as texts}
use Rattle.number.specs.Unfold.{computes as numbers}
use Rattle.sheet.specs.Unfold.{computes as sheets}
use Rattle.xsd_types.specs.State.{first_state}
use Rattle.xsd_types.specs.Unfold.{computes as schemas}
use Rattle.xsd_parser.specs.Read.{Reading, read_state}
use Rattle.xsd_parser.specs.Unfold.{computes as readings}

pub lent : Lengths
lent = record { rows = 40; names = 6 }

pub close_marks : List ℕ
close_marks = 3 ∷ 0 ∷ []

pub start_marks : List ℕ
start_marks = 1 ∷ 0 ∷ 0 ∷ 6 ∷ []

-- the tape uncut, and its two pieces
pub uncut : Reading
uncut = read_state lent (first_state false) (bytes "schema") (close_marks ++ start_marks)

pub piece1 : Reading
piece1 = read_state lent (first_state false) (bytes "schema") close_marks

pub piece2 : Reading
piece2 = read_state lent piece1.state (bytes "schema") start_marks

pub uncut-refused : uncut ≡ record { answer = record { number = 6; place = 0 }; state = first_state false }
unfolding lent close_marks start_marks uncut texts numbers sheets schemas readings
uncut-refused = refl

pub piece1-refused : piece1 ≡ record { answer = record { number = 6; place = 0 }; state = first_state false }
unfolding lent close_marks piece1 texts numbers sheets schemas readings
piece1-refused = refl

pub cut-goes-on : piece2.answer ≡ record { number = 0; place = 1 }
unfolding lent close_marks start_marks piece1 piece2 texts numbers sheets schemas readings
cut-goes-on = refl

pub uncut-closed : uncut.state.open_tags ≡ 0
unfolding lent close_marks start_marks uncut texts numbers sheets schemas readings
uncut-closed = refl

pub cut_opened : piece2.state.open_tags ≡ 1
unfolding lent close_marks start_marks piece1 piece2 texts numbers sheets schemas readings
cut_opened = refl

-- a cut within a record is no cut between events: the first piece is refused as cut short, and the tape uncut is accepted
pub half_marks : List ℕ
half_marks = 1 ∷ 0 ∷ []

pub within-record : (read_state lent (first_state false) (bytes "schema") half_marks).answer ≡ record { number = 3; place = 0 }
unfolding lent half_marks texts numbers sheets schemas readings
within-record = refl

pub within-record-uncut : (read_state lent (first_state false) (bytes "schema") (half_marks ++ 0 ∷ 6 ∷ [])).answer ≡ record { number = 0; place = 1 }
unfolding lent half_marks texts numbers sheets schemas readings
within-record-uncut = refl
