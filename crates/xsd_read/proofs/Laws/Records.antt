-- A reading by its first record: none is left, it is refused, or it is an event. Assumes nothing.
--     read_from      the reading of the marks from a record on, n events having been read before
use Prim.Native.Nat.{ℕ, suc}
use mathlib.Core.Path.{◌≡◌, refl, ap, ◌∙◌}
use mathlib.Core.List.{List, [], ◌∷◌}
use native.Mathlib.Omega.{arith}
use lib.ListN.{length}
use Rattle.text.specs.Text.{Text}
use Rattle.sheet.specs.Lengths.{Lengths}
use Rattle.xsd_types.specs.State.{State}
use Rattle.xsd_parser.specs.Event.{Event}
use Rattle.xsd_parser.specs.Tape.{Judged, event, refused, Recorded, finished, bad, next, record1, records_from, records}
use Rattle.xsd_parser.specs.Handlers.{ok, refuse}
use Rattle.xsd_parser.specs.Step.{step}
use Rattle.xsd_parser.specs.Read.{Reading, read_records}
use Rattle.xsd_parser.proofs.Laws.Records.{records-finished, records-bad, records-next, next-shorter, fuel-spare}
use Rattle.xsd_parser.proofs.Laws.Reads.{stopped, read_ok, read-refuse}

unfoldable pub read_from : Lengths → ℕ → State → Text → List ℕ → Reading
read_from lent n s text marks = read_records lent n s (records text marks)

-- the three answers told apart
abbrev which : Recorded → ℕ
which finished = 0
which (bad k) = 1
which (next e rest) = 2

pub records-none : (text : Text) (marks : List ℕ) → record1 text marks ≡ finished → records text marks ≡ []
unfolding records records_from
records-none text [] e = refl
records-none text (k ∷ marks) e = records-finished (length marks) text (k ∷ marks) e

pub records-one : (text : Text) (marks : List ℕ) (k : ℕ) → record1 text marks ≡ bad k → records text marks ≡ refused k ∷ []
unfolding records records_from record1
records-one text [] k e = absurd (omega (arith, ap which e))
records-one text (m ∷ marks) k e = records-bad (length marks) text (m ∷ marks) k e

pub records-more : (text : Text) (marks : List ℕ) (e : Event) (rest : List ℕ) → record1 text marks ≡ next e rest → records text marks ≡ event e ∷ records text rest
unfolding records records_from record1
records-more text [] e rest q = absurd (omega (arith, ap which q))
records-more text (m ∷ marks) e rest q =
    let short = next-shorter text (m ∷ marks) e rest q in
    records-next (length marks) text (m ∷ marks) e rest q ∙ ap (λ (js : List Judged). event e ∷ js) (fuel-spare (length marks) (length rest) text rest (omega (arith, short)) (omega arith))

pub reads_none : (lent : Lengths) (n : ℕ) (s : State) (text : Text) (marks : List ℕ) → record1 text marks ≡ finished → read_from lent n s text marks ≡ stopped 0 n s
unfolding read_from read_records
reads_none lent n s text marks e = ap (read_records lent n s) (records-none text marks e)

pub reads-bad : (lent : Lengths) (n : ℕ) (s : State) (text : Text) (marks : List ℕ) (k : ℕ) → record1 text marks ≡ bad k → read_from lent n s text marks ≡ stopped k n s
unfolding read_from read_records
reads-bad lent n s text marks k e = ap (read_records lent n s) (records-one text marks k e)

pub reads-refused : (lent : Lengths) (n : ℕ) (s : State) (text : Text) (marks : List ℕ) (e : Event) (rest : List ℕ) (k : ℕ) → record1 text marks ≡ next e rest → step lent s e ≡ refuse k
    → read_from lent n s text marks ≡ stopped k n s
unfolding read_from
reads-refused lent n s text marks e rest k q r = ap (read_records lent n s) (records-more text marks e rest q) ∙ read-refuse lent n s e (records text rest) k r

pub reads_on : (lent : Lengths) (n : ℕ) (s s' : State) (text : Text) (marks : List ℕ) (e : Event) (rest : List ℕ) → record1 text marks ≡ next e rest → step lent s e ≡ ok s'
    → read_from lent n s text marks ≡ read_from lent (suc n) s' text rest
unfolding read_from
reads_on lent n s s' text marks e rest q r = ap (read_records lent n s) (records-more text marks e rest q) ∙ read_ok lent n s s' e (records text rest) r
