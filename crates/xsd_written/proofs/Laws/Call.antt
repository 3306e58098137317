-- What an accepted writing says (specs/Call.antt): the sheet is good, every value is held, and the text lent begins with the schema's. Assumes nothing.
use Prim.Native.Nat.{ℕ, ◌≤◌}
use native.Mathlib.Omega.{arith}
use mathlib.Core.Path.{◌≡◌, refl}
use mathlib.Core.Bool.{true, ◌&&◌}
use mathlib.Core.List.{List}
use mathlib.Core.Option.{Option, some, none}
use lib.Dec.{leb}
use lib.ListN.{length, take}
use borrow.Author.Tests.{leb-true}
use Rattle.text.proofs.Laws.Tests.{and-true-right, bool_cases}
use Rattle.sheet.specs.Rows.{Sheet}
use Rattle.sheet.specs.Lengths.{lengths_of, good_lengths}
use Rattle.sheet.specs.Returned.{accepted}
use Rattle.sheet.proofs.Laws.Numbers.{take-filled}
use Rattle.xsd_types.specs.Types.{Schema}
use Rattle.xsd_types.specs.State.{State}
use Rattle.xsd_types.specs.Count.{good, state_of}
use Rattle.xsd_written.specs.Schema.{schema_text}
use Rattle.xsd_written.specs.Call.{first_unheld, Wrote, text_unchanged, zeroed, text_written, unheld_or_written, write_state, write_back}
use Rattle.xsd_written.specs.Round.{finished_of}

-- what is written, by the schema and the bytes lent
pub record Holds (s : Schema) (lent : ℕ) (w : Wrote) : Type 0 where
  pub none : first_unheld s ≡ none
  pub fits : length (schema_text s) ≤ lent
  pub text : take w.place w.text ≡ schema_text s

written-holds : (s : Schema) (lent : ℕ) (o : Option ℕ) → first_unheld s ≡ o → (unheld_or_written o s lent).number ≡ accepted → Holds s lent (unheld_or_written o s lent)
unfolding zeroed text_written
written-holds s lent (some place) e h = absurd (omega arith)
written-holds s lent none e h =
    bool_cases (leb (length (schema_text s)) lent)
    (λ y. record { none = e; fits = leb-true (length (schema_text s)) lent y; text = rw y (take-filled lent (schema_text s)) })
    (λ y. let z : ◌≡◌ {A = ℕ} 23 0 = rw y at h in absurd (omega arith))

state-holds : (s : State) (lent : ℕ) → (write_state s lent).number ≡ accepted → Holds s.reader.schema lent (write_state s lent)
unfolding write_state zeroed
state-holds s lent h =
    bool_cases s.reader.root_seen
    (λ y. rw y (written-holds s.reader.schema lent (first_unheld s.reader.schema) refl (rw y at h)))
    (λ y. let z : ◌≡◌ {A = ℕ} 12 0 = rw y at h in absurd (omega arith))

pub record Accepted (x : Sheet) (lent : List ℕ) : Type 0 where
  pub is_good : good x ≡ true
  pub small : length lent ≤ 65536
  pub holds : Holds (finished_of x) (length lent) (write_back x lent)

pub written-accepted : (x : Sheet) (lent : List ℕ) → (write_back x lent).number ≡ accepted → Accepted x lent
unfolding write_back text_unchanged finished_of
written-accepted x lent h =
    bool_cases (good_lengths (lengths_of x) && leb (length lent) 65536)
    (λ l.
    bool_cases (good x)
    (λ g. record {
      is_good = g;
      small = leb-true (length lent) 65536 (and-true-right (good_lengths (lengths_of x)) (leb (length lent) 65536) l);
      holds = rw (l, g) (state-holds (state_of x) (length lent) (rw (l, g) at h));
    })
    (λ g. let z : ◌≡◌ {A = ℕ} 2 0 = rw (l, g) at h in absurd (omega arith)))
    (λ l. let z : ◌≡◌ {A = ℕ} 1 0 = rw l at h in absurd (omega arith))
