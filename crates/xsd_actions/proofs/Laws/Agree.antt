-- Two outcomes side by side: the handlers' and the decision's. They go by the same tests, so they agree arm by arm. Assumes nothing.
--     Agree R o p   the outcomes o and p are values with R, or both refuse with the same number
use Rattle.std.specs.Prelude.{if◌then◌else◌}
use mathlib.Core.Path.{◌≡◌}
use mathlib.Core.Bool.{Bool, true, false}
use mathlib.Core.Option.{Option, some, none}
use Prim.Native.Nat.{ℕ}
use Rattle.text.specs.Text.{Text}
use Rattle.xsd_types.specs.State.{Reader}
use Rattle.xsd_types.specs.Types.{Facet}
use Rattle.xsd_parser.specs.declared.words.FacetWord.{FacetWord}
use Rattle.xsd_parser.specs.Event.{Event}
use Rattle.xsd_parser.specs.Seen.{Seen}
use Rattle.xsd_parser.specs.Handlers.{Outcome, ok, refuse, ◌and_then◌, require_name, facet_by_word, on_facet}
use Rattle.xsd_parser.specs.Step.{handled}
use Rattle.xsd_actions.specs.Actions.{Action, Acted}
use Rattle.xsd_actions.specs.Decided.{Decides, acts, refuses}

pub data Agree {A B : Type 0} (R : A → B → Type 0) : Outcome A → Outcome B → Type 0 where
  values : {x : A} {y : B} → R x y → Agree R (ok x) (ok y)
  refusals : {n : ℕ} → Agree R (refuse n) (refuse n)

-- two tests of one condition are related arm by arm
pub if-both : {A B : Type 0} (R : A → B → Type 0) (b : Bool) {x y : A} {p q : B} → R x p → R y q → R (if b then x else y) (if b then p else q)
if-both R true h k = h
if-both R false h k = k

pub agree-if : {A B : Type 0} {R : A → B → Type 0} (b : Bool) {x y : Outcome A} {p q : Outcome B} → Agree R x p → Agree R y q
    → Agree R (if b then x else y) (if b then p else q)
agree-if {R = R} b h k = if-both (Agree R) b h k

-- the same first step
pub agree-step : {A B C : Type 0} {R : A → B → Type 0} (o : Outcome C) (f : C → Outcome A) (g : C → Outcome B) → ((x : C) → Agree R (f x) (g x))
    → Agree R (o and_then f) (o and_then g)
unfolding ◌and_then◌
agree-step (ok x) f g h = h x
agree-step (refuse n) f g h = refusals

-- a value of the handlers put into a reader
pub agree_then : {A B C : Type 0} {R : A → B → Type 0} {S : C → B → Type 0} {o : Outcome A} {p : Outcome B} (f : A → C) → ((x : A) (y : B) → R x y → S (f x) y)
    → Agree R o p → Agree S (o and_then λ x. ok (f x)) p
unfolding ◌and_then◌
agree_then f h (values {x = x} {y = y} r) = values (h x y r)
agree_then f h refusals = refusals

pub agree-name : {A B : Type 0} {R : A → B → Type 0} (t : Seen) (f : Text → A) (g : Text → B) → ((v : Text) → R (f v) (g v)) → Agree R (require_name t f) (require_name t g)
unfolding require_name
agree-name {A} {B} {R} t f g h = go t.name
  where
    go : (o : Option Text) → Agree R (elim o [ none ↦ refuse 9 | some name ↦ ok (f name) ]) (elim o [ none ↦ refuse 9 | some name ↦ ok (g name) ])
    go none = refusals
    go (some v) = values (h v)

pub agree-facet : {A B : Type 0} {R : A → B → Type 0} (o : Option FacetWord) (v : Text) (f : Facet → A) (g : Facet → B) (x : A) (y : B)
    → ((k : Facet) → R (f k) (g k)) → R x y → Agree R (on_facet o v f x) (on_facet o v g y)
unfolding on_facet
agree-facet none v f g x y h k = values k
agree-facet (some w) v f g x y h k = agree-step (facet_by_word w v) _ _ λ z. values (h z)

-- the handlers' outcome agrees with the decision
pub agree_decides : (by_standard : Bool) (m : ℕ) (e : Event) (r : Reader) (o : Outcome Reader) {p : Outcome Action} → handled by_standard m e r ≡ o
    → Agree (λ r' a. Acted by_standard e r a r') o p → Decides by_standard m e r p
agree_decides b m e r o q (values {x = r'} {y = a} h) = acts a r' q h
agree_decides b m e r o q (refusals {n = n}) = refuses n q
