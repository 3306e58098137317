-- A decision that says an action leads to the mode that the action leads to, and a close that is no refusal takes one tag away. Assumes nothing.
use Rattle.std.specs.Prelude.{Result, Ok, Err}
use mathlib.Core.Path.{◌≡◌, refl, sym, ap, ◌∙◌}
use mathlib.Core.Bool.{Bool, ◌&&◌}
use Prim.Native.Nat.{ℕ, zero, suc, ◌-◌}
use native.Mathlib.Numerals.{sub-one}
use Rattle.sheet.specs.declared.refusal.Refusal.{Refusal}
use Rattle.xsd_parser.specs.Handlers.{Outcome, ok}
use Rattle.xsd_parser.specs.Step.{closed}
use Rattle.xsd_actions.specs.declared.Decision.{Decision}
use Rattle.xsd_actions.specs.declared.Mode.{Mode}
use Rattle.xsd_actions.specs.Actions.{Action, context_after, root_after, flag_after, raises, tag_mode}
use Rattle.xsd_actions.specs.Answers.{decision}
use Rattle.xsd_progress.specs.Modes.{action_of, nesting_of}

pub mode-parts : (by_standard start : Bool) (a : Action) (m : Mode) {context nesting : ℕ} {seen flag raised : Bool} → context ≡ context_after start a m.context
    → raised ≡ raises by_standard a m.context → nesting ≡ nesting_of (start && raised) m.nesting → seen ≡ root_after a m.root_seen → flag ≡ flag_after a m.context m.extension
    → record { context = context; nesting = nesting; root_seen = seen; extension = flag } ≡ tag_mode by_standard start a m
unfolding tag_mode nesting_of
mode-parts by_standard start a m e r n g h =
    let f = n ∙ ap (λ (b : Bool). nesting_of (start && b) m.nesting) r in
    λ i. record { context = e i; nesting = f i; root_seen = g i; extension = h i }

pub decision-action : (d : Decision) → decision (Ok d) ≡ ok (action_of (Ok d))
unfolding decision
decision-action Decision.Keep = refl
decision-action (Decision.Root v) = refl
decision-action (Decision.OpenSimple n) = refl
decision-action (Decision.OpenComplex n) = refl
decision-action (Decision.Add n) = refl
decision-action (Decision.Characters f) = refl
decision-action (Decision.Digits f) = refl
decision-action (Decision.Content n) = refl
decision-action (Decision.Base v) = refl

-- a decision says one action
pub action-said : (d : Result Decision Refusal) (a : Action) → decision d ≡ ok a → action_of d ≡ a
unfolding decision
action-said (Ok d) a e = let same : ◌≡◌ {A = Outcome Action} (ok (action_of (Ok d))) (ok a) = sym (decision-action d) ∙ e in cc
action-said (Err r) a e = absurd cc

pub closed-more : (n : ℕ) → (n ≡ 0 → ⊥) → closed n ≡ ok (n - 1)
unfolding closed
closed-more zero h = absurd (h refl)
closed-more (suc n) h = ap ok (sym (sub-one (suc n)))
