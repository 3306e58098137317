-- The heads of what was read with choice 1, from any state on: those kept before and the direct children among the events read. Assumes nothing.
use mathlib.Core.Path.{◌≡◌, refl, sym, ◌∙◌}
use mathlib.Core.Bool.{true}
use mathlib.Core.List.{List, ◌++◌, append-nil, append_assoc}
use Rattle.sheet.specs.Lengths.{Lengths}
use Rattle.xsd_types.specs.State.{State, first_state}
use Rattle.xsd_parser.specs.Event.{Event}
use Rattle.xsd_parser.specs.Tape.{Judged}
use Rattle.xsd_parser.specs.Handlers.{ok}
use Rattle.xsd_parser.specs.Step.{step}
use Rattle.xsd_parser.specs.Accepted.{Accepted, none_left, one_more}
use Rattle.xsd_parser.specs.Children.{head_at_depth, children_from, direct_children, open_head, child_heads}
use Rattle.xsd_parser.proofs.Laws.Outcomes.{gives-value}
use Rattle.xsd_parser.proofs.Laws.Steps.{step-reader, step-choice}
use Rattle.xsd_parser.proofs.Laws.Children.{depth_in, Walked, handled-walked}

pub step-walked : (lent : Lengths) (s : State) (e : Event) (s' : State) → s.by_standard ≡ true → step lent s e ≡ ok s' → Walked e s.reader s'.reader
step-walked lent s e s' b h = gives-value (handled-walked s.events e s.reader) (rw b at (step-reader lent s e s' h))

pub accepted-heads : {lent : Lengths} {s s₁ : State} {js : List Judged} → s.by_standard ≡ true → Accepted lent s js s₁
    → child_heads s₁.reader ≡ child_heads s.reader ++ children_from (depth_in s.reader.context) js
unfolding children_from
accepted-heads b none_left = sym (append-nil _)
accepted-heads {lent} b (one_more {s = s} {s₁ = x} {s₂ = y} {e = e} {js = js} q a) =
    let w = step-walked lent s e x b q in
    accepted-heads (step-choice lent s e x q ∙ b) a ∙ rw (w.heads_are, w.depth) (append_assoc (child_heads s.reader) (head_at_depth (depth_in s.reader.context) e) _)

-- order 3, from a cleared sheet: "only its direct children become elements or types"
pub first-children : {lent : Lengths} {js : List Judged} {s : State} → Accepted lent (first_state true) js s → child_heads s.reader ≡ direct_children js
unfolding first_state child_heads open_head direct_children
first-children a = accepted-heads refl a
