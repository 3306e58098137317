-- `xsd_act::needs::needed` meets its contract: each decision is the action that its arm counts for. Assumes nothing.
use Rattle.std.specs.Prelude.{Result, Ok}
use Prim.Native.Nat.{ℕ}
use mathlib.Core.Path.{◌≡◌, refl, sym, subst, ap, ◌∙◌}
use mathlib.Core.List.{List}
use Rattle.text.specs.Text.{join}
use Rattle.sheet.specs.declared.refusal.Refusal.{Refusal}
use Rattle.sheet.specs.Rows.{row}
use Rattle.rows.specs.declared.numbers.Used.{Used}
use Rattle.xsd_actions.specs.declared.Decision.{Decision}
use Rattle.xsd_actions.specs.Actions.{Action, open_simple_row, open_complex_row, Fitting, namespace_after, rows_after}
use Rattle.xsd_actions.specs.Answers.{decision}
use Rattle.xsd_act.specs.Ready.{rows_after_all}
use Rattle.xsd_act.specs.Needs.{RowNeeded, Needed}
use Rattle.xsd_act.proofs.Laws.Parts.{open_simple-bytes, open_complex-bytes}
use Rattle.xsd_act.proofs.Laws.Ready.{ready-root, ready-head, ready-base}
use Rattle.xsd_act.proofs.Laws.Needs.{needed-refuse, needed-keep, needed-more, needed-root, needed-base, needed-content}
use Rattle.xsd_act.proofs.needs.needed.Goals as goal

-- what a decision needs, the decision as its arm found it
found_as : {rows : List ℕ} {used : Used} {head : ℕ} {d : Result Decision Refusal} {y : Decision} (x : Decision) (r : Used) → d ≡ Ok y → y ≡ x
    → Needed rows used head (decision (Ok x)) r → Needed rows used head (decision d) r
found_as {rows} {used} {head} x r o e h = subst (λ (z : Result Decision Refusal). Needed rows used head (decision z) r) (sym (o ∙ ap Ok e)) h

pub needed_text-requires : goal.needed_text-requires
unfolding decision
needed_text-requires c =
    let w = c.requires.ready _ (ap decision (c.in-Ok.is ∙ ap Ok c.in-Root.is)) in
    record { text_seen = record { names = w.names; spot = _; text = ready-root w.ready }; names = c.requires.small.names_used }

pub needed_content-requires : goal.needed_content-requires
unfolding decision Fitting
needed_content-requires c =
    let w = c.requires.ready _ (ap decision (c.in-Ok.is ∙ ap Ok c.in-Content.is)) in
    record { head_seen = record { names = w.names; z = w.z; rs = _; name = _; head = ready-head w.ready w.fitting }; small = c.requires.small }

pub needed_text-requires-in-Base : goal.needed_text-requires-in-Base
unfolding decision Fitting
needed_text-requires-in-Base c =
    let w = c.requires.ready _ (ap decision (c.in-Ok.is ∙ ap Ok c.in-Base.is)) in
    record { text_seen = record { names = w.names; spot = _; text = ready-base w.ready w.fitting }; names = c.requires.small.names_used }

pub returns-in_default : goal.returns-in_default
unfolding decision
returns-in_default c = rw c.in_default.is (needed-refuse c.requires.small refl)

pub returns-in-Keep : goal.returns-in-Keep
unfolding decision
returns-in-Keep c = found_as _ _ c.in-Ok.is c.in-Keep.is (needed-keep c.requires.small refl)

pub returns-in-Root : goal.returns-in-Root
unfolding decision
returns-in-Root c = found_as _ _ c.in-Ok.is c.in-Root.is (needed-root _ c.requires.small.rows_used c.needed_text.ensures)

pub returns-in-OpenSimple : goal.returns-in-OpenSimple
unfolding decision rows_after_all namespace_after rows_after
returns-in-OpenSimple c =
    let t = c.in-OpenSimple.n.name.now in
    found_as _ _ c.in-Ok.is c.in-OpenSimple.is (needed-more (Action.open_simple _ t) (open_simple_row _ t) (λ namespace done last. refl) c.requires.small.rows_used
    (subst (λ (n : ℕ). RowNeeded c.args.used n c.with_row.result) (sym (open_simple-bytes _ t)) c.with_row.ensures))

pub returns-in-OpenComplex : goal.returns-in-OpenComplex
unfolding decision rows_after_all namespace_after rows_after
returns-in-OpenComplex c =
    let t = c.in-OpenComplex.n.name.now in
    found_as _ _ c.in-Ok.is c.in-OpenComplex.is (needed-more (Action.open_complex _ t) (open_complex_row _ t) (λ namespace done last. refl) c.requires.small.rows_used
    (subst (λ (n : ℕ). RowNeeded c.args.used n c.with_row-in-OpenComplex.result) (sym (open_complex-bytes _ t)) c.with_row-in-OpenComplex.ensures))

pub returns-in-Add : goal.returns-in-Add
unfolding decision rows_after_all namespace_after rows_after
returns-in-Add c =
    found_as _ _ c.in-Ok.is c.in-Add.is (needed-more (Action.add _) _ (λ namespace done last. refl) c.requires.small.rows_used c.needed_row.ensures)

pub returns-in-Characters : goal.returns-in-Characters
unfolding decision rows_after_all namespace_after rows_after row join
returns-in-Characters c =
    found_as _ _ c.in-Ok.is c.in-Characters.is (needed-more (Action.add _) _ (λ namespace done last. refl) c.requires.small.rows_used c.with_row-in-Characters.ensures)

pub returns-in-Digits : goal.returns-in-Digits
unfolding decision rows_after_all namespace_after rows_after row join
returns-in-Digits c =
    found_as _ _ c.in-Ok.is c.in-Digits.is (needed-more (Action.add _) _ (λ namespace done last. refl) c.requires.small.rows_used c.with_row-in-Digits.ensures)

pub returns-in-Content : goal.returns-in-Content
unfolding decision
returns-in-Content c = found_as _ _ c.in-Ok.is c.in-Content.is (needed-content _ _ _ c.needed_content.ensures)

pub returns-in-Base : goal.returns-in-Base
unfolding decision
returns-in-Base c = found_as _ _ c.in-Ok.is c.in-Base.is (needed-base _ c.requires.small.rows_used c.needed_text-in-Base.ensures)
