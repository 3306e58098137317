-- `xsd_act::act` meets its contract: each arm's writer has the room that it asks for, and leaves what the arm's action says. Assumes nothing.
use Rattle.std.specs.Prelude.{Result, Ok}
use Prim.Native.Nat.{ℕ}
use mathlib.Core.Path.{◌≡◌, refl, sym, subst, ap, ◌∙◌}
use Rattle.text.specs.Text.{join}
use Rattle.sheet.specs.declared.refusal.Refusal.{Refusal}
use Rattle.sheet.specs.Rows.{row}
use Rattle.xsd_parser.specs.Handlers.{ok}
use Rattle.rows.specs.declared.writer.SheetWriter.{SheetWriter}
use Rattle.xsd_actions.specs.declared.Decision.{Decision}
use Rattle.xsd_actions.specs.Actions.{Action, namespace_after, rows_after, open_simple_row, open_complex_row, Fitting}
use Rattle.xsd_actions.specs.Answers.{decision}
use Rattle.xsd_act.specs.Ready.{rows_after_all}
use Rattle.xsd_act.specs.Acts.{ActRoom, Done, content_numbers}
use Rattle.xsd_act.proofs.Laws.Room.{RoomFor, room_for, more_room, root-room, base-room, content-room}
use Rattle.xsd_act.proofs.Laws.Done.{done_more, done-root, done-base, done-content, done-refuse, done-keep}
use Rattle.xsd_act.proofs.act.Goals as goal

-- the room and what is left to show, the decision as its arm found it
room_as : {w : SheetWriter} {head : ℕ} {d : Result Decision Refusal} {y : Decision} → ActRoom w head (decision d) → (x : Decision) (a : Action) → d ≡ Ok y → y ≡ x
    → decision (Ok x) ≡ ok a → RoomFor w head a
room_as room x a o e f = room_for room a (ap decision (o ∙ ap Ok e) ∙ f)

done-as : {w w' : SheetWriter} {head : ℕ} {d : Result Decision Refusal} {y : Decision} (x : Decision) → d ≡ Ok y → y ≡ x → Done w head (decision (Ok x)) w' → Done w head (decision d) w'
done-as {w} {w'} {head} x o e h = subst (λ (z : Result Decision Refusal). Done w head (decision z) w') (sym (o ∙ ap Ok e)) h

pub replace_text-requires : goal.replace_text-requires
unfolding decision
replace_text-requires c = let q = room_as c.requires _ _ c.in-Ok.is c.in-Root.is refl in root-room q.ready _ q.roomy

pub open_type-requires : goal.open_type-requires
unfolding decision open_simple_row rows_after_all namespace_after rows_after row
open_type-requires c = let q = room_as c.requires _ _ c.in-Ok.is c.in-OpenSimple.is refl in more_room q.ready _ q.roomy

pub open_type-requires-in-OpenComplex : goal.open_type-requires-in-OpenComplex
unfolding decision open_complex_row rows_after_all namespace_after rows_after row
open_type-requires-in-OpenComplex c = let q = room_as c.requires _ _ c.in-Ok.is c.in-OpenComplex.is refl in more_room q.ready _ q.roomy

pub add_row-requires : goal.add_row-requires
unfolding decision rows_after_all namespace_after rows_after
add_row-requires c = let q = room_as c.requires _ _ c.in-Ok.is c.in-Add.is refl in more_room q.ready _ q.roomy

pub append_characters-requires : goal.append_characters-requires
unfolding decision row join rows_after_all namespace_after rows_after
append_characters-requires c = let q = room_as c.requires _ _ c.in-Ok.is c.in-Characters.is refl in more_room q.ready _ q.roomy

pub append_digits-requires : goal.append_digits-requires
unfolding decision row join rows_after_all namespace_after rows_after
append_digits-requires c = let q = room_as c.requires _ _ c.in-Ok.is c.in-Digits.is refl in more_room q.ready _ q.roomy

pub put_content-requires : goal.put_content-requires
unfolding decision Fitting
put_content-requires c =
    let q = room_as c.requires _ _ c.in-Ok.is c.in-Content.is refl in
    content-room q.ready _ _ _ q.fitting q.roomy

pub replace_text-requires-in-Base : goal.replace_text-requires-in-Base
unfolding decision Fitting
replace_text-requires-in-Base c = let q = room_as c.requires _ _ c.in-Ok.is c.in-Base.is refl in base-room q.ready _ q.fitting q.roomy

pub returns-in_default : goal.returns-in_default
unfolding decision
returns-in_default c = rw c.in_default.is done-refuse

pub returns-in-Keep : goal.returns-in-Keep
unfolding decision
returns-in-Keep c = done-as _ c.in-Ok.is c.in-Keep.is done-keep

pub returns-in-Root : goal.returns-in-Root
unfolding decision
returns-in-Root c = done-as _ c.in-Ok.is c.in-Root.is (done-root _ c.replace_text.ensures)

pub returns-in-OpenSimple : goal.returns-in-OpenSimple
unfolding decision open_simple_row rows_after_all namespace_after rows_after
returns-in-OpenSimple c = done-as _ c.in-Ok.is c.in-OpenSimple.is (done_more (Action.open_simple _ _) (open_simple_row _ _) (λ namespace done last. refl) c.open_type.ensures)

pub returns-in-OpenComplex : goal.returns-in-OpenComplex
unfolding decision open_complex_row rows_after_all namespace_after rows_after
returns-in-OpenComplex c =
    done-as _ c.in-Ok.is c.in-OpenComplex.is (done_more (Action.open_complex _ _) (open_complex_row _ _) (λ namespace done last. refl) c.open_type-in-OpenComplex.ensures)

pub returns-in-Add : goal.returns-in-Add
unfolding decision rows_after_all namespace_after rows_after
returns-in-Add c = done-as _ c.in-Ok.is c.in-Add.is (done_more (Action.add _) _ (λ namespace done last. refl) c.add_row.ensures)

pub returns-in-Characters : goal.returns-in-Characters
unfolding decision rows_after_all namespace_after rows_after
returns-in-Characters c = done-as _ c.in-Ok.is c.in-Characters.is (done_more (Action.add _) _ (λ namespace done last. refl) c.append_characters.ensures)

pub returns-in-Digits : goal.returns-in-Digits
unfolding decision rows_after_all namespace_after rows_after
returns-in-Digits c = done-as _ c.in-Ok.is c.in-Digits.is (done_more (Action.add _) _ (λ namespace done last. refl) c.append_digits.ensures)

pub returns-in-Content : goal.returns-in-Content
unfolding decision
returns-in-Content c = done-as _ c.in-Ok.is c.in-Content.is (done-content (content_numbers c.in-Content.n _) _ refl refl c.put_content.ensures)

pub returns-in-Base : goal.returns-in-Base
unfolding decision
returns-in-Base c = done-as _ c.in-Ok.is c.in-Base.is (done-base _ c.replace_text-in-Base.ensures)
