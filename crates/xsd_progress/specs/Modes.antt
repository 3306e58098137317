-- What the private functions compute.
--     action_of      the action of a decision of the code; a refusal does nothing
--     nesting_of     the nesting after a tag
use Rattle.std.specs.Prelude.{ℕ, suc, ◌%◌, ◌/◌, ◌^◌, [], Bool, if◌then◌else◌, Result, Ok, Err}
use Rattle.sheet.specs.declared.refusal.Refusal.{Refusal}
use Rattle.sheet.specs.Rows.{row}
use Rattle.rows.specs.Texts.{listed}
use Rattle.xsd_actions.specs.declared.Decision.{Decision}
use Rattle.xsd_actions.specs.Actions.{Action}
use Rattle.xsd_actions.specs.Answers.{new_row}

abbrev pub action_of : Result Decision Refusal → Action
action_of (Err r) = Action.keep
action_of (Ok Decision.Keep) = Action.keep
action_of (Ok (Decision.Root v)) = Action.root v.now
action_of (Ok (Decision.OpenSimple n)) = Action.open_simple n.event n.name.now
action_of (Ok (Decision.OpenComplex n)) = Action.open_complex n.event n.name.now
action_of (Ok (Decision.Add n)) = Action.add (new_row n)
action_of (Ok (Decision.Characters f)) = Action.add (row f.tag [] (f.count.0 % 2 ^ 32) (f.count.0 / 2 ^ 32) 0)
action_of (Ok (Decision.Digits f)) = Action.add (row f.tag [] f.count.0 0 0)
action_of (Ok (Decision.Content n)) = Action.content n.tag (listed n.second) n.a
action_of (Ok (Decision.Base v)) = Action.base v.now

unfoldable pub nesting_of : Bool → ℕ → ℕ
nesting_of raised nesting = if raised then suc nesting else nesting
