-- What the code decides says in the terms of Actions: a decision, an enum whose texts are parts of the text of the tape, or a refusal.
--     new_texts      no text, one or two: a second one counts behind a first alone
--     new_row        the row that the code's record stands for
--     decision      the action, or the refusal
use Rattle.std.specs.Prelude.{◌%◌, ◌/◌, ◌^◌, List, [], ◌∷◌, Option, Some, None, Result, Ok, Err}
use Rattle.std.specs.Borrow.{Bor}
use Rattle.text.specs.Text.{Text}
use Rattle.sheet.specs.declared.refusal.Refusal.{Refusal}
use Rattle.sheet.specs.Returned.{refusal_number}
use Rattle.sheet.specs.Rows.{Row, row}
use Rattle.xsd_parser.specs.Handlers.{Outcome, ok, refuse}
use Rattle.rows.specs.Texts.{listed}
use Rattle.xsd_actions.specs.declared.NewRow.{NewRow}
use Rattle.xsd_actions.specs.declared.Decision.{Decision}
use Rattle.xsd_actions.specs.Actions.{Action}

abbrev pub new_texts : Option (Bor Text) → Option (Bor Text) → List Text
new_texts None second = []
new_texts (Some first) second = first.now ∷ listed second

unfoldable pub new_row : NewRow → Row
new_row n = row n.tag (new_texts n.first n.second) n.a n.b n.c

unfoldable pub decision : Result Decision Refusal → Outcome Action
decision (Err r) = refuse (refusal_number r)
decision (Ok Decision.Keep) = ok Action.keep
decision (Ok (Decision.Root v)) = ok (Action.root v.now)
decision (Ok (Decision.OpenSimple n)) = ok (Action.open_simple n.event n.name.now)
decision (Ok (Decision.OpenComplex n)) = ok (Action.open_complex n.event n.name.now)
decision (Ok (Decision.Add n)) = ok (Action.add (new_row n))
decision (Ok (Decision.Characters f)) = ok (Action.add (row f.tag [] (f.count.0 % 2 ^ 32) (f.count.0 / 2 ^ 32) 0))
decision (Ok (Decision.Digits f)) = ok (Action.add (row f.tag [] f.count.0 0 0))
decision (Ok (Decision.Content n)) = ok (Action.content n.tag (listed n.second) n.a)
decision (Ok (Decision.Base v)) = ok (Action.base v.now)
