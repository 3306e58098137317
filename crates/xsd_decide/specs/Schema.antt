-- Parts of xsd_actions' decided_start and decided_empty that private functions decide.
--     TypeNamed     a type to open has the tag's name and the event of a number, or 9: the tag has no name
--     empty_in_schema an empty tag at the top level: an element is kept if it has name and type
use Rattle.std.specs.Prelude.{ℕ, ◌≡◌, ◌&&◌, eqb, if◌then◌else◌, Result, MatchResult}
use Rattle.std.proofs.Math.Option.{some, none}
use Rattle.sheet.specs.declared.refusal.Refusal.{Refusal}
use Rattle.xsd_parser.specs.declared.words.Word.{Word}
use Rattle.xsd_parser.specs.Seen.{Seen, tag_is}
use Rattle.xsd_actions.specs.declared.NewType.{NewType}
use Rattle.xsd_actions.specs.Actions.{Action}
use Rattle.xsd_actions.specs.Decided.{top_element}

abbrev pub TypeNamed : Seen → ℕ → Result NewType Refusal → Type 0
TypeNamed t event r =
    MatchResult r (λ n. (n.event ≡ event) × (t.name ≡ some n.name.now)) (λ refusal. (refusal ≡ Refusal.MissingAttribute) × (t.name ≡ none))

unfoldable pub empty_in_schema : ℕ → Seen → ℕ → Action
empty_in_schema n t nesting = if eqb nesting 0 && tag_is t Word.Element then top_element n t else Action.keep
