-- What the private functions of this crate decide inside a simple type: the rows of facets by their tag.
--     text_added, length_added, digits_added    the row of a facet with a text, a length, a number of digits
--     facet_read     what is decided for a facet by its word and its value
use Rattle.std.specs.Prelude.{ℕ, ◌%◌, ◌/◌, ◌^◌, [], ◌∷◌}
use Rattle.text.specs.Text.{Text}
use Rattle.sheet.specs.Rows.{row}
use Rattle.xsd_parser.specs.declared.words.FacetWord.{FacetWord}
use Rattle.xsd_parser.specs.Handlers.{Outcome, ok, ◌and_then◌, facet_by_word}
use Rattle.xsd_actions.specs.Actions.{Action}
use Rattle.xsd_actions.specs.Decided.{facet_added}

unfoldable pub text_added : ℕ → Text → Action
text_added tag v = Action.add (row tag (v ∷ []) 0 0 0)

unfoldable pub length_added : ℕ → ℕ → Action
length_added tag n = Action.add (row tag [] (n % 2 ^ 32) (n / 2 ^ 32) 0)

unfoldable pub digits_added : ℕ → ℕ → Action
digits_added tag n = Action.add (row tag [] n 0 0)

unfoldable pub facet_read : FacetWord → Text → Outcome Action
facet_read w v = facet_by_word w v and_then λ f. ok (facet_added f)
