-- Decisions and what they do to rows, by computation.
--     tag           a tag with the name and the attributes
--     at            the mode in a context, at a nesting, with the extension flag
--     occurs        an element with name and type, and an occurrence that is no number
--     nameless      the start of a complex type without a name
--     attribute     a required attribute with name and type
--     done, head, child    the rows of a finished element, of an open simple content with a base, of its attribute
--     after         these rows after an action, the base being empty before
use Rattle.std.specs.Prelude.{ℕ, ◌≡◌, refl, Bool, true, false, List, [], ◌∷◌, map}
use Prim.Native.String.{String}
use Rattle.text.specs.Text.{bytes}
use Rattle.text.specs.Unfold.{computes as texts}
use Rattle.number.specs.Unfold.{computes as numbers}
use Rattle.sheet.specs.Rows.{Row, row}
use Rattle.sheet.specs.Unfold.{computes as sheets}
use Rattle.xsd_types.specs.Unfold.{computes as schemas}
use Rattle.xsd_parser.specs.Event.{Tag, Event}
use Rattle.xsd_parser.specs.Handlers.{ok, refuse}
use Rattle.xsd_parser.specs.Unfold.{computes as readings}
use Rattle.xsd_actions.specs.declared.Mode.{Mode}
use Rattle.xsd_actions.specs.Actions.{Action, mode_after, rows_after}
use Rattle.xsd_actions.specs.Decided.{decided}
use Rattle.xsd_actions.specs.Unfold.{computes as actions}

unfoldable tag : String → List (String × String) → Tag
tag name attributes = record { name = bytes name; attributes = map (λ x. record { key = bytes x.0; value = bytes x.1 }) attributes }

unfoldable at : ℕ → ℕ → Bool → Mode
at context nesting extension = record { context = context; nesting = nesting; root_seen = true; extension = extension }

-- "`restriction` at nesting 1 .. sets the base"
restriction-deeper : decided 7 (Event.start (tag "restriction" (("base", "B") ∷ []))) (at 2 1 false) 3 ≡ ok Action.keep
unfolding tag at texts schemas readings actions
restriction-deeper = refl

-- "start `extension` at 2 inside simple content sets base and flag"
extension-simple-content : decided 7 (Event.start (tag "extension" (("base", "B") ∷ []))) (at 3 1 false) 14 ≡ ok (Action.base (bytes "B"))
unfolding tag at texts schemas readings actions
extension-simple-content = refl

extension-sequence : decided 7 (Event.start (tag "extension" (("base", "B") ∷ []))) (at 3 1 false) 12 ≡ ok Action.keep
unfolding tag at texts schemas readings actions
extension-sequence = refl

-- "Occurs are read only in a sequence"
unfoldable occurs : String → Event
occurs key = Event.empty (tag "element" (("name", "N") ∷ ("type", "T") ∷ (key, "x") ∷ []))

occurs-refused : map (λ key. decided 7 (occurs key) (at 3 1 false) 12) ("minOccurs" ∷ "maxOccurs" ∷ []) ≡ refuse 10 ∷ refuse 10 ∷ []
unfolding occurs tag at texts numbers schemas readings actions
occurs-refused = refl

-- "Empty `attribute` with name and type counts once the flag is set"
unfoldable attribute : Event
attribute = Event.empty (tag "attribute" (("name", "N") ∷ ("type", "T") ∷ ("use", "required") ∷ []))

attribute-flag : decided 7 attribute (at 3 2 true) 14 ≡ ok (Action.add (row 20 (bytes "N" ∷ bytes "T" ∷ []) 1 0 0))
unfolding attribute tag at texts sheets schemas readings actions
attribute-flag = refl

attribute-no-flag : decided 7 attribute (at 3 2 false) 14 ≡ ok Action.keep
unfolding attribute tag at texts schemas readings actions
attribute-no-flag = refl

-- "Content still absent at the close becomes 15 with a = 0."
close-finishes : decided 7 Event.close (at 3 0 false) 16 ≡ ok (Action.content 15 [] 0)
unfolding at texts actions
close-finishes = refl

close-lowers : decided 7 Event.close (at 3 1 false) 16 ≡ ok Action.keep
unfolding at texts actions
close-lowers = refl

-- order 3: "only its direct children become elements or types"; a nameless one is refused, one below it is passed over
unfoldable nameless : Event
nameless = Event.start (tag "complexType" [])

nameless-by-nesting : map (λ nesting. decided 7 nameless (at 1 nesting false) 0) (0 ∷ 1 ∷ []) ≡ refuse 9 ∷ ok Action.keep ∷ []
unfolding nameless tag at texts schemas readings actions
nameless-by-nesting = refl

-- with choice 1 "nesting in context 1 counts the open tags below the schema"; a type opened leads to its own nesting
start-by-choice : map (λ by_standard. mode_after by_standard (Event.start (tag "annotation" [])) Action.keep (at 1 0 false)) (false ∷ true ∷ []) ≡ at 1 0 false ∷ at 1 1 false ∷ []
unfolding tag at texts schemas actions
start-by-choice = refl

type-by-choice : map (λ by_standard. mode_after by_standard nameless (Action.open_complex 7 (bytes "C")) (at 1 0 false)) (false ∷ true ∷ []) ≡ at 3 0 false ∷ at 3 0 false ∷ []
unfolding nameless tag at texts schemas actions
type-by-choice = refl

-- "a close at 0 ends it"
close-by-nesting : map (λ nesting. mode_after true Event.close Action.keep (at 1 nesting false)) (0 ∷ 1 ∷ []) ≡ at 0 0 false ∷ at 1 0 false ∷ []
unfolding at texts schemas actions
close-by-nesting = refl

-- the event's number goes to what gives a name
names-given :
    map (λ word. decided 7 (Event.start (tag word (("name", "N") ∷ ("type", "T") ∷ []))) (at 1 0 false) 0) ("element" ∷ "simpleType" ∷ "complexType" ∷ [])
    ≡ ok (Action.add (row 2 (bytes "N" ∷ bytes "T" ∷ []) 0 0 7)) ∷ ok (Action.open_simple 7 (bytes "N")) ∷ ok (Action.open_complex 7 (bytes "N")) ∷ []
unfolding tag at texts sheets schemas readings actions
names-given = refl

-- each action on the rows behind row 1
unfoldable done : Row
done = row 2 (bytes "D" ∷ bytes "T" ∷ []) 0 0 1

unfoldable head : String → Row
head base = row 14 (bytes "C" ∷ bytes base ∷ []) 0 0 3

unfoldable child : Row
child = row 20 (bytes "N" ∷ bytes "T" ∷ []) 0 0 0

unfoldable after : Action → List Row
after a = rows_after a (done ∷ []) (head "" ∷ child ∷ [])

rows_more :
    map after (Action.open_simple 7 (bytes "S") ∷ Action.open_complex 8 (bytes "S") ∷ Action.add child ∷ [])
    ≡ (done ∷ head "" ∷ child ∷ row 3 (bytes "S" ∷ [] ∷ []) 0 0 7 ∷ [])
    ∷ (done ∷ head "" ∷ child ∷ row 16 (bytes "S" ∷ []) 0 0 8 ∷ [])
    ∷ (done ∷ head "" ∷ child ∷ child ∷ [])
    ∷ []
unfolding after texts sheets schemas actions
rows_more = refl

rows-changed :
    map after (Action.keep ∷ Action.root (bytes "urn") ∷ Action.content 12 [] 0 ∷ Action.base (bytes "B") ∷ [])
    ≡ (done ∷ head "" ∷ child ∷ [])
    ∷ (done ∷ head "" ∷ child ∷ [])
    ∷ (done ∷ row 12 (bytes "C" ∷ []) 0 0 3 ∷ [])
    ∷ (done ∷ head "B" ∷ child ∷ [])
    ∷ []
unfolding after head texts sheets schemas actions
rows-changed = refl
