-- Named in docs/PORT.md. No contract cites them. Assumes nothing.
use Rattle.std.specs.Prelude.{Option as Answer, None}
use Rattle.std.specs.Borrow.{Bor}
use mathlib.Core.Path.{◌≡◌, refl, sym, ap, ◌∙◌}
use mathlib.Core.Bool.{false}
use mathlib.Core.List.{List, [], ◌∷◌}
use mathlib.Core.Option.{Option, some, none}
use Prim.Native.Nat.{ℕ}
use lib.ListN.{get_or}
use borrow.Author.Tests.{ne_eqb}
use Rattle.text.specs.Text.{Text}
use Rattle.xsd_parser.specs.declared.words.Word.{Word}
use Rattle.xsd_parser.specs.declared.words.FacetWord.{FacetWord}
use Rattle.xsd_parser.specs.Words.{word_number, same_word, facet_word}
use Rattle.xsd_parser.specs.Seen.{Seen, tag_is}
use Rattle.xsd_parser.specs.Handlers.{Outcome, ok, refuse, require_name}
use Rattle.tape.specs.Lookup.{value_of, value_at}
use Rattle.xsd_actions.specs.Actions.{Action}

words : List (Option Word)
words =
    some Word.Schema ∷ some Word.SimpleType ∷ some Word.ComplexType ∷ some Word.Element ∷ some Word.Restriction ∷ none ∷ some Word.Sequence ∷ some Word.Choice
    ∷ some Word.SimpleContent ∷ some Word.Extension ∷ some Word.Any ∷ some Word.Attribute ∷ some Word.Other ∷ []

word_numbered : ℕ → Option Word
word_numbered n = get_or words n none

numbered : (y : Word) → facet_word y ≡ none → word_numbered (word_number y) ≡ some y
unfolding words word_numbered word_number facet_word
numbered Word.Schema h = refl
numbered Word.SimpleType h = refl
numbered Word.ComplexType h = refl
numbered Word.Element h = refl
numbered Word.Restriction h = refl
numbered (Word.Facet f) h = absurd (cc)
numbered Word.Sequence h = refl
numbered Word.Choice h = refl
numbered Word.SimpleContent h = refl
numbered Word.Extension h = refl
numbered Word.Any h = refl
numbered Word.Attribute h = refl
numbered Word.Other h = refl

the_numbered : (w y : Word) → word_numbered (word_number w) ≡ some y → w ≡ y
unfolding words word_numbered word_number
the_numbered Word.Schema y h = cc
the_numbered Word.SimpleType y h = cc
the_numbered Word.ComplexType y h = cc
the_numbered Word.Element y h = cc
the_numbered Word.Restriction y h = cc
the_numbered (Word.Facet f) y h = absurd (cc)
the_numbered Word.Sequence y h = cc
the_numbered Word.Choice y h = cc
the_numbered Word.SimpleContent y h = cc
the_numbered Word.Extension y h = cc
the_numbered Word.Any y h = cc
the_numbered Word.Attribute y h = cc
the_numbered Word.Other y h = cc

pub word-not : (t : Seen) (y : Word) → facet_word y ≡ none → (t.word ≡ y → ⊥) → tag_is t y ≡ false
unfolding tag_is same_word
word-not t y h k =
    ne_eqb (word_number t.word) (word_number y) (λ q. k (the_numbered t.word y (ap word_numbered q ∙ numbered y h)))

pub facet-not : (w : Word) → ((f : FacetWord) → w ≡ Word.Facet f → ⊥) → facet_word w ≡ none
unfolding facet_word
facet-not Word.Schema k = refl
facet-not Word.SimpleType k = refl
facet-not Word.ComplexType k = refl
facet-not Word.Element k = refl
facet-not Word.Restriction k = refl
facet-not (Word.Facet f) k = absurd (k f refl)
facet-not Word.Sequence k = refl
facet-not Word.Choice k = refl
facet-not Word.SimpleContent k = refl
facet-not Word.Extension k = refl
facet-not Word.Any k = refl
facet-not Word.Attribute k = refl
facet-not Word.Other k = refl

module _ (t : Seen) (f : Text → Action) where
  abbrev by_name : Option Text → Outcome Action
  by_name v = elim v [ none ↦ refuse 9 | some name ↦ ok (f name) ]

  pub require_name-some : {v : Text} → t.name ≡ some v → require_name t f ≡ ok (f v)
  unfolding require_name
  require_name-some e = ap by_name e

  pub require_name-none : t.name ≡ none → require_name t f ≡ refuse 9
  unfolding require_name
  require_name-none e = ap by_name e

-- a value that the code does not find is none
pub value_none : (text : Text) (marks : List ℕ) (at : ℕ) {r : Answer (Bor Text)} → value_of r ≡ value_at text marks at → r ≡ None → value_at text marks at ≡ none
unfolding value_of
value_none text marks at e f = sym e ∙ ap value_of f
