-- A word that a match has left to its last arm is none of the others. No contract cites them. Assumes nothing.
use mathlib.Core.Path.{◌≡◌, refl, sym, ap, ◌∙◌, subst}
use mathlib.Core.Bool.{false}
use mathlib.Core.List.{List}
use mathlib.Core.Option.{none}
use Prim.Native.Nat.{ℕ}
use types.Run.{OneOf}
use denote.Enum.Declared.{tag_of}
use borrow.Author.Tests.{ne_eqb}
use Rattle.xsd_parser.specs.declared.words.Word.{Word}
use Rattle.xsd_parser.specs.contracts.words.Word.{the_type}
use Rattle.xsd_parser.specs.Words.{word_number, same_word, facet_word}
use Rattle.xsd_parser.specs.Seen.{Seen, tag_is}

-- the key of a word in a match is its number
word-key : (w : Word) → tag_of the_type w ≡ word_number w
unfolding word_number
word-key Word.Schema = refl
word-key Word.SimpleType = refl
word-key Word.ComplexType = refl
word-key Word.Element = refl
word-key Word.Restriction = refl
word-key (Word.Facet f) = refl
word-key Word.Sequence = refl
word-key Word.Choice = refl
word-key Word.SimpleContent = refl
word-key Word.Extension = refl
word-key Word.Any = refl
word-key Word.Attribute = refl
word-key Word.Other = refl

-- a word that the match has left to its last arm
pub word-left : (t : Seen) {w : Word} (y : Word) (others : List ℕ) → t.word ≡ w → OneOf others (tag_of the_type w) → (OneOf others (word_number y) → ⊥) → tag_is t y ≡ false
unfolding tag_is same_word
word-left t {w} y others e h k =
    ne_eqb (word_number t.word) (word_number y) (λ q. k (subst (OneOf others) (word-key w ∙ ap word_number (sym e) ∙ q) h))

pub facet-left : (w : Word) (others : List ℕ) → OneOf others (tag_of the_type w) → (OneOf others 5 → ⊥) → facet_word w ≡ none
unfolding facet_word
facet-left Word.Schema others h k = refl
facet-left Word.SimpleType others h k = refl
facet-left Word.ComplexType others h k = refl
facet-left Word.Element others h k = refl
facet-left Word.Restriction others h k = refl
facet-left (Word.Facet f) others h k = absurd (k h)
facet-left Word.Sequence others h k = refl
facet-left Word.Choice others h k = refl
facet-left Word.SimpleContent others h k = refl
facet-left Word.Extension others h k = refl
facet-left Word.Any others h k = refl
facet-left Word.Attribute others h k = refl
facet-left Word.Other others h k = refl
