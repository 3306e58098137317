-- The markup of a schema is nested: each end tag closes the innermost open tag, and only the last closes the first. Assumes nothing.
--     Balanced      markup that leaves open what was open before it
use Prim.Native.String.{String}
use mathlib.Core.Path.{◌≡◌, refl, ap, ◌∙◌}
use mathlib.Core.Bool.{true}
use mathlib.Core.List.{List, [], ◌∷◌, ◌++◌, map, append_assoc}
use Rattle.text.specs.Text.{Text}
use Rattle.text.proofs.Laws.Texts.{same_refl}
use Rattle.xsd_types.specs.Types.{Facet, ComplexContent, Item}
use Rattle.xsd_parser.specs.Event.{Attr, Tag}
use Rattle.xsd_written.specs.Markup.{Markup, starts, empties, ends}
use Rattle.xsd_written.specs.Schema.{prefixed, prefixed_tag, around, valued, facet_markup, element_markup, variant_markup, attribute_markup, content_markup, item_markup, items_markup}
use Rattle.xsd_written.specs.Reads.{open_behind, closes, nested}

abbrev Balanced : List Markup → Type 0
Balanced ms = (n : Text) (names : List Text) (rest : List Markup) → nested (n ∷ names) (ms ++ rest) ≡ nested (n ∷ names) rest

none-balanced : Balanced []
none-balanced n names rest = refl

both-balanced : (ms ns : List Markup) → Balanced ms → Balanced ns → Balanced (ms ++ ns)
both-balanced ms ns f g n names rest = ap (nested (n ∷ names)) (append_assoc ms ns rest) ∙ f n names (ns ++ rest) ∙ g n names rest

around-balanced : (word : String) (xs : List Attr) (ms : List Markup) → Balanced ms → Balanced (around word xs ms)
unfolding around nested closes open_behind prefixed_tag
around-balanced word xs ms f n names rest =
    ap (nested (prefixed word ∷ n ∷ names)) (append_assoc ms (ends (prefixed word) ∷ []) rest) ∙ f (prefixed word) (n ∷ names) (ends (prefixed word) ∷ rest) ∙ rw (same_refl (prefixed word))

empties-balanced : (t : Tag) (ms : List Markup) → Balanced ms → Balanced (empties t ∷ ms)
unfolding nested closes open_behind
empties-balanced t ms f n names rest = f n names rest

-- children are empty tags
children-balanced : {A : Type 0} (g : A → Markup) (t : A → Tag) → ((x : A) → g x ≡ empties (t x)) → (xs : List A) → Balanced (map g xs)
children-balanced g t e [] = none-balanced
children-balanced g t e (x ∷ xs) = rw (e x) (empties-balanced (t x) (map g xs) (children-balanced g t e xs))

abbrev emptied : Markup → Tag
emptied (starts t) = t
emptied (empties t) = t
emptied (ends n) = record { name = n; attributes = [] }

facet-empty : (f : Facet) → facet_markup f ≡ empties (emptied (facet_markup f))
unfolding facet_markup valued
facet-empty (Facet.enumeration v) = refl
facet-empty (Facet.pattern v) = refl
facet-empty (Facet.min_length n) = refl
facet-empty (Facet.max_length n) = refl
facet-empty (Facet.min_inclusive v) = refl
facet-empty (Facet.max_inclusive v) = refl
facet-empty (Facet.total_digits n) = refl
facet-empty (Facet.fraction_digits n) = refl

content-balanced : (c : ComplexContent) → Balanced (content_markup c)
unfolding content_markup element_markup variant_markup attribute_markup
content-balanced (ComplexContent.sequence es) =
    around-balanced "sequence" [] (map element_markup es) (children-balanced element_markup (λ e. emptied (element_markup e)) (λ e. refl) es)
content-balanced (ComplexContent.choice vs) =
    around-balanced "choice" [] (map variant_markup vs) (children-balanced variant_markup (λ v. emptied (variant_markup v)) (λ v. refl) vs)
content-balanced (ComplexContent.simple_content base xs) =
    around-balanced "simpleContent" [] _ (around-balanced "extension" _ (map attribute_markup xs) (children-balanced attribute_markup (λ x. emptied (attribute_markup x)) (λ x. refl) xs))
content-balanced (ComplexContent.any n) = around-balanced "sequence" [] _ (empties-balanced _ [] none-balanced)

item-balanced : (i : Item) → Balanced (item_markup i)
unfolding item_markup
item-balanced (Item.element e) = empties-balanced _ [] none-balanced
item-balanced (Item.simple_type t) =
    around-balanced "simpleType" _ _ (around-balanced "restriction" _ (map facet_markup t.facets) (children-balanced facet_markup (λ f. emptied (facet_markup f)) facet-empty t.facets))
item-balanced (Item.complex_type t) = around-balanced "complexType" _ (content_markup t.content) (content-balanced t.content)

items-balanced : (is : List Item) → Balanced (items_markup is)
unfolding items_markup
items-balanced [] = none-balanced
items-balanced (i ∷ is) = both-balanced (item_markup i) (items_markup is) (item-balanced i) (items-balanced is)

-- what stands behind the first tag of a schema closes it at its end
pub schema-nested : (is : List Item) (word : Text) → nested (word ∷ []) (items_markup is ++ ends word ∷ []) ≡ true
unfolding nested closes open_behind
schema-nested is word = items-balanced is word [] (ends word ∷ []) ∙ rw (same_refl word)
