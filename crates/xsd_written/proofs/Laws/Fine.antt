-- Markup whose names, keys and values may be written: what a document, its bytes and its tape ask of it, in one test. Assumes nothing.
--     name_fine, value_fine    a name or a value that may be written, and is a text
--     attr_fine, tag_fine, markup_fine    the same of an attribute, a tag, markup; no key twice, and at most 32 attributes
use Prim.Native.Nat.{ℕ, suc, ◌+◌}
use mathlib.Core.Path.{◌≡◌, refl, ap, ◌∙◌}
use mathlib.Core.Bool.{Bool, true, ◌&&◌}
use mathlib.Core.List.{List, [], ◌∷◌, ◌++◌}
use lib.Dec.{leb, ltb, eqb}
use lib.ListN.{length}
use Rattle.text.specs.Text.{Text, bytes, every, is_text, contains}
use Rattle.std.proofs.lemmas.Bool.{and_parts}
use Rattle.text.proofs.Laws.Tests.{and-true, and-true-left, and-true-right, four, if-keeps}
use Rattle.text.proofs.Laws.Every.{every-head, every-tail, every-weaken}
use Rattle.text.proofs.Laws.Class.{empty-text, texts-append, text-behind}
use Rattle.xsd_parser.specs.Event.{Attr, Tag}
use Rattle.xml.specs.Accepted.{few_attributes}
use Rattle.xml.specs.Written.{is_name_text, quote_of, written_attribute_ok, new_keys, written_attributes, tag_end, written_tag, attribute_places}
use Rattle.xsd_written.specs.Markup.{Markup, starts, empties, ends, markup_text, markups_text}
use Rattle.xsd_written.specs.Call.{holds}
use Rattle.xsd_written.specs.Reads.{written_tag_ok, markup_ok, placed_events}

unfoldable pub name_fine : Text → Bool
name_fine n = is_name_text n && is_text n

unfoldable pub value_fine : Text → Bool
value_fine v = holds v && is_text v

unfoldable pub attr_fine : Attr → Bool
attr_fine x = name_fine x.key && value_fine x.value

unfoldable pub tag_fine : Tag → Bool
tag_fine t = name_fine t.name && every attr_fine t.attributes && new_keys [] t.attributes && leb (length t.attributes) 32

unfoldable pub markup_fine : Markup → Bool
markup_fine (starts t) = tag_fine t
markup_fine (empties t) = tag_fine t
markup_fine (ends n) = name_fine n

-- ---- it may be written

attr-ok : (x : Attr) → attr_fine x ≡ true → written_attribute_ok x ≡ true
unfolding attr_fine name_fine value_fine holds written_attribute_ok
attr-ok x h =
    let (k, v) = and_parts (name_fine x.key) (value_fine x.value) h in
    and-true (and-true-left (is_name_text x.key) (is_text x.key) k) (and-true-left (holds x.value) (is_text x.value) v)

tag-ok : (t : Tag) → tag_fine t ≡ true → written_tag_ok t ≡ true
unfolding tag_fine name_fine written_tag_ok
tag-ok t h =
    let (n, a, k, l) = four (name_fine t.name) (every attr_fine t.attributes) (new_keys [] t.attributes) (leb (length t.attributes) 32) h in
    and-true (and-true (and-true-left (is_name_text t.name) (is_text t.name) n) (every-weaken attr_fine written_attribute_ok attr-ok t.attributes a)) k

markup-ok : (m : Markup) → markup_fine m ≡ true → markup_ok m ≡ true
unfolding markup_fine name_fine markup_ok
markup-ok (starts t) h = tag-ok t h
markup-ok (empties t) h = tag-ok t h
markup-ok (ends n) h = and-true-left (is_name_text n) (is_text n) h

pub markups-ok : (ms : List Markup) → every markup_fine ms ≡ true → every markup_ok ms ≡ true
markups-ok ms h = every-weaken markup_fine markup_ok markup-ok ms h

-- ---- it is a text

quote-plain : (v : Text) → ltb (quote_of v) 128 ≡ true
unfolding quote_of
quote-plain v = if-keeps (λ b. ltb b 128) (contains 34 v) (λ e. refl) (λ e. refl)

attributes-text : (xs : List Attr) → every attr_fine xs ≡ true → is_text (written_attributes xs) ≡ true
unfolding written_attributes attr_fine name_fine value_fine
attributes-text [] h = empty-text
attributes-text (x ∷ xs) h =
    let (k, v) = and_parts (name_fine x.key) (value_fine x.value) (every-head attr_fine x xs h) in
    let q = quote_of x.value in
    let rest = written_attributes xs in
    let w = text-behind q rest (quote-plain x.value) ∙ attributes-text xs (every-tail attr_fine x xs h) in
    let u = texts-append x.value (q ∷ rest) (and-true-right (holds x.value) (is_text x.value) v) w in
    let e = text-behind 61 (q ∷ (x.value ++ (q ∷ rest))) refl ∙ (text-behind q (x.value ++ (q ∷ rest)) (quote-plain x.value) ∙ u) in
    text-behind 32 (x.key ++ (61 ∷ q ∷ (x.value ++ (q ∷ rest)))) refl
    ∙ texts-append x.key (61 ∷ q ∷ (x.value ++ (q ∷ rest))) (and-true-right (is_name_text x.key) (is_text x.key) k) e

end-text : (kind : ℕ) → is_text (tag_end kind) ≡ true
unfolding tag_end bytes
end-text kind = if-keeps is_text (eqb kind 1) (λ e. text-behind 62 [] refl ∙ empty-text) (λ e. text-behind 47 (62 ∷ []) refl ∙ (text-behind 62 [] refl ∙ empty-text))

tag-text : (kind : ℕ) (t : Tag) → tag_fine t ≡ true → is_text (written_tag kind t) ≡ true
unfolding tag_fine name_fine written_tag
tag-text kind t h =
    let (n, a, k, l) = four (name_fine t.name) (every attr_fine t.attributes) (new_keys [] t.attributes) (leb (length t.attributes) 32) h in
    let w = written_attributes t.attributes in
    text-behind 60 (t.name ++ (w ++ tag_end kind)) refl
    ∙ texts-append t.name (w ++ tag_end kind) (and-true-right (is_name_text t.name) (is_text t.name) n) (texts-append w (tag_end kind) (attributes-text t.attributes a) (end-text kind))

markup-text : (m : Markup) → markup_fine m ≡ true → is_text (markup_text m) ≡ true
unfolding markup_fine name_fine markup_text
markup-text (starts t) h = tag-text 1 t h
markup-text (empties t) h = tag-text 2 t h
markup-text (ends n) h =
    text-behind 60 (47 ∷ (n ++ (62 ∷ []))) refl
    ∙ (text-behind 47 (n ++ (62 ∷ [])) refl ∙ texts-append n (62 ∷ []) (and-true-right (is_name_text n) (is_text n) h) (text-behind 62 [] refl ∙ empty-text))

pub markups-text : (ms : List Markup) → every markup_fine ms ≡ true → is_text (markups_text ms) ≡ true
unfolding markups_text
markups-text [] h = empty-text
markups-text (m ∷ ms) h =
    texts-append (markup_text m) (markups_text ms) (markup-text m (every-head markup_fine m ms h)) (markups-text ms (every-tail markup_fine m ms h))

-- ---- no tag has more than 32 attributes

pub places-length : (at : ℕ) (xs : List Attr) → length (attribute_places at xs) ≡ length xs
unfolding attribute_places
places-length at [] = refl
places-length at (x ∷ xs) = ap suc (places-length (at + length x.key + length x.value + 4) xs)

tag-few : (at : ℕ) (t : Tag) → tag_fine t ≡ true → leb (length (attribute_places at t.attributes)) 32 ≡ true
unfolding tag_fine
tag-few at t h =
    rw (places-length at t.attributes) (four (name_fine t.name) (every attr_fine t.attributes) (new_keys [] t.attributes) (leb (length t.attributes) 32) h).3

pub markups-few : (at : ℕ) (ms : List Markup) → every markup_fine ms ≡ true → every few_attributes (placed_events at ms) ≡ true
unfolding every placed_events few_attributes markup_fine
markups-few at [] h = refl
markups-few at (starts t ∷ ms) h =
    and-true (tag-few _ t (and-true-left (tag_fine t) (every markup_fine ms) h)) (markups-few (at + length (markup_text (starts t))) ms (and-true-right (tag_fine t) (every markup_fine ms) h))
markups-few at (empties t ∷ ms) h =
    and-true (tag-few _ t (and-true-left (tag_fine t) (every markup_fine ms) h)) (markups-few (at + length (markup_text (empties t))) ms (and-true-right (tag_fine t) (every markup_fine ms) h))
markups-few at (ends n ∷ ms) h = markups-few (at + length (markup_text (ends n))) ms (and-true-right (name_fine n) (every markup_fine ms) h)
