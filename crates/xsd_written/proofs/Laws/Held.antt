-- The markup of a schema may be written where each text of its rows is held (22 is not met): quoted words by computation, numbers by their digits, texts as they
-- are. Assumes nothing.
--     row_holds      each text of a row is held
use Prim.Native.Nat.{ℕ, suc, ◌^◌, ◌<◌}
use Prim.Native.String.{String}
use native.Mathlib.Omega.{arith}
use native.Mathlib.Nat.{lt_trans}
use mathlib.Core.Path.{◌≡◌, refl, sym, ◌∙◌}
use mathlib.Core.Bool.{Bool, true, false, false≢true}
use mathlib.Core.List.{List, [], ◌∷◌, map}
use mathlib.Core.Option.{some, none}
use lib.Dec.{leb, ltb, lit<}
use lib.ListN.{length}
use borrow.Author.Tests.{ltb-true, le-leb, lt-ltb, ne_eqb}
use Rattle.text.specs.Text.{Text, bytes, every, is_text, is_digit, between, contains}
use Rattle.text.specs.Unfold.{computes}
use Rattle.text.proofs.Laws.Class.{empty-text, text-behind}
use Rattle.std.proofs.lemmas.Bool.{and_parts}
use Rattle.text.proofs.Laws.Tests.{and-true, and-true-left, and-true-right, three, four, bool_cases}
use Rattle.text.proofs.Laws.Every.{every-head, every-tail, every_append, every-append-true}
use Rattle.number.specs.Number.{is_numeral}
use Rattle.number.proofs.Laws.Numbers.{digit-within}
use Rattle.sheet.specs.Rows.{Row, row}
use Rattle.xsd_types.specs.Types.{Facet, MaxOccurs, SequenceElement, ChoiceVariant, Attribute, ComplexContent, Item, Schema}
use Rattle.xsd_types.specs.State.{element_ok, facet_ok, max_occurs_ok, sequence_element_ok, choice_variant_ok, attribute_ok, namespace_ok, content_ok, started, item_ok, schema_ok}
use Rattle.xsd_types.specs.Rows.{facet_row, occurs_row, element_row, variant_row, attribute_row, simple_type_rows, complex_type_rows, item_rows, items_rows}
use Rattle.xsd_parser.specs.Event.{Attr}
use Rattle.xml.specs.Classes.{is_char, is_letter, is_name_start, is_name, is_byte_of, begins}
use Rattle.xml.specs.Steps.{leading_name}
use Rattle.xml.specs.Grammar.{is_among}
use Rattle.xml.specs.Values.{starts_character}
use Rattle.xml.specs.Written.{is_name_text, is_value, quote_of, new_keys}
use Rattle.xsd_written.specs.Decimal.{decimal}
use Rattle.xsd_written.specs.Markup.{Markup, empties, ends}
use Rattle.xsd_written.specs.Schema.{attr, prefixed, prefixed_tag, around, valued, facet_markup, element_markup, max_text, variant_markup, attribute_markup, content_markup}
use Rattle.xsd_written.specs.Schema.{item_markup, items_markup, schema_markup}
use Rattle.xsd_written.specs.Call.{holds, unheld_from, first_unheld}
use Rattle.xsd_written.proofs.Laws.Decimals.{decimal-digits}
use Rattle.xsd_written.proofs.Laws.Fine.{name_fine, value_fine, attr_fine, tag_fine, markup_fine}

-- ---- digits are held

digit-plain : (b : ℕ) (s : Text) → is_digit b ≡ true → starts_character (b ∷ s) ≡ true
unfolding starts_character is_char between
digit-plain b s h =
    let (low, high) = digit-within b h in
    rw (ne_eqb b 38 (λ e. omega arith), ne_eqb b 9 (λ e. omega arith), ne_eqb b 10 (λ e. omega arith), ne_eqb b 13 (λ e. omega arith), le-leb 32 b (omega arith), le-leb b 55295 (omega arith))

digits_value : (s : Text) → every is_digit s ≡ true → is_value 34 s ≡ true
unfolding is_value
digits_value [] h = refl
digits_value (b ∷ s) h =
    let d = every-head is_digit b s h in
    let (low, high) = digit-within b d in
    rw (ne_eqb b 34 (λ e. omega arith), ne_eqb b 60 (λ e. omega arith), digit-plain b s d, digits_value s (every-tail is_digit b s h))

digits-no-quote : (s : Text) → every is_digit s ≡ true → contains 34 s ≡ false
unfolding contains
digits-no-quote [] h = refl
digits-no-quote (b ∷ s) h =
    let (low, high) = digit-within b (every-head is_digit b s h) in
    rw (ne_eqb b 34 (λ e. omega arith), digits-no-quote s (every-tail is_digit b s h))

digits-text : (s : Text) → every is_digit s ≡ true → is_text s ≡ true
digits-text [] h = empty-text
digits-text (b ∷ s) h =
    let (low, high) = digit-within b (every-head is_digit b s h) in
    text-behind b s (lt-ltb b 128 (omega arith)) ∙ digits-text s (every-tail is_digit b s h)

digits-fine : (s : Text) → every is_digit s ≡ true → value_fine s ≡ true
unfolding value_fine holds quote_of
digits-fine s h = rw (digits-no-quote s h, digits_value s h) (digits-text s h)

numeral-digits : (s : Text) → is_numeral s ≡ true → every is_digit s ≡ true
unfolding is_numeral
numeral-digits [] h = absurd (false≢true h)
numeral-digits (b ∷ s) h = h

pub decimal-fine : (n : ℕ) → n < 10 ^ 20 → value_fine (decimal n) ≡ true
unfolding decimal
decimal-fine n h = digits-fine (decimal n) (numeral-digits (decimal n) (decimal-digits 19 n h))

pub wide : (n : ℕ) → ltb n (2 ^ 64) ≡ true → n < 10 ^ 20
wide n h = lt_trans (ltb-true n (2 ^ 64) h) (lit< tt)

pub narrow : (n : ℕ) → ltb n (2 ^ 32) ≡ true → n < 10 ^ 20
narrow n h = lt_trans (ltb-true n (2 ^ 32) h) (lit< tt)

-- ---- tags

value-fine : (v : Text) → is_text v ≡ true → holds v ≡ true → value_fine v ≡ true
unfolding value_fine
value-fine v t h = and-true h t

attr-fine : (key : String) (v : Text) → name_fine (bytes key) ≡ true → value_fine v ≡ true → attr_fine (attr key v) ≡ true
unfolding attr_fine attr
attr-fine key v k h = and-true k h

tag-fine : (word : String) (xs : List Attr) → name_fine (prefixed word) ≡ true → every attr_fine xs ≡ true → new_keys [] xs ≡ true → leb (length xs) 32 ≡ true → tag_fine (prefixed_tag word xs) ≡ true
unfolding tag_fine prefixed_tag
tag-fine word xs n a k l = and-true (and-true (and-true n a) k) l

around-fine : (word : String) (xs : List Attr) (ms : List Markup) → tag_fine (prefixed_tag word xs) ≡ true → every markup_fine ms ≡ true → every markup_fine (around word xs ms) ≡ true
unfolding around every markup_fine tag_fine prefixed_tag
around-fine word xs ms t h =
    and-true t (every-append-true markup_fine ms (ends (prefixed word) ∷ []) h (and-true (four (name_fine (prefixed word)) (every attr_fine xs) (new_keys [] xs) (leb (length xs) 32) t).0 refl))

-- quoted words compute
unfoldable words : Unit {0}
unfolding computes name_fine is_name_text begins is_byte_of leading_name is_name_start is_name is_letter prefixed attr new_keys is_among
words = tt

one-fine : (word key : String) (v : Text) → name_fine (prefixed word) ≡ true → name_fine (bytes key) ≡ true → value_fine v ≡ true → tag_fine (prefixed_tag word (attr key v ∷ [])) ≡ true
unfolding every new_keys is_among
one-fine word key v w k h = tag-fine word (attr key v ∷ []) w (and-true (attr-fine key v k h) refl) refl refl

bare-fine : (word : String) → name_fine (prefixed word) ≡ true → tag_fine (prefixed_tag word []) ≡ true
unfolding every new_keys
bare-fine word w = tag-fine word [] w refl refl refl

-- ---- children

abbrev pub row_holds : Row → Bool
row_holds r = every holds r.texts

facet-fine : (f : Facet) → facet_ok f ≡ true → row_holds (facet_row f) ≡ true → markup_fine (facet_markup f) ≡ true
unfolding words facet_row row facet_ok facet_markup valued markup_fine
facet-fine (Facet.enumeration v) t h = one-fine "enumeration" "value" v refl refl (value-fine v t (and-true-left (holds v) true h))
facet-fine (Facet.pattern v) t h = one-fine "pattern" "value" v refl refl (value-fine v t (and-true-left (holds v) true h))
facet-fine (Facet.min_length n) t h = one-fine "minLength" "value" (decimal n) refl refl (decimal-fine n (wide n t))
facet-fine (Facet.max_length n) t h = one-fine "maxLength" "value" (decimal n) refl refl (decimal-fine n (wide n t))
facet-fine (Facet.min_inclusive v) t h = one-fine "minInclusive" "value" v refl refl (value-fine v t (and-true-left (holds v) true h))
facet-fine (Facet.max_inclusive v) t h = one-fine "maxInclusive" "value" v refl refl (value-fine v t (and-true-left (holds v) true h))
facet-fine (Facet.total_digits n) t h = one-fine "totalDigits" "value" (decimal n) refl refl (decimal-fine n (narrow n t))
facet-fine (Facet.fraction_digits n) t h = one-fine "fractionDigits" "value" (decimal n) refl refl (decimal-fine n (narrow n t))

-- a name, a type and further attributes
named-fine : (n t : Text) (xs : List Attr) → is_text n ≡ true → is_text t ≡ true → every holds (n ∷ t ∷ []) ≡ true → every attr_fine xs ≡ true
    → every attr_fine (attr "name" n ∷ attr "type" t ∷ xs) ≡ true
unfolding words
named-fine n t xs n_text t_text h a =
    let v = value-fine n n_text (every-head holds n (t ∷ []) h) in
    let w = value-fine t t_text (every-head holds t [] (every-tail holds n (t ∷ []) h)) in
    and-true (attr-fine "name" n refl v) (and-true (attr-fine "type" t refl w) a)

occurs-fine : (n t low high : Text) → is_text n ≡ true → is_text t ≡ true → every holds (n ∷ t ∷ []) ≡ true → value_fine low ≡ true → value_fine high ≡ true
    → tag_fine (prefixed_tag "element" (attr "name" n ∷ attr "type" t ∷ attr "minOccurs" low ∷ attr "maxOccurs" high ∷ [])) ≡ true
unfolding words
occurs-fine n t low high n_text t_text h a b =
    tag-fine "element" (attr "name" n ∷ attr "type" t ∷ attr "minOccurs" low ∷ attr "maxOccurs" high ∷ []) refl
    (named-fine n t (attr "minOccurs" low ∷ attr "maxOccurs" high ∷ []) n_text t_text h (and-true (attr-fine "minOccurs" low refl a) (and-true (attr-fine "maxOccurs" high refl b) refl))) refl refl

pair-fine : (word : String) (n t : Text) → name_fine (prefixed word) ≡ true → is_text n ≡ true → is_text t ≡ true → every holds (n ∷ t ∷ []) ≡ true
    → tag_fine (prefixed_tag word (attr "name" n ∷ attr "type" t ∷ [])) ≡ true
unfolding words
pair-fine word n t w n_text t_text h = tag-fine word (attr "name" n ∷ attr "type" t ∷ []) w (named-fine n t [] n_text t_text h refl) refl refl

unbounded-fine : value_fine (bytes "unbounded") ≡ true
unfolding words value_fine holds is_value quote_of contains starts_character is_char
unbounded-fine = refl

required-fine : value_fine (bytes "required") ≡ true
unfolding words value_fine holds is_value quote_of contains starts_character is_char
required-fine = refl

bounds-fine : (n t : Text) (low : ℕ) (high : MaxOccurs) → is_text n ≡ true → is_text t ≡ true → ltb low (2 ^ 32) ≡ true → max_occurs_ok high ≡ true → row_holds (occurs_row n t low high) ≡ true
    → tag_fine (prefixed_tag "element" (attr "name" n ∷ attr "type" t ∷ attr "minOccurs" (decimal low) ∷ attr "maxOccurs" (max_text high) ∷ [])) ≡ true
unfolding occurs_row row max_occurs_ok
bounds-fine n t low (MaxOccurs.bounded high) a b c d h = occurs-fine n t (decimal low) (decimal high) a b h (decimal-fine low (narrow low c)) (decimal-fine high (narrow high d))
bounds-fine n t low MaxOccurs.unbounded a b c d h = occurs-fine n t (decimal low) (bytes "unbounded") a b h (decimal-fine low (narrow low c)) unbounded-fine

element-fine : (e : SequenceElement) → sequence_element_ok e ≡ true → row_holds (element_row e) ≡ true → markup_fine (element_markup e) ≡ true
unfolding element_row element_markup markup_fine sequence_element_ok
element-fine e k h =
    let (a, b, c, d) = four (is_text e.name) (is_text e.type_name) (ltb e.min_occurs (2 ^ 32)) (max_occurs_ok e.max_occurs) k in
    bounds-fine e.name e.type_name e.min_occurs e.max_occurs a b c d h

variant-fine : (v : ChoiceVariant) → choice_variant_ok v ≡ true → row_holds (variant_row v) ≡ true → markup_fine (variant_markup v) ≡ true
unfolding words variant_row row variant_markup markup_fine choice_variant_ok
variant-fine v k h =
    let (a, b) = and_parts (is_text v.name) (is_text v.type_name) k in
    pair-fine "element" v.name v.type_name refl a b h

use-fine : (n t : Text) (required : Bool) → is_text n ≡ true → is_text t ≡ true → every holds (n ∷ t ∷ []) ≡ true
    → markup_fine (attribute_markup (record { name = n; type_name = t; required = required })) ≡ true
unfolding words attribute_markup markup_fine
use-fine n t true a b h =
    tag-fine "attribute" (attr "name" n ∷ attr "type" t ∷ attr "use" (bytes "required") ∷ []) refl
    (named-fine n t (attr "use" (bytes "required") ∷ []) a b h (and-true (attr-fine "use" (bytes "required") refl required-fine) refl)) refl refl
use-fine n t false a b h = pair-fine "attribute" n t refl a b h

attribute-fine : (x : Attribute) → attribute_ok x ≡ true → row_holds (attribute_row x) ≡ true → markup_fine (attribute_markup x) ≡ true
unfolding attribute_row row attribute_ok
attribute-fine x k h =
    let (a, b) = and_parts (is_text x.name) (is_text x.type_name) k in
    use-fine x.name x.type_name x.required a b h

children-fine : {A : Type 0} (ok : A → Bool) (f : A → Row) (g : A → Markup) → ((x : A) → ok x ≡ true → row_holds (f x) ≡ true → markup_fine (g x) ≡ true)
    → (xs : List A) → every ok xs ≡ true → every row_holds (map f xs) ≡ true → every markup_fine (map g xs) ≡ true
unfolding every
children-fine ok f g each [] k h = refl
children-fine ok f g each (x ∷ xs) k h =
    and-true (each x (and-true-left (ok x) (every ok xs) k) (and-true-left (row_holds (f x)) (every row_holds (map f xs)) h))
    (children-fine ok f g each xs (and-true-right (ok x) (every ok xs) k) (and-true-right (row_holds (f x)) (every row_holds (map f xs)) h))

-- ---- items

simple-fine : (n b : Text) (fs : List Facet) (event : ℕ) → is_text n ≡ true → is_text b ≡ true → every facet_ok fs ≡ true → every row_holds (simple_type_rows event n b fs) ≡ true
    → every markup_fine (around "simpleType" (attr "name" n ∷ []) (around "restriction" (attr "base" b ∷ []) (map facet_markup fs))) ≡ true
unfolding words simple_type_rows row
simple-fine n b fs event n_text b_text k h =
    let t = every-head row_holds (row 3 (n ∷ b ∷ []) 0 0 event) (map facet_row fs) h in
    let v = value-fine n n_text (every-head holds n (b ∷ []) t) in
    let w = value-fine b b_text (every-head holds b [] (every-tail holds n (b ∷ []) t)) in
    around-fine "simpleType" (attr "name" n ∷ []) (around "restriction" (attr "base" b ∷ []) (map facet_markup fs)) (one-fine "simpleType" "name" n refl refl v)
    (around-fine "restriction" (attr "base" b ∷ []) (map facet_markup fs) (one-fine "restriction" "base" b refl refl w)
    (children-fine facet_ok facet_row facet_markup facet-fine fs k (every-tail row_holds (row 3 (n ∷ b ∷ []) 0 0 event) (map facet_row fs) h)))

any-fine : (xs : List Attr) → tag_fine (prefixed_tag "any" xs) ≡ true → every markup_fine (around "sequence" [] (empties (prefixed_tag "any" xs) ∷ [])) ≡ true
unfolding words markup_fine
any-fine xs h = around-fine "sequence" [] (empties (prefixed_tag "any" xs) ∷ []) (bare-fine "sequence" refl) (and-true h refl)

content-fine : (n : Text) (c : ComplexContent) (event : ℕ) → content_ok (started c) ≡ true → every row_holds (complex_type_rows event n (started c)) ≡ true
    → (holds n ≡ true) × (every markup_fine (content_markup c) ≡ true)
unfolding words content_ok started complex_type_rows row content_markup namespace_ok
content-fine n (ComplexContent.sequence es) event k h =
    let t = every-head row_holds (row 12 (n ∷ []) 0 0 event) (map element_row es) h in (
      every-head holds n [] t,
      around-fine "sequence" [] (map element_markup es) (bare-fine "sequence" refl)
          (children-fine sequence_element_ok element_row element_markup element-fine es k (every-tail row_holds (row 12 (n ∷ []) 0 0 event) (map element_row es) h)),
    )
content-fine n (ComplexContent.choice vs) event k h =
    let t = every-head row_holds (row 13 (n ∷ []) 0 0 event) (map variant_row vs) h in (
      every-head holds n [] t,
      around-fine "choice" [] (map variant_markup vs) (bare-fine "choice" refl)
          (children-fine choice_variant_ok variant_row variant_markup variant-fine vs k (every-tail row_holds (row 13 (n ∷ []) 0 0 event) (map variant_row vs) h)),
    )
content-fine n (ComplexContent.simple_content base xs) event k h =
    let (b, a) = and_parts (is_text base) (every attribute_ok xs) k in
    let t = every-head row_holds (row 14 (n ∷ base ∷ []) 0 0 event) (map attribute_row xs) h in
    let v = value-fine base b (every-head holds base [] (every-tail holds n (base ∷ []) t)) in
    let ms = map attribute_markup xs in (
      every-head holds n (base ∷ []) t,
      around-fine "simpleContent" [] (around "extension" (attr "base" base ∷ []) ms) (bare-fine "simpleContent" refl)
          (around-fine "extension" (attr "base" base ∷ []) ms (one-fine "extension" "base" base refl refl v)
          (children-fine attribute_ok attribute_row attribute_markup attribute-fine xs a (every-tail row_holds (row 14 (n ∷ base ∷ []) 0 0 event) (map attribute_row xs) h))),
    )
content-fine n (ComplexContent.any none) event k h =
    (every-head holds n [] (every-head row_holds (row 15 (n ∷ []) 0 0 event) [] h), any-fine [] (bare-fine "any" refl))
content-fine n (ComplexContent.any (some v)) event k h =
    let t = every-head row_holds (row 15 (n ∷ v ∷ []) 1 0 event) [] h in
    (every-head holds n (v ∷ []) t, any-fine (attr "namespace" v ∷ []) (one-fine "any" "namespace" v refl refl (value-fine v k (every-head holds v [] (every-tail holds n (v ∷ []) t)))))

item-fine : (i : Item) → item_ok i ≡ true → every row_holds (item_rows i) ≡ true → every markup_fine (item_markup i) ≡ true
unfolding words item_ok element_ok item_rows row item_markup markup_fine
item-fine (Item.element e) k h =
    let (a, b) = and_parts (is_text e.name) (is_text e.type_name) k in
    and-true (pair-fine "element" e.name e.type_name refl a b (every-head row_holds (row 2 (e.name ∷ e.type_name ∷ []) 0 0 e.event) [] h)) refl
item-fine (Item.simple_type t) k h =
    let (a, b, c) = three (is_text t.name) (is_text t.base) (every facet_ok t.facets) k in
    simple-fine t.name t.base t.facets t.event a b c h
item-fine (Item.complex_type t) k h =
    let (a, c) = and_parts (is_text t.name) (content_ok (started t.content)) k in
    let (n, m) = content-fine t.name t.content t.event c h in
    around-fine "complexType" (attr "name" t.name ∷ []) (content_markup t.content) (one-fine "complexType" "name" t.name refl refl (value-fine t.name a n)) m

items-fine : (is : List Item) → every item_ok is ≡ true → every row_holds (items_rows is) ≡ true → every markup_fine (items_markup is) ≡ true
unfolding every items_rows items_markup
items-fine [] k h = refl
items-fine (i ∷ is) k h =
    let (a, b) = and_parts (every row_holds (item_rows i)) (every row_holds (items_rows is)) (sym (every_append row_holds (item_rows i) (items_rows is)) ∙ h) in
    every-append-true markup_fine (item_markup i) (items_markup is) (item-fine i (and-true-left (item_ok i) (every item_ok is) k) a) (items-fine is (and-true-right (item_ok i) (every item_ok is) k) b)

-- ---- the schema

unheld-none : (place : ℕ) (rs : List Row) → unheld_from place rs ≡ none → every row_holds rs ≡ true
unfolding unheld_from every
unheld-none place [] h = refl
unheld-none place (r ∷ rs) h =
    bool_cases (row_holds r)
    (λ e. and-true e (unheld-none (suc place) rs (rw e at h)))
    (λ e. let z : ◌≡◌ {A = ℕ} 0 1 = cc (rw e at h) in absurd (omega arith))

pub none-unheld : (s : Schema) → first_unheld s ≡ none → (holds s.target_namespace ≡ true) × (every row_holds (items_rows s.items) ≡ true)
unfolding first_unheld
none-unheld s h =
    bool_cases (holds s.target_namespace)
    (λ e. (e, unheld-none 2 (items_rows s.items) (rw e at h)))
    (λ e. let z : ◌≡◌ {A = ℕ} 0 1 = cc (rw e at h) in absurd (omega arith))

namespace-fine : value_fine (bytes "http://www.w3.org/2001/XMLSchema") ≡ true
unfolding words value_fine holds is_value quote_of contains starts_character is_char
namespace-fine = refl

abbrev pub schema_attributes : Text → List Attr
schema_attributes n = attr "xmlns:xs" (bytes "http://www.w3.org/2001/XMLSchema") ∷ attr "targetNamespace" n ∷ []

pub schema-fine : (s : Schema) → schema_ok s ≡ true → first_unheld s ≡ none → every markup_fine (schema_markup s) ≡ true
unfolding words schema_ok schema_markup
schema-fine s k h =
    let (t, is) = and_parts (is_text s.target_namespace) (every item_ok s.items) k in
    let (n, rs) = none-unheld s h in
    let xs = schema_attributes s.target_namespace in
    let v = value-fine s.target_namespace t n in
    let a = and-true (attr-fine "xmlns:xs" (bytes "http://www.w3.org/2001/XMLSchema") refl namespace-fine) (and-true (attr-fine "targetNamespace" s.target_namespace refl v) refl) in
    around-fine "schema" xs (items_markup s.items) (tag-fine "schema" xs refl a refl refl) (items-fine s.items is rs)
