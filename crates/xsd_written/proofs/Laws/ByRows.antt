-- The text told row by row is the text by items (specs/ByRows.antt): a head's children are all rows up to the next head, which closes it, and each row says what
-- the markup of its item says. Assumes nothing.
use Prim.Native.Nat.{ℕ, ◌+◌, ◌/◌}
use Prim.Native.String.{String}
use mathlib.Core.Path.{◌≡◌, refl, sym, ap, ◌∙◌}
use mathlib.Core.Bool.{Bool, true, false}
use mathlib.Core.List.{List, [], ◌∷◌, ◌++◌, map, append_assoc, append-nil}
use mathlib.Core.Option.{some, none}
use Rattle.text.specs.Text.{Text, bytes, contains, between}
use Rattle.sheet.specs.Rows.{Row, row, bit}
use Rattle.xsd_types.specs.Types.{Facet, MaxOccurs, SequenceElement, ChoiceVariant, Attribute, ComplexContent, Item, Schema}
use Rattle.xsd_types.specs.State.{started}
use Rattle.xsd_types.specs.Rows.{facet_row, occurs_row, element_row, variant_row, attribute_row, simple_type_rows, complex_type_rows, item_rows, items_rows}
use Rattle.xsd_types.specs.Good.{is_head}
use Rattle.xsd_types.specs.Back.{text0, text1}
use Rattle.xsd_parser.specs.Event.{Attr}
use Rattle.xml.specs.Written.{quote_of, written_attributes, tag_end, written_tag}
use Rattle.xml.proofs.Laws.Written.{written-more}
use Rattle.xsd_written.specs.Decimal.{decimal}
use Rattle.xsd_written.specs.Markup.{Markup, starts, empties, ends, markup_text, markups_text}
use Rattle.xsd_written.specs.Schema.{attr, prefixed, prefixed_tag, around, valued, facet_markup, element_markup, variant_markup, attribute_markup, content_markup, item_markup}
use Rattle.xsd_written.specs.Schema.{items_markup, schema_markup, schema_text}
use Rattle.xsd_written.specs.ByRows.{attribute_text, empty_text, named_text, complex_text, any_text, head_markup, facet_word_text, facet_value_text, max_occurs_text, occurs_text}
use Rattle.xsd_written.specs.ByRows.{use_text, child_text, close_text, rows_text, schema_by_rows}
use Rattle.xsd_types.proofs.Laws.Items.{halves, facet-no_head, element-no_head, variant-no_head, attribute-no_head}
use Rattle.xml.proofs.Laws.Grammar.Basics.{regroup}

-- ---- markup as text

pub markups-append : (ms ns : List Markup) → markups_text (ms ++ ns) ≡ markups_text ms ++ markups_text ns
unfolding markups_text
markups-append [] ns = refl
markups-append (m ∷ ms) ns = ap (λ (u : Text). markup_text m ++ u) (markups-append ms ns) ∙ sym (append_assoc (markup_text m) (markups_text ms) (markups_text ns))

attributes-apart : (x : Attr) (xs : List Attr) → written_attributes (x ∷ xs) ≡ written_attributes (x ∷ []) ++ written_attributes xs
unfolding written_attributes
attributes-apart x xs = sym (written-more x [] (written_attributes xs))

empty-text : (word : String) (xs : List Attr) → markup_text (empties (prefixed_tag word xs)) ≡ empty_text (bytes word) (written_attributes xs)
unfolding markup_text written_tag prefixed_tag prefixed empty_text bytes tag_end
empty-text word xs = refl

start-text : (word : String) (xs : List Attr) → markup_text (starts (prefixed_tag word xs)) ≡ bytes "<xs:" ++ (bytes word ++ (written_attributes xs ++ bytes ">"))
unfolding markup_text written_tag prefixed_tag prefixed bytes tag_end
start-text word xs = refl

end-text : (word : String) → markup_text (ends (prefixed word)) ≡ bytes "</xs:" ++ (bytes word ++ bytes ">")
unfolding markup_text prefixed bytes
end-text word = refl

around-text : (word : String) (xs : List Attr) (ms : List Markup)
    → markups_text (around word xs ms) ≡ markup_text (starts (prefixed_tag word xs)) ++ (markups_text ms ++ markup_text (ends (prefixed word)))
unfolding around markups_text
around-text word xs ms =
    ap (λ (u : Text). markup_text (starts (prefixed_tag word xs)) ++ u) (markups-append ms (ends (prefixed word) ∷ [])
    ∙ ap (λ (u : Text). markups_text ms ++ u) (append-nil (markup_text (ends (prefixed word)))))

-- ---- children

-- the attributes of a name and a type, and what stands behind them
named_more : (n t : Text) (xs : List Attr) → written_attributes (attr "name" n ∷ attr "type" t ∷ xs) ≡ (attribute_text "name" n ++ attribute_text "type" t) ++ written_attributes xs
unfolding attribute_text
named_more n t xs =
    attributes-apart (attr "name" n) (attr "type" t ∷ xs) ∙ ap (λ (u : Text). attribute_text "name" n ++ u) (attributes-apart (attr "type" t) xs)
    ∙ sym (append_assoc (attribute_text "name" n) (attribute_text "type" t) (written_attributes xs))

named-only : (n t : Text) → written_attributes (attr "name" n ∷ attr "type" t ∷ []) ≡ attribute_text "name" n ++ attribute_text "type" t
unfolding written_attributes
named-only n t = named_more n t [] ∙ append-nil (attribute_text "name" n ++ attribute_text "type" t)

valued-text : (word : String) (v : Text) → markup_text (valued word v) ≡ empty_text (bytes word) (attribute_text "value" v)
unfolding valued attribute_text
valued-text word v = empty-text word (attr "value" v ∷ [])

facet-text : (f : Facet) → child_text (facet_row f) ≡ markup_text (facet_markup f)
unfolding child_text facet_row facet_markup row between facet_word_text facet_value_text text0
facet-text (Facet.enumeration v) = sym (valued-text "enumeration" v)
facet-text (Facet.pattern v) = sym (valued-text "pattern" v)
facet-text (Facet.min_length n) = rw (halves n) (sym (valued-text "minLength" (decimal n)))
facet-text (Facet.max_length n) = rw (halves n) (sym (valued-text "maxLength" (decimal n)))
facet-text (Facet.min_inclusive v) = sym (valued-text "minInclusive" v)
facet-text (Facet.max_inclusive v) = sym (valued-text "maxInclusive" v)
facet-text (Facet.total_digits n) = sym (valued-text "totalDigits" (decimal n))
facet-text (Facet.fraction_digits n) = sym (valued-text "fractionDigits" (decimal n))

element-of : (n t low high : Text)
    → markup_text (empties (prefixed_tag "element" (attr "name" n ∷ attr "type" t ∷ attr "minOccurs" low ∷ attr "maxOccurs" high ∷ [])))
    ≡ empty_text (bytes "element") ((attribute_text "name" n ++ attribute_text "type" t) ++ (attribute_text "minOccurs" low ++ attribute_text "maxOccurs" high))
unfolding attribute_text
element-of n t low high =
    empty-text "element" (attr "name" n ∷ attr "type" t ∷ attr "minOccurs" low ∷ attr "maxOccurs" high ∷ [])
    ∙ ap (empty_text (bytes "element"))
    (named_more n t (attr "minOccurs" low ∷ attr "maxOccurs" high ∷ [])
    ∙ ap (λ (u : Text). (attribute_text "name" n ++ attribute_text "type" t) ++ u) (attributes-apart (attr "minOccurs" low) (attr "maxOccurs" high ∷ [])))

occurs-text : (n t : Text) (low : ℕ) (high : MaxOccurs)
    → child_text (occurs_row n t low high) ≡ markup_text (element_markup (record { name = n; type_name = t; min_occurs = low; max_occurs = high }))
unfolding child_text occurs_row element_markup row between named_text occurs_text max_occurs_text text0 text1
occurs-text n t low (MaxOccurs.bounded high) = sym (element-of n t (decimal low) (decimal high))
occurs-text n t low MaxOccurs.unbounded = sym (element-of n t (decimal low) (bytes "unbounded"))

element-text : (e : SequenceElement) → child_text (element_row e) ≡ markup_text (element_markup e)
unfolding element_row
element-text e = occurs-text e.name e.type_name e.min_occurs e.max_occurs

variant-of : (n t : Text) → markup_text (empties (prefixed_tag "element" (attr "name" n ∷ attr "type" t ∷ []))) ≡ empty_text (bytes "element") (attribute_text "name" n ++ attribute_text "type" t)
variant-of n t = empty-text "element" (attr "name" n ∷ attr "type" t ∷ []) ∙ ap (empty_text (bytes "element")) (named-only n t)

variant-text : (v : ChoiceVariant) → child_text (variant_row v) ≡ markup_text (variant_markup v)
unfolding child_text variant_row variant_markup row between named_text text0 text1
variant-text v = sym (variant-of v.name v.type_name)

use-text : (n t : Text) (required : Bool)
    → child_text (attribute_row (record { name = n; type_name = t; required = required })) ≡ markup_text (attribute_markup (record { name = n; type_name = t; required = required }))
unfolding child_text attribute_row attribute_markup row between named_text use_text text0 text1 bit written_attributes attribute_text
use-text n t true = sym (empty-text "attribute" (attr "name" n ∷ attr "type" t ∷ attr "use" (bytes "required") ∷ [])
    ∙ ap (empty_text (bytes "attribute")) (named_more n t (attr "use" (bytes "required") ∷ [])))
use-text n t false = sym (empty-text "attribute" (attr "name" n ∷ attr "type" t ∷ []) ∙ ap (empty_text (bytes "attribute")) (named_more n t []))

attribute-text : (x : Attribute) → child_text (attribute_row x) ≡ markup_text (attribute_markup x)
attribute-text x = use-text x.name x.type_name x.required

-- ---- rows

module _ {A : Type 0} (f : A → Row) (g : A → Markup) (child : (x : A) → is_head (f x).tag ≡ false) (text : (x : A) → child_text (f x) ≡ markup_text (g x)) where
  children-text : (pending : ℕ) (xs : List A) (rs : List Row) → rows_text pending (map f xs ++ rs) ≡ markups_text (map g xs) ++ rows_text pending rs
  unfolding rows_text markups_text
  children-text pending [] rs = refl
  children-text pending (x ∷ xs) rs =
      rw (child x, text x)
      (ap (λ (u : Text). markup_text (g x) ++ u) (children-text pending xs rs) ∙ sym (append_assoc (markup_text (g x)) (markups_text (map g xs)) (rows_text pending rs)))

-- a head closes the one before it
head_rows : (pending : ℕ) (r : Row) (rs : List Row) → is_head r.tag ≡ true → rows_text pending (r ∷ rs) ≡ close_text pending ++ (head_markup r ++ rows_text r.tag rs)
unfolding rows_text
head_rows pending r rs h = rw h

-- the rows of an item begin with a head
record Headed (rs : List Row) : Type 0 where
  head : Row
  children : List Row
  is_first : rs ≡ head ∷ children
  heads : is_head head.tag ≡ true

content-headed : (event : ℕ) (name : Text) (c : ComplexContent) → Headed (complex_type_rows event name (started c))
unfolding complex_type_rows started row is_head between
content-headed event name (ComplexContent.sequence es) = record { head = _; children = _; is_first = refl; heads = refl }
content-headed event name (ComplexContent.choice vs) = record { head = _; children = _; is_first = refl; heads = refl }
content-headed event name (ComplexContent.simple_content base xs) = record { head = _; children = _; is_first = refl; heads = refl }
content-headed event name (ComplexContent.any none) = record { head = _; children = _; is_first = refl; heads = refl }
content-headed event name (ComplexContent.any (some n)) = record { head = _; children = _; is_first = refl; heads = refl }

item-headed : (i : Item) → Headed (item_rows i)
unfolding item_rows simple_type_rows row is_head between
item-headed (Item.element e) = record { head = _; children = _; is_first = refl; heads = refl }
item-headed (Item.simple_type t) = record { head = _; children = _; is_first = refl; heads = refl }
item-headed (Item.complex_type t) = content-headed t.event t.name t.content

pending-close : (pending : ℕ) (is : List Item) → rows_text pending (items_rows is) ≡ close_text pending ++ rows_text 0 (items_rows is)
unfolding items_rows rows_text close_text
pending-close pending [] = sym (append-nil (close_text pending))
pending-close pending (i ∷ is) =
    let h = item-headed i in
    rw (h.is_first, h.heads)

-- ---- items

abbrev opens : String → List Attr → Text
opens word xs = bytes "<xs:" ++ (bytes word ++ (written_attributes xs ++ bytes ">"))

abbrev shuts : String → Text
shuts word = bytes "</xs:" ++ (bytes word ++ bytes ">")

-- a start tag inside another, as one piece, and the two end tags as one
shape : (p w a g v b f q r : Text) → (p ++ (w ++ (a ++ (g ++ (p ++ (v ++ (b ++ g))))))) ++ (f ++ (((q ++ (v ++ g)) ++ (q ++ (w ++ g))) ++ r))
    ≡ ((p ++ (w ++ (a ++ g))) ++ (((p ++ (v ++ (b ++ g))) ++ (f ++ (q ++ (v ++ g)))) ++ (q ++ (w ++ g)))) ++ r
shape p w a g v b f q r = simp append_assoc

around-opens : (word : String) (xs : List Attr) (ms : List Markup) → markups_text (around word xs ms) ≡ opens word xs ++ (markups_text ms ++ shuts word)
around-opens word xs ms = rw (← start-text word xs, ← end-text word) (around-text word xs ms)

two-around : (outer inner : String) (xs ys : List Attr) (ms : List Markup)
    → markups_text (around outer xs (around inner ys ms)) ≡ opens outer xs ++ ((opens inner ys ++ (markups_text ms ++ shuts inner)) ++ shuts outer)
two-around outer inner xs ys ms = rw (← around-opens inner ys ms) (around-opens outer xs (around inner ys ms))

two-levels : (outer inner : String) (xs ys : List Attr) (ms : List Markup) (head close r : Text)
    → head ≡ bytes "<xs:" ++ (bytes outer ++ (written_attributes xs ++ (bytes ">" ++ opens inner ys))) → close ≡ shuts inner ++ shuts outer
    → head ++ (markups_text ms ++ (close ++ r)) ≡ markups_text (around outer xs (around inner ys ms)) ++ r
two-levels outer inner xs ys ms head close r h c =
    rw (h, c, two-around outer inner xs ys ms)
    (shape (bytes "<xs:") (bytes outer) (written_attributes xs) (bytes ">") (bytes inner) (written_attributes ys) (markups_text ms) (bytes "</xs:") r)

-- a third level inside, and none but an empty tag
three-shape : (h o f c d r : Text) → (h ++ o) ++ (f ++ ((c ++ d) ++ r)) ≡ h ++ ((o ++ (f ++ c)) ++ (d ++ r))
three-shape h o f c d r = simp append_assoc

one-shape : (h o d r : Text) → (h ++ o) ++ (d ++ r) ≡ h ++ ((o ++ []) ++ (d ++ r))
one-shape h o d r = rw (append-nil o) (append_assoc h o (d ++ r))

abbrev named : Text → List Attr
named n = attr "name" n ∷ []

abbrev complex_head : Text → Text → Text
complex_head n content = bytes "<xs:complexType" ++ (written_attributes (named n) ++ content)

extension-level : (n : Text) (ys : List Attr) (ms : List Markup) (r : Text)
    → complex_head n (bytes "><xs:simpleContent>" ++ opens "extension" ys) ++ (markups_text ms ++ ((shuts "extension" ++ (shuts "simpleContent" ++ shuts "complexType")) ++ r))
    ≡ markups_text (around "complexType" (named n) (around "simpleContent" [] (around "extension" ys ms))) ++ r
unfolding bytes written_attributes
extension-level n ys ms r =
    let a = complex_head n (bytes "><xs:simpleContent>") in
    let d = shuts "simpleContent" ++ shuts "complexType" in
    ap (λ (u : Text). u ++ (markups_text ms ++ ((shuts "extension" ++ d) ++ r))) (sym (regroup (bytes "<xs:complexType") (written_attributes (named n)) (bytes "><xs:simpleContent>")
    (opens "extension" ys)))
    ∙ three-shape a (opens "extension" ys) (markups_text ms) (shuts "extension") d r
    ∙ ap (λ (u : Text). a ++ (u ++ (d ++ r))) (sym (around-opens "extension" ys ms))
    ∙ two-levels "complexType" "simpleContent" (named n) [] (around "extension" ys ms) a d r refl refl

any-level : (n : Text) (xs : List Attr) (r : Text)
    → complex_head n (bytes "><xs:sequence>" ++ empty_text (bytes "any") (written_attributes xs)) ++ ((shuts "sequence" ++ shuts "complexType") ++ r)
    ≡ markups_text (around "complexType" (named n) (around "sequence" [] (empties (prefixed_tag "any" xs) ∷ []))) ++ r
unfolding bytes written_attributes markups_text
any-level n xs r =
    let a = complex_head n (bytes "><xs:sequence>") in
    let d = shuts "sequence" ++ shuts "complexType" in
    let m = empty_text (bytes "any") (written_attributes xs) in
    ap (λ (u : Text). u ++ (d ++ r)) (sym (regroup (bytes "<xs:complexType") (written_attributes (named n)) (bytes "><xs:sequence>") m))
    ∙ one-shape a m d r
    ∙ ap (λ (u : Text). a ++ ((u ++ []) ++ (d ++ r))) (sym (empty-text "any" xs))
    ∙ two-levels "complexType" "sequence" (named n) [] (empties (prefixed_tag "any" xs) ∷ []) a d r refl refl

module _ (is : List Item) where
  abbrev behind : Text
  behind = rows_text 0 (items_rows is)

  -- a head and its children
  module _ {A : Type 0} (f : A → Row) (g : A → Markup) (child : (x : A) → is_head (f x).tag ≡ false) (text : (x : A) → child_text (f x) ≡ markup_text (g x)) where
    group-rows : (h : Row) (xs : List A) → is_head h.tag ≡ true
        → rows_text 0 (h ∷ (map f xs ++ items_rows is)) ≡ head_markup h ++ (markups_text (map g xs) ++ (close_text h.tag ++ rows_text 0 (items_rows is)))
    unfolding close_text
    group-rows h xs e =
        head_rows 0 h (map f xs ++ items_rows is) e
        ∙ ap (λ (u : Text). head_markup h ++ u) (children-text f g child text h.tag xs (items_rows is) ∙ ap (λ (u : Text). markups_text (map g xs) ++ u) (pending-close h.tag is))

  element-rows : (n t : Text) (event : ℕ) → rows_text 0 (row 2 (n ∷ t ∷ []) 0 0 event ∷ items_rows is)
      ≡ markups_text (item_markup (Item.element (record { name = n; type_name = t; event = event }))) ++ behind
  unfolding row is_head between head_markup close_text item_markup markups_text named_text text0 text1
  element-rows n t event =
      head_rows 0 (row 2 (n ∷ t ∷ []) 0 0 event) (items_rows is) refl ∙ rw (pending-close 2 is, variant-of n t) (simp append_assoc)

  simple-rows : (n b : Text) (fs : List Facet) (event : ℕ) → rows_text 0 (simple_type_rows event n b fs ++ items_rows is)
      ≡ markups_text (item_markup (Item.simple_type (record { name = n; base = b; facets = fs; event = event }))) ++ behind
  unfolding row is_head between head_markup close_text item_markup simple_type_rows attribute_text text0 text1 bytes
  simple-rows n b fs event =
      let h = row 3 (n ∷ b ∷ []) 0 0 event in
      group-rows facet_row facet_markup facet-no_head facet-text h fs refl
      ∙ two-levels "simpleType" "restriction" (named n) (attr "base" b ∷ []) (map facet_markup fs) (head_markup h) (close_text 3) behind refl refl

  complex-rows : (n : Text) (c : ComplexContent) (event : ℕ) → rows_text 0 (complex_type_rows event n (started c) ++ items_rows is)
      ≡ markups_text (item_markup (Item.complex_type (record { name = n; content = c; event = event }))) ++ behind
  unfolding row is_head between head_markup close_text item_markup content_markup complex_type_rows started complex_text any_text empty_text attribute_text written_attributes text0 text1 bytes
  complex-rows n (ComplexContent.sequence es) event =
      let h = row 12 (n ∷ []) 0 0 event in
      group-rows element_row element_markup element-no_head element-text h es refl
      ∙ two-levels "complexType" "sequence" (named n) [] (map element_markup es) (head_markup h) (close_text 12) behind refl refl
  complex-rows n (ComplexContent.choice vs) event =
      let h = row 13 (n ∷ []) 0 0 event in
      group-rows variant_row variant_markup variant-no_head variant-text h vs refl
      ∙ two-levels "complexType" "choice" (named n) [] (map variant_markup vs) (head_markup h) (close_text 13) behind refl refl
  complex-rows n (ComplexContent.simple_content base xs) event =
      group-rows attribute_row attribute_markup attribute-no_head attribute-text (row 14 (n ∷ base ∷ []) 0 0 event) xs refl
      ∙ extension-level n (attr "base" base ∷ []) (map attribute_markup xs) behind
  complex-rows n (ComplexContent.any none) event = head_rows 0 (row 15 (n ∷ []) 0 0 event) (items_rows is) refl ∙ rw (pending-close 15 is) (any-level n [] behind)
  complex-rows n (ComplexContent.any (some v)) event =
      head_rows 0 (row 15 (n ∷ v ∷ []) 1 0 event) (items_rows is) refl ∙ rw (pending-close 15 is) (any-level n (attr "namespace" v ∷ []) behind)

  item-rows : (i : Item) → rows_text 0 (item_rows i ++ items_rows is) ≡ markups_text (item_markup i) ++ behind
  unfolding item_rows
  item-rows (Item.element e) = element-rows e.name e.type_name e.event
  item-rows (Item.simple_type t) = simple-rows t.name t.base t.facets t.event
  item-rows (Item.complex_type t) = complex-rows t.name t.content t.event

pub rows-text : (is : List Item) → rows_text 0 (items_rows is) ≡ markups_text (items_markup is)
unfolding items_rows items_markup rows_text close_text markups_text
rows-text [] = refl
rows-text (i ∷ is) = item-rows is i ∙ ap (λ (u : Text). markups_text (item_markup i) ++ u) (rows-text is) ∙ sym (markups-append (item_markup i) (items_markup is))

abbrev schema_head : Text
schema_head = bytes "<xs:schema xmlns:xs=\"http://www.w3.org/2001/XMLSchema\""

-- the first tag, whose first attribute is always the same
schema-head : (n : Text) → opens "schema" (attr "xmlns:xs" (bytes "http://www.w3.org/2001/XMLSchema") ∷ attr "targetNamespace" n ∷ [])
    ≡ schema_head ++ (attribute_text "targetNamespace" n ++ bytes ">")
unfolding bytes written_attributes attribute_text attr quote_of contains
schema-head n = refl

pub schema-by-rows : (s : Schema) → schema_by_rows s ≡ schema_text s
unfolding schema_by_rows schema_text schema_markup bytes
schema-by-rows s =
    let t = attribute_text "targetNamespace" s.target_namespace in
    let xs = attr "xmlns:xs" (bytes "http://www.w3.org/2001/XMLSchema") ∷ attr "targetNamespace" s.target_namespace ∷ [] in
    let m = markups_text (items_markup s.items) ++ shuts "schema" in
    ap (λ (u : Text). schema_head ++ (t ++ (bytes ">" ++ (u ++ bytes "</xs:schema>")))) (rows-text s.items)
    ∙ sym (around-opens "schema" xs (items_markup s.items) ∙ ap (λ (u : Text). u ++ m) (schema-head s.target_namespace) ∙ regroup schema_head t (bytes ">") m)
