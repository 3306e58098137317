-- A written item is read as that item, whatever stood before it (step (c) of the round trip): each of its tags is handled, and no state has fewer rows than the one
-- before. The item keeps the number of its first event. Assumes nothing.
--     within        a state in a context, the root seen
--     with_one       a schema with one item more
use Prim.Native.Nat.{ℕ, suc, ◌+◌, ◌≤◌}
use Prim.Native.String.{String}
use native.Mathlib.Omega.{arith}
use mathlib.Core.Path.{◌≡◌, refl, sym, ap, ◌∙◌}
use mathlib.Core.Bool.{Bool, true, false}
use mathlib.Core.List.{List, [], ◌∷◌, ◌++◌, map, append_assoc, append-nil, map-append}
use mathlib.Core.Option.{Option, some, none}
use lib.ListN.{length, length-append}
use Rattle.text.specs.Text.{Text, every, is_text, join}
use Rattle.text.specs.Unfold.{computes as texts}
use Rattle.text.proofs.Laws.Tests.{and-true-left, and-true-right, three}
use Rattle.sheet.specs.Rows.{Row, row, names_of}
use Rattle.xsd_types.specs.Types.{Facet, SequenceElement, ChoiceVariant, Attribute, ComplexContent, Item, Schema}
use Rattle.xsd_types.specs.State.{ComplexContentBuilder, Context, State, facet_ok, sequence_element_ok, choice_variant_ok, attribute_ok, content_ok, started, finish, item_ok}
use Rattle.xsd_types.specs.Rows.{namespace_row, facet_row, element_row, variant_row, attribute_row, simple_type_rows, complex_type_rows, item_rows, items_rows, context_rows, rows_of}
use Rattle.xsd_types.specs.Unnumbered.{unnumbered_item}
use Rattle.xsd_parser.specs.Event.{Attr, Event}
use Rattle.xsd_parser.specs.Tape.{Judged, event}
use Rattle.xsd_parser.specs.Handlers.{ok}
use Rattle.xsd_parser.specs.Step.{handled, tags_after, counted}
use Rattle.xsd_parser.specs.Unfold.{computes as parses}
use Rattle.xsd_written.specs.Markup.{Markup, empties, ends}
use Rattle.xsd_written.specs.Schema.{attr, prefixed, prefixed_tag, around, valued, facet_markup, element_markup, variant_markup}
use Rattle.xsd_written.specs.Schema.{attribute_markup, namespace_of, content_markup, item_markup, items_markup}
use Rattle.xsd_written.specs.Reads.{event_of_markup, events_of, Below, Handled, none_left, one_more}
use Rattle.xsd_written.proofs.Laws.Handled.{below-same, below_then, below_more, below-behind, handled-then}
use Rattle.xsd_written.proofs.Laws.Children.{reader, simple, complex, facet-read, element-read, variant-read, attribute-read}
use Rattle.xsd_types.proofs.Laws.Counted.{items_rows-append}

-- ---- events of markup

pub events-append : (ms ns : List Markup) → events_of (ms ++ ns) ≡ events_of ms ++ events_of ns
unfolding events_of
events-append [] ns = refl
events-append (m ∷ ms) ns = ap (λ (js : List Judged). event (event_of_markup m) ∷ js) (events-append ms ns)

pub around-handled : (word : String) (xs : List Attr) (ms : List Markup) {s s₁ s₂ s₃ : State} → Handled s (event (Event.start (prefixed_tag word xs)) ∷ []) s₁ → Handled s₁ (events_of ms) s₂
    → Handled s₂ (event Event.close ∷ []) s₃ → Handled s (events_of (around word xs ms)) s₃
unfolding around events_of
around-handled word xs ms a b c = rw (events-append ms (ends (prefixed word) ∷ [])) (handled-then a (handled-then b c))

-- ---- fewer rows

pub below-cons : (n m : Row) {a b : List Row} → length (join n.texts) ≤ length (join m.texts) → Below a b → Below (n ∷ a) (m ∷ b)
unfolding names_of
below-cons n m {a} {b} h p =
    record { rows = omega (arith, p.rows); names = omega (arith, p.names, length-append (join n.texts) (names_of a), length-append (join m.texts) (names_of b)) }

-- ---- states

abbrev pub with_one : Schema → Item → Schema
with_one z i = record { target_namespace = z.target_namespace; items = z.items ++ i ∷ [] }

module _ (by_standard : Bool) where
  abbrev pub within : Schema → Context → ℕ → ℕ → State
  within z c open_tags events = record { reader = reader z c; events = events; open_tags = open_tags; by_standard = by_standard }

  -- in another context; with the item that the context holds
  pub context-below : (z : Schema) (c d : Context) (o e p f : ℕ) → Below (context_rows c) (context_rows d) → Below (rows_of (within z c o e)) (rows_of (within z d p f))
  unfolding rows_of
  context-below z c d o e p f h = below-behind (namespace_row z.target_namespace ∷ items_rows z.items) h

  item-below : (z : Schema) (c : Context) (i : Item) (o e p f : ℕ) → Below (context_rows c) (item_rows i) → Below (rows_of (within z c o e)) (rows_of (within (with_one z i) (Context.in_schema 0) p f))
  unfolding rows_of context_rows items_rows namespace_row row
  item-below z c i o e p f h =
      let r : items_rows (z.items ++ i ∷ []) ++ [] ≡ items_rows z.items ++ item_rows i = append-nil (items_rows (z.items ++ i ∷ [])) ∙ items_rows-append z.items (i ∷ [])
      ∙ ap (λ (rs : List Row). items_rows z.items ++ rs) (append-nil (item_rows i)) in
      below-cons (namespace_row z.target_namespace) (namespace_row z.target_namespace) (omega arith) (rw r (below-behind (items_rows z.items) h))

  pub one-handled : (z y : Schema) (c d : Context) (v : Event) (o p e : ℕ) → tags_after v o ≡ ok p → handled by_standard e v (reader z c) ≡ ok (reader y d)
      → Below (rows_of (within z c o e)) (rows_of (within y d p (suc e))) → Handled (within z c o e) (event v ∷ []) (within y d p (suc e))
  unfolding counted
  one-handled z y c d v o p e t h b = one_more {open_tags = p} {r = reader y d} t h b none_left

  -- ---- children, one behind the other

  module _ {A : Type 0} (ok₁ : A → Bool) (f : A → Row) (g : A → Markup) (z : Schema) (context : List A → Context) (open_tags : ℕ)
      (empty : (x : A) → tags_after (event_of_markup (g x)) open_tags ≡ ok open_tags)
      (reads : (k : ℕ) (xs : List A) (x : A) → ok₁ x ≡ true → handled by_standard k (event_of_markup (g x)) (reader z (context xs)) ≡ ok (reader z (context (xs ++ x ∷ []))))
      (rows : (xs : List A) (x : A) → context_rows (context (xs ++ x ∷ [])) ≡ context_rows (context xs) ++ f x ∷ []) where
    children-handled : (xs ys : List A) (e : ℕ) → every ok₁ ys ≡ true → Handled (within z (context xs) open_tags e) (events_of (map g ys)) (within z (context (xs ++ ys)) open_tags (e + length ys))
    unfolding every events_of
    children-handled xs [] e h =
        let n : e + 0 ≡ e = omega arith in
        rw (append-nil xs, n) none_left
    children-handled xs (y ∷ ys) e h =
        let n : e + suc (length ys) ≡ suc e + length ys = omega arith in
        let b = below_then (below_more (context_rows (context xs)) (f y ∷ [])) (below-same (sym (rows xs y))) in
        let k = one-handled z z (context xs) (context (xs ++ y ∷ [])) (event_of_markup (g y)) open_tags open_tags e (empty y) (reads e xs y (and-true-left (ok₁ y) (every ok₁ ys) h))
        (context-below z (context xs) (context (xs ++ y ∷ [])) open_tags e open_tags (suc e) b) in
        rw (n, ← append_assoc xs (y ∷ []) ys) (handled-then k (children-handled (xs ++ y ∷ []) ys (suc e) (and-true-right (ok₁ y) (every ok₁ ys) h)))

-- ---- rows of a type with one child more

rows_more : {A : Type 0} (f : A → Row) (head : Row) (xs : List A) (x : A) → head ∷ map f (xs ++ x ∷ []) ≡ (head ∷ map f xs) ++ f x ∷ []
rows_more f head xs x = ap (λ (rs : List Row). head ∷ rs) (map-append f xs (x ∷ []))

facet-empty : (f : Facet) (o : ℕ) → tags_after (event_of_markup (facet_markup f)) o ≡ ok o
unfolding tags_after facet_markup valued
facet-empty (Facet.enumeration v) o = refl
facet-empty (Facet.pattern v) o = refl
facet-empty (Facet.min_length n) o = refl
facet-empty (Facet.max_length n) o = refl
facet-empty (Facet.min_inclusive v) o = refl
facet-empty (Facet.max_inclusive v) o = refl
facet-empty (Facet.total_digits n) o = refl
facet-empty (Facet.fraction_digits n) o = refl

base-longer : (n b : Text) → length (join (n ∷ [] ∷ [])) ≤ length (join (n ∷ b ∷ []))
unfolding join
base-longer n b = omega (arith, length-append n [], length-append n (b ++ []))

-- no content yet is written as any content
finish-below : (n : Text) (k : ℕ) (c : ComplexContentBuilder) → Below (complex_type_rows k n c) (complex_type_rows k n (started (finish c)))
unfolding complex_type_rows started finish row
finish-below n k ComplexContentBuilder.empty = below-cons (row 16 (n ∷ []) 0 0 k) (row 15 (n ∷ []) 0 0 k) (omega arith) (below-same refl)
finish-below n k (ComplexContentBuilder.sequence es) = below-same refl
finish-below n k (ComplexContentBuilder.choice vs) = below-same refl
finish-below n k (ComplexContentBuilder.simple_content base xs flag) = below-same refl
finish-below n k (ComplexContentBuilder.any none) = below-same refl
finish-below n k (ComplexContentBuilder.any (some v)) = below-same refl

module _ (y : Bool) (z : Schema) (n : Text) (e : ℕ) where
  abbrev top : State
  top = within y z (Context.in_schema 0) 1 e

  abbrev behind_item : Item → ℕ → State
  behind_item i k = within y (with_one z i) (Context.in_schema 0) 1 k

  simple-handled : (b : Text) (fs : List Facet) → every facet_ok fs ≡ true
      → Handled top (events_of (around "simpleType" (attr "name" n ∷ []) (around "restriction" (attr "base" b ∷ []) (map facet_markup fs))))
      (behind_item (Item.simple_type (record { name = n; base = b; facets = fs; event = e })) (suc (suc (suc (suc e) + length fs))))
  unfolding texts parses attr prefixed_tag prefixed context_rows simple_type_rows item_rows row
  simple-handled b fs h =
      let c : List Facet → Context = λ gs. simple n b 1 e gs in
      around-handled "simpleType" (attr "name" n ∷ []) (around "restriction" (attr "base" b ∷ []) (map facet_markup fs))
      (one-handled y z z (Context.in_schema 0) (simple n [] 0 e []) _ 1 2 e refl refl (context-below y z (Context.in_schema 0) (simple n [] 0 e []) 1 e 2 (suc e) (below_more [] _)))
      (around-handled "restriction" (attr "base" b ∷ []) (map facet_markup fs)
      (one-handled y z z (simple n [] 0 e []) (c []) _ 2 3 (suc e) refl refl
      (context-below y z (simple n [] 0 e []) (c []) 2 (suc e) 3 (suc (suc e)) (below-cons (row 3 (n ∷ [] ∷ []) 0 0 e) (row 3 (n ∷ b ∷ []) 0 0 e) (base-longer n b) (below-same refl))))
      (children-handled y facet_ok facet_row facet_markup z c 3 (λ f. facet-empty f 3) (λ k gs f. facet-read y k z n 1 e b gs f) (rows_more facet_row (row 3 (n ∷ b ∷ []) 0 0 e)) [] fs
      (suc (suc e)) h)
      (one-handled y z z (c fs) (simple n b 0 e fs) Event.close 3 2 _ refl refl (context-below y z (c fs) (simple n b 0 e fs) 3 _ 2 _ (below-same refl))))
      (one-handled y z (with_one z (Item.simple_type (record { name = n; base = b; facets = fs; event = e }))) (simple n b 0 e fs) (Context.in_schema 0) Event.close 2 1 _ refl refl
      (item-below y z (simple n b 0 e fs) _ 2 _ 1 _ (below-same refl)))

  -- a complex type around what its content is read as
  abbrev inside : ℕ → ComplexContentBuilder → Context
  inside depth c = complex n depth e c

  abbrev opened : State
  opened = within y z (inside 0 ComplexContentBuilder.empty) 2 (suc e)

  complex-handled : (ms : List Markup) (c : ComplexContentBuilder) (k : ℕ) → Handled opened (events_of ms) (within y z (inside 0 c) 2 k)
      → Handled top (events_of (around "complexType" (attr "name" n ∷ []) ms)) (behind_item (Item.complex_type (record { name = n; content = finish c; event = e })) (suc k))
  unfolding texts parses attr prefixed_tag prefixed context_rows item_rows
  complex-handled ms c k h =
      around-handled "complexType" (attr "name" n ∷ []) ms
      (one-handled y z z (Context.in_schema 0) (inside 0 ComplexContentBuilder.empty) _ 1 2 e refl refl
      (context-below y z (Context.in_schema 0) (inside 0 ComplexContentBuilder.empty) 1 e 2 (suc e) (below_more [] _)))
      h
      (one-handled y z (with_one z (Item.complex_type (record { name = n; content = finish c; event = e }))) (inside 0 c) (Context.in_schema 0) Event.close 2 1 k refl refl
      (item-below y z (inside 0 c) (Item.complex_type (record { name = n; content = finish c; event = e })) 2 k 1 (suc k) (finish-below n e c)))

  -- a tag at nesting 1, which starts the content; a close, which changes no row
  content-starts : (c : ComplexContentBuilder) (v : Event) → tags_after v 2 ≡ ok 3 → handled y (suc e) v (reader z (inside 0 ComplexContentBuilder.empty)) ≡ ok (reader z (inside 1 c))
      → Below (complex_type_rows e n ComplexContentBuilder.empty) (complex_type_rows e n c) → Handled opened (event v ∷ []) (within y z (inside 1 c) 3 (suc (suc e)))
  unfolding context_rows
  content-starts c v t h b =
      one-handled y z z (inside 0 ComplexContentBuilder.empty) (inside 1 c) v 2 3 (suc e) t h (context-below y z (inside 0 ComplexContentBuilder.empty) (inside 1 c) 2 (suc e) 3 (suc (suc e)) b)

  content-closes : (depth : ℕ) (c : ComplexContentBuilder) (k : ℕ)
      → Handled (within y z (inside (suc depth) c) (suc (suc (suc depth))) k) (event Event.close ∷ []) (within y z (inside depth c) (suc (suc depth)) (suc k))
  unfolding parses context_rows
  content-closes depth c k =
      one-handled y z z (inside (suc depth) c) (inside depth c) Event.close (suc (suc (suc depth))) (suc (suc depth)) k refl refl
      (context-below y z (inside (suc depth) c) (inside depth c) _ k _ (suc k) (below-same refl))

  same_head : (tag : ℕ) → Below (complex_type_rows e n ComplexContentBuilder.empty) (row tag (n ∷ []) 0 0 e ∷ [])
  unfolding complex_type_rows row
  same_head tag = below-cons (row 16 (n ∷ []) 0 0 e) (row tag (n ∷ []) 0 0 e) (omega arith) (below-same refl)

  sequence-handled : (es : List SequenceElement) → every sequence_element_ok es ≡ true
      → Handled opened (events_of (around "sequence" [] (map element_markup es))) (within y z (inside 0 (ComplexContentBuilder.sequence es)) 2 (suc (suc (suc e) + length es)))
  unfolding texts parses prefixed_tag prefixed context_rows complex_type_rows element_markup
  sequence-handled es h =
      around-handled "sequence" [] (map element_markup es) (content-starts (ComplexContentBuilder.sequence []) _ refl refl (same_head 12))
      (children-handled y sequence_element_ok element_row element_markup z (λ xs. inside 1 (ComplexContentBuilder.sequence xs)) 3 (λ x. refl) (λ k xs x. element-read y k z n 1 e xs x)
      (rows_more element_row (row 12 (n ∷ []) 0 0 e)) [] es (suc (suc e)) h)
      (content-closes 0 (ComplexContentBuilder.sequence es) (suc (suc e) + length es))

  choice-handled : (vs : List ChoiceVariant) → every choice_variant_ok vs ≡ true
      → Handled opened (events_of (around "choice" [] (map variant_markup vs))) (within y z (inside 0 (ComplexContentBuilder.choice vs)) 2 (suc (suc (suc e) + length vs)))
  unfolding texts parses prefixed_tag prefixed context_rows complex_type_rows variant_markup
  choice-handled vs h =
      around-handled "choice" [] (map variant_markup vs) (content-starts (ComplexContentBuilder.choice []) _ refl refl (same_head 13))
      (children-handled y choice_variant_ok variant_row variant_markup z (λ xs. inside 1 (ComplexContentBuilder.choice xs)) 3 (λ x. refl) (λ k xs x _. variant-read y k z n 1 e xs x)
      (rows_more variant_row (row 13 (n ∷ []) 0 0 e)) [] vs (suc (suc e)) h)
      (content-closes 0 (ComplexContentBuilder.choice vs) (suc (suc e) + length vs))

  extension-handled : (base : Text) (xs : List Attribute) → every attribute_ok xs ≡ true
      → Handled opened (events_of (around "simpleContent" [] (around "extension" (attr "base" base ∷ []) (map attribute_markup xs))))
      (within y z (inside 0 (ComplexContentBuilder.simple_content base xs true)) 2 (suc (suc (suc (suc (suc e)) + length xs))))
  unfolding texts parses attr prefixed_tag prefixed context_rows complex_type_rows attribute_markup row
  extension-handled base xs h =
      let c : List Attribute → Context = λ ys. inside 2 (ComplexContentBuilder.simple_content base ys true) in
      let empty = ComplexContentBuilder.simple_content [] [] false in
      around-handled "simpleContent" [] (around "extension" (attr "base" base ∷ []) (map attribute_markup xs))
      (content-starts empty _ refl refl (below-cons (row 16 (n ∷ []) 0 0 e) (row 14 (n ∷ [] ∷ []) 0 0 e) (omega arith) (below-same refl)))
      (around-handled "extension" (attr "base" base ∷ []) (map attribute_markup xs)
      (one-handled y z z (inside 1 empty) (c []) _ 3 4 (suc (suc e)) refl refl
      (context-below y z (inside 1 empty) (c []) 3 _ 4 _ (below-cons (row 14 (n ∷ [] ∷ []) 0 0 e) (row 14 (n ∷ base ∷ []) 0 0 e) (base-longer n base) (below-same refl))))
      (children-handled y attribute_ok attribute_row attribute_markup z c 4 (λ x. refl) (λ k ys x _. attribute-read y k z n 2 e base ys x)
      (rows_more attribute_row (row 14 (n ∷ base ∷ []) 0 0 e)) [] xs (suc (suc (suc e))) h)
      (content-closes 1 (ComplexContentBuilder.simple_content base xs true) (suc (suc (suc e)) + length xs)))
      (content-closes 0 (ComplexContentBuilder.simple_content base xs true) (suc (suc (suc (suc e)) + length xs)))

  any_below : (v : Option Text) → Below (row 12 (n ∷ []) 0 0 e ∷ []) (complex_type_rows e n (ComplexContentBuilder.any v))
  unfolding complex_type_rows row join
  any_below none = below-cons (row 12 (n ∷ []) 0 0 e) (row 15 (n ∷ []) 0 0 e) (omega arith) (below-same refl)
  any_below (some v) = below-cons (row 12 (n ∷ []) 0 0 e) (row 15 (n ∷ v ∷ []) 1 0 e) (omega (arith, length-append n [], length-append n (v ++ []))) (below-same refl)

  any-read : (k : ℕ) (v : Option Text) → handled y k (Event.empty (prefixed_tag "any" (namespace_of v))) (reader z (inside 1 (ComplexContentBuilder.sequence [])))
      ≡ ok (reader z (inside 1 (ComplexContentBuilder.any v)))
  unfolding texts parses attr prefixed_tag prefixed
  any-read k none = refl
  any-read k (some v) = refl

  any-handled : (v : Option Text)
      → Handled opened (events_of (around "sequence" [] (empties (prefixed_tag "any" (namespace_of v)) ∷ []))) (within y z (inside 0 (ComplexContentBuilder.any v)) 2 (suc (suc (suc (suc e)))))
  unfolding texts parses prefixed_tag prefixed context_rows complex_type_rows events_of
  any-handled v =
      let s = inside 1 (ComplexContentBuilder.sequence []) in
      let a = inside 1 (ComplexContentBuilder.any v) in
      around-handled "sequence" [] (empties (prefixed_tag "any" (namespace_of v)) ∷ []) (content-starts (ComplexContentBuilder.sequence []) _ refl refl (same_head 12))
      (one-handled y z z s a _ 3 3 (suc (suc e)) refl (any-read (suc (suc e)) v) (context-below y z s a 3 _ 3 _ (any_below v)))
      (content-closes 0 (ComplexContentBuilder.any v) (suc (suc (suc e))))

  content-handled : (c : ComplexContent) → content_ok (started c) ≡ true
      → (k : ℕ) × Handled top (events_of (around "complexType" (attr "name" n ∷ []) (content_markup c))) (behind_item (Item.complex_type (record { name = n; content = c; event = e })) k)
  unfolding content_ok started content_markup finish
  content-handled (ComplexContent.sequence es) h = (_, complex-handled (around "sequence" [] (map element_markup es)) (ComplexContentBuilder.sequence es) _ (sequence-handled es h))
  content-handled (ComplexContent.choice vs) h = (_, complex-handled (around "choice" [] (map variant_markup vs)) (ComplexContentBuilder.choice vs) _ (choice-handled vs h))
  content-handled (ComplexContent.simple_content base xs) h = (
    _,
    complex-handled (around "simpleContent" [] (around "extension" (attr "base" base ∷ []) (map attribute_markup xs))) (ComplexContentBuilder.simple_content base xs true) _
        (extension-handled base xs (and-true-right (is_text base) (every attribute_ok xs) h)),
  )
  content-handled (ComplexContent.any v) h = (_, complex-handled (around "sequence" [] (empties (prefixed_tag "any" (namespace_of v)) ∷ [])) (ComplexContentBuilder.any v) _ (any-handled v))

  element-handled : (t : Text) → Handled top (event (Event.empty (prefixed_tag "element" (attr "name" n ∷ attr "type" t ∷ []))) ∷ [])
      (behind_item (Item.element (record { name = n; type_name = t; event = e })) (suc e))
  unfolding texts parses attr prefixed_tag prefixed context_rows
  element-handled t =
      let i = Item.element (record { name = n; type_name = t; event = e }) in
      one-handled y z (with_one z i) (Context.in_schema 0) (Context.in_schema 0) _ 1 1 e refl refl (item-below y z (Context.in_schema 0) i 1 e 1 (suc e) (below_more [] (item_rows i)))

-- ---- items

-- an item that carries the number of its first event
abbrev pub numbered_item : ℕ → Item → Item
numbered_item e (Item.element x) = Item.element (record { name = x.name; type_name = x.type_name; event = e })
numbered_item e (Item.simple_type t) = Item.simple_type (record { name = t.name; base = t.base; facets = t.facets; event = e })
numbered_item e (Item.complex_type t) = Item.complex_type (record { name = t.name; content = t.content; event = e })

number-aside : (e : ℕ) (i : Item) → unnumbered_item (numbered_item e i) ≡ unnumbered_item i
unfolding unnumbered_item
number-aside e (Item.element x) = refl
number-aside e (Item.simple_type t) = refl
number-aside e (Item.complex_type t) = refl

module _ (y : Bool) where
  item-handled : (i : Item) (z : Schema) (e : ℕ) → item_ok i ≡ true
      → (k : ℕ) × Handled (within y z (Context.in_schema 0) 1 e) (events_of (item_markup i)) (within y (with_one z (numbered_item e i)) (Context.in_schema 0) 1 k)
  unfolding item_markup item_ok events_of
  item-handled (Item.element x) z e h = (suc e, element-handled y z x.name e x.type_name)
  item-handled (Item.simple_type t) z e h =
      let (a, b, c) = three (is_text t.name) (is_text t.base) (every facet_ok t.facets) h in
      (_, simple-handled y z t.name e t.base t.facets c)
  item-handled (Item.complex_type t) z e h = content-handled y z t.name e t.content (and-true-right (is_text t.name) (content_ok (started t.content)) h)

  abbrev pub with_items : Schema → List Item → Schema
  with_items z is = record { target_namespace = z.target_namespace; items = z.items ++ is }

  -- items read behind others, event numbers aside
  pub record ItemsRead (z : Schema) (e : ℕ) (is : List Item) : Type 0 where
    pub read : List Item
    pub last : ℕ
    pub events : Handled (within y z (Context.in_schema 0) 1 e) (events_of (items_markup is)) (within y (with_items z read) (Context.in_schema 0) 1 last)
    pub aside : map unnumbered_item read ≡ map unnumbered_item is

  pub items-handled : (is : List Item) (z : Schema) (e : ℕ) → every item_ok is ≡ true → ItemsRead z e is
  unfolding every items_markup events_of
  items-handled [] z e h = record { read = []; last = e; events = rw (append-nil z.items) none_left; aside = refl }
  items-handled (i ∷ is) z e h =
      let (k, a) = item-handled i z e (and-true-left (item_ok i) (every item_ok is) h) in
      let r = items-handled is (with_one z (numbered_item e i)) k (and-true-right (item_ok i) (every item_ok is) h) in
      record {
        read = numbered_item e i ∷ r.read;
        last = r.last;
        events = rw (events-append (item_markup i) (items_markup is), ← append_assoc z.items (numbered_item e i ∷ []) r.read) (handled-then a r.events);
        aside = rw (number-aside e i, r.aside);
      }
