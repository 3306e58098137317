-- The event numbers of a state and c of its rows: a head has that of its item or of the open type, every other row has 0. Assumes nothing.
use mathlib.Core.Path.{◌≡◌, refl, ap}
use mathlib.Core.Bool.{Bool, true, ◌&&◌, and_assoc, and-true as and-nothing}
use mathlib.Core.List.{List, [], ◌∷◌, ◌++◌, map, append_assoc}
use mathlib.Core.Option.{some, none}
use Prim.Native.Nat.{ℕ}
use lib.ListN.{length}
use Prim.Native.Nat.{◌+◌}
use Rattle.text.specs.Text.{Text, every, join}
use Rattle.std.proofs.lemmas.Bool.{and_parts}
use Rattle.text.proofs.Laws.Tests.{and-true}
use Rattle.text.proofs.Laws.Every.{every_append, every_map, every-weaken}
use Rattle.sheet.specs.Rows.{Ten, Row, row, pack_row, pack, unpack_row}
use Rattle.xsd_types.specs.Types.{Facet, MaxOccurs, SequenceElement, Item}
use Rattle.xsd_types.specs.State.{ComplexContentBuilder, Context, started, Reader, event_number_ok, item_passes, open_passes, heads_pass}
use Rattle.xsd_types.specs.Rows.{facet_row, occurs_row, element_row, variant_row, attribute_row, simple_type_rows, complex_type_rows, item_rows, items_rows, context_rows}
use Rattle.xsd_types.specs.Good.{used_pairs, events_test}

unfoldable pub event_row : ℕ → Row → Bool
event_row events r = event_number_ok events r.c

-- the test of a head's number alone
abbrev pub numbered : ℕ → Text → ℕ → Bool
numbered events name n = event_number_ok events n

module _ (events : ℕ) where
  pub facet-event : (f : Facet) → event_row events (facet_row f) ≡ true
  unfolding event_row event_number_ok facet_row row
  facet-event (Facet.enumeration v) = refl
  facet-event (Facet.pattern v) = refl
  facet-event (Facet.min_length n) = refl
  facet-event (Facet.max_length n) = refl
  facet-event (Facet.min_inclusive v) = refl
  facet-event (Facet.max_inclusive v) = refl
  facet-event (Facet.total_digits n) = refl
  facet-event (Facet.fraction_digits n) = refl

  pub occurs-event : (name type_name : Text) (min : ℕ) (max : MaxOccurs) → event_row events (occurs_row name type_name min max) ≡ true
  unfolding event_row event_number_ok occurs_row row
  occurs-event name type_name min (MaxOccurs.bounded n) = refl
  occurs-event name type_name min MaxOccurs.unbounded = refl

  pub element-event : (e : SequenceElement) → event_row events (element_row e) ≡ true
  unfolding element_row
  element-event e = occurs-event e.name e.type_name e.min_occurs e.max_occurs

  pub kids-events : {A : Type 0} (f : A → Row) → ((x : A) → event_row events (f x) ≡ true) → (xs : List A) → every (event_row events) (map f xs) ≡ true
  unfolding every
  kids-events f step [] = refl
  kids-events f step (x ∷ xs) = and-true (step x) (kids-events f step xs)

  -- a head with its children
  pub group-events : {A : Type 0} (r : Row) (f : A → Row) → ((x : A) → event_row events (f x) ≡ true) → (xs : List A) → every (event_row events) (r ∷ map f xs) ≡ event_number_ok events r.c
  unfolding every event_row
  group-events r f step xs = rw (kids-events f step xs) (and-nothing (event_number_ok events r.c))

  pub simple-events : (event : ℕ) (name base : Text) (fs : List Facet) → every (event_row events) (simple_type_rows event name base fs) ≡ event_number_ok events event
  unfolding simple_type_rows row
  simple-events event name base fs = group-events (row 3 (name ∷ base ∷ []) 0 0 event) facet_row facet-event fs

  pub complex-events : (event : ℕ) (name : Text) (c : ComplexContentBuilder) → every (event_row events) (complex_type_rows event name c) ≡ event_number_ok events event
  unfolding complex_type_rows row every event_row event_number_ok variant_row attribute_row
  complex-events event name ComplexContentBuilder.empty = and-nothing (event_number_ok events event)
  complex-events event name (ComplexContentBuilder.sequence es) = group-events (row 12 (name ∷ []) 0 0 event) element_row element-event es
  complex-events event name (ComplexContentBuilder.choice vs) = group-events (row 13 (name ∷ []) 0 0 event) variant_row (λ v. refl) vs
  complex-events event name (ComplexContentBuilder.simple_content base xs flag) = group-events (row 14 (name ∷ base ∷ []) 0 0 event) attribute_row (λ x. refl) xs
  complex-events event name (ComplexContentBuilder.any none) = and-nothing (event_number_ok events event)
  complex-events event name (ComplexContentBuilder.any (some n)) = and-nothing (event_number_ok events event)

  pub item-events : (i : Item) → every (event_row events) (item_rows i) ≡ item_passes (numbered events) i
  unfolding item_rows row every event_row item_passes
  item-events (Item.element e) = and-nothing (event_number_ok events e.event)
  item-events (Item.simple_type t) = simple-events t.event t.name t.base t.facets
  item-events (Item.complex_type t) = complex-events t.event t.name (started t.content)

  pub context-events : (c : Context) → every (event_row events) (context_rows c) ≡ open_passes (numbered events) c
  unfolding context_rows every open_passes
  context-events Context.no_context = refl
  context-events (Context.in_schema n) = refl
  context-events (Context.in_simple_type t) = simple-events t.head.event t.head.name t.base t.facets
  context-events (Context.in_complex_type t) = complex-events t.head.event t.head.name t.content

  pub body-events : (is : List Item) (c : Context) → every (event_row events) (items_rows is ++ context_rows c) ≡ every (item_passes (numbered events)) is && open_passes (numbered events) c
  unfolding items_rows every
  body-events [] c = context-events c
  body-events (i ∷ is) c =
      rw (
        append_assoc (item_rows i) (items_rows is) (context_rows c),
        every_append (event_row events) (item_rows i) (items_rows is ++ context_rows c),
        item-events i,
        body-events is c,
        and_assoc (item_passes (numbered events) i) (every (item_passes (numbered events)) is) (open_passes (numbered events) c),
      )

  -- packing and reading keep c
  pub events-pack : (k : ℕ) (rs : List Row) → events_test events (pack k rs) ≡ every (event_row events) rs
  unfolding events_test pack pack_row every event_row
  events-pack k [] = refl
  events-pack k (r ∷ rs) = ap (λ (b : Bool). event_number_ok events r.c && b) (events-pack (k + length (join r.texts)) rs)

  pub events-unpack : (names : List ℕ) (ts : List Ten) → events_test events ts ≡ true → every (event_row events) (map (unpack_row used_pairs names) ts) ≡ true
  unfolding events_test event_row unpack_row
  events-unpack names ts e = every_map (λ (t : Ten). event_number_ok events t.c) (event_row events) (unpack_row used_pairs names) (λ t o. o) ts e

-- the two parts of what is asked of every head
pub passing-parts : (p : Text → ℕ → Bool) (r : Reader) → heads_pass p r ≡ true → (every (item_passes p) r.schema.items ≡ true) × (open_passes p r.context ≡ true)
unfolding heads_pass
passing-parts p r h = and_parts (every (item_passes p) r.schema.items) (open_passes p r.context) h

-- a test that is weaker passes too
module _ (p q : Text → ℕ → Bool) (w : (v : Text) (n : ℕ) → p v n ≡ true → q v n ≡ true) where
  pub item-weaken : (i : Item) → item_passes p i ≡ true → item_passes q i ≡ true
  unfolding item_passes
  item-weaken (Item.element e) h = w e.name e.event h
  item-weaken (Item.simple_type t) h = w t.name t.event h
  item-weaken (Item.complex_type t) h = w t.name t.event h

  pub open-weaken : (x : Context) → open_passes p x ≡ true → open_passes q x ≡ true
  unfolding open_passes
  open-weaken Context.no_context h = refl
  open-weaken (Context.in_schema n) h = refl
  open-weaken (Context.in_simple_type t) h = w t.head.name t.head.event h
  open-weaken (Context.in_complex_type t) h = w t.head.name t.head.event h

  pub heads-weaken : (r : Reader) → heads_pass p r ≡ true → heads_pass q r ≡ true
  unfolding heads_pass
  heads-weaken r h =
      let u = passing-parts p r h in
      and-true (every-weaken (item_passes p) (item_passes q) item-weaken r.schema.items u.0) (open-weaken r.context u.1)
