-- What an event does to the heads: it keeps each with its name and its number, or makes one behind them, of its own name and number. So heads that pass a test
-- of name and number still do after an event, where the name of the event, if a head is made of it, passes with its number. Assumes nothing.
use mathlib.Core.Path.{◌≡◌, refl, sym, ap, ◌∙◌}
use mathlib.Core.Bool.{Bool, true, false, ◌&&◌, ◌||◌, true≢false, and-true as and-nothing}
use mathlib.Core.List.{List, [], ◌∷◌, ◌++◌, map, append-nil, map-append}
use mathlib.Core.Option.{Option, some, none}
use Prim.Native.Nat.{ℕ, zero, suc}
use native.Mathlib.Omega.{arith}
use lib.Dec.{eqb, ltb}
use lib.ListN.{length, length-append}
use borrow.Author.Tests.{ltb-true, lt-ltb, le-ltb}
use mathlib.Core.Logic.{⊎_elim}
use Rattle.text.specs.Text.{Text, every}
use Rattle.std.proofs.lemmas.Bool.{or_left, or_right, or_cases}
use Rattle.text.proofs.Laws.Tests.{and-true-right, if-either, if-cases}
use Rattle.text.proofs.Laws.Every.{every_append, every-one-more}
use Rattle.xsd_types.specs.Types.{Item}
use Rattle.xsd_types.specs.State.{HeadNumber, SimpleTypeBuilder, ComplexTypeBuilder, Context, Reader, event_number_ok, item_passes, open_passes, heads_pass, events_ok}
use Rattle.xsd_types.proofs.Laws.Events.{heads-weaken}
use Rattle.xsd_parser.specs.declared.words.Word.{Word}
use Rattle.xsd_parser.specs.Words.{facet_word}
use Rattle.xsd_parser.specs.Event.{Event, event_name}
use Rattle.xsd_parser.specs.Seen.{Seen, seen, tag_is}
use Rattle.xsd_parser.specs.Handlers.{ok, in_context, with_item, found_root, kept_element, on_top_level_element, with_base, with_facet, with_content, open_simple_type}
use Rattle.xsd_parser.specs.Handlers.{open_complex_type, below_schema, on_direct_child, on_start_in_schema, raised_simple, on_start_in_simple_type, raised_complex}
use Rattle.xsd_parser.specs.Handlers.{on_start_in_complex_type, on_start, facet_value, facet_by_word, on_empty_in_simple_type, on_empty_in_complex_type, on_empty, close_simple_type}
use Rattle.xsd_parser.specs.Handlers.{close_complex_type, close_in_schema, on_end}
use Rattle.xsd_parser.specs.Step.{handled}
use Rattle.xsd_parser.specs.Numbered.{makes_head, item_number, open_number, numbered_heads, more_heads, named_by, given_by}
use Rattle.xsd_parser.proofs.Laws.Outcomes.{Gives, value, Any, gives-if, gives-and_then, gives-name, gives-facet, gives-value, gives-any}
use Rattle.xsd_parser.proofs.Laws.Children.{kept-context}

-- the heads of a reader after an event of the number n, beside those before it
pub data Makes (n : ℕ) (made : Bool) (name : Option Text) (before : List HeadNumber) (r : Reader) : Type 0 where
  keeps : numbered_heads r ≡ before → Makes n made name before r
  makes : {v : Text} → made ≡ true → name ≡ some v → numbered_heads r ≡ before ++ record { name = v; event = n } ∷ [] → Makes n made name before r

-- the reader's changes: a context without an open type, another with the same one, an item behind the others, an open type finished
context-keeps : (r : Reader) (x : Context) → open_number x ≡ open_number r.context → numbered_heads (in_context x r) ≡ numbered_heads r
unfolding numbered_heads in_context
context-keeps r x o = ap (λ (hs : List HeadNumber). map item_number r.schema.items ++ hs) o

item-behind : (r : Reader) (i : Item) → open_number r.context ≡ [] → numbered_heads (with_item i r) ≡ numbered_heads r ++ item_number i ∷ []
unfolding numbered_heads with_item
item-behind r i o = rw (o, append-nil (map item_number r.schema.items), append-nil (map item_number (r.schema.items ++ i ∷ []))) (map-append item_number r.schema.items (i ∷ []))

item-finished : (r : Reader) (i : Item) (x : Context) → open_number x ≡ [] → open_number r.context ≡ item_number i ∷ [] → numbered_heads (in_context x (with_item i r)) ≡ numbered_heads r
unfolding numbered_heads in_context with_item
item-finished r i x o q = rw (o, q, append-nil (map item_number (r.schema.items ++ i ∷ []))) (map-append item_number r.schema.items (i ∷ []))

type-opened : (r : Reader) (x : Context) (h : HeadNumber) → open_number r.context ≡ [] → open_number x ≡ h ∷ [] → numbered_heads (in_context x r) ≡ numbered_heads r ++ h ∷ []
unfolding numbered_heads in_context
type-opened r x h o q = rw (o, q, append-nil (map item_number r.schema.items)) refl

below-keeps : (by_standard : Bool) (depth : ℕ) (r : Reader) → open_number r.context ≡ [] → numbered_heads (below_schema by_standard depth r) ≡ numbered_heads r
unfolding below_schema open_number
below-keeps false depth r o = refl
below-keeps true depth r o = context-keeps r (Context.in_schema (suc depth)) (sym o)

root-keeps : (t : Seen) (r : Reader) → numbered_heads (found_root t r) ≡ numbered_heads r
unfolding numbered_heads found_root
root-keeps t r = refl

module _ (n : ℕ) where
  -- more, by what keeps the heads
  after-keeps : {made : Bool} {name : Option Text} {before : List HeadNumber} {r r' : Reader} → numbered_heads r' ≡ numbered_heads r → Makes n made name before r → Makes n made name before r'
  after-keeps k (keeps h) = keeps (k ∙ h)
  after-keeps k (makes m q h) = makes m q (k ∙ h)

  kept-makes : (made : Bool) (name type_name : Option Text) (r : Reader) → made ≡ true → open_number r.context ≡ [] → Makes n made name (numbered_heads r) (kept_element n name type_name r)
  unfolding kept_element item_number
  kept-makes made none type_name r m o = keeps refl
  kept-makes made (some name) none r m o = keeps refl
  kept-makes made (some name) (some type_name) r m o = makes m refl (item-behind r (Item.element (record { name = name; type_name = type_name; event = n })) o)

  -- a tag that a head is made of
  abbrev starts : Seen → Bool
  starts t = tag_is t Word.SimpleType || tag_is t Word.ComplexType || tag_is t Word.Element

  child-makes : (b : Bool) (t : Seen) (r : Reader) → open_number r.context ≡ [] → Gives (Makes n (starts t) t.name (numbered_heads r)) Any (on_direct_child b n t r)
  unfolding on_direct_child on_top_level_element open_number open_simple_type open_complex_type
  child-makes b t r o =
      let P = Gives (Makes n (starts t) t.name (numbered_heads r)) Any in
      if-cases P (tag_is t Word.SimpleType) (λ a. gives-name t _ (λ v q. makes (rw a) q (type-opened r _ _ o refl)) tt)
      (λ a. if-cases P (tag_is t Word.ComplexType) (λ c. gives-name t _ (λ v q. makes (rw (a, c)) q (type-opened r _ _ o refl)) tt)
      (λ c. if-cases P (tag_is t Word.Element)
      (λ d.
      let k = kept-context n t.name t.type_name r in
      value (after-keeps (below-keeps b 0 _ (ap open_number k ∙ o)) (kept-makes (starts t) t.name t.type_name r (rw (a, c, d)) o)))
      (λ d. value (keeps (below-keeps b 0 r o)))))

  start-makes : (b : Bool) (t : Seen) (r : Reader) (x : Context) → r.context ≡ x → Gives (Makes n (starts t) t.name (numbered_heads r)) Any (on_start b n t r x)
  unfolding on_start on_start_in_schema on_start_in_simple_type raised_simple raised_complex with_base with_content open_number found_root
  start-makes b t r Context.no_context q =
      value (if-either (Makes n (starts t) t.name (numbered_heads r)) (tag_is t Word.Schema)
      (keeps (context-keeps (found_root t r) (Context.in_schema 0) (rw q refl) ∙ root-keeps t r)) (keeps refl))
  start-makes b t r (Context.in_schema depth) q = gives-if (eqb depth 0) (child-makes b t r (rw q refl)) (value (keeps (below-keeps b depth r (rw q refl))))
  start-makes b t r (Context.in_simple_type y) q =
      value (keeps (context-keeps r _ (rw q (if-either (λ (z : SimpleTypeBuilder). open_number (Context.in_simple_type z) ≡ open_number (Context.in_simple_type y))
      (eqb (suc y.nesting_depth) 1 && tag_is t Word.Restriction) refl refl))))
  start-makes b t r (Context.in_complex_type y) q =
      gives-and_then (gives-any (on_start_in_complex_type t (raised_complex y))) λ c u. value (keeps (context-keeps r _ (rw q refl)))

  -- an empty tag in a simple type keeps its name and number
  abbrev Alike : SimpleTypeBuilder → SimpleTypeBuilder → Type 0
  Alike y z = open_number (Context.in_simple_type z) ≡ open_number (Context.in_simple_type y)

  empty_in_simple-alike : (t : Seen) (y : SimpleTypeBuilder) → Gives (Alike y) Any (on_empty_in_simple_type t y)
  unfolding on_empty_in_simple_type with_base with_facet open_number
  empty_in_simple-alike t y =
      gives-if (tag_is t Word.Restriction) (value refl) (gives-facet (facet_word t.word) (facet_value t) (with_facet y) y (λ w. gives-any (facet_by_word w (facet_value t))) (λ f u. refl) refl)

  empty-makes : (t : Seen) (r : Reader) (x : Context) → r.context ≡ x → Gives (Makes n (tag_is t Word.Element) t.name (numbered_heads r)) Any (on_empty n t r x)
  unfolding on_empty on_top_level_element with_content open_number
  empty-makes t r Context.no_context q = value (if-either (Makes n (tag_is t Word.Element) t.name (numbered_heads r)) (tag_is t Word.Schema) (keeps (root-keeps t r)) (keeps refl))
  empty-makes t r (Context.in_schema depth) q =
      value (if-cases (Makes n (tag_is t Word.Element) t.name (numbered_heads r)) (eqb depth 0 && tag_is t Word.Element)
      (λ e. kept-makes (tag_is t Word.Element) t.name t.type_name r (and-true-right (eqb depth 0) _ e) (rw q refl)) (λ e. keeps refl))
  empty-makes t r (Context.in_simple_type y) q = gives-and_then (empty_in_simple-alike t y) λ c u. value (keeps (context-keeps r _ (rw q u)))
  empty-makes t r (Context.in_complex_type y) q = gives-and_then (gives-any (on_empty_in_complex_type t y.content)) λ c u. value (keeps (context-keeps r _ (rw q refl)))

-- a close makes none: the type is finished with the name and the number that it had
close_simple-keeps : (b : SimpleTypeBuilder) (d : ℕ) (r : Reader) → r.context ≡ Context.in_simple_type b → numbered_heads (close_simple_type b d r) ≡ numbered_heads r
unfolding close_simple_type open_number item_number
close_simple-keeps b zero r q = item-finished r _ (Context.in_schema 0) refl (rw q refl)
close_simple-keeps b (suc d) r q = context-keeps r _ (rw q refl)

close_complex-keeps : (b : ComplexTypeBuilder) (d : ℕ) (r : Reader) → r.context ≡ Context.in_complex_type b → numbered_heads (close_complex_type b d r) ≡ numbered_heads r
unfolding close_complex_type open_number item_number
close_complex-keeps b zero r q = item-finished r _ (Context.in_schema 0) refl (rw q refl)
close_complex-keeps b (suc d) r q = context-keeps r _ (rw q refl)

close-keeps : (r : Reader) (x : Context) → r.context ≡ x → numbered_heads (on_end r x) ≡ numbered_heads r
unfolding on_end close_in_schema open_number
close-keeps r Context.no_context q = refl
close-keeps r (Context.in_schema zero) q = context-keeps r Context.no_context (rw q refl)
close-keeps r (Context.in_schema (suc depth)) q = context-keeps r (Context.in_schema depth) (rw q refl)
close-keeps r (Context.in_simple_type b) q = close_simple-keeps b b.nesting_depth r q
close-keeps r (Context.in_complex_type b) q = close_complex-keeps b b.nesting_depth r q

pub handled-makes : (n : ℕ) (by_standard : Bool) (e : Event) (r : Reader) → Gives (Makes n (makes_head e) (event_name e) (numbered_heads r)) Any (handled by_standard n e r)
unfolding handled event_name seen makes_head
handled-makes n b (Event.start t) r = start-makes n b (seen t) r r.context refl
handled-makes n b (Event.empty t) r = empty-makes n (seen t) r r.context refl
handled-makes n b Event.close r = value (keeps (close-keeps r r.context refl))

-- an event gives nothing where there is no head more behind it, and else its own name
none-given : (n : ℕ) (e : Event) (r r' : Reader) → more_heads r r' ≡ false → given_by n e r r' ≡ []
unfolding given_by
none-given n e r r' k =
    if-cases (λ (hs : List HeadNumber). hs ≡ []) (makes_head e && more_heads r r') (λ t. absurd (true≢false (sym (and-true-right (makes_head e) (more_heads r r') t) ∙ k))) (λ t. refl)

name-given : (n : ℕ) (e : Event) (r r' : Reader) (v : Text) → makes_head e ≡ true → event_name e ≡ some v → more_heads r r' ≡ true → given_by n e r r' ≡ record { name = v; event = n } ∷ []
unfolding given_by named_by
name-given n e r r' v m q k = rw (m, k, q) refl

-- so the heads behind an event are those before it and what it gives
pub given-behind : (n : ℕ) (e : Event) (r r' : Reader) → Makes n (makes_head e) (event_name e) (numbered_heads r) r' → numbered_heads r' ≡ numbered_heads r ++ given_by n e r r'
unfolding more_heads
given-behind n e r r' (keeps h) =
    let before = length (numbered_heads r) in
    let none_more : more_heads r r' ≡ false = rw h (le-ltb before before (omega arith)) in
    h ∙ sym (append-nil (numbered_heads r)) ∙ ap (λ (hs : List HeadNumber). numbered_heads r ++ hs) (sym (none-given n e r r' none_more))
given-behind n e r r' (makes {v = v} m q h) =
    let one_more = ap length h ∙ length-append (numbered_heads r) (record { name = v; event = n } ∷ []) in
    let more = lt-ltb (length (numbered_heads r)) (length (numbered_heads r')) (omega (arith, one_more)) in
    h ∙ ap (λ (hs : List HeadNumber). numbered_heads r ++ hs) (sym (name-given n e r r' v m q more))

-- a test of every head, over the heads with their numbers
module _ (p : Text → ℕ → Bool) where
  abbrev number_passes : HeadNumber → Bool
  number_passes h = p h.name h.event

  items-numbered : (is : List Item) → every number_passes (map item_number is) ≡ every (item_passes p) is
  unfolding every item_number item_passes
  items-numbered [] = refl
  items-numbered (Item.element e ∷ is) = ap (λ (b : Bool). p e.name e.event && b) (items-numbered is)
  items-numbered (Item.simple_type t ∷ is) = ap (λ (b : Bool). p t.name t.event && b) (items-numbered is)
  items-numbered (Item.complex_type t ∷ is) = ap (λ (b : Bool). p t.name t.event && b) (items-numbered is)

  open-numbered : (x : Context) → every number_passes (open_number x) ≡ open_passes p x
  unfolding every open_number open_passes
  open-numbered Context.no_context = refl
  open-numbered (Context.in_schema n) = refl
  open-numbered (Context.in_simple_type t) = and-nothing (p t.head.name t.head.event)
  open-numbered (Context.in_complex_type t) = and-nothing (p t.head.name t.head.event)

  pub heads-numbered : (r : Reader) → every (λ h. p h.name h.event) (numbered_heads r) ≡ heads_pass p r
  unfolding numbered_heads heads_pass
  heads-numbered r = rw (every_append number_passes (map item_number r.schema.items) (open_number r.context), items-numbered r.schema.items, open-numbered r.context) refl

  heads-made : (n : ℕ) (e : Event) (r r' : Reader) → (makes_head e ≡ true → (v : Text) → event_name e ≡ some v → p v n ≡ true) → heads_pass p r ≡ true
      → Makes n (makes_head e) (event_name e) (numbered_heads r) r' → heads_pass p r' ≡ true
  heads-made n e r r' own h (keeps k) = sym (heads-numbered r') ∙ ap (λ (hs : List HeadNumber). every number_passes hs) k ∙ heads-numbered r ∙ h
  heads-made n e r r' own h (makes {v = v} m q k) =
      sym (heads-numbered r') ∙ ap (λ (hs : List HeadNumber). every number_passes hs) k ∙ every-one-more number_passes (numbered_heads r) _ (heads-numbered r ∙ h) (own m v q)

  pub handled-passes : (n : ℕ) (by_standard : Bool) (e : Event) (r r' : Reader) → (makes_head e ≡ true → (v : Text) → event_name e ≡ some v → p v n ≡ true)
      → heads_pass p r ≡ true → handled by_standard n e r ≡ ok r' → heads_pass p r' ≡ true
  handled-passes n b e r r' own h q = heads-made n e r r' own h (gives-value (handled-makes n b e r) q)

-- "any other c is below events done": one event more, and its own number
pub number_more : (n k : ℕ) → event_number_ok n k ≡ true → event_number_ok (suc n) k ≡ true
unfolding event_number_ok
number_more n k h =
    ⊎_elim (λ e. or_left _ (ltb k (suc n)) e) (λ e. or_right (eqb k 0) _ (lt-ltb k (suc n) (omega (arith, ltb-true k n e)))) (or_cases (eqb k 0) (ltb k n) h)

pub number-own : (n : ℕ) → event_number_ok (suc n) n ≡ true
unfolding event_number_ok
number-own n = or_right (eqb n 0) _ (lt-ltb n (suc n) (omega arith))

pub numbers-kept : (by_standard : Bool) (n : ℕ) (e : Event) (r r' : Reader) → events_ok r n ≡ true → handled by_standard n e r ≡ ok r' → events_ok r' (suc n) ≡ true
unfolding events_ok
numbers-kept s n e r r' h q =
    let more = heads-weaken (λ v k. event_number_ok n k) (λ v k. event_number_ok (suc n) k) (λ v k. number_more n k) r h in
    handled-passes (λ v k. event_number_ok (suc n) k) n s e r r' (λ m v u. number-own n) more q
