-- With choice 1 a reader's heads are the direct children of the outermost `schema` tags: each event adds the head that the walk over the tags adds, since
-- the walk's depth is told by the context. Assumes nothing.
--     depth_in       the walk's depth in a context
--     Walked        an event that the reader and the walk answer alike
use Rattle.std.specs.Prelude.{if◌then◌else◌}
use mathlib.Core.Path.{◌≡◌, refl, sym, ap}
use mathlib.Core.Bool.{Bool, true, ◌&&◌}
use mathlib.Core.List.{List, [], ◌∷◌, ◌++◌, map, append-nil, map-append}
use mathlib.Core.Option.{Option, some, none}
use Prim.Native.Nat.{ℕ, zero, suc}
use lib.Dec.{eqb, eqb-suc-zero, eqb-suc-suc}
use Rattle.text.specs.Text.{Text}
use Rattle.text.proofs.Laws.Tests.{if-cases, if-either}
use Rattle.xsd_types.specs.Types.{Item, Schema}
use Rattle.xsd_types.specs.State.{SimpleTypeBuilder, ComplexTypeBuilder, Context, Reader}
use Rattle.xsd_parser.specs.declared.words.Word.{Word}
use Rattle.xsd_parser.specs.Words.{facet_word}
use Rattle.xsd_parser.specs.Event.{Tag, Event}
use Rattle.xsd_parser.specs.Seen.{Seen, seen, tag_is}
use Rattle.xsd_parser.specs.Handlers.{in_context, with_item, found_root, kept_element, on_top_level_element, with_base, with_facet, with_content, open_simple_type}
use Rattle.xsd_parser.specs.Handlers.{open_complex_type, below_schema, on_direct_child, on_start_in_schema, raised_simple, on_start_in_simple_type, raised_complex}
use Rattle.xsd_parser.specs.Handlers.{on_start_in_complex_type, on_start, facet_value, facet_by_word, on_empty_in_simple_type, on_empty_in_complex_type, on_empty, close_simple_type}
use Rattle.xsd_parser.specs.Handlers.{close_complex_type, close_in_schema, on_end}
use Rattle.xsd_parser.specs.Step.{handled}
use Rattle.xsd_parser.specs.Children.{ChildHead, depth_after, named_head, element_head, child_head, head_at_depth, item_head, open_head, child_heads}
use Rattle.xsd_parser.proofs.Laws.Outcomes.{Gives, value, Any, gives-if, gives-and_then, gives-name, gives-facet, gives-any}

abbrev pub depth_in : Context → ℕ
depth_in Context.no_context = 0
depth_in (Context.in_schema n) = suc n
depth_in (Context.in_simple_type t) = suc (suc t.nesting_depth)
depth_in (Context.in_complex_type t) = suc (suc t.nesting_depth)

pub record Walked (e : Event) (r r' : Reader) : Type 0 where
  pub depth : depth_in r'.context ≡ depth_after e (depth_in r.context)
  pub heads_are : child_heads r' ≡ child_heads r ++ head_at_depth (depth_in r.context) e

-- deeper tags give no head, and a close gives none
pub deeper-none : (n : ℕ) (e : Event) → head_at_depth (suc (suc n)) e ≡ []
unfolding head_at_depth
deeper-none n e = rw (eqb-suc-suc (suc n) 0, eqb-suc-zero n)

pub close-none : (depth : ℕ) → head_at_depth depth Event.close ≡ []
unfolding head_at_depth child_head
close-none depth = if-either (λ (hs : List ChildHead). hs ≡ []) (eqb depth 1) refl refl

-- nothing is added
pub same-heads : (hs gs : List ChildHead) → gs ≡ [] → hs ≡ hs ++ gs
same-heads hs gs e = rw e (sym (append-nil hs))

-- one more finished item
pub item-head : (is : List Item) (i : Item) → map item_head (is ++ i ∷ []) ≡ map item_head is ++ (item_head i ∷ [])
item-head is i = map-append item_head is (i ∷ [])

pub kept-head : (m : ℕ) (name type_name : Option Text) (r : Reader) → map item_head (kept_element m name type_name r).schema.items ≡ map item_head r.schema.items ++ element_head name type_name
unfolding kept_element element_head with_item item_head
kept-head m none type_name r = sym (append-nil (map item_head r.schema.items))
kept-head m (some name) none r = sym (append-nil (map item_head r.schema.items))
kept-head m (some name) (some type_name) r = item-head r.schema.items (Item.element (record { name = name; type_name = type_name; event = m }))

pub kept-context : (m : ℕ) (name type_name : Option Text) (r : Reader) → (kept_element m name type_name r).context ≡ r.context
unfolding kept_element with_item
kept-context m none type_name r = refl
kept-context m (some name) none r = refl
kept-context m (some name) (some type_name) r = refl

-- a reader by its parts
abbrev pub at : Schema → Bool → Context → Reader
at s root x = record { schema = s; root_seen = root; context = x }

module _ (m : ℕ) (s : Schema) (root : Bool) where
  -- ---- a start

  pub start_outside-walked : (t : Tag)
      → Walked (Event.start t) (at s root Context.no_context)
      (if tag_is (seen t) Word.Schema then in_context (Context.in_schema 0) (found_root (seen t) (at s root Context.no_context)) else at s root Context.no_context)
  unfolding in_context found_root depth_after head_at_depth child_heads open_head
  start_outside-walked t =
      if-cases (Walked (Event.start t) (at s root Context.no_context)) (tag_is (seen t) Word.Schema)
      {x = in_context (Context.in_schema 0) (found_root (seen t) (at s root Context.no_context))} {y = at s root Context.no_context}
      (λ e. record { depth = rw e; heads_are = same-heads _ [] refl })
      (λ e. record { depth = rw e; heads_are = same-heads _ [] refl })

  pub child-walked : (t : Tag) → Gives (Walked (Event.start t) (at s root (Context.in_schema 0))) Any (on_direct_child true m (seen t) (at s root (Context.in_schema 0)))
  unfolding on_direct_child in_context open_simple_type open_complex_type below_schema on_top_level_element depth_after head_at_depth child_head named_head child_heads open_head
  child-walked t =
      let r = at s root (Context.in_schema 0) in
      let P = Gives (Walked (Event.start t) r) Any in
      if-cases P (tag_is (seen t) Word.SimpleType)
      (λ e. gives-name (seen t) _ (λ v q. record { depth = refl; heads_are = rw (e, q) (rw (append-nil (map item_head s.items))) }) tt)
      (λ e. if-cases P (tag_is (seen t) Word.ComplexType)
      (λ f. gives-name (seen t) _ (λ v q. record { depth = refl; heads_are = rw (e, f, q) (rw (append-nil (map item_head s.items))) }) tt)
      (λ f. if-cases P (tag_is (seen t) Word.Element)
      (λ g. value (record { depth = refl; heads_are = rw (e, f, g) (rw (append-nil (map item_head s.items), kept-head m (seen t).name (seen t).type_name r) (append-nil _)) }))
      (λ g. value (record { depth = refl; heads_are = rw (e, f, g) (same-heads _ [] refl) }))))

  pub start_in_schema-walked : (t : Tag) (n : ℕ) → Gives (Walked (Event.start t) (at s root (Context.in_schema n))) Any (on_start_in_schema true m (seen t) n (at s root (Context.in_schema n)))
  unfolding on_start_in_schema below_schema in_context depth_after child_heads open_head
  start_in_schema-walked t zero = child-walked t
  start_in_schema-walked t (suc n) = rw (eqb-suc-zero n) (value (record { depth = refl; heads_are = same-heads _ _ (deeper-none n (Event.start t)) }))

  pub started-simple : (t : Tag) (b : SimpleTypeBuilder) → ((on_start_in_simple_type (seen t) b).nesting_depth ≡ b.nesting_depth) × ((on_start_in_simple_type (seen t) b).head.name ≡ b.head.name)
  unfolding on_start_in_simple_type with_base
  started-simple t b = if-either (λ (x : SimpleTypeBuilder). (x.nesting_depth ≡ b.nesting_depth) × (x.head.name ≡ b.head.name))
      (eqb b.nesting_depth 1 && tag_is (seen t) Word.Restriction) (refl, refl) (refl, refl)

  pub start_in_simple-walked : (t : Tag) (b : SimpleTypeBuilder)
      → Walked (Event.start t) (at s root (Context.in_simple_type b)) (at s root (Context.in_simple_type (on_start_in_simple_type (seen t) (raised_simple b))))
  unfolding raised_simple depth_after child_heads open_head
  start_in_simple-walked t b =
      let k = started-simple t (raised_simple b) in
      record { depth = ap (λ n. suc (suc n)) k.0; heads_are = rw k.1 (same-heads _ _ (deeper-none b.nesting_depth (Event.start t))) }

  pub start_in_complex-walked : (t : Tag) (b : ComplexTypeBuilder)
      → Gives (Walked (Event.start t) (at s root (Context.in_complex_type b))) Any (on_start true m (seen t) (at s root (Context.in_complex_type b)) (Context.in_complex_type b))
  unfolding on_start in_context raised_complex with_content depth_after child_heads open_head
  start_in_complex-walked t b =
      gives-and_then (gives-any (on_start_in_complex_type (seen t) (raised_complex b))) λ content q.
      value (record { depth = refl; heads_are = same-heads _ _ (deeper-none b.nesting_depth (Event.start t)) })

  pub start-walked : (t : Tag) (x : Context) → Gives (Walked (Event.start t) (at s root x)) Any (on_start true m (seen t) (at s root x) x)
  unfolding on_start in_context
  start-walked t Context.no_context = value (start_outside-walked t)
  start-walked t (Context.in_schema n) = start_in_schema-walked t n
  start-walked t (Context.in_simple_type b) = value (start_in_simple-walked t b)
  start-walked t (Context.in_complex_type b) = start_in_complex-walked t b

  -- ---- an empty tag

  pub empty_in_schema-walked : (t : Tag) (n : ℕ)
      → Walked (Event.empty t) (at s root (Context.in_schema n))
      (if eqb n 0 && tag_is (seen t) Word.Element then on_top_level_element m (seen t) (at s root (Context.in_schema n)) else at s root (Context.in_schema n))
  unfolding on_top_level_element depth_after head_at_depth child_head child_heads open_head
  empty_in_schema-walked t zero =
      let r = at s root (Context.in_schema 0) in
      if-cases (Walked (Event.empty t) r) (tag_is (seen t) Word.Element)
      (λ e. record {
        depth = ap depth_in (kept-context m (seen t).name (seen t).type_name r);
        heads_are = rw (e, kept-context m (seen t).name (seen t).type_name r)
            (rw (append-nil (map item_head s.items), kept-head m (seen t).name (seen t).type_name r) (append-nil _));
      })
      (λ e. record { depth = refl; heads_are = rw e (same-heads _ [] refl) })
  empty_in_schema-walked t (suc n) = rw (eqb-suc-zero n) (record { depth = refl; heads_are = same-heads _ _ (deeper-none n (Event.empty t)) })

  -- an empty tag in a simple type keeps its name and nesting
  abbrev pub Alike : SimpleTypeBuilder → SimpleTypeBuilder → Type 0
  Alike b x = (x.nesting_depth ≡ b.nesting_depth) × (x.head.name ≡ b.head.name)

  pub empty_in_simple-alike : (t : Seen) (b : SimpleTypeBuilder) → Gives (Alike b) Any (on_empty_in_simple_type t b)
  unfolding on_empty_in_simple_type with_base with_facet
  empty_in_simple-alike t b =
      gives-if (tag_is t Word.Restriction) (value (refl, refl))
      (gives-facet (facet_word t.word) (facet_value t) (with_facet b) b (λ w. gives-any (facet_by_word w (facet_value t))) (λ f u. (refl, refl)) (refl, refl))

  pub empty_walked : (t : Tag) (x : Context) → Gives (Walked (Event.empty t) (at s root x)) Any (on_empty m (seen t) (at s root x) x)
  unfolding on_empty in_context found_root with_content depth_after head_at_depth child_heads open_head
  empty_walked t Context.no_context =
      value (if-either (Walked (Event.empty t) (at s root Context.no_context)) (tag_is (seen t) Word.Schema)
      (record { depth = refl; heads_are = same-heads _ [] refl }) (record { depth = refl; heads_are = same-heads _ [] refl }))
  empty_walked t (Context.in_schema n) = value (empty_in_schema-walked t n)
  empty_walked t (Context.in_simple_type b) =
      gives-and_then (empty_in_simple-alike (seen t) b) λ c q.
      value (record { depth = ap (λ n. suc (suc n)) q.0; heads_are = rw q.1 (same-heads _ _ (deeper-none b.nesting_depth (Event.empty t))) })
  empty_walked t (Context.in_complex_type b) =
      gives-and_then (gives-any (on_empty_in_complex_type (seen t) b.content)) λ content q.
      value (record { depth = refl; heads_are = same-heads _ _ (deeper-none b.nesting_depth (Event.empty t)) })

  -- ---- a close

  pub close_simple-walked : (b : SimpleTypeBuilder) (d : ℕ) → b.nesting_depth ≡ d
      → Walked Event.close (at s root (Context.in_simple_type b)) (close_simple_type b d (at s root (Context.in_simple_type b)))
  unfolding close_simple_type in_context with_item depth_after child_heads item_head open_head
  close_simple-walked b zero q =
      record {
        depth = ap suc (sym q);
        heads_are = rw (close-none (suc (suc b.nesting_depth)), item-head s.items (Item.simple_type (record { name = b.head.name; base = b.base; facets = b.facets; event = b.head.event }))) refl;
      }
  close_simple-walked b (suc d) q = record { depth = ap suc (sym q); heads_are = same-heads _ _ (close-none (suc (suc b.nesting_depth))) }

  pub close_complex-walked : (b : ComplexTypeBuilder) (d : ℕ) → b.nesting_depth ≡ d
      → Walked Event.close (at s root (Context.in_complex_type b)) (close_complex_type b d (at s root (Context.in_complex_type b)))
  unfolding close_complex_type in_context with_item depth_after child_heads item_head open_head
  close_complex-walked b zero q =
      record {
        depth = ap suc (sym q);
        heads_are = rw (close-none (suc (suc b.nesting_depth)), item-head s.items (Item.complex_type _)) refl;
      }
  close_complex-walked b (suc d) q = record { depth = ap suc (sym q); heads_are = same-heads _ _ (close-none (suc (suc b.nesting_depth))) }

  pub close_in_schema-walked : (n : ℕ) → Walked Event.close (at s root (Context.in_schema n)) (close_in_schema n (at s root (Context.in_schema n)))
  unfolding close_in_schema in_context depth_after child_heads open_head
  close_in_schema-walked zero = record { depth = refl; heads_are = same-heads _ _ (close-none 1) }
  close_in_schema-walked (suc n) = record { depth = refl; heads_are = same-heads _ _ (close-none (suc (suc n))) }

  pub close-walked : (x : Context) → Walked Event.close (at s root x) (on_end (at s root x) x)
  unfolding on_end depth_after
  close-walked Context.no_context = record { depth = refl; heads_are = same-heads _ _ (close-none 0) }
  close-walked (Context.in_schema n) = close_in_schema-walked n
  close-walked (Context.in_simple_type b) = close_simple-walked b b.nesting_depth refl
  close-walked (Context.in_complex_type b) = close_complex-walked b b.nesting_depth refl

-- with choice 1 each event that the handlers take is the walk's
pub handled-walked : (m : ℕ) (e : Event) (r : Reader) → Gives (Walked e r) Any (handled true m e r)
unfolding handled
handled-walked m (Event.start t) r = start-walked m r.schema r.root_seen t r.context
handled-walked m (Event.empty t) r = empty_walked m r.schema r.root_seen t r.context
handled-walked m Event.close r = value (close-walked m r.schema r.root_seen r.context)
