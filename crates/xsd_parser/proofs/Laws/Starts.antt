-- A start tag keeps a proper reader proper, with one open tag more. Assumes nothing.
use mathlib.Core.Path.{◌≡◌, refl, ◌∙◌}
use mathlib.Core.Bool.{Bool, true, false, ◌&&◌}
use mathlib.Core.Option.{Option, some, none}
use Prim.Native.Nat.{ℕ, suc, ◌+◌, ◌≤◌}
use native.Mathlib.Omega.{arith}
use lib.Dec.{eqb}
use Rattle.text.specs.Text.{Text, every, is_text}
use Rattle.xsd_types.specs.Types.{Item}
use Rattle.xsd_types.specs.State.{SimpleTypeBuilder, ComplexContentBuilder, ComplexTypeBuilder, Context, Reader, content_ok, namespace_ok, element_ok, item_ok, schema_ok}
use Rattle.xsd_types.specs.State.{schema_nesting_ok, context_ok, is_no_context}
use Rattle.xsd_parser.specs.declared.words.Word.{Word}
use Rattle.xsd_parser.specs.Seen.{Seen, tag_is}
use Rattle.xsd_parser.specs.Handlers.{with_item, found_root, kept_element, on_top_level_element, with_base, with_content, open_simple_type, open_complex_type, below_schema}
use Rattle.xsd_parser.specs.Handlers.{on_direct_child, on_start_in_schema, raised_simple, on_start_in_simple_type, raised_complex, on_start}
use Rattle.xsd_parser.proofs.Laws.SeenTexts.{SeenText, or-empty-text}
use Rattle.xsd_parser.proofs.Laws.Outcomes.{Gives, value, Any, gives-if, gives-and_then, gives-name}
use Rattle.xsd_parser.proofs.Laws.Contents.{start_in_complex-kept}
use Rattle.xsd_parser.proofs.Laws.Readers.{ReaderOk, root-seen, seen-root, context-set, item-added, SimpleOk, simple-parts, simple-whole, ComplexOk}
use Rattle.xsd_parser.proofs.Laws.Readers.{complex-parts, complex-whole, schema-parts, schema-whole, schema-first, one-tag-more}
use Rattle.text.proofs.Laws.Class.{empty-text}
use Rattle.std.proofs.lemmas.Bool.{and_parts}
use Rattle.text.proofs.Laws.Tests.{and-true, if-either}

-- the namespace set anew
pub namespace-set : (t : Seen) (r : Reader) → SeenText t → schema_ok r.schema ≡ true → schema_ok (found_root t r).schema ≡ true
unfolding found_root schema_ok
namespace-set t r e h = and-true (or-empty-text t.target_namespace e.target_namespace) (and_parts (is_text r.schema.target_namespace) (every item_ok r.schema.items) h).1

-- a value that a lookup found
pub found-text : (t : Seen) (v : Text) → SeenText t → t.name ≡ some v → is_text v ≡ true
unfolding namespace_ok
found-text t v e q = let h : namespace_ok (some v) ≡ true = rw q at e.name in h

-- an element at the top
pub kept_element-root : (m : ℕ) (name type_name : Option Text) (r : Reader) → (kept_element m name type_name r).root_seen ≡ r.root_seen
unfolding kept_element with_item
kept_element-root m none type_name r = refl
kept_element-root m (some name) none r = refl
kept_element-root m (some name) (some type_name) r = refl

module _ (by_standard : Bool) where
  pub kept_element-kept : (m : ℕ) (name type_name : Option Text) (r : Reader) (n : ℕ) → namespace_ok name ≡ true → namespace_ok type_name ≡ true → r.root_seen ≡ true
      → ReaderOk by_standard r n → ReaderOk by_standard (kept_element m name type_name r) n
  unfolding kept_element namespace_ok with_item element_ok item_ok
  kept_element-kept m none type_name r n p q h o = o
  kept_element-kept m (some name) none r n p q h o = o
  kept_element-kept m (some name) (some type_name) r n p q h o =
      let i = Item.element (record { name = name; type_name = type_name; event = m }) in
      record { root = seen-root (with_item i r) h; context = o.context; schema = item-added r i (and-true p q) o.schema }

  pub top_level-kept : (m : ℕ) (t : Seen) (r : Reader) (n : ℕ) → SeenText t → r.root_seen ≡ true → ReaderOk by_standard r n → ReaderOk by_standard (on_top_level_element m t r) n
  unfolding on_top_level_element
  top_level-kept m t r n e h o = kept_element-kept m t.name t.type_name r n e.name e.type_name h o

  -- a reader that stays as it is, with one open tag more
  pub unchanged-kept : (r : Reader) (n : ℕ) → ReaderOk by_standard r n → ReaderOk by_standard r (suc n)
  unchanged-kept r n o = record { root = o.root; context = one-tag-more by_standard r.context n o.context; schema = o.schema }

  -- a type opened in the schema has nesting 0, and the schema and the type are open
  pub open_simple-kept : (m : ℕ) (name : Text) (n : ℕ) → 1 ≤ n → is_text name ≡ true → context_ok by_standard (open_simple_type m name) (suc n) ≡ true
  unfolding open_simple_type every
  open_simple-kept m name n h e = simple-whole by_standard _ (suc n) (record { tags = omega arith; name = e; base = empty-text; facets = refl })

  pub open_complex-kept : (m : ℕ) (name : Text) (n : ℕ) → 1 ≤ n → is_text name ≡ true → context_ok by_standard (open_complex_type m name) (suc n) ≡ true
  unfolding open_complex_type content_ok
  open_complex-kept m name n h e = complex-whole by_standard _ (suc n) (record { tags = omega arith; name = e; content = refl })

-- order 3: with choice 1 a start below the schema raises nesting, with choice 0 the reader stays as it is
pub below_schema-kept : (by_standard : Bool) (depth : ℕ) (r : Reader) (n : ℕ) → r.root_seen ≡ true → depth + 1 ≤ n → ReaderOk by_standard r n
    → ReaderOk by_standard (below_schema by_standard depth r) (suc n)
unfolding below_schema schema_nesting_ok
below_schema-kept false depth r n h k o = unchanged-kept false r n o
below_schema-kept true depth r n h k o =
    context-set true r (Context.in_schema (suc depth)) (suc n) h (schema-whole true (suc depth) (suc n) (record { tags = omega arith; nested = refl })) o.schema

-- a start in a simple type
pub start_in_simple-kept : (t : Seen) (b : SimpleTypeBuilder) (n : ℕ) → SeenText t → SimpleOk b n → SimpleOk (on_start_in_simple_type t (raised_simple b)) (suc n)
unfolding on_start_in_simple_type raised_simple with_base
start_in_simple-kept t b n e o =
    if-either (λ x. SimpleOk x (suc n)) (eqb (suc b.nesting_depth) 1 && tag_is t Word.Restriction)
    (record { tags = omega arith; name = o.name; base = or-empty-text t.base e.base; facets = o.facets })
    (record { tags = omega arith; name = o.name; base = o.base; facets = o.facets })

-- the complex type with another content
pub content-set : (b : ComplexTypeBuilder) (c : ComplexContentBuilder) (n : ℕ) → ComplexOk b n → content_ok c ≡ true → ComplexOk (with_content b c) n
unfolding with_content
content-set b c n o h = record { tags = o.tags; name = o.name; content = h }

pub raised-kept : (b : ComplexTypeBuilder) (n : ℕ) → ComplexOk b n → ComplexOk (raised_complex b) (suc n)
unfolding raised_complex
raised-kept b n o = record { tags = omega arith; name = o.name; content = o.content }

module _ (by_standard : Bool) where
  pub direct_child-kept : (m : ℕ) (t : Seen) (r : Reader) (n : ℕ) → SeenText t → r.root_seen ≡ true → 1 ≤ n → ReaderOk by_standard r n
      → Gives (λ x. ReaderOk by_standard x (suc n)) Any (on_direct_child by_standard m t r)
  unfolding on_direct_child on_top_level_element
  direct_child-kept m t r n e h k o =
      gives-if (tag_is t Word.SimpleType)
      (gives-name t _ (λ v q. context-set by_standard r _ (suc n) h (open_simple-kept by_standard m v n k (found-text t v e q)) o.schema) tt)
      (gives-if (tag_is t Word.ComplexType)
      (gives-name t _ (λ v q. context-set by_standard r _ (suc n) h (open_complex-kept by_standard m v n k (found-text t v e q)) o.schema) tt)
      (gives-if (tag_is t Word.Element)
      (value (below_schema-kept by_standard 0 (on_top_level_element m t r) n (kept_element-root m t.name t.type_name r ∙ h) k (top_level-kept by_standard m t r n e h o)))
      (value (below_schema-kept by_standard 0 r n h k o))))

  pub start_in_schema-kept : (m : ℕ) (t : Seen) (depth : ℕ) (r : Reader) (n : ℕ) → SeenText t → r.root_seen ≡ true → depth + 1 ≤ n → ReaderOk by_standard r n
      → Gives (λ x. ReaderOk by_standard x (suc n)) Any (on_start_in_schema by_standard m t depth r)
  unfolding on_start_in_schema
  start_in_schema-kept m t depth r n e h k o =
      gives-if (eqb depth 0) (direct_child-kept m t r n e h (omega arith) o) (value (below_schema-kept by_standard depth r n h k o))

  -- a start outside the schema, in a simple type, in a complex type
  pub start_outside-kept : (m : ℕ) (t : Seen) (r : Reader) (n : ℕ) → SeenText t → ReaderOk by_standard r n
      → Gives (λ x. ReaderOk by_standard x (suc n)) Any (on_start by_standard m t r Context.no_context)
  unfolding on_start found_root
  start_outside-kept m t r n e o =
      value (if-either (λ x. ReaderOk by_standard x (suc n)) (tag_is t Word.Schema)
      (context-set by_standard (found_root t r) (Context.in_schema 0) (suc n) refl (schema-first by_standard (suc n) (omega arith)) (namespace-set t r e o.schema))
      (unchanged-kept by_standard r n o))

  pub start_in_simple_type-kept : (m : ℕ) (t : Seen) (r : Reader) (n : ℕ) (b : SimpleTypeBuilder) → SeenText t → r.root_seen ≡ true → SimpleOk b n → schema_ok r.schema ≡ true
      → Gives (λ x. ReaderOk by_standard x (suc n)) Any (on_start by_standard m t r (Context.in_simple_type b))
  unfolding on_start
  start_in_simple_type-kept m t r n b e h p k = value (context-set by_standard r _ (suc n) h (simple-whole by_standard _ (suc n) (start_in_simple-kept t b n e p)) k)

  pub start_in_complex_type-kept : (m : ℕ) (t : Seen) (r : Reader) (n : ℕ) (b : ComplexTypeBuilder) → SeenText t → r.root_seen ≡ true → ComplexOk b n → schema_ok r.schema ≡ true
      → Gives (λ x. ReaderOk by_standard x (suc n)) Any (on_start by_standard m t r (Context.in_complex_type b))
  unfolding on_start
  start_in_complex_type-kept m t r n b e h p k =
      let o = raised-kept b n p in
      gives-and_then (start_in_complex-kept t (raised_complex b) e o.content) λ c q.
      value (context-set by_standard r _ (suc n) h (complex-whole by_standard _ (suc n) (content-set _ c (suc n) o q)) k)

  pub start-kept : (m : ℕ) (t : Seen) (r : Reader) (n : ℕ) (x : Context) → r.context ≡ x → SeenText t → ReaderOk by_standard r n
      → Gives (λ x. ReaderOk by_standard x (suc n)) Any (on_start by_standard m t r x)
  unfolding on_start is_no_context
  start-kept m t r n Context.no_context q e o = start_outside-kept m t r n e o
  start-kept m t r n (Context.in_schema depth) q e o =
      start_in_schema-kept m t depth r n e (root-seen r (Context.in_schema depth) q refl o.root) (schema-parts by_standard depth n (rw q at o.context)).tags o
  start-kept m t r n (Context.in_simple_type b) q e o =
      start_in_simple_type-kept m t r n b e (root-seen r (Context.in_simple_type b) q refl o.root) (simple-parts by_standard b n (rw q at o.context)) o.schema
  start-kept m t r n (Context.in_complex_type b) q e o =
      start_in_complex_type-kept m t r n b e (root-seen r (Context.in_complex_type b) q refl o.root) (complex-parts by_standard b n (rw q at o.context)) o.schema
