-- The parts of a proper reader, and how they are put together again. Assumes nothing.
--     ReaderOk by_standard r n    the reader r is as a good sheet asks, with n open tags and the choice
use mathlib.Core.Path.{◌≡◌, refl}
use mathlib.Core.Bool.{Bool, true, false, ◌&&◌, false≢true}
use Prim.Native.Nat.{ℕ, suc, ◌+◌, ◌≤◌}
use native.Mathlib.Omega.{arith}
use lib.Dec.{leb, eqb-suc-zero}
use borrow.Author.Tests.{leb-true, le-leb}
use Rattle.text.specs.Text.{every, is_text}
use Rattle.xsd_types.specs.Types.{Item}
use Rattle.xsd_types.specs.State.{SimpleTypeBuilder, ComplexContentBuilder, ComplexTypeBuilder, Context, Reader, facet_ok, content_ok, namespace_ok, item_ok, schema_ok}
use Rattle.xsd_types.specs.State.{schema_nesting_ok, context_ok, is_no_context, is_empty, root_ok, started, finish}
use Rattle.xsd_parser.specs.Handlers.{in_context, with_item}
use Rattle.std.proofs.lemmas.Bool.{and_parts, or_right}
use Rattle.text.proofs.Laws.Tests.{and-true, three, four, or-true-left}
use Rattle.text.proofs.Laws.Every.{every-one-more}

pub record ReaderOk (by_standard : Bool) (r : Reader) (n : ℕ) : Type 0 where
  pub root : root_ok r ≡ true
  pub context : context_ok by_standard r.context n ≡ true
  pub schema : schema_ok r.schema ≡ true

-- "context above 0 has root seen"
pub root-seen : (r : Reader) (x : Context) → r.context ≡ x → is_no_context x ≡ false → root_ok r ≡ true → r.root_seen ≡ true
unfolding root_ok
root-seen r x q h e = or-true-left r.root_seen (is_no_context r.context && is_empty r.schema.items && is_empty r.schema.target_namespace) e (rw (q, h))

pub seen-root : (r : Reader) → r.root_seen ≡ true → root_ok r ≡ true
unfolding root_ok
seen-root r e = rw e

-- a schema with one item more
pub item-added : (r : Reader) (i : Item) → item_ok i ≡ true → schema_ok r.schema ≡ true → schema_ok (with_item i r).schema ≡ true
unfolding with_item schema_ok
item-added r i h e =
    let p = and_parts (is_text r.schema.target_namespace) (every item_ok r.schema.items) e in
    and-true p.0 (every-one-more item_ok r.schema.items i p.1 h)

-- "contexts 2 and 3 have at least nesting + 2"
pub record SimpleOk (b : SimpleTypeBuilder) (n : ℕ) : Type 0 where
  pub tags : b.nesting_depth + 2 ≤ n
  pub name : is_text b.head.name ≡ true
  pub base : is_text b.base ≡ true
  pub facets : every facet_ok b.facets ≡ true

pub record ComplexOk (b : ComplexTypeBuilder) (n : ℕ) : Type 0 where
  pub tags : b.nesting_depth + 2 ≤ n
  pub name : is_text b.head.name ≡ true
  pub content : content_ok b.content ≡ true

-- order 3: in context 1 "open tags of at least nesting + 1"; "with 0, nesting there stays 0"
pub record SchemaOk (by_standard : Bool) (depth n : ℕ) : Type 0 where
  pub tags : depth + 1 ≤ n
  pub nested : schema_nesting_ok by_standard depth ≡ true

pub nested-first : (by_standard : Bool) → schema_nesting_ok by_standard 0 ≡ true
unfolding schema_nesting_ok
nested-first b = or_right b _ refl

pub nested-less : (by_standard : Bool) (depth : ℕ) → schema_nesting_ok by_standard (suc depth) ≡ true → schema_nesting_ok by_standard depth ≡ true
unfolding schema_nesting_ok
nested-less true depth e = refl
nested-less false depth e = absurd (false≢true (rw (eqb-suc-zero depth) at e))

-- one open tag more does no harm
pub simple-more : (b : SimpleTypeBuilder) (n : ℕ) → SimpleOk b n → SimpleOk b (suc n)
simple-more b n o = record { tags = omega arith; name = o.name; base = o.base; facets = o.facets }

pub complex-more : (b : ComplexTypeBuilder) (n : ℕ) → ComplexOk b n → ComplexOk b (suc n)
complex-more b n o = record { tags = omega arith; name = o.name; content = o.content }

module _ (by_standard : Bool) where
  -- a reader that has seen the root, in another context
  pub context-set : (r : Reader) (x : Context) (n : ℕ) → r.root_seen ≡ true → context_ok by_standard x n ≡ true → schema_ok r.schema ≡ true
      → ReaderOk by_standard (in_context x r) n
  unfolding in_context
  context-set r x n e h k = record { root = seen-root (in_context x r) e; context = h; schema = k }

  pub simple-parts : (b : SimpleTypeBuilder) (n : ℕ) → context_ok by_standard (Context.in_simple_type b) n ≡ true → SimpleOk b n
  unfolding context_ok
  simple-parts b n e =
      let p = four (leb (b.nesting_depth + 2) n) (is_text b.head.name) (is_text b.base) (every facet_ok b.facets) e in
      record { tags = leb-true (b.nesting_depth + 2) n p.0; name = p.1; base = p.2; facets = p.3 }

  pub simple-whole : (b : SimpleTypeBuilder) (n : ℕ) → SimpleOk b n → context_ok by_standard (Context.in_simple_type b) n ≡ true
  unfolding context_ok
  simple-whole b n o = and-true (and-true (and-true (le-leb (b.nesting_depth + 2) n o.tags) o.name) o.base) o.facets

  pub complex-parts : (b : ComplexTypeBuilder) (n : ℕ) → context_ok by_standard (Context.in_complex_type b) n ≡ true → ComplexOk b n
  unfolding context_ok
  complex-parts b n e =
      let p = three (leb (b.nesting_depth + 2) n) (is_text b.head.name) (content_ok b.content) e in
      record { tags = leb-true (b.nesting_depth + 2) n p.0; name = p.1; content = p.2 }

  pub complex-whole : (b : ComplexTypeBuilder) (n : ℕ) → ComplexOk b n → context_ok by_standard (Context.in_complex_type b) n ≡ true
  unfolding context_ok
  complex-whole b n o = and-true (and-true (le-leb (b.nesting_depth + 2) n o.tags) o.name) o.content

  pub schema-parts : (depth n : ℕ) → context_ok by_standard (Context.in_schema depth) n ≡ true → SchemaOk by_standard depth n
  unfolding context_ok
  schema-parts depth n e =
      let p = and_parts (schema_nesting_ok by_standard depth) (leb (depth + 1) n) e in
      record { tags = leb-true (depth + 1) n p.1; nested = p.0 }

  pub schema-whole : (depth n : ℕ) → SchemaOk by_standard depth n → context_ok by_standard (Context.in_schema depth) n ≡ true
  unfolding context_ok
  schema-whole depth n o = and-true o.nested (le-leb (depth + 1) n o.tags)

  -- "context 1 has an open tag"
  pub schema-first : (n : ℕ) → 1 ≤ n → context_ok by_standard (Context.in_schema 0) n ≡ true
  schema-first n h = schema-whole 0 n (record { tags = h; nested = nested-first by_standard })

  pub one-tag-more : (x : Context) (n : ℕ) → context_ok by_standard x n ≡ true → context_ok by_standard x (suc n) ≡ true
  unfolding context_ok
  one-tag-more Context.no_context n e = refl
  one-tag-more (Context.in_schema depth) n e =
      let o = schema-parts depth n e in
      schema-whole depth (suc n) (record { tags = omega arith; nested = o.nested })
  one-tag-more (Context.in_simple_type b) n e = simple-whole b (suc n) (simple-more b n (simple-parts b n e))
  one-tag-more (Context.in_complex_type b) n e = complex-whole b (suc n) (complex-more b n (complex-parts b n e))

-- a finished content is as the builder's was
pub finish-kept : (c : ComplexContentBuilder) → content_ok c ≡ true → content_ok (started (finish c)) ≡ true
unfolding content_ok started finish namespace_ok
finish-kept ComplexContentBuilder.empty e = refl
finish-kept (ComplexContentBuilder.sequence es) e = e
finish-kept (ComplexContentBuilder.choice vs) e = e
finish-kept (ComplexContentBuilder.simple_content base xs flag) e = e
finish-kept (ComplexContentBuilder.any n) e = e
