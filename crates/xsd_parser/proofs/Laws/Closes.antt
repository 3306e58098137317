-- A close keeps a proper reader proper, with one open tag less. Assumes nothing.
use mathlib.Core.Path.{◌≡◌, refl}
use mathlib.Core.Bool.{Bool, true}
use Prim.Native.Nat.{ℕ, zero, suc}
use native.Mathlib.Omega.{arith}
use Rattle.xsd_types.specs.State.{SimpleTypeBuilder, ComplexTypeBuilder, Context, Reader, context_ok, item_ok, is_no_context}
use Rattle.xsd_parser.specs.Handlers.{with_item, close_simple_type, close_complex_type, close_in_schema, on_end}
use Rattle.xsd_parser.proofs.Laws.Readers.{ReaderOk, root-seen, context-set, item-added, SimpleOk, simple-parts, simple-whole, ComplexOk, complex-parts}
use Rattle.xsd_parser.proofs.Laws.Readers.{complex-whole, SchemaOk, schema-parts, schema-whole, schema-first, nested-less, finish-kept}
use Rattle.text.proofs.Laws.Tests.{and-true}

module _ (by_standard : Bool) where
  pub close_simple-kept : (b : SimpleTypeBuilder) (d : ℕ) (r : Reader) (n : ℕ) → b.nesting_depth ≡ d → SimpleOk b (suc n) → r.root_seen ≡ true
      → ReaderOk by_standard r (suc n) → ReaderOk by_standard (close_simple_type b d r) n
  unfolding close_simple_type with_item item_ok
  close_simple-kept b zero r n q p h o =
      context-set by_standard (with_item _ r) (Context.in_schema 0) n h (schema-first by_standard n (omega arith)) (item-added r _ (and-true (and-true p.name p.base) p.facets) o.schema)
  close_simple-kept b (suc d) r n q p h o =
      context-set by_standard r _ n h (simple-whole by_standard _ n (record { tags = omega arith; name = p.name; base = p.base; facets = p.facets })) o.schema

  pub close_complex-kept : (b : ComplexTypeBuilder) (d : ℕ) (r : Reader) (n : ℕ) → b.nesting_depth ≡ d → ComplexOk b (suc n) → r.root_seen ≡ true
      → ReaderOk by_standard r (suc n) → ReaderOk by_standard (close_complex_type b d r) n
  unfolding close_complex_type with_item item_ok
  close_complex-kept b zero r n q p h o =
      context-set by_standard (with_item _ r) (Context.in_schema 0) n h (schema-first by_standard n (omega arith)) (item-added r _ (and-true p.name (finish-kept b.content p.content)) o.schema)
  close_complex-kept b (suc d) r n q p h o =
      context-set by_standard r _ n h (complex-whole by_standard _ n (record { tags = omega arith; name = p.name; content = p.content })) o.schema

  pub close_schema-kept : (depth : ℕ) (r : Reader) (n : ℕ) → SchemaOk by_standard depth (suc n) → r.root_seen ≡ true → ReaderOk by_standard r (suc n)
      → ReaderOk by_standard (close_in_schema depth r) n
  unfolding close_in_schema context_ok
  close_schema-kept zero r n p h o = context-set by_standard r Context.no_context n h refl o.schema
  close_schema-kept (suc d) r n p h o =
      context-set by_standard r (Context.in_schema d) n h (schema-whole by_standard d n (record { tags = omega arith; nested = nested-less by_standard d p.nested })) o.schema

  pub close-kept : (r : Reader) (n : ℕ) (x : Context) → r.context ≡ x → ReaderOk by_standard r (suc n) → ReaderOk by_standard (on_end r x) n
  unfolding on_end is_no_context context_ok
  close-kept r n Context.no_context q o = record { root = o.root; context = rw q; schema = o.schema }
  close-kept r n (Context.in_schema depth) q o =
      close_schema-kept depth r n (schema-parts by_standard depth (suc n) (rw q at o.context)) (root-seen r (Context.in_schema depth) q refl o.root) o
  close-kept r n (Context.in_simple_type b) q o =
      close_simple-kept b b.nesting_depth r n refl (simple-parts by_standard b (suc n) (rw q at o.context)) (root-seen r (Context.in_simple_type b) q refl o.root) o
  close-kept r n (Context.in_complex_type b) q o =
      close_complex-kept b b.nesting_depth r n refl (complex-parts by_standard b (suc n) (rw q at o.context)) (root-seen r (Context.in_complex_type b) q refl o.root) o
