-- An empty tag keeps a proper reader proper. Assumes nothing.
use mathlib.Core.Path.{◌≡◌, refl}
use mathlib.Core.Bool.{Bool, true, ◌&&◌}
use Prim.Native.Nat.{ℕ, ◌^◌}
use lib.Dec.{eqb, ltb}
use Rattle.text.specs.Text.{Text, is_text}
use Rattle.number.specs.Number.{number}
use Rattle.xsd_types.specs.Types.{Facet}
use Rattle.xsd_types.specs.State.{SimpleTypeBuilder, ComplexTypeBuilder, schema_ok, Context, Reader, facet_ok, is_no_context}
use Rattle.xsd_parser.specs.declared.words.Word.{Word}
use Rattle.xsd_parser.specs.declared.words.FacetWord.{FacetWord}
use Rattle.xsd_parser.specs.Words.{facet_word}
use Rattle.xsd_parser.specs.Event.{or_empty}
use Rattle.xsd_parser.specs.Seen.{Seen, tag_is}
use Rattle.xsd_parser.specs.Handlers.{on_parsed, found_root, with_base, with_facet, with_content, facet_value, facet_by_word, on_empty_in_simple_type, on_empty}
use Rattle.xsd_parser.proofs.Laws.SeenTexts.{SeenText, or-empty-text}
use Rattle.xsd_parser.proofs.Laws.Outcomes.{Gives, value, Any, Kept, gives-if, gives-and_then, gives-parsed, gives-facet}
use Rattle.xsd_parser.proofs.Laws.Contents.{number_fits, empty_in_complex-kept}
use Rattle.xsd_parser.proofs.Laws.Readers.{ReaderOk, ComplexOk, root-seen, seen-root, context-set, SimpleOk, simple-parts, simple-whole, complex-parts, complex-whole}
use Rattle.xsd_parser.proofs.Laws.Starts.{namespace-set, top_level-kept}
use Rattle.text.proofs.Laws.Tests.{if-either}
use Rattle.text.proofs.Laws.Every.{every-one-more}

-- a simple type with another base, and with one facet more
pub base-set : (t : Seen) (b : SimpleTypeBuilder) (n : ℕ) → SeenText t → SimpleOk b n → SimpleOk (with_base (or_empty t.base) b) n
unfolding with_base
base-set t b n e o = record { tags = o.tags; name = o.name; base = or-empty-text t.base e.base; facets = o.facets }

pub facet-added : (b : SimpleTypeBuilder) (f : Facet) (n : ℕ) → facet_ok f ≡ true → SimpleOk b n → SimpleOk (with_facet b f) n
unfolding with_facet
facet-added b f n h o = record { tags = o.tags; name = o.name; base = o.base; facets = every-one-more facet_ok b.facets f o.facets h }

-- a facet that is a number of the width w
pub number-kept : (w : ℕ) (v : Text) (f : ℕ → Facet) → ((k : ℕ) → ltb k (2 ^ w) ≡ true → facet_ok (f k) ≡ true) → Kept facet_ok (on_parsed (number w v) f)
number-kept w v f h = gives-parsed (number w v) f (λ k q. h k (number_fits w v k q)) (λ r q. tt)

pub facet_value-text : (t : Seen) → SeenText t → is_text (facet_value t) ≡ true
unfolding facet_value
facet_value-text t e = or-empty-text t.value e.value

-- a facet's value is a text or a number within its width
pub facet_of-kept : (w : FacetWord) (v : Text) → is_text v ≡ true → Kept facet_ok (facet_by_word w v)
unfolding facet_by_word facet_ok
facet_of-kept FacetWord.Enumeration v h = value h
facet_of-kept FacetWord.Pattern v h = value h
facet_of-kept FacetWord.MinLength v h = number-kept 64 v Facet.min_length (λ k q. q)
facet_of-kept FacetWord.MaxLength v h = number-kept 64 v Facet.max_length (λ k q. q)
facet_of-kept FacetWord.MinInclusive v h = value h
facet_of-kept FacetWord.MaxInclusive v h = value h
facet_of-kept FacetWord.TotalDigits v h = number-kept 32 v Facet.total_digits (λ k q. q)
facet_of-kept FacetWord.FractionDigits v h = number-kept 32 v Facet.fraction_digits (λ k q. q)

pub empty_in_simple-kept : (t : Seen) (b : SimpleTypeBuilder) (n : ℕ) → SeenText t → SimpleOk b n → Gives (λ x. SimpleOk x n) Any (on_empty_in_simple_type t b)
unfolding on_empty_in_simple_type
empty_in_simple-kept t b n e o =
    let v = facet_value t in
    gives-if (tag_is t Word.Restriction) (value (base-set t b n e o))
    (gives-facet (facet_word t.word) v (with_facet b) b (λ w. facet_of-kept w v (facet_value-text t e)) (λ f h. facet-added b f n h o) o)

module _ (by_standard : Bool) where
  pub root_found-kept : (t : Seen) (r : Reader) (n : ℕ) → SeenText t → ReaderOk by_standard r n → ReaderOk by_standard (found_root t r) n
  unfolding found_root
  root_found-kept t r n e o = record { root = seen-root (found_root t r) refl; context = o.context; schema = namespace-set t r e o.schema }

  -- an empty tag in a simple type, and in a complex type
  pub empty_in_simple_type-kept : (m : ℕ) (t : Seen) (r : Reader) (n : ℕ) (b : SimpleTypeBuilder) → SeenText t → r.root_seen ≡ true → SimpleOk b n → schema_ok r.schema ≡ true
      → Gives (λ x. ReaderOk by_standard x n) Any (on_empty m t r (Context.in_simple_type b))
  unfolding on_empty
  empty_in_simple_type-kept m t r n b e h p k =
      gives-and_then (empty_in_simple-kept t b n e p) λ c q. value (context-set by_standard r _ n h (simple-whole by_standard c n q) k)

  pub empty_in_complex_type-kept : (m : ℕ) (t : Seen) (r : Reader) (n : ℕ) (b : ComplexTypeBuilder) → SeenText t → r.root_seen ≡ true → ComplexOk b n → schema_ok r.schema ≡ true
      → Gives (λ x. ReaderOk by_standard x n) Any (on_empty m t r (Context.in_complex_type b))
  unfolding on_empty with_content
  empty_in_complex_type-kept m t r n b e h p k =
      gives-and_then (empty_in_complex-kept t b.content e p.content) λ c q.
      value (context-set by_standard r _ n h (complex-whole by_standard _ n (record { tags = p.tags; name = p.name; content = q })) k)

  pub empty-kept : (m : ℕ) (t : Seen) (r : Reader) (n : ℕ) (x : Context) → r.context ≡ x → SeenText t → ReaderOk by_standard r n → Gives (λ x. ReaderOk by_standard x n) Any (on_empty m t r x)
  unfolding on_empty is_no_context
  empty-kept m t r n Context.no_context q e o = value (if-either (λ x. ReaderOk by_standard x n) (tag_is t Word.Schema) (root_found-kept t r n e o) o)
  empty-kept m t r n (Context.in_schema depth) q e o =
      value (if-either (λ x. ReaderOk by_standard x n) (eqb depth 0 && tag_is t Word.Element) (top_level-kept by_standard m t r n e (root-seen r (Context.in_schema depth) q refl o.root) o) o)
  empty-kept m t r n (Context.in_simple_type b) q e o =
      empty_in_simple_type-kept m t r n b e (root-seen r (Context.in_simple_type b) q refl o.root) (simple-parts by_standard b n (rw q at o.context)) o.schema
  empty-kept m t r n (Context.in_complex_type b) q e o =
      empty_in_complex_type-kept m t r n b e (root-seen r (Context.in_complex_type b) q refl o.root) (complex-parts by_standard b n (rw q at o.context)) o.schema
