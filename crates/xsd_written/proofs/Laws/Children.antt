-- What the reader does at each tag of a written type: facets, elements, variants and attributes are kept as they were. Assumes nothing.
--     reader        a reader in a context, the root seen
use Prim.Native.Nat.{ℕ, ◌^◌, ◌<◌}
use native.Mathlib.Omega.{arith}
use mathlib.Core.Path.{◌≡◌, refl, sym}
use mathlib.Core.Bool.{Bool, true, false, false≢true}
use mathlib.Core.List.{List, [], ◌∷◌, ◌++◌, append-nil}
use lib.Dec.{ltb}
use borrow.Author.Tests.{ltb-true, ne_eqb}
use Rattle.text.specs.Text.{Text, bytes, every, is, same, is_digit, is_text}
use Rattle.text.specs.Unfold.{computes as texts}
use Rattle.text.proofs.Laws.Tests.{four}
use Rattle.text.proofs.Laws.Every.{every-head}
use Rattle.text.proofs.Laws.Trim.{around-trimmed}
use Rattle.number.specs.Number.{is_numeral, plain_number}
use Rattle.number.proofs.Laws.Numbers.{digit-within}
use Rattle.number.proofs.Laws.Spellings.{plain-solid}
use Rattle.xsd_types.specs.Types.{Facet, MaxOccurs, SequenceElement, ChoiceVariant, Attribute, Schema}
use Rattle.xsd_types.specs.State.{ComplexContentBuilder, Context, Reader, facet_ok, max_occurs_ok, sequence_element_ok}
use Rattle.xsd_parser.specs.Handlers.{ok, is_unbounded}
use Rattle.xsd_parser.specs.Step.{handled}
use Rattle.xsd_parser.specs.Unfold.{computes as parses}
use Rattle.xsd_written.specs.Decimal.{decimal}
use Rattle.xsd_written.specs.Schema.{attr, prefixed, prefixed_tag, valued, facet_markup, element_markup, variant_markup, attribute_markup}
use Rattle.xsd_written.specs.Reads.{event_of_markup}
use Rattle.xsd_written.proofs.Laws.Decimals.{decimal-digits, decimal-plain, decimal-number}
use Rattle.xsd_written.proofs.Laws.Held.{wide, narrow}

-- ---- digits are no `unbounded`

no_word : (d : Text) → is_numeral d ≡ true → is d "unbounded" ≡ false
unfolding is_numeral is same bytes
no_word [] h = absurd (false≢true h)
no_word (b ∷ d) h = let (low, high) = digit-within b (every-head is_digit b d h) in rw (ne_eqb b 117 (λ e. omega arith))

decimal-numeral : (n : ℕ) → n < 10 ^ 20 → is_numeral (decimal n) ≡ true
unfolding decimal
decimal-numeral n k = decimal-digits 19 n k

bounded-read : (n : ℕ) → ltb n (2 ^ 32) ≡ true → is_unbounded (decimal n) ≡ false
unfolding is_unbounded plain_number every
bounded-read n h =
    let k = narrow n h in
    let solid = plain-solid (2 ^ 32) (decimal n) n (decimal-plain 32 n (ltb-true n (2 ^ 32) h) k) in
    let t = around-trimmed (decimal n) (decimal n) solid ([], [], refl, refl, sym (append-nil (decimal n))) in
    rw t (no_word (decimal n) (decimal-numeral n k))

-- ---- children

abbrev pub reader : Schema → Context → Reader
reader z c = record { schema = z; root_seen = true; context = c }

abbrev pub simple : Text → Text → ℕ → ℕ → List Facet → Context
simple n b depth event fs = Context.in_simple_type (record { head = record { name = n; event = event }; base = b; facets = fs; nesting_depth = depth })

abbrev pub complex : Text → ℕ → ℕ → ComplexContentBuilder → Context
complex n depth event c = Context.in_complex_type (record { head = record { name = n; event = event }; content = c; nesting_depth = depth })

module _ (by_standard : Bool) (k : ℕ) (z : Schema) (n : Text) (depth event : ℕ) where
  pub facet-read : (b : Text) (fs : List Facet) (f : Facet) → facet_ok f ≡ true
      → handled by_standard k (event_of_markup (facet_markup f)) (reader z (simple n b depth event fs)) ≡ ok (reader z (simple n b depth event (fs ++ f ∷ [])))
  unfolding texts parses facet_markup valued attr prefixed_tag prefixed facet_ok
  facet-read b fs (Facet.enumeration v) h = refl
  facet-read b fs (Facet.pattern v) h = refl
  facet-read b fs (Facet.min_length m) h = rw (decimal-number 64 m (ltb-true m (2 ^ 64) h) (wide m h))
  facet-read b fs (Facet.max_length m) h = rw (decimal-number 64 m (ltb-true m (2 ^ 64) h) (wide m h))
  facet-read b fs (Facet.min_inclusive v) h = refl
  facet-read b fs (Facet.max_inclusive v) h = refl
  facet-read b fs (Facet.total_digits m) h = rw (decimal-number 32 m (ltb-true m (2 ^ 32) h) (narrow m h))
  facet-read b fs (Facet.fraction_digits m) h = rw (decimal-number 32 m (ltb-true m (2 ^ 32) h) (narrow m h))

  pub variant-read : (vs : List ChoiceVariant) (v : ChoiceVariant)
      → handled by_standard k (event_of_markup (variant_markup v)) (reader z (complex n depth event (ComplexContentBuilder.choice vs)))
      ≡ ok (reader z (complex n depth event (ComplexContentBuilder.choice (vs ++ v ∷ []))))
  unfolding texts parses variant_markup attr prefixed_tag prefixed
  variant-read vs v = refl

  occurs-read : (es : List SequenceElement) (m t : Text) (low : ℕ) (high : MaxOccurs) → ltb low (2 ^ 32) ≡ true → max_occurs_ok high ≡ true
      → handled by_standard k (event_of_markup (element_markup (record {
        name = m;
        type_name = t;
        min_occurs = low;
        max_occurs =
            high;
      }))) (reader z (complex n depth event (ComplexContentBuilder.sequence es)))
      ≡ ok (reader z (complex n depth event (ComplexContentBuilder.sequence (es ++ record { name = m; type_name = t; min_occurs = low; max_occurs = high } ∷ []))))
  unfolding texts parses element_markup attr prefixed_tag prefixed max_occurs_ok
  occurs-read es m t low (MaxOccurs.bounded high) a b =
      rw (decimal-number 32 low (ltb-true low (2 ^ 32) a) (narrow low a), bounded-read high b, decimal-number 32 high (ltb-true high (2 ^ 32) b) (narrow high b))
  occurs-read es m t low MaxOccurs.unbounded a b = rw (decimal-number 32 low (ltb-true low (2 ^ 32) a) (narrow low a))

  pub element-read : (es : List SequenceElement) (e : SequenceElement) → sequence_element_ok e ≡ true
      → handled by_standard k (event_of_markup (element_markup e)) (reader z (complex n depth event (ComplexContentBuilder.sequence es)))
      ≡ ok (reader z (complex n depth event (ComplexContentBuilder.sequence (es ++ e ∷ []))))
  unfolding sequence_element_ok
  element-read es e h =
      let (a, b, c, d) = four (is_text e.name) (is_text e.type_name) (ltb e.min_occurs (2 ^ 32)) (max_occurs_ok e.max_occurs) h in
      occurs-read es e.name e.type_name e.min_occurs e.max_occurs c d

  use-read : (base : Text) (xs : List Attribute) (m t : Text) (required : Bool)
      → handled by_standard k (event_of_markup (attribute_markup (record {
        name = m;
        type_name = t;
        required =
            required;
      }))) (reader z (complex n depth event (ComplexContentBuilder.simple_content base xs true)))
      ≡ ok (reader z (complex n depth event (ComplexContentBuilder.simple_content base (xs ++ record { name = m; type_name = t; required = required } ∷ []) true)))
  unfolding texts parses attribute_markup attr prefixed_tag prefixed
  use-read base xs m t true = refl
  use-read base xs m t false = refl

  pub attribute-read : (base : Text) (xs : List Attribute) (x : Attribute)
      → handled by_standard k (event_of_markup (attribute_markup x)) (reader z (complex n depth event (ComplexContentBuilder.simple_content base xs true)))
      ≡ ok (reader z (complex n depth event (ComplexContentBuilder.simple_content base (xs ++ x ∷ []) true)))
  attribute-read base xs x = use-read base xs x.name x.type_name x.required
