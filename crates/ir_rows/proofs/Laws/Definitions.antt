-- The rows of a finished type are lowered to the rows of its definition, whatever finished items stand behind it. Child by child; the head's row says
-- the name. Assumes nothing.
use Rattle.std.specs.Prelude.{if◌then◌else◌}
use Prim.Native.Nat.{ℕ}
use mathlib.Core.Path.{◌≡◌, refl, sym, ap, ◌∙◌}
use mathlib.Core.Bool.{Bool, true, false, not, false≢true}
use mathlib.Core.List.{List, [], ◌∷◌, ◌++◌, map}
use mathlib.Core.Option.{Option, some, none, some-injective}
use native.Mathlib.Omega.{arith}
use lib.Dec.{eqb}
use Rattle.text.specs.Text.{Text, every, between}
use Rattle.text.proofs.Laws.Tests.{and-true-right}
use Rattle.names.specs.Names.{normalize_type_name}
use Rattle.builtin.specs.Builtin.{RustType, string, bool, decimal, date, date_time, map_builtin, reference}
use Rattle.sheet.specs.Rows.{Row, row}
use Rattle.xsd_types.specs.Types.{Facet, SimpleType, MaxOccurs, SequenceElement, ChoiceVariant, Attribute, ComplexContent, ComplexType, Item}
use Rattle.xsd_types.specs.State.{started, is_empty}
use Rattle.xsd_types.specs.Rows.{facet_row, occurs_row, element_row, simple_type_rows, complex_type_rows, item_rows, attribute_row, variant_row as choice_row}
use Rattle.xsd_types.specs.Good.{is_head}
use Rattle.xsd_types.specs.Back.{text0, text1}
use Rattle.xsd_types.proofs.Laws.Groups.{as_group}
use Rattle.xsd_types.proofs.Laws.Items.{name_back, element-no_head, variant-no_head, attribute-no_head}
use Rattle.ir_types.specs.Types.{TypeDef}
use Rattle.ir_types.specs.Rows.{ref_a, ref_text, variant_row, constraint_row, code_row, attr_row, type_rows, field_row as graph_field}
use Rattle.xsd_types.specs.Refused.{is_enumeration, all_enums, is_code_enum}
use Rattle.ir_lower.specs.Lower.{resolved, resolve_type_ref, codes, constraints, lower_newtype, lower_simple_type, lower_cardinality, lower_field, lower_variant, lower_attribute}
use Rattle.ir_lower.specs.Lower.{lower_content, lower_complex_type}
use Rattle.ir_lower.specs.Finished.{simple_name, complex_name}
use Rattle.ir_rows.specs.Lowered.{reference_texts, value_row, opaque_row, lowered_field_row, simple_row, code_rows, lowered_as, lowered_row, child_rows, type_rows_of}
use Rattle.xsd_types.proofs.Laws.Refused.{head_first, is_code_enum-facets}

-- ---- a reference: its number and its text

resolved-a : (u : Text) (o : Option RustType) → ref_a (resolved u o) ≡ reference o
unfolding ref_a resolved
resolved-a u none = refl
resolved-a u (some t) = refl

resolved-text : (u : Text) (o : Option RustType) → (if eqb (reference o) 0 then normalize_type_name u ∷ [] else []) ≡ ref_text (resolved u o)
unfolding ref_text resolved
resolved-text u none = refl
resolved-text u (some string) = refl
resolved-text u (some bool) = refl
resolved-text u (some decimal) = refl
resolved-text u (some date) = refl
resolved-text u (some date_time) = refl

module _ (u : Text) where
  pub reference-a : reference (map_builtin u) ≡ ref_a (resolve_type_ref u)
  unfolding resolve_type_ref
  reference-a = sym (resolved-a u (map_builtin u))

  pub reference-text : reference_texts u ≡ ref_text (resolve_type_ref u)
  unfolding resolve_type_ref reference_texts
  reference-text = resolved-text u (map_builtin u)

-- ---- children

child_rows-more : (code_enum : Bool) (more : List Row) → head_first more ≡ true → child_rows code_enum more ≡ []
unfolding child_rows head_first
child_rows-more code_enum [] h = refl
child_rows-more code_enum (r ∷ rs) h = rw h

-- children that are each lowered to a row
module _ {A B : Type 0} (code_enum : Bool) (f : A → Row) (lowered : A → B) (g : B → Row) (child : (x : A) → is_head (f x).tag ≡ false)
    (each : (x : A) → lowered_row code_enum (f x) ≡ g (lowered x) ∷ []) where
  pub child_rows-map : (xs : List A) (more : List Row) → head_first more ≡ true → child_rows code_enum (map f xs ++ more) ≡ map g (map lowered xs)
  unfolding child_rows
  child_rows-map [] more h = child_rows-more code_enum more h
  child_rows-map (x ∷ xs) more h = rw (child x, each x, child_rows-map xs more h)

-- a field, a variant, an attribute
module _ (code_enum : Bool) where
  occurs-row : (t u : Text) (min : ℕ) (max : MaxOccurs) → lowered_row code_enum (occurs_row t u min max) ≡ lowered_field_row (lower_cardinality min max) t u ∷ []
  unfolding lowered_row lowered_as occurs_row row text0 text1
  occurs-row t u min (MaxOccurs.bounded n) = refl
  occurs-row t u min MaxOccurs.unbounded = refl

  field_row_lem : (e : SequenceElement) → lowered_row code_enum (element_row e) ≡ graph_field (lower_field e) ∷ []
  unfolding element_row lowered_field_row lower_field graph_field
  field_row_lem e = occurs-row e.name e.type_name e.min_occurs e.max_occurs ∙ rw (reference-a e.type_name, reference-text e.type_name)

  variant-row : (v : ChoiceVariant) → lowered_row code_enum (choice_row v) ≡ variant_row (lower_variant v) ∷ []
  unfolding lowered_row lowered_as choice_row row text0 text1 lower_variant variant_row
  variant-row v = rw (reference-a v.type_name, reference-text v.type_name)

  attribute-row : (x : Attribute) → lowered_row code_enum (attribute_row x) ≡ attr_row (lower_attribute x) ∷ []
  unfolding lowered_row lowered_as attribute_row row text0 text1 lower_attribute attr_row
  attribute-row x = rw (reference-a x.type_name, reference-text x.type_name)

-- ---- complex types

content-rows : (event : ℕ) (name : Text) (c : ComplexContent) (more : List Row) → head_first more ≡ true
    → type_rows_of (complex_type_rows event name (started c) ++ more) ≡ type_rows (lower_content event (normalize_type_name name) c)
unfolding type_rows_of complex_type_rows started type_rows lower_content lowered_row lowered_as row text0 text1 value_row opaque_row
content-rows event name (ComplexContent.sequence es) more h = rw
    (child_rows-map (is_code_enum (map element_row es ++ more)) element_row lower_field graph_field element-no_head (field_row_lem _) es more h)
content-rows event name (ComplexContent.choice vs) more h = rw
    (child_rows-map (is_code_enum (map choice_row vs ++ more)) choice_row lower_variant variant_row variant-no_head (variant-row _) vs more h)
content-rows event name (ComplexContent.simple_content base xs) more h =
    rw (child_rows-map (is_code_enum (map attribute_row xs ++ more)) attribute_row lower_attribute attr_row attribute-no_head (attribute-row _) xs more h, reference-a base, reference-text base)
content-rows event name (ComplexContent.any none) more h = rw (child_rows-more (is_code_enum more) more h)
content-rows event name (ComplexContent.any (some n)) more h = rw (child_rows-more (is_code_enum more) more h)

pub complex-rows : (t : ComplexType) (more : List Row) → head_first more ≡ true → type_rows_of (item_rows (Item.complex_type t) ++ more) ≡ type_rows (lower_complex_type t)
unfolding item_rows lower_complex_type
complex-rows t more h = content-rows t.event t.name t.content more h

-- ---- simple types

codes-rows : (fs : List Facet) (more : List Row) → every is_enumeration fs ≡ true → head_first more ≡ true → child_rows true (map facet_row fs ++ more) ≡ map code_row (codes fs)
unfolding child_rows every is_enumeration facet_row codes code_row code_rows lowered_row lowered_as row text0 is_head between
codes-rows [] more e h = child_rows-more true more h
codes-rows (Facet.enumeration v ∷ fs) more e h = rw (codes-rows fs more e h)
codes-rows (Facet.pattern v ∷ fs) more e h = absurd (false≢true e)
codes-rows (Facet.min_length n ∷ fs) more e h = absurd (false≢true e)
codes-rows (Facet.max_length n ∷ fs) more e h = absurd (false≢true e)
codes-rows (Facet.min_inclusive v ∷ fs) more e h = absurd (false≢true e)
codes-rows (Facet.max_inclusive v ∷ fs) more e h = absurd (false≢true e)
codes-rows (Facet.total_digits n ∷ fs) more e h = absurd (false≢true e)
codes-rows (Facet.fraction_digits n ∷ fs) more e h = absurd (false≢true e)

constraints-rows : (fs : List Facet) (more : List Row) → head_first more ≡ true → child_rows false (map facet_row fs ++ more) ≡ map constraint_row (constraints fs)
unfolding child_rows facet_row constraints constraint_row code_rows lowered_row lowered_as row text0 is_head between
constraints-rows [] more h = child_rows-more false more h
constraints-rows (Facet.enumeration v ∷ fs) more h = constraints-rows fs more h
constraints-rows (Facet.pattern v ∷ fs) more h = rw (constraints-rows fs more h)
constraints-rows (Facet.min_length n ∷ fs) more h = rw (constraints-rows fs more h)
constraints-rows (Facet.max_length n ∷ fs) more h = rw (constraints-rows fs more h)
constraints-rows (Facet.min_inclusive v ∷ fs) more h = rw (constraints-rows fs more h)
constraints-rows (Facet.max_inclusive v ∷ fs) more h = rw (constraints-rows fs more h)
constraints-rows (Facet.total_digits n ∷ fs) more h = rw (constraints-rows fs more h)
constraints-rows (Facet.fraction_digits n ∷ fs) more h = rw (constraints-rows fs more h)

module _ (t : SimpleType) (more : List Row) (h : head_first more ≡ true) where
  simple-as : (b : Bool) → all_enums t.facets ≡ b → type_rows_of (item_rows (Item.simple_type t) ++ more) ≡ simple_row b t.event t.name t.base ∷ child_rows b (map facet_row t.facets ++ more)
  unfolding type_rows_of item_rows simple_type_rows lowered_row lowered_as row text0 text1
  simple-as b e = rw (is_code_enum-facets t.facets more h, e)

  code-enum : all_enums t.facets ≡ true → type_rows_of (item_rows (Item.simple_type t) ++ more) ≡ type_rows (TypeDef.code_enum t.event (normalize_type_name t.name) (codes t.facets))
  unfolding type_rows simple_row all_enums
  code-enum e = simple-as true e ∙ rw (codes-rows t.facets more (and-true-right (not (is_empty t.facets)) _ e) h)

  newtype-rows : (o : Option RustType) (d : TypeDef) → map_builtin t.base ≡ o → all_enums t.facets ≡ false → lower_newtype t o ≡ some d
      → type_rows_of (item_rows (Item.simple_type t) ++ more) ≡ type_rows d
  unfolding lower_newtype type_rows simple_row
  newtype-rows none d q e k = let z : ◌≡◌ {A = ℕ} 0 1 = cc in absurd (omega arith)
  newtype-rows (some inner) d q e k =
      let is = some-injective _ _ k in
      simple-as false e ∙ rw (← is, q, constraints-rows t.facets more h)

  pub simple-rows : (d : TypeDef) → lower_simple_type t ≡ some d → type_rows_of (item_rows (Item.simple_type t) ++ more) ≡ type_rows d
  unfolding lower_simple_type
  simple-rows d k =
      (elim (all_enums t.facets)
      as (λ b. all_enums t.facets ≡ b
      → (if b then some (TypeDef.code_enum t.event (normalize_type_name t.name) (codes t.facets)) else lower_newtype t (map_builtin t.base)) ≡ some d
      → type_rows_of (item_rows (Item.simple_type t) ++ more) ≡ type_rows d) [
        | true ↦ λ e w. code-enum e ∙ ap type_rows (some-injective _ _ w)
        | false ↦ λ e w. newtype-rows (map_builtin t.base) d refl e w
      ]) refl k

-- ---- the names, by the head's row

pub simple-head-name : (t : SimpleType) → normalize_type_name (text0 (as_group (item_rows (Item.simple_type t))).head) ≡ simple_name t
unfolding as_group item_rows simple_type_rows row text0 simple_name
simple-head-name t = refl

pub complex-head-name : (t : ComplexType) → normalize_type_name (text0 (as_group (item_rows (Item.complex_type t))).head) ≡ complex_name t
unfolding item_rows complex_name
complex-head-name t = ap normalize_type_name (name_back t.event t.name (started t.content))
