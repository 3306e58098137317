-- A graph is read back from its sheet: the rows come back from numbers and names, and a head behind which its own children stand takes just these. Assumes nothing.
use Prim.Native.Nat.{ℕ, ◌-◌, ◌^◌}
use native.Mathlib.Nat.{div-add-mod'}
use mathlib.Core.Path.{◌≡◌, refl, ap, ◌∙◌}
use mathlib.Core.Bool.{Bool, true, false}
use mathlib.Core.List.{List, [], ◌∷◌, ◌++◌, map}
use mathlib.Core.Option.{some, none}
use lib.Dec.{eqb}
use lib.ListN.{length, replicate}
use Rattle.text.specs.Text.{Text, between}
use Rattle.builtin.specs.Builtin.{RustType, rust_type_number}
use Rattle.sheet.specs.Rows.{Row, row, bit, pack, names_of, unpack_row, filled, sheet_of_rows}
use Rattle.sheet.specs.Form.{tens_of}
use Rattle.sheet.proofs.Laws.Packs.{rows_back}
use Rattle.ir_types.specs.Types.{TypeRef, Cardinality, FieldDef, VariantDef, Constraint, CodeValue, AttrDef, TypeDef, RootElement, TypeGraph}
use Rattle.ir_types.specs.Rows.{ref_a, ref_text, cardinality_b, cardinality_c, field_row, variant_row, constraint_row, code_row, attr_row, type_rows, types_rows, root_row, rows_of}
use Rattle.ir_types.specs.Sheet.{graph_sheet}
use Rattle.ir_types.specs.Form.{used_pairs}
use Rattle.ir_types.specs.Ok.{graph_ok}
use Rattle.ir_types.specs.Back.{text, rust_type_of, ref_of, cardinality_of, field_of, variant_of, code_of, attr_of, constraint_of, type_of, Behind, with_row, types_back}
use Rattle.ir_types.specs.Back.{root_of, roots_back, graph_of_rows, graph_back}
use Rattle.ir_types.proofs.Laws.GraphForm.{sheet-tens, rows-use}

-- ---- children

type-back : (t : RustType) → rust_type_of (rust_type_number t) ≡ t
unfolding rust_type_of
type-back RustType.string = refl
type-back RustType.bool = refl
type-back RustType.decimal = refl
type-back RustType.date = refl
type-back RustType.date_time = refl

ref-second : (tag b c : ℕ) (n : Text) (v : TypeRef) → ref_of 1 (row tag (n ∷ ref_text v) (ref_a v) b c) ≡ v
unfolding ref_of rust_type_of text row ref_text ref_a
ref-second tag b c n (TypeRef.named m) = refl
ref-second tag b c n (TypeRef.builtin RustType.string) = refl
ref-second tag b c n (TypeRef.builtin RustType.bool) = refl
ref-second tag b c n (TypeRef.builtin RustType.decimal) = refl
ref-second tag b c n (TypeRef.builtin RustType.date) = refl
ref-second tag b c n (TypeRef.builtin RustType.date_time) = refl

ref-third : (tag b c : ℕ) (t u : Text) (v : TypeRef) → ref_of 2 (row tag (t ∷ u ∷ ref_text v) (ref_a v) b c) ≡ v
unfolding ref_of text row ref_text ref_a
ref-third tag b c t u v = ref-second tag b c u v

cardinality-back : (c : Cardinality) → cardinality_of (cardinality_b c) (cardinality_c c) ≡ c
unfolding cardinality_of cardinality_b cardinality_c
cardinality-back Cardinality.required = refl
cardinality-back Cardinality.optional = refl
cardinality-back Cardinality.vec = refl
cardinality-back (Cardinality.bounded_vec n) = refl

field_back : (f : FieldDef) → field_of (field_row f) ≡ f
unfolding field_of field_row text row
field_back f =
    let r = ref-third 9 (cardinality_b f.cardinality) (cardinality_c f.cardinality) f.xml_name f.rust_name f.type_ref in
    λ i. record { xml_name = f.xml_name; rust_name = f.rust_name; type_ref = r i; cardinality = cardinality-back f.cardinality i }

variant_back : (v : VariantDef) → variant_of (variant_row v) ≡ v
unfolding variant_of variant_row text row
variant_back v = λ i. record { xml_name = v.xml_name; rust_name = v.rust_name; type_ref = ref-third 10 0 0 v.xml_name v.rust_name v.type_ref i }

code-back : (v : CodeValue) → code_of (code_row v) ≡ v
unfolding code_of code_row text row
code-back v = refl

bit-back : (b : Bool) → eqb (bit b) 1 ≡ b
unfolding bit
bit-back true = refl
bit-back false = refl

attr-back : (x : AttrDef) → attr_of (attr_row x) ≡ x
unfolding attr_of attr_row text row
attr-back x =
    let r = ref-third 19 (bit x.required) 0 x.xml_name x.rust_name x.type_ref in
    λ i. record { xml_name = x.xml_name; rust_name = x.rust_name; type_ref = r i; required = bit-back x.required i }

constraint-back : (c : Constraint) → constraint_of (constraint_row c) ≡ c
unfolding constraint_of constraint_row text row
constraint-back (Constraint.pattern v) = refl
constraint-back (Constraint.min_length n) = ap Constraint.min_length (div-add-mod' n (2 ^ 32))
constraint-back (Constraint.max_length n) = ap Constraint.max_length (div-add-mod' n (2 ^ 32))
constraint-back (Constraint.min_inclusive v) = refl
constraint-back (Constraint.max_inclusive v) = refl
constraint-back (Constraint.total_digits n) = refl
constraint-back (Constraint.fraction_digits n) = refl

map_back : {A : Type 0} (f : A → Row) (g : Row → A) → ((x : A) → g (f x) ≡ x) → (xs : List A) → map g (map f xs) ≡ xs
map_back f g h [] = refl
map_back f g h (x ∷ xs) = rw (h x, map_back f g h xs)

-- ---- a head and its children, in front of rows of which no child is left

Taken : List Row → List TypeDef → Type 0
Taken rs ds = types_back rs ≡ record { children = []; types = ds }

children-wait : {A : Type 0} (f : A → Row) → ((x : A) → between 3 8 (f x).tag ≡ false) → (xs : List A) (rs : List Row) (ds : List TypeDef) → Taken rs ds
    → types_back (map f xs ++ rs) ≡ record { children = map f xs; types = ds }
unfolding types_back with_row Taken
children-wait f h [] rs ds t = t
children-wait f h (x ∷ xs) rs ds t = rw (children-wait f h xs rs ds t, h x)

head-takes : (r : Row) (cs rs : List Row) (ds : List TypeDef) → between 3 8 r.tag ≡ true → types_back (cs ++ rs) ≡ record { children = cs; types = ds } → Taken (r ∷ (cs ++ rs)) (type_of r cs ∷ ds)
unfolding types_back with_row Taken
head-takes r cs rs ds h t = rw (t, h)

constraint-tag : (c : Constraint) → between 3 8 (constraint_row c).tag ≡ false
unfolding constraint_row row between
constraint-tag (Constraint.pattern v) = refl
constraint-tag (Constraint.min_length n) = refl
constraint-tag (Constraint.max_length n) = refl
constraint-tag (Constraint.min_inclusive v) = refl
constraint-tag (Constraint.max_inclusive v) = refl
constraint-tag (Constraint.total_digits n) = refl
constraint-tag (Constraint.fraction_digits n) = refl

module _ (rs : List Row) (ds : List TypeDef) (t : Taken rs ds) where
  as-type : (r : Row) (cs : List Row) (d : TypeDef) → type_of r cs ≡ d → Taken (r ∷ (cs ++ rs)) (type_of r cs ∷ ds) → Taken (r ∷ (cs ++ rs)) (d ∷ ds)
  as-type r cs d e h = rw e at h

  with-children : {A : Type 0} (f : A → Row) → ((x : A) → between 3 8 (f x).tag ≡ false) → (r : Row) (xs : List A) (d : TypeDef) → between 3 8 r.tag ≡ true → type_of r (map f xs) ≡ d
      → Taken (r ∷ (map f xs ++ rs)) (d ∷ ds)
  with-children f c r xs d h e = as-type r (map f xs) d e (head-takes r (map f xs) rs ds h (children-wait f c xs rs ds t))

  type-taken : (d : TypeDef) → Taken (type_rows d ++ rs) (d ∷ ds)
  unfolding type_rows type_of text row between field_row variant_row code_row attr_row Taken
  type-taken (TypeDef.struct e n fs) = with-children field_row (λ f. refl) _ fs _ refl (ap (TypeDef.struct e n) (map_back field_row field_of field_back fs))
  type-taken (TypeDef.enum e n vs) = with-children variant_row (λ v. refl) _ vs _ refl (ap (TypeDef.enum e n) (map_back variant_row variant_of variant_back vs))
  type-taken (TypeDef.newtype e n i cs) =
      with-children constraint_row constraint-tag _ cs _ refl
      (ap (λ (x : RustType). TypeDef.newtype e n x (map constraint_of (map constraint_row cs))) (type-back i) ∙ ap (TypeDef.newtype e n i) (map_back constraint_row constraint_of constraint-back cs))
  type-taken (TypeDef.code_enum e n cs) = with-children code_row (λ c. refl) _ cs _ refl (ap (TypeDef.code_enum e n) (map_back code_row code_of code-back cs))
  type-taken (TypeDef.value_with_attr e n v xs) =
      with-children attr_row (λ x. refl) _ xs _ refl
      (ap (λ (w : TypeRef). TypeDef.value_with_attr e n w (map attr_of (map attr_row xs))) (ref-second 7 0 e n v) ∙ ap (TypeDef.value_with_attr e n v) (map_back attr_row attr_of attr-back xs))
  type-taken (TypeDef.opaque e n none) = as-type _ [] _ refl (head-takes _ [] rs ds refl t)
  type-taken (TypeDef.opaque e n (some ns)) = as-type _ [] _ refl (head-takes _ [] rs ds refl t)

types-taken : (ds : List TypeDef) → Taken (types_rows ds) ds
unfolding types_rows Taken types_back
types-taken [] = refl
types-taken (d ∷ ds) = type-taken (types_rows ds) ds (types-taken ds) d

-- ---- the roots, and the graph

no-roots : {A : Type 0} (f : A → Row) → ((x : A) → eqb (f x).tag 2 ≡ false) → (xs : List A) (rs : List Row) → roots_back (map f xs ++ rs) ≡ roots_back rs
unfolding roots_back
no-roots f h [] rs = refl
no-roots f h (x ∷ xs) rs = rw (h x) (no-roots f h xs rs)

constraint-no-root : (c : Constraint) → eqb (constraint_row c).tag 2 ≡ false
unfolding constraint_row row
constraint-no-root (Constraint.pattern v) = refl
constraint-no-root (Constraint.min_length n) = refl
constraint-no-root (Constraint.max_length n) = refl
constraint-no-root (Constraint.min_inclusive v) = refl
constraint-no-root (Constraint.max_inclusive v) = refl
constraint-no-root (Constraint.total_digits n) = refl
constraint-no-root (Constraint.fraction_digits n) = refl

type-no-root : (d : TypeDef) (rs : List Row) → roots_back (type_rows d ++ rs) ≡ roots_back rs
unfolding type_rows roots_back row field_row variant_row code_row attr_row
type-no-root (TypeDef.struct e n fs) rs = no-roots field_row (λ f. refl) fs rs
type-no-root (TypeDef.enum e n vs) rs = no-roots variant_row (λ v. refl) vs rs
type-no-root (TypeDef.newtype e n i cs) rs = no-roots constraint_row constraint-no-root cs rs
type-no-root (TypeDef.code_enum e n cs) rs = no-roots code_row (λ c. refl) cs rs
type-no-root (TypeDef.value_with_attr e n v xs) rs = no-roots attr_row (λ x. refl) xs rs
type-no-root (TypeDef.opaque e n none) rs = refl
type-no-root (TypeDef.opaque e n (some ns)) rs = refl

types-no-root : (ds : List TypeDef) → roots_back (types_rows ds) ≡ []
unfolding types_rows roots_back
types-no-root [] = refl
types-no-root (d ∷ ds) = type-no-root d (types_rows ds) ∙ types-no-root ds

roots-back : (es : List RootElement) (ds : List TypeDef) → roots_back (map root_row es ++ types_rows ds) ≡ es
unfolding roots_back root_row root_of text row
roots-back [] ds = types-no-root ds
roots-back (e ∷ es) ds = ap (λ (l : List RootElement). e ∷ l) (roots-back es ds)

roots-wait : (es : List RootElement) (ds : List TypeDef) → (types_back (map root_row es ++ types_rows ds)).types ≡ ds
unfolding root_row row between
roots-wait es ds = ap (λ (b : Behind). b.types) (children-wait root_row (λ e. refl) es (types_rows ds) ds (types-taken ds))

graph-of-rows : (g : TypeGraph) → graph_of_rows (rows_of g) ≡ g
unfolding graph_of_rows rows_of text row
graph-of-rows g = λ i. record { namespace = g.namespace; root_elements = roots-back g.root_elements g.types i; types = roots-wait g.root_elements g.types i }

rows_in : (g : TypeGraph) (r n : ℕ) → graph_ok g ≡ true → map (unpack_row used_pairs (graph_sheet g r n).names) (pack 0 (rows_of g)) ≡ rows_of g
unfolding graph_sheet sheet_of_rows filled
rows_in g r n h = rows_back used_pairs (graph_sheet g r n).names 0 (rows_of g) (replicate (n - length (names_of (rows_of g))) 0) (rows-use g h) refl

pub graph-back : (g : TypeGraph) (r n : ℕ) → graph_ok g ≡ true → graph_back (graph_sheet g r n) ≡ g
unfolding graph_back
graph-back g r n h = rw (sheet-tens g r n) (ap graph_of_rows (rows_in g r n h) ∙ graph-of-rows g)

-- the rows of a graph sheet, and the definitions that they hold
pub sheet-rows : (g : TypeGraph) (r n : ℕ) → graph_ok g ≡ true → map (unpack_row used_pairs (graph_sheet g r n).names) (tens_of (graph_sheet g r n)) ≡ rows_of g
sheet-rows g r n h = rw (sheet-tens g r n) (rows_in g r n h)

pub rows-types : (g : TypeGraph) → (types_back (rows_of g)).types ≡ g.types
unfolding types_back with_row rows_of row between
rows-types g = roots-wait g.root_elements g.types
