-- The rows of a graph whose texts and numbers are within their widths are rows that the form allows. Assumes nothing.
use Rattle.std.specs.Prelude.{if◌then◌else◌}
use Prim.Native.Nat.{ℕ, ◌<◌, ◌%◌, ◌/◌, ◌^◌}
use mathlib.Core.Path.{◌≡◌, refl}
use mathlib.Core.Bool.{Bool, true, false, ◌&&◌}
use mathlib.Core.List.{List, [], ◌∷◌, map}
use mathlib.Core.Option.{some, none}
use native.Mathlib.Omega.{arith}
use lib.Dec.{eqb, leb, ltb}
use borrow.Author.Tests.{ltb-true, lt-ltb, leb-true, le-leb}
use Rattle.text.specs.Text.{Text, every, is_graph_text, between}
use Rattle.builtin.specs.Builtin.{RustType, rust_type_number}
use Rattle.sheet.specs.Rows.{Row, row, bit}
use Rattle.sheet.specs.Form.{is_flag, texts_counted}
use Rattle.ir_types.specs.Types.{TypeRef, Cardinality, FieldDef, VariantDef, Constraint, CodeValue, AttrDef, TypeDef, RootElement}
use Rattle.ir_types.specs.Rows.{ref_a, ref_text, cardinality_b, cardinality_c, field_row, variant_row, constraint_row, code_row, attr_row, type_rows, types_rows, root_row}
use Rattle.ir_types.specs.Form.{used_pairs, form_a, form_b, form_c}
use Rattle.ir_types.specs.Ok.{ref_ok, cardinality_ok, field_ok, variant_ok, constraint_ok, code_ok, attr_ok, type_ok, root_ok, row_form, is_small, row_small, row_ok}
use Rattle.std.proofs.lemmas.Bool.{and_parts}
use Rattle.text.proofs.Laws.Tests.{three, and-true-left, and-true-right, and-true}
use Rattle.text.proofs.Laws.Every.{every-append-true, every_map}

row-ok : (r : Row) → texts_counted used_pairs r ≡ true → row_form r ≡ true → row_small r ≡ true → every is_graph_text r.texts ≡ true → row_ok r ≡ true
unfolding row_ok
row-ok r u f s t = rw (u, f, s, t)

pub small : (n : ℕ) → n < 2 ^ 32 → is_small n ≡ true
unfolding is_small
small n h = lt-ltb n (2 ^ 32) h

-- ---- references

texts-of-reference : (t : TypeRef) → ref_ok t ≡ true → every is_graph_text (ref_text t) ≡ true
unfolding ref_ok ref_text every
texts-of-reference (TypeRef.named n) h = rw h
texts-of-reference (TypeRef.builtin r) h = refl

three-texts : (x y : Text) (t : TypeRef) → is_graph_text x ≡ true → is_graph_text y ≡ true → ref_ok t ≡ true → every is_graph_text (x ∷ y ∷ ref_text t) ≡ true
unfolding every
three-texts x y t h k r = rw (h, k, texts-of-reference t r)

two-texts : (x y : Text) → is_graph_text x ≡ true → is_graph_text y ≡ true → every is_graph_text (x ∷ y ∷ []) ≡ true
unfolding every
two-texts x y h k = rw (h, k)

one-text : (x : Text) → is_graph_text x ≡ true → every is_graph_text (x ∷ []) ≡ true
unfolding every
one-text x h = rw h

reference-small : (t : TypeRef) → leb (ref_a t) 5 ≡ true
unfolding ref_a
reference-small (TypeRef.named n) = refl
reference-small (TypeRef.builtin RustType.string) = refl
reference-small (TypeRef.builtin RustType.bool) = refl
reference-small (TypeRef.builtin RustType.decimal) = refl
reference-small (TypeRef.builtin RustType.date) = refl
reference-small (TypeRef.builtin RustType.date_time) = refl

reference-width : (t : TypeRef) → is_small (ref_a t) ≡ true
reference-width t = small (ref_a t) (let h = leb-true (ref_a t) 5 (reference-small t) in omega arith)

-- a row of two texts and a reference, where the tag uses two pairs or, with a named reference, three
reference-uses : (tag b c : ℕ) (x y : Text) (t : TypeRef) → used_pairs tag (ref_a t) ≡ (if eqb (ref_a t) 0 then 3 else 2)
    → texts_counted used_pairs (row tag (x ∷ y ∷ ref_text t) (ref_a t) b c) ≡ true
unfolding texts_counted row ref_a ref_text
reference-uses tag b c x y (TypeRef.named n) e = rw e
reference-uses tag b c x y (TypeRef.builtin RustType.string) e = rw e
reference-uses tag b c x y (TypeRef.builtin RustType.bool) e = rw e
reference-uses tag b c x y (TypeRef.builtin RustType.decimal) e = rw e
reference-uses tag b c x y (TypeRef.builtin RustType.date) e = rw e
reference-uses tag b c x y (TypeRef.builtin RustType.date_time) e = rw e

-- ---- rows of children

cardinality-b : (c : Cardinality) → leb (cardinality_b c) 3 ≡ true
unfolding cardinality_b
cardinality-b Cardinality.required = refl
cardinality-b Cardinality.optional = refl
cardinality-b Cardinality.vec = refl
cardinality-b (Cardinality.bounded_vec n) = refl

cardinality-c : (c : Cardinality) → cardinality_ok c ≡ true → form_c 9 (cardinality_b c) (cardinality_c c) ≡ true
unfolding cardinality_ok cardinality_b cardinality_c form_c between
cardinality-c Cardinality.required h = refl
cardinality-c Cardinality.optional h = refl
cardinality-c Cardinality.vec h = refl
cardinality-c (Cardinality.bounded_vec n) h = le-leb 2 n (ltb-true 1 n (and-true-left (ltb 1 n) (ltb n (2 ^ 32)) h))

cardinality-width : (c : Cardinality) → cardinality_ok c ≡ true → is_small (cardinality_b c) && is_small (cardinality_c c) ≡ true
unfolding cardinality_ok cardinality_b cardinality_c is_small
cardinality-width Cardinality.required h = refl
cardinality-width Cardinality.optional h = refl
cardinality-width Cardinality.vec h = refl
cardinality-width (Cardinality.bounded_vec n) h = and-true-right (ltb 1 n) (ltb n (2 ^ 32)) h

-- a row of two texts and a reference: its numbers, and all of it
reference-row-small : (tag b c : ℕ) (x y : Text) (t : TypeRef) → is_small tag ≡ true → is_small b && is_small c ≡ true → row_small (row tag (x ∷ y ∷ ref_text t) (ref_a t) b c) ≡ true
unfolding row_small row
reference-row-small tag b c x y t h k = rw (h, reference-width t) k

reference-row-ok : (tag b c : ℕ) (x y : Text) (t : TypeRef) → used_pairs tag (ref_a t) ≡ (if eqb (ref_a t) 0 then 3 else 2) → row_form (row tag (x ∷ y ∷ ref_text t) (ref_a t) b c) ≡ true
    → is_small tag ≡ true → is_small b && is_small c ≡ true → is_graph_text x && is_graph_text y && ref_ok t ≡ true → row_ok (row tag (x ∷ y ∷ ref_text t) (ref_a t) b c) ≡ true
unfolding row
reference-row-ok tag b c x y t u f s w h =
    let q : is_graph_text x && is_graph_text y ≡ true = and-true-left (is_graph_text x && is_graph_text y) (ref_ok t) h in
    row-ok _ (reference-uses tag b c x y t u) f (reference-row-small tag b c x y t s w)
    (three-texts x y t (and-true-left (is_graph_text x) (is_graph_text y) q) (and-true-right (is_graph_text x) (is_graph_text y) q) (and-true-right (is_graph_text x && is_graph_text y) (ref_ok t) h))

field-form : (f : FieldDef) → cardinality_ok f.cardinality ≡ true → row_form (field_row f) ≡ true
unfolding row_form field_row row form_a form_b between
field-form f h = rw (reference-small f.type_ref, cardinality-b f.cardinality) (cardinality-c f.cardinality h)

field-ok : (f : FieldDef) → field_ok f ≡ true → row_ok (field_row f) ≡ true
unfolding field_ok field_row used_pairs between
field-ok f h =
    let t = is_graph_text f.xml_name && is_graph_text f.rust_name && ref_ok f.type_ref in
    let c : cardinality_ok f.cardinality ≡ true = and-true-right t (cardinality_ok f.cardinality) h in
    reference-row-ok 9 (cardinality_b f.cardinality) (cardinality_c f.cardinality) f.xml_name f.rust_name f.type_ref refl
    (field-form f c) (small 9 (omega arith)) (cardinality-width f.cardinality c) (and-true-left t (cardinality_ok f.cardinality) h)

variant_ok_lem : (v : VariantDef) → variant_ok v ≡ true → row_ok (variant_row v) ≡ true
unfolding variant_ok variant_row row used_pairs between row_form form_a form_b form_c is_small
variant_ok_lem v h = reference-row-ok 10 0 0 v.xml_name v.rust_name v.type_ref refl (rw (reference-small v.type_ref)) refl refl h

bit-flag : (b : Bool) → leb (bit b) 1 ≡ true
unfolding bit
bit-flag false = refl
bit-flag true = refl

bit-small : (b : Bool) → is_small (bit b) ≡ true
unfolding bit is_small
bit-small false = refl
bit-small true = refl

attr-ok : (v : AttrDef) → attr_ok v ≡ true → row_ok (attr_row v) ≡ true
unfolding attr_ok attr_row row used_pairs between row_form form_a form_b form_c is_flag
attr-ok v h =
    reference-row-ok 19 (bit v.required) 0 v.xml_name v.rust_name v.type_ref refl (rw (reference-small v.type_ref, bit-flag v.required))
    (small 19 (omega arith)) (and-true (bit-small v.required) (small 0 (omega arith))) h

digits-small : (n : ℕ) → ltb n (2 ^ 32) ≡ true → is_small n ≡ true
unfolding is_small
digits-small n h = h

length-small : (n : ℕ) → ltb n (2 ^ 64) ≡ true → is_small (n % 2 ^ 32) && is_small (n / 2 ^ 32) ≡ true
length-small n h =
    let b = ltb-true n (2 ^ 64) h in
    and-true (small (n % 2 ^ 32) (omega arith)) (small (n / 2 ^ 32) (omega arith))

constraint-ok : (c : Constraint) → constraint_ok c ≡ true → row_ok (constraint_row c) ≡ true
unfolding constraint_ok constraint_row row row_ok texts_counted used_pairs between row_form form_a form_b form_c every row_small is_small
constraint-ok (Constraint.pattern v) h = rw h
constraint-ok (Constraint.min_length n) h = and-true (and-true (length-small n h) refl) refl
constraint-ok (Constraint.max_length n) h = and-true (and-true (length-small n h) refl) refl
constraint-ok (Constraint.min_inclusive v) h = rw h
constraint-ok (Constraint.max_inclusive v) h = rw h
constraint-ok (Constraint.total_digits n) h = rw (digits-small n h)
constraint-ok (Constraint.fraction_digits n) h = rw (digits-small n h)

code_ok_lem : (v : CodeValue) → code_ok v ≡ true → row_ok (code_row v) ≡ true
unfolding code_ok code_row row row_ok texts_counted used_pairs between row_form form_a form_b form_c row_small is_small
code_ok_lem v h = two-texts v.xml_value v.rust_name (and-true-left (is_graph_text v.xml_value) (is_graph_text v.rust_name) h) (and-true-right (is_graph_text v.xml_value) (is_graph_text v.rust_name) h)

pub root_ok_lem : (e : RootElement) → root_ok e ≡ true → row_ok (root_row e) ≡ true
unfolding root_ok root_row row row_ok texts_counted used_pairs between row_form form_a form_b form_c row_small is_small
root_ok_lem e h =
    let w = and_parts (is_small e.event) (is_graph_text e.xml_name && is_graph_text e.type_name) h in
    let t = and_parts (is_graph_text e.xml_name) (is_graph_text e.type_name) w.1 in
    and-true w.0 (two-texts e.xml_name e.type_name t.0 t.1)

-- ---- rows of types

newtype-head : (event : ℕ) (n : Text) (i : RustType) → is_small event ≡ true → is_graph_text n ≡ true → row_ok (row 5 (n ∷ []) (rust_type_number i) 0 event) ≡ true
unfolding row_ok row texts_counted used_pairs between row_form form_a form_b form_c row_small is_small
newtype-head event n RustType.string s h = and-true s (one-text n h)
newtype-head event n RustType.bool s h = and-true s (one-text n h)
newtype-head event n RustType.decimal s h = and-true s (one-text n h)
newtype-head event n RustType.date s h = and-true s (one-text n h)
newtype-head event n RustType.date_time s h = and-true s (one-text n h)

value-head : (event : ℕ) (n : Text) (v : TypeRef) → is_small event ≡ true → is_graph_text n ≡ true → ref_ok v ≡ true → row_ok (row 7 (n ∷ ref_text v) (ref_a v) 0 event) ≡ true
unfolding row_ok row texts_counted used_pairs between row_form form_a form_b form_c ref_a ref_text ref_ok row_small is_small
value-head event n (TypeRef.named t) s h k = and-true s (two-texts n t h k)
value-head event n (TypeRef.builtin RustType.string) s h k = and-true s (one-text n h)
value-head event n (TypeRef.builtin RustType.bool) s h k = and-true s (one-text n h)
value-head event n (TypeRef.builtin RustType.decimal) s h k = and-true s (one-text n h)
value-head event n (TypeRef.builtin RustType.date) s h k = and-true s (one-text n h)
value-head event n (TypeRef.builtin RustType.date_time) s h k = and-true s (one-text n h)

-- a head of one text whose a is unused
plain-head : (tag event : ℕ) (n : Text) → (let r = row tag (n ∷ []) 0 0 event in texts_counted used_pairs r && row_form r ≡ true) → is_small tag ≡ true → is_small event ≡ true
    → is_graph_text n ≡ true → row_ok (row tag (n ∷ []) 0 0 event) ≡ true
unfolding row_ok row_small row
plain-head tag event n h t s k = and-true (and-true h (rw (t, small 0 (omega arith), s))) (one-text n k)

-- a head with its children behind it
children-ok : {A : Type 0} (head : Row) (p : A → Bool) (f : A → Row) → ((x : A) → p x ≡ true → row_ok (f x) ≡ true) → (xs : List A) → row_ok head ≡ true
    → every p xs ≡ true → every row_ok (head ∷ map f xs) ≡ true
unfolding every
children-ok head p f g xs h k = and-true h (every_map p row_ok f g xs k)

plain-children : {A : Type 0} (tag event : ℕ) (n : Text) (p : A → Bool) (f : A → Row) → ((x : A) → p x ≡ true → row_ok (f x) ≡ true) → (xs : List A)
    → (let r = row tag (n ∷ []) 0 0 event in texts_counted used_pairs r && row_form r ≡ true) → is_small tag ≡ true → is_small event && (is_graph_text n && every p xs) ≡ true
    → every row_ok (row tag (n ∷ []) 0 0 event ∷ map f xs) ≡ true
plain-children tag event n p f g xs k t h =
    let w = and_parts (is_small event) (is_graph_text n && every p xs) h in
    let v = and_parts (is_graph_text n) (every p xs) w.1 in
    children-ok _ p f g xs (plain-head tag event n k t w.0 v.0) v.1

newtype-rows : (event : ℕ) (n : Text) (i : RustType) (cs : List Constraint) → is_small event && (is_graph_text n && every constraint_ok cs) ≡ true
    → every row_ok (row 5 (n ∷ []) (rust_type_number i) 0 event ∷ map constraint_row cs) ≡ true
newtype-rows event n i cs h =
    let w = and_parts (is_small event) (is_graph_text n && every constraint_ok cs) h in
    let v = and_parts (is_graph_text n) (every constraint_ok cs) w.1 in
    children-ok _ constraint_ok constraint_row constraint-ok cs (newtype-head event n i w.0 v.0) v.1

value-rows : (event : ℕ) (n : Text) (v : TypeRef) (xs : List AttrDef) → is_small event && (is_graph_text n && ref_ok v && every attr_ok xs) ≡ true
    → every row_ok (row 7 (n ∷ ref_text v) (ref_a v) 0 event ∷ map attr_row xs) ≡ true
value-rows event n v xs h =
    let w = and_parts (is_small event) (is_graph_text n && ref_ok v && every attr_ok xs) h in
    let t = three (is_graph_text n) (ref_ok v) (every attr_ok xs) w.1 in
    children-ok _ attr_ok attr_row attr-ok xs (value-head event n v w.0 t.0 t.1) t.2

pub type-ok : (d : TypeDef) → type_ok d ≡ true → every row_ok (type_rows d) ≡ true
unfolding type_ok type_rows every texts_counted row used_pairs between row_form form_a form_b form_c row_ok is_flag row_small is_small
type-ok (TypeDef.struct event n fs) h = plain-children 3 event n field_ok field_row field-ok fs refl refl h
type-ok (TypeDef.enum event n vs) h = plain-children 4 event n variant_ok variant_row variant_ok_lem vs refl refl h
type-ok (TypeDef.newtype event n i cs) h = newtype-rows event n i cs h
type-ok (TypeDef.code_enum event n cs) h = plain-children 6 event n code_ok code_row code_ok_lem cs refl refl h
type-ok (TypeDef.value_with_attr event n v xs) h = value-rows event n v xs h
type-ok (TypeDef.opaque event n none) h =
    let w = and_parts (is_small event) (is_graph_text n) h in
    and-true (and-true w.0 (one-text n w.1)) refl
type-ok (TypeDef.opaque event n (some ns)) h =
    let w = and_parts (is_small event) (is_graph_text n && is_graph_text ns) h in
    let t = and_parts (is_graph_text n) (is_graph_text ns) w.1 in
    and-true (and-true w.0 (two-texts n ns t.0 t.1)) refl

pub types-ok : (ds : List TypeDef) → every type_ok ds ≡ true → every row_ok (types_rows ds) ≡ true
unfolding every types_rows
types-ok [] h = refl
types-ok (d ∷ ds) h =
    every-append-true row_ok (type_rows d) (types_rows ds) (type-ok d (and-true-left (type_ok d) (every type_ok ds) h)) (types-ok ds (and-true-right (type_ok d) (every type_ok ds) h))
