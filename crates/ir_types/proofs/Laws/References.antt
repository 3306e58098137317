-- The label of each row of a graph's sheet is its reference's: row by row with the texts in the names, then by the row's place. Assumes nothing.
--     Labels    the labels of rows in numbers are those of the references, one by one
use Prim.Native.Nat.{ℕ, zero, suc, ◌+◌, ◌-◌, ◌*◌, ◌%◌, ◌≤◌, ◌<◌}
use mathlib.Core.Path.{◌≡◌, refl, sym, ap, ◌∙◌}
use mathlib.Core.Logic.{⊎_elim}
use mathlib.Core.Bool.{true, false, ◌&&◌, ◌||◌}
use mathlib.Core.List.{List, [], ◌∷◌, ◌++◌, map, append_assoc}
use mathlib.Core.Option.{Option, some, none}
use native.Mathlib.Omega.{arith}
use lib.Dec.{eqb, ltb}
use lib.ListN.{length, get_or, drop, replicate, length-append}
use lib.Seq.{drop-drop, get_or-drop, get_or-append-add}
use borrow.Author.Tests.{le-leb, lt-ltb}
use Rattle.text.specs.Text.{Text, join}
use Rattle.builtin.specs.Builtin.{RustType, rust_type_number}
use Rattle.sheet.specs.Rows.{Ten, ten, numbers, Row, row, pairs, pack_row, pack, names_of, filled, Sheet, sheet_of_rows}
use Rattle.sheet.proofs.Laws.Numbers.{ten-numbers, drop-numbers, length-numbers}
use Rattle.sheet.proofs.Laws.Packs.{text-here, text-next, length-pack}
use Rattle.std.proofs.lemmas.Bool.{cases_Bool}
use Rattle.ir_types.specs.Types.{TypeRef, Constraint, TypeDef, TypeGraph}
use Rattle.ir_types.specs.Sheet.{graph_fits, graph_sheet}
use Rattle.ir_types.specs.Rows.{ref_a, ref_text, field_row, variant_row, constraint_row, code_row, attr_row, type_rows, types_rows, root_row, rows_of, rows_used, names_used, row0}
use Rattle.ir_types.specs.Row0.{graph_row0_ten}
use Rattle.ir_types.proofs.Laws.GraphForm.{rows_fit, names-fit, sheet-rows-length, sheet-names-length}
use Rattle.ir_types.specs.Label.{no_label, row_ten, has_reference, reference_at, reference_length, named_label, row_label, label}
use Rattle.ir_types.specs.References.{type_references, types_references, graph_references, LabelOf, GraphLabels}

-- ---- one row, whose texts stand in the names from k

module _ (names words : List ℕ) where
  RowLabel : Row → Option TypeRef → Type 0
  RowLabel r o = (k : ℕ) (post : Text) → drop k names ≡ join r.texts ++ post → k + length (join r.texts) ≤ length names → LabelOf names words o (row_label names words (pack_row k r))

  named-part : (at : ℕ) (n post : Text) → at + length n ≤ length names → drop at names ≡ n ++ post → LabelOf names words (some (TypeRef.named n)) (named_label names at (length n))
  unfolding named_label
  named-part at n post h e =
      rw (le-leb (at + length n) (length names) h, text-here names at n post e) (LabelOf.named at h (text-here names at n post e))

  -- the second text, and the third
  second-part : (k : ℕ) (t u post : Text) → drop k names ≡ join (t ∷ u ∷ []) ++ post → k + length (join (t ∷ u ∷ [])) ≤ length names
      → LabelOf names words (some (TypeRef.named u)) (named_label names (k + length t) (length u))
  unfolding join
  second-part k t u post e h =
      named-part (k + length t) u post (omega (arith, simp length-append at h)) (text-next names k t (u ++ post) (e ∙ simp append_assoc))

  third-part : (k : ℕ) (t u v post : Text) → drop k names ≡ join (t ∷ u ∷ v ∷ []) ++ post → k + length (join (t ∷ u ∷ v ∷ [])) ≤ length names
      → LabelOf names words (some (TypeRef.named v)) (named_label names (k + length t + length u) (length v))
  unfolding join
  third-part k t u v post e h =
      named-part (k + length t + length u) v post (omega (arith, simp length-append at h))
      (text-next names (k + length t) u (v ++ post) (text-next names k t (u ++ (v ++ post)) (e ∙ simp append_assoc)))

  -- a row of another tag
  no-label : (tag : ℕ) (ts : List Text) (a b c : ℕ) → eqb tag 5 || eqb tag 7 || eqb tag 9 || eqb tag 10 || eqb tag 19 ≡ false → RowLabel (row tag ts a b c) none
  unfolding RowLabel row_label has_reference pack_row row
  no-label tag ts a b c h k post e f = rw h LabelOf.no_reference

  newtype-label : (n : Text) (i : RustType) (c : ℕ) → RowLabel (row 5 (n ∷ []) (rust_type_number i) 0 c) (some (TypeRef.builtin i))
  unfolding RowLabel row_label has_reference pack_row row
  newtype-label n RustType.string c k post e f = LabelOf.built_in RustType.string
  newtype-label n RustType.bool c k post e f = LabelOf.built_in RustType.bool
  newtype-label n RustType.decimal c k post e f = LabelOf.built_in RustType.decimal
  newtype-label n RustType.date c k post e f = LabelOf.built_in RustType.date
  newtype-label n RustType.date_time c k post e f = LabelOf.built_in RustType.date_time

  value-label : (n : Text) (v : TypeRef) (c : ℕ) → RowLabel (row 7 (n ∷ ref_text v) (ref_a v) 0 c) (some v)
  unfolding RowLabel row_label has_reference reference_at reference_length pack_row pairs row ref_text ref_a
  value-label n (TypeRef.named m) c k post e f = second-part k n m post e f
  value-label n (TypeRef.builtin RustType.string) c k post e f = LabelOf.built_in RustType.string
  value-label n (TypeRef.builtin RustType.bool) c k post e f = LabelOf.built_in RustType.bool
  value-label n (TypeRef.builtin RustType.decimal) c k post e f = LabelOf.built_in RustType.decimal
  value-label n (TypeRef.builtin RustType.date) c k post e f = LabelOf.built_in RustType.date
  value-label n (TypeRef.builtin RustType.date_time) c k post e f = LabelOf.built_in RustType.date_time

  -- 9, 10 and 19
  child-label : (tag : ℕ) (t u : Text) (v : TypeRef) (b c : ℕ) → eqb tag 5 || eqb tag 7 || eqb tag 9 || eqb tag 10 || eqb tag 19 ≡ true → eqb tag 5 ≡ false → eqb tag 7 ≡ false
      → RowLabel (row tag (t ∷ u ∷ ref_text v) (ref_a v) b c) (some v)
  unfolding RowLabel row_label has_reference reference_at reference_length pack_row pairs row ref_text ref_a
  child-label tag t u (TypeRef.named m) b c one five seven k post e f = rw (one, five, seven) (third-part k t u m post e f)
  child-label tag t u (TypeRef.builtin RustType.string) b c one five seven k post e f = rw (one, five) (LabelOf.built_in RustType.string)
  child-label tag t u (TypeRef.builtin RustType.bool) b c one five seven k post e f = rw (one, five) (LabelOf.built_in RustType.bool)
  child-label tag t u (TypeRef.builtin RustType.decimal) b c one five seven k post e f = rw (one, five) (LabelOf.built_in RustType.decimal)
  child-label tag t u (TypeRef.builtin RustType.date) b c one five seven k post e f = rw (one, five) (LabelOf.built_in RustType.date)
  child-label tag t u (TypeRef.builtin RustType.date_time) b c one five seven k post e f = rw (one, five) (LabelOf.built_in RustType.date_time)

  -- ---- rows one behind the other

  data Refer : List Row → List (Option TypeRef) → Type 0 where
    end : Refer [] []
    more : {r : Row} {rs : List Row} {o : Option TypeRef} {os : List (Option TypeRef)} → RowLabel r o → Refer rs os → Refer (r ∷ rs) (o ∷ os)

  refer-append : {rs us : List Row} {os ps : List (Option TypeRef)} → Refer rs os → Refer us ps → Refer (rs ++ us) (os ++ ps)
  refer-append end g = g
  refer-append (more l f) g = more l (refer-append f g)

  refer-map : {A : Type 0} (f : A → Row) (o : A → Option TypeRef) → ((x : A) → RowLabel (f x) (o x)) → (xs : List A) → Refer (map f xs) (map o xs)
  refer-map f o h [] = end
  refer-map f o h (x ∷ xs) = more (h x) (refer-map f o h xs)

  -- the label of the j-th of them
  refer-at : {rs : List Row} {os : List (Option TypeRef)} → Refer rs os → (j k : ℕ) (post : Text) (d : Ten) → drop k names ≡ names_of rs ++ post → k + length (names_of rs) ≤ length names
      → j < length rs → LabelOf names words (get_or os j none) (row_label names words (get_or (pack k rs) j d))
  unfolding pack names_of RowLabel
  refer-at end j k post d e h w = absurd (omega arith)
  refer-at (more {r = r} {rs = rs} l f) zero k post d e h w =
      l k (names_of rs ++ post) (e ∙ append_assoc (join r.texts) (names_of rs) post) (omega (arith, length-append (join r.texts) (names_of rs)))
  refer-at (more {r = r} {rs = rs} l f) (suc j) k post d e h w =
      refer-at f j (k + length (join r.texts)) post d (text-next names k (join r.texts) (names_of rs ++ post) (e ∙ append_assoc (join r.texts) (names_of rs) post))
      (omega (arith, length-append (join r.texts) (names_of rs))) (omega arith)

  -- ---- the rows of a graph

  constraint-none : (c : Constraint) → RowLabel (constraint_row c) none
  unfolding constraint_row
  constraint-none (Constraint.pattern v) = no-label 11 (v ∷ []) 0 0 0 refl
  constraint-none (Constraint.min_length n) = no-label 12 [] _ _ 0 refl
  constraint-none (Constraint.max_length n) = no-label 13 [] _ _ 0 refl
  constraint-none (Constraint.min_inclusive v) = no-label 14 (v ∷ []) 0 0 0 refl
  constraint-none (Constraint.max_inclusive v) = no-label 15 (v ∷ []) 0 0 0 refl
  constraint-none (Constraint.total_digits n) = no-label 16 [] n 0 0 refl
  constraint-none (Constraint.fraction_digits n) = no-label 17 [] n 0 0 refl

  type-refer : (d : TypeDef) → Refer (type_rows d) (type_references d)
  unfolding type_rows type_references field_row variant_row code_row attr_row
  type-refer (TypeDef.struct event n fs) =
      more (no-label 3 (n ∷ []) 0 0 event refl) (refer-map field_row _ (λ f. child-label 9 f.xml_name f.rust_name f.type_ref _ _ refl refl refl) fs)
  type-refer (TypeDef.enum event n vs) =
      more (no-label 4 (n ∷ []) 0 0 event refl) (refer-map variant_row _ (λ v. child-label 10 v.xml_name v.rust_name v.type_ref 0 0 refl refl refl) vs)
  type-refer (TypeDef.newtype event n i cs) = more (newtype-label n i event) (refer-map constraint_row _ constraint-none cs)
  type-refer (TypeDef.code_enum event n cs) =
      more (no-label 6 (n ∷ []) 0 0 event refl) (refer-map code_row _ (λ c. no-label 18 (c.xml_value ∷ c.rust_name ∷ []) 0 0 0 refl) cs)
  type-refer (TypeDef.value_with_attr event n v xs) =
      more (value-label n v event) (refer-map attr_row _ (λ x. child-label 19 x.xml_name x.rust_name x.type_ref _ 0 refl refl refl) xs)
  type-refer (TypeDef.opaque event n none) = more (no-label 8 (n ∷ []) 0 0 event refl) end
  type-refer (TypeDef.opaque event n (some ns)) = more (no-label 8 (n ∷ ns ∷ []) 1 0 event refl) end

  types-refer : (ds : List TypeDef) → Refer (types_rows ds) (types_references ds)
  unfolding types_rows types_references
  types-refer [] = end
  types-refer (d ∷ ds) = refer-append (type-refer d) (types-refer ds)

  graph-refer : (g : TypeGraph) → Refer (rows_of g) (graph_references g)
  unfolding rows_of graph_references root_row
  graph-refer g =
      more (no-label 1 (g.namespace ∷ []) 0 0 0 refl)
      (refer-append (refer-map root_row _ (λ e. no-label 2 (e.xml_name ∷ e.type_name ∷ []) 0 0 e.event refl) g.root_elements) (types-refer g.types))

-- ---- by the row's place in the sheet

ten-at : (ts : List Ten) (z : List ℕ) (k : ℕ) (d : Ten) → k < length ts → ten (drop (10 * k) (numbers ts ++ z)) ≡ get_or ts k d
ten-at [] z k d h = absurd (omega arith)
ten-at (t ∷ ts) z zero d h = ten-numbers t ts z
ten-at (t ∷ ts) z (suc k) d h =
    let n : 10 * suc k ≡ 10 + 10 * k = omega arith in
    rw n (ap ten (sym (drop-drop (10 * k) 10 (numbers (t ∷ ts) ++ z)) ∙ ap (drop (10 * k)) (drop-numbers t ts z)) ∙ ten-at ts z k d (omega arith))

pub get_d-zeros : (m i : ℕ) → ◌≡◌ {A = ℕ} (get_or (replicate m 0) i 0) 0
get_d-zeros zero i = refl
get_d-zeros (suc m) zero = refl
get_d-zeros (suc m) (suc i) = get_d-zeros m i

module _ (g : TypeGraph) (r n : ℕ) (words : List ℕ) (f : graph_fits r n g ≡ true) where
  abbrev x : Sheet
  x = graph_sheet g r n

  used-rows : rows_used g ≡ suc (length (rows_of g))
  unfolding rows_used
  used-rows = omega arith

  row_here : (k : ℕ) (d : Ten) → k < length (rows_of g) → row_ten x.rows (suc k) ≡ get_or (pack 0 (rows_of g)) k d
  unfolding row_ten graph_sheet sheet_of_rows filled
  row_here k d h = ten-at (graph_row0_ten (row0 g) ∷ pack 0 (rows_of g)) _ (suc k) d (rw (length-pack 0 (rows_of g)) (omega arith))

  label-here : (k : ℕ) → r % 10 ≡ 0 → 10 * k < r → label x.rows x.names words k ≡ row_label x.names words (row_ten x.rows k)
  unfolding label
  label-here k m h = rw (sheet-rows-length g r n f, m, lt-ltb (10 * k) r h)

  names-here : drop 0 x.names ≡ names_of (rows_of g) ++ replicate (n - length (names_of (rows_of g))) 0
  unfolding graph_sheet sheet_of_rows filled
  names-here = refl

  names-inside : 0 + length (names_of (rows_of g)) ≤ length x.names
  unfolding names_used
  names-inside = rw (sheet-names-length g r n f) (omega (arith, names-fit g r n f))

  -- "The label call gives a row's type reference", and 16 for a row without one
  label-graph : (k : ℕ) → r % 10 ≡ 0 → k < length (rows_of g) → LabelOf x.names words (get_or (graph_references g) k none) (label x.rows x.names words (suc k))
  label-graph k m h =
      let d = graph_row0_ten (row0 g) in
      rw (label-here (suc k) m (omega (arith, rows_fit g r n f, used-rows)), row_here k d h)
      (refer-at x.names words (graph-refer x.names words g) k 0 _ d names-here names-inside h)

  -- the rows past them, and row 0, have tag 0
  zero-tag : (t : Ten) → t.tag ≡ 0 → row_label x.names words t ≡ no_label
  unfolding row_label has_reference
  zero-tag t h = rw h

  label-tag : (k : ℕ) → (row_ten x.rows k).tag ≡ 0 → label x.rows x.names words k ≡ no_label
  unfolding label
  label-tag k h =
      ⊎_elim (λ c. rw c (zero-tag (row_ten x.rows k) h)) (λ c. rw c)
      (cases_Bool (eqb (length x.rows % 10) 0 && ltb (10 * k) (length x.rows)))

  first-tag : (row_ten x.rows 0).tag ≡ 0
  unfolding row_ten graph_sheet sheet_of_rows filled numbers ten row0
  first-tag = refl

  past-tag : (k : ℕ) → rows_used g ≤ k → (row_ten x.rows k).tag ≡ 0
  unfolding row_ten ten graph_sheet sheet_of_rows filled
  past-tag k h =
      let ns = numbers (graph_row0_ten (row0 g) ∷ pack 0 (rows_of g)) in
      let l : length ns ≡ 10 * rows_used g = length-numbers (graph_row0_ten (row0 g) ∷ pack 0 (rows_of g)) ∙ rw (length-pack 0 (rows_of g)) (omega (arith, used-rows)) in
      let i : 10 * k + 0 ≡ length ns + (10 * k - length ns) = omega arith in
      rw (get_or-drop, i, get_or-append-add) (get_d-zeros (r - length ns) (10 * k - length ns))

  pub graph-labels : r % 10 ≡ 0 → GraphLabels g x words
  graph-labels m =
      record { of = λ k h. label-graph k m h; first = label-tag 0 first-tag; past = λ k h. label-tag k (past-tag k (omega (arith, used-rows))) }
