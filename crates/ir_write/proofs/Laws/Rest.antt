-- The rest of the rows from a place on, as the writing loops meet it. By the rows from a place on. Assumes nothing.
use Rattle.std.specs.Prelude.{if◌then◌else◌}
use Prim.Native.Nat.{ℕ, ◌+◌, ◌*◌, ◌≤◌, ◌<◌}
use mathlib.Core.Path.{◌≡◌, refl, sym}
use mathlib.Core.Bool.{Bool, true, false}
use mathlib.Core.List.{List, [], ◌∷◌, ◌++◌, append-nil, append_assoc}
use lib.Dec.{eqb}
use lib.ListN.{get_or}
use Rattle.sheet.specs.Rows.{Row}
use Rattle.xsd_types.specs.Good.{is_head}
use Rattle.xsd_types.specs.Refused.{is_code_enum}
use Rattle.rows.specs.declared.part.SheetPart.{SheetPart}
use Rattle.ir_rows.specs.Lowered.{lowered_row, child_rows, type_rows_of, root_rows}
use Rattle.ir_rows.specs.Types.{types_graph_rows, graph_row_list}
use Rattle.ir_rows.specs.Parts.{part_row, part_rows, part_places, part_types, part_graph}
use Rattle.text.proofs.Laws.Tests.{if-cases, bool_cases}
use Rattle.ir_checks.specs.declared.TypeKind.{TypeKind}
use Rattle.ir_checks.specs.Kinds.{is_kind, kind_places}
use Rattle.ir_checks.proofs.Laws.Kinds.{kind-hit, kind-on, kind-end, kinds-types}
use Rattle.ir_write.specs.Kinds.{one_rows, kind_rows}
use Rattle.xsd_types.proofs.Laws.Places.{row_at-tag, rows_from-cons, rows_from-end}

-- an element, or no element, and those behind it
roots-one : (r : Row) (rs : List Row) → root_rows (r ∷ rs) ≡ root_rows (r ∷ []) ++ root_rows rs
unfolding root_rows
roots-one r rs =
    if-cases (λ (l : List Row). l ≡ (if eqb r.tag 2 then lowered_row false r ++ [] else []) ++ root_rows rs) (eqb r.tag 2)
    (λ t. rw (t, append-nil (lowered_row false r))) (λ t. rw t)

module _ (part : SheetPart) (p : ℕ) where
  tag-at : (part_row part p).tag ≡ get_or part.rows.now (10 * p) 0
  tag-at = row_at-tag part.rows.now part.names.now p

  next : p < part.end → part_rows part p ≡ part_row part p ∷ part_rows part (p + 1)
  next h = rows_from-cons part.rows.now part.names.now p part.end h

  none : part.end ≤ p → part_rows part p ≡ []
  none h = rows_from-end part.rows.now part.names.now p part.end h

  -- the row of an element, and no row for any other
  pub root-hit : get_or part.rows.now (10 * p) 0 ≡ 2 → root_rows (part_row part p ∷ []) ≡ lowered_row false (part_row part p)
  unfolding root_rows
  root-hit t =
      let h : eqb (part_row part p).tag 2 ≡ true = rw (tag-at, t) in
      rw h (append-nil (lowered_row false (part_row part p)))

  pub root_none : eqb (get_or part.rows.now (10 * p) 0) 2 ≡ false → root_rows (part_row part p ∷ []) ≡ []
  unfolding root_rows
  root_none t = rw (tag-at, t)

  pub roots-end : part.end ≤ p → root_rows (part_rows part p) ≡ []
  unfolding root_rows
  roots-end h = rw (none h)

  pub roots-on : p < part.end → root_rows (part_rows part p) ≡ root_rows (part_row part p ∷ []) ++ root_rows (part_rows part (p + 1))
  roots-on h = rw (next h) (roots-one (part_row part p) (part_rows part (p + 1)))

  module _ (e : Bool) where
    pub children-end : part.end ≤ p → child_rows e (part_rows part p) ≡ []
    unfolding child_rows
    children-end h = rw (none h)

    pub children-head : p < part.end → is_head (get_or part.rows.now (10 * p) 0) ≡ true → child_rows e (part_rows part p) ≡ []
    unfolding child_rows
    children-head h t = rw (next h, tag-at, t)

    pub children-on : p < part.end → is_head (get_or part.rows.now (10 * p) 0) ≡ false → child_rows e (part_rows part p) ≡ lowered_row e (part_row part p) ++ child_rows e (part_rows part (p + 1))
    unfolding child_rows
    children-on h t = rw (next h, tag-at, t)

    pub type-on : p < part.end → e ≡ is_code_enum (part_rows part (p + 1)) → type_rows_of (part_rows part p) ≡ lowered_row e (part_row part p) ++ child_rows e (part_rows part (p + 1))
    unfolding type_rows_of
    type-on h t = rw (next h, t)

-- the types of one kind
module _ (part : SheetPart) (kind : TypeKind) (p : ℕ) where
  pub one-hit : is_kind kind (get_or part.rows.now (10 * p) 0) ≡ true → one_rows part kind p ≡ type_rows_of (part_rows part p)
  unfolding one_rows
  one-hit e = rw e

  pub one_none : is_kind kind (get_or part.rows.now (10 * p) 0) ≡ false → one_rows part kind p ≡ []
  unfolding one_rows
  one_none e = rw e

  pub kind_rows-on : p < part.end → kind_rows part kind p ≡ one_rows part kind p ++ kind_rows part kind (p + 1)
  unfolding kind_rows one_rows types_graph_rows
  kind_rows-on h =
      bool_cases (is_kind kind (get_or part.rows.now (10 * p) 0)) (λ e. rw (kind-hit part kind p h e, e)) (λ e. rw (kind-on part kind p h e, e))

  pub kind_rows-end : part.end ≤ p → kind_rows part kind p ≡ []
  unfolding kind_rows types_graph_rows
  kind_rows-end h = rw (kind-end part kind p h)

module _ (part : SheetPart) where
  types-append : (ps qs : List ℕ) → part_types part (ps ++ qs) ≡ part_types part ps ++ part_types part qs
  unfolding types_graph_rows
  types-append [] qs = refl
  types-append (p ∷ ps) qs = rw (types-append ps qs) (sym (append_assoc (type_rows_of (part_rows part p)) (part_types part ps) (part_types part qs)))

  -- the simple ones, then the complex ones
  pub types-kinds : part_types part (part_places part) ≡ kind_rows part TypeKind.Simple 2 ++ kind_rows part TypeKind.Complex 2
  unfolding kind_rows
  types-kinds = rw (kinds-types part) (types-append (kind_places part TypeKind.Simple 2) (kind_places part TypeKind.Complex 2))

  -- the namespace, the elements and the types
  pub graph-on : (ps : List ℕ) → part_graph part ps ≡ lowered_row false (part_row part 1) ++ (root_rows (part_rows part 2) ++ part_types part ps)
  unfolding graph_row_list
  graph-on ps = refl
