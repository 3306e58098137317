-- Lowering refuses exactly where a finished simple type is refused, whatever stands behind it, and the place is the first such head's row.
-- Assumes nothing.
use Rattle.std.specs.Prelude.{if◌then◌else◌}
use Prim.Native.Nat.{ℕ, ◌+◌, ◌≤◌}
use mathlib.Core.Path.{◌≡◌, refl, sym, ap, ◌∙◌}
use mathlib.Core.Logic.{◌↔◌, ⊎_elim}
use mathlib.Core.Bool.{true, false, not, ◌&&◌, false≢true, or-true}
use mathlib.Core.List.{List, [], ◌∷◌, ◌++◌}
use mathlib.Core.Option.{Option, some, none}
use native.Mathlib.Omega.{arith}
use lib.ListN.{length, length-append}
use Rattle.text.specs.Text.{Text}
use Rattle.sheet.specs.Rows.{Row}
use Rattle.xsd_types.specs.Types.{SimpleType, Item, Schema, simple_types}
use Rattle.xsd_types.specs.Rows.{item_rows, items_rows}
use Rattle.ir_types.specs.Types.{TypeDef, TypeGraph}
use Rattle.builtin.specs.Builtin.{map_builtin}
use Rattle.names.specs.Names.{normalize_type_name}
use Rattle.xsd_types.specs.Refused.{all_enums, is_none, refused_base, refused_item}
use Rattle.ir_lower.specs.Lower.{codes, lower_newtype, lower_simple_type, any_unknown, graph_of, lower, unknown_row}
use Rattle.std.proofs.lemmas.Bool.{cases_Bool}
use Rattle.text.proofs.Laws.Tests.{or-false-left, or-false-right}

-- a simple type has no definition exactly if its base is refused
pub refused-base : (t : SimpleType) → is_none (lower_simple_type t) ≡ refused_base t
unfolding refused_base lower_simple_type lower_newtype is_none
refused-base t =
    elim (all_enums t.facets)
    as (λ b. is_none (if b then some (TypeDef.code_enum t.event (normalize_type_name t.name) (codes t.facets)) else lower_newtype t (map_builtin t.base))
    ≡ (not b && is_none (map_builtin t.base)))
    [ true ↦ refl | false ↦ elim (map_builtin t.base) as (λ o. is_none (lower_newtype t o) ≡ is_none o) [ none ↦ refl | some r ↦ refl ] ]

is_none-none : {A : Type 0} (o : Option A) → is_none o ≡ true → o ≡ none
unfolding is_none
is_none-none none e = refl
is_none-none (some x) e = absurd (false≢true e)

pub refusal : (s : Schema) → is_none (lower s) ≡ any_unknown (simple_types s.items)
unfolding lower is_none
refusal s =
    elim (any_unknown (simple_types s.items)) as (λ b. is_none {A = TypeGraph} (if b then none else some (graph_of s)) ≡ b) [ true ↦ refl | false ↦ refl ]

pub refused-exactly : (s : Schema) → (lower s ≡ none) ↔ (any_unknown (simple_types s.items) ≡ true)
unfolding is_none
refused-exactly s = (λ e. sym (refusal s) ∙ ap is_none e, λ h. is_none-none (lower s) (refusal s ∙ h))

-- a simple type that is refused stays refused, whatever stands before and behind it
any-unknown : (before after : List Item) (t : SimpleType) → refused_base t ≡ true → any_unknown (simple_types (before ++ (Item.simple_type t ∷ after))) ≡ true
unfolding any_unknown simple_types
any-unknown [] after t h = rw h
any-unknown (Item.element e ∷ is) after t h = any-unknown is after t h
any-unknown (Item.simple_type u ∷ is) after t h = rw (any-unknown is after t h) (or-true (refused_base u))
any-unknown (Item.complex_type u ∷ is) after t h = any-unknown is after t h

pub unknown-refuses : (ns : Text) (before after : List Item) (t : SimpleType) → refused_base t ≡ true
    → lower (record { target_namespace = ns; items = before ++ (Item.simple_type t ∷ after) }) ≡ none
unknown-refuses ns before after t h = (refused-exactly (record { target_namespace = ns; items = before ++ (Item.simple_type t ∷ after) })).1 (any-unknown before after t h)

-- ---- the place
pub unknown_row-least : (row : ℕ) (is : List Item) → any_unknown (simple_types is) ≡ true → row ≤ unknown_row row is
unfolding any_unknown simple_types unknown_row refused_item
unknown_row-least row [] h = absurd (false≢true h)
unknown_row-least row (Item.element e ∷ is) h = let r = unknown_row-least (row + length (item_rows (Item.element e))) is h in omega arith
unknown_row-least row (Item.simple_type t ∷ is) h =
    ⊎_elim (λ k. rw k (omega arith))
    (λ k. let r = unknown_row-least (row + length (item_rows (Item.simple_type t))) is (rw k at h) in rw k (omega arith))
    (cases_Bool (refused_base t))
unknown_row-least row (Item.complex_type t ∷ is) h = let r = unknown_row-least (row + length (item_rows (Item.complex_type t))) is h in omega arith

-- the row is that of the first refused simple type's head: all rows of the items before it stand before it
rows-added : (row : ℕ) (rs ss : List Row) (after : List Item) → unknown_row (row + length rs + length ss) after ≡ unknown_row (row + length (rs ++ ss)) after
rows-added row rs ss after = ap (λ (n : ℕ). unknown_row n after) (rw (length-append rs ss) (omega arith))

item-passes : (row : ℕ) (i : Item) (is after : List Item) → refused_item i ≡ false
    → unknown_row (row + length (item_rows i)) (is ++ after) ≡ unknown_row (row + length (item_rows i) + length (items_rows is)) after
    → unknown_row row (i ∷ (is ++ after)) ≡ unknown_row (row + length (items_rows (i ∷ is))) after
unfolding unknown_row items_rows
item-passes row i is after h e = rw h (e ∙ rows-added row (item_rows i) (items_rows is) after)

unknown_row-passes : (row : ℕ) (before after : List Item) → any_unknown (simple_types before) ≡ false → unknown_row row (before ++ after) ≡ unknown_row (row + length (items_rows before)) after
unfolding any_unknown simple_types refused_item items_rows
unknown_row-passes row [] after h = ap (λ (n : ℕ). unknown_row n after) (omega arith)
unknown_row-passes row (Item.element e ∷ is) after h = item-passes row (Item.element e) is after refl (unknown_row-passes (row + length (item_rows (Item.element e))) is after h)
unknown_row-passes row (Item.simple_type t ∷ is) after h =
    item-passes row (Item.simple_type t) is after (or-false-left (refused_base t) (any_unknown (simple_types is)) h)
    (unknown_row-passes (row + length (item_rows (Item.simple_type t))) is after (or-false-right (refused_base t) (any_unknown (simple_types is)) h))
unknown_row-passes row (Item.complex_type t ∷ is) after h = item-passes row (Item.complex_type t) is after refl (unknown_row-passes (row + length (item_rows (Item.complex_type t))) is after h)

pub unknown_row-first : (row : ℕ) (before after : List Item) (t : SimpleType) → any_unknown (simple_types before) ≡ false → refused_base t ≡ true
    → unknown_row row (before ++ (Item.simple_type t ∷ after)) ≡ row + length (items_rows before)
unfolding unknown_row refused_item
unknown_row-first row before after t h k = unknown_row-passes row before (Item.simple_type t ∷ after) h ∙ rw k
