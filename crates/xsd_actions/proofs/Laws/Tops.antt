-- What a tag does outside a type is what was decided: the root, an element at the top, a type opened. Assumes nothing.
use mathlib.Core.Path.{◌≡◌, refl, sym, ap, ◌∙◌}
use mathlib.Core.Bool.{Bool, true, false}
use mathlib.Core.List.{List, [], ◌∷◌, ◌++◌, append-nil}
use mathlib.Core.Option.{Option, some, none}
use Prim.Native.Nat.{ℕ, suc, ◌≤◌}
use native.Mathlib.Omega.{arith}
use Rattle.text.specs.Text.{Text}
use Rattle.sheet.specs.Rows.{Row, row}
use Rattle.xsd_types.specs.Types.{Item}
use Rattle.xsd_types.specs.State.{Context, Reader}
use Rattle.xsd_types.specs.Rows.{simple_type_rows, complex_type_rows, item_rows, items_rows, context_rows, context_number, nesting, content_flag, extension_flag}
use Rattle.xsd_parser.specs.Event.{Tag, Event, or_empty}
use Rattle.xsd_parser.specs.Seen.{Seen, seen}
use Rattle.xsd_parser.specs.Handlers.{in_context, with_item, found_root, kept_element, on_top_level_element, open_simple_type, open_complex_type, below_schema}
use Rattle.xsd_parser.proofs.Laws.CloseRoom.{items-one-more}
use Rattle.xsd_actions.specs.Actions.{Action, mode_of, reader_rows, context_after, root_after, flag_after, opens_type, raises, tag_mode, mode_after, namespace_after}
use Rattle.xsd_actions.specs.Actions.{open_simple_row, open_complex_row, rows_after, Fitting, Acted}
use Rattle.xsd_actions.specs.Decided.{typed, named_child, top_element}
use Rattle.xsd_actions.proofs.Laws.Changes.{changed-keep, changed-start}

-- an item more, no type being open after it
pub items-behind : (xs : List Item) (i : Item) → items_rows (xs ++ i ∷ []) ++ [] ≡ items_rows xs ++ item_rows i
items-behind xs i = append-nil (items_rows (xs ++ i ∷ [])) ∙ items-one-more xs i

pub row-behind : (rs : List Row) (new : Row) → rs ++ new ∷ [] ≡ (rs ++ []) ++ new ∷ []
row-behind rs new = ap (λ qs. qs ++ new ∷ []) (sym (append-nil rs))

pub no-type : {C : Type 0} → 2 ≤ 1 → C
no-type h = absurd (omega (arith, h))

-- the reader in the schema, at a nesting
abbrev pub top : ℕ → Reader → Reader
top n r = in_context (Context.in_schema n) r

-- a direct child that adds a row: the reader after it, which `next` gives, is at the nesting m
module _ (by_standard : Bool) (e : Event) (r : Reader) (m : ℕ) (next : Reader → Reader) (is : (q : Reader) → next (top 0 q) ≡ top m q) where
  pub element-acted : (i : Item) (new : Row) → mode_of (top m r) ≡ mode_after by_standard e (Action.add new) (mode_of (top 0 r)) → item_rows i ≡ new ∷ []
      → Acted by_standard e (top 0 r) (Action.add new) (top m (with_item i r))
  unfolding in_context with_item mode_of reader_rows context_rows context_number nesting extension_flag namespace_after rows_after Fitting
  element-acted i new h q =
      let xs = r.schema.items in
      record {
        mode = h;
        namespace = refl;
        rows = items-behind xs i ∙ ap (λ rs. items_rows xs ++ rs) q ∙ row-behind (items_rows xs) new;
        items = no-type;
        fitting = tt;
      }

  pub added-acted : (i : Item) (new : Row) → mode_of (top m r) ≡ mode_after by_standard e (Action.add new) (mode_of (top 0 r)) → item_rows i ≡ new ∷ []
      → Acted by_standard e (top 0 r) (Action.add new) (next (with_item i (top 0 r)))
  unfolding in_context with_item
  added-acted i new h q = rw (is (with_item i r)) (element-acted i new h q)

  module _ (k : Acted by_standard e (top 0 r) Action.keep (next (top 0 r))) (h : (new : Row) → mode_of (top m r) ≡ mode_after by_standard e (Action.add new) (mode_of (top 0 r))) where
    pub kept-acted : (event : ℕ) (n ty : Option Text)
        → Acted by_standard e (top 0 r) (typed n ty (λ name type_name. row 2 (name ∷ type_name ∷ []) 0 0 event)) (next (kept_element event n ty (top 0 r)))
    unfolding typed kept_element item_rows
    kept-acted event none ty = k
    kept-acted event (some n) none = k
    kept-acted event (some n) (some ty) = added-acted (Item.element (record { name = n; type_name = ty; event = event })) _ (h _) refl

    pub top-acted : (event : ℕ) (t : Seen) → Acted by_standard e (top 0 r) (top_element event t) (next (on_top_level_element event t (top 0 r)))
    unfolding top_element named_child on_top_level_element
    top-acted event t = kept-acted event t.name t.type_name

-- order 3: the nesting below the schema after a start that opens no type
unfoldable pub depth_below : Bool → ℕ → ℕ
depth_below false n = n
depth_below true n = suc n

pub below-is : (by_standard : Bool) (n : ℕ) (q : Reader) → below_schema by_standard n (top n q) ≡ top (depth_below by_standard n) q
unfolding below_schema depth_below in_context
below-is false n q = refl
below-is true n q = refl

-- a start in the schema that is passed over, and the mode after one that adds a row
pub below-kept : (by_standard : Bool) (t : Tag) (n : ℕ) (r : Reader) → Acted by_standard (Event.start t) (top n r) Action.keep (below_schema by_standard n (top n r))
unfolding below_schema in_context raises opens_type context_number nesting extension_flag context_rows
below-kept false t n r = changed-start false t r {x = Context.in_schema n} {y = Context.in_schema n} refl (changed-keep refl refl refl)
below-kept true t n r = changed-start true t r {x = Context.in_schema n} {y = Context.in_schema (suc n)} refl (changed-keep refl refl refl)

pub below-mode : (by_standard : Bool) (r : Reader) (new : Row) → mode_of (top (depth_below by_standard 0) r) ≡ tag_mode by_standard true (Action.add new) (mode_of (top 0 r))
unfolding depth_below in_context mode_of tag_mode raises opens_type context_after root_after flag_after context_number nesting extension_flag
below-mode false r new = refl
below-mode true r new = refl

-- an empty tag in the schema that adds a row leaves the mode
pub mode-still : (by_standard : Bool) (r : Reader) (new : Row) → mode_of (top 0 r) ≡ tag_mode by_standard false (Action.add new) (mode_of (top 0 r))
unfolding in_context mode_of tag_mode context_after root_after flag_after context_number
mode-still b r new = refl

-- the root
module _ (by_standard : Bool) (t : Tag) (r : Reader) where
  pub root-start : Acted by_standard (Event.start t) (in_context Context.no_context r) (Action.root (or_empty (seen t).target_namespace))
      (top 0 (found_root (seen t) (in_context Context.no_context r)))
  unfolding in_context found_root mode_of mode_after tag_mode raises context_after root_after flag_after reader_rows context_rows context_number
      nesting extension_flag namespace_after rows_after Fitting
  root-start = record { mode = refl; namespace = refl; rows = refl; items = λ h. refl; fitting = tt }

  pub root-empty : Acted by_standard (Event.empty t) (in_context Context.no_context r) (Action.root (or_empty (seen t).target_namespace))
      (found_root (seen t) (in_context Context.no_context r))
  unfolding found_root mode_of mode_after tag_mode context_after root_after flag_after reader_rows namespace_after rows_after Fitting
  root-empty = record { mode = refl; namespace = refl; rows = refl; items = λ h. refl; fitting = tt }

  -- a type opened
  pub simple-opened : (m : ℕ) (name : Text) → Acted by_standard (Event.start t) (top 0 r) (Action.open_simple m name) (in_context (open_simple_type m name) (top 0 r))
  unfolding in_context open_simple_type open_simple_row mode_of mode_after tag_mode raises opens_type context_after root_after flag_after reader_rows context_rows simple_type_rows
      context_number nesting extension_flag namespace_after rows_after Fitting
  simple-opened m name = record { mode = refl; namespace = refl; rows = row-behind (items_rows r.schema.items) (open_simple_row m name); items = λ h. refl; fitting = tt }

  pub complex-opened : (m : ℕ) (name : Text) → Acted by_standard (Event.start t) (top 0 r) (Action.open_complex m name) (in_context (open_complex_type m name) (top 0 r))
  unfolding in_context open_complex_type open_complex_row mode_of mode_after tag_mode raises opens_type context_after root_after flag_after reader_rows context_rows complex_type_rows
      context_number nesting extension_flag content_flag namespace_after rows_after Fitting
  complex-opened m name = record { mode = refl; namespace = refl; rows = row-behind (items_rows r.schema.items) (open_complex_row m name); items = λ h. refl; fitting = tt }
