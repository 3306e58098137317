-- The rows of the open type: a head and children, which are no heads. Behind the other rows of a sheet the head is found at its place, and it is the
-- last head. Assumes nothing.
use mathlib.Core.Path.{◌≡◌, sym, ap, subst, ◌∙◌}
use mathlib.Core.Bool.{true, false, false≢true}
use mathlib.Core.List.{List, [], ◌∷◌, ◌++◌, append-nil, append_assoc}
use Prim.Native.Nat.{ℕ, ◌+◌, ◌-◌, ◌*◌, ◌≤◌}
use native.Mathlib.Omega.{arith}
use lib.ListN.{length, get_or}
use Rattle.text.specs.Text.{every}
use Rattle.std.proofs.lemmas.Bool.{and_parts}
use Rattle.text.proofs.Laws.Every.{every-head, every-tail}
use Rattle.sheet.specs.Rows.{Row, numbers, pack_row}
use Rattle.xsd_types.specs.State.{Context, State}
use Rattle.xsd_types.specs.Rows.{items_rows, context_rows, context_number, namespace_row, rows_of}
use Rattle.xsd_types.specs.Good.{is_head, is_child}
use Rattle.xsd_types.proofs.Laws.Order.{tags, child_of, child-no-head}
use Rattle.xsd_types.proofs.Laws.Groups.{is_group, head_tag as first_tag}
use Rattle.xsd_types.proofs.Laws.Items.{group-simple, group-complex}
use Rattle.rows.specs.Packing.{Packs, numbers_of}
use Rattle.rows.proofs.Laws.Middle.{number_at}
use Rattle.rows.proofs.Laws.Write.{length_more}
use Rattle.xsd_good.specs.Heads.{head_row}
use Rattle.xsd_good.proofs.Laws.Heads.{head-hit, head-on}

-- the open type's rows are a head and its children
pub context-group : (c : Context) → 2 ≤ context_number c → is_group (context_rows c) ≡ true
unfolding context_number context_rows
context-group Context.no_context h = absurd (omega arith)
context-group (Context.in_schema n) h = absurd (omega arith)
context-group (Context.in_simple_type t) h = group-simple t.head.event t.head.name t.base t.facets
context-group (Context.in_complex_type t) h = group-complex t.head.event t.head.name t.content

module _ {rows names z : List ℕ} where
  -- the tag of a row in a sheet
  pub tag_at : (rs us : List Row) (r : Row) (n : ℕ) → Packs rows names z (rs ++ r ∷ us) → n ≡ 1 + length rs → get_or rows (10 * n) 0 ≡ r.tag
  unfolding numbers_of numbers pack_row
  tag_at rs us r n p e = number_at rs us r 0 (10 * n) p (omega arith) (omega arith)

  -- the tag of the first row of a group behind other rows
  pub group-tag-at : (rs gs : List Row) (n : ℕ) → is_group gs ≡ true → Packs rows names z (rs ++ gs) → n ≡ 1 + length rs → get_or rows (10 * n) 0 ≡ first_tag gs
  unfolding is_group first_tag
  group-tag-at rs [] n g p e = absurd (false≢true g)
  group-tag-at rs (r ∷ us) n g p e = tag_at rs us r n p e

  -- the row behind others is the last head, or those before it have the last head
  pub head-row-hit : (rs us : List Row) (r : Row) → Packs rows names z (rs ++ r ∷ us) → is_head r.tag ≡ true → head_row rows (1 + length (rs ++ r ∷ [])) ≡ 1 + length rs
  head-row-hit rs us r p h =
      let n = 1 + length (rs ++ r ∷ []) in
      let e : n - 1 ≡ 1 + length rs = omega (arith, length_more rs r) in
      sym (head-hit rows n (omega arith) (ap is_head (tag_at rs us r (n - 1) p e) ∙ h)) ∙ e

  pub head-row-on : (rs us : List Row) (r : Row) → Packs rows names z (rs ++ r ∷ us) → is_head r.tag ≡ false → head_row rows (1 + length (rs ++ r ∷ [])) ≡ head_row rows (1 + length rs)
  head-row-on rs us r p h =
      let n = 1 + length (rs ++ r ∷ []) in
      let e : n - 1 ≡ 1 + length rs = omega (arith, length_more rs r) in
      sym (head-on rows n (omega arith) (ap is_head (tag_at rs us r (n - 1) p e) ∙ h)) ∙ ap (head_row rows) e

  pub head-row-children : (tag : ℕ) (rs us : List Row) → every (is_child tag) (tags us) ≡ true → Packs rows names z (rs ++ us) → head_row rows (1 + length (rs ++ us)) ≡ head_row rows (1 + length rs)
  head-row-children tag rs [] c p = rw append-nil
  head-row-children tag rs (u ∷ us) c p =
      let e = sym (append_assoc rs (u ∷ []) us) in
      let no = child-no-head (child_of tag u.tag (every-head (is_child tag) u.tag (tags us) c)) in
      ap (λ (l : List Row). head_row rows (1 + length l)) e
      ∙ head-row-children tag (rs ++ u ∷ []) us (every-tail (is_child tag) u.tag (tags us) c) (subst (Packs rows names z) e p)
      ∙ head-row-on rs us u p no

  pub head-row-group : (rs gs : List Row) → is_group gs ≡ true → Packs rows names z (rs ++ gs) → head_row rows (1 + length (rs ++ gs)) ≡ 1 + length rs
  unfolding is_group
  head-row-group rs [] g p = absurd (false≢true g)
  head-row-group rs (r ∷ us) g p =
      let e = sym (append_assoc rs (r ∷ []) us) in
      let both = and_parts (is_head r.tag) (every (is_child r.tag) (tags us)) g in
      ap (λ (l : List Row). head_row rows (1 + length l)) e
      ∙ head-row-children r.tag (rs ++ r ∷ []) us both.1 (subst (Packs rows names z) e p)
      ∙ head-row-hit rs us r p both.0

-- the open type's head is the last head of the used rows
pub open-head-is : {rows names z : List ℕ} (s : State) → Packs rows names z (rows_of s) → 2 ≤ context_number s.reader.context
    → head_row rows (1 + length (rows_of s)) ≡ 2 + length (items_rows s.reader.schema.items)
unfolding rows_of
open-head-is s p k =
    let rs = namespace_row s.reader.schema.target_namespace ∷ items_rows s.reader.schema.items in
    let c = s.reader.context in
    head-row-group rs (context_rows c) (context-group c k) p ∙ omega arith
