-- The tag of the open type's head: the context says it, and behind the other rows of a sheet the head is found at its place. Assumes nothing.
use mathlib.Core.Path.{◌≡◌, refl, subst, ◌∙◌}
use mathlib.Core.Bool.{true, false≢true}
use mathlib.Core.List.{List, [], ◌∷◌}
use mathlib.Core.Option.{some, none}
use Prim.Native.Nat.{ℕ, ◌+◌, ◌*◌, ◌/◌, ◌≤◌, ◌<◌}
use native.Mathlib.Omega.{arith}
use lib.ListN.{length, get_or, length-append}
use Rattle.text.specs.Text.{Text}
use Rattle.sheet.specs.Rows.{Row, row}
use Rattle.xsd_types.specs.State.{ComplexContentBuilder, Context, Reader}
use Rattle.xsd_types.specs.Rows.{simple_type_rows, complex_type_rows, items_rows, context_rows, context_number, namespace_row}
use Rattle.xsd_types.proofs.Laws.Groups.{is_group, head_tag as first_tag}
use Rattle.xsd_types.proofs.Laws.StateOf.{group-length}
use Rattle.xsd_good.proofs.Laws.Open.{context-group, group-tag-at}
use Rattle.xsd_actions.specs.Actions.{content_tag, head_tag, reader_rows}
use Rattle.rows.specs.Packing.{Packs}
use Rattle.rows.proofs.Laws.Middle.{rows_fit}

-- where no type is open there is no head
pub head-none-open : (c : Context) → context_number c < 2 → 0 ≡ head_tag c
unfolding context_number head_tag
head-none-open Context.no_context h = refl
head-none-open (Context.in_schema n) h = refl
head-none-open (Context.in_simple_type t) h = absurd (omega arith)
head-none-open (Context.in_complex_type t) h = absurd (omega arith)

pub content-tag : (event : ℕ) (name : Text) (c : ComplexContentBuilder) → first_tag (complex_type_rows event name c) ≡ content_tag c
unfolding first_tag complex_type_rows row content_tag
content-tag event name ComplexContentBuilder.empty = refl
content-tag event name (ComplexContentBuilder.sequence es) = refl
content-tag event name (ComplexContentBuilder.choice vs) = refl
content-tag event name (ComplexContentBuilder.simple_content base xs flag) = refl
content-tag event name (ComplexContentBuilder.any none) = refl
content-tag event name (ComplexContentBuilder.any (some n)) = refl

-- the first of the open type's rows has the tag that the context says, 0 where there is none
pub head-tag : (c : Context) → first_tag (context_rows c) ≡ head_tag c
unfolding first_tag context_rows simple_type_rows row head_tag
head-tag Context.no_context = refl
head-tag (Context.in_schema n) = refl
head-tag (Context.in_simple_type t) = refl
head-tag (Context.in_complex_type t) = content-tag t.head.event t.head.name t.content

-- rows that begin with a head of a tag
pub record FirstRow (rs : List Row) (tag : ℕ) : Type 0 where
  pub head : Row
  pub kids : List Row
  pub is : rs ≡ head ∷ kids
  pub tag_is : head.tag ≡ tag

pub group-first : (rs : List Row) → is_group rs ≡ true → FirstRow rs (first_tag rs)
unfolding is_group first_tag
group-first [] g = absurd (false≢true g)
group-first (r ∷ rs) g = record { head = r; kids = rs; is = refl; tag_is = refl }

pub open-rows : (c : Context) → 2 ≤ context_number c → FirstRow (context_rows c) (head_tag c)
open-rows c h = subst (FirstRow (context_rows c)) (head-tag c) (group-first (context_rows c) (context-group c h))

module _ {rows names z : List ℕ} where
  module _ (ns : Text) (r : Reader) (p : Packs rows names z (namespace_row ns ∷ reader_rows r)) (h : 2 ≤ context_number r.context) where
    -- the open head's tag stands at its place, which is inside the sheet
    pub head-tag-at : (n : ℕ) → n ≡ 2 + length (items_rows r.schema.items) → get_or rows (10 * n) 0 ≡ head_tag r.context
    unfolding reader_rows
    head-tag-at n e = group-tag-at (namespace_row ns ∷ items_rows r.schema.items) (context_rows r.context) n (context-group r.context h) p (omega arith) ∙ head-tag r.context

    pub head-inside : 2 + length (items_rows r.schema.items) < length rows / 10
    unfolding reader_rows
    head-inside =
        let one = group-length (context_rows r.context) (context-group r.context h) in
        omega (arith, rows_fit p, length-append (items_rows r.schema.items) (context_rows r.context))
