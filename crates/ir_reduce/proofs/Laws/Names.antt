-- The names of the types of a graph's rows are those of the definitions that the rows hold. Both read the rows from the last to the first. Assumes nothing.
use Rattle.std.specs.Prelude.{if◌then◌else◌}
use Prim.Native.Nat.{ℕ}
use mathlib.Core.Path.{◌≡◌, refl, sym, ap, ◌∙◌}
use mathlib.Core.Bool.{Bool, true, false}
use mathlib.Core.List.{List, [], ◌∷◌, map}
use lib.Dec.{eqb}
use Rattle.text.specs.Text.{Text}
use Rattle.sheet.specs.Rows.{Row}
use Rattle.ir_types.specs.Tags.{struct_tag, enum_tag, newtype_tag, code_enum_tag, value_with_attributes_tag}
use Rattle.ir_types.specs.Types.{TypeDef, TypeGraph, name_of}
use Rattle.ir_types.specs.Distinct.{type_names}
use Rattle.ir_types.specs.Form.{is_type_tag}
use Rattle.ir_types.specs.Ok.{graph_ok}
use Rattle.ir_types.specs.Rows.{rows_of}
use Rattle.ir_types.specs.Sheet.{graph_sheet}
use Rattle.ir_types.specs.Back.{text, type_of, Behind, with_row, types_back}
use Rattle.ir_types.proofs.Laws.Back.{sheet-rows, rows-types}
use Rattle.ir_reduce.specs.Groups.{Parted, add_graph_row, parted, type_name}
use Rattle.ir_reduce.specs.Call.{rows_in, graph_in}

pick-name : (b : Bool) (d e : TypeDef) (t : Text) → name_of d ≡ t → name_of e ≡ t → name_of (if b then d else e) ≡ t
pick-name true d e t p q = p
pick-name false d e t p q = q

name-of : (r : Row) (cs : List Row) → name_of (type_of r cs) ≡ text 0 r
unfolding type_of name_of
name-of r cs =
    pick-name (eqb r.tag struct_tag) _ _ (text 0 r) refl
    (pick-name (eqb r.tag enum_tag) _ _ (text 0 r) refl
    (pick-name (eqb r.tag newtype_tag) _ _ (text 0 r) refl
    (pick-name (eqb r.tag code_enum_tag) _ _ (text 0 r) refl
    (pick-name (eqb r.tag value_with_attributes_tag) _ _ (text 0 r) refl refl))))

names-added : (r : Row) (p : Parted) (b : Behind) (c : Bool) → is_type_tag r.tag ≡ c → map type_name p.types ≡ map name_of b.types
    → map type_name (add_graph_row r p).types ≡ map name_of (with_row r b).types
unfolding add_graph_row with_row is_type_tag type_name
names-added r p b true e h = rw e (λ i. sym (name-of r b.children) i ∷ h i)
names-added r p b false e h = rw e h

names-back : (rs : List Row) → map type_name (parted rs).types ≡ map name_of (types_back rs).types
unfolding parted types_back
names-back [] = refl
names-back (r ∷ rs) = names-added r (parted rs) (types_back rs) (is_type_tag r.tag) refl (names-back rs)

pub sheet-names : (g : TypeGraph) (r n : ℕ) → graph_ok g ≡ true → map type_name (graph_in (graph_sheet g r n)).types ≡ type_names g.types
unfolding graph_in rows_in type_names
sheet-names g r n h = ap (λ (rs : List Row). map type_name (parted rs).types) (sheet-rows g r n h) ∙ names-back (rows_of g) ∙ ap (λ (ds : List TypeDef). map name_of ds) (rows-types g)
