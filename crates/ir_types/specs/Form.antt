-- The test of a graph sheet's form: paper 01, "Graph sheet".
--     used_pairs tag a         how many pairs a row uses
--     form_a, form_b, form_c     a, b and c are what the tag allows; c of a head is not judged; ten_form: all of it, and the tag is known
--     is_type_tag, is_child, may_follow    which tag may stand behind which
--     head_after     the head behind which the next row stands
--     in_order       roots before types, children behind their head
--     tags_of, count the tags of rows, and how many of them pass a test
--     row0_form, rows_form, names_form    row 0's zeros; the rows behind it, as many as it says; the used pairs
--     graph_form     all of it
use Rattle.std.specs.Prelude.{ℕ, suc, ◌+◌, List, [], ◌∷◌, map, Bool, true, false, ◌&&◌, ◌||◌, eqb, leb, if◌then◌else◌}
use Rattle.text.specs.Text.{every, is_graph_text, between}
use Rattle.sheet.specs.Rows.{Ten, Sheet}
use Rattle.sheet.specs.Form.{is_flag, covers, covered, tens_of, used_parts, zeros_behind, texts_pass}
use Rattle.ir_types.specs.Tags.{namespace_tag, root_tag, struct_tag, enum_tag, newtype_tag, code_enum_tag, value_with_attributes_tag, opaque_tag, field_tag}
use Rattle.ir_types.specs.Tags.{variant_tag, pattern_tag, min_length_tag, max_length_tag, total_digits_tag, fraction_digits_tag, code_tag, attribute_tag}
use Rattle.ir_types.specs.Row0.{GraphRow0, graph_row0_in}

-- none for lengths and digits; of a value, a field, a variant and an attribute the last one where the reference is named; of an opaque type the
-- second where a is 1; two for a root and a code; one for the others
unfoldable pub used_pairs : ℕ → ℕ → ℕ
used_pairs tag a =
    if between min_length_tag max_length_tag tag || between total_digits_tag fraction_digits_tag tag then 0 else
    if eqb tag opaque_tag then 1 + a else
    if eqb tag value_with_attributes_tag then (if eqb a 0 then 2 else 1) else
    if between field_tag variant_tag tag || eqb tag attribute_tag then (if eqb a 0 then 3 else 2) else
    if eqb tag root_tag || eqb tag code_tag then 2 else 1

unfoldable pub is_type_tag : ℕ → Bool
is_type_tag tag = between struct_tag opaque_tag tag

-- a: the inner type of a newtype, "1 String, 2 Bool, 3 Decimal, 4 Date, 5 DateTime", with "0 named" the reference of a value, a field, a variant
-- and an attribute, a flag of an opaque type, a number of lengths and digits
unfoldable pub form_a : ℕ → ℕ → Bool
form_a tag a =
    if eqb tag newtype_tag then between 1 5 a else
    if eqb tag value_with_attributes_tag || between field_tag variant_tag tag || eqb tag attribute_tag then leb a 5 else
    if eqb tag opaque_tag then is_flag a else (between min_length_tag max_length_tag tag || between total_digits_tag fraction_digits_tag tag || eqb a 0)

-- b: of a field the "cardinality 0 required, 1 optional, 2 vec, 3 bounded", a flag of an attribute, a number of lengths
unfoldable pub form_b : ℕ → ℕ → Bool
form_b tag b =
    if eqb tag field_tag then leb b 3 else
    if eqb tag attribute_tag then is_flag b else (between min_length_tag max_length_tag tag || eqb b 0)

-- c: of a field "3 bounded with c the bound, above 1"; not judged in a head; else 0
unfoldable pub form_c : ℕ → ℕ → ℕ → Bool
form_c tag b c = between root_tag opaque_tag tag || (if eqb tag field_tag && eqb b 3 then leb 2 c else eqb c 0)

unfoldable pub ten_form : Ten → Bool
ten_form t = between root_tag attribute_tag t.tag && form_a t.tag t.a && form_b t.tag t.b && form_c t.tag t.b t.c

-- fields behind a struct, variants behind an enum, constraints behind a newtype, codes behind a code enum, attributes behind a value
unfoldable pub is_child : ℕ → ℕ → Bool
is_child head tag =
    (eqb head struct_tag && eqb tag field_tag) || (eqb head enum_tag && eqb tag variant_tag)
    || (eqb head newtype_tag && between pattern_tag fraction_digits_tag tag) || (eqb head code_enum_tag && eqb tag code_tag)
    || (eqb head value_with_attributes_tag && eqb tag attribute_tag)

-- behind row 1 or a root a root may stand
unfoldable pub may_follow : ℕ → ℕ → Bool
may_follow head tag = is_type_tag tag || is_child head tag || (leb head root_tag && eqb tag root_tag)

unfoldable pub head_after : ℕ → ℕ → ℕ
head_after head tag = if is_type_tag tag || eqb tag root_tag then tag else head

unfoldable pub in_order : ℕ → List ℕ → Bool
in_order head [] = true
in_order head (tag ∷ tags) = may_follow head tag && in_order (head_after head tag) tags

unfoldable pub count : (ℕ → Bool) → List ℕ → ℕ
count p [] = 0
count p (x ∷ xs) = if p x then suc (count p xs) else count p xs

unfoldable pub tags_of : List Ten → List ℕ
tags_of ts = map (λ (t : Ten). t.tag) ts

-- "Row 0: 0, rows used, names used, root elements, types, then zeros."
unfoldable pub row0_form : GraphRow0 → Bool
row0_form z = eqb z.first 0 && eqb z.zero5 0 && eqb z.zero6 0 && eqb z.zero7 0 && eqb z.zero8 0 && eqb z.zero9 0

-- "Row 1: tag 1, namespace. Then roots, then types, children behind each."
unfoldable pub rows_form : GraphRow0 → List Ten → Bool
rows_form z [] = false
rows_form z (n ∷ ts) =
    eqb n.tag 1 && eqb n.a 0 && eqb n.b 0 && eqb n.c 0 && every ten_form ts && in_order namespace_tag (tags_of ts)
    && eqb z.root_elements (count (λ tag. eqb tag root_tag) (tags_of ts)) && eqb z.types (count is_type_tag (tags_of ts))

unfoldable pub names_form : ℕ → List Ten → Bool
names_form names_used ts = covers used_pairs 0 ts && eqb (covered 0 ts) names_used

-- order 12: "in .. the graph form each used pair by itself holds such text, in graphs also U+02BC, U+0307 and U+039C"
unfoldable pub graph_form : Sheet → Bool
graph_form x =
    let z = graph_row0_in x in
    let ts = tens_of x in
    used_parts x && row0_form z && rows_form z ts && names_form z.names_used ts && zeros_behind x && texts_pass is_graph_text used_pairs x
