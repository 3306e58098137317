-- The parts of a row's text as the code writes them (the crate `xsd_written`, specs/ByRows.antt, has the whole).
--     given_row         a row of numbers with its texts; as_row: that of the code's row
--     quoted_value        a value between its quotes
--     named_opening         an opening that ends before the name's value, the name, and the type
--     content_text   what a complex type opens behind its name
--     row_text       a row behind a head of the tag `pending`: a head first closes that one; schema_rows: the whole
use Rattle.std.specs.Prelude.{ℕ, List, [], ◌∷◌, ◌++◌, eqb, if◌then◌else◌}
use Rattle.text.specs.Text.{Text, bytes}
use Rattle.sheet.specs.Rows.{Row, unpack_row}
use Rattle.rows.specs.declared.ten.Ten.{Ten as Numbers}
use Rattle.xsd_write.specs.declared.part.Row.{Row as Given}
use Rattle.rows.specs.Ten.{as_ten}
use Rattle.xsd_types.specs.Tags.{sequence_tag, choice_tag, simple_content_tag}
use Rattle.xsd_types.specs.Good.{used_pairs, is_head}
use Rattle.xsd_types.specs.Back.{text0, text1}
use Rattle.xml.specs.Written.{quote_of}
use Rattle.xsd_written.specs.ByRows.{attribute_text, any_text, head_markup, child_text, close_text, rows_text}

abbrev pub given_row : List ℕ → Numbers → Row
given_row names t = unpack_row used_pairs names (as_ten t)

abbrev pub as_row : Given → Row
as_row r = given_row r.names.now r.numbers

unfoldable pub quoted_value : Text → Text
quoted_value v = quote_of v ∷ (v ++ quote_of v ∷ [])

unfoldable pub named_opening : Text → Row → Text
named_opening opening r = (opening ++ quoted_value (text0 r)) ++ attribute_text "type" (text1 r)

unfoldable pub content_text : Row → Text
content_text r =
    if eqb r.tag sequence_tag then bytes "><xs:sequence>" else
    if eqb r.tag choice_tag then bytes "><xs:choice>" else
    if eqb r.tag simple_content_tag then bytes "><xs:simpleContent><xs:extension" ++ (attribute_text "base" (text1 r) ++ bytes ">")
    else bytes "><xs:sequence><xs:any" ++ (any_text r ++ bytes "/>")

unfoldable pub row_text : ℕ → Row → Text
row_text pending r = if is_head r.tag then close_text pending ++ head_markup r else child_text r

-- the whole, by the namespace and the rows behind its row
unfoldable pub schema_rows : Text → List Row → Text
schema_rows n rs =
    bytes "<xs:schema xmlns:xs=\"http://www.w3.org/2001/XMLSchema\"" ++ (attribute_text "targetNamespace" n ++ (bytes ">" ++ (rows_text 0 rs ++ bytes "</xs:schema>")))
