-- Order 8's readings by computation: the text of each kind of item, values that XML cannot hold, and the call's numbers in their order.
--     writes        the text of items
use Rattle.std.specs.Prelude.{◌≡◌, refl, true, false, not, List, [], ◌∷◌, ◌++◌, replicate}
use Rattle.std.proofs.Math.Option.{some, none}
use Rattle.text.specs.Text.{Text, bytes, every}
use Rattle.text.specs.Unfold.{computes as texts}
use Rattle.sheet.specs.Rows.{filled}
use Rattle.sheet.specs.Unfold.{computes as sheets}
use Rattle.xsd_types.specs.Types.{Facet, MaxOccurs, ComplexContent, Item, Schema}
use Rattle.xsd_types.specs.State.{State, Context, first_state}
use Rattle.xsd_types.specs.Count.{sheet_of}
use Rattle.xsd_types.specs.Unfold.{computes as schemas}
use Rattle.xml.specs.Unfold.{computes as takes}
use Rattle.xsd_written.specs.Decimal.{decimal}
use Rattle.xsd_written.specs.Markup.{markups_text}
use Rattle.xsd_written.specs.Schema.{items_markup, schema_text}
use Rattle.xsd_written.specs.Call.{holds, write_back}
use Rattle.xsd_written.specs.ByRows.{schema_by_rows}
use Rattle.xsd_written.specs.Unfold.{computes}

-- "numbers are plain"
digits : decimal 0 ++ bytes " " ++ decimal 10 ++ bytes " " ++ decimal 18446744073709551615 ≡ bytes "0 10 18446744073709551615"
unfolding computes texts
digits = refl

abbrev writes : List Item → Text
writes is = markups_text (items_markup is)

element-text : writes (Item.element (record { name = bytes "D"; type_name = bytes "T"; event = 3 }) ∷ []) ≡ bytes "<xs:element name=\"D\" type=\"T\"/>"
unfolding computes texts
element-text = refl

-- é in UTF-8, as in the sheet
accent-text : writes (Item.element (record { name = 195 ∷ 169 ∷ []; type_name = bytes "T"; event = 3 }) ∷ []) ≡ bytes "<xs:element name=\"" ++ 195 ∷ 169 ∷ bytes "\" type=\"T\"/>"
unfolding computes texts
accent-text = refl

-- "A simpleType holds a restriction"; an empty base stands too
simple-text : writes (Item.simple_type (record { name = bytes "S"; base = []; facets = Facet.max_length 5000000000 ∷ Facet.pattern (bytes "a\"b") ∷ []; event = 0 }) ∷ [])
    ≡ bytes "<xs:simpleType name=\"S\"><xs:restriction base=\"\"><xs:maxLength value=\"5000000000\"/><xs:pattern value='a\"b'/></xs:restriction></xs:simpleType>"
unfolding computes texts
simple-text = refl

-- occurrences stand also where they are the defaults
sequence-text : writes (Item.complex_type (record {
  name = bytes "C";
  content = ComplexContent.sequence (record { name = bytes "a"; type_name = bytes "S"; min_occurs = 1; max_occurs = MaxOccurs.bounded 1 }
      ∷ record { name = bytes "b"; type_name = bytes "S"; min_occurs = 0; max_occurs = MaxOccurs.unbounded } ∷ []);
  event = 0;
}) ∷ [])
    ≡ bytes "<xs:complexType name=\"C\"><xs:sequence><xs:element name=\"a\" type=\"S\" minOccurs=\"1\" maxOccurs=\"1\"/>"
    ++ bytes "<xs:element name=\"b\" type=\"S\" minOccurs=\"0\" maxOccurs=\"unbounded\"/></xs:sequence></xs:complexType>"
unfolding computes texts
sequence-text = refl

-- "all others open and close", with nothing in them too
empty-sequence-text : writes (Item.complex_type (record { name = bytes "C"; content = ComplexContent.sequence []; event = 0 }) ∷ [])
    ≡ bytes "<xs:complexType name=\"C\"><xs:sequence></xs:sequence></xs:complexType>"
unfolding computes texts
empty-sequence-text = refl

choice-text : writes (Item.complex_type (record { name = bytes "C"; content = ComplexContent.choice (record { name = bytes "v"; type_name = bytes "S" } ∷ []); event = 0 }) ∷ [])
    ≡ bytes "<xs:complexType name=\"C\"><xs:choice><xs:element name=\"v\" type=\"S\"/></xs:choice></xs:complexType>"
unfolding computes texts
choice-text = refl

-- "`use` only if required"
simple-content-text : writes (Item.complex_type (record {
  name = bytes "C";
  content = ComplexContent.simple_content (bytes "B") (record { name = bytes "p"; type_name = bytes "S"; required = true } ∷ record { name = bytes "q"; type_name = bytes "S"; required = false } ∷ []);
  event = 0;
}) ∷ [])
    ≡ bytes "<xs:complexType name=\"C\"><xs:simpleContent><xs:extension base=\"B\">"
    ++ bytes "<xs:attribute name=\"p\" type=\"S\" use=\"required\"/><xs:attribute name=\"q\" type=\"S\"/></xs:extension></xs:simpleContent></xs:complexType>"
unfolding computes texts
simple-content-text = refl

-- "`namespace` only if present"
any-text : writes (Item.complex_type (record { name = bytes "C"; content = ComplexContent.any none; event = 0 })
    ∷ Item.complex_type (record { name = bytes "E"; content = ComplexContent.any (some []); event = 0 }) ∷ [])
    ≡ bytes "<xs:complexType name=\"C\"><xs:sequence><xs:any/></xs:sequence></xs:complexType><xs:complexType name=\"E\"><xs:sequence><xs:any namespace=\"\"/></xs:sequence></xs:complexType>"
unfolding computes texts
any-text = refl

unfoldable small : Schema
small = record { target_namespace = bytes "urn:it's"; items = Item.element (record { name = bytes "D"; type_name = bytes "T"; event = 1 }) ∷ [] }

unfoldable small_text : Text
small_text = bytes "<xs:schema xmlns:xs=\"http://www.w3.org/2001/XMLSchema\" targetNamespace=\"urn:it's\"><xs:element name=\"D\" type=\"T\"/></xs:schema>"

small-text : schema_text small ≡ small_text
unfolding computes texts small small_text
small-text = refl

small-by-rows : schema_by_rows small ≡ small_text
unfolding computes texts sheets schemas small small_text
small-by-rows = refl

-- a head closes the one before it
two-by-rows : schema_by_rows (record {
  target_namespace = [];
  items = Item.simple_type (record { name = bytes "S"; base = bytes "b"; facets = Facet.enumeration (bytes "v") ∷ []; event = 0 })
      ∷ Item.complex_type (record { name = bytes "C"; content = ComplexContent.any none; event = 0 }) ∷ [];
})
    ≡ bytes "<xs:schema xmlns:xs=\"http://www.w3.org/2001/XMLSchema\" targetNamespace=\"\"><xs:simpleType name=\"S\"><xs:restriction base=\"b\"><xs:enumeration value=\"v\"/>"
    ++ bytes "</xs:restriction></xs:simpleType><xs:complexType name=\"C\"><xs:sequence><xs:any/></xs:sequence></xs:complexType></xs:schema>"
unfolding computes texts sheets schemas
two-by-rows = refl

-- "a `<`, both quotes, a forbidden control byte, a `&` that starts no predefined entity or legal character reference"
held : every holds (bytes "" ∷ bytes "it's"
    ∷ bytes "a\"b" ∷ bytes ">]]>" ∷ bytes "&amp;&lt;&gt;&apos;&quot;" ∷ bytes "&#0065;&#x10FFFF;" ∷ (9 ∷ 10 ∷ 13 ∷ 32 ∷ 127 ∷ []) ∷ (195 ∷ 169 ∷ 195 ∷ 151 ∷ []) ∷ []) ≡ true
unfolding computes texts takes
held = refl

unheld : every (λ (v : Text). not (holds v)) (bytes "a<" ∷ bytes "\"'" ∷ (8 ∷ []) ∷ (31 ∷ []) ∷ bytes "&"
    ∷ bytes "&amp" ∷ bytes "&nbsp;" ∷ bytes "&#0;" ∷ bytes "&#X41;" ∷ bytes "&#x110000;" ∷ []) ≡ true
unfolding computes texts takes
unheld = refl

-- a type is open in the sheet: it is not written
unfoldable with_open : Schema → State
with_open s =
    record {
      reader = record { schema = s; root_seen = true; context = Context.in_simple_type (record { head = record { name = bytes "<"; event = 2 }; base = []; facets = []; nesting_depth = 0 }) };
      events = 3;
      open_tags = 2;
      by_standard = false;
    }

wrote : write_back (sheet_of (with_open small) 60 40) (replicate 130 7) ≡ record { number = 0; place = 125; text = filled 130 small_text }
unfolding computes texts sheets schemas takes with_open small small_text
wrote = refl

-- 22 before 23; the place is the row, 1 for the namespace
namespace-unheld : write_back (sheet_of (with_open (record { target_namespace = bytes "&"; items = [] })) 40 40) (7 ∷ []) ≡ record { number = 22; place = 1; text = 0 ∷ [] }
unfolding computes texts sheets schemas takes with_open
namespace-unheld = refl

name-unheld : write_back (sheet_of (with_open (record { target_namespace = []; items = Item.element (record { name = []; type_name = bytes "<"; event = 0 }) ∷ [] })) 40 40) []
    ≡ record { number = 22; place = 2; text = [] }
unfolding computes texts sheets schemas takes with_open
name-unheld = refl

-- "23 text longer than lent"
short : write_back (sheet_of (with_open small) 60 40) (replicate 3 7) ≡ record { number = 23; place = 0; text = replicate 3 0 }
unfolding computes texts sheets schemas takes with_open small
short = refl

-- 12: a cleared sheet
no-root : write_back (sheet_of (first_state true) 20 0) (7 ∷ 7 ∷ []) ≡ record { number = 12; place = 0; text = 0 ∷ 0 ∷ [] }
unfolding computes texts sheets schemas takes
no-root = refl

-- 2 and 1 leave the text
not_good : write_back (record { rows = replicate 20 1; names = [] }) (7 ∷ []) ≡ record { number = 2; place = 0; text = 7 ∷ [] }
unfolding computes texts sheets schemas takes
not_good = refl

bad-length : write_back (record { rows = replicate 10 0; names = [] }) (7 ∷ []) ≡ record { number = 1; place = 0; text = 7 ∷ [] }
unfolding computes texts sheets schemas takes
bad-length = refl
