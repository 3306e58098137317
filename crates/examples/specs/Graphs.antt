-- The graph of each kind of type, by computation, in exactly the room that it needs.
use Rattle.std.specs.Prelude.{◌≡◌, refl, [], ◌∷◌}
use Rattle.xsd_types.specs.Examples.Sheets.{line, no_namespace, filled_sheet}
use Rattle.xsd_parser.specs.Examples.Tapes.{start, empty, close, type_attributes, based, value_attribute, schema, simple_type, complex_type}
use Rattle.examples.specs.Calls.{lowered_by_call, compiles, compiled, called}

-- ---- simple types

-- "Facets all enumerations and not none: code enum"; its base is not looked at (G6)
code-enum :
    compiles (schema ∷ simple_type "S" ∷ empty "restriction" (based "QName") ∷ empty "enumeration" (value_attribute "A-B")
    ∷ empty "enumeration" (value_attribute "x") ∷ close ∷ []) 50 8 64
    ≡ compiled 6 (lowered_by_call 0 5 (filled_sheet 50 8 (line 0 5 8 0 1 0 0 0 0 0 ∷ no_namespace ∷ line 6 0 1 0 0 0 0 0 0 1 ∷ line 18 1 3 4 2 0 0 0 0 0
    ∷ line 18 6 1 7 1 0 0 0 0 0 ∷ []) "SA-BABxX") 64)
unfolding called
code-enum = refl

-- no base at all
code-enum-no-base :
    compiles (schema ∷ simple_type "S" ∷ empty "enumeration" (value_attribute "a") ∷ close ∷ []) 40 3 64
    ≡ compiled 4 (lowered_by_call 0 4 (filled_sheet 40 3 (line 0 4 3 0 1 0 0 0 0 0 ∷ no_namespace ∷ line 6 0 1 0 0 0 0 0 0 1
    ∷ line 18 1 1 2 1 0 0 0 0 0 ∷ []) "SaA") 64)
unfolding called
code-enum-no-base = refl

-- "else newtype, enumerations dropped"; the facets' rows
newtype :
    compiles (schema ∷ simple_type "S" ∷ empty "restriction" (based "xs:string") ∷ empty "enumeration" (value_attribute "a")
    ∷ empty "pattern" (value_attribute "p") ∷ empty "minLength" (value_attribute "5000000000") ∷ empty "maxLength" (value_attribute "2")
    ∷ empty "minInclusive" (value_attribute "3") ∷ empty "maxInclusive" (value_attribute "4") ∷ empty "totalDigits" (value_attribute "5")
    ∷ empty "fractionDigits" (value_attribute "6") ∷ close ∷ []) 100 4 64
    ≡ compiled 12 (lowered_by_call 0 10 (filled_sheet 100 4 (line 0 10 4 0 1 0 0 0 0 0 ∷ no_namespace ∷ line 5 0 1 0 0 0 0 1 0 1 ∷ line 11 1 1 0 0 0 0 0 0 0
    ∷ line 12 0 0 0 0 0 0 705032704 1 0 ∷ line 13 0 0 0 0 0 0 2 0 0 ∷ line 14 2 1 0 0 0 0 0 0 0 ∷ line 15 3 1 0 0 0 0 0 0 0
    ∷ line 16 0 0 0 0 0 0 5 0 0 ∷ line 17 0 0 0 0 0 0 6 0 0 ∷ []) "Sp34") 64)
unfolding called
newtype = refl

-- "1 String, 2 Bool, 3 Decimal, 4 Date, 5 DateTime"
inner-types :
    compiles (schema ∷ simple_type "B" ∷ empty "restriction" (based "boolean") ∷ close ∷ simple_type "N"
    ∷ empty "restriction" (based "xs:float") ∷ close ∷ simple_type "D" ∷ empty "restriction" (based "my:date") ∷ close ∷ simple_type "M"
    ∷ empty "restriction" (based "dateTime") ∷ close ∷ []) 60 4 64
    ≡ compiled 13 (lowered_by_call 0 6 (filled_sheet 60 4 (line 0 6 4 0 4 0 0 0 0 0 ∷ no_namespace ∷ line 5 0 1 0 0 0 0 2 0 1 ∷ line 5 1 1 0 0 0 0 3 0 4
    ∷ line 5 2 1 0 0 0 0 4 0 7 ∷ line 5 3 1 0 0 0 0 5 0 10 ∷ []) "BNDM") 64)
unfolding called
inner-types = refl

-- ---- structs

-- min 1, max 1 by default: required. To shut out: "Max 0 as optional"; min 0, max 0 is required. Min 0, max 1: optional
optional-or-required :
    compiles (schema ∷ complex_type "C" ∷ start "sequence" [] ∷ empty "element" (type_attributes "a" "int")
    ∷ empty "element" (("name", "b") ∷ ("type", "int") ∷ ("minOccurs", "0") ∷ ("maxOccurs", "0") ∷ [])
    ∷ empty "element" (("name", "c") ∷ ("type", "int") ∷ ("minOccurs", "0") ∷ []) ∷ close ∷ close ∷ []) 60 7 64
    ≡ compiled 8 (lowered_by_call 0 6 (filled_sheet 60 7 (line 0 6 7 0 1 0 0 0 0 0 ∷ no_namespace ∷ line 3 0 1 0 0 0 0 0 0 1 ∷ line 9 1 1 2 1 0 0 3 0 0
    ∷ line 9 3 1 4 1 0 0 3 0 0 ∷ line 9 5 1 6 1 0 0 3 1 0 ∷ []) "Caabbcc") 64)
unfolding called
optional-or-required = refl

-- min 5, unbounded: vec. Min 0, max 2: bounded 2; "max above 1", min aside (G5). Min 5, max 1: required
vec-or-bounded :
    compiles (schema ∷ complex_type "C" ∷ start "sequence" []
    ∷ empty "element" (("name", "d") ∷ ("type", "int") ∷ ("minOccurs", "5") ∷ ("maxOccurs", "unbounded") ∷ [])
    ∷ empty "element" (("name", "e") ∷ ("type", "int") ∷ ("minOccurs", "0") ∷ ("maxOccurs", "2") ∷ [])
    ∷ empty "element" (("name", "f") ∷ ("type", "int") ∷ ("minOccurs", "7") ∷ ("maxOccurs", "3") ∷ [])
    ∷ empty "element" (("name", "g") ∷ ("type", "int") ∷ ("minOccurs", "5") ∷ []) ∷ close ∷ close ∷ []) 70 9 64
    ≡ compiled 9 (lowered_by_call 0 7 (filled_sheet 70 9 (line 0 7 9 0 1 0 0 0 0 0 ∷ no_namespace ∷ line 3 0 1 0 0 0 0 0 0 1 ∷ line 9 1 1 2 1 0 0 3 2 0
    ∷ line 9 3 1 4 1 0 0 3 3 2 ∷ line 9 5 1 6 1 0 0 3 3 3 ∷ line 9 7 1 8 1 0 0 3 0 0 ∷ []) "Cddeeffgg") 64)
unfolding called
vec-or-bounded = refl

-- "9 field (xml, Rust name, reference ..)"; "0 named (the pair, normalised)"; a built-in one leaves its pair unused (G3)
fields :
    compiles (schema ∷ complex_type "my_c" ∷ start "sequence" [] ∷ empty "element" (type_attributes "FooBar" "a_b")
    ∷ empty "element" (type_attributes "x" "my:date") ∷ close ∷ close ∷ []) 50 20 64
    ≡ compiled 7 (lowered_by_call 0 5 (filled_sheet 50 20 (line 0 5 20 0 1 0 0 0 0 0 ∷ no_namespace ∷ line 3 0 3 0 0 0 0 0 0 1 ∷ line 9 3 6 9 7 16 2 0 0 0
    ∷ line 9 18 1 19 1 0 0 4 0 0 ∷ []) "MyCFooBarfoo_barABxx") 64)
unfolding called
fields = refl

-- a prefix stays in a reference (G12)
prefixed-reference :
    compiles (schema ∷ complex_type "C" ∷ start "sequence" [] ∷ empty "element" (type_attributes "x" "my:a_b") ∷ close ∷ close ∷ []) 40 8 64
    ≡ compiled 6 (lowered_by_call 0 4 (filled_sheet 40 8 (line 0 4 8 0 1 0 0 0 0 0 ∷ no_namespace ∷ line 3 0 1 0 0 0 0 0 0 1
    ∷ line 9 1 1 2 1 3 5 0 0 0 ∷ []) "CxxMy:aB") 64)
unfolding called
prefixed-reference = refl

-- built-in names win, also where a type of the name is defined (G12)
builtin-wins :
    compiles (schema ∷ complex_type "date" ∷ close ∷ complex_type "C" ∷ start "sequence" [] ∷ empty "element" (type_attributes "x" "date") ∷ close
    ∷ close ∷ []) 50 7 64
    ≡ compiled 8 (lowered_by_call 0 5 (filled_sheet 50 7 (line 0 5 7 0 2 0 0 0 0 0 ∷ no_namespace ∷ line 8 0 4 0 0 0 0 0 0 1 ∷ line 3 4 1 0 0 0 0 0 0 3
    ∷ line 9 5 1 6 1 0 0 4 0 0 ∷ []) "dateCxx") 64)
unfolding called
builtin-wins = refl

-- ---- enums, values with attributes, opaque types

-- "10 variant (xml, same name, reference)": the name twice (G2)
variants :
    compiles (schema ∷ complex_type "C" ∷ start "choice" [] ∷ empty "element" (type_attributes "Foo" "T") ∷ empty "element" (type_attributes "b" "boolean")
    ∷ close ∷ close ∷ []) 50 10 64
    ≡ compiled 7 (lowered_by_call 0 5 (filled_sheet 50 10 (line 0 5 10 0 1 0 0 0 0 0 ∷ no_namespace ∷ line 4 0 1 0 0 0 0 0 0 1 ∷ line 10 1 3 4 3 7 1 0 0 0
    ∷ line 10 8 1 9 1 0 0 2 0 0 ∷ []) "CFooFooTbb") 64)
unfolding called
variants = refl

-- "7 value with attributes (name, reference)"; "19 attribute (xml, Rust name, reference, b required)"
value-with-attributes :
    compiles (schema ∷ complex_type "V" ∷ start "simpleContent" [] ∷ start "extension" (based "b_c")
    ∷ empty "attribute" (("name", "Ccy") ∷ ("type", "T") ∷ ("use", "required") ∷ []) ∷ empty "attribute" (type_attributes "x" "string") ∷ close
    ∷ close ∷ close ∷ []) 50 12 64
    ≡ compiled 9 (lowered_by_call 0 5 (filled_sheet 50 12 (line 0 5 12 0 1 0 0 0 0 0 ∷ no_namespace ∷ line 7 0 1 1 2 0 0 0 0 1 ∷ line 19 3 3 6 3 9 1 0 1 0
    ∷ line 19 10 1 11 1 0 0 1 0 0 ∷ []) "VBCCcyccyTxx") 64)
unfolding called
value-with-attributes = refl

-- a built-in base
value-builtin :
    compiles (schema ∷ complex_type "V" ∷ start "simpleContent" [] ∷ start "extension" (based "xs:decimal") ∷ close ∷ close
    ∷ close ∷ []) 30 1 64
    ≡ compiled 7 (lowered_by_call 0 3 (filled_sheet 30 1 (line 0 3 1 0 1 0 0 0 0 0 ∷ no_namespace ∷ line 7 0 1 0 0 0 0 3 0 1 ∷ []) "V") 64)
unfolding called
value-builtin = refl

-- no extension: the empty name is named, its pair at the end of the one before
value-no-base :
    compiles (schema ∷ complex_type "V" ∷ start "simpleContent" [] ∷ close ∷ close ∷ []) 30 1 64
    ≡ compiled 5 (lowered_by_call 0 3 (filled_sheet 30 1 (line 0 3 1 0 1 0 0 0 0 0 ∷ no_namespace ∷ line 7 0 1 1 0 0 0 0 0 1 ∷ []) "V") 64)
unfolding called
value-no-base = refl

-- "8 opaque (name; a and namespace as in 15)": present, absent, empty
opaque :
    compiles (schema ∷ complex_type "A" ∷ empty "any" (("namespace", "ab") ∷ []) ∷ close ∷ complex_type "B" ∷ close ∷ complex_type "D"
    ∷ empty "any" (("namespace", "") ∷ []) ∷ close ∷ []) 50 5 64
    ≡ compiled 9 (lowered_by_call 0 5 (filled_sheet 50 5 (line 0 5 5 0 3 0 0 0 0 0 ∷ no_namespace ∷ line 8 0 1 1 2 0 0 1 0 1 ∷ line 8 3 1 0 0 0 0 0 0 4
    ∷ line 8 4 1 5 0 0 0 1 0 6 ∷ []) "AabBD") 64)
unfolding called
opaque = refl

-- ---- order

-- "Then roots, then types", "simple ones before complex"; a root's type name is unchanged
roots-then-types :
    compiles (start "schema" (("targetNamespace", "n") ∷ []) ∷ complex_type "C" ∷ close ∷ simple_type "S" ∷ empty "restriction" (based "date")
    ∷ close ∷ empty "element" (type_attributes "D" "a_b") ∷ []) 50 7 64
    ≡ compiled 7 (lowered_by_call 0 5 (filled_sheet 50 7 (line 0 5 7 1 2 0 0 0 0 0 ∷ line 1 0 1 0 0 0 0 0 0 0 ∷ line 2 1 1 2 3 0 0 0 0 6
    ∷ line 5 5 1 0 0 0 0 4 0 3 ∷ line 8 6 1 0 0 0 0 0 0 1 ∷ []) "nDa_bSC") 64)
unfolding called
roots-then-types = refl

-- lost types are not lowered: a close in context 1 came before
lost-type :
    compiles (schema ∷ start "annotation" [] ∷ close ∷ complex_type "C" ∷ close ∷ []) 20 0 64
    ≡ compiled 5 (lowered_by_call 0 2 (filled_sheet 20 0 (line 0 2 0 0 0 0 0 0 0 0 ∷ no_namespace ∷ []) "") 64)
unfolding called
lost-type = refl
