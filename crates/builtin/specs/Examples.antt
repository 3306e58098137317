-- Examples by computation. Nothing else fixes the sequence of the list: every name has the same answer in any.
use Rattle.std.specs.Prelude.{◌≡◌, refl, [], ◌∷◌, ◌++◌, map, length}
use Rattle.std.proofs.Math.Option.{some}
use Rattle.text.specs.Text.{bytes}
use Rattle.text.specs.Unfold.{computes as texts}
use Rattle.builtin.specs.Builtin.{string, bool, primitives, derived, builtins, first_match}
use Rattle.builtin.specs.Unfold.{computes}

-- order 9: "in the sequence of that text", the heads of sections 3.2.1 to 3.2.17 and 3.3.1 to 3.3.25 that name one of the 38
sequence : map (λ e. bytes e.0) builtins ≡
    map bytes
    (("string" ∷ "boolean" ∷ "decimal" ∷ "float" ∷ "double" ∷ "duration" ∷ "dateTime" ∷ "time" ∷ "date" ∷ "gYearMonth" ∷ "gYear" ∷ "gMonthDay" ∷ "gDay" ∷ "gMonth"
    ∷ "hexBinary" ∷ "base64Binary" ∷ "anyURI" ∷ [])
    ++ ("normalizedString" ∷ "token" ∷ "language" ∷ "NMTOKEN" ∷ "Name" ∷ "NCName" ∷ "ID" ∷ "IDREF" ∷ "integer" ∷ "nonPositiveInteger" ∷ "negativeInteger" ∷ "long"
    ∷ "int" ∷ "short" ∷ "byte" ∷ "nonNegativeInteger" ∷ "unsignedLong" ∷ "unsignedInt" ∷ "unsignedShort" ∷ "unsignedByte" ∷ "positiveInteger" ∷ []))
unfolding computes texts
sequence = refl

primitive-types : length primitives ≡ 17
primitive-types = refl

derived-types : length derived ≡ 21
derived-types = refl

-- the first match counts
first-of-two : first_match (bytes "a") (("a", string) ∷ ("a", bool) ∷ []) ≡ some string
unfolding computes texts
first-of-two = refl
