-- The simple types that lowering refuses, by their rows: the rows behind a simple type's head are those of its facets, and then a head or nothing.
-- Assumes nothing.
--     head_first     the rows begin with a head, or there are none
use Prim.Native.Nat.{ℕ}
use mathlib.Core.Path.{◌≡◌, refl}
use mathlib.Core.Bool.{Bool, true, false, false≢true}
use mathlib.Core.List.{List, [], ◌∷◌, ◌++◌, map}
use lib.Dec.{eqb}
use Rattle.text.specs.Text.{every, between}
use Rattle.text.proofs.Laws.Tests.{and-true-left}
use Rattle.sheet.specs.Rows.{Row, row}
use Rattle.xsd_types.specs.Types.{Facet, SimpleType, Item}
use Rattle.xsd_types.specs.State.{is_empty}
use Rattle.xsd_types.specs.Rows.{facet_row, item_rows, items_rows}
use Rattle.xsd_types.specs.Good.{is_head}
use Rattle.xsd_types.specs.Back.{text1}
use Rattle.xsd_types.specs.Refused.{is_enumeration, all_enums, refused_base, only_codes, is_code_enum, refused_row}
use Rattle.xsd_types.proofs.Laws.Groups.{is_group}
use Rattle.xsd_types.proofs.Laws.Items.{group-item}
use Rattle.xsd_types.proofs.Laws.Heads.{HeadTag, head_tags}

unfoldable pub head_first : List Row → Bool
head_first [] = true
head_first (r ∷ rs) = is_head r.tag

pub head_first-group : (rs more : List Row) → is_group rs ≡ true → head_first (rs ++ more) ≡ true
unfolding head_first is_group
head_first-group [] more g = absurd (false≢true g)
head_first-group (r ∷ rs) more g = and-true-left _ _ g

pub head_first-items : (is : List Item) → head_first (items_rows is) ≡ true
unfolding items_rows head_first
head_first-items [] = refl
head_first-items (i ∷ is) = head_first-group (item_rows i) (items_rows is) (group-item i)

-- ---- a code enum by its facets' rows

head-no-code : {k : ℕ} → HeadTag k → (eqb k 4 ≡ false) × (between 5 11 k ≡ false)
unfolding between
head-no-code HeadTag.element = (refl, refl)
head-no-code HeadTag.simple = (refl, refl)
head-no-code HeadTag.sequence = (refl, refl)
head-no-code HeadTag.choice = (refl, refl)
head-no-code HeadTag.content = (refl, refl)
head-no-code HeadTag.any = (refl, refl)
head-no-code HeadTag.absent = (refl, refl)

only_codes-more : (more : List Row) → head_first more ≡ true → only_codes more ≡ true
unfolding only_codes head_first
only_codes-more [] h = refl
only_codes-more (r ∷ rs) h = let n = head-no-code (head_tags r.tag h) in rw (n.0, n.1)

only_codes-facets : (fs : List Facet) (more : List Row) → head_first more ≡ true → only_codes (map facet_row fs ++ more) ≡ every is_enumeration fs
unfolding only_codes every is_enumeration facet_row row between
only_codes-facets [] more h = only_codes-more more h
only_codes-facets (Facet.enumeration v ∷ fs) more h = only_codes-facets fs more h
only_codes-facets (Facet.pattern v ∷ fs) more h = refl
only_codes-facets (Facet.min_length n ∷ fs) more h = refl
only_codes-facets (Facet.max_length n ∷ fs) more h = refl
only_codes-facets (Facet.min_inclusive v ∷ fs) more h = refl
only_codes-facets (Facet.max_inclusive v ∷ fs) more h = refl
only_codes-facets (Facet.total_digits n ∷ fs) more h = refl
only_codes-facets (Facet.fraction_digits n ∷ fs) more h = refl

is_code_enum-more : (more : List Row) → head_first more ≡ true → is_code_enum more ≡ false
unfolding is_code_enum head_first
is_code_enum-more [] h = refl
is_code_enum-more (r ∷ rs) h = rw (head-no-code (head_tags r.tag h)).0

facet-code : (f : Facet) → eqb (facet_row f).tag 4 ≡ is_enumeration f
unfolding is_enumeration facet_row row
facet-code (Facet.enumeration v) = refl
facet-code (Facet.pattern v) = refl
facet-code (Facet.min_length n) = refl
facet-code (Facet.max_length n) = refl
facet-code (Facet.min_inclusive v) = refl
facet-code (Facet.max_inclusive v) = refl
facet-code (Facet.total_digits n) = refl
facet-code (Facet.fraction_digits n) = refl

pub is_code_enum-facets : (fs : List Facet) (more : List Row) → head_first more ≡ true → is_code_enum (map facet_row fs ++ more) ≡ all_enums fs
unfolding is_code_enum all_enums is_empty every
is_code_enum-facets [] more h = is_code_enum-more more h
is_code_enum-facets (f ∷ fs) more h = rw (facet-code f, only_codes-facets fs more h)

-- the rows of a simple type
pub simple-refused : (t : SimpleType) (more : List Row) → head_first more ≡ true → refused_row (row 3 (t.name ∷ t.base ∷ []) 0 0 t.event) (map facet_row t.facets ++ more) ≡ refused_base t
unfolding refused_row refused_base row text1
simple-refused t more h = rw (is_code_enum-facets t.facets more h)
