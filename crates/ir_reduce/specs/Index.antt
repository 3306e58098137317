-- The heads of a graph sheet in an index of names, and what the rows lead to.
--     buckets       how many buckets the index has
--     head_places_from  the places of the heads among m rows from place p on; head_places: those of a sheet of so many rows
--     head_names     their names
--     AllIndexed, IndexedIs    what the index holds when every head is entered, or that two have one name
--     NewHead       what entering a row leaves that is a head of a new name, or is none; OldHead: it is a head whose name came before
--     asked_pair     where in a row the pair of the name stands that it leads to: None where it leads nowhere
--     TargetsPut    the targets of the rows before a place are stored, 0 for nowhere
--     target_of      the place of the head that the row at place p leads to: None for nowhere
use Rattle.std.specs.Prelude.{ℕ, zero, suc, ◌+◌, ◌-◌, ◌*◌, ◌≤◌, ◌<◌, ◌≡◌, Bool, true, false, ◌&&◌, ◌||◌, List, [], ◌∷◌, ◌++◌, map, eqb, get_or, if◌then◌else◌, Option, Some, None}
use Rattle.std.specs.Option.{option_and_then, unwrap_or}
use Rattle.text.specs.Text.{Text, between}
use Rattle.names.specs.Same.{spelled}
use Rattle.sheet.specs.Rows.{text_at}
use Rattle.ir_types.specs.Tags.{root_tag, value_with_attributes_tag, field_tag, variant_tag, attribute_tag}
use Rattle.ir_types.specs.Distinct.{among, distinct_texts}
use Rattle.name_index.specs.Index.{spelled_name_at, place_of, places_in, SameAnswers, Index}
use Rattle.ir_reduce.specs.declared.index.Indexed.{Indexed}
use Rattle.ir_reduce.specs.Marks.{head_at}

abbrev pub buckets : ℕ
buckets = 4096

abbrev pub place_if : Bool → ℕ → List ℕ
place_if b p = if b then p ∷ [] else []

unfoldable pub head_places_from : List ℕ → ℕ → ℕ → List ℕ
head_places_from rows p zero = []
head_places_from rows p (suc m) = place_if (head_at rows p) p ++ head_places_from rows (suc p) m

abbrev pub head_places : List ℕ → ℕ → List ℕ
head_places rows end = head_places_from rows 1 (end - 1)

abbrev pub head_names : List ℕ → List ℕ → List ℕ → List Text
head_names rows names ps = map (spelled_name_at rows names false) ps

pub record AllIndexed (rows names : List ℕ) (end : ℕ) (table : List ℕ) (n : ℕ) (sorted : Bool) : Type 0 where
  pub index : Index rows names false table buckets n sorted
  pub answers : SameAnswers (spelled_name_at rows names false) (places_in buckets n table) (head_places rows end)
  pub distinct : distinct_texts (head_names rows names (head_places rows end)) ≡ true

-- "two types of one name"
abbrev pub IndexedIs : List ℕ → List ℕ → ℕ → List ℕ → Option Indexed → Type 0
IndexedIs rows names end table (Some i) = AllIndexed rows names end table i.entries i.sorted
IndexedIs rows names end table None = distinct_texts (head_names rows names (head_places rows end)) ≡ false

pub record NewHead (rows names before : List ℕ) (n p : ℕ) (after : List ℕ) (n' : ℕ) (sorted : Bool) : Type 0 where
  pub index : Index rows names false after buckets n' sorted
  pub answers : SameAnswers (spelled_name_at rows names false) (places_in buckets n' after) (places_in buckets n before ++ place_if (head_at rows p) p)
  pub new : head_at rows p ≡ true → among (spelled_name_at rows names false p) (head_names rows names (places_in buckets n before)) ≡ false
  pub few : n' ≤ n + 1

pub record OldHead (rows names before : List ℕ) (n p : ℕ) : Type 0 where
  pub head : head_at rows p ≡ true
  pub old : among (spelled_name_at rows names false p) (head_names rows names (places_in buckets n before)) ≡ true

-- the second pair of a root and of a value with attributes, the third of a field, a variant and an attribute; "A reference is a: 0 named (the pair ..)"
unfoldable pub asked_pair : ℕ → ℕ → Option ℕ
asked_pair tag a =
    if eqb tag root_tag then Some 3 else
    if eqb tag value_with_attributes_tag && eqb a 0 then Some 3 else
    if (between field_tag variant_tag tag || eqb tag attribute_tag) && eqb a 0 then Some 5 else None

unfoldable pub target_of : List ℕ → List ℕ → List ℕ → ℕ → Option ℕ
target_of rows names places p =
    let tag = get_or rows (10 * p) 0 in
    option_and_then
    (λ (k : ℕ). place_of (spelled_name_at rows names false) (spelled (eqb tag root_tag) (text_at names (get_or rows (10 * p + k) 0) (get_or rows (10 * p + k + 1) 0))) places)
    (asked_pair tag (get_or rows (10 * p + 7) 0))

-- the targets of the rows behind row 0 and before row k; 0 for all others
pub record TargetsPut (rows names : List ℕ) (end k : ℕ) (to : List ℕ) : Type 0 where
  pub first : get_or to 0 0 ≡ 0
  pub put : (p : ℕ) → 0 < p → p < k → get_or to p 0 ≡ unwrap_or (target_of rows names (head_places rows end) p) 0
  pub rest : (p : ℕ) → k ≤ p → get_or to p 0 ≡ 0
