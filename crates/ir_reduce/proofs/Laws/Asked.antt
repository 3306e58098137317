-- What a row asks for, by its numbers: the texts under the pairs that a root, a value with attributes, a field, a variant and an attribute use. And so the place that
-- is stored for a row is that of the head that it leads to. By the tags. Assumes nothing.
use Rattle.std.specs.Prelude.{if◌then◌else◌, Option, Some, None}
use Rattle.std.specs.Option.{unwrap_or}
use mathlib.Core.Path.{◌≡◌, refl, sym, ap, ◌∙◌}
use mathlib.Core.Bool.{Bool, true, false, ◌&&◌, ◌||◌}
use mathlib.Core.List.{List, [], ◌∷◌, ◌++◌, map}
use Prim.Native.Nat.{ℕ, zero, suc, ◌+◌, ◌-◌, ◌*◌, ◌≤◌, ◌<◌}
use native.Mathlib.Omega.{arith}
use lib.Dec.{eqb, leb}
use lib.ListN.{get_or, take, drop}
use lib.Seq.{get_or-drop}
use borrow.Author.Tests.{eqb-true, eqb-false, leb-true, lt-leb}
use Rattle.text.specs.Text.{Text, between}
use Rattle.std.proofs.lemmas.Bool.{and_parts}
use Rattle.text.proofs.Laws.Tests.{and-true-right, or-true-left}
use Rattle.names.specs.Names.{normalize_type_name}
use Rattle.names.specs.Same.{spelled}
use Rattle.sheet.specs.Rows.{Row, row, ten, text_at, unpack_row}
use Rattle.ir_types.specs.Tags.{root_tag}
use Rattle.ir_types.specs.Form.{used_pairs, is_type_tag}
use Rattle.ir_types.specs.Back.{text}
use Rattle.ir_types.specs.Distinct.{distinct_texts}
use Rattle.name_index.specs.Index.{head_name, spelled_name_at, place_of}
use Rattle.ir_reduce.specs.Groups.{type_name, parted, root_type, reference_in}
use Rattle.ir_reduce.specs.Reach.{In}
use Rattle.ir_reduce.specs.Places.{row_at, rows_by_place, asked}
use Rattle.ir_reduce.specs.Marks.{head_at}
use Rattle.ir_reduce.specs.Index.{place_if, head_places_from, head_places, head_names, asked_pair, target_of, TargetsPut}
use Rattle.ir_reduce.proofs.Laws.Places.{in-none, is_head, type_at, head_first, plain-first}
use Rattle.ir_reduce.proofs.Laws.Kept.{row-tag-at}
use Rattle.ir_reduce.proofs.Laws.Index.{heads-in, in-heads, place_found, found_in, target-some, target_none}
use Rattle.ir_reduce.proofs.Laws.Chains.{in_one, Targets}

-- a head uses its first pair
some_pairs : (b c d e f : Bool) (a : ℕ) → 1 ≤ (if b then 1 + a else if c then (if f then 2 else 1) else if d then (if f then 3 else 2) else if e then 2 else 1)
some_pairs true c d e f a = omega arith
some_pairs false true d e true a = omega arith
some_pairs false true d e false a = omega arith
some_pairs false false true e true a = omega arith
some_pairs false false true e false a = omega arith
some_pairs false false false true f a = omega arith
some_pairs false false false false f a = omega arith

some-used : (tag a : ℕ) → is_type_tag tag ≡ true → 1 ≤ used_pairs tag a
unfolding used_pairs is_type_tag between
some-used tag a h =
    let small : tag ≤ 8 = leb-true tag 8 (and-true-right (leb 3 tag) (leb tag 8) h) in
    rw (lt-leb 12 tag (omega arith), lt-leb 16 tag (omega arith)) (some_pairs (eqb tag 8) (eqb tag 7) ((leb 9 tag && leb tag 10) || eqb tag 19) (eqb tag 2 || eqb tag 18) (eqb a 0) a)

-- ---- the texts that a row asks for, by its tag
module _ (b c : ℕ) (x y z : Text) where
  abbrev row_of : ℕ → ℕ → Row
  row_of tag a = row tag (take (used_pairs tag a) (x ∷ y ∷ z ∷ [])) a b c

  at-root : (a : ℕ) → asked (row_of 2 a) ≡ normalize_type_name y ∷ []
  unfolding asked root_type text used_pairs between row
  at-root a = refl

  at_value : asked (row_of 7 0) ≡ y ∷ []
  unfolding asked reference_in text used_pairs between row
  at_value = refl

  at_field : asked (row_of 9 0) ≡ z ∷ []
  unfolding asked reference_in text used_pairs between row
  at_field = refl

  at_variant : asked (row_of 10 0) ≡ z ∷ []
  unfolding asked reference_in text used_pairs between row
  at_variant = refl

  at-attribute : asked (row_of 19 0) ≡ z ∷ []
  unfolding asked reference_in text used_pairs between row
  at-attribute = refl

  at-third : (tag a : ℕ) (b c : Bool) → eqb tag 19 ≡ b → eqb tag 9 ≡ c → (between 9 10 tag || eqb tag 19) && eqb a 0 ≡ true → asked (row_of tag a) ≡ z ∷ []
  unfolding between
  at-third tag a true c e g h = rw (eqb-true tag 19 e, eqb-true a 0 (and-true-right (between 9 10 tag || eqb tag 19) (eqb a 0) h)) at-attribute
  at-third tag a false true e g h = rw (eqb-true tag 9 g, eqb-true a 0 (and-true-right (between 9 10 tag || eqb tag 19) (eqb a 0) h)) at_field
  at-third tag a false false e g h =
      let all = and_parts (between 9 10 tag || eqb tag 19) (eqb a 0) h in
      let ends = and_parts (leb 9 tag) (leb tag 10) (or-true-left (leb 9 tag && leb tag 10) (eqb tag 19) all.0 e) in
      let ten : tag ≡ 10 = omega (arith, leb-true 9 tag ends.0, leb-true tag 10 ends.1, eqb-false tag 9 g) in
      rw (ten, eqb-true a 0 all.1) at_variant

  none : (tag a : ℕ) → eqb tag 2 ≡ false → eqb tag 7 && eqb a 0 ≡ false → (between 9 10 tag || eqb tag 19) && eqb a 0 ≡ false → asked (row_of tag a) ≡ []
  unfolding asked reference_in row
  none tag a e g h = rw (e, g, h)

  asked-row : (tag a : ℕ) (b₁ b₂ b₃ : Bool) → eqb tag 2 ≡ b₁ → eqb tag 7 && eqb a 0 ≡ b₂ → (between 9 10 tag || eqb tag 19) && eqb a 0 ≡ b₃
      → asked (row_of tag a) ≡ (if b₁ then normalize_type_name y ∷ [] else if b₂ then y ∷ [] else if b₃ then z ∷ [] else [])
  asked-row tag a true b₂ b₃ e g h = rw (eqb-true tag 2 e) (at-root a)
  asked-row tag a false true b₃ e g h = let both = and_parts (eqb tag 7) (eqb a 0) g in rw (eqb-true tag 7 both.0, eqb-true a 0 both.1) at_value
  asked-row tag a false false true e g h = at-third tag a (eqb tag 19) (eqb tag 9) refl refl h
  asked-row tag a false false false e g h = none tag a e g h

  pub first-text : (tag a : ℕ) → is_type_tag tag ≡ true → text 0 (row_of tag a) ≡ x
  unfolding text row
  first-text tag a h = first_of (used_pairs tag a) (some-used tag a h)
    where
      first_of : (n : ℕ) → 1 ≤ n → get_or (take n (x ∷ y ∷ z ∷ [])) 0 [] ≡ x
      first_of zero k = absurd (let no : ⊥ = omega arith in no)
      first_of (suc n) k = refl

-- ---- the same by the numbers of a row at its place
number_at : (rows : List ℕ) (p i k : ℕ) → 10 * p + i ≡ k → get_or (drop (10 * p) rows) i 0 ≡ get_or rows k 0
number_at rows p i k e = get_or-drop (10 * p) rows i 0 ∙ ap (λ (j : ℕ). get_or rows j 0) e

abbrev texts_at : Option ℕ → (ℕ → Text) → List Text
texts_at None text_of = []
texts_at (Some k) text_of = text_of k ∷ []

by_tests : (names : List ℕ) (b₁ b₂ b₃ : Bool) (text_of : ℕ → Text) (tag a : ℕ) → eqb tag 2 ≡ b₁ → eqb tag 7 && eqb a 0 ≡ b₂ → (between 9 10 tag || eqb tag 19) && eqb a 0 ≡ b₃
    → (if b₁ then normalize_type_name (text_of 3) ∷ [] else if b₂ then text_of 3 ∷ [] else if b₃ then text_of 5 ∷ [] else [])
    ≡ texts_at (asked_pair tag a) (λ k. spelled (eqb tag root_tag) (text_of k))
unfolding asked_pair spelled
by_tests names true b₂ b₃ text_of tag a e g h = rw e
by_tests names false true b₃ text_of tag a e g h = rw (e, g)
by_tests names false false true text_of tag a e g h = rw (e, g, h)
by_tests names false false false text_of tag a e g h = rw (e, g, h)

module _ (rows names : List ℕ) (p : ℕ) where
  abbrev tag_at : ℕ
  tag_at = get_or rows (10 * p) 0

  abbrev a_at : ℕ
  a_at = get_or rows (10 * p + 7) 0

  abbrev text_of : ℕ → Text
  text_of k = text_at names (get_or rows (10 * p + k) 0) (get_or rows (10 * p + k + 1) 0)

  row_is : (b c : ℕ) → b ≡ get_or rows (10 * p + 8) 0 → c ≡ get_or rows (10 * p + 9) 0
      → row_at rows names p ≡ row tag_at (take (used_pairs tag_at a_at) (text_of 1 ∷ text_of 3 ∷ text_of 5 ∷ [])) a_at b c
  unfolding row_at unpack_row ten row
  row_is b c e f =
      rw (
        number_at rows p 0 (10 * p) (omega arith),
        number_at rows p 1 (10 * p + 1) refl,
        number_at rows p 2 (10 * p + 1 + 1) (omega arith),
        number_at rows p 3 (10 * p + 3) refl,
        number_at rows p 4 (10 * p + 3 + 1) (omega arith),
        number_at rows p 5 (10 * p + 5) refl,
        number_at rows p 6 (10 * p + 5 + 1) (omega arith),
        number_at rows p 7 (10 * p + 7) refl,
        number_at rows p 8 (10 * p + 8) refl,
        number_at rows p 9 (10 * p + 9) refl,
        e,
        f,
      )

  abbrev asked_text : ℕ → Text
  asked_text k = spelled (eqb tag_at root_tag) (text_of k)

  pub asked-at : asked (row_at rows names p) ≡ texts_at (asked_pair tag_at a_at) asked_text
  asked-at =
      ap asked (row_is _ _ refl refl)
      ∙ asked-row _ _ (text_of 1) (text_of 3) (text_of 5) tag_at a_at (eqb tag_at 2) (eqb tag_at 7 && eqb a_at 0) ((between 9 10 tag_at || eqb tag_at 19) && eqb a_at 0) refl refl refl
      ∙ chosen (eqb tag_at 2) (eqb tag_at 7 && eqb a_at 0) ((between 9 10 tag_at || eqb tag_at 19) && eqb a_at 0) refl refl refl
    where
      chosen : (b₁ b₂ b₃ : Bool) → eqb tag_at 2 ≡ b₁ → eqb tag_at 7 && eqb a_at 0 ≡ b₂ → (between 9 10 tag_at || eqb tag_at 19) && eqb a_at 0 ≡ b₃
          → (if b₁ then normalize_type_name (text_of 3) ∷ [] else if b₂ then text_of 3 ∷ [] else if b₃ then text_of 5 ∷ [] else []) ≡ texts_at (asked_pair tag_at a_at) asked_text
      chosen b₁ b₂ b₃ e g h = by_tests names b₁ b₂ b₃ (text_of) tag_at a_at e g h

  pub name-at : head_at rows p ≡ true → text 0 (row_at rows names p) ≡ spelled_name_at rows names false p
  unfolding head_at spelled_name_at head_name spelled
  name-at h =
      let next : 10 * p + 1 + 1 ≡ 10 * p + 2 = omega arith in
      ap (text 0) (row_is _ _ refl refl) ∙ first-text _ _ (text_of 1) (text_of 3) (text_of 5) tag_at a_at h ∙ rw next

  pub head-is : is_head (row_at rows names) p ≡ head_at rows p
  unfolding is_head head_at
  head-is = ap is_type_tag (row-tag-at rows names p)

-- ---- what is stored for a row is where it leads
module _ (rows names to : List ℕ) (end : ℕ) (put : TargetsPut rows names end end to) (distinct : distinct_texts (head_names rows names (head_places rows end)) ≡ true) where
  abbrev pair_of : ℕ → Option ℕ
  pair_of p = asked_pair (get_or rows (10 * p) 0) (get_or rows (10 * p + 7) 0)

  abbrev Hits : ℕ → ℕ → Type 0
  Hits row r = (r < end) × (is_head (row_at rows names) r ≡ true) × In (text 0 (row_at rows names r)) (asked (row_at rows names row))

  pub targets-are : Targets (row_at rows names) end to
  targets-are =
      record {
        hit = λ row a b h. hit-by row a b h (pair_of row) refl;
        found = λ row q a b c d k i. found-by row q a b c d k (pair_of row) refl i;
      }
    where
      hit-at : (row k : ℕ) → pair_of row ≡ Some k → (r : ℕ) → place_of (spelled_name_at rows names false) (asked_text rows names row k) (head_places rows end) ≡ Some r → Hits row r
      hit-at row k e r s =
          let w = found_in (spelled_name_at rows names false) (asked_text rows names row k) (head_places rows end) r s in
          let head = heads-in rows (end - 1) 1 w.among in
          let name : text 0 (row_at rows names r) ≡ asked_text rows names row k = name-at rows names r head.head ∙ w.named in
          (omega (arith, head.from, head.inside), head-is rows names r ∙ head.head, rw (asked-at rows names row, e, name) In.here)

      -- what is stored, by the answer
      stored : (row : ℕ) → 0 < row → row < end → {o : Option ℕ} → target_of rows names (head_places rows end) row ≡ o → get_or to row 0 ≡ unwrap_or o 0
      stored row a l e = put.put row a l ∙ ap (λ (o : Option ℕ). unwrap_or o 0) e

      hit-found : (row : ℕ) → 0 < row → row < end → 0 < get_or to row 0 → (k : ℕ) → pair_of row ≡ Some k → (o : Option ℕ)
          → place_of (spelled_name_at rows names false) (asked_text rows names row k) (head_places rows end) ≡ o → Hits row (get_or to row 0)
      hit-found row a l h k e None s =
          absurd (let no : ⊥ = omega (arith, stored row a l (target-some rows names (head_places rows end) row (sym e) ∙ s)) in no)
      hit-found row a l h k e (Some r) s =
          let at : get_or to row 0 ≡ r = stored row a l (target-some rows names (head_places rows end) row (sym e) ∙ s) in
          rw at (hit-at row k e r s)

      hit-by : (row : ℕ) → 0 < row → row < end → 0 < get_or to row 0 → (o : Option ℕ) → pair_of row ≡ o → Hits row (get_or to row 0)
      hit-by row a l h None e = absurd (let no : ⊥ = omega (arith, stored row a l (sym (target_none rows names (head_places rows end) row (sym e)))) in no)
      hit-by row a l h (Some k) e = hit-found row a l h k e _ refl

      found-by : (row q : ℕ) → 0 < row → row < end → 0 < q → q < end → is_head (row_at rows names) q ≡ true → (o : Option ℕ) → pair_of row ≡ o
          → In (text 0 (row_at rows names q)) (asked (row_at rows names row)) → get_or to row 0 ≡ q
      found-by row q a l c d k None e i = in-none (rw (asked-at rows names row, e) at i)
      found-by row q a l c d k (Some j) e i =
          let head : head_at rows q ≡ true = sym (head-is rows names q) ∙ k in
          let name : spelled_name_at rows names false q ≡ asked_text rows names row j = sym (name-at rows names q head) ∙ in_one (rw (asked-at rows names row, e) at i) in
          stored row a l (target-some rows names (head_places rows end) row (sym e)
          ∙ place_found (spelled_name_at rows names false) (asked_text rows names row j) q (head_places rows end) (in-heads rows (end - 1) 1 q c (omega arith) head) name distinct)

-- ---- the names of the types
type-name : (rows names : List ℕ) (end p : ℕ) → head_at rows p ≡ true → type_name (type_at (row_at rows names) end p) ≡ spelled_name_at rows names false p
unfolding type_name type_at
type-name rows names end p h = name-at rows names p h

pub type-names : (rows names : List ℕ) (m p end : ℕ) → p + m ≡ end → map type_name (parted (rows_by_place (row_at rows names) p m)).types ≡ head_names rows names (head_places_from rows p m)
unfolding head_places_from rows_by_place parted
type-names rows names zero p end e = refl
type-names rows names (suc m) p end e = by-head (head_at rows p) refl (type-names rows names m (suc p) end (omega arith))
  where
    by-head : (b : Bool) → head_at rows p ≡ b → map type_name (parted (rows_by_place (row_at rows names) (suc p) m)).types ≡ head_names rows names (head_places_from rows (suc p) m)
        → map type_name (parted (rows_by_place (row_at rows names) p (suc m))).types ≡ head_names rows names (place_if b p ++ head_places_from rows (suc p) m)
    by-head true h again = rw (head_first (row_at rows names) end p m e (head-is rows names p ∙ h), again)
        (ap (λ (t : Text). t ∷ head_names rows names (head_places_from rows (suc p) m)) (type-name rows names end p h))
    by-head false h again = rw (plain-first (row_at rows names) end p m (head-is rows names p ∙ h)) again
