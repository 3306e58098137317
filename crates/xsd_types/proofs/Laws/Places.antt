-- The rows from a place on: the row there and those behind it, by the clauses of `tens`; and the texts of a row of numbers. Assumes nothing.
use Prim.Native.Nat.{ℕ, zero, suc, ◌+◌, ◌-◌, ◌*◌, ◌≤◌, ◌<◌}
use mathlib.Core.Path.{◌≡◌, refl, sym, ap, ◌∙◌}
use mathlib.Core.Logic.{⊎_elim}
use mathlib.Core.Bool.{true}
use mathlib.Core.List.{List, [], ◌∷◌, ◌++◌}
use native.Mathlib.Omega.{arith}
use lib.ListN.{length, get_or, take, drop, length-map}
use lib.Seq.{drop-drop, get_or-drop}
use Rattle.text.specs.Text.{Text, between}
use Rattle.std.proofs.lemmas.Bool.{or_cases}
use Rattle.text.proofs.Laws.Every.{EachFrom, between-each}
use Rattle.sheet.specs.Rows.{Row, Ten, ten, tens, text_at, unpack_row}
use Rattle.sheet.proofs.Laws.Numbers.{length-tens}
use Rattle.xsd_types.specs.Good.{used_pairs, is_head}
use Rattle.xsd_types.specs.Back.{text0, text1}
use Rattle.xsd_types.specs.Places.{row_at, rows_from}

pub row_at-tag : (rows names : List ℕ) (p : ℕ) → (row_at rows names p).tag ≡ get_or rows (10 * p) 0
unfolding row_at unpack_row ten
row_at-tag rows names p = get_or-drop (10 * p) rows 0 0 ∙ ap (λ (n : ℕ). get_or rows n 0) (omega arith)

pub rows_from-cons : (rows names : List ℕ) (p end : ℕ) → p < end → rows_from rows names p end ≡ row_at rows names p ∷ rows_from rows names (p + 1) end
unfolding rows_from row_at tens
rows_from-cons rows names p end h =
    let count : end - p ≡ suc (end - (p + 1)) = omega arith in
    let next : 10 * p + 10 ≡ 10 * (p + 1) = omega arith in
    let step : drop 10 (drop (10 * p) rows) ≡ drop (10 * (p + 1)) rows = drop-drop 10 (10 * p) rows ∙ ap (λ (n : ℕ). drop n rows) next in
    rw (count, step)

pub rows_from-end : (rows names : List ℕ) (p end : ℕ) → end ≤ p → rows_from rows names p end ≡ []
unfolding rows_from tens
rows_from-end rows names p end h =
    let count : end - p ≡ 0 = omega arith in
    rw count

pub length-rows_from : (rows names : List ℕ) (p end : ℕ) → length (rows_from rows names p end) ≡ end - p
unfolding rows_from
length-rows_from rows names p end = rw (length-map (tens (end - p) (drop (10 * p) rows)) (unpack_row used_pairs names), length-tens (end - p) (drop (10 * p) rows))

module _ (rows names : List ℕ) where
  -- where the rows from a place on have a first one, the place lies before the end
  pub rows_from-some : (p end : ℕ) (r : Row) (rs : List Row) → rows_from rows names p end ≡ r ∷ rs → p < end
  rows_from-some p end r rs e = omega (arith, length-rows_from rows names p end, ap length e)

  -- the row at a place, and the rows behind it
  pub rows_from-parts : (p end : ℕ) (r : Row) (rs : List Row) → rows_from rows names p end ≡ r ∷ rs → (row_at rows names p ≡ r) × (rows_from rows names (p + 1) end ≡ rs)
  rows_from-parts p end r rs e =
      let whole = sym (rows_from-cons rows names p end (rows_from-some p end r rs e)) ∙ e in
      (cc, cc)

  -- the first of the rows from a place on stands at the place
  pub row_at-first : (p end : ℕ) (r : Row) (rs : List Row) → rows_from rows names p end ≡ r ∷ rs → row_at rows names p ≡ r
  row_at-first p end r rs e = (rows_from-parts p end r rs e).0

  -- the rows behind the first ones
  pub rows_from-behind : (p end : ℕ) (xs ys : List Row) → rows_from rows names p end ≡ xs ++ ys → rows_from rows names (p + length xs) end ≡ ys
  rows_from-behind p end [] ys e = ap (λ (n : ℕ). rows_from rows names n end) (omega arith) ∙ e
  rows_from-behind p end (x ∷ xs) ys e =
      let count : p + length (x ∷ xs) ≡ p + 1 + length xs = omega arith in
      ap (λ (n : ℕ). rows_from rows names n end) count ∙ rows_from-behind (p + 1) end xs ys (rows_from-parts p end x (xs ++ ys) e).1

  -- the first ones alone
  pub rows_from-until : (p end : ℕ) (xs ys : List Row) → rows_from rows names p end ≡ xs ++ ys → rows_from rows names p (p + length xs) ≡ xs
  rows_from-until p end [] ys e = rows_from-end rows names p (p + 0) (omega arith)
  rows_from-until p end (x ∷ xs) ys e =
      let parts = rows_from-parts p end x (xs ++ ys) e in
      let count : p + length (x ∷ xs) ≡ p + 1 + length xs = omega arith in
      rows_from-cons rows names p (p + length (x ∷ xs)) (omega arith)
      ∙ rw (parts.0, count, rows_from-until (p + 1) end xs ys parts.1)

-- ---- the texts of a row of numbers

-- the first and the second of three texts, where so many are taken
pub first_taken : (n : ℕ) (x y z : Text) → 1 ≤ n → get_or (take n (x ∷ y ∷ z ∷ [])) 0 [] ≡ x
first_taken zero x y z h = absurd (omega arith)
first_taken (suc n) x y z h = refl

pub second-taken : (n : ℕ) (x y z : Text) → 2 ≤ n → get_or (take n (x ∷ y ∷ z ∷ [])) 1 [] ≡ y
second-taken zero x y z h = absurd (omega arith)
second-taken (suc zero) x y z h = absurd (omega arith)
second-taken (suc (suc n)) x y z h = refl

used-head : (tag a : ℕ) → is_head tag ≡ true → 1 ≤ used_pairs tag a
unfolding is_head used_pairs between EachFrom
used-head tag a h =
    ⊎_elim (between-each (λ (n : ℕ). 1 ≤ used_pairs n a) 2 1 3 tag refl (omega arith))
    (between-each (λ (n : ℕ). 1 ≤ used_pairs n a) 12 4 16 tag refl (omega arith))
    (or_cases (between 2 3 tag) (between 12 16 tag) h)

module _ (names : List ℕ) (t : Ten) where
  -- a row of numbers that uses a pair has its text
  pub text0-at : 1 ≤ used_pairs t.tag t.a → text0 (unpack_row used_pairs names t) ≡ text_at names t.at0 t.len0
  unfolding text0 unpack_row
  text0-at h = first_taken (used_pairs t.tag t.a) (text_at names t.at0 t.len0) (text_at names t.at1 t.len1) (text_at names t.at2 t.len2) h

  pub text1-at : 2 ≤ used_pairs t.tag t.a → text1 (unpack_row used_pairs names t) ≡ text_at names t.at1 t.len1
  unfolding text1 unpack_row
  text1-at h = second-taken (used_pairs t.tag t.a) (text_at names t.at0 t.len0) (text_at names t.at1 t.len1) (text_at names t.at2 t.len2) h

  -- the name of a head
  pub name-at : is_head t.tag ≡ true → text0 (unpack_row used_pairs names t) ≡ text_at names t.at0 t.len0
  name-at h = text0-at (used-head t.tag t.a h)
