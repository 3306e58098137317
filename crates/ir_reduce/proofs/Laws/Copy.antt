-- A row's texts are one part of the names, and the row with its texts elsewhere has the same numbers but for the offsets. By how many pairs it uses.
-- Assumes nothing.
use Rattle.std.specs.Prelude.{if◌then◌else◌}
use mathlib.Core.Path.{◌≡◌, refl, sym, ap, ◌∙◌}
use mathlib.Core.Bool.{Bool, true, false}
use mathlib.Core.List.{List, [], ◌∷◌, ◌++◌}
use Prim.Native.Nat.{ℕ, ◌+◌, ◌*◌, ◌≤◌}
use native.Mathlib.Omega.{arith}
use lib.Dec.{leb}
use lib.ListN.{length, take, drop}
use lib.Seq.{take_at}
use borrow.Author.Tests.{le-leb, leb-false}
use Rattle.text.specs.Text.{Text, join}
use Rattle.sheet.specs.Rows.{Ten, ten, pairs, pack_row, unpack_row, numbers}
use Rattle.sheet.specs.Form.{pair_form, row_covers, end_of, texts_counted}
use Rattle.sheet.proofs.Laws.Packs.{counted-used, counted-small, end_of-pack}
use Rattle.sheet.proofs.Laws.Unpacks.{few, row-again, names-row, counted-unpack, row_covers-pairs, pairs_of, cover-parts, pair-used}
use Rattle.rows.specs.Packing.{numbers_of}
use Rattle.ir_types.specs.Form.{used_pairs}
use Rattle.ir_reduce.specs.Places.{row_at}
use Rattle.ir_reduce.specs.Copy.{bytes_of, Stands, moved_numbers}

-- texts that stand elsewhere
moved-pairs : (k at : ℕ) (ts : List Text) → length ts ≤ 3 → let p = pairs k ts in
    pairs at ts ≡ record {
      at0 = if leb 1 (length ts) then at else 0;
      len0 = p.len0;
      at1 = if leb 2 (length ts) then at + p.len0 else 0;
      len1 = p.len1;
      at2 = if leb 3
          (length ts) then at + p.len0 + p.len1 else 0;
      len2 = p.len2;
    }
unfolding pairs
moved-pairs k at [] h = refl
moved-pairs k at (t ∷ []) h = refl
moved-pairs k at (t ∷ u ∷ []) h = refl
moved-pairs k at (t ∷ u ∷ v ∷ []) h = refl
moved-pairs k at (t ∷ u ∷ v ∷ w ∷ ts) h = absurd (let no : ⊥ = omega arith in no)

no-texts : (ts : List Text) → length ts ≡ 0 → join ts ≡ []
unfolding join
no-texts [] e = refl
no-texts (t ∷ ts) e = absurd (let no : ⊥ = omega arith in no)

starts : (k : ℕ) (t : Ten) → row_covers used_pairs k t ≡ true → pair_form (leb 1 (used_pairs t.tag t.a)) k t.at0 t.len0 ≡ true
unfolding pairs_of
starts k t e = (cover-parts (used_pairs t.tag t.a) k (pairs_of t) (row_covers-pairs used_pairs k t e)).0

module _ (rows names : List ℕ) (p : ℕ) (s : Stands rows names p) where
  abbrev numbers_at : Ten
  numbers_at = ten (drop (10 * p) rows)

  few-at : few used_pairs numbers_at ≡ true
  unfolding few
  few-at = le-leb (used_pairs numbers_at.tag numbers_at.a) 3 s.few

  again : pack_row s.from (row_at rows names p) ≡ numbers_at
  unfolding row_at
  again = row-again used_pairs names s.from numbers_at few-at s.covers s.inside

  counted-at : texts_counted used_pairs (row_at rows names p) ≡ true
  unfolding row_at
  counted-at = counted-unpack used_pairs names numbers_at few-at

  pub texts-length : length (row_at rows names p).texts ≡ used_pairs numbers_at.tag numbers_at.a
  unfolding row_at unpack_row
  texts-length = sym (counted-used used_pairs (row_at rows names p) counted-at)

  pub bytes-length : length (join (row_at rows names p).texts) ≡ bytes_of numbers_at
  unfolding end_of
  bytes-length =
      let e : end_of s.from (pack_row s.from (row_at rows names p))
      ≡ s.from + length (join (row_at rows names p).texts) = end_of-pack s.from (row_at rows names p) (counted-small used_pairs (row_at rows names p) counted-at) in
      omega (arith, ap (end_of s.from) (sym again) ∙ e)

  pub moved-numbers : (at : ℕ) → moved_numbers numbers_at (used_pairs numbers_at.tag numbers_at.a) at ≡ numbers_of at (row_at rows names p)
  unfolding numbers_of numbers pack_row
  moved-numbers at =
      let r = row_at rows names p in
      let u = used_pairs numbers_at.tag numbers_at.a in
      let m = moved-pairs s.from at r.texts (counted-small used_pairs r counted-at) in
      let there = ap (λ (t : Ten). moved_numbers t u at) again in
      sym (rw (m, texts-length) there)

  texts-part : drop s.from names ≡ join (row_at rows names p).texts ++ drop (end_of s.from numbers_at) names
  unfolding row_at
  texts-part = names-row used_pairs names s.from numbers_at few-at s.covers

  -- the texts as one part of the names
  pub part-whole : take (bytes_of numbers_at) (drop numbers_at.at0 names) ≡ join (row_at rows names p).texts
  part-whole = by-use (leb 1 (used_pairs numbers_at.tag numbers_at.a)) refl
    where
      some : leb 1 (used_pairs numbers_at.tag numbers_at.a) ≡ true → numbers_at.at0 ≡ s.from
      some e = pair-used s.from numbers_at.at0 numbers_at.len0 (rw e at (starts s.from numbers_at s.covers))

      by-use : (b : Bool) → leb 1 (used_pairs numbers_at.tag numbers_at.a) ≡ b → take (bytes_of numbers_at) (drop numbers_at.at0 names) ≡ join (row_at rows names p).texts
      by-use true e =
          rw (some e, texts-part) (take_at (join (row_at rows names p).texts) (drop (end_of s.from numbers_at) names) (bytes_of numbers_at) bytes-length)
      by-use false e =
          let none : join (row_at rows names p).texts ≡ [] = no-texts (row_at rows names p).texts (texts-length ∙ omega (arith, leb-false 1 (used_pairs numbers_at.tag numbers_at.a) e)) in
          let zero-bytes : bytes_of numbers_at ≡ 0 = sym bytes-length ∙ ap length none in
          rw (zero-bytes, none)
