-- The rows whose offsets are still to be set, `Offsets`: the first of them is read and stored anew, and they are one fewer; none is left at the end.
-- Assumes nothing.
use Prim.Native.Nat.{ℕ, ◌+◌, ◌*◌, ◌≤◌, ◌<◌}
use mathlib.Core.Path.{◌≡◌, refl, sym, ap, ◌∙◌}
use mathlib.Core.List.{List, [], ◌∷◌, ◌++◌, append_assoc}
use native.Mathlib.Nat.{add-zero, add_assoc}
use native.Mathlib.Omega.{arith}
use lib.ListN.{length, get_or, length-append}
use lib.Seq.{paste}
use Rattle.text.specs.Text.{Text, join}
use Rattle.sheet.specs.Rows.{Ten, Row, row, numbers, pack, names_of}
use Rattle.xsd_types.specs.Good.{used_pairs}
use Rattle.rows.specs.Numbers.{numbers_at}
use Rattle.rows.specs.declared.numbers.RowNumbers.{RowNumbers}
use Rattle.rows.specs.Texts.{used_texts, used_length}
use Rattle.rows.specs.Packing.{row_of, numbers_of}
use Rattle.xsd_replace.specs.Offsets.{LikeRow, Like, Offsets}
use Rattle.buffer.proofs.Laws.Buffer.{paste-at}
use Rattle.rows.proofs.Laws.Texts.{used-bytes}
use Rattle.rows.proofs.Laws.Write.{length-numbers_of}
use Rattle.rows.proofs.Laws.Middle.{get_d-middle, pack-first}

-- the first of the rows whose offsets are still to be set
pub record First (rows : List ℕ) (i end at : ℕ) (goal : List ℕ) (total : ℕ) : Type 0 where
  pub before : List ℕ
  pub behind : List ℕ
  pub t : Ten
  pub ts : List Ten
  pub r : Row
  pub us : List Row
  pub rows_are : rows ≡ before ++ (numbers (t ∷ []) ++ numbers ts) ++ behind
  pub like_row : LikeRow t r
  pub like : Like ts us
  pub place : length before ≡ 10 * i
  pub count : i + 1 + length us ≡ end
  pub bytes : at + length (join r.texts) + length (names_of us) ≡ total
  pub room : total ≤ 65536
  pub goal_is : goal ≡ before ++ (numbers_of at r ++ numbers (pack (at + length (join r.texts)) us)) ++ behind

module _ {rows goal : List ℕ} {i end at total : ℕ} where
  first_of : (before behind : List ℕ) {ts : List Ten} {us : List Row} → Like ts us → rows ≡ before ++ numbers ts ++ behind → length before ≡ 10 * i → i + length us ≡ end
      → at + length (names_of us) ≡ total → total ≤ 65536 → goal ≡ before ++ numbers (pack at us) ++ behind → i < end → First rows i end at goal total
  unfolding numbers names_of
  first_of before behind Like.none e place count bytes room g h = absurd (let no : ⊥ = omega arith in no)
  first_of before behind (Like.more {t} {ts} {r} {rs} l ls) e place count bytes room g h =
      record {
        before = before;
        behind = behind;
        t = t;
        ts = ts;
        r = r;
        us = rs;
        rows_are = e;
        like_row = l;
        like = ls;
        place = place;
        count = omega arith;
        bytes = rw add_assoc (rw length-append at bytes);
        room = room;
        goal_is = g ∙ ap (λ (l : List ℕ). before ++ l ++ behind) (pack-first at r rs);
      }

  pub offsets-first : Offsets rows i end at goal total → i < end → First rows i end at goal total
  offsets-first x h = first_of x.before x.behind x.like x.rows_are x.place x.count x.bytes x.room x.goal_is h

  end_of : (before behind : List ℕ) {ts : List Ten} {us : List Row} → Like ts us → rows ≡ before ++ numbers ts ++ behind → i + length us ≡ end
      → at + length (names_of us) ≡ total → goal ≡ before ++ numbers (pack at us) ++ behind → end ≤ i → (rows ≡ goal) × (at ≡ total)
  unfolding numbers names_of pack
  end_of before behind Like.none e count bytes g h = (e ∙ sym g, sym (add-zero at) ∙ bytes)
  end_of before behind (Like.more l ls) e count bytes g h = absurd (let no : ⊥ = omega arith in no)

  -- no row is left
  pub offsets-end : Offsets rows i end at goal total → end ≤ i → (rows ≡ goal) × (at ≡ total)
  offsets-end x h = end_of x.before x.behind x.like x.rows_are x.count x.bytes x.goal_is h

  -- a number of the first row
  pub first-number : (x : First rows i end at goal total) (j n : ℕ) → n ≡ 10 * i + j → j < 10 → get_or rows n 0 ≡ get_or (numbers (x.t ∷ [])) j 0
  unfolding numbers
  first-number x j n e h =
      ap (λ (l : List ℕ). get_or l n 0) x.rows_are ∙ get_d-middle x.before (numbers (x.t ∷ [])) (numbers x.ts) x.behind j n (rw x.place e) h

  pub record FirstNumbers (x : First rows i end at goal total) : Type 0 where
    pub tag : get_or rows (10 * i) 0 ≡ x.r.tag
    pub a : get_or rows (10 * i + 7) 0 ≡ x.r.a
    pub b : get_or rows (10 * i + 8) 0 ≡ x.r.b
    pub c : get_or rows (10 * i + 9) 0 ≡ x.r.c
    pub len0 : get_or rows (10 * i + 1 + 1) 0 ≡ length (get_or x.r.texts 0 [])
    pub len1 : get_or rows (10 * i + 3 + 1) 0 ≡ length (get_or x.r.texts 1 [])
    pub rows_room : 10 * i + 10 ≤ length rows

  pub first-numbers : (x : First rows i end at goal total) → FirstNumbers x
  unfolding numbers
  first-numbers x =
      record {
        tag = first-number x 0 (10 * i) (omega arith) (omega arith) ∙ x.like_row.tag;
        a = first-number x 7 (10 * i + 7) refl (omega arith) ∙ x.like_row.a;
        b = first-number x 8 (10 * i + 8) refl (omega arith) ∙ x.like_row.b;
        c = first-number x 9 (10 * i + 9) refl (omega arith) ∙ x.like_row.c;
        len0 = first-number x 2 (10 * i + 1 + 1) (omega arith) (omega arith) ∙ x.like_row.len0;
        len1 = first-number x 4 (10 * i + 3 + 1) (omega arith) (omega arith) ∙ x.like_row.len1;
        rows_room = omega (arith, x.place, simp length-append at (ap length x.rows_are));
      }

-- a row's texts by their lengths' places
pub texts-again : (ts : List Text) → length ts ≤ 2 → used_texts (length ts) (get_or ts 0 []) (get_or ts 1 []) ≡ ts
texts-again [] h = refl
texts-again (t ∷ []) h = refl
texts-again (t ∷ u ∷ []) h = refl
texts-again (t ∷ u ∷ v ∷ ts) h = absurd (let no : ⊥ = omega arith in no)

pub texts-bytes : (ts : List Text) → length ts ≤ 2 → length (join ts) ≡ used_length (length ts) (length (get_or ts 0 [])) (length (get_or ts 1 []))
texts-bytes ts h = ap (λ (l : List Text). length (join l)) (sym (texts-again ts h)) ∙ used-bytes (length ts) (get_or ts 0 []) (get_or ts 1 []) h

pub row-again : (r : Row) (n : RowNumbers) (pairs : ℕ) → n.tag ≡ r.tag → n.a ≡ r.a → n.b ≡ r.b → n.c ≡ r.c → pairs ≡ length r.texts → length r.texts ≤ 2
    → row_of n (used_texts pairs (get_or r.texts 0 []) (get_or r.texts 1 [])) ≡ r
unfolding row
row-again r n pairs e f g h count few = rw (e, f, g, h, count, texts-again r.texts few)

module _ {rows goal : List ℕ} {i end at total : ℕ} (x : First rows i end at goal total) where
  pub first-pairs : (n : RowNumbers) (pairs : ℕ) → n ≡ numbers_at rows i → pairs ≡ used_pairs n.tag n.a → pairs ≡ length x.r.texts
  first-pairs n pairs e f =
      let g = first-numbers x in
      f ∙ ap (λ (m : RowNumbers). used_pairs m.tag m.a) e ∙ rw (g.tag, g.a) (sym x.like_row.right.used)

  pub first-row : (n : RowNumbers) (pairs : ℕ) → n ≡ numbers_at rows i → pairs ≡ used_pairs n.tag n.a → row_of n (used_texts pairs (get_or x.r.texts 0 []) (get_or x.r.texts 1 [])) ≡ x.r
  first-row n pairs e f =
      let g = first-numbers x in
      let part : (get : RowNumbers → ℕ) → get n ≡ get (numbers_at rows i) = λ get. ap get e in
      row-again x.r n pairs (part (λ m. m.tag) ∙ g.tag) (part (λ m. m.a) ∙ g.a) (part (λ m. m.b) ∙ g.b) (part (λ m. m.c) ∙ g.c) (first-pairs n pairs e f) x.like_row.right.few

  -- the bytes of the first row's texts, by the numbers that were read
  pub first-bytes : (n : RowNumbers) (pairs a b : ℕ) → n ≡ numbers_at rows i → pairs ≡ used_pairs n.tag n.a → a ≡ get_or rows (10 * i + 1 + 1) 0 → b ≡ get_or rows (10 * i + 3 + 1) 0
      → (used_length pairs a b ≡ length (join x.r.texts)) × (pairs ≤ 2)
  first-bytes n pairs a b e f p q =
      let g = first-numbers x in
      let count = first-pairs n pairs e f in
      (rw (count, p ∙ g.len0, q ∙ g.len1) (sym (texts-bytes x.r.texts x.like_row.right.few)), omega (arith, x.like_row.right.few))

  -- the first row stored anew
  pub offsets-next : {rows' : List ℕ} (next : ℕ) → rows' ≡ paste rows (10 * i) (numbers_of at x.r) 10 → next ≡ at + length (join x.r.texts) → Offsets rows' (i + 1) end next goal total
  unfolding numbers
  offsets-next {rows'} next e f =
      let new = numbers_of at x.r in
      let rest = numbers x.ts ++ x.behind in
      let whole : rows ≡ x.before ++ numbers (x.t ∷ []) ++ rest = x.rows_are ∙ simp append_assoc in
      record {
        before = x.before ++ new;
        behind = x.behind;
        ts = x.ts;
        us = x.us;
        rows_are = e ∙ ap (λ (l : List ℕ). paste l (10 * i) new 10) whole
            ∙ paste-at x.before (numbers (x.t ∷ [])) rest new (10 * i) 10 x.place refl (length-numbers_of at x.r)
            ∙ sym (append_assoc (x.before ++ new) (numbers x.ts) x.behind);
        like = x.like;
        place = length-append x.before new ∙ omega (arith, x.place, length-numbers_of at x.r);
        count = x.count;
        bytes = rw f x.bytes;
        room = x.room;
        goal_is = x.goal_is ∙ rw (f, ← append_assoc x.before new (numbers (pack (at + length (join x.r.texts)) x.us)));
      }
