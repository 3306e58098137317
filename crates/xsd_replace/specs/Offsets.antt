-- Rows that stand as ten numbers each, and the offsets of their pairs.
--     RightPairs    a row uses as many pairs as its tag and its a say
--     LikeRow       ten numbers say of a row everything but where its texts stand
--     Like          they do of each row
--     Offsets       the rows from i to `end` are such numbers; with their texts in the names from `at` on they are `goal`, and the names end at `total`
--     OffsetsOf     there are such a goal and total
use Rattle.std.specs.Prelude.{ℕ, ◌+◌, ◌*◌, ◌≤◌, ◌≡◌, List, [], ◌∷◌, ◌++◌, length, get_or}
use Rattle.sheet.specs.Rows.{Ten, Row, numbers, pack, names_of}
use Rattle.xsd_types.specs.Good.{used_pairs}

pub record RightPairs (r : Row) : Type 0 where
  pub used : length r.texts ≡ used_pairs r.tag r.a
  pub few : length r.texts ≤ 2

pub record LikeRow (t : Ten) (r : Row) : Type 0 where
  pub right : RightPairs r
  pub tag : t.tag ≡ r.tag
  pub len0 : t.len0 ≡ length (get_or r.texts 0 [])
  pub len1 : t.len1 ≡ length (get_or r.texts 1 [])
  pub a : t.a ≡ r.a
  pub b : t.b ≡ r.b
  pub c : t.c ≡ r.c

pub data Like : List Ten → List Row → Type 0 where
  none : Like [] []
  more : {t : Ten} {ts : List Ten} {r : Row} {rs : List Row} → LikeRow t r → Like ts rs → Like (t ∷ ts) (r ∷ rs)

pub record Offsets (rows : List ℕ) (i end at : ℕ) (goal : List ℕ) (total : ℕ) : Type 0 where
  pub before : List ℕ
  pub behind : List ℕ
  pub ts : List Ten
  pub us : List Row
  pub rows_are : rows ≡ before ++ numbers ts ++ behind
  pub like : Like ts us
  pub place : length before ≡ 10 * i
  pub count : i + length us ≡ end
  pub bytes : at + length (names_of us) ≡ total
  pub room : total ≤ 65536
  pub goal_is : goal ≡ before ++ numbers (pack at us) ++ behind

pub record OffsetsOf (rows : List ℕ) (i end at : ℕ) : Type 0 where
  pub goal : List ℕ
  pub total : ℕ
  pub offsets : Offsets rows i end at goal total
