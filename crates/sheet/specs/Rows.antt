-- Rows of ten numbers and a names buffer. Paper 01, "Schema sheet": "Rows of ten u32: tag, three pairs, a, b, c. With it a names buffer."
--     Ten           a row as ten numbers
--     ten, tens     the row that a list of numbers begins with; the first n rows of one
--     numbers       rows as numbers
--     Row           a row with the texts of its used pairs, which are always the first ones
--     row           a row of a tag with its texts and numbers
--     bit           a flag as a number
--     pairs k ts    the numbers of a row's pairs where the texts ts stand in the names from k
--     pack_row, pack a row, or a list of rows, whose texts stand in the names from k
--     names_of       the used names: all texts in row order
--     unpack_row     a row of numbers with the texts read from the names; `used` says how many pairs a row of a tag and an a uses
--     filled n xs   xs and zeros behind it, n numbers in all
--     all_zero       all are zero
--     Sheet         the two buffers of a sheet
--     sheet_of_rows   row 0 and the rows behind it in buffers of the given lengths
use Rattle.std.specs.Prelude.{ℕ, zero, suc, ◌+◌, ◌-◌, List, [], ◌∷◌, ◌++◌, Bool, true, false, ◌&&◌, eqb, length, get_or, take, drop, replicate}
use Rattle.text.specs.Text.{Text, join}

pub record Ten : Type 0 where
  pub tag : ℕ
  pub at0 : ℕ
  pub len0 : ℕ
  pub at1 : ℕ
  pub len1 : ℕ
  pub at2 : ℕ
  pub len2 : ℕ
  pub a : ℕ
  pub b : ℕ
  pub c : ℕ

unfoldable pub ten : List ℕ → Ten
ten r =
    record {
      tag = get_or r 0 0;
      at0 = get_or r 1 0;
      len0 = get_or r 2 0;
      at1 = get_or r 3 0;
      len1 = get_or r 4 0;
      at2 = get_or r 5 0;
      len2 = get_or r 6 0;
      a = get_or r 7 0;
      b = get_or r 8 0;
      c = get_or r 9 0;
    }

unfoldable pub tens : ℕ → List ℕ → List Ten
tens zero r = []
tens (suc n) r = ten r ∷ tens n (drop 10 r)

unfoldable pub numbers : List Ten → List ℕ
numbers [] = []
numbers (t ∷ ts) =
    t.tag ∷ t.at0 ∷ t.len0 ∷ t.at1 ∷ t.len1 ∷ t.at2 ∷ t.len2 ∷ t.a ∷ t.b ∷ t.c ∷ numbers ts

pub record Row : Type 0 where
  pub tag : ℕ
  pub texts : List Text
  pub a : ℕ
  pub b : ℕ
  pub c : ℕ

unfoldable pub row : ℕ → List Text → ℕ → ℕ → ℕ → Row
row tag texts a b c = record { tag = tag; texts = texts; a = a; b = b; c = c }

unfoldable pub bit : Bool → ℕ
bit false = 0
bit true = 1

pub record Pairs : Type 0 where
  pub at0 : ℕ
  pub len0 : ℕ
  pub at1 : ℕ
  pub len1 : ℕ
  pub at2 : ℕ
  pub len2 : ℕ

-- "Used pairs, read in row order, cover the names from 0, each (an empty one too) starting at the end of the one before; an unused pair is 0 0"
unfoldable pub pairs : ℕ → List Text → Pairs
pairs k [] = record { at0 = 0; len0 = 0; at1 = 0; len1 = 0; at2 = 0; len2 = 0 }
pairs k (t ∷ []) = record { at0 = k; len0 = length t; at1 = 0; len1 = 0; at2 = 0; len2 = 0 }
pairs k (t ∷ u ∷ []) =
    record { at0 = k; len0 = length t; at1 = k + length t; len1 = length u; at2 = 0; len2 = 0 }
pairs k (t ∷ u ∷ v ∷ more) =
    record { at0 = k; len0 = length t; at1 = k + length t; len1 = length u; at2 = k + length t + length u; len2 = length v }

unfoldable pub pack_row : ℕ → Row → Ten
pack_row k r =
    let p = pairs k r.texts in
    record {
      tag = r.tag;
      at0 = p.at0;
      len0 = p.len0;
      at1 = p.at1;
      len1 = p.len1;
      at2 = p.at2;
      len2 = p.len2;
      a = r.a;
      b = r.b;
      c = r.c;
    }

unfoldable pub pack : ℕ → List Row → List Ten
pack k [] = []
pack k (r ∷ rs) = pack_row k r ∷ pack (k + length (join r.texts)) rs

unfoldable pub names_of : List Row → Text
names_of [] = []
names_of (r ∷ rs) = join r.texts ++ names_of rs

unfoldable pub text_at : List ℕ → ℕ → ℕ → Text
text_at names at len = take len (drop at names)

unfoldable pub unpack_row : (ℕ → ℕ → ℕ) → List ℕ → Ten → Row
unpack_row used names t =
    record {
      tag = t.tag;
      texts = take (used t.tag t.a) (text_at names t.at0 t.len0 ∷ text_at names t.at1 t.len1 ∷ text_at names t.at2 t.len2 ∷ []);
      a = t.a;
      b = t.b;
      c = t.c;
    }

unfoldable pub filled : ℕ → List ℕ → List ℕ
filled n xs = xs ++ replicate (n - length xs) 0

unfoldable pub all_zero : List ℕ → Bool
all_zero [] = true
all_zero (x ∷ xs) = eqb x 0 && all_zero xs

pub record Sheet : Type 0 where
  pub rows : List ℕ
  pub names : List ℕ

-- "other unused numbers, and all past the used parts, are zero"
unfoldable pub sheet_of_rows : Ten → List Row → ℕ → ℕ → Sheet
sheet_of_rows row0 rs rows_length names_length =
    record { rows = filled rows_length (numbers (row0 ∷ pack 0 rs)); names = filled names_length (names_of rs) }
