-- What the loops say of what they have written so far. Squares of four rows and four columns are turned at once, four columns in a pass over the rows; the rows
-- behind the last square are written number by number.
--     Filled f k out     the first k numbers are f 0, f 1, .. f (k - 1)
--     Sized              source and target have ten numbers for each of h rows
--     above_in           the number above the one at place k of rows, 0 above the first row
--     before f r         f of the row above row r, 0 above the first
--     by_column, by_row  where the number of column j and row k stands among the columns and among the rows
--     fours h            how many rows the squares of h rows have
--     Corner             the numbers of the first c columns and r rows are written
--     Strip              of n rows, columns below c are written, and of the four from c on the first r rows
--     four_of f c        f of c and the three behind it
--     across k a b c d   the number k of each of four vectors
--     square_at          four vectors written `step` numbers apart
use Rattle.std.specs.Prelude.{◌≡◌, ℕ, zero, suc, ◌+◌, ◌-◌, ◌*◌, ◌/◌, ◌<◌, ◌≤◌, List, [], ◌∷◌, length, take, nat_lt, slice_index, if◌then◌else◌}
use Rattle.std.specs.Simd.Lanes.{put_chunk}
use Rattle.sheet.specs.Limits.{row_numbers}
use Rattle.columns.specs.Columns.{up_to, in_row, restored}

pub record Filled (f : ℕ → ℕ) (k : ℕ) (out : List ℕ) : Type 0 where
  pub is : take k out ≡ up_to k f

pub record Sized (source target : List ℕ) (h : ℕ) : Type 0 where
  pub source_long : length source ≡ 10 * h
  pub target_long : length target ≡ 10 * h
  pub few : h ≤ 4096

unfoldable pub above_in : List ℕ → ℕ → ℕ
above_in out k = if nat_lt k row_numbers then 0 else slice_index out (k - row_numbers)

unfoldable pub before : (ℕ → ℕ) → ℕ → ℕ
before f zero = 0
before f (suc r) = f r

abbrev pub by_column : ℕ → ℕ → ℕ → ℕ
by_column h j k = j * h + k

abbrev pub by_row : ℕ → ℕ → ℕ
by_row j k = row_numbers * k + j

abbrev pub fours : ℕ → ℕ
fours h = h / 4 * 4

pub record Corner (place : ℕ → ℕ → ℕ) (f : ℕ → ℕ → ℕ) (c r : ℕ) (out : List ℕ) : Type 0 where
  pub is : (j k : ℕ) → j < c → k < r → slice_index out (place j k) ≡ f j k

pub record Strip (place : ℕ → ℕ → ℕ) (f : ℕ → ℕ → ℕ) (c r n : ℕ) (out : List ℕ) : Type 0 where
  pub whole : Corner place f c n out
  pub part : Corner place f (c + 4) r out

abbrev pub four_of : (ℕ → ℕ) → ℕ → List ℕ
four_of f c = f c ∷ f (c + 1) ∷ f (c + 2) ∷ f (c + 3) ∷ []

-- four numbers of the row above row r, and of the sums above it
unfoldable pub row_above : List ℕ → ℕ → ℕ → List ℕ
row_above rows c r = four_of (λ j. before (λ k. in_row rows k j) r) c

unfoldable pub sums_above : List ℕ → ℕ → ℕ → List ℕ
sums_above columns c r = four_of (λ j. before (restored columns j) r) c

abbrev pub across : ℕ → List ℕ → List ℕ → List ℕ → List ℕ → List ℕ
across k a b c d = slice_index a k ∷ slice_index b k ∷ slice_index c k ∷ slice_index d k ∷ []

abbrev pub square_at : ℕ → ℕ → List ℕ → List ℕ → List ℕ → List ℕ → List ℕ → List ℕ
square_at from step out a b c d = put_chunk (from + 3 * step) (put_chunk (from + 2 * step) (put_chunk (from + step) (put_chunk from out a) b) c) d
