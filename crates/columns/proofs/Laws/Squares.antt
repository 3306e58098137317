-- Laws of squares: what four vectors are that are read, turned and written, and which numbers are written then. No contract cites them. Assumes nothing.
--     to_four       a property of the numbers below c + 4, by those below c and the four
--     turned_column, turned_row    what two neighbouring rows give
--     column_square, row_square    one square more is written
use Rattle.std.proofs.Common.{◌≡◌, ℕ, suc, ◌+◌, ◌*◌, ◌<◌, ◌≤◌, List, [], ◌∷◌, length, get_or, sym, refl, ◌∙◌}
use Rattle.std.proofs.Common.{ap, ◌⊎◌, inl, inr, ⊎_elim, add_assoc, add-zero, suc-mul, mul-le-mul_right, eq-or-lt_of_le, arith}
use native.Mathlib.Nat.{add-mul}
use Rattle.std.specs.Simd.Lanes.{chunk, put_chunk, zip2}
use Rattle.std.proofs.lemmas.Bool.{cases_lt, cases_order}
use Rattle.std.proofs.lemmas.Simd.{length-chunk, get_or-chunk, length-put_chunk, get_or-put_chunk_below, get_or-put_chunk_at, get_or-put_chunk_above}
use Rattle.columns.specs.Columns.{modulus, minus, plus, height, in_row, in_column, changed, restored}
use Rattle.columns.specs.Filled.{before, by_column, by_row, Corner, Strip, four_of, row_above, sums_above, square_at}
use Rattle.columns.proofs.Laws.Places.{column_fits}
use Rattle.columns.proofs.Laws.Filled.{before_next, changed-is, restored-before}

below_next : (P : ℕ → Type 0) (c d : ℕ) → d ≡ c + 1 → ((j : ℕ) → j < c → P j) → P c → (j : ℕ) → j < d → P j
below_next P c d e below at j l =
    let b : j ≤ c = omega arith in
    ⊎_elim (λ (q : j ≡ c). rw q at) (λ (s : j < c). below j s) (eq-or-lt_of_le b)

pub to_four : (P : ℕ → Type 0) (c : ℕ) → ((j : ℕ) → j < c → P j) → P c → P (c + 1) → P (c + 2) → P (c + 3) → (j : ℕ) → j < c + 4 → P j
to_four P c below a b d e =
    below_next P (c + 3) (c + 4) (omega arith) (below_next P (c + 2) (c + 3) (omega arith) (below_next P (c + 1) (c + 2) (omega arith) (below_next P c (c + 1) refl below a) b) d) e

-- ---- read
list_four : (xs : List ℕ) → length xs ≡ 4 → xs ≡ get_or xs 0 0 ∷ get_or xs 1 0 ∷ get_or xs 2 0 ∷ get_or xs 3 0 ∷ []
list_four [] e = absurd (omega arith)
list_four (a ∷ []) e = absurd (omega arith)
list_four (a ∷ b ∷ []) e = absurd (omega arith)
list_four (a ∷ b ∷ c ∷ []) e = absurd (omega arith)
list_four (a ∷ b ∷ c ∷ d ∷ []) e = refl
list_four (a ∷ b ∷ c ∷ d ∷ x ∷ xs) e = absurd (omega arith)

chunk_four : (i : ℕ) (xs : List ℕ) → i + 4 ≤ length xs → chunk i 4 xs ≡ get_or xs (i + 0) 0 ∷ get_or xs (i + 1) 0 ∷ get_or xs (i + 2) 0 ∷ get_or xs (i + 3) 0 ∷ []
chunk_four i xs l =
    list_four (chunk i 4 xs) (length-chunk i 4 xs l)
    ∙ rw (get_or-chunk i 4 xs 0 0 (omega arith), get_or-chunk i 4 xs 1 0 (omega arith), get_or-chunk i 4 xs 2 0 (omega arith), get_or-chunk i 4 xs 3 0 (omega arith))

pub read_row : (rows : List ℕ) (c r s p : ℕ) → s ≡ r + 1 → p ≡ 10 * r + c → p + 4 ≤ length rows → chunk p 4 rows ≡ row_above rows c s
unfolding row_above
read_row rows c r s p g e l =
    chunk_four p rows l
    ∙ rw (
      g,
      e,
      add-zero (10 * r + c),
      add_assoc (10 * r) c 1,
      add_assoc (10 * r) c 2,
      add_assoc (10 * r) c 3,
      before_next (λ k. in_row rows k c) r,
      before_next (λ k. in_row rows k (c + 1)) r,
      before_next (λ k. in_row rows k (c + 2)) r,
      before_next (λ k. in_row rows k (c + 3)) r,
    )

pub read_column : (columns : List ℕ) (h c r p : ℕ) → height columns ≡ h → p ≡ c * h + r → p + 4 ≤ length columns → chunk p 4 columns ≡ four_of (in_column columns c) r
read_column columns h c r p g e l =
    chunk_four p columns l ∙ rw (g, e, add-zero (c * h + r), add_assoc (c * h) r 1, add_assoc (c * h) r 2, add_assoc (c * h) r 3)

-- ---- turned
pub turned_column : (rows : List ℕ) (c r s : ℕ) → s ≡ r + 1 → ((k : ℕ) → get_or rows k 0 < modulus) → zip2 minus (row_above rows c s) (row_above rows c r) ≡ four_of (λ j. changed rows j r) c
unfolding row_above
turned_column rows c r s g small =
    let one = λ (j : ℕ). (ap (λ x. minus x (before (λ k. in_row rows k j) r)) (before_next (λ k. in_row rows k j) r)) ∙ changed-is rows j r (small (10 * r + j)) in
    rw g (λ i. one c i ∷ one (c + 1) i ∷ one (c + 2) i ∷ one (c + 3) i ∷ [])

pub turned_row : (columns : List ℕ) (c r : ℕ) → ((k : ℕ) → get_or columns k 0 < modulus) → zip2 plus (sums_above columns c r) (four_of (λ j. in_column columns j r) c)
    ≡ four_of (λ j. restored columns j r) c
unfolding sums_above
turned_row columns c r s =
    let one = λ (j : ℕ). restored-before columns j r (s (j * height columns + r)) in
    (λ i. one c i ∷ one (c + 1) i ∷ one (c + 2) i ∷ one (c + 3) i ∷ [])

pub sums_next : (columns : List ℕ) (c r s : ℕ) → s ≡ r + 1 → four_of (λ j. restored columns j r) c ≡ sums_above columns c s
unfolding sums_above
sums_next columns c r s g =
    let one = λ (j : ℕ). sym (before_next (restored columns j) r) in
    rw g (λ i. one c i ∷ one (c + 1) i ∷ one (c + 2) i ∷ one (c + 3) i ∷ [])

-- ---- written: four numbers at place p
module _ (p : ℕ) (out : List ℕ) (a b c d : ℕ) where
  four : List ℕ
  four = put_chunk p out (a ∷ b ∷ c ∷ d ∷ [])

  lane : (q m : ℕ) → q ≡ p + m → m < 4 → p + 4 ≤ length out → get_or four q 0 ≡ get_or (a ∷ b ∷ c ∷ d ∷ []) m 0
  unfolding four
  lane q m e few l = rw e (get_or-put_chunk_at p out _ m 0 few l)

  beside : (q : ℕ) → (q < p) ⊎ (p + 4 ≤ q) → get_or four q 0 ≡ get_or out q 0
  unfolding four
  beside q w =
      ⊎_elim (λ (s : q < p). get_or-put_chunk_below p out _ q 0 s) (λ (s : p + 4 ≤ q). get_or-put_chunk_above p out _ q 0 s) w

-- ---- written down four columns
pub place_more : (c h r m p : ℕ) → p ≡ c * h + r → p + m * h ≡ (c + m) * h + r
place_more c h r m p e = omega (arith, add-mul c m h)

-- a square of n ≤ h rows beside column j
apart : (h i j r k : ℕ) → k < h → r + 4 ≤ h → (j < i) ⊎ (i < j) → (j * h + k < i * h + r) ⊎ (i * h + r + 4 ≤ j * h + k)
apart h i j r k a b w =
    ⊎_elim
    (λ (s : j < i). let m : suc j * h ≤ i * h = mul-le-mul_right h s in inl (omega (arith, suc-mul j h)))
    (λ (s : i < j). let m : suc i * h ≤ j * h = mul-le-mul_right h s in inr (omega (arith, suc-mul i h)))
    w

module _ (f : ℕ → ℕ → ℕ) (h i r : ℕ) (out : List ℕ) where
  after : List ℕ
  after = put_chunk (i * h + r) out (four_of (f i) r)

  length-after : length after ≡ length out
  unfolding after
  length-after = length-put_chunk (i * h + r) out (four_of (f i) r)

  own : i * h + r + 4 ≤ length out → ((k : ℕ) → k < r → get_or out (i * h + k) 0 ≡ f i k) → (k : ℕ) → k < r + 4 → get_or after (i * h + k) 0 ≡ f i k
  unfolding after four
  own l w =
      let at = λ (q m : ℕ) (e : q ≡ i * h + r + m) (b : m < 4). lane (i * h + r) out (f i r) (f i (r + 1)) (f i (r + 2)) (f i (r + 3)) q m e b l in
      to_four (λ k. get_or after (i * h + k) 0 ≡ f i k) r
      (λ k b. beside (i * h + r) out (f i r) (f i (r + 1)) (f i (r + 2)) (f i (r + 3)) (i * h + k) (inl (omega arith)) ∙ w k b)
      (at (i * h + r) 0 (omega arith) (omega arith))
      (at (i * h + (r + 1)) 1 (omega arith) (omega arith))
      (at (i * h + (r + 2)) 2 (omega arith) (omega arith))
      (at (i * h + (r + 3)) 3 (omega arith) (omega arith))

  keeps : (j k : ℕ) → k < h → r + 4 ≤ h → (j < i) ⊎ (i < j) → get_or after (j * h + k) 0 ≡ get_or out (j * h + k) 0
  unfolding after four
  keeps j k a b w = beside (i * h + r) out (f i r) (f i (r + 1)) (f i (r + 2)) (f i (r + 3)) (j * h + k) (apart h i j r k a b w)

-- one column more of the square
record Stage (f : ℕ → ℕ → ℕ) (h c r n m : ℕ) (out : List ℕ) : Type 0 where
  long : length out ≡ 10 * h
  strip : Strip (by_column h) f c r n out
  done : (j k : ℕ) → c ≤ j → j < m → k < r + 4 → get_or out (j * h + k) 0 ≡ f j k

stage_next : (f : ℕ → ℕ → ℕ) (h c r n m : ℕ) (out : List ℕ) → r + 4 ≤ n → n ≤ h → c ≤ m → m < c + 4 → m < 10 → Stage f h c r n m out → Stage f h c r n (m + 1) (after f h m r out)
stage_next f h c r n m out a b low high ten w =
    let small : m * h + h ≤ 10 * h = column_fits m h ten in
    let fits : m * h + r + 4 ≤ length out = omega (arith, w.long) in
    let mine = own f h m r out fits (λ k l. w.strip.part.is m k high l) in
    let kept = λ (j k : ℕ) (l : k < h) (o : (j < m) ⊎ (m < j)). keeps f h m r out j k l (omega arith) o in
    record {
      long = length-after f h m r out ∙ w.long;
      strip = record {
        whole = record { is = λ j k s t. kept j k (omega arith) (inl (omega arith)) ∙ w.strip.whole.is j k s t };
        part = record { is = λ j k s t. ⊎_elim (λ (e : j ≡ m). rw e (mine k (omega arith))) (λ (o : (j < m) ⊎ (m < j)). kept j k (omega arith) o ∙ w.strip.part.is j k s t) (cases_order j m) };
      };
      done = λ j k s t u. ⊎_elim (λ (e : j ≡ m). rw e (mine k u)) (λ (o : j < m). kept j k (omega arith) (inl o) ∙ w.done j k s o u) (eq-or-lt_of_le (let q : j ≤ m = omega arith in q));
    }

pub column_square : (f : ℕ → ℕ → ℕ) (h c r n p : ℕ) (out : List ℕ) → p ≡ c * h + r → c ≤ 6 → r + 4 ≤ n → n ≤ h → length out ≡ 10 * h → Strip (by_column h) f c r n out
    → Strip (by_column h) f c (r + 4) n (square_at p h out (four_of (f c) r) (four_of (f (c + 1)) r) (four_of (f (c + 2)) r) (four_of (f (c + 3)) r))
unfolding after
column_square f h c r n p out e six a b long w =
    let s0 : Stage f h c r n c out = record { long = long; strip = w; done = λ j k s t u. absurd (omega arith) } in
    let s1 = stage_next f h c r n c out a b (omega arith) (omega arith) (omega arith) s0 in
    let s2 = stage_next f h c r n (c + 1) _ a b (omega arith) (omega arith) (omega arith) s1 in
    let s3 = stage_next f h c r n (c + 2) _ a b (omega arith) (omega arith) (omega arith) (rw (add_assoc c 1 1) at s2) in
    let s4 = stage_next f h c r n (c + 3) _ a b (omega arith) (omega arith) (omega arith) (rw (add_assoc c 2 1) at s3) in
    let e1 : p + h ≡ (c + 1) * h + r = omega (arith, add-mul c 1 h) in
    rw (e1, place_more c h r 2 p e, place_more c h r 3 p e, e)
    (record {
      whole = s4.strip.whole;
      part = record { is = λ j k s t. ⊎_elim (λ (l : j < c). s4.strip.whole.is j k l (omega arith)) (λ (l : c ≤ j). s4.done j k l (omega arith) t) (cases_lt j c) };
    })

-- ---- written along four rows
aside : (c r j k p : ℕ) → p ≡ 10 * r + c → c ≤ 6 → j < c → (10 * k + j < p) ⊎ (p + 4 ≤ 10 * k + j)
aside c r j k p e six t = ⊎_elim (λ (l : 10 * k + j < p). inl l) (λ (g : p ≤ 10 * k + j). inr (omega arith)) (cases_lt (10 * k + j) p)

row_step : (f : ℕ → ℕ → ℕ) (c r s n p : ℕ) (out : List ℕ) → p ≡ 10 * r + c → s ≡ r + 1 → c ≤ 6 → r < n → 10 * n ≤ length out → Strip by_row f c r n out
    → Strip by_row f c s n (put_chunk p out (four_of (λ j. f j r) c))
unfolding four
row_step f c r s n p out e g six b l w =
    let off = beside p out (f c r) (f (c + 1) r) (f (c + 2) r) (f (c + 3) r) in
    let at = λ (q m : ℕ) (d : q ≡ p + m) (k : m < 4). lane p out (f c r) (f (c + 1) r) (f (c + 2) r) (f (c + 3) r) q m d k (omega arith) in
    let whole = λ (j k : ℕ) (t : j < c) (u : k < n). off (10 * k + j) (aside c r j k p e six t) ∙ w.whole.is j k t u in
    record {
      whole = record { is = whole };
      part = record {
        is = λ j k t u. ⊎_elim
            (λ (d : k ≡ r). rw d (to_four (λ j. get_or (four p out (f c r) (f (c + 1) r) (f (c + 2) r) (f (c + 3) r)) (10 * r + j) 0 ≡ f j r) c (λ j v. whole j r v b)
            (at (10 * r + c) 0 (omega arith) (omega arith)) (at (10 * r + (c + 1)) 1 (omega arith) (omega arith))
            (at (10 * r + (c + 2)) 2 (omega arith) (omega arith)) (at (10 * r + (c + 3)) 3 (omega arith) (omega arith)) j t))
            (λ (d : k < r). off (10 * k + j) (inl (omega arith)) ∙ w.part.is j k t d)
            (eq-or-lt_of_le (let q : k ≤ r = omega arith in q));
      };
    }

pub row_square : (f : ℕ → ℕ → ℕ) (c r n p : ℕ) (out : List ℕ) → p ≡ 10 * r + c → c ≤ 6 → r + 4 ≤ n → 10 * n ≤ length out → Strip by_row f c r n out
    → Strip by_row f c (r + 4) n (square_at p 10 out (four_of (λ j. f j r) c) (four_of (λ j. f j (r + 1)) c) (four_of (λ j. f j (r + 2)) c) (four_of (λ j. f j (r + 3)) c))
row_square f c r n p out e six b l w =
    let long = λ (i : ℕ) (xs ys : List ℕ). length-put_chunk i xs ys in
    let s1 = row_step f c r (r + 1) n p out e refl six (omega arith) l w in
    let s2 = row_step f c (r + 1) (r + 2) n (p + 10) _ (omega arith) (omega arith) six (omega arith) (rw (long _ _ _) l) s1 in
    let s3 = row_step f c (r + 2) (r + 3) n (p + 2 * 10) _ (omega arith) (omega arith) six (omega arith) (rw (long _ _ _, long _ _ _) l) s2 in
    row_step f c (r + 3) (r + 4) n (p + 3 * 10) _ (omega arith) (omega arith) six (omega arith) (rw (long _ _ _, long _ _ _, long _ _ _) l) s3

pub length-square : (p step : ℕ) (out a b c d : List ℕ) → length (square_at p step out a b c d) ≡ length out
length-square p step out a b c d =
    let long = λ (i : ℕ) (xs ys : List ℕ). length-put_chunk i xs ys in
    long _ _ d ∙ long _ _ c ∙ long _ _ b ∙ long _ out a

-- ---- a pass over four columns begins
pub strip_none : (place f : ℕ → ℕ → ℕ) (c n : ℕ) (out : List ℕ) → Corner place f c n out → Strip place f c 0 n out
strip_none place f c n out w = record { whole = w; part = record { is = λ j k s t. absurd (omega arith) } }

pub corner_none : (place f : ℕ → ℕ → ℕ) (n : ℕ) (out : List ℕ) → Corner place f 0 n out
corner_none place f n out = record { is = λ j k s t. absurd (omega arith) }
