-- Laws of specs/Filled.antt: what is above a number, numbers written one a turn, and which number comes next. No contract cites them. Assumes nothing.
use Rattle.std.proofs.Common.{◌≡◌, ℕ, zero, suc, ◌+◌, ◌-◌, ◌*◌, ◌/◌, ◌%◌, ◌<◌, ◌≤◌, List, length, get_or, set, take, sym, refl, ◌∙◌}
use Rattle.std.proofs.Common.{add-one, arith, take_all, get_or-take, length-take-le, take-suc-set, ext_get_or, le-ltb, lt-ltb}
use Rattle.columns.specs.Columns.{modulus, minus, plus, up_to, height, in_row, in_column, changed, restored, row_number_at}
use Rattle.columns.specs.Filled.{Filled, above_in, before}
use Rattle.columns.proofs.Laws.Places.{length-up_to, get_d-up_to}

pub filled_more : {f : ℕ → ℕ} {k : ℕ} {out : List ℕ} → Filled f k out → k < length out → (x : ℕ) → x ≡ f k → Filled f (k + 1) (set out k x)
unfolding up_to
filled_more {f} {k} {out} w h x e = record { is = rw (add-one k, take-suc-set out k x h, w.is, e) }

pub filled_from : (f : ℕ → ℕ) (k : ℕ) (out : List ℕ) → k ≤ length out → ((j : ℕ) → j < k → get_or out j 0 ≡ f j) → Filled f k out
filled_from f k out le h =
    record {
      is = ext_get_or 0 (take k out) (up_to k f) (length-take-le k out le ∙ sym (length-up_to k f))
          (λ (j : ℕ) b. let s : j < k = rw (length-take-le k out le) at b in get_or-take k out j 0 s ∙ h j s ∙ sym (get_d-up_to k f j s));
    }

pub filled-all : {f : ℕ → ℕ} {k : ℕ} (n : ℕ) (out : List ℕ) → Filled f k out → k ≡ n → length out ≤ n → out ≡ up_to n f
filled-all {f} {k} n out w e l = sym (take_all n out l) ∙ rw (← e) w.is

filled_at : {f : ℕ → ℕ} {k : ℕ} {out : List ℕ} → Filled f k out → (j : ℕ) → j < k → get_or out j 0 ≡ f j
filled_at {f} {k} {out} w j h = sym (get_or-take k out j 0 h) ∙ rw w.is (get_d-up_to k f j h)

-- ---- what is above
pub before_next : (f : ℕ → ℕ) (r : ℕ) → before f (r + 1) ≡ f r
unfolding before
before_next f r = rw (add-one r)

pub above-before : (rows : List ℕ) (c r : ℕ) → c < 10 → above_in rows (10 * r + c) ≡ before (λ k. in_row rows k c) r
unfolding above_in before
above-before rows c zero l = rw (lt-ltb (10 * 0 + c) 10 (omega arith))
above-before rows c (suc r) l = let j : 10 * suc r + c - 10 ≡ 10 * r + c = omega arith in rw (le-ltb (10 * suc r + c) 10 (omega arith), j)

pub changed-is : (rows : List ℕ) (c r : ℕ) → in_row rows r c < modulus → minus (in_row rows r c) (before (λ k. in_row rows k c) r) ≡ changed rows c r
unfolding changed before minus
changed-is rows c zero h = omega arith
changed-is rows c (suc r) h = refl

plus-zero : (x : ℕ) → x < modulus → plus 0 x ≡ x
unfolding plus
plus-zero x h = omega arith

pub restored-before : (columns : List ℕ) (c r : ℕ) → in_column columns c r < modulus → plus (before (restored columns c) r) (in_column columns c r) ≡ restored columns c r
unfolding restored before
restored-before columns c zero s = plus-zero _ s
restored-before columns c (suc r) s = refl

-- ---- a row
restored-is : (columns out : List ℕ) (c r k : ℕ) → c < 10 → k ≡ 10 * r + c → Filled (row_number_at columns) k out → in_column columns c r < modulus
    → plus (above_in out k) (in_column columns c r) ≡ restored columns c r
unfolding restored above_in row_number_at
restored-is columns out c zero k l e w s = rw (lt-ltb k 10 (omega arith)) (plus-zero _ s)
restored-is columns out c (suc r) k l e w s =
    let b : 10 ≤ k = omega arith in
    let j : k - 10 ≡ 10 * r + c = omega arith in
    let m : (10 * r + c) % 10 ≡ c = omega arith in
    let d : (10 * r + c) / 10 ≡ r = omega arith in
    rw (le-ltb k 10 b, filled_at w (k - 10) (omega arith), j, m, d)

-- the number at place k of the rows
pub row_number : (columns out : List ℕ) (h c r k : ℕ) → length columns ≡ 10 * h → c < 10 → k ≡ 10 * r + c → Filled (row_number_at columns) k out
    → get_or columns (c * h + r) 0 < modulus → plus (above_in out k) (get_or columns (c * h + r) 0) ≡ row_number_at columns k
unfolding row_number_at
row_number columns out h c r k n l e w s =
    let g : height columns ≡ h = omega arith in
    let m : k % 10 ≡ c = omega arith in
    let d : k / 10 ≡ r = omega arith in
    rw (m, d) (rw g at (restored-is columns out c r k l e w (rw g s)))
