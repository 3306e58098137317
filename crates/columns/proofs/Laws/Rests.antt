-- Laws of what stands behind the squares, and of the whole once all is written. No contract cites them. Assumes nothing.
use Rattle.std.proofs.Common.{◌≡◌, ℕ, ◌+◌, ◌*◌, ◌/◌, ◌%◌, ◌<◌, ◌≤◌, List, length, get_or, set, sym, ◌∙◌, ap, ⊎_elim, mod-lt, div-lt_iff_lt-mul, div-add-mod', arith, eq-or-lt_of_le, ext_get_or}
use Rattle.std.proofs.lemmas.List.{get_or-set_same, get_or-set_other}
use Rattle.columns.specs.Columns.{height, changed, column_at, columns_of, restored, row_number_at}
use Rattle.columns.specs.Filled.{Filled, by_column, by_row, Corner}
use Rattle.columns.proofs.Laws.Places.{length-up_to, get_d-up_to, at-column, at_row, column_fits}
use Rattle.columns.proofs.Laws.Filled.{filled_from}

-- what stands in one place of the columns is one number
one_place : (h i j r k : ℕ) → k < h → r < h → j * h + k ≡ i * h + r → (j ≡ i) × (k ≡ r)
one_place h i j r k a b e =
    (sym (at-column h j k a) ∙ ap (λ x. x / h) e ∙ at-column h i r b, sym (at_row h j k a) ∙ ap (λ x. x % h) e ∙ at_row h i r b)

-- `put_rest` writes row r of column c, where the columns before are written, and all as far as squares reach
pub rest_more : (f : ℕ → ℕ → ℕ) (h c r n : ℕ) (out : List ℕ) (x : ℕ) → length out ≡ 10 * h → c < 10 → r < h → n ≤ r → x ≡ f c r
    → Corner (by_column h) f c h out → Corner (by_column h) f 10 n out → Corner (by_column h) f (c + 1) r out
    → Corner (by_column h) f c h (set out (c * h + r) x) × Corner (by_column h) f 10 n (set out (c * h + r) x) × Corner (by_column h) f (c + 1) (r + 1) (set out (c * h + r) x)
rest_more f h c r n out x long ten low le e columns squares upto =
    let keeps = λ (j k : ℕ) (l : k < h) (d : (j ≡ c) → (k ≡ r) → ⊥). get_or-set_other out (c * h + r) (j * h + k) x 0 (λ q. let s = one_place h c j r k l low q in d s.0 s.1) in
    let fits : c * h + r < length out = omega (arith, long, column_fits c h ten) in (
      record { is = λ j k s t. keeps j k t (λ a b. omega arith) ∙ columns.is j k s t },
      record { is = λ j k s t. keeps j k (omega arith) (λ a b. omega arith) ∙ squares.is j k s t },
      record {
        is = λ j k s t. ⊎_elim
            (λ (q : k ≡ r). ⊎_elim
            (λ (p : j ≡ c). rw (p, q) (get_or-set_same out (c * h + r) x 0 fits ∙ e))
            (λ (p : j < c). keeps j k (omega arith) (λ a b. omega arith) ∙ columns.is j k p (omega arith))
            (eq-or-lt_of_le (let w : j ≤ c = omega arith in w)))
            (λ (q : k < r). keeps j k (omega arith) (λ a b. omega arith) ∙ upto.is j k s q)
            (eq-or-lt_of_le (let w : k ≤ r = omega arith in w));
      },
    )

-- all is written
pub columns_from : (rows out : List ℕ) (h : ℕ) → length rows ≡ 10 * h → length out ≡ 10 * h → Corner (by_column h) (changed rows) 10 h out → out ≡ columns_of rows
unfolding columns_of column_at
columns_from rows out h l m w =
    let tall : height rows ≡ h = omega arith in
    ext_get_or 0 out _ (m ∙ sym l ∙ sym (length-up_to (length rows) _))
    (λ (k : ℕ) (b : k < length out).
    let some : 0 < h = omega arith in
    let c : k / h < 10 = (div-lt_iff_lt-mul {x = k} {y = 10} some).1 (omega arith) in
    ap (λ (j : ℕ). get_or out j 0) (sym (div-add-mod' k h)) ∙ w.is (k / h) (k % h) c (mod-lt k some) ∙ rw (← tall) (sym (get_d-up_to (length rows) _ k (omega arith))))

pub rows_from : (columns out : List ℕ) (n : ℕ) → 10 * n ≤ length out → Corner by_row (restored columns) 10 n out → Filled (row_number_at columns) (10 * n) out
unfolding row_number_at
rows_from columns out n l w =
    filled_from _ (10 * n) out l
    (λ (k : ℕ) (b : k < 10 * n).
    let e : k ≡ 10 * (k / 10) + k % 10 = omega arith in
    ap (λ (j : ℕ). get_or out j 0) e ∙ w.is (k % 10) (k / 10) (omega arith) (omega arith))
