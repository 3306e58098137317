-- `columns::put_square_of_columns` meets its contract: the differences of four rows to those above, turned, are four numbers of each of four columns. Assumes nothing.
use Rattle.std.proofs.Common.{◌≡◌, ℕ, ◌+◌, ◌*◌, ◌<◌, ◌≤◌, length, refl, ◌∙◌, get_or, arith}
use Rattle.columns.specs.Columns.{modulus, changed}
use Rattle.columns.specs.Filled.{four_of}
use Rattle.columns.proofs.Laws.Squares.{read_row, turned_column, column_square, length-square}
use Rattle.columns.proofs.put_square_of_columns.Goals as goal

pub returns : goal.returns
returns c =
    let rows = c.args.rows.now in
    let h = c.args.height in
    let r = c.args.r in
    let k = c.args.c in
    let sized = c.requires.0 in
    let small : (i : ℕ) → get_or rows i 0 < modulus = λ i. omega (arith, c.type_inv.rows i) in
    let fits : 10 * r + k + 34 ≤ length rows = omega (arith, sized.source_long) in
    let read = c.read_square.ensures in
    let x0 = read.0 ∙ read_row rows k r (r + 1) (10 * r + k) refl refl (omega arith) in
    let x1 = read.1 ∙ read_row rows k (r + 1) (r + 2) (10 * r + k + 10) (omega arith) (omega arith) (omega arith) in
    let x2 = read.2 ∙ read_row rows k (r + 2) (r + 3) (10 * r + k + 2 * 10) (omega arith) (omega arith) (omega arith) in
    let x3 = read.3 ∙ read_row rows k (r + 3) (r + 4) (10 * r + k + 3 * 10) (omega arith) (omega arith) (omega arith) in
    let d0 : c.difference.result ≡ four_of (λ j. changed rows j r) k = rw (c.difference.ensures, x0, c.requires.3) (turned_column rows k r (r + 1) refl small) in
    let d1 : c.difference-2.result ≡ four_of (λ j. changed rows j (r + 1)) k = rw (c.difference-2.ensures, x1, x0) (turned_column rows k (r + 1) (r + 2) (omega arith) small) in
    let d2 : c.difference-3.result ≡ four_of (λ j. changed rows j (r + 2)) k = rw (c.difference-3.ensures, x2, x1) (turned_column rows k (r + 2) (r + 3) (omega arith) small) in
    let d3 : c.difference-4.result ≡ four_of (λ j. changed rows j (r + 3)) k = rw (c.difference-4.ensures, x3, x2) (turned_column rows k (r + 3) (r + 4) (omega arith) small) in
    let t = c.turned.ensures in
    let strip = column_square (changed rows) h k r _ (k * h + r) _ refl c.requires.1 c.requires.2 (omega arith) sized.target_long c.requires.4 in
    (x3, rw (c.write_square.ensures, t.0, t.1, t.2, t.3, d0, d1, d2, d3) strip, rw c.write_square.ensures (length-square (k * h + r) h _ _ _ _ _))
