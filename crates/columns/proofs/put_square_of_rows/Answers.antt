-- `columns::put_square_of_rows` meets its contract: four numbers of each of four columns, turned, are added row by row. Assumes nothing.
use Rattle.std.proofs.Common.{◌≡◌, ℕ, ◌+◌, ◌*◌, ◌<◌, ◌≤◌, length, refl, ◌∙◌, get_or, arith}
use Rattle.columns.specs.Columns.{modulus, height, restored}
use Rattle.columns.specs.Filled.{four_of}
use Rattle.columns.proofs.Laws.Places.{column_fits}
use Rattle.columns.proofs.Laws.Squares.{place_more, read_column, turned_row, sums_next, row_square, length-square}
use Rattle.columns.proofs.put_square_of_rows.Goals as goal

pub returns : goal.returns
returns c =
    let columns = c.args.columns.now in
    let h = c.args.height in
    let r = c.args.r in
    let k = c.args.c in
    let sized = c.requires.0 in
    let small : (i : ℕ) → get_or columns i 0 < modulus = λ i. omega (arith, c.type_inv.columns i) in
    let tall : height columns ≡ h = omega (arith, sized.source_long) in
    let p = k * h + r in
    let fits : p + 3 * h + 4 ≤ length columns = omega (arith, sized.source_long, column_fits (k + 3) h (omega arith), place_more k h r 3 p refl) in
    let read = c.read_square.ensures in
    let y0 = read.0 ∙ read_column columns h k r p tall refl (omega arith) in
    let y1 = read.1 ∙ read_column columns h (k + 1) r (p + h) tall (omega (arith, place_more k h r 1 p refl)) (omega arith) in
    let y2 = read.2 ∙ read_column columns h (k + 2) r (p + 2 * h) tall (place_more k h r 2 p refl) (omega arith) in
    let y3 = read.3 ∙ read_column columns h (k + 3) r (p + 3 * h) tall (place_more k h r 3 p refl) (omega arith) in
    let t = rw (y0, y1, y2, y3) at c.turned-changes.ensures in
    let u0 : c.sum-first.result ≡ four_of (λ j. restored columns j r) k = rw (c.sum-first.ensures, c.requires.3, t.0) (turned_row columns k r small) in
    let u1 : c.sum-second.result ≡ four_of (λ j. restored columns j (r + 1)) k = rw (c.sum-second.ensures, u0 ∙ sums_next columns k r (r + 1) refl, t.1) (turned_row columns k (r + 1) small) in
    let u2 : c.sum-third.result ≡ four_of (λ j. restored columns j (r + 2)) k =
    rw (c.sum-third.ensures, u1 ∙ sums_next columns k (r + 1) (r + 2) (omega arith), t.2) (turned_row columns k (r + 2) small) in
    let u3 : c.sum-fourth.result ≡ four_of (λ j. restored columns j (r + 3)) k =
    rw (c.sum-fourth.ensures, u2 ∙ sums_next columns k (r + 2) (r + 3) (omega arith), t.3) (turned_row columns k (r + 3) small) in
    let strip = row_square (restored columns) k r _ (10 * r + k) _ refl c.requires.1 c.requires.2 (omega (arith, sized.target_long)) c.requires.4 in
    (u3 ∙ sums_next columns k (r + 3) (r + 4) (omega arith), rw (c.write_square.ensures, u0, u1, u2, u3) strip, rw c.write_square.ensures (length-square (10 * r + k) 10 _ _ _ _ _))
