-- What the forms of both sheets say alike, part by part: row 1 and the rows behind it, the used parts, the used pairs, and that each row uses at most three.
-- Assumes nothing.
use mathlib.Core.Path.{◌≡◌, refl}
use mathlib.Core.Bool.{Bool, true, ◌&&◌}
use mathlib.Core.List.{List, ◌∷◌}
use Prim.Native.Nat.{ℕ, ◌*◌, ◌≤◌}
use lib.Dec.{eqb, leb}
use lib.ListN.{length}
use borrow.Author.Tests.{eqb-true, leb-true}
use Rattle.text.specs.Text.{every}
use Rattle.text.proofs.Laws.Tests.{six, and-true, and-true-left, and-true-right}
use Rattle.text.proofs.Laws.Every.{every-weaken}
use Rattle.sheet.specs.Rows.{Ten, Sheet}
use Rattle.sheet.specs.Form.{covers, covered, rows_used_of, names_used_of, used_parts}
use Rattle.sheet.specs.Lengths.{fits}
use Rattle.sheet.proofs.Laws.Unpacks.{few}

-- row 1 and the rows behind it, which pass one test each and another together
pub record Headed (form : Ten → Bool) (order : List Ten → Bool) (ts : List Ten) : Type 0 where
  pub first : Ten
  pub body : List Ten
  pub same : ts ≡ first ∷ body
  pub tag_is : first.tag ≡ 1
  pub a_is : first.a ≡ 0
  pub b_is : first.b ≡ 0
  pub c_is : first.c ≡ 0
  pub formed : every form body ≡ true
  pub ordered : order body ≡ true

module _ (form : Ten → Bool) (order : List Ten → Bool) where
  pub headed : (n : Ten) (ts : List Ten) → eqb n.tag 1 && eqb n.a 0 && eqb n.b 0 && eqb n.c 0 && every form ts && order ts ≡ true → Headed form order (n ∷ ts)
  headed n ts e =
      let w = six (eqb n.tag 1) (eqb n.a 0) (eqb n.b 0) (eqb n.c 0) (every form ts) (order ts) e in
      record {
        first = n;
        body = ts;
        same = refl;
        tag_is = eqb-true n.tag 1 w.0;
        a_is = eqb-true n.a 0 w.1;
        b_is = eqb-true n.b 0 w.2;
        c_is = eqb-true n.c 0 w.3;
        formed = w.4;
        ordered = w.5;
      }

  pub few-headed : (used : ℕ → ℕ → ℕ) → leb (used 1 0) 3 ≡ true → ((t : Ten) → form t ≡ true → few used t ≡ true) → (ts : List Ten) → Headed form order ts
      → every (few used) ts ≡ true
  unfolding every few
  few-headed used f each ts b = rw (b.same, b.tag_is, b.a_is) (and-true f (every-weaken form (few used) each b.body b.formed))

module _ (x : Sheet) (p : used_parts x ≡ true) where
  pub used-two : 2 ≤ rows_used_of x
  unfolding used_parts
  used-two = leb-true 2 (rows_used_of x) (and-true-left _ _ p)

  pub used-fits : fits (rows_used_of x) (names_used_of x) (length x.rows) (length x.names) ≡ true
  unfolding used_parts
  used-fits = and-true-right (leb 2 (rows_used_of x)) _ p

  pub used-rows : 10 * rows_used_of x ≤ length x.rows
  unfolding fits
  used-rows = leb-true (10 * rows_used_of x) (length x.rows) (and-true-left _ _ used-fits)

  pub used-names : names_used_of x ≤ length x.names
  unfolding fits
  used-names = leb-true (names_used_of x) (length x.names) (and-true-right (leb (10 * rows_used_of x) (length x.rows)) _ used-fits)

module _ (used : ℕ → ℕ → ℕ) (ts : List Ten) (n : ℕ) (p : covers used 0 ts && eqb (covered 0 ts) n ≡ true) where
  pub covers-true : covers used 0 ts ≡ true
  covers-true = and-true-left _ _ p

  pub covered-is : covered 0 ts ≡ n
  covered-is = eqb-true (covered 0 ts) n (and-true-right (covers used 0 ts) _ p)
