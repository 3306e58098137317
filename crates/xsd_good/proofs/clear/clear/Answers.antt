-- `xsd_good::clear::clear` meets its contract: with lengths as the paper has them and a choice up to 1, row 0 and row 1's tag stored among
-- zeros are the cleared sheet; else nothing is stored. Assumes nothing.
use Prim.Native.Nat.{ℕ, ◌≤◌}
use mathlib.Core.Bool.{Bool, true, ◌&&◌}
use mathlib.Core.Path.{◌≡◌, sym, ap, ap₂, ◌∙◌}
use mathlib.Core.List.{List, [], ◌∷◌}
use native.Mathlib.Omega.{arith}
use lib.Dec.{leb}
use lib.ListN.{length, length-set}
use lib.Seq.{paste}
use borrow.Author.Tests.{leb-true}
use Rattle.text.proofs.Laws.Tests.{and-true-left, and-true-right}
use Rattle.sheet.specs.Rows.{numbers}
use Rattle.sheet.specs.Lengths.{sheet_lengths}
use Rattle.xsd_types.specs.Row0.{Row0, row0_ten}
use Rattle.xsd_good.proofs.Laws.Clear.{lengths-rows, clear-refused, clear-done}
use Rattle.xsd_good.proofs.clear.clear.Goals as goal

-- behind the test the lengths are as the paper has them, and the choice is 0 or 1
passes : (rows names choice : ℕ) {s : Bool} → s ≡ sheet_lengths rows names → s && leb choice 1 ≡ true → sheet_lengths rows names && leb choice 1 ≡ true
passes rows names choice e h = sym (ap (λ (b : Bool). b && leb choice 1) e) ∙ h

long-enough : (rows names choice : ℕ) {s : Bool} → s ≡ sheet_lengths rows names → s && leb choice 1 ≡ true → 20 ≤ rows
long-enough rows names choice e h = lengths-rows rows names (and-true-left _ _ (passes rows names choice e h))

pub returns-then-not-sheet_lengths-choice : goal.returns-then-not-sheet_lengths-choice
returns-then-not-sheet_lengths-choice c =
    let a = c.args in
    rw c.into.ensures (clear-refused a.choice a.rows.now a.names.now (sym (ap (λ (b : Bool). b && leb a.choice 1) c.sheet_lengths.ensures) ∙ c.if-not-sheet_lengths-choice.true))

pub cleared_row0-requires : goal.cleared_row0-requires
cleared_row0-requires c =
    let a = c.args in
    let ok = passes (length a.rows.now) (length a.names.now) a.choice c.sheet_lengths.ensures c.if-not-sheet_lengths-choice.false in
    leb-true a.choice 1 (and-true-right (sheet_lengths (length a.rows.now) (length a.names.now)) _ ok)

pub put_row-requires : goal.put_row-requires
put_row-requires c =
    let a = c.args in
    let enough = long-enough (length a.rows.now) (length a.names.now) a.choice c.sheet_lengths.ensures c.if-not-sheet_lengths-choice.false in
    omega arith

pub bounds-rows-10 : goal.bounds-rows-10
bounds-rows-10 c =
    let a = c.args in
    let enough = long-enough (length a.rows.now) (length a.names.now) a.choice c.sheet_lengths.ensures c.if-not-sheet_lengths-choice.false in
    omega (arith, c.put_row.auto.rows)

pub shape_of-rows : goal.shape_of-rows
shape_of-rows c = simp length-set (c.put_row.auto.rows ∙ c.fill.auto.self)

pub returns : goal.returns
returns c =
    let a = c.args in
    let row = c.row0_numbers.ensures ∙ ap (λ (z : Row0). numbers (row0_ten z ∷ [])) c.cleared_row0.ensures in
    let rows = c.put_row.ensures ∙ ap₂ (λ (d s : List ℕ). paste d 0 s 10) (c.fill.ensures.after (λ y h. h)) row in
    let ok = passes (length a.rows.now) (length a.names.now) a.choice c.sheet_lengths.ensures c.if-not-sheet_lengths-choice.false in
    rw (rows, c.fill-2.ensures.after (λ y h. h)) (clear-done a.choice a.rows.now a.names.now ok)
