-- `xsd_good::convert::convert` meets its contract: the lengths, the other sentences and the count are judged before the one number is stored. Assumes nothing.
use Prim.Native.Nat.{ℕ, ◌<◌, ◌≤◌, ◌%◌}
use mathlib.Core.Path.{◌≡◌, sym, ◌∙◌}
use mathlib.Core.Bool.{Bool, true}
use mathlib.Core.List.{List}
use native.Mathlib.Omega.{arith}
use lib.Dec.{eqb, leb}
use lib.ListN.{length}
use borrow.Author.Tests.{leb-true}
use Rattle.text.proofs.Laws.Tests.{four}
use Rattle.sheet.specs.Lengths.{sheet_lengths}
use Rattle.sheet.specs.Calls.{sheet}
use Rattle.xsd_types.specs.Good.{bare_good}
use Rattle.xsd_types.specs.Count.{bare}
use Rattle.xsd_good.proofs.Laws.Bare.{bare-used}
use Rattle.xsd_good.proofs.Laws.Convert.{convert-one, convert-bad, convert-wrong, convert-fills}
use Rattle.xsd_good.proofs.convert.convert.Goals as goal

-- behind the first test the rows are few, behind the second there is room for the count
few-rows : (rows names : ℕ) {s : Bool} → s ≡ sheet_lengths rows names → s ≡ true → rows ≤ 40960
unfolding sheet_lengths
few-rows rows names e h =
    leb-true rows 40960 (four (eqb (rows % 10) 0) (leb 20 rows) (leb rows 40960) (leb names 65536) (sym e ∙ h)).2

long : (rows names : List ℕ) {b : Bool} → b ≡ bare_good (bare (sheet rows names)) → b ≡ true → 17 < length rows
long rows names e h = omega (arith, (bare-used rows names (sym e ∙ h)).0)

pub returns-then-not-sheet_lengths : goal.returns-then-not-sheet_lengths
returns-then-not-sheet_lengths c =
    let a = c.args in
    rw c.into.ensures (convert-one a.rows.now a.names.now (sym c.sheet_lengths.ensures ∙ c.if-not-sheet_lengths.true))

pub returns-then-not-is_bare_good : goal.returns-then-not-is_bare_good
returns-then-not-is_bare_good c =
    let a = c.args in
    rw c.into-then-not-is_bare_good.ensures
    (convert-bad a.rows.now a.names.now (sym c.sheet_lengths.ensures ∙ c.if-not-sheet_lengths.false) (sym c.is_bare_good.ensures ∙ c.if-not-is_bare_good.true))

pub count_of-count-requires : goal.count_of-count-requires
count_of-count-requires c = sym c.is_bare_good.ensures ∙ c.if-not-is_bare_good.false

pub count_in-stored-requires : goal.count_in-stored-requires
count_in-stored-requires c = long c.args.rows.now c.args.names.now c.is_bare_good.ensures c.if-not-is_bare_good.false

pub returns-then-not-stored-count : goal.returns-then-not-stored-count
returns-then-not-stored-count c =
    let a = c.args in
    rw c.into-then-not-stored-count.ensures
    (convert-wrong a.rows.now a.names.now (sym c.sheet_lengths.ensures ∙ c.if-not-sheet_lengths.false) (sym c.is_bare_good.ensures ∙ c.if-not-is_bare_good.false)
    c.count_in-stored.ensures c.count_of-count.ensures.count c.if-not-stored-count.true)

pub overflow_cast-rows : goal.overflow_cast-rows
overflow_cast-rows c = omega (arith, few-rows (length c.args.rows.now) (length c.args.names.now) c.sheet_lengths.ensures c.if-not-sheet_lengths.false, c.count_of-count.ensures.few)

pub bounds-rows-17 : goal.bounds-rows-17
bounds-rows-17 c = long c.args.rows.now c.args.names.now c.is_bare_good.ensures c.if-not-is_bare_good.false

pub returns : goal.returns
returns c =
    let a = c.args in
    convert-fills a.rows.now a.names.now (sym c.sheet_lengths.ensures ∙ c.if-not-sheet_lengths.false) (sym c.is_bare_good.ensures ∙ c.if-not-is_bare_good.false) c.count_in-stored.ensures
    c.count_of-count.ensures.count c.if-not-stored-count.false
