-- `xsd_good::scan::open_head` meets its contract. The loop's invariant: the rows before those that are passed answer for those before row n.
-- Assumes nothing.
use Prim.Native.Nat.{ℕ, ◌+◌, ◌-◌, ◌*◌, ◌<◌, ◌≤◌}
use mathlib.Core.Bool.{true, false}
use mathlib.Core.List.{List}
use lib.ListN.{get_or}
use Rattle.xsd_good.specs.Heads.{head_row}
use mathlib.Core.Path.{◌≡◌, sym, ap, ◌∙◌}
use native.Mathlib.Omega.{arith}
use Rattle.xsd_types.specs.Good.{is_head}
use Rattle.xsd_good.proofs.Laws.Heads.{head-none, head-hit, head-on}
use Rattle.xsd_good.proofs.scan.open_head.Goals as goal

-- the row that is looked at when so many are passed
looked : (n passed : ℕ) → passed < n → n - 1 - passed ≡ n - passed - 1
looked n passed h = omega arith

at-head : (rows : List ℕ) (n passed : ℕ) → passed < n → is_head (get_or rows (10 * (n - 1 - passed)) 0) ≡ true → n - 1 - passed ≡ head_row rows (n - passed)
at-head rows n passed h e = let le : 0 < n - passed = omega arith in rw (looked n passed h) (head-hit rows (n - passed) le (rw (looked n passed h) at e))

past : (rows : List ℕ) (n passed : ℕ) → passed < n → is_head (get_or rows (10 * (n - 1 - passed)) 0) ≡ false → head_row rows (n - (passed + 1)) ≡ head_row rows (n - passed)
past rows n passed h e =
    let le : 0 < n - passed = omega arith in
    let less : n - (passed + 1) ≡ n - passed - 1 = omega arith in
    rw less (head-on rows (n - passed) le (rw (looked n passed h) at e))

pub returns-then-is_head : goal.returns-then-is_head
returns-then-is_head c =
    at-head c.args.rows.now c.args.n c.loop-passed.passed c.loop-passed-test.true (sym (c.is_head.ensures ∙ ap is_head c.row_tag.ensures) ∙ c.if-is_head.true)
    ∙ c.loop-passed.invariant

pub loop-passed-preserved : goal.loop-passed-preserved
loop-passed-preserved c =
    past c.args.rows.now c.args.n c.loop-passed.passed c.loop-passed-test.true (sym (c.is_head.ensures ∙ ap is_head c.row_tag.ensures) ∙ c.if-is_head.false)
    ∙ c.loop-passed.invariant

pub returns : goal.returns
returns c =
    let none : c.args.n - c.loop-passed.passed ≤ 0 = omega arith in
    head-none c.args.rows.now _ none ∙ c.loop-passed.invariant
