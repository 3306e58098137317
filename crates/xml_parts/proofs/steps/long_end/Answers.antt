-- `xml_parts::steps::long_end` meets its contract. The loop's invariant: the name goes on from the end so far, where no name byte below 128 stands. The measure is
-- how much is left. Assumes nothing.
use native.Mathlib.Omega.{arith}
use Prim.Native.Nat.{suc, ◌+◌}
use mathlib.Core.Path.{◌≡◌, sym, ap, ◌∙◌}
use borrow.Author.Rules.{rules}
use lib.ListN.{length}
use Rattle.xml.specs.Classes.{is_name, is_byte_of}
use Rattle.xml.proofs.Laws.Names.{many-name, many-stops, pair-two-inside, zero-no-byte}
use Rattle.xml_parts.proofs.Laws.Alike.{name-pair, name-stops}
use Rattle.xml_parts.proofs.steps.long_end.Goals as goal

pub loop-end-init : goal.loop-end-init
loop-end-init c =
    let m = sym c.many-end.ensures in
    ((many-name _ _ _ _ m).1, many-stops (is_byte_of is_name) _ _ _ _ zero-no-byte m)

pub overflow_add-end : goal.overflow_add-end
overflow_add-end c =
    let h = pair-two-inside is_name c.args.text.now c.loop-end.end (sym c.is_name_at.ensures ∙ c.loop-end-test.true) in
    search rules

pub loop-end-smaller : goal.loop-end-smaller
loop-end-smaller c =
    let h = pair-two-inside is_name c.args.text.now c.loop-end.end (sym c.is_name_at.ensures ∙ c.loop-end-test.true) in
    omega (arith, h, (many-name _ _ _ _ (sym c.many-end-in-loop-end.ensures)).0)

pub loop-end-preserved : goal.loop-end-preserved
loop-end-preserved c =
    let m = sym c.many-end-in-loop-end.ensures in
    let p = name-pair c.args.text.now c.loop-end.end (sym c.is_name_at.ensures ∙ c.loop-end-test.true) in
    let n = many-name _ _ _ _ m in
    let two : c.loop-end.end + 2 ≡ suc (suc c.loop-end.end) = omega arith in
    (omega (arith, n.1, rw (sym two) at p, c.loop-end.invariant.0), many-stops (is_byte_of is_name) _ _ _ _ zero-no-byte m)

pub returns : goal.returns
returns c =
    let stop = ap length (name-stops c.args.text.now c.loop-end.end c.loop-end.invariant.1 (sym c.is_name_at.ensures ∙ c.loop-end-test.false)) in
    omega (arith, stop, c.loop-end.invariant.0)
