-- `number::is_minus_zeros` meets its contract: behind a minus and a zero all bytes are zeros. Assumes nothing.
use Rattle.std.proofs.Common.{rules, tests}
use Rattle.std.proofs.lemmas.Iterator.{YieldsList-from_slice}
use Rattle.std.proofs.lemmas.Iterator.Search.{all_from_yields_List}
use mathlib.Core.Path.{sym, ◌∙◌}
use native.Mathlib.Omega.{arith}
use native.Mathlib.Nat.{le_of_eq}
use lib.ListN.{drop, length-drop}
use lib.Seq.{take_all}
use Rattle.number.specs.Number.{is_zero}
use Rattle.number.proofs.Laws.Spellings.{minus-short, minus-other, minus-second, minus-all}
use Rattle.number.proofs.is_minus_zeros.Goals as goal

pub returns-in-45 : goal.returns-in-45
returns-in-45 c =
    let s = c.args.s.now in
    let rest = c.iter.ensures.rest ∙ take_all _ (drop 2 s) (le_of_eq (length-drop 2 s)) in
    all_from_yields_List is_zero _ _ c.all.result c.all.ensures.ran (YieldsList-from_slice (drop 2 s) rest) (λ x b q k. search (rules, tests))
    ∙ minus-all s (omega arith) (omega arith) (omega arith)

pub returns-in_default : goal.returns-in_default
returns-in_default c = sym (minus-short c.args.s.now (omega arith))

pub returns-in_default-2 : goal.returns-in_default-2
returns-in_default-2 c = sym (minus-second c.args.s.now (λ h. omega arith))

pub returns-in_default-3 : goal.returns-in_default-3
returns-in_default-3 c = sym (minus-other c.args.s.now (λ h. omega arith))
