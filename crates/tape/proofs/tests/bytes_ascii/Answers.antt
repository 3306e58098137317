-- `tape::tests::bytes_ascii` meets its contract: the test is asked at each pair's place. Assumes nothing.
use Prim.Native.Nat.{ℕ, ◌+◌, ◌*◌}
use mathlib.Core.Path.{refl, ◌∙◌}
use native.Mathlib.Omega.{arith}
use native.Mathlib.Nat.{add-zero}
use Rattle.std.proofs.Common.{rules, tests}
use Rattle.std.proofs.lemmas.Iterator.{YieldsList-from_range}
use Rattle.std.proofs.lemmas.Iterator.Search.{all_from_yields_List}
use Rattle.text.specs.Text.{is_text}
use Rattle.xsd_parser.specs.Tape.{pair_text}
use Rattle.tape.specs.Pairs.{pair_at}
use Rattle.tape.proofs.Laws.Tests.{ascii-all}
use Rattle.tape.proofs.tests.bytes_ascii.Goals as goal

pub returns : goal.returns
returns c =
    let v = c.args.v in
    all_from_yields_List (λ (k : ℕ). is_text (pair_text v.text.now (pair_at v.marks.now (c.args.from + 2 * k)))) _ _ c.all.result c.all.ensures.ran
    (YieldsList-from_range 0 c.args.n c.args.n refl (omega arith)) (λ p b q k. search (rules, tests))
    ∙ rw add-zero at (ascii-all v.text.now v.marks.now c.args.from c.args.n 0 (omega arith))
