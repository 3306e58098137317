-- `rows::used::rows_are_text` meets its contract: the test is asked at each row's place. Assumes nothing.
use Prim.Native.Nat.{ℕ, ◌*◌, ◌-◌}
use mathlib.Core.Path.{refl, ◌∙◌}
use lib.ListN.{drop}
use Rattle.std.proofs.Common.{rules, tests}
use Rattle.std.proofs.lemmas.Iterator.{YieldsList-from_range}
use Rattle.std.proofs.lemmas.Iterator.Search.{all_from_yields_List}
use Rattle.text.specs.Text.{every}
use Rattle.sheet.specs.Rows.{ten}
use Rattle.rows.specs.Scan.{row_texts}
use Rattle.rows.proofs.Laws.Tens.{tens-all}
use Rattle.rows.proofs.used.rows_are_text.Goals as goal

pub returns : goal.returns
unfolding every
returns g c =
    let part = c.args.part.now in
    let test = row_texts g.R.RowTests.tests part.names.now in
    all_from_yields_List (λ (k : ℕ). test (ten (drop (10 * k) part.rows.now))) _ _ c.all.result c.all.ensures.ran
    (YieldsList-from_range 1 part.end (part.end - 1) refl refl) (λ p b q k. search (rules, tests))
    ∙ tens-all test part.rows.now (part.end - 1) 1
