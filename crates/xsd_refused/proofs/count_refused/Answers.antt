-- `xsd_refused::count_refused` meets its contract: as many places pass the test as rows are refused. Assumes nothing.
use Prim.Native.Nat.{ℕ, ◌+◌, ◌-◌}
use mathlib.Core.Path.{refl, ◌∙◌}
use native.Mathlib.Omega.{arith}
use Rattle.std.proofs.Common.{rules, tests}
use Rattle.std.proofs.lemmas.Iterator.{YieldsList-from_range}
use Rattle.std.proofs.lemmas.Iterator.Consumers.{YieldsList-from_filter, count_from_yields_List}
use Rattle.xsd_types.specs.Places.{row_at, rows_from}
use Rattle.xsd_types.specs.Refused.{refused_row}
use Rattle.xsd_refused.proofs.Laws.Count.{counted}
use Rattle.xsd_refused.proofs.count_refused.Goals as goal

pub returns : goal.returns
returns c =
    let a = c.args in
    let refused = λ (p : ℕ). refused_row (row_at a.part.now.rows.now a.part.now.names.now p) (rows_from a.part.now.rows.now a.part.now.names.now (p + 1) a.part.now.end) in
    count_from_yields_List _ c.count.result c.count.ensures.ran
    (YieldsList-from_filter _ refused (YieldsList-from_range a.from a.part.now.end (a.part.now.end - a.from) c.filter.ensures.source refl) c.filter.ensures.closure (λ p b q k. search (rules, tests)))
    ∙ counted a.part.now.rows.now a.part.now.names.now a.part.now.end (a.part.now.end - a.from) a.from (omega arith)
