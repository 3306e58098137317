-- `xsd_refused::first_refused` meets its contract: the first place that passes the test is that of the first refused row. Assumes nothing.
use Prim.Native.Nat.{ℕ, ◌+◌, ◌-◌}
use mathlib.Core.Path.{refl, sym, ◌∙◌}
use native.Mathlib.Omega.{arith}
use Rattle.std.proofs.Common.{rules, tests}
use Rattle.std.proofs.lemmas.Iterator.{YieldsList-from_range}
use Rattle.std.proofs.lemmas.Iterator.Adapters.{option_map_id}
use Rattle.std.proofs.lemmas.Iterator.Search.{find_from_yields_List}
use Rattle.xsd_types.specs.Places.{row_at, rows_from}
use Rattle.xsd_types.specs.Refused.{refused_row}
use Rattle.xsd_refused.proofs.Laws.Refused.{found}
use Rattle.xsd_refused.proofs.first_refused.Goals as goal

pub returns : goal.returns
returns c =
    let part = c.args.part.now in
    let refused = λ (p : ℕ). refused_row (row_at part.rows.now part.names.now p) (rows_from part.rows.now part.names.now (p + 1) part.end) in
    let all = YieldsList-from_range 2 part.end (part.end - 2) refl refl in
    let e = sym (option_map_id c.find.result) ∙ find_from_yields_List refused _ _ c.find.result c.find.ensures.ran all (λ p b q k. search (rules, tests)) in
    rw e (found part.rows.now part.names.now part.end (part.end - 2) 2 (omega arith) (omega arith))
