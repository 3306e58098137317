-- `xsd_write::held::unheld_from` meets its contract: the first place whose row fails the test is that of the definition. Assumes nothing.
use Prim.Native.Nat.{ℕ, ◌-◌}
use mathlib.Core.Bool.{not}
use mathlib.Core.Path.{refl, sym, ap, ◌∙◌}
use native.Mathlib.Omega.{arith}
use lib.ListN.{drop}
use Rattle.std.proofs.Common.{rules, tests}
use Rattle.std.proofs.lemmas.Iterator.{YieldsList-from_range, serves_from_Range}
use Rattle.std.proofs.lemmas.Iterator.Adapters.{option_map_id}
use Rattle.std.proofs.lemmas.Iterator.Search.{find_from_yields_List}
use Rattle.text.specs.Text.{every}
use Rattle.xml.specs.Values.{is_in_value}
use Rattle.xml_parts.proofs.Laws.Held.{many-every}
use Rattle.xsd_types.specs.Places.{row_at}
use Rattle.xsd_written.specs.Call.{holds}
use Rattle.xsd_write.specs.Steps.{unheld_of}
use Rattle.xsd_write.proofs.Laws.Held.{unheld-found}
use Rattle.xsd_write.proofs.held.unheld_from.Goals as goal

pub find-requires-clause-callable : goal.find-requires-clause-callable
find-requires-clause-callable c =
    let clear = c.value_run-clear.result in
    let names = c.args.part.now.names.now in
    let held = many-every is_in_value 0 names clear (drop clear names) clear c.value_run-clear.ensures (omega arith) in
    serves_from_Range (λ x q k. search rules) (λ x l h. search rules)

pub returns : goal.returns
returns c =
    let part = c.args.part.now in
    let unheld = λ (p : ℕ). not (every holds (row_at part.rows.now part.names.now p).texts) in
    let all = YieldsList-from_range 1 part.end (part.end - 1) refl refl in
    ap unheld_of (sym (option_map_id c.find.result) ∙ find_from_yields_List unheld _ _ c.find.result c.find.ensures.ran all (λ p b q k. search (rules, tests)))
    ∙ unheld-found part.rows.now part.names.now part.end (part.end - 1) 1 refl
