-- `pattern::expression::plain_end` meets its contract: the scan goes on at the first byte that is no character, or at the end. Assumes nothing.
use Prim.Native.Nat.{ℕ, ◌-◌}
use mathlib.Core.Bool.{not}
use mathlib.Core.Path.{refl, sym, ◌∙◌}
use native.Mathlib.Omega.{arith}
use lib.ListN.{length, get_or}
use Rattle.std.proofs.Common.{rules, tests}
use Rattle.std.proofs.lemmas.Iterator.{YieldsList-from_range}
use Rattle.std.proofs.lemmas.Iterator.Adapters.{option_map_id}
use Rattle.std.proofs.lemmas.Iterator.Search.{find_from_yields_List}
use Rattle.pattern.specs.Scan.{atom, is_single_char}
use Rattle.pattern.proofs.Laws.Places.{plain_at, run-found, any-stop}
use Rattle.pattern.proofs.expression.plain_end.Goals as goal

pub returns : goal.returns
returns c =
    let s = c.args.s.now in
    let n = length s - c.args.at in
    let all = YieldsList-from_range c.args.at (length s) n refl refl in
    let e = sym (option_map_id c.find.result) ∙ find_from_yields_List (λ (i : ℕ). not (is_single_char (get_or s i 0))) _ _ c.find.result c.find.ensures.ran all (λ p b q k. search (rules, tests)) in
    rw (c.unwrap_or.ensures, e) (any-stop (run-found is_single_char atom s (λ d i. plain_at d s i) n c.args.at (omega arith)))
