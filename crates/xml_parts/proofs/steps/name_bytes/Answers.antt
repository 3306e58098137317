-- `xml_parts::steps::name_bytes` meets its contract: of eight bytes those before the first that is in no name are passed over, and all where there is none. The measure is
-- how much is left. Assumes nothing.
use Rattle.std.proofs.Common.{rules}
use native.Mathlib.Omega.{arith}
use Prim.Native.Nat.{ℕ, ◌+◌, ◌-◌, ◌<◌}
use mathlib.Core.Path.{◌≡◌, sym, ap, ◌∙◌}
use mathlib.Core.Bool.{true, false}
use lib.ListN.{length, get_or, take, drop, length-take, length-drop}
use Rattle.std.proofs.lemmas.List.{get_or-take, get_or-drop}
use Rattle.xml.specs.Classes.{is_name, is_byte_of}
use Rattle.xml.proofs.Laws.Steps.{many-stop}
use Rattle.xml_parts.proofs.Laws.Skips.{many-over, part-skips}
use Rattle.xml_parts.proofs.steps.name_bytes.Goals as goal

pub returns-in-Some : goal.returns-in-Some
returns-in-Some c =
    let s = c.args.text.now in
    let i = c.loop-i.i in
    let n = i + 8 - i in
    let k = c.in-Some.k in
    let inside : k < length (take n (drop i s)) = search rules in
    let names : (j : ℕ) → j < k → is_byte_of is_name (get_or (take n (drop i s)) j 0) ≡ true = search rules in
    let other : is_byte_of is_name (get_or (take n (drop i s)) k 0) ≡ false = search rules in
    let below : k < 8 = omega (arith, inside, length-take n (drop i s)) in
    let here = get_or-take n (drop i s) k 0 (omega arith) ∙ get_or-drop i s k 0 in
    sym (many-stop (is_byte_of is_name) s (i + k) (i + k) (omega arith) (ap (is_byte_of is_name) (sym here) ∙ other))
    ∙ many-over (part-skips (is_byte_of is_name) s i n k (omega arith) (omega arith) names) (is_byte_of is_name) (λ b e. e) ∙ c.loop-i.invariant.1

pub loop-i-preserved : goal.loop-i-preserved
loop-i-preserved c =
    let s = c.args.text.now in
    let i = c.loop-i.i in
    let n = i + 8 - i in
    let names : (j : ℕ) → j < length (take n (drop i s)) → is_byte_of is_name (get_or (take n (drop i s)) j 0) ≡ true = search rules in
    let all = (λ (j : ℕ) (l : j < 8). names j (omega (arith, length-take n (drop i s), length-drop i s))) in
    (omega arith, many-over (part-skips (is_byte_of is_name) s i n 8 (omega arith) (omega arith) all) (is_byte_of is_name) (λ b e. e) ∙ c.loop-i.invariant.1)
