-- `xml_parts::steps::same_run` meets its contract. The loop's invariant: as many name bytes below 128 stood alike at the two places. Assumes nothing.
use native.Mathlib.Omega.{arith}
use Prim.Native.Nat.{ℕ, suc, ◌+◌}
use mathlib.Core.Path.{◌≡◌, refl, sym, ap, ◌∙◌}
use mathlib.Core.Bool.{Bool, true, false}
use lib.ListN.{length, get_or, drop}
use Rattle.std.specs.Prelude.{is_some, IfSome}
use Rattle.std.specs.Bool.{then_some}
use Rattle.text.proofs.Laws.Texts.{first-drop}
use Rattle.text.specs.Text.{Text}
use Rattle.xml.specs.Classes.{is_name, is_byte_of}
use Rattle.xml.specs.Steps.{leading_name}
use Rattle.xml.proofs.Laws.Names.{low-no-pair}
use Rattle.xml_parts.proofs.Laws.Alike.{byte-at, name-byte, name-stops, same-bytes, differ-there, ended-there}
use Rattle.xml_parts.proofs.steps.same_run.Goals as goal

-- the answer under a test
if-found : (r : Bool) (i : ℕ) → is_some (then_some r i) ≡ r
if-found true i = refl
if-found false i = refl

ends : (P : ℕ → Type 0) (r : Bool) (i : ℕ) → P i → IfSome (then_some r i) P
ends P true i h = h
ends P false i h = tt

-- a test of the byte at a place, by the name that begins there
tested : (text : Text) (i : ℕ) {r answer : Bool} → r ≡ is_byte_of is_name (get_or text i 0) → r ≡ answer → is_byte_of is_name (byte-at text i) ≡ answer
tested text i e h = ap (is_byte_of is_name) (first-drop text i) ∙ sym e ∙ h

pub returns-then-y-lt128-clause-alike : goal.returns-then-y-lt128-clause-alike
returns-then-y-lt128-clause-alike c =
    let text = c.args.text.now in
    let i = c.args.a + c.loop-k.k in
    let j = c.args.b + c.loop-k.k in
    let e = tested text i c.is_name.ensures c.if-not-is_name.true in
    let there = ended-there text i j e (omega (arith, first-drop text i, c.if-x-lt128.true)) (omega (arith, first-drop text j, c.if-y-lt128.true)) in
    rw (c.then_some.ensures, c.is_name-then-y-lt128.ensures, sym (first-drop text j)) (if-found _ _ ∙ there ∙ c.loop-k.invariant.alike)

pub returns-then-y-lt128-clause-ends : goal.returns-then-y-lt128-clause-ends
returns-then-y-lt128-clause-ends c =
    let text = c.args.text.now in
    let i = c.args.a + c.loop-k.k in
    let e = tested text i c.is_name.ensures c.if-not-is_name.true in
    let stop = ap length (name-stops text i e (low-no-pair is_name _ _ (omega (arith, first-drop text i, c.if-x-lt128.true)))) in
    rw c.then_some.ensures (ends (λ (e : ℕ). e ≡ c.args.a + length (leading_name (drop c.args.a text))) _ _ (omega (arith, stop, c.loop-k.invariant.ends)))

pub returns-then-x-y-clause-alike : goal.returns-then-x-y-clause-alike
returns-then-x-y-clause-alike c =
    let text = c.args.text.now in
    let i = c.args.a + c.loop-k.k in
    let j = c.args.b + c.loop-k.k in
    let e = tested text i c.is_name.ensures c.if-not-is_name.false in
    sym (differ-there text i j e (λ q. c.if-x-y.true (sym (first-drop text i) ∙ q ∙ first-drop text j))) ∙ c.loop-k.invariant.alike

pub loop-k-preserved : goal.loop-k-preserved
loop-k-preserved c =
    let text = c.args.text.now in
    let i = c.args.a + c.loop-k.k in
    let j = c.args.b + c.loop-k.k in
    let e = tested text i c.is_name.ensures c.if-not-is_name.false in
    let q = first-drop text i ∙ c.if-x-y.false ∙ sym (first-drop text j) in
    let ei : c.args.a + (c.loop-k.k + 1) ≡ suc i = omega arith in
    let ej : c.args.b + (c.loop-k.k + 1) ≡ suc j = omega arith in
    record {
      alike = rw (ei, ej) (sym (same-bytes text i j e q) ∙ c.loop-k.invariant.alike);
      ends = rw ei (omega (arith, name-byte text i e, c.loop-k.invariant.ends));
    }
