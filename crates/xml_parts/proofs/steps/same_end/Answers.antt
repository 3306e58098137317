-- `xml_parts::steps::same_end` meets its contract: at the end of the text nothing stands at one of the two places. Assumes nothing.
use native.Mathlib.Omega.{arith}
use Prim.Native.Nat.{ℕ, suc, ◌+◌, ◌<◌}
use mathlib.Core.Path.{◌≡◌, sym, ap, ◌∙◌}
use mathlib.Core.Bool.{true, false≢true}
use lib.ListN.{length, get_or}
use Rattle.text.specs.Text.{Text}
use Rattle.text.proofs.Laws.Texts.{first-drop}
use Rattle.xml.specs.Classes.{is_name, is_byte_of}
use Rattle.xml.proofs.Laws.Names.{first-inside, zero-no-byte}
use Rattle.xml.proofs.Laws.Steps.{many-on}
use Rattle.xml_parts.proofs.Laws.Alike.{same-bytes}
use Rattle.xml_parts.proofs.steps.same_end.Goals as goal

-- a name byte stands inside
name-inside : (s : Text) (i : ℕ) → is_byte_of is_name (get_or s i 0) ≡ true → i < length s
name-inside s i e = first-inside s i (λ z. false≢true (sym zero-no-byte ∙ ap (is_byte_of is_name) (sym z ∙ first-drop s i) ∙ e))

pub loop-k-preserved : goal.loop-k-preserved
loop-k-preserved c =
    let text = c.args.text.now in
    let i = c.args.a + c.loop-k.k in
    let j = c.args.b + c.loop-k.k in
    let e = sym c.is_name.ensures ∙ c.if-not-is_name.false in
    let ei : c.args.a + (c.loop-k.k + 1) ≡ suc i = omega arith in
    let ej : c.args.b + (c.loop-k.k + 1) ≡ suc j = omega arith in
    let q = first-drop text i ∙ c.if-x-y.false ∙ sym (first-drop text j) in
    record {
      alike = rw (ei, ej) (sym (same-bytes text i j (ap (is_byte_of is_name) (first-drop text i) ∙ e) q) ∙ c.loop-k.invariant.alike);
      run = rw ei (sym (many-on (is_byte_of is_name) text i i (name-inside text i e) e) ∙ c.loop-k.invariant.run);
    }

pub returns : goal.returns
returns c =
    let text = c.args.text.now in
    let i = c.args.a + c.saturating_sub-beside.result in
    let j = c.args.b + c.saturating_sub-beside.result in
    let k : c.loop-k.k ≡ c.saturating_sub-beside.result = omega (arith, c.loop-k-test.false, c.loop-k.auto.k-end) in
    record {
      same_names = rw k at c.loop-k.invariant.alike;
      same-run = rw k at c.loop-k.invariant.run;
      differ = λ e q. omega (arith, name-inside text i e, name-inside text j (ap (is_byte_of is_name) (sym q) ∙ e), c.saturating_sub-beside.ensures, c.max.ensures);
    }
