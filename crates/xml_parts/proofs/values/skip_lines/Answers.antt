-- `xml_parts::values::skip_lines` meets its contract: what is passed over is of the class. The loop's invariant: the run from i on ends where the run from the
-- start on ends. The measure is how much is left. Assumes nothing.
use native.Mathlib.Omega.{arith}
use Prim.Native.Nat.{◌<◌}
use mathlib.Core.Path.{◌≡◌, sym, ap, ◌∙◌}
use mathlib.Core.Bool.{true}
use mathlib.Core.Logic.{⊎_elim}
use native.Mathlib.Numerals.{add-one}
use lib.ListN.{length, get_or}
use Rattle.text.proofs.Laws.Texts.{first-drop}
use Rattle.xml.specs.Values.{is_in_text}
use Rattle.xml_parts.proofs.Laws.Classes.{text-run, return-in-text}
use Rattle.xml.proofs.Laws.Steps.{inside-some, many-on}
use Rattle.xml_parts.proofs.Laws.Skips.{many-over}
use Rattle.xml_parts.proofs.values.skip_lines.Tie as tie
use Rattle.xml_parts.proofs.values.skip_lines.Lts as lts
use Rattle.xml_parts.proofs.values.skip_lines.Reads as reads
use Rattle.xml_parts.proofs.values.skip_lines.Goals as goal

-- at a carriage return
is-return : (c : lts.Then2 tie.the-claims reads.Pre reads.Post goal.the-invariant-loop-i goal.the-decreases-loop-i) → get_or c.args.text.now c.loop-i.i 0 ≡ 13
is-return c = sym (c.byte_at-in-loop-i.ensures ∙ first-drop c.args.text.now c.loop-i.i) ∙ c.loop-i-test.true

is-inside : (c : lts.Then2 tie.the-claims reads.Pre reads.Post goal.the-invariant-loop-i goal.the-decreases-loop-i) → c.loop-i.i < length c.args.text.now
is-inside c = inside-some c.args.text.now c.loop-i.i 12 (is-return c)

pub loop-i-init : goal.loop-i-init
loop-i-init c = ⊎_elim (λ v. rw v.i-is (many-over v.skip-i.ensures is_in_text text-run)) (λ v. rw v.i-is) c.if-byte_at-ne13.branch-raw

pub overflow_add-i : goal.overflow_add-i
overflow_add-i c = omega (arith, is-inside c.before.before)

pub loop-i-smaller : goal.loop-i-smaller
loop-i-smaller c = omega (arith, c.skip-i-in-loop-i.ensures.from, is-inside c.before.before.before)

pub loop-i-preserved : goal.loop-i-preserved
loop-i-preserved c =
    let text = c.args.text.now in
    let i = c.loop-i.i in
    let e : is_in_text (get_or text i 0) ≡ true = ap is_in_text (is-return c.before.before.before) ∙ return-in-text in
    many-over c.skip-i-in-loop-i.ensures is_in_text text-run ∙ rw (add-one i) (sym (many-on is_in_text text i i (is-inside c.before.before.before) e)) ∙ c.loop-i.invariant

pub returns : goal.returns
returns c = c.loop-i.invariant
