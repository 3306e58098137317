-- `xml_parts::values::char_data` meets its contract: a run up to a `<`, or a run of bytes that need no look, then the byte that does. The loop's invariant: the character data from i on ends
-- where that from the start on ends. The measure is how much is left. Assumes nothing.
use native.Mathlib.Omega.{arith}
use Prim.Native.Nat.{ℕ, ◌+◌}
use mathlib.Core.Path.{◌≡◌, sym, ap, ◌∙◌}
use native.Mathlib.Numerals.{add-one}
use lib.ListN.{drop, get_or}
use Rattle.text.specs.Text.{Text, bytes}
use Rattle.text.proofs.Laws.Texts.{first-drop}
use Rattle.xml.specs.Steps.{Step, behind, ◌and_then◌, many}
use Rattle.xml.specs.Values.{char_data, is_in_text}
use Rattle.xml.proofs.Laws.Moves.{many-moves}
use Rattle.xml.proofs.Laws.Steps.{inside-some}
use Rattle.xml.proofs.Laws.Values.{data-less, data-section, data-wrong, data-on, data-end, data-run}
use Rattle.xml_parts.proofs.values.char_data.Goals as goal

-- the character data goes on where the run does
on : (text : Text) (i at : ℕ) → many is_in_text i (drop i text) ≡ many is_in_text at (drop at text) → char_data i (drop i text) ≡ char_data at (drop at text)
on text i at e = data-run i (drop i text) ∙ ap (λ (d : Step). d and_then char_data) e ∙ sym (data-run at (drop at text))

less : (text : Text) (i : ℕ) → get_or text i 0 ≡ 60 → behind i (drop i text) ≡ char_data i (drop i text)
less text i here = sym (data-less text i i (inside-some text i 59 here) here)

pub returns-then-byte_at-eq60 : goal.returns-then-byte_at-eq60
returns-then-byte_at-eq60 c =
    let text = c.args.text.now in
    let i = c.indent-inside.result in
    let here = sym (first-drop text i) ∙ sym c.byte_at.ensures ∙ c.if-byte_at-eq60.true in
    less text i here ∙ on text i c.args.at c.indent-inside.ensures

pub returns-then-byte_at-eq60-2 : goal.returns-then-byte_at-eq60-2
returns-then-byte_at-eq60-2 c =
    let text = c.args.text.now in
    let i = c.skip_lines-first.result in
    let here = sym (first-drop text i) ∙ sym c.byte_at-2.ensures ∙ c.if-byte_at-eq60-2.true in
    less text i here ∙ on text i c.args.at (c.skip_lines-first.ensures ∙ c.indent-inside.ensures)

pub loop-i-init : goal.loop-i-init
loop-i-init c =
    let a = c.args in
    ap (λ (d : Step). d and_then char_data) c.many-i.ensures ∙ sym (data-run c.skip_lines-first.result (drop c.skip_lines-first.result a.text.now))
    ∙ on a.text.now c.skip_lines-first.result a.at (c.skip_lines-first.ensures ∙ c.indent-inside.ensures)

pub returns-then-text-i-eq60 : goal.returns-then-text-i-eq60
returns-then-text-i-eq60 c =
    let a = c.args in
    sym (data-less a.text.now c.loop-i.i c.loop-i.i (omega arith) c.if-text-i-eq60.true) ∙ c.loop-i.invariant

pub returns-then-starts : goal.returns-then-starts
unfolding bytes
returns-then-starts c =
    let a = c.args in
    sym (data-section a.text.now c.loop-i.i c.loop-i.i (omega arith) c.if-text-i-eq60.false (sym c.starts.ensures ∙ c.if-starts.true)) ∙ c.loop-i.invariant

pub returns-then-not-is_plain : goal.returns-then-not-is_plain
unfolding bytes
returns-then-not-is_plain c =
    let a = c.args in
    sym (data-wrong a.text.now c.loop-i.i c.loop-i.i (omega arith) c.if-text-i-eq60.false (sym c.starts.ensures ∙ c.if-starts.false)
    (sym c.is_plain.ensures ∙ c.if-not-is_plain.true)) ∙ c.loop-i.invariant

pub loop-i-smaller : goal.loop-i-smaller
loop-i-smaller c = omega (arith, many-moves is_in_text _ _ _ _ (sym c.text_run-i.ensures))

pub loop-i-preserved : goal.loop-i-preserved
unfolding bytes
loop-i-preserved c =
    let a = c.args in
    let i = c.loop-i.i in
    ap (λ (d : Step). d and_then char_data) c.text_run-i.ensures ∙ sym (data-run (i + 1) (drop (i + 1) a.text.now))
    ∙ rw (add-one i) (sym (data-on a.text.now i i (omega arith) c.if-text-i-eq60.false (sym c.starts.ensures ∙ c.if-starts.false)
    (sym c.is_plain.ensures ∙ c.if-not-is_plain.false)) ∙ c.loop-i.invariant)

pub returns : goal.returns
returns c =
    let a = c.args in
    sym (data-end a.text.now c.loop-i.i c.loop-i.i c.loop-i-test.false) ∙ c.loop-i.invariant
