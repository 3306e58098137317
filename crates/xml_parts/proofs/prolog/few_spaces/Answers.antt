-- `xml_parts::prolog::few_spaces` meets its contract: behind one space and a byte above it no white space is left. Assumes nothing.
use Prim.Native.Nat.{ℕ, ◌+◌, ◌<◌}
use mathlib.Core.Path.{◌≡◌, sym, ap, ◌∙◌}
use mathlib.Core.Bool.{false}
use native.Mathlib.Omega.{arith}
use native.Mathlib.Numerals.{add-one}
use borrow.Author.Tests.{ne_eqb}
use Rattle.text.specs.Trim.{is_white_space}
use Rattle.text.proofs.Laws.Texts.{first-drop}
use Rattle.xml.specs.Steps.{spaces}
use Rattle.xml.proofs.Laws.Steps.{many-on, many-stop}
use Rattle.xml_parts.proofs.Laws.Held.{byte-inside}
use Rattle.xml_parts.proofs.prolog.few_spaces.Goals as goal

above : (b : ℕ) → 32 < b → is_white_space b ≡ false
unfolding is_white_space
above b h = rw (ne_eqb b 9 (omega arith), ne_eqb b 10 (omega arith), ne_eqb b 13 (omega arith), ne_eqb b 32 (omega arith))

pub overflow_add-at : goal.overflow_add-at
overflow_add-at c =
    let text = c.args.text.now in
    omega (arith, byte-inside 32 (omega arith) text c.args.at (sym (first-drop text c.args.at) ∙ sym c.byte_at.ensures ∙ c.if-byte_at-eq32.true))

pub returns-then-byte_at-gt32 : goal.returns-then-byte_at-gt32
unfolding spaces is_white_space
returns-then-byte_at-gt32 c =
    let text = c.args.text.now in
    let at = c.args.at in
    let here = sym (first-drop text at) ∙ sym c.byte_at.ensures ∙ c.if-byte_at-eq32.true in
    let next = sym (first-drop text (at + 1)) ∙ sym c.byte_at-then-byte_at-eq32.ensures in
    let l = byte-inside c.byte_at-then-byte_at-eq32.result (omega (arith, c.if-byte_at-gt32.true)) text (at + 1) next in
    sym (many-on is_white_space text at at (byte-inside 32 (omega arith) text at here) (ap is_white_space here)
    ∙ rw (sym (add-one at)) (many-stop is_white_space text (at + 1) (at + 1) l (ap is_white_space next ∙ above _ c.if-byte_at-gt32.true)))
