-- `xml_text::tags::is_key_next` meets its contract: two bytes, of which the first is inside the text where it is a space. Assumes nothing.
use mathlib.Core.Path.{◌≡◌, sym, ap, ◌∙◌}
use mathlib.Core.Bool.{true, false}
use native.Mathlib.Omega.{arith}
use lib.Dec.{eqb, ltb}
use lib.ListN.{drop}
use lib.Seq.{drop-drop}
use borrow.Author.Tests.{eq-eqb, ne_eqb}
use Rattle.text.specs.Text.{first}
use Rattle.text.proofs.Laws.Texts.{first-drop}
use Rattle.xml.proofs.Laws.Steps.{inside-some}
use Rattle.xml_text.specs.Answers.{is_key_next}
use Rattle.xml_text.proofs.tags.is_key_next.Goals as goal

pub overflow_add-at : goal.overflow_add-at
overflow_add-at c =
    let text = c.args.text.now in
    omega (arith, inside-some text c.args.at 31 (sym (first-drop text c.args.at) ∙ sym c.byte_at.ensures ∙ c.if-byte_at-eq32.true))

pub returns-then-byte_at-eq32 : goal.returns-then-byte_at-eq32
unfolding is_key_next
returns-then-byte_at-eq32 c =
    let text = c.args.text.now in
    let here : eqb (first (drop c.args.at text)) 32 ≡ true = eq-eqb _ _ (sym c.byte_at.ensures ∙ c.if-byte_at-eq32.true) in
    rw (here, drop-drop 1 c.args.at text) (ap (ltb 62) c.byte_at-then-byte_at-eq32.ensures)

pub returns-else-byte_at-eq32 : goal.returns-else-byte_at-eq32
unfolding is_key_next
returns-else-byte_at-eq32 c =
    let text = c.args.text.now in
    let here : eqb (first (drop c.args.at text)) 32 ≡ false = ne_eqb _ _ (λ q. c.if-byte_at-eq32.false (c.byte_at.ensures ∙ q)) in
    rw (here, ne_eqb c.byte_at.result 32 c.if-byte_at-eq32.false)
