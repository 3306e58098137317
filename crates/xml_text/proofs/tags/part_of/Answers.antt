-- `xml_text::tags::part_of` meets its contract: behind one space and a byte above 62 there is an attribute, and no white space is passed over before the end of a tag. Assumes nothing.
use native.Mathlib.Omega.{arith}
use Prim.Native.Nat.{◌+◌}
use mathlib.Core.Path.{sym, ap, ◌∙◌}
use native.Mathlib.Nat.{le_refl}
use Rattle.std.specs.Prelude.{is_some}
use Rattle.xml_text.proofs.Laws.Plain.{key-part, key-inside, ends, ends-here}
use Rattle.xml_text.proofs.Laws.Tags.{part-weaken}
use Rattle.xml_text.proofs.tags.part_of.Goals as goal

pub overflow_add-at : goal.overflow_add-at
overflow_add-at c = omega (arith, key-inside c.args.text.now c.args.at (sym c.is_key_next.ensures ∙ c.if-is_key_next.true))

pub returns-then-is_key_next : goal.returns-then-is_key_next
returns-then-is_key_next c =
    let text = c.args.text.now in (
      c.attribute.ensures.0 ∙ sym (key-part text c.args.at (sym c.is_key_next.ensures ∙ c.if-is_key_next.true)),
      part-weaken _ c.args.at (c.args.at + 1) c.attribute.result (omega arith) c.attribute.ensures.1,
    )

pub returns-then-is_some : goal.returns-then-is_some
returns-then-is_some c =
    let h = ap is_some (sym c.last_part-last.ensures) ∙ sym c.is_some.ensures ∙ c.if-is_some.true in
    rw (c.last_part-last.ensures) (ends c.args.text.now c.args.at c.args.at (ends-here c.args.at _ h) (le_refl c.args.at) h)
