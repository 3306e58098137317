-- `xml_text::tags::spaced_part` meets its contract: white space, then the words of the definition. Assumes nothing.
use mathlib.Core.Path.{sym, ap, ◌∙◌}
use borrow.Author.Tests.{eq-eqb, ne_eqb}
use Rattle.std.specs.Prelude.{is_some}
use Rattle.xml.proofs.Laws.Moves.{spaces-moves}
use Rattle.xml_text.proofs.Laws.Plain.{ends, goes-on}
use Rattle.xml_text.proofs.Laws.Tags.{part-weaken}
use Rattle.xml_text.proofs.tags.spaced_part.Goals as goal

pub returns-then-is_some : goal.returns-then-is_some
returns-then-is_some c =
    rw (c.last_part-last.ensures)
    (ends c.args.text.now c.args.at c.spaces-start.result (sym c.spaces-start.ensures) (spaces-moves _ _ _ _ (sym c.spaces-start.ensures)).0
    (ap is_some (sym c.last_part-last.ensures) ∙ sym c.is_some.ensures ∙ c.if-is_some.true))

pub returns-then-start-at : goal.returns-then-start-at
returns-then-start-at c = (
  rw (
    goes-on c.args.text.now c.args.at c.spaces-start.result (sym c.spaces-start.ensures)
        (ap is_some (sym c.last_part-last.ensures) ∙ sym c.is_some.ensures ∙ c.if-is_some.false),
    eq-eqb _ _ c.if-start-at.true,
  ),
  tt,
)

pub returns : goal.returns
returns c =
    let m = spaces-moves _ _ _ _ (sym c.spaces-start.ensures) in (
      rw (
        goes-on c.args.text.now c.args.at c.spaces-start.result (sym c.spaces-start.ensures)
            (ap is_some (sym c.last_part-last.ensures) ∙ sym c.is_some.ensures ∙ c.if-is_some.false),
        ne_eqb _ _ c.if-start-at.false,
      ) c.attribute.ensures.0,
      part-weaken _ c.args.at c.spaces-start.result c.attribute.result m.0 c.attribute.ensures.1,
    )
