-- `xml_parts::steps::same_name` meets its contract: a name that begins with a byte below 128 is none that begins with another. Assumes nothing.
use mathlib.Core.Path.{sym, ap, ◌∙◌}
use Rattle.xml.specs.Classes.{is_name, is_byte_of}
use Rattle.xml_parts.proofs.Laws.Alike.{differ-there}
use Rattle.xml_parts.proofs.steps.same_name.Goals as goal

pub returns-then-is_name : goal.returns-then-is_name
returns-then-is_name c =
    sym (differ-there c.args.text.now c.args.a c.args.b (ap (is_byte_of is_name) (sym c.byte_at-x.ensures) ∙ sym c.is_name.ensures ∙ c.if-is_name.true)
    (λ q. c.if-x-y.true (c.byte_at-x.ensures ∙ q ∙ sym c.byte_at-y.ensures)))
