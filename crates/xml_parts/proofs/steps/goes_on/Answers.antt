-- `xml_parts::steps::goes_on` meets its contract: a byte below 128, or a character of two bytes. Assumes nothing.
use mathlib.Core.Path.{sym, ap, ◌∙◌}
use Rattle.xml.specs.Classes.{is_name, is_byte_of}
use Rattle.xml.proofs.Laws.Names.{begins-place, zero-no-name}
use Rattle.xml_parts.proofs.steps.goes_on.Goals as goal

pub returns-then-is_name : goal.returns-then-is_name
returns-then-is_name c =
    let e = ap (is_byte_of is_name) (sym c.byte_at.ensures) ∙ sym c.is_name.ensures ∙ c.if-is_name.true in
    rw (begins-place is_name c.args.text.now c.args.at zero-no-name, e) c.if-is_name.true

pub returns-else-is_name : goal.returns-else-is_name
returns-else-is_name c =
    let e = ap (is_byte_of is_name) (sym c.byte_at.ensures) ∙ sym c.is_name.ensures ∙ c.if-is_name.false in
    rw (begins-place is_name c.args.text.now c.args.at zero-no-name, e) c.is_name_at.ensures
