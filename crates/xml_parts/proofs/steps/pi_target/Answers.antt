-- `xml_parts::steps::pi_target` meets its contract: the name that was read is the name that the bytes left begin with. Assumes nothing.
use native.Mathlib.Omega.{arith}
use mathlib.Core.Path.{sym, ap, ◌∙◌}
use lib.ListN.{length-drop}
use Rattle.xml.specs.Grammar.{is_xml}
use Rattle.xml.proofs.Laws.Names.{name-size, name-length, name-part, target-bad, target-xml, target_name}
use Rattle.xml_parts.proofs.steps.pi_target.Goals as goal

pub returns-in_err-end : goal.returns-in_err-end
returns-in_err-end c = rw c.from_residual.ensures (sym (target-bad c.args.at _ (sym c.in_err-end.ensures)))

pub slice_bounds-is_xml-count : goal.slice_bounds-is_xml-count
slice_bounds-is_xml-count c = omega (arith, name-size _ _ _ _ (sym c.in_ok-end.ensures))

pub slice_bounds-is_xml-start : goal.slice_bounds-is_xml-start
slice_bounds-is_xml-start c = omega (arith, name-size _ _ _ _ (sym c.in_ok-end.ensures))

pub slice_bounds-is_xml-end : goal.slice_bounds-is_xml-end
slice_bounds-is_xml-end c =
    let a = c.args in
    omega (arith, name-length _ _ _ _ (sym c.in_ok-end.ensures), length-drop a.at a.text.now)

pub returns-then-is_xml : goal.returns-then-is_xml
returns-then-is_xml c =
    let a = c.args in
    let part = name-part _ _ _ _ (sym c.in_ok-end.ensures) in
    sym (target-xml a.at _ (sym (c.is_xml.ensures ∙ ap is_xml part) ∙ c.if-is_xml.true))

pub returns : goal.returns
returns c =
    let a = c.args in
    let read = sym c.in_ok-end.ensures in
    let part = name-part _ _ _ _ read in
    sym (target_name a.at _ (sym (c.is_xml.ensures ∙ ap is_xml part) ∙ c.if-is_xml.false) ∙ read)
