-- `xml_text::call::document_from` meets its contract: the root, then Misc to the end. Assumes nothing.
use mathlib.Core.Path.{sym}
use Rattle.xml.proofs.Laws.Call.{document-bad, document-misc, document-more, document-whole}
use native.Mathlib.Omega.{arith}
use Rattle.xml_text.proofs.call.document_from.Goals as goal

pub returns-in_err-whole : goal.returns-in_err-whole
returns-in_err-whole c = rw (c.from_residual.ensures, document-bad c.args.at _ c.in_err-whole.ensures)

pub returns-in_err-end : goal.returns-in_err-end
returns-in_err-end c =
    rw (c.from_residual-in_err-end.ensures, document-misc c.args.at _ _ _ _ c.in_ok-whole.ensures.1 (sym c.in_err-end.ensures))

pub returns-then-end-text : goal.returns-then-end-text
returns-then-end-text c =
    rw (document-more c.args.text.now c.args.at _ _ _ _ c.in_ok-whole.ensures.1 (sym c.in_ok-end.ensures) c.if-end-text.true)

pub returns : goal.returns
returns c =
    let r = c.in_ok-whole.ensures in
    (r.0, document-whole c.args.text.now c.args.at _ _ _ _ r.1 (sym c.in_ok-end.ensures) c.if-end-text.false, omega (arith, r.2), r.3)
