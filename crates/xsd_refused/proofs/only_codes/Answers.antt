-- `xsd_refused::only_codes` meets its contract. The loop's invariant: the answer for the rows from p on is that for all.
-- Assumes nothing.
use mathlib.Core.Path.{sym, ap, ◌∙◌}
use mathlib.Core.Bool.{not}
use native.Mathlib.Omega.{arith}
use Rattle.text.specs.Text.{between}
use Rattle.xsd_refused.proofs.Laws.Codes.{codes-end, codes_at, codes-not-at}
use Rattle.xsd_refused.proofs.only_codes.Goals as goal

pub returns-then-tag-ne-ENUMERATION : goal.returns-then-tag-ne-ENUMERATION
returns-then-tag-ne-ENUMERATION c =
    let args = c.args in
    let tag = c.tag-tag.ensures in
    λ names. ap not (c.in_range.ensures ∙ ap (between 5 11) tag)
    ∙ codes-not-at args.part.now.rows.now names c.loop-p.p args.part.now.end (omega arith) (λ e. c.if-tag-ne-ENUMERATION.true (tag ∙ e)) ∙ c.loop-p.invariant names

pub loop-p-preserved : goal.loop-p-preserved
loop-p-preserved c =
    let args = c.args in
    λ names. codes_at args.part.now.rows.now names c.loop-p.p args.part.now.end (omega arith) (sym c.tag-tag.ensures ∙ c.if-tag-ne-ENUMERATION.false) ∙ c.loop-p.invariant names

pub returns : goal.returns
returns c =
    let args = c.args in
    λ names. sym (codes-end args.part.now.rows.now names c.loop-p.p args.part.now.end (omega arith)) ∙ c.loop-p.invariant names
