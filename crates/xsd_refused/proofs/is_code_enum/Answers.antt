-- `xsd_refused::is_code_enum` meets its contract: there is a first row, it is an enumeration, and the facets behind it are. Assumes nothing.
use mathlib.Core.Path.{sym, ◌∙◌}
use native.Mathlib.Omega.{arith}
use Rattle.xsd_refused.proofs.Laws.Codes.{enum-none, enum_at, enum-not-at}
use Rattle.xsd_refused.proofs.is_code_enum.Goals as goal

pub returns-then-part-from : goal.returns-then-part-from
returns-then-part-from c =
    let args = c.args in
    λ names. sym (enum-none args.part.now.rows.now names args.from args.part.now.end c.if-part-from.true)

pub returns-then-tag-ne-ENUMERATION : goal.returns-then-tag-ne-ENUMERATION
returns-then-tag-ne-ENUMERATION c =
    let args = c.args in
    λ names. sym (enum-not-at args.part.now.rows.now names args.from args.part.now.end (omega arith) (λ e. c.if-tag-ne-ENUMERATION.true (c.tag.ensures ∙ e)))

pub returns : goal.returns
returns c =
    let args = c.args in
    λ names. c.only_codes.ensures names ∙ enum_at args.part.now.rows.now names args.from args.part.now.end (omega arith) (sym c.tag.ensures ∙ c.if-tag-ne-ENUMERATION.false)
