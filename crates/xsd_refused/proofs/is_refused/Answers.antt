-- `xsd_refused::is_refused` meets its contract: the tests are the definition's, and the base's bytes are the row's second text. Assumes nothing.
use Prim.Native.Nat.{◌+◌}
use mathlib.Core.Path.{sym, ◌∙◌}
use Rattle.xsd_types.specs.Places.{rows_from}
use Rattle.xsd_refused.proofs.Laws.Refused.{kept-not-simple, kept-code-enum, refused-by-base}
use Rattle.xsd_refused.proofs.is_refused.Goals as goal

pub returns-then-tag-ne-SIMPLE_TYPE : goal.returns-then-tag-ne-SIMPLE_TYPE
returns-then-tag-ne-SIMPLE_TYPE c =
    let args = c.args in
    sym (kept-not-simple args.part.now.rows.now args.part.now.names.now args.place (rows_from args.part.now.rows.now args.part.now.names.now (args.place + 1) args.part.now.end)
    (λ e. c.if-tag-ne-SIMPLE_TYPE.true (c.tag.ensures ∙ e)))

pub returns-then-is_code_enum : goal.returns-then-is_code_enum
returns-then-is_code_enum c =
    let args = c.args in
    sym (kept-code-enum args.part.now.rows.now args.part.now.names.now args.place (rows_from args.part.now.rows.now args.part.now.names.now (args.place + 1) args.part.now.end)
    (sym c.tag.ensures ∙ c.if-tag-ne-SIMPLE_TYPE.false) (sym (c.is_code_enum.ensures args.part.now.names.now) ∙ c.if-is_code_enum.true))

pub returns : goal.returns
returns c =
    let args = c.args in
    refused-by-base args.part.now.rows.now args.part.now.names.now args.place (rows_from args.part.now.rows.now args.part.now.names.now (args.place + 1) args.part.now.end)
    (sym c.tag.ensures ∙ c.if-tag-ne-SIMPLE_TYPE.false) (sym (c.is_code_enum.ensures args.part.now.names.now) ∙ c.if-is_code_enum.false)
    c.text.ensures c.reference_of.ensures
