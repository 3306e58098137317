-- `xsd_write::body::put_schema` meets its contract: the namespace is row 1. Assumes nothing.
use mathlib.Core.Path.{ap, ◌∙◌}
use Rattle.std.proofs.Common.{rules}
use Rattle.text.specs.Text.{bytes}
use Rattle.xml.specs.Written.{written_attributes}
use Rattle.xsd_written.specs.Schema.{attr}
use Rattle.xsd_types.specs.Back.{text0}
use Rattle.xsd_written.specs.ByRows.{attribute_text}
use Rattle.xsd_write.specs.Texts.{quoted_value, schema_rows}
use Rattle.xsd_write.proofs.Laws.Puts.{writes_then, writes_back}
use Rattle.xsd_write.proofs.body.put_schema.Goals as goal

pub returns : goal.returns
unfolding schema_rows attribute_text written_attributes attr bytes quoted_value
returns c =
    let e = c.first_text.ensures ∙ ap text0 c.at-row.ensures.row in
    rw (← e) (writes_back (writes_then c.put_value.ensures c.put_body.ensures) (search rules))
