-- `xsd_write::held::holds` meets its contract: between the quotes that the value lacks. Assumes nothing.
use mathlib.Core.Path.{refl, sym, ◌∙◌}
use Rattle.xml.specs.Values.{is_quote}
use Rattle.xml.specs.Written.{quote_of}
use Rattle.xsd_written.specs.Call.{holds}
use Rattle.xsd_write.proofs.held.holds.Goals as goal

pub is_value-requires : goal.is_value-requires
unfolding is_quote
is_value-requires c = refl

pub returns-then-has_byte : goal.returns-then-has_byte
unfolding holds quote_of
returns-then-has_byte c = rw (sym c.has_byte.ensures ∙ c.if-has_byte.true) c.is_value.ensures

pub is_value-requires-2 : goal.is_value-requires-2
unfolding is_quote
is_value-requires-2 c = refl

pub returns : goal.returns
unfolding holds quote_of
returns c = rw (sym c.has_byte.ensures ∙ c.if-has_byte.false) c.is_value-2.ensures
