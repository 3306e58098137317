-- `number::parse_plain` meets its contract: the digits behind an optional plus sign. Assumes nothing.
use Prim.Native.Nat.{◌^◌}
use mathlib.Core.Path.{ap, ◌∙◌}
use Rattle.number.specs.Number.{numeral, plain_below, plain_number}
use Rattle.number.proofs.parse_plain.Goals as goal

pub returns : goal.returns
unfolding plain_number plain_below
returns c = c.parse_digits.ensures ∙ ap (numeral (2 ^ 64)) c.after_plus.ensures
