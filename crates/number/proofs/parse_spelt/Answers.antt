-- `number::parse_spelt` meets its contract: the text is trimmed, minus zeros are one case, and all else is as paper 01 has it. Assumes nothing.
use Rattle.number.specs.Number.{plain_number, number_below, number}
use Rattle.number.proofs.parse_spelt.Goals as goal

pub returns-then-is_minus_zeros : goal.returns-then-is_minus_zeros
unfolding number number_below
returns-then-is_minus_zeros c =
    let t = c.trimmed-t.ensures in
    rw (← t, ← c.is_minus_zeros.ensures, c.if-is_minus_zeros.true)

pub returns : goal.returns
unfolding number number_below plain_number
returns c =
    let t = c.trimmed-t.ensures in
    rw (← t, ← c.is_minus_zeros.ensures, c.if-is_minus_zeros.false) c.parse_plain.ensures
