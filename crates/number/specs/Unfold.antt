-- One name that unfolds every definition of this crate, for examples by computation.
use Rattle.number.specs.Number.{after_plus, is_numeral, decimal_value, below, numeral, plain_below, plain_number, is_minus_zeros, number_below, number}

unfoldable pub computes : Unit {0}
unfolding after_plus is_numeral decimal_value below numeral plain_below plain_number is_minus_zeros number_below number
computes = tt
