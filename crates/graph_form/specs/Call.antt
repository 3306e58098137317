-- The call that judges a graph's form alone. Order 6: "21 not in paper 01's graph form (..), .. after 1"; that two types have one name is no part of it.
--     form_answer    the number, and 0 as the place
--     FormIs        what the call says of itself; the graph is lent for reading alone
use Rattle.std.specs.Prelude.{◌≡◌, if◌then◌else◌}
use Rattle.sheet.specs.Rows.{Sheet}
use Rattle.sheet.specs.Lengths.{Answer, lengths_of, good_lengths}
use Rattle.sheet.specs.Calls.{answered}
use Rattle.sheet.specs.Returned.{accepted, bad_length, not_in_form}
use Rattle.ir_types.specs.Form.{graph_form}

unfoldable pub form_answer : Sheet → Answer
form_answer x =
    if good_lengths (lengths_of x)
    then (if graph_form x then answered accepted 0 else answered not_in_form 0)
    else answered bad_length 0

abbrev pub FormIs : Sheet → Answer → Type 0
FormIs x answer = answer ≡ form_answer x
