-- What a call's answer says in the terms of the definitions.
--     answer_of      the number and the place: 0 where it is accepted, else the refusal's
use Rattle.std.specs.Prelude.{ℕ, Result, Ok, Err}
use Rattle.sheet.specs.Lengths.{Answer}
use Rattle.sheet.specs.Calls.{answered}
use Rattle.sheet.specs.Returned.{accepted, refusal_number}
use Rattle.rows.specs.declared.answers.Refused.{Refused}

abbrev pub answer_of : Result ℕ Refused → Answer
answer_of (Ok place) = answered accepted place
answer_of (Err refused) = answered (refusal_number refused.refusal) refused.place
