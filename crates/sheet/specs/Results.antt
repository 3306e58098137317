-- Results as returned numbers.
--     returned_number    0 of what is accepted, else the refusal's
use Rattle.std.specs.Prelude.{ℕ, Result, Ok, Err}
use Rattle.sheet.specs.Returned.{accepted, refusal_number}
use Rattle.sheet.specs.declared.refusal.Refusal.{Refusal}

abbrev pub returned_number : {T : Type 0} → Result T Refusal → ℕ
returned_number (Ok value) = accepted
returned_number (Err refusal) = refusal_number refusal
