-- Where the last head stands.
--     head_row       the last row before row n that is a head, 0 where there is none
use Rattle.std.specs.Prelude.{ℕ, zero, suc, ◌*◌, List, get_or, if◌then◌else◌}
use Rattle.sheet.specs.Limits.{row_numbers}
use Rattle.xsd_types.specs.Good.{is_head}

unfoldable pub head_row : List ℕ → ℕ → ℕ
head_row rows zero = 0
head_row rows (suc n) = if is_head (get_or rows (row_numbers * n) 0) then n else head_row rows n
