-- How many rows of a sheet have a tag that passes a test.
--     tags_in        the tags of the rows from row 2 to an end
--     tags_counted   how many of them pass
use Rattle.std.specs.Prelude.{ℕ, ◌-◌, ◌*◌, List, Bool, get_or, map, count_by}
use Rattle.std.specs.List.{range_with_len}

abbrev pub tags_in : List ℕ → ℕ → List ℕ
tags_in rows end = map (λ (place : ℕ). get_or rows (10 * place) 0) (range_with_len 2 (end - 2))

abbrev pub tags_counted : (ℕ → Bool) → List ℕ → ℕ → ℕ
tags_counted P rows end = count_by P (tags_in rows end)
