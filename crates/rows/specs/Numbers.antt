-- The numbers of a row that are not of its pairs.
--     numbers_at     those of row `place`
use Rattle.std.specs.Prelude.{ℕ, ◌+◌, ◌*◌, List, get_or}
use Rattle.rows.specs.declared.numbers.RowNumbers.{RowNumbers}

abbrev pub numbers_at : List ℕ → ℕ → RowNumbers
numbers_at rows place =
    record { tag = get_or rows (10 * place) 0; a = get_or rows (10 * place + 7) 0; b = get_or rows (10 * place + 8) 0; c = get_or rows (10 * place + 9) 0 }
