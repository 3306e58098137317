-- Examples of both calls by computation.
--     three, three_columns    three rows, and their columns worked out by hand
use Rattle.std.specs.Prelude.{◌≡◌, ℕ, List, [], ◌∷◌, ◌++◌, replicate, refl}
use Rattle.columns.specs.Columns.{columns_of, rows_of_columns}
use Rattle.columns.specs.Call.{turned}
use Rattle.columns.specs.Unfold.{computes}

unfoldable three : List ℕ
three =
    (5 ∷ 0 ∷ 4294967295 ∷ 1 ∷ 7 ∷ 0 ∷ 0 ∷ 10 ∷ 0 ∷ 9 ∷ [])
    ++ (6 ∷ 0 ∷ 0 ∷ 0 ∷ 7 ∷ 4294967295 ∷ 0 ∷ 30 ∷ 0 ∷ 8 ∷ [])
    ++ (8 ∷ 0 ∷ 4294967295 ∷ 4294967295 ∷ 7 ∷ 0 ∷ 1 ∷ 20 ∷ 0 ∷ 7 ∷ [])

-- the first number of a column stays, and no difference runs over to the next column
unfoldable three_columns : List ℕ
three_columns =
    (5 ∷ 1 ∷ 2 ∷ [])
    ++ (0 ∷ 0 ∷ 0 ∷ [])
    ++ (4294967295 ∷ 1 ∷ 4294967295 ∷ [])
    ++ (1 ∷ 4294967295 ∷ 4294967295 ∷ [])
    ++ (7 ∷ 0 ∷ 0 ∷ [])
    ++ (0 ∷ 4294967295 ∷ 1 ∷ [])
    ++ (0 ∷ 0 ∷ 1 ∷ [])
    ++ (10 ∷ 20 ∷ 4294967286 ∷ [])
    ++ (0 ∷ 0 ∷ 0 ∷ [])
    ++ (9 ∷ 4294967295 ∷ 4294967295 ∷ [])

three-columns : columns_of three ≡ three_columns
unfolding computes three three_columns
three-columns = refl

three-rows : rows_of_columns three_columns ≡ three
unfolding computes three three_columns
three-rows = refl

-- zeros stay zeros
zeros-stay : columns_of (replicate 20 0) ≡ replicate 20 0
unfolding computes
zeros-stay = refl

-- "1 refuses a length": one row alone, and a number more than two rows
one-row : turned columns_of (replicate 10 3) (replicate 10 7) ≡ record { number = 1; place = 0; target = replicate 10 7 }
unfolding computes
one-row = refl

no_rows : turned rows_of_columns (replicate 21 3) (replicate 21 7) ≡ record { number = 1; place = 0; target = replicate 21 7 }
unfolding computes
no_rows = refl

-- "or two unequal lengths"
longer-target : turned columns_of three (replicate 40 7) ≡ record { number = 1; place = 0; target = replicate 40 7 }
unfolding computes three
longer-target = refl

taken : turned columns_of three (replicate 30 7) ≡ record { number = 0; place = 0; target = three_columns }
unfolding computes three three_columns
taken = refl
