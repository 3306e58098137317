-- What the two sheets' forms share: paper 01, "Schema sheet" and "Graph sheet". `used_pairs tag a` says how many pairs a row of a tag and an a uses.
--     words         the numbers are u32
--     is_flag        "Flags are 0 or 1"
--     pair_form, row_covers, covers    the used pairs cover the names from k, unused pairs are 0 0
--     end_of, covered    where a row's, or a list of rows', pairs end
--     texts_counted  a row with its texts has as many as it uses
--     rows_used_in, names_used_in    rows used and names used among the ten numbers of row 0
--     row0_of        row 0 of a sheet as ten numbers; rows_used_of, names_used_of: what it says is used; tens_of: the used rows behind it
--     texts_pass    each text of the used pairs passes a test
--     used_parts, zeros_behind    the used parts lie inside the buffers, and behind them all is zero
use Rattle.std.specs.Prelude.{ℕ, ◌+◌, ◌-◌, ◌*◌, ◌^◌, List, [], ◌∷◌, map, Bool, true, ◌&&◌, eqb, leb, ltb, length, drop, if◌then◌else◌}
use Rattle.text.specs.Text.{Text, every}
use Rattle.sheet.specs.Rows.{Ten, Row, ten, tens, unpack_row, all_zero, Sheet}
use Rattle.sheet.specs.Limits.{row_numbers}
use Rattle.sheet.specs.Lengths.{fits}

-- the numbers of a buffer of u32
abbrev pub words : List ℕ → Bool
words r = every (λ (n : ℕ). ltb n (2 ^ 32)) r

unfoldable pub is_flag : ℕ → Bool
is_flag x = leb x 1

-- a used pair starts at k; "an unused pair is 0 0"
unfoldable pub pair_form : Bool → ℕ → ℕ → ℕ → Bool
pair_form used k at len = if used then eqb at k else (eqb at 0 && eqb len 0)

unfoldable pub row_covers : (ℕ → ℕ → ℕ) → ℕ → Ten → Bool
row_covers used_pairs k t =
    let used = used_pairs t.tag t.a in
    pair_form (leb 1 used) k t.at0 t.len0
    && pair_form (leb 2 used) (k + t.len0) t.at1 t.len1
    && pair_form (leb 3 used) (k + t.len0 + t.len1) t.at2 t.len2

unfoldable pub end_of : ℕ → Ten → ℕ
end_of k t = k + t.len0 + t.len1 + t.len2

-- "Used pairs, read in row order, cover the names from 0, each (an empty one too) starting at the end of the one before"
unfoldable pub covers : (ℕ → ℕ → ℕ) → ℕ → List Ten → Bool
covers used_pairs k [] = true
covers used_pairs k (t ∷ ts) = row_covers used_pairs k t && covers used_pairs (end_of k t) ts

unfoldable pub covered : ℕ → List Ten → ℕ
covered k [] = k
covered k (t ∷ ts) = covered (end_of k t) ts

-- a row has as many texts as it uses, three at most
unfoldable pub texts_counted : (ℕ → ℕ → ℕ) → Row → Bool
texts_counted used_pairs r = eqb (length r.texts) (used_pairs r.tag r.a) && leb (length r.texts) 3

-- row 0 of both sheets begins: "0, rows used, names used"
abbrev pub rows_used_in : Ten → ℕ
rows_used_in z = z.at0

abbrev pub names_used_in : Ten → ℕ
names_used_in z = z.len0

unfoldable pub row0_of : Sheet → Ten
row0_of x = ten x.rows

abbrev pub rows_used_of : Sheet → ℕ
rows_used_of x = rows_used_in (row0_of x)

abbrev pub names_used_of : Sheet → ℕ
names_used_of x = names_used_in (row0_of x)

-- rows used counts row 0
unfoldable pub tens_of : Sheet → List Ten
tens_of x = tens (rows_used_of x - 1) (drop row_numbers x.rows)

-- the used parts lie inside the buffers; row 0 and row 1 are always used
unfoldable pub used_parts : Sheet → Bool
used_parts x = leb 2 (rows_used_of x) && fits (rows_used_of x) (names_used_of x) (length x.rows) (length x.names)

-- "all past the used parts, are zero"
unfoldable pub zeros_behind : Sheet → Bool
zeros_behind x = all_zero (drop (row_numbers * rows_used_of x) x.rows) && all_zero (drop (names_used_of x) x.names)

-- order 12: "each used pair by itself holds such text"
unfoldable pub texts_pass : (Text → Bool) → (ℕ → ℕ → ℕ) → Sheet → Bool
texts_pass ok used_pairs x = every (λ (r : Row). every ok r.texts) (map (unpack_row used_pairs x.names) (tens_of x))
