-- All numbers of a graph's sheet are below 2 ^ 32, where the lent buffers are no longer. Assumes nothing.
use Prim.Native.Nat.{ℕ, zero, suc, ◌+◌, ◌-◌, ◌^◌, ◌≤◌, ◌<◌}
use mathlib.Core.Path.{◌≡◌, refl}
use mathlib.Core.Bool.{Bool, true, false, ◌&&◌, and_assoc, false≢true}
use mathlib.Core.List.{List, [], ◌∷◌, map, append-nil}
use mathlib.Core.Option.{some, none}
use native.Mathlib.Omega.{arith}
use lib.ListN.{length, replicate, length-append, length-map}
use Rattle.text.specs.Text.{Text, every, join}
use Rattle.sheet.specs.Rows.{Ten, Row, Pairs, numbers, row, pairs, pack_row, pack, names_of, filled, sheet_of_rows}
use Rattle.ir_types.specs.Types.{TypeGraph, TypeDef}
use Rattle.ir_types.specs.Row0.{graph_row0_ten}
use Rattle.ir_types.specs.Rows.{type_rows, types_rows, root_row, rows_of, rows_used, names_used, row0}
use Rattle.ir_types.specs.Sheet.{graph_fits, graph_sheet}
use Rattle.ir_types.specs.Form.{used_pairs}
use Rattle.ir_types.specs.Ok.{graph_ok, is_small, row_small, row_ok}
use Rattle.ir_types.proofs.Laws.GraphRows.{small}
use Rattle.ir_types.proofs.Laws.GraphForm.{behind, behind-ok, rows-use, ok-small, rows_fit, names-fit}
use Rattle.text.proofs.Laws.Tests.{and-true-left, and-true-right, and-true}
use Rattle.sheet.specs.Form.{texts_counted}
use Rattle.text.proofs.Laws.Every.{every-append-true, every-weaken}
use Rattle.sheet.proofs.Laws.Packs.{counted-small}

pairs_small : Pairs → Bool
pairs_small p = is_small p.at0 && is_small p.len0 && is_small p.at1 && is_small p.len1 && is_small p.at2 && is_small p.len2

zero-small : is_small 0 ≡ true
zero-small = small 0 (omega arith)

pairs_small_lem : (k : ℕ) (ts : List Text) → length ts ≤ 3 → k + length (join ts) < 2 ^ 32 → pairs_small (pairs k ts) ≡ true
unfolding pairs_small pairs join
pairs_small_lem k [] h b = rw zero-small
pairs_small_lem k (t ∷ []) h b = let l = simp append-nil at b in rw (zero-small, small k (omega arith), small (length t) (omega arith))
pairs_small_lem k (t ∷ u ∷ []) h b =
    let l = simp (append-nil, length-append) at b in
    rw (zero-small, small k (omega arith), small (length t) (omega arith), small (k + length t) (omega arith), small (length u) (omega arith))
pairs_small_lem k (t ∷ u ∷ v ∷ []) h b =
    let l = simp (append-nil, length-append) at b in
    rw (
      small k (omega arith),
      small (length t) (omega arith),
      small (k + length t) (omega arith),
      small (length u) (omega arith),
      small (k + length t + length u) (omega arith),
      small (length v) (omega arith),
    )
pairs_small_lem k (t ∷ u ∷ v ∷ w ∷ ts) h b = absurd (omega arith)

six-tests : (p q u v w x rest : Bool) → p && q && u && v && w && x ≡ true → rest ≡ true → p && (q && (u && (v && (w && (x && rest))))) ≡ true
six-tests p q u v w x rest k e = simp (← and_assoc) (and-true k e)

-- a row's ten tests, grouped as tag, pairs, a, b, c
ten-tests : (t p q u v w x a b c rest : Bool) → t && a && b && c ≡ true → p && q && u && v && w && x ≡ true → rest ≡ true
    → t && (p && (q && (u && (v && (w && (x && (a && (b && (c && rest))))))))) ≡ true
ten-tests true p q u v w x true true true rest h k e = six-tests p q u v w x rest k e
ten-tests true p q u v w x true true false rest h k e = absurd (false≢true h)
ten-tests true p q u v w x true false c rest h k e = absurd (false≢true h)
ten-tests true p q u v w x false b c rest h k e = absurd (false≢true h)
ten-tests false p q u v w x a b c rest h k e = absurd (false≢true h)

row_small_lem : (k : ℕ) (r : Row) (ts : List Ten) → row_small r ≡ true → length r.texts ≤ 3 → k + length (join r.texts) < 2 ^ 32 → every is_small (numbers ts) ≡ true
    → every is_small (numbers (pack_row k r ∷ ts)) ≡ true
unfolding every numbers pack_row row_small pairs_small
row_small_lem k r ts s h b e =
    let p = pairs k r.texts in
    ten-tests (is_small r.tag) (is_small p.at0) (is_small p.len0) (is_small p.at1) (is_small p.len1) (is_small p.at2) (is_small p.len2)
    (is_small r.a) (is_small r.b) (is_small r.c) (every is_small (numbers ts)) s (pairs_small_lem k r.texts h b) e

pack-small : (k : ℕ) (rs : List Row) → every row_small rs ≡ true → every (texts_counted used_pairs) rs ≡ true → k + length (names_of rs) < 2 ^ 32 → every is_small (numbers (pack k rs)) ≡ true
unfolding every pack names_of numbers
pack-small k [] s u b = refl
pack-small k (r ∷ rs) s u b =
    let l = length-append (join r.texts) (names_of rs) in
    row_small_lem k r (pack (k + length (join r.texts)) rs) (and-true-left (row_small r) (every row_small rs) s)
    (counted-small used_pairs r (and-true-left (texts_counted used_pairs r) (every (texts_counted used_pairs) rs) u)) (omega arith)
    (pack-small (k + length (join r.texts)) rs (and-true-right (row_small r) (every row_small rs) s)
    (and-true-right (texts_counted used_pairs r) (every (texts_counted used_pairs) rs) u) (omega arith))

zeros-small : (n : ℕ) → every is_small (replicate n 0) ≡ true
unfolding every
zeros-small zero = refl
zeros-small (suc n) = rw zero-small (zeros-small n)

-- row 0 counts no more than there are rows
head-row : (d : TypeDef) → 1 ≤ length (type_rows d)
unfolding type_rows
head-row (TypeDef.struct event n fs) = omega arith
head-row (TypeDef.enum event n vs) = omega arith
head-row (TypeDef.newtype event n i cs) = omega arith
head-row (TypeDef.code_enum event n cs) = omega arith
head-row (TypeDef.value_with_attr event n v xs) = omega arith
head-row (TypeDef.opaque event n none) = omega arith
head-row (TypeDef.opaque event n (some ns)) = omega arith

types-fewer : (ds : List TypeDef) → length ds ≤ length (types_rows ds)
unfolding types_rows
types-fewer [] = omega arith
types-fewer (d ∷ ds) = let l = length-append (type_rows d) (types_rows ds) in let h = head-row d in let m = types-fewer ds in omega arith

counts-fewer : (g : TypeGraph) → length g.root_elements + length g.types ≤ rows_used g
unfolding rows_used rows_of
counts-fewer g =
    let l = length-append (map root_row g.root_elements) (types_rows g.types) in let m = length-map g.root_elements root_row in let t = types-fewer g.types in
    omega arith

row0-small : (g : TypeGraph) (ts : List Ten) → rows_used g < 2 ^ 32 → names_used g < 2 ^ 32 → every is_small (numbers ts) ≡ true → every is_small (numbers (graph_row0_ten (row0 g) ∷ ts)) ≡ true
unfolding every numbers row0
row0-small g ts r n e =
    let f = counts-fewer g in
    rw (zero-small, small (rows_used g) r, small (names_used g) n, small (length g.root_elements) (omega arith), small (length g.types) (omega arith)) e

rows-small : (g : TypeGraph) → graph_ok g ≡ true → every row_small (rows_of g) ≡ true
unfolding rows_of every row_small row is_small
rows-small g h = every-weaken row_ok row_small ok-small (behind g) (behind-ok g h)

names-small : (g : TypeGraph) (n : ℕ) → names_used g ≤ n → n < 2 ^ 32 → 0 + length (names_of (rows_of g)) < 2 ^ 32
unfolding names_used
names-small g n q b = omega arith

pub sheet-small : (g : TypeGraph) (r n : ℕ) → graph_ok g ≡ true → graph_fits r n g ≡ true → r < 2 ^ 32 → n < 2 ^ 32 → every is_small (graph_sheet g r n).rows ≡ true
unfolding graph_sheet sheet_of_rows filled
sheet-small g r n h k a b =
    let p = rows_fit g r n k in let q = names-fit g r n k in let more = r - length (numbers (graph_row0_ten (row0 g) ∷ pack 0 (rows_of g))) in
    every-append-true is_small (numbers (graph_row0_ten (row0 g) ∷ pack 0 (rows_of g))) (replicate more 0)
    (row0-small g (pack 0 (rows_of g)) (omega arith) (omega arith) (pack-small 0 (rows_of g) (rows-small g h) (rows-use g h) (names-small g n q b)))
    (zeros-small more)
