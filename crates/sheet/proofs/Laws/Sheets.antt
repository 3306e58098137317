-- The two buffers of a sheet: what stands in the buffers made of rows, and that a sheet is made of the rows read from it. Assumes nothing.
use mathlib.Core.Path.{◌≡◌, refl, sym, ap, ◌∙◌}
use mathlib.Core.Bool.{Bool, true, ◌&&◌, ◌||◌}
use mathlib.Core.List.{List, [], ◌∷◌, ◌++◌, map}
use Prim.Native.Nat.{ℕ, suc, ◌+◌, ◌-◌, ◌*◌, ◌≤◌}
use native.Mathlib.Omega.{arith}
use lib.Seq.{take_at}
use lib.ListN.{length, take, drop, replicate, length-append, length-drop}
use Rattle.text.specs.Text.{Text, every, is_plain}
use Rattle.text.proofs.Laws.Tests.{bool_cases}
use Rattle.sheet.specs.Rows.{Ten, Row, Sheet, ten, tens, numbers, pack, names_of, unpack_row, filled, all_zero, sheet_of_rows}
use Rattle.sheet.specs.Form.{covers, covered, texts_counted, rows_used_of, names_used_of, tens_of, texts_pass}
use Rattle.sheet.proofs.Laws.Numbers.{tens-numbers, length-numbers, numbers-tens, length-filled, take-filled, zeros-filled, filled-back}
use Rattle.sheet.proofs.Laws.Packs.{rows_back, length-pack, plain-rows}
use Rattle.sheet.proofs.Laws.Unpacks.{few, rows-again, names-again}

module _ (z : Ten) (rs : List Row) (r n : ℕ) where
  pub first-ten : ten (sheet_of_rows z rs r n).rows ≡ z
  unfolding sheet_of_rows ten numbers filled
  first-ten = refl

  pub tens-behind : tens (length rs) (drop 10 (sheet_of_rows z rs r n).rows) ≡ pack 0 rs
  unfolding sheet_of_rows numbers filled
  tens-behind = rw (← length-pack 0 rs) (tens-numbers (pack 0 rs) (replicate (r - length (numbers (z ∷ pack 0 rs))) 0))

  pub numbers-used : length (numbers (z ∷ pack 0 rs)) ≡ 10 * (1 + length rs)
  numbers-used = length-numbers (z ∷ pack 0 rs) ∙ rw (length-pack 0 rs) (omega arith)

  pub length-rows : 10 * (1 + length rs) ≤ r → length (sheet_of_rows z rs r n).rows ≡ r
  unfolding sheet_of_rows
  length-rows h = length-filled r (numbers (z ∷ pack 0 rs)) (rw numbers-used h)

  pub length-names : length (names_of rs) ≤ n → length (sheet_of_rows z rs r n).names ≡ n
  unfolding sheet_of_rows
  length-names h = length-filled n (names_of rs) h

  pub zeros-rows : all_zero (drop (10 * (1 + length rs)) (sheet_of_rows z rs r n).rows) ≡ true
  unfolding sheet_of_rows
  zeros-rows = rw (← numbers-used) (zeros-filled r (numbers (z ∷ pack 0 rs)))

  pub zeros-names : all_zero (drop (length (names_of rs)) (sheet_of_rows z rs r n).names) ≡ true
  unfolding sheet_of_rows
  zeros-names = zeros-filled n (names_of rs)

  pub used-names : take (length (names_of rs)) (sheet_of_rows z rs r n).names ≡ names_of rs
  unfolding sheet_of_rows
  used-names = take-filled n (names_of rs)

  pub rows-read : (used : ℕ → ℕ → ℕ) → every (texts_counted used) rs ≡ true → map (unpack_row used (sheet_of_rows z rs r n).names) (pack 0 rs) ≡ rs
  unfolding sheet_of_rows filled
  rows-read used h = rows_back used (sheet_of_rows z rs r n).names 0 rs (replicate (n - length (names_of rs)) 0) h refl

-- a sheet of u + 1 used rows whose pairs cover the names, with zeros behind the used parts
module _ (used : ℕ → ℕ → ℕ) (x : Sheet) (u : ℕ) (few-pairs : every (few used) (tens u (drop 10 x.rows)) ≡ true) (cover : covers used 0 (tens u (drop 10 x.rows)) ≡ true) where
  pub names-read : names_of (map (unpack_row used x.names) (tens u (drop 10 x.rows))) ++ drop (covered 0 (tens u (drop 10 x.rows))) x.names ≡ x.names
  names-read = sym (names-again used x.names 0 (tens u (drop 10 x.rows)) few-pairs cover)

  pub length-read : covered 0 (tens u (drop 10 x.rows)) ≤ length x.names
      → length (names_of (map (unpack_row used x.names) (tens u (drop 10 x.rows)))) ≡ covered 0 (tens u (drop 10 x.rows))
  length-read h = omega (arith, simp (length-append, length-drop) at (ap length names-read))

  pub names-taken : covered 0 (tens u (drop 10 x.rows)) ≤ length x.names → take (covered 0 (tens u (drop 10 x.rows))) x.names ≡ names_of (map (unpack_row used x.names) (tens u (drop 10 x.rows)))
  names-taken h =
      let k = covered 0 (tens u (drop 10 x.rows)) in
      ap (take k) (sym names-read) ∙ take_at (names_of (map (unpack_row used x.names) (tens u (drop 10 x.rows)))) (drop k x.names) k (length-read h)

  pub rows_whole : 10 * (1 + u) ≤ length x.rows → all_zero (drop (10 * (1 + u)) x.rows) ≡ true → filled (length x.rows) (numbers (ten x.rows ∷ tens u (drop 10 x.rows))) ≡ x.rows
  unfolding tens
  rows_whole fit zero-rows =
      let more : 10 * (1 + u) ≡ 10 * suc u = omega arith in
      filled-back x.rows (numbers (tens (suc u) x.rows)) (drop (10 * suc u) x.rows) (numbers-tens (suc u) x.rows (omega arith)) (rw (← more) zero-rows)

  pub sheet-read : 10 * (1 + u) ≤ length x.rows → covered 0 (tens u (drop 10 x.rows)) ≤ length x.names
      → all_zero (drop (10 * (1 + u)) x.rows) ≡ true → all_zero (drop (covered 0 (tens u (drop 10 x.rows))) x.names) ≡ true
      → sheet_of_rows (ten x.rows) (map (unpack_row used x.names) (tens u (drop 10 x.rows))) (length x.rows) (length x.names) ≡ x
  unfolding sheet_of_rows
  sheet-read fit fits zero-rows zero-names =
      let ts = tens u (drop 10 x.rows) in
      let rows = ap (λ (l : List Ten). filled (length x.rows) (numbers (ten x.rows ∷ l))) (rows-again used x.names 0 ts few-pairs cover fits) ∙ rows_whole fit zero-rows in
      let names = filled-back x.names (names_of (map (unpack_row used x.names) ts)) (drop (covered 0 ts) x.names) names-read zero-names in
      λ i. record { rows = rows i; names = names i }

-- where the pairs of a sheet cover its names, each text passes where the used names are plain as a whole; `ok` is a test of texts that plain ones pass
pub texts-plain : (ok : Text → Bool) → ((s : Text) → is_plain s ≡ true → ok s ≡ true) → (used : ℕ → ℕ → ℕ) (x : Sheet) → every (few used) (tens_of x) ≡ true → covers used 0 (tens_of x) ≡ true
    → covered 0 (tens_of x) ≡ names_used_of x → names_used_of x ≤ length x.names → is_plain (take (names_used_of x) x.names) ≡ true → texts_pass ok used x ≡ true
unfolding texts_pass tens_of
texts-plain ok plain used x f c e h p =
    let k = rows_used_of x - 1 in
    plain-rows ok plain (map (unpack_row used x.names) (tens k (drop 10 x.rows))) (ap is_plain (sym (rw (← e) (names-taken used x k f c (rw e h)))) ∙ p)

-- so it is asked of all used names at once, or else of each text by itself
pub plain-or-each : (ok : Text → Bool) → ((s : Text) → is_plain s ≡ true → ok s ≡ true) → (used : ℕ → ℕ → ℕ) (x : Sheet) → every (few used) (tens_of x) ≡ true → covers used 0 (tens_of x) ≡ true
    → covered 0 (tens_of x) ≡ names_used_of x → names_used_of x ≤ length x.names → texts_pass ok used x ≡ is_plain (take (names_used_of x) x.names) || texts_pass ok used x
plain-or-each ok plain used x f c e h =
    bool_cases (is_plain (take (names_used_of x) x.names)) (λ p. rw p (texts-plain ok plain used x f c e h p)) (λ p. rw p)

-- the texts of rows, asked row by row
pub each-row : (ok : Text → Bool) (used : ℕ → ℕ → ℕ) (names : List ℕ) (ts : List Ten)
    → every (λ (t : Ten). every ok (unpack_row used names t).texts) ts ≡ every (λ (r : Row). every ok r.texts) (map (unpack_row used names) ts)
unfolding every
each-row ok used names [] = refl
each-row ok used names (t ∷ ts) = ap (λ (b : Bool). every ok (unpack_row used names t).texts && b) (each-row ok used names ts)
