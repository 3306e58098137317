-- Laws of specs/Call.antt: the calls by their lengths, and that each undoes the other within the limits. No contract cites them. Assumes nothing.
--     Tall          a length of whole rows, one at least and 4,096 at most
use Rattle.std.proofs.Common.{◌≡◌, ℕ, ◌*◌, ◌/◌, ◌%◌, ◌^◌, ◌<◌, ◌≤◌, true, false, eqb, ltb, leb, List, length, get_or, refl, arith, ltb-true, eqb-true, leb-true}
use Rattle.std.proofs.lemmas.Bool.{and_parts}
use Rattle.text.proofs.Laws.Tests.{four}
use Rattle.text.proofs.Laws.Every.{every-get_d}
use Rattle.sheet.specs.Form.{words}
use Rattle.sheet.specs.Lengths.{sheet_lengths}
use Rattle.columns.specs.Columns.{modulus, columns_of, rows_of_columns}
use Rattle.columns.specs.Call.{same_lengths, Turned, turned}
use Rattle.columns.specs.Filled.{Sized}
use Rattle.columns.proofs.Laws.Inverse.{rows-restored, columns-restored}

pub record Tall (n : ℕ) : Type 0 where
  pub tens : n ≡ 10 * (n / 10)
  pub some : 0 < n / 10
  pub few : n / 10 ≤ 4096

-- a length within the limits is of two rows to 4,096
pub lengths-tall : (n : ℕ) → sheet_lengths n 0 ≡ true → Tall n
unfolding sheet_lengths
lengths-tall n e =
    let parts = four (eqb (n % 10) 0) (leb 20 n) (leb n 40960) (leb 0 65536) e in
    let whole = eqb-true (n % 10) 0 parts.0 in
    let least = leb-true 20 n parts.1 in
    let most = leb-true n 40960 parts.2 in
    record { tens = omega arith; some = omega arith; few = omega arith }

pub lengths-sized : (source target : List ℕ) → same_lengths (length source) (length target) ≡ true → Sized source target (length source / 10)
unfolding same_lengths
lengths-sized source target e =
    let parts = and_parts (sheet_lengths (length source) 0) (eqb (length source) (length target)) e in
    let tall = lengths-tall (length source) parts.0 in
    let same = eqb-true (length source) (length target) parts.1 in
    record { source_long = tall.tens; target_long = omega (arith, tall.tens); few = tall.few }

pub turned-not : (f : List ℕ → List ℕ) (source target : List ℕ) → same_lengths (length source) (length target) ≡ false
    → ◌≡◌ {A = Turned} (record { number = 1; place = 0; target = target }) (turned f source target)
unfolding turned
turned-not f source target e = rw e

pub turned-to : (f : List ℕ → List ℕ) (source target after : List ℕ) → same_lengths (length source) (length target) ≡ true → after ≡ f source
    → ◌≡◌ {A = Turned} (record { number = 0; place = 0; target = after }) (turned f source target)
unfolding turned
turned-to f source target after e g = rw (e, g)

small : (xs : List ℕ) → words xs ≡ true → (k : ℕ) → get_or xs k 0 < modulus
small xs e k = ltb-true (get_or xs k 0) (2 ^ 32) (every-get_d (λ (n : ℕ). ltb n (2 ^ 32)) 0 refl xs k e)

pub rows_back : (rows : List ℕ) → words rows ≡ true → sheet_lengths (length rows) 0 ≡ true → rows_of_columns (columns_of rows) ≡ rows
rows_back rows w e = rows-restored rows (lengths-tall (length rows) e).tens (small rows w)

pub columns-back : (columns : List ℕ) → words columns ≡ true → sheet_lengths (length columns) 0 ≡ true → columns_of (rows_of_columns columns) ≡ columns
columns-back columns w e =
    let tall = lengths-tall (length columns) e in
    columns-restored columns tall.tens tall.some (small columns w)
