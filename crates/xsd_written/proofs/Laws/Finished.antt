-- Two good sheets with the same finished rows are the same up to there, number by number and byte by byte, event numbers aside: what a row's numbers are is said by its
-- texts and those before it (specs/Round.antt, SameNumbers). Assumes nothing.
use Prim.Native.Nat.{ℕ, ◌+◌, ◌≤◌}
use native.Mathlib.Omega.{arith}
use mathlib.Core.Path.{◌≡◌, refl, sym, ap, ◌∙◌}
use mathlib.Core.Bool.{true}
use mathlib.Core.List.{List, [], ◌∷◌, ◌++◌, map}
use lib.ListN.{length, length-append, take}
use lib.Seq.{take_at, take-take}
use Rattle.text.specs.Text.{Text, join}
use Rattle.sheet.specs.Rows.{Ten, Row, row, pack_row, pack, names_of, Sheet}
use Rattle.sheet.specs.Form.{words, row0_of, names_used_of, tens_of}
use Rattle.sheet.proofs.Laws.Packs.{length-pack, pack-append, names_of-append}
use Rattle.sheet.proofs.Laws.Sheets.{used-names}
use Rattle.xsd_types.specs.Rows.{context_rows, rows_of}
use Rattle.xsd_types.specs.Types.{Item, Schema}
use Rattle.xsd_types.specs.Good.{bare_good}
use Rattle.xsd_types.specs.Back.{rows_in, bare_state_of}
use Rattle.xsd_types.specs.Refused.{refused_item, refused_base}
use Rattle.xsd_types.specs.Count.{refused_types, bare, good, state_of}
use Rattle.xsd_types.specs.Unnumbered.{cleared_row, unnumbered_item, unnumbered_schema}
use Rattle.xsd_types.proofs.Laws.Parts.{parts-of}
use Rattle.xsd_types.proofs.Laws.Read.{names-length, sheet-again}
use Rattle.xsd_types.proofs.Laws.SheetOf.{tens-made, rows_made}
use Rattle.xsd_types.proofs.Laws.StateOf.{bare_sheet_of-bare_state_of, proper-bare_state_of}
use Rattle.xsd_types.proofs.Laws.Count.{bare-words, good-bare, good-count}
use Rattle.xsd_written.specs.Round.{cleared_ten, finished_of, SameFinished, SameNumbers}

-- ---- rows without their numbers

pub pack-cleared : (k : ℕ) (rs : List Row) → map cleared_ten (pack k rs) ≡ pack k (map cleared_row rs)
unfolding pack pack_row cleared_ten cleared_row row
pack-cleared k [] = refl
pack-cleared k (r ∷ rs) = ap (λ (ts : List Ten). pack_row k (cleared_row r) ∷ ts) (pack-cleared (k + length (join r.texts)) rs)

names-cleared : (rs : List Row) → names_of (map cleared_row rs) ≡ names_of rs
unfolding names_of cleared_row row
names-cleared [] = refl
names-cleared (r ∷ rs) = ap (λ (u : Text). join r.texts ++ u) (names-cleared rs)

length-cleared : (rs : List Row) → length (map cleared_row rs) ≡ length rs
length-cleared [] = refl
length-cleared (r ∷ rs) = rw (length-cleared rs)

-- ---- a good sheet by its rows

names-used : (x : Sheet) → bare_good x ≡ true → take (names_used_of x) x.names ≡ names_of (rows_in x)
names-used x g =
    let p = parts-of x g in
    ap (λ (n : ℕ). take n x.names) (sym (names-length x p)) ∙ ap (λ (y : Sheet). take (length (names_of (rows_in x))) y.names) (sym (sheet-again x p))
    ∙ used-names (row0_of x) (rows_in x) (length x.rows) (length x.names)

module _ (x : Sheet) (w : words x.rows ≡ true) (g : bare_good x ≡ true) where
  rows-of : rows_in x ≡ rows_of (bare_state_of x)
  rows-of = ap rows_in (sym (bare_sheet_of-bare_state_of x w g)) ∙ rows_made (bare_state_of x) (length x.rows) (length x.names) (proper-bare_state_of x w g)

  tens-of : tens_of x ≡ pack 0 (rows_in x)
  tens-of = ap tens_of (sym (bare_sheet_of-bare_state_of x w g)) ∙ tens-made (bare_state_of x) (length x.rows) (length x.names) ∙ ap (pack 0) (sym rows-of)

-- ---- two sheets without their counts

module _ (x y : Sheet) (wx : words x.rows ≡ true) (wy : words y.rows ≡ true) (gx : bare_good x ≡ true) (gy : bare_good y ≡ true)
    (same : map cleared_row (rows_of (bare_state_of x)) ≡ map cleared_row (rows_of (bare_state_of y)) ++ map cleared_row (context_rows (bare_state_of x).reader.context))
  where
    abbrev rows : List Row
    rows = map cleared_row (rows_in y)

    abbrev open_rows : List Row
    open_rows = map cleared_row (context_rows (bare_state_of x).reader.context)

    rows_whole : map cleared_row (rows_in x) ≡ rows ++ open_rows
    rows_whole = rw (rows-of x wx gx, rows-of y wy gy) same

    same_numbers : take (length (tens_of y)) (map cleared_ten (tens_of x)) ≡ map cleared_ten (tens_of y)
    same_numbers =
        let made = tens-of y wy gy in
        let n : length (pack 0 rows) ≡ length (tens_of y) = length-pack 0 rows ∙ length-cleared (rows_in y) ∙ sym (ap length made ∙ length-pack 0 (rows_in y)) in
        let whole : map cleared_ten (tens_of x) ≡ pack 0 rows ++ pack (0 + length (names_of rows)) open_rows =
        ap (map cleared_ten) (tens-of x wx gx) ∙ pack-cleared 0 (rows_in x) ∙ ap (pack 0) rows_whole ∙ pack-append 0 rows open_rows in
        ap (take (length (tens_of y))) whole ∙ take_at (pack 0 rows) _ (length (tens_of y)) n ∙ sym (ap (map cleared_ten) made ∙ pack-cleared 0 (rows_in y))

    names-whole : names_of (rows_in x) ≡ names_of (rows_in y) ++ names_of open_rows
    names-whole = sym (names-cleared (rows_in x)) ∙ ap names_of rows_whole ∙ names_of-append rows open_rows ∙ ap (λ (u : Text). u ++ names_of open_rows) (names-cleared (rows_in y))

    same_names : take (names_used_of y) x.names ≡ take (names_used_of y) y.names
    same_names =
        let u = names-length x (parts-of x gx) in
        let v = names-length y (parts-of y gy) in
        let few : names_used_of y ≤ names_used_of x = omega (arith, ap length names-whole, length-append (names_of (rows_in y)) (names_of open_rows)) in
        sym (take-take (names_used_of y) (names_used_of x) x.names few) ∙ ap (take (names_used_of y)) (names-used x gx ∙ names-whole)
        ∙ take_at (names_of (rows_in y)) (names_of open_rows) (names_used_of y) v ∙ sym (names-used y gy)

-- ---- two sheets with their counts

-- the count does not look at numbers of events
refused-unnumbered : (is : List Item) → refused_types (map unnumbered_item is) ≡ refused_types is
unfolding refused_types refused_item refused_base unnumbered_item
refused-unnumbered [] = refl
refused-unnumbered (Item.element e ∷ is) = refused-unnumbered is
refused-unnumbered (Item.simple_type t ∷ is) = rw (refused-unnumbered is)
refused-unnumbered (Item.complex_type t ∷ is) = refused-unnumbered is

pub finished-numbers : (x y : Sheet) → words x.rows ≡ true → words y.rows ≡ true → good x ≡ true → good y ≡ true → SameFinished x y → SameNumbers x y
unfolding state_of finished_of unnumbered_schema
finished-numbers x y wx wy gx gy same =
    record {
      count =
          good-count x gx ∙ sym (refused-unnumbered (state_of x).reader.schema.items) ∙ ap (λ (s : Schema). refused_types s.items) same.schema
          ∙ refused-unnumbered (state_of y).reader.schema.items ∙ sym (good-count y gy);
      numbers = same_numbers (bare x) (bare y) (bare-words x wx) (bare-words y wy) (good-bare x gx) (good-bare y gy) same.rows;
      names = same_names (bare x) (bare y) (bare-words x wx) (bare-words y wy) (good-bare x gx) (good-bare y gy) same.rows;
    }
