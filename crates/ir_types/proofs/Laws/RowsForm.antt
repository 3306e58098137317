-- The form of a graph sheet speaks of its rows with their texts, and not of where the texts stand in the names: what is read from a sheet in the form are rows that
-- are allowed, and the sheet of rows that are allowed, where it has room for them, is in the form. Assumes nothing.
use Prim.Native.Nat.{ℕ, ◌+◌, ◌-◌, ◌*◌, ◌≤◌}
use mathlib.Core.Path.{◌≡◌, refl, ap, ◌∙◌}
use mathlib.Core.Bool.{Bool, true}
use mathlib.Core.List.{List, [], ◌∷◌, map}
use native.Mathlib.Omega.{arith}
use lib.Dec.{leb}
use lib.ListN.{length, take}
use borrow.Author.Tests.{leb-true, le-leb, eq-eqb}
use Rattle.text.specs.Text.{every, is_graph_text, between, join}
use Rattle.std.proofs.lemmas.Bool.{and_parts}
use Rattle.text.proofs.Laws.Tests.{and-true}
use Rattle.text.proofs.Laws.Every.{every-head, every-tail, every_map}
use Rattle.sheet.specs.Rows.{Ten, Row, Sheet, numbers, pack_row, pack, names_of, unpack_row, sheet_of_rows}
use Rattle.sheet.specs.Form.{row0_of, tens_of, used_parts, zeros_behind, texts_pass, texts_counted}
use Rattle.sheet.specs.Lengths.{fits}
use Rattle.sheet.proofs.Laws.Numbers.{take-filled}
use Rattle.sheet.proofs.Laws.Packs.{covers-pack, covered-pack}
use Rattle.sheet.proofs.Laws.Unpacks.{few, counted-unpack}
use Rattle.sheet.proofs.Laws.Sheets.{first-ten, tens-behind, numbers-used, length-rows, length-names, zeros-rows, zeros-names, used-names, rows-read}
use Rattle.ir_types.specs.Row0.{GraphRow0, graph_row0_of, graph_row0_ten, graph_row0_in}
use Rattle.ir_types.specs.Form.{used_pairs, is_type_tag, ten_form, in_order, count, tags_of, row0_form, rows_form, names_form, graph_form}
use Rattle.ir_types.specs.Ok.{row_form}
use Rattle.ir_types.proofs.Laws.GraphOrder.{tag_of, is_root, tags-packed}
use Rattle.ir_types.proofs.Laws.FormParts.{Parts, parts, Behind, behind, few-behind}

unfoldable pub text_row : Row → Bool
text_row r = every is_graph_text r.texts

-- row 1 and the rows behind it, as the form allows them
pub record Allowed (rs : List Row) : Type 0 where
  pub first : Row
  pub rest : List Row
  pub made : rs ≡ first ∷ rest
  pub tag_is : first.tag ≡ 1
  pub a_is : first.a ≡ 0
  pub b_is : first.b ≡ 0
  pub c_is : first.c ≡ 0
  pub formed : every row_form rest ≡ true
  pub ordered : in_order 1 (map tag_of rest) ≡ true
  pub uses : every (texts_counted used_pairs) rs ≡ true
  pub texts : every text_row rs ≡ true

-- row 0 of rows, and their sheet
abbrev pub row0_for : List Row → GraphRow0
row0_for rs = graph_row0_of (1 + length rs) (length (names_of rs)) (count is_root (map tag_of rs)) (count is_type_tag (map tag_of rs))

abbrev pub rows_sheet : List Row → ℕ → ℕ → Sheet
rows_sheet rs r n = sheet_of_rows (graph_row0_ten (row0_for rs)) rs r n

-- ---- the sheet of rows
tens-form : (k : ℕ) (rs : List Row) → every row_form rs ≡ true → every ten_form (pack k rs) ≡ true
unfolding every pack ten_form pack_row row_form
tens-form k [] h = refl
tens-form k (q ∷ rs) h = and-true (every-head row_form q rs h) (tens-form (k + length (join q.texts)) rs (every-tail row_form q rs h))

rows-form-of : (n : Row) (rs : List Row) → n.tag ≡ 1 → n.a ≡ 0 → n.b ≡ 0 → n.c ≡ 0 → every row_form rs ≡ true → in_order 1 (map tag_of rs) ≡ true
    → rows_form (row0_for (n ∷ rs)) (pack 0 (n ∷ rs)) ≡ true
unfolding rows_form pack pack_row count is_type_tag between
rows-form-of n rs e a b c f o =
    rw (e, a, b, c, tags-packed (0 + length (join n.texts)) rs, tens-form (0 + length (join n.texts)) rs f, o)
    (and-true (eq-eqb (count is_root (map tag_of rs)) _ refl) (eq-eqb (count is_type_tag (map tag_of rs)) _ refl))

module _ (rs : List Row) (r n : ℕ) where
  pub rows-row0 : row0_of (rows_sheet rs r n) ≡ graph_row0_ten (row0_for rs)
  unfolding row0_of
  rows-row0 = first-ten (graph_row0_ten (row0_for rs)) rs r n

  pub rows-tens : tens_of (rows_sheet rs r n) ≡ pack 0 rs
  unfolding tens_of
  rows-tens =
      let e : (1 + length rs) - 1 ≡ length rs = omega arith in
      rw (rows-row0, e) (tens-behind (graph_row0_ten (row0_for rs)) rs r n)

  pub rows-back : every (texts_counted used_pairs) rs ≡ true → map (unpack_row used_pairs (rows_sheet rs r n).names) (tens_of (rows_sheet rs r n)) ≡ rs
  rows-back h = rw rows-tens (rows-read (graph_row0_ten (row0_for rs)) rs r n used_pairs h)

  pub rows-used : take (10 * (1 + length rs)) (rows_sheet rs r n).rows ≡ numbers (graph_row0_ten (row0_for rs) ∷ pack 0 rs)
  unfolding sheet_of_rows
  rows-used = rw (← numbers-used (graph_row0_ten (row0_for rs)) rs r n) (take-filled r (numbers (graph_row0_ten (row0_for rs) ∷ pack 0 rs)))

  pub names-used : take (length (names_of rs)) (rows_sheet rs r n).names ≡ names_of rs
  names-used = used-names (graph_row0_ten (row0_for rs)) rs r n

  module _ (room : fits (1 + length rs) (length (names_of rs)) r n ≡ true) where
    pub sizes : (10 * (1 + length rs) ≤ r) × (length (names_of rs) ≤ n)
    unfolding fits
    sizes =
        let w = and_parts (leb (10 * (1 + length rs)) r) (leb (length (names_of rs)) n) room in
        (leb-true (10 * (1 + length rs)) r w.0, leb-true (length (names_of rs)) n w.1)

    pub rows-length : length (rows_sheet rs r n).rows ≡ r
    rows-length = length-rows (graph_row0_ten (row0_for rs)) rs r n sizes.0

    pub names-length : length (rows_sheet rs r n).names ≡ n
    names-length = length-names (graph_row0_ten (row0_for rs)) rs r n sizes.1

    module _ (w : Allowed rs) where
      used-parts : used_parts (rows_sheet rs r n) ≡ true
      unfolding used_parts
      used-parts =
          let some : 1 ≤ length rs = omega (arith, ap length w.made) in
          rw (rows-row0, rows-length, names-length) (and-true (le-leb 2 (1 + length rs) (omega arith)) room)

      zeros-behind : zeros_behind (rows_sheet rs r n) ≡ true
      unfolding zeros_behind
      zeros-behind = rw rows-row0 (and-true (zeros-rows (graph_row0_ten (row0_for rs)) rs r n) (zeros-names (graph_row0_ten (row0_for rs)) rs r n))

      behind-row0 : rows_form (row0_for rs) (pack 0 rs) ≡ true
      behind-row0 = rw w.made (rows-form-of w.first w.rest w.tag_is w.a_is w.b_is w.c_is w.formed w.ordered)

      names-form : names_form (length (names_of rs)) (pack 0 rs) ≡ true
      unfolding names_form
      names-form = and-true (covers-pack used_pairs 0 rs w.uses) (eq-eqb _ _ (covered-pack used_pairs 0 rs w.uses ∙ omega arith))

      names-text : texts_pass is_graph_text used_pairs (rows_sheet rs r n) ≡ true
      unfolding texts_pass text_row
      names-text = ap (every text_row) (rows-back w.uses) ∙ w.texts

      pub rows-form : graph_form (rows_sheet rs r n) ≡ true
      unfolding graph_form row0_form
      rows-form = rw (used-parts, zeros-behind, rows-row0, rows-tens, behind-row0, names-form, names-text)

-- ---- the rows of a sheet
abbrev pub rows_read : Sheet → List Row
rows_read x = map (unpack_row used_pairs x.names) (tens_of x)

tags-read : (names : List ℕ) (ts : List Ten) → map tag_of (map (unpack_row used_pairs names) ts) ≡ tags_of ts
unfolding tags_of unpack_row
tags-read names [] = refl
tags-read names (t ∷ ts) = ap (λ (l : List ℕ). t.tag ∷ l) (tags-read names ts)

row-formed : (names : List ℕ) (t : Ten) → ten_form t ≡ true → row_form (unpack_row used_pairs names t) ≡ true
unfolding ten_form row_form unpack_row
row-formed names t h = h

module _ (x : Sheet) (p : Parts x) (b : Behind (tens_of x)) where
  few-pairs : every (few used_pairs) (tens_of x) ≡ true
  few-pairs = few-behind (tens_of x) b

  allowed-of : Allowed (rows_read x)
  unfolding unpack_row texts_pass text_row
  allowed-of =
      record {
        first = unpack_row used_pairs x.names b.first;
        rest = map (unpack_row used_pairs x.names) b.body;
        made = ap (map (unpack_row used_pairs x.names)) b.same;
        tag_is = b.tag_is;
        a_is = b.a_is;
        b_is = b.b_is;
        c_is = b.c_is;
        formed = every_map ten_form row_form (unpack_row used_pairs x.names) (row-formed x.names) b.body b.formed;
        ordered = rw (tags-read x.names b.body) b.ordered;
        uses = every_map (few used_pairs) (texts_counted used_pairs) (unpack_row used_pairs x.names) (counted-unpack used_pairs x.names) (tens_of x) few-pairs;
        texts = p.text;
      }

pub rows-allowed : (x : Sheet) → graph_form x ≡ true → Allowed (rows_read x)
rows-allowed x h = let p = parts x h in allowed-of x p (behind (graph_row0_in x) (tens_of x) p.rows)
