-- The rows of a good sheet are those of a proper state. Assumes nothing.
use mathlib.Core.Path.{◌≡◌, refl, sym, ap, ◌∙◌}
use mathlib.Core.Bool.{Bool, true, ◌&&◌}
use mathlib.Core.List.{List, [], ◌∷◌, ◌++◌, map}
use Prim.Native.Nat.{ℕ, ◌+◌, ◌-◌, ◌*◌, ◌^◌}
use native.Mathlib.Omega.{arith}
use lib.Dec.{eqb, ltb}
use lib.ListN.{length, take, drop, length-map}
use Rattle.text.specs.Text.{Text, every, between}
use Rattle.sheet.specs.Rows.{Ten, Row, Sheet, row, names_of, text_at, unpack_row, sheet_of_rows}
use Rattle.sheet.specs.Form.{texts_counted, row0_of, rows_used_of, names_used_of, tens_of, texts_pass, words}
use Rattle.sheet.proofs.Laws.Numbers.{every-tens, length-tens}
use Rattle.sheet.proofs.Laws.Unpacks.{few, counted-unpack}
use Rattle.sheet.proofs.Laws.Sheets.{length-read, sheet-read}
use Rattle.xsd_types.specs.Rows.{namespace_row, namespace_a, items_rows}
use Rattle.xsd_types.specs.Row0.{row0_in}
use Rattle.xsd_types.specs.Good.{used_pairs, is_child, in_order, is_head, head_after, last_head, ten_form, names_test, extension_test, head_of}
use Rattle.xsd_types.specs.Back.{rows_in}
use Rattle.xsd_types.proofs.Laws.Order.{tags}
use Rattle.xsd_types.proofs.Laws.Sound.{formed_row, text_row, sound_row}
use Rattle.xsd_types.proofs.Laws.Rows.{word_row}
use Rattle.xsd_types.proofs.Laws.Heads.{full_row, no-loose}
use Rattle.xsd_types.proofs.Laws.Events.{event_row, events-unpack}
use Rattle.xsd_types.proofs.Laws.Parse.{parse, still_rows}
use Rattle.xsd_types.proofs.Laws.Open.{Opened, opened}
use Rattle.xsd_types.proofs.Laws.Parts.{Parts, behind, few-rows, pairs-cover, names-end, zero-rows, zero-names, first_of}
use Rattle.xsd_types.proofs.Laws.Row0.{nesting-both}
use Rattle.text.proofs.Laws.Tests.{and-true}
use Rattle.text.proofs.Laws.Every.{every_map, every-both, every-tail, every_drop}
use Rattle.sheet.proofs.Laws.Formed.{used-two, used-rows, used-names}

-- reading keeps the tags
pub tags-unpack : (names : List ℕ) (ts : List Ten) → tags (map (unpack_row used_pairs names) ts) ≡ map (λ (t : Ten). t.tag) ts
unfolding unpack_row
tags-unpack names [] = refl
tags-unpack names (t ∷ ts) = ap (λ (l : List ℕ). t.tag ∷ l) (tags-unpack names ts)

-- row 1 is the namespace's row
pub used-one : (a : ℕ) → used_pairs 1 a ≡ 1
unfolding used_pairs between
used-one a = refl

pub namespace-read : (names : List ℕ) (t : Ten) → t.tag ≡ 1 → t.a ≡ 0 → t.b ≡ 0 → t.c ≡ 0 → unpack_row used_pairs names t ≡ namespace_row (text_at names t.at0 t.len0)
unfolding unpack_row namespace_row namespace_a row
namespace-read names t e a b c =
    let u : used_pairs t.tag t.a ≡ 1 = rw e (used-one t.a) in
    let one : take (used_pairs t.tag t.a) (text_at names t.at0 t.len0 ∷ text_at names t.at1 t.len1 ∷ text_at names t.at2 t.len2 ∷ [])
    ≡ text_at names t.at0 t.len0 ∷ [] = rw u in
    λ i. record { tag = e i; texts = one i; a = a i; b = b i; c = c i }

module _ (x : Sheet) (p : Parts x) where
  pub few-pairs : every (few used_pairs) (tens_of x) ≡ true
  few-pairs = few-rows (tens_of x) p.rows

  pub names-length : length (names_of (rows_in x)) ≡ names_used_of x
  unfolding rows_in tens_of
  names-length = length-read used_pairs x (rows_used_of x - 1) few-pairs (pairs-cover x p) (rw (names-end x p) (used-names x p.parts)) ∙ names-end x p

  pub names-text : every text_row (rows_in x) ≡ true
  unfolding names_test texts_pass rows_in text_row
  names-text = p.text

  pub sheet-again : sheet_of_rows (row0_of x) (rows_in x) (length x.rows) (length x.names) ≡ x
  unfolding rows_in tens_of row0_of
  sheet-again =
      let all : 10 * (1 + (rows_used_of x - 1)) ≡ 10 * rows_used_of x = omega (arith, used-two x p.parts) in
      sheet-read used_pairs x (rows_used_of x - 1) few-pairs (pairs-cover x p) (rw all (used-rows x p.parts)) (rw (names-end x p) (used-names x p.parts)) (rw all (zero-rows x p))
      (rw (names-end x p) (zero-names x p))

  pub rows-length : 1 + length (rows_in x) ≡ rows_used_of x
  unfolding rows_in tens_of
  rows-length = rw (length-map (tens_of x) (unpack_row used_pairs x.names), length-tens (rows_used_of x - 1) (drop 10 x.rows)) (omega (arith, used-two x p.parts))

  pub words-rows : words x.rows ≡ true → every word_row (rows_in x) ≡ true
  unfolding rows_in tens_of word_row unpack_row
  words-rows w = every_map (λ (t : Ten). ltb t.a (2 ^ 32) && ltb t.b (2 ^ 32)) word_row (unpack_row used_pairs x.names) (λ t e. e) (tens_of x)
      (every-tens (λ (n : ℕ). ltb n (2 ^ 32)) refl (rows_used_of x - 1) (drop 10 x.rows) (every_drop (λ (n : ℕ). ltb n (2 ^ 32)) 10 x.rows w))

  pub counted-read : every (texts_counted used_pairs) (rows_in x) ≡ true
  unfolding rows_in
  counted-read = every_map (few used_pairs) (texts_counted used_pairs) (unpack_row used_pairs x.names) (counted-unpack used_pairs x.names) (tens_of x) few-pairs

-- row 1 and the rows behind it, with their texts
unfoldable pub body_in : (x : Sheet) → Parts x → List Row
body_in x p = map (unpack_row used_pairs x.names) (behind (tens_of x) p.rows).body

unfoldable pub namespace_at : (x : Sheet) → Parts x → Text
namespace_at x p = text_at x.names (behind (tens_of x) p.rows).first.at0 (behind (tens_of x) p.rows).first.len0

module _ (x : Sheet) (p : Parts x) where
  pub rows_split : rows_in x ≡ namespace_row (namespace_at x p) ∷ body_in x p
  unfolding rows_in body_in namespace_at
  rows_split =
      let b = behind (tens_of x) p.rows in
      ap (map (unpack_row used_pairs x.names)) b.same ∙ ap (λ (r : Row). r ∷ body_in x p) (namespace-read x.names b.first b.tag_is b.a_is b.b_is b.c_is)

  pub body-every : (q : Row → Bool) → every q (rows_in x) ≡ true → every q (body_in x p) ≡ true
  body-every q e = every-tail q (namespace_row (namespace_at x p)) (body_in x p) (rw rows_split at e)

  pub body-formed : every formed_row (body_in x p) ≡ true
  unfolding body_in formed_row ten_form unpack_row
  body-formed = every_map ten_form formed_row (unpack_row used_pairs x.names) (λ t e. e) (behind (tens_of x) p.rows).body (behind (tens_of x) p.rows).formed

  pub body-full : words x.rows ≡ true → every full_row (body_in x p) ≡ true
  unfolding full_row sound_row
  body-full w =
      let two = every-both formed_row (texts_counted used_pairs) (λ (r : Row). formed_row r && texts_counted used_pairs r) (λ r e f. and-true e f) (body_in x p) body-formed
      (body-every (texts_counted used_pairs) (counted-read x p)) in
      let three = every-both (λ (r : Row). formed_row r && texts_counted used_pairs r) text_row sound_row (λ r e f. and-true e f) (body_in x p) two (body-every text_row (names-text x p)) in
      every-both sound_row word_row full_row (λ r e f. and-true e f) (body_in x p) three (body-every word_row (words-rows x p w))

  pub body-numbered : every (event_row (row0_in x).events) (body_in x p) ≡ true
  unfolding rows_in
  body-numbered = body-every (event_row (row0_in x).events) (events-unpack (row0_in x).events x.names (tens_of x) p.events)

  pub body-order : in_order 1 (tags (body_in x p)) ≡ true
  unfolding body_in
  body-order = rw (tags-unpack x.names (behind (tens_of x) p.rows).body) (behind (tens_of x) p.rows).ordered

  pub body-head : head_of (tens_of x) ≡ last_head 0 (tags (body_in x p))
  unfolding head_of rows_in last_head head_after is_head between namespace_row row
  body-head = ap (last_head 0) (sym (tags-unpack x.names (tens_of x))) ∙ ap (λ (rs : List Row). last_head 0 (tags rs)) rows_split

  pub body-opened : words x.rows ≡ true → Opened (eqb (row0_in x).choice 1) (row0_in x).context (row0_in x).nesting (row0_in x).open_tags (row0_in x).extension (body_in x p)
  unfolding extension_test is_child
  body-opened w =
      let z = row0_in x in
      let q = parse 1 (body_in x p) (body-full w) body-order in
      let f = first_of z p.row0 in
      let same : body_in x p ≡ items_rows q.items ++ still_rows q.event q.still = q.same
      ∙ ap (λ (l : List Row). l ++ (items_rows q.items ++ still_rows q.event q.still)) (no-loose 1 (λ n. refl) q.loose q.loose_ok) in
      opened (eqb z.choice 1) z.nesting z.open_tags z.extension (body_in x p) q.items q.items_ok q.event q.still q.still_ok same f.flag_is
      z.context f.context_is (sym (nesting-both z) ∙ p.nest) (rw body-head at p.context) (rw body-head at p.extension)
