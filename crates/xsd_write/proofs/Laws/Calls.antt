-- What the steps of a writing leave is the definition's (specs/Steps.antt; the crate `xsd_written`, specs/Call.antt). Assumes nothing.
use Rattle.std.specs.Prelude.{Option as Answered, Some, None, if◌then◌else◌}
use Prim.Native.Nat.{ℕ, ◌+◌, ◌-◌, ◌≤◌, ◌<◌}
use native.Mathlib.Omega.{arith}
use mathlib.Core.Path.{◌≡◌, refl, sym, ap, ◌∙◌}
use mathlib.Core.Bool.{Bool, true, false, ◌&&◌}
use mathlib.Core.List.{List, [], ◌∷◌, ◌++◌}
use mathlib.Core.Option.{Option, some, none}
use lib.Dec.{leb}
use lib.ListN.{length, set, drop, replicate}
use lib.Seq.{sets, sets-eq}
use borrow.Author.Tests.{le-leb, leb-true, leb-false}
use Rattle.text.specs.Text.{Text, every, between}
use Rattle.text.proofs.Laws.Tests.{bool_cases}
use Rattle.sheet.specs.Rows.{Ten, Row, ten, row, unpack_row, filled}
use Rattle.sheet.specs.Lengths.{sheet_lengths, lengths_of, good_lengths}
use Rattle.sheet.specs.Limits.{text_limit}
use Rattle.sheet.specs.Calls.{sheet, answered}
use Rattle.sheet.specs.Form.{words}
use Rattle.buffer.proofs.Laws.Middle.{drop-filled}
use Rattle.xsd_types.specs.Types.{Schema}
use Rattle.xsd_types.specs.State.{State}
use Rattle.xsd_types.specs.Good.{used_pairs}
use Rattle.xsd_types.specs.Rows.{namespace_row, items_rows}
use Rattle.xsd_types.specs.Count.{good, state_of}
use Rattle.xsd_types.specs.Back.{text0}
use Rattle.xsd_types.specs.Places.{row_at, rows_from}
use Rattle.xsd_types.proofs.Laws.Places.{rows_from-cons}
use Rattle.xsd_types.proofs.Laws.Count.{good-bare}
use Rattle.xsd_refused.proofs.Laws.Finished.{rows-one, finished-rows, rows_from-count}
use Rattle.xsd_good.proofs.Laws.Bare.{row1-bare, bare-used, good-held}
use Rattle.xsd_written.specs.Schema.{schema_text}
use Rattle.xsd_written.specs.ByRows.{schema_by_rows}
use Rattle.xsd_written.specs.Call.{Wrote, holds, unheld_from, first_unheld, text_unchanged, zeroed, text_written, unheld_or_written, write_state, write_back}
use Rattle.xsd_written.proofs.Laws.ByRows.{schema-by-rows}
use Rattle.xsd_write.specs.Puts.{Puts}
use Rattle.xsd_write.specs.Texts.{schema_rows}
use Rattle.xsd_write.specs.Steps.{wrote, unheld_of, held_or_not, finished}

-- what `fill` with zeros leaves
pub zeros_filled : (n : ℕ) {xs : List ℕ} → xs ≡ replicate n 0 → xs ≡ filled n []
unfolding filled
zeros_filled n e = let whole : n - 0 ≡ n = omega arith in rw whole e

-- ---- the text, and 23

module _ {t : Text} {o : List ℕ} {r : ℕ} {o' : List ℕ} (p : Puts t 0 o r o') where
  short : length o < r → leb (length t) (length o) ≡ false
  short h =
      bool_cases (leb (length t) (length o))
      (λ k. let fit : 0 + length t ≤ length o = omega (arith, leb-true (length t) (length o) k) in absurd (omega (arith, (p.fits fit).0)))
      (λ k. k)

  pub written-short : {after : List ℕ} → length o < r → after ≡ filled (length o') [] → wrote (answered 23 0) after ≡ text_written t (length o)
  unfolding text_written zeroed
  written-short h e = rw (short h) (λ i. wrote (answered 23 0) ((e ∙ ap (λ (n : ℕ). filled n []) p.kept) i))

  room : r ≤ length o → 0 + length t ≤ length o
  room h =
      bool_cases (leb (0 + length t) (length o))
      (λ k. leb-true (0 + length t) (length o) k)
      (λ k. absurd (omega (arith, p.past (leb-false (0 + length t) (length o) k))))

  over : 0 + length t ≤ length o → o ≡ filled (length o) [] → sets o 0 t ≡ filled (length o) t
  unfolding filled
  over k z =
      let n : 0 + length t ≡ length t = omega arith in
      sets-eq t o 0 k ∙ ap (λ (m : ℕ). t ++ drop m o) n ∙ ap (λ (l : List ℕ). t ++ l) (ap (drop (length t)) z ∙ drop-filled (length o) (length t) [] (omega arith))

  pub written-whole : r ≤ length o → o ≡ filled (length o) [] → wrote (answered 0 r) o' ≡ text_written t (length o)
  unfolding text_written
  written-whole h z =
      let k = room h in
      let f = p.fits k in
      let n : 0 + length t ≡ length t = omega arith in
      rw (le-leb (length t) (length o) (omega (arith, k))) (λ i. wrote (answered 0 ((f.0 ∙ n) i)) ((f.1 ∙ over k z) i))

-- ---- 12 and 22

pub finished-rootless : (root : Bool) (o : Option ℕ) (t : Text) (lent : ℕ) {after : List ℕ} → root ≡ false → after ≡ filled lent [] → wrote (answered 12 0) after ≡ finished root o t lent
unfolding finished zeroed
finished-rootless root o t lent r z = rw r (λ i. wrote (answered 12 0) (z i))

module _ (root : Bool) (o : Option ℕ) (t : Text) (lent : ℕ) (u : Answered ℕ) (r : root ≡ true) (e : unheld_of u ≡ o) where
  judged : (v : Answered ℕ) → u ≡ v → held_or_not (unheld_of v) t lent ≡ finished root o t lent
  unfolding finished
  judged v q = rw r (ap (λ (x : Option ℕ). held_or_not x t lent) (sym (ap unheld_of q) ∙ e))

  pub finished-unheld : {place : ℕ} {after : List ℕ} → u ≡ Some place → after ≡ filled lent [] → wrote (answered 22 place) after ≡ finished root o t lent
  unfolding zeroed
  finished-unheld {place} q z = (λ i. wrote (answered 22 place) (z i)) ∙ judged (Some place) q

  pub finished-held : (n : ℕ) {w : Wrote} → u ≡ None → n ≡ lent → w ≡ text_written t n → w ≡ finished root o t lent
  finished-held n q l w = w ∙ ap (text_written t) l ∙ judged None q

-- ---- the state

namespace-held : (n : Text) (rs : List Row) → unheld_from 1 (namespace_row n ∷ rs) ≡ (if holds n then unheld_from 2 rs else some 1)
unfolding unheld_from namespace_row row every
namespace-held n rs = bool_cases (holds n) (λ e. rw e) (λ e. rw e)

held-or : (o : Option ℕ) (s : Schema) (lent : ℕ) → held_or_not o (schema_text s) lent ≡ unheld_or_written o s lent
held-or none s lent = refl
held-or (some place) s lent = refl

schema-rows : (s : Schema) → schema_rows s.target_namespace (items_rows s.items) ≡ schema_text s
unfolding schema_rows schema_by_rows
schema-rows s = schema-by-rows s

finished-is : (s : State) (root : Bool) (lent : ℕ) → root ≡ s.reader.root_seen → finished root (first_unheld s.reader.schema) (schema_text s.reader.schema) lent ≡ write_state s lent
unfolding finished write_state
finished-is s root lent e = rw (e, held-or (first_unheld s.reader.schema) s.reader.schema lent)

-- ---- a good sheet, whose row 1 has the count of order 7 under a

-- the text of a row 1 does not hang on its a
texts-a : (names : List ℕ) (t : Ten) → t.tag ≡ 1
    → (unpack_row used_pairs names t).texts
    ≡ (unpack_row used_pairs names (record { tag = t.tag; at0 = t.at0; len0 = t.len0; at1 = t.at1; len1 = t.len1; at2 = t.at2; len2 = t.len2; a = 0; b = t.b; c = t.c })).texts
unfolding unpack_row used_pairs between
texts-a names t e = rw e

module _ (rows names : List ℕ) (n : Text) (l : 17 < length rows) (e : row_at (set rows 17 0) names 1 ≡ namespace_row n) where
  row1-tag : (ten (drop 10 rows)).tag ≡ 1
  unfolding row_at unpack_row namespace_row row
  row1-tag = ap (λ (t : Ten). t.tag) (row1-bare rows (ten (drop 10 rows)) l refl) ∙ ap (λ (r : Row). r.tag) e

  row1-texts : (row_at rows names 1).texts ≡ n ∷ []
  unfolding row_at namespace_row row
  row1-texts =
      texts-a names (ten (drop 10 rows)) row1-tag ∙ ap (λ (t : Ten). (unpack_row used_pairs names t).texts) (row1-bare rows (ten (drop 10 rows)) l refl)
      ∙ ap (λ (r : Row). r.texts) e

unheld-texts : (r : Row) (n : Text) (rs : List Row) → r.texts ≡ n ∷ [] → unheld_from 1 (r ∷ rs) ≡ unheld_from 1 (namespace_row n ∷ rs)
unfolding unheld_from namespace_row row
unheld-texts r n rs e = rw e

text-there : (r : Row) (n : Text) → r.texts ≡ n ∷ [] → text0 r ≡ n
unfolding text0
text-there r n e = rw e

module _ (s : State) (rows names : List ℕ) (end : ℕ) (f : rows_from rows names 2 end ≡ items_rows s.reader.schema.items)
    (n : (row_at rows names 1).texts ≡ s.reader.schema.target_namespace ∷ []) (l : 2 ≤ end) where
  unheld-is : unheld_from 1 (rows_from rows names 1 end) ≡ first_unheld s.reader.schema
  unfolding first_unheld
  unheld-is =
      let one : 1 < end = omega (arith, l) in
      ap (unheld_from 1) (rows_from-cons rows names 1 end one) ∙ unheld-texts (row_at rows names 1) s.reader.schema.target_namespace (rows_from rows names 2 end) n
      ∙ rw f (namespace-held s.reader.schema.target_namespace (items_rows s.reader.schema.items))

  text-is : schema_rows (text0 (row_at rows names 1)) (rows_from rows names 2 end) ≡ schema_text s.reader.schema
  text-is = rw (text-there (row_at rows names 1) s.reader.schema.target_namespace n, f) (schema-rows s.reader.schema)

  finished-state : (root : Bool) (lent : ℕ) → root ≡ s.reader.root_seen
      → finished root (unheld_from 1 (rows_from rows names 1 end)) (schema_rows (text0 (row_at rows names 1)) (rows_from rows names 2 end)) lent ≡ write_state s lent
  finished-state root lent q = rw (unheld-is, text-is) (finished-is s root lent q)

module _ (rows names : List ℕ) (g : good (sheet rows names) ≡ true) (w : words rows ≡ true) where
  pub good-written : {end : ℕ} → end ≡ 2 + length (items_rows (state_of (sheet rows names)).reader.schema.items) → (root : Bool) (lent : ℕ) → root ≡ (state_of (sheet rows names)).reader.root_seen
      → finished root (unheld_from 1 (rows_from rows names 1 end)) (schema_rows (text0 (row_at rows names 1)) (rows_from rows names 2 end)) lent
      ≡ write_state (state_of (sheet rows names)) lent
  good-written {end} e root lent q =
      let s = state_of (sheet rows names) in
      let held = good-held rows names g w in
      let used = bare-used rows names (good-bare (sheet rows names) g) in
      let there = row1-texts rows names s.reader.schema.target_namespace (omega (arith, used.0)) (rows-one s held.packs held.proper) in
      finished-state s rows names end (sym (rows_from-count rows names 0 2 end (omega arith)) ∙ finished-rows s held.packs held.proper e) there (omega (arith, e)) root lent q

-- ---- 1 and 2

abbrev pub write_lengths : List ℕ → List ℕ → List ℕ → Bool
write_lengths rows names text = sheet_lengths (length rows) (length names) && leb (length text) text_limit

module _ (rows names text : List ℕ) where
  pub write-one : write_lengths rows names text ≡ false → wrote (answered 1 0) text ≡ write_back (sheet rows names) text
  unfolding write_back text_unchanged good_lengths lengths_of
  write-one f = rw f

  pub write_two : write_lengths rows names text ≡ true → good (sheet rows names) ≡ false → wrote (answered 2 0) text ≡ write_back (sheet rows names) text
  unfolding write_back text_unchanged good_lengths lengths_of
  write_two t f = rw (t, f)

  pub write-through : {w : Wrote} → write_lengths rows names text ≡ true → good (sheet rows names) ≡ true → w ≡ write_state (state_of (sheet rows names)) (length text)
      → w ≡ write_back (sheet rows names) text
  unfolding write_back good_lengths lengths_of
  write-through t g e = rw (t, g) e
