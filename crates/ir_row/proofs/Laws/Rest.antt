-- What lowering makes of a row that has no recipe: nothing, or a count's row. By the tests of the tag, one after the other. Assumes nothing.
use Rattle.std.specs.Prelude.{if◌then◌else◌}
use Prim.Native.Nat.{ℕ, ◌*◌, ◌/◌, ◌%◌, ◌^◌}
use mathlib.Core.Path.{◌≡◌, refl, sym, ap, ◌∙◌}
use mathlib.Core.Logic.{◌⊎◌, inl, inr, ⊎_elim}
use mathlib.Core.List.{List, [], ◌∷◌}
use mathlib.Core.Bool.{Bool, true, false, false≢true}
use lib.Dec.{eqb}
use lib.ListN.{take, drop}
use borrow.Author.Tests.{ne_eqb}
use Rattle.text.specs.Text.{Text, between}
use Rattle.sheet.specs.Rows.{Row, row, ten, text_at}
use Rattle.rows.specs.declared.ten.Ten.{Ten as Numbers}
use Rattle.rows.specs.Ten.{as_ten}
use Rattle.xsd_types.specs.Places.{row_at}
use Rattle.ir_rows.specs.Lowered.{code_rows, lowered_as, lowered_row}
use Rattle.ir_row.specs.Recipes.{has_recipe, IsCount, ten_rows}
use Rattle.ir_rows.proofs.Laws.Lowered.{lowered-at}

-- the bytes under a pair are the row's text
pub text_at-read : (names : List ℕ) {at len x y : ℕ} → at ≡ x → len ≡ y → take len (drop at names) ≡ text_at names x y
unfolding text_at
text_at-read names e f = rw (e, f)

if-same : (b : Bool) → if◌then◌else◌ {A = List Row} b [] [] ≡ []
if-same true = refl
if-same false = refl

codes-or-none : (e : Bool) (tag : ℕ) (t : Text) → has_recipe e tag ≡ false → (if eqb tag 4 then code_rows e t else []) ≡ []
unfolding code_rows has_recipe between
codes-or-none true tag t h = rw (ne_eqb tag 4 (λ q. false≢true (sym h ∙ ap (has_recipe true) q)))
codes-or-none false tag t h = if-same (eqb tag 4)

pub lowered_none : (e : Bool) (tag a b c : ℕ) (t u : Text) → (IsCount tag → ⊥) → has_recipe e tag ≡ false → lowered_as e tag a b c t u ≡ []
unfolding lowered_as has_recipe between
lowered_none e tag a b c t u other h =
    let no : (k : ℕ) → has_recipe e k ≡ true → eqb tag k ≡ false = λ k p. ne_eqb tag k (λ q. false≢true (sym h ∙ ap (has_recipe e) q ∙ p)) in
    let no6 = ne_eqb tag 6 (λ q. other (inl q)) in
    let no7 = ne_eqb tag 7 (λ q. other (inr (inl q))) in
    let no10 = ne_eqb tag 10 (λ q. other (inr (inr (inl q)))) in
    let no11 = ne_eqb tag 11 (λ q. other (inr (inr (inr q)))) in
    rw (
      no 1 refl,
      no 2 refl,
      no 3 refl,
      no 5 refl,
      no6,
      no7,
      no 8 refl,
      no 9 refl,
      no10,
      no11,
      no 12 refl,
      no 13 refl,
      no 14 refl,
      no 15 refl,
      no 17 refl,
      no 18 refl,
      no 19 refl,
      no 20 refl,
    ) (codes-or-none e tag t h)

-- a tag that is none of the counts'
pub not-count : {tag : ℕ} → (tag ≡ 6 → ⊥) → (tag ≡ 7 → ⊥) → (tag ≡ 10 → ⊥) → (tag ≡ 11 → ⊥) → IsCount tag → ⊥
not-count q6 q7 q10 q11 = ⊎_elim q6 (⊎_elim q7 (⊎_elim q10 q11))

-- the row at a place, by the numbers that were read
module _ (e : Bool) (rows names : List ℕ) (place : ℕ) (t : Numbers) (read : as_ten t ≡ ten (drop (10 * place) rows)) where
  pub lowered-read : lowered_row e (row_at rows names place) ≡ ten_rows e names t
  unfolding row_at ten_rows
  lowered-read = rw (← read) (lowered-at names (as_ten t) e)

  pub characters-read : {tag : ℕ} (n : ℕ) → ((t.tag ≡ 6) × (tag ≡ 12)) ⊎ ((t.tag ≡ 7) × (tag ≡ 13)) → (n % 2 ^ 32 ≡ t.a) × (n / 2 ^ 32 ≡ t.b)
      → lowered_row e (row_at rows names place) ≡ row tag [] (n % 2 ^ 32) (n / 2 ^ 32) 0 ∷ []
  unfolding ten_rows lowered_as
  characters-read n w p =
      lowered-read
      ∙ ⊎_elim (λ q. rw (q.0, q.1, p.0, p.1)) (λ q. rw (q.0, q.1, p.0, p.1)) w

  pub digits-read : {tag : ℕ} → ((t.tag ≡ 10) × (tag ≡ 16)) ⊎ ((t.tag ≡ 11) × (tag ≡ 17)) → lowered_row e (row_at rows names place) ≡ row tag [] t.a 0 0 ∷ []
  unfolding ten_rows lowered_as
  digits-read w = lowered-read ∙ ⊎_elim (λ q. rw (q.0, q.1)) (λ q. rw (q.0, q.1)) w
