-- The row that a recipe gives: its bytes are those of the three texts, and its ten numbers are `recipe_numbers`. By cases on which texts there are; an unused
-- text is empty. Assumes nothing.
use Rattle.std.specs.Prelude.{Option, Some, None, if◌then◌else◌}
use Prim.Native.Nat.{ℕ, ◌+◌}
use mathlib.Core.Path.{◌≡◌, refl, sym, ap, ◌∙◌}
use mathlib.Core.Bool.{Bool, true, false, not, ◌&&◌, ◌||◌, false≢true}
use mathlib.Core.List.{List, [], ◌∷◌, ◌++◌, append-nil}
use lib.ListN.{length}
use Rattle.text.specs.Text.{Text, join}
use Rattle.sheet.specs.Rows.{row, numbers, pack_row, pairs}
use Rattle.rows.specs.Packing.{numbers_of}
use Rattle.ir_append.specs.declared.Spelling.{Spelling}
use Rattle.ir_append.specs.declared.Recipe.{Recipe}
use Rattle.ir_append.specs.Spelled.{text_by_spelling, is_nothing, spelled_texts, recipe_row, orderly}
use Rattle.ir_append.specs.Stored.{recipe_bytes, recipe_numbers}

-- no text has no bytes
nothing-empty : (k : Option Spelling) (t u : Text) → is_nothing k ≡ true → text_by_spelling k t u ≡ []
nothing-empty None t u e = refl
nothing-empty (Some how) t u e = absurd (false≢true e)

-- a text or none before others
join-before : (b : Bool) (x : Text) (ts : List Text) → (b ≡ true → x ≡ []) → join ((if b then [] else x ∷ []) ++ ts) ≡ x ++ join ts
unfolding join
join-before true x ts h = rw (h refl)
join-before false x ts h = refl

join-spelled : (k : Option Spelling) (t u : Text) (ts : List Text) → join (spelled_texts k t u ++ ts) ≡ text_by_spelling k t u ++ join ts
unfolding spelled_texts
join-spelled k t u ts = join-before (is_nothing k) (text_by_spelling k t u) ts (nothing-empty k t u)

pub recipe-bytes : (p : Recipe) (t u : Text) → join (recipe_row p t u).texts ≡ recipe_bytes p t u
unfolding recipe_row recipe_bytes row join
recipe-bytes p t u =
    let last : join (spelled_texts p.third t u) ≡ text_by_spelling p.third t u = ap join (sym (append-nil (spelled_texts p.third t u)))
    ∙ join-spelled p.third t u [] ∙ append-nil (text_by_spelling p.third t u) in
    rw (join-spelled p.first t u, join-spelled p.second t u, last)

-- the ten numbers of a row by which texts it has
numbers-by : (b d e : Bool) (x y z : Text) (at tag k l m : ℕ) → (not b || d) && (not d || e) ≡ true → (b ≡ true → x ≡ []) → (d ≡ true → y ≡ []) → (e ≡ true → z ≡ [])
    → numbers_of at (row tag ((if b then [] else x ∷ []) ++ ((if d then [] else y ∷ []) ++ (if e then [] else z ∷ []))) k l m)
    ≡ tag ∷ (if b then 0 else at) ∷ length x ∷ (if d then 0 else at + length x) ∷ length y ∷ (if e then 0 else at + length x + length y) ∷ length z ∷ k ∷ l ∷ m ∷ []
unfolding numbers_of numbers pack_row pairs row
numbers-by false false false x y z at tag k l m o f g h = refl
numbers-by false false true x y z at tag k l m o f g h = rw (h refl)
numbers-by false true true x y z at tag k l m o f g h = rw (g refl, h refl)
numbers-by true true true x y z at tag k l m o f g h = rw (f refl, g refl, h refl)
numbers-by false true false x y z at tag k l m o f g h = absurd (false≢true o)
numbers-by true false e x y z at tag k l m o f g h = absurd (false≢true o)
numbers-by true true false x y z at tag k l m o f g h = absurd (false≢true o)

pub recipe-numbers : (p : Recipe) (t u : Text) (at n m k : ℕ) → orderly p ≡ true → n ≡ length (text_by_spelling p.first t u) → m ≡ length (text_by_spelling p.second t u)
    → k ≡ length (text_by_spelling p.third t u)
    → recipe_numbers p at n m k ≡ numbers_of at (recipe_row p t u)
unfolding orderly recipe_row spelled_texts recipe_numbers
recipe-numbers p t u at n m k o e f g =
    rw (e, f, g)
    (sym (numbers-by (is_nothing p.first) (is_nothing p.second) (is_nothing p.third) (text_by_spelling p.first t u) (text_by_spelling p.second t u)
    (text_by_spelling p.third t u) at p.tag p.a p.b p.c o
    (nothing-empty p.first t u) (nothing-empty p.second t u) (nothing-empty p.third t u)))
