-- A text that a writer was to put into the part of the names from a place on is stored there or has no room, and three texts stored one behind the other
-- are one text stored. By the definitions of `placed` and `paste`. Assumes nothing.
use Rattle.std.specs.Prelude.{Option, Some, None, if◌then◌else◌}
use Prim.Native.Nat.{ℕ, ◌+◌, ◌-◌, ◌≤◌, ◌<◌}
use mathlib.Core.Path.{◌≡◌, refl, ap, ◌∙◌}
use mathlib.Core.Bool.{Bool, true, false}
use mathlib.Core.List.{List, [], ◌++◌, append_assoc, append-nil}
use native.Mathlib.Omega.{arith}
use lib.Dec.{leb}
use lib.ListN.{length, take, drop, length-drop, length-append, drop_of_length-le}
use lib.Seq.{paste, paste-zero, take_all, take-length, drop-drop, length-paste}
use borrow.Author.Tests.{leb-true, leb-false}
use borrow.Rule.Slice.PartMut.{mid_of, put_mid}
use Rattle.text.specs.Text.{Text}
use Rattle.names.specs.Answers.{Put, written, placed}
use Rattle.buffer.proofs.Laws.Copy.{paste-paste}
use Rattle.ir_append.specs.declared.Recipe.{Recipe}
use Rattle.ir_append.specs.Spelled.{text_by_spelling}
use Rattle.ir_append.specs.Stored.{Stored, Stores, recipe_bytes, Spread}

-- what an answer says of the test that it was made by
bytes_fit : (b : Bool) (n k : ℕ) → Some n ≡ (if b then Some k else None) → (b ≡ true) × (n ≡ k)
bytes_fit true n k e = (refl, cc)
bytes_fit false n k e = absurd (let z : ◌≡◌ {A = ℕ} 0 1 = cc in let no : ⊥ = omega arith in no)

no_room : (b : Bool) (k : ℕ) → None ≡ (if b then Some k else None) → b ≡ false
no_room true k e = absurd (let z : ◌≡◌ {A = ℕ} 0 1 = cc in let no : ⊥ = omega arith in no)
no_room false k e = refl

module _ (names : List ℕ) (at : ℕ) (inside : at ≤ length names) where
  -- the part from a place on
  part-rest : mid_of at (length names - at) names ≡ drop at names
  part-rest = take_all (length names - at) (drop at names) (simp length-drop (omega arith))

  part-put : (t : Text) → at + length t ≤ length names → put_mid at (length names - at) names (placed t (drop at names)) ≡ paste names at t (length t)
  unfolding placed
  part-put t h =
      let whole : take (length (drop at names)) t ≡ t = take_all (length (drop at names)) t (simp length-drop (omega arith)) in
      let none : drop (length names - at) (drop at names) ≡ [] = drop_of_length-le (drop at names) {i = length names - at} (simp length-drop (omega arith)) in
      rw (whole, none, append-nil, drop-drop, take-length t, append_assoc)

  -- what a writer into the part says of the whole
  pub stores-part : (t after : Text) (r : Option ℕ) → Put t (mid_of at (length names - at) names) r after → Stores names at t (put_mid at (length names - at) names after) r
  unfolding written
  stores-part t after (Some n) h =
      let put = rw part-rest at h in
      let fit = bytes_fit (leb (length t) (length (drop at names))) n (length t) put.counted in
      let room : at + length t ≤ length names = omega (arith, leb-true (length t) (length (drop at names)) fit.0, length-drop at names) in
      record {
        count = fit.1;
        inside = omega (arith, fit.1);
        holds = rw (fit.1, put.holds) (part-put t room);
      }
  stores-part t after None h =
      let put = rw part-rest at h in
      let fit = no_room (leb (length t) (length (drop at names))) (length t) put.counted in
      omega (arith, leb-false (length t) (length (drop at names)) fit, length-drop at names)

-- a text stored keeps the names' length
pub stored-length : {names names' : List ℕ} {at n : ℕ} {t : Text} → Stored names at t names' n → length names' ≡ length names
stored-length {names} {names'} {at} {n} {t} s = ap length s.holds ∙ length-paste names at t n s.inside (omega (arith, s.count))

pub stored-whole : {names names' : List ℕ} {at n : ℕ} {t : Text} → Stored names at t names' n → names' ≡ paste names at t (length t)
stored-whole s = rw (← s.count) s.holds

-- a text behind another is stored with it
pub stored-behind : {names names₁ names₂ : List ℕ} {at n m : ℕ} {t u : Text} → Stored names at t names₁ n → Stored names₁ (at + n) u names₂ m → Stored names at (t ++ u) names₂ (n + m)
stored-behind {names} {names₁} {names₂} {at} {n} {m} {t} {u} s k =
    let room : at + (length t + length u) ≤ length names = omega (arith, s.count, k.count, k.inside, stored-length s) in
    record {
      count = simp length-append (omega (arith, s.count, k.count));
      inside = omega (arith, k.inside, stored-length s);
      holds = k.holds ∙ rw (s.holds, k.count, s.count) (paste-paste names t u at room);
    }

module _ (names : List ℕ) (at : ℕ) (p : Recipe) (t u : Text) where
  -- the first text has no room, or the second behind it, or the third behind both
  pub short-first : length names < at + length (text_by_spelling p.first t u) → length names < at + length (recipe_bytes p t u)
  unfolding recipe_bytes
  short-first h = simp length-append (omega arith)

  pub short-second : {names₁ : List ℕ} {n : ℕ} → Stored names at (text_by_spelling p.first t u) names₁ n → length names₁ < at + n + length (text_by_spelling p.second t u)
      → length names < at + length (recipe_bytes p t u)
  unfolding recipe_bytes
  short-second s h = simp length-append (omega (arith, s.count, stored-length s))

  pub short-third : {names₁ names₂ : List ℕ} {n m : ℕ} → Stored names at (text_by_spelling p.first t u) names₁ n → Stored names₁ (at + n) (text_by_spelling p.second t u) names₂ m
      → length names₂ < at + n + m + length (text_by_spelling p.third t u) → length names < at + length (recipe_bytes p t u)
  unfolding recipe_bytes
  short-third s k h = simp length-append (omega (arith, s.count, stored-length s, k.count, stored-length k))

  -- all three, one behind the other
  pub spread : {names₁ names₂ names₃ : List ℕ} {n m k : ℕ} → Stored names at (text_by_spelling p.first t u) names₁ n → Stored names₁ (at + n) (text_by_spelling p.second t u) names₂ m
      → Stored names₂ (at + n + m) (text_by_spelling p.third t u) names₃ k → Spread names at p t u names₃ n m k
  unfolding recipe_bytes
  spread a b c = record { first_length = a.count; second_length = b.count; third_length = c.count; stored = stored-behind a (stored-behind b c) }
