-- The places entered, entry by entry, and the last of them that has a name. Assumes nothing.
use Rattle.std.specs.Prelude.{if◌then◌else◌, Option, Some, None, is_some}
use Rattle.std.proofs.lemmas.Option.{none-some, same_Some}
use Prim.Native.Nat.{ℕ, zero, suc, ◌+◌, ◌%◌, ◌≤◌, ◌<◌}
use mathlib.Core.Path.{◌≡◌, refl, sym, ap, ◌∙◌}
use mathlib.Core.Bool.{Bool, true, false, ◌||◌, or-false}
use mathlib.Core.List.{List, [], ◌∷◌, ◌++◌, map, map-append}
use mathlib.Core.Logic.{◌⊎◌, inl, inr, ⊎_elim}
use native.Mathlib.Omega.{arith}
use native.Mathlib.Numerals.{add-one}
use lib.ListN.{length, get_or, take, drop, set, length-map, length-drop, get_or-map}
use lib.Seq.{length-take-le, get_or-take, get_or-drop, take-suc, take-suc-set, drop-set-lt, drop-set-add}
use Rattle.text.specs.Text.{Text, same}
use Rattle.std.proofs.lemmas.Bool.{or_right}
use Rattle.text.proofs.Laws.Texts.{same-eq}
use Rattle.ir_types.specs.Distinct.{among}
use Rattle.name_index.specs.Index.{place_from, place_of, places_in, place_in, SameAnswers}

-- ---- the last of the places that has a name

module _ (name : ℕ → Text) (t : Text) where
  -- others behind them
  from_append : (found : Option ℕ) (ps qs : List ℕ) → place_from found name t (ps ++ qs) ≡ place_from (place_from found name t ps) name t qs
  unfolding place_from
  from_append found [] qs = refl
  from_append found (p ∷ ps) qs = from_append (if same (name p) t then Some p else found) ps qs

  from_more : (found : Option ℕ) (ps : List ℕ) (p : ℕ) → place_from found name t (ps ++ (p ∷ [])) ≡ (if same (name p) t then Some p else place_from found name t ps)
  unfolding place_from
  from_more found ps p = from_append found ps (p ∷ [])

  place-append : (ps qs : List ℕ) → place_of name t (ps ++ qs) ≡ place_from (place_of name t ps) name t qs
  unfolding place_of
  place-append ps qs = from_append None ps qs

  -- one more
  pub place-more : (ps : List ℕ) (p : ℕ) → place_of name t (ps ++ (p ∷ [])) ≡ (if same (name p) t then Some p else place_of name t ps)
  unfolding place_of
  place-more ps p = from_more None ps p

-- places that answer alike do so with others behind them
pub same-append : (name : ℕ → Text) (ps qs rs : List ℕ) → SameAnswers name ps qs → SameAnswers name (ps ++ rs) (qs ++ rs)
same-append name ps qs rs h t = place-append name t ps rs ∙ rw (h t) (sym (place-append name t qs rs))

module _ (name : ℕ → Text) (t : Text) where
  -- there is one exactly if the name is among theirs
  from_step : (b : Bool) (p : ℕ) (found : Option ℕ) (rest : Bool) → is_some (if b then Some p else found) || rest ≡ is_some found || (b || rest)
  from_step true p found rest = sym (or_right (is_some found) _ refl)
  from_step false p found rest = refl

  from-among : (found : Option ℕ) (ps : List ℕ) → is_some (place_from found name t ps) ≡ is_some found || among t (map name ps)
  unfolding place_from among
  from-among found [] = sym (or-false (is_some found))
  from-among found (p ∷ ps) =
      from-among (if same (name p) t then Some p else found) ps ∙ from_step (same (name p) t) p found (among t (map name ps))

  pub place-among : (ps : List ℕ) → is_some (place_of name t ps) ≡ among t (map name ps)
  unfolding place_of
  place-among ps = from-among None ps

-- and hold the same names
pub same-among : (name : ℕ → Text) (ps qs : List ℕ) → SameAnswers name ps qs → (t : Text) → among t (map name ps) ≡ among t (map name qs)
same-among name ps qs h t = sym (place-among name t ps) ∙ ap is_some (h t) ∙ place-among name t qs

-- r is one of the places, and has the name
pub record Hit (name : ℕ → Text) (t : Text) (ps : List ℕ) (r : ℕ) : Type 0 where
  pub at : ℕ
  pub inside : at < length ps
  pub place : get_or ps at 0 ≡ r
  pub named : name r ≡ t

module _ (name : ℕ → Text) (t : Text) where
  hit-on : (p : ℕ) (ps : List ℕ) (r : ℕ) → Hit name t ps r → Hit name t (p ∷ ps) r
  hit-on p ps r w = record { at = suc w.at; inside = omega (arith, w.inside); place = w.place; named = w.named }

  from-head : (b : Bool) (p : ℕ) (found : Option ℕ) (ps : List ℕ) (r : ℕ) → same (name p) t ≡ b → (if b then Some p else found) ≡ Some r
      → (found ≡ Some r) ⊎ Hit name t (p ∷ ps) r
  from-head true p found ps r e h =
      let is : p ≡ r = same_Some p r h in
      inr (record { at = 0; inside = omega arith; place = is; named = ap name (sym is) ∙ same-eq (name p) t e })
  from-head false p found ps r e h = inl h

  from-hit : (found : Option ℕ) (ps : List ℕ) (r : ℕ) → place_from found name t ps ≡ Some r → (found ≡ Some r) ⊎ Hit name t ps r
  unfolding place_from
  from-hit found [] r e = inl e
  from-hit found (p ∷ ps) r e =
      ⊎_elim (from-head (same (name p) t) p found ps r refl) (λ w. inr (hit-on p ps r w)) (from-hit (if same (name p) t then Some p else found) ps r e)

  pub place-hit : (ps : List ℕ) (r : ℕ) → place_of name t ps ≡ Some r → Hit name t ps r
  unfolding place_of
  place-hit ps r e = ⊎_elim (λ n. absurd (none-some r n)) (λ w. w) (from-hit None ps r e)

-- ---- the places in a table

module _ (k n : ℕ) (table : List ℕ) where
  pub places-length : k + n ≤ length table → length (places_in k n table) ≡ n
  unfolding places_in
  places-length h = length-map (take n (drop k table)) (λ e. e % 65536) ∙ length-take-le n (drop k table) (rw length-drop (omega arith))

  pub places-at : (j : ℕ) → j < n → get_or (places_in k n table) j 0 ≡ place_in table k j
  unfolding places_in
  places-at j h =
      get_or-map (λ e. e % 65536) (take n (drop k table)) j 0
      ∙ ap (λ (e : ℕ). e % 65536) (get_or-take n (drop k table) j 0 h ∙ get_or-drop k table j 0)

  pub places-more : k + n < length table → places_in k (suc n) table ≡ places_in k n table ++ (place_in table k n ∷ [])
  unfolding places_in
  places-more h =
      ap (map (λ e. e % 65536)) (take-suc (drop k table) n 0 (rw length-drop (omega arith)))
      ∙ map-append (λ e. e % 65536) (take n (drop k table)) (get_or (drop k table) n 0 ∷ [])
      ∙ rw (get_or-drop k table n 0)

  -- one entry more, and a bucket's new number
  pub places-set : (e b v : ℕ) → k + n < length table → b < k → places_in k (n + 1) (set (set table (k + n) e) b v) ≡ places_in k n table ++ (e % 65536 ∷ [])
  unfolding places_in
  places-set e b v h i =
      rw (drop-set-lt k (set table (k + n) e) b v i, drop-set-add k table n e, add-one n)
      (ap (map (λ x. x % 65536)) (take-suc-set (drop k table) n e (rw length-drop (omega arith)))
      ∙ map-append (λ x. x % 65536) (take n (drop k table)) (e ∷ []))

-- the same entries have the same places
pub places-same : (k n : ℕ) (table other : List ℕ) → length table ≡ length other → k + n ≤ length table
    → ((j : ℕ) → j < n → get_or other (k + j) 0 ≡ get_or table (k + j) 0) → places_in k n other ≡ places_in k n table
unfolding places_in
places-same k zero table other z l h = refl
places-same k (suc n) table other z l h =
    places-more k n other (omega (arith, z)) ∙ rw (h n (omega arith), places-same k n table other z (omega arith) (λ j i. h j (omega arith))) (sym (places-more k n table (omega arith)))
