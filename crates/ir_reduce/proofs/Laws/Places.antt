-- The parted rows by their places: the types are those of the heads, a type's rows are those of its head's group, and the rows that are kept by marks are the
-- front and the marked types. By induction over the rows from a place on. Assumes nothing.
use Rattle.std.specs.Prelude.{if◌then◌else◌}
use mathlib.Core.Path.{◌≡◌, refl, sym, ◌∙◌}
use mathlib.Core.Logic.{◌⊎◌, inl, inr}
use mathlib.Core.Bool.{Bool, true, false, not, false≢true}
use mathlib.Core.List.{List, [], ◌∷◌, ◌++◌}
use Prim.Native.Nat.{ℕ, zero, suc, ◌+◌, ◌-◌, ◌≤◌, ◌<◌}
use native.Mathlib.Omega.{arith}
use lib.Dec.{eqb}
use lib.ListN.{length, get_or}
use borrow.Author.Tests.{eqb-true, eqb-false}
use Rattle.sheet.specs.Rows.{Row}
use Rattle.ir_types.specs.Form.{is_type_tag}
use Rattle.ir_reduce.specs.Groups.{GraphType, add_graph_row, parted, rows_of_types}
use Rattle.ir_reduce.specs.Reach.{In, Kept}
use Rattle.ir_reduce.specs.Places.{rows_by_place, keeps, kept_rows}

in_some : {A : Type 0} {x : A} {xs : List A} → In x xs → 0 < length xs
in_some In.here = omega arith
in_some (In.there i) = omega arith

-- nothing is an element of no list
pub in-none : {A B : Type 0} {x : A} → In x [] → B
in-none i = absurd (let no : ⊥ = omega (arith, in_some i) in no)

pub in-cons : {A : Type 0} {x y : A} {ys : List A} → In x (y ∷ ys) → (x ≡ y) ⊎ In x ys
in-cons In.here = inl refl
in-cons (In.there i) = inr i

unfoldable pub is_head : (ℕ → Row) → ℕ → Bool
is_head f p = is_type_tag (f p).tag

-- the type whose head stands at p, in rows that end at `end`
unfoldable pub type_at : (ℕ → Row) → ℕ → ℕ → GraphType
type_at f end p = record { head = f p; children = (parted (rows_by_place f (suc p) (end - suc p))).front }

pub record PlaceOf (f : ℕ → Row) (end p : ℕ) (t : GraphType) : Type 0 where
  pub at : ℕ
  pub from : p ≤ at
  pub inside : at < end
  pub head : is_head f at ≡ true
  pub is : t ≡ type_at f end at

pub record RowOf (f : ℕ → Row) (end p : ℕ) (r : Row) : Type 0 where
  pub at : ℕ
  pub from : p ≤ at
  pub inside : at < end
  pub plain : (i : ℕ) → p ≤ i → i ≤ at → is_head f i ≡ false
  pub is : r ≡ f at

module _ (f : ℕ → Row) (end : ℕ) where
  -- a head's row added
  pub head_first : (p m : ℕ) → p + suc m ≡ end → is_head f p ≡ true → parted (rows_by_place f p (suc m)) ≡ record { front = []; types = type_at f end p ∷ (parted (rows_by_place f (suc p) m)).types }
  unfolding rows_by_place parted add_graph_row is_head type_at
  head_first p m e h = let same : end - suc p ≡ m = omega arith in rw (h, same)

  pub plain-first : (p m : ℕ) → is_head f p ≡ false
      → parted (rows_by_place f p (suc m)) ≡ record { front = f p ∷ (parted (rows_by_place f (suc p) m)).front; types = (parted (rows_by_place f (suc p) m)).types }
  unfolding rows_by_place parted add_graph_row is_head
  plain-first p m h = rw h

  -- each type stands at a head's place
  type-step : (m p : ℕ) (t : GraphType) (b : Bool) → is_head f p ≡ b → p + suc m ≡ end → (In t (parted (rows_by_place f (suc p) m)).types → PlaceOf f end (suc p) t)
      → In t (parted (rows_by_place f p (suc m))).types → PlaceOf f end p t
  type-step m p t b h e again i = by-head b h
    where
      later : PlaceOf f end (suc p) t → PlaceOf f end p t
      later w = record { at = w.at; from = omega (arith, w.from); inside = w.inside; head = w.head; is = w.is }

      at_head : is_head f p ≡ true → (t ≡ type_at f end p) ⊎ In t (parted (rows_by_place f (suc p) m)).types → PlaceOf f end p t
      at_head h (inl s) = record { at = p; from = omega arith; inside = omega arith; head = h; is = s }
      at_head h (inr j) = later (again j)

      by-head : (b : Bool) → is_head f p ≡ b → PlaceOf f end p t
      by-head true h = at_head h (in-cons (rw (head_first p m e h) at i))
      by-head false h = later (again (rw (plain-first p m h) at i))

  pub type-place : (m p : ℕ) {t : GraphType} → p + m ≡ end → In t (parted (rows_by_place f p m)).types → PlaceOf f end p t
  unfolding rows_by_place parted
  type-place zero p e i = in-none i
  type-place (suc m) p {t} e i = type-step m p t (is_head f p) refl e (λ j. type-place m (suc p) (omega arith) j) i

  -- and at each head's place stands a type
  place-step : (m p q : ℕ) (b : Bool) → is_head f p ≡ b → p + suc m ≡ end → p ≤ q → is_head f q ≡ true → (p < q → In (type_at f end q) (parted (rows_by_place f (suc p) m)).types)
      → In (type_at f end q) (parted (rows_by_place f p (suc m))).types
  place-step m p q b g e l h again = by_place (eqb q p) refl b g
    where
      by_place : (c : Bool) → eqb q p ≡ c → (b : Bool) → is_head f p ≡ b → In (type_at f end q) (parted (rows_by_place f p (suc m))).types
      by_place true s b g =
          let same : q ≡ p = eqb-true q p s in
          rw (same, head_first p m e (rw same at h)) In.here
      by_place false s true g = rw (head_first p m e g) (In.there (again (omega (arith, eqb-false q p s))))
      by_place false s false g = rw (plain-first p m g) (again (omega (arith, eqb-false q p s)))

  pub place-type : (m p q : ℕ) → p + m ≡ end → p ≤ q → q < end → is_head f q ≡ true → In (type_at f end q) (parted (rows_by_place f p m)).types
  place-type zero p q e l k h = absurd (let no : ⊥ = omega arith in no)
  place-type (suc m) p q e l k h = place-step m p q (is_head f p) refl e l h (λ o. place-type m (suc p) q (omega arith) (omega arith) k h)

  -- a row of the front stands before the first head
  front-step : (m p : ℕ) (r : Row) (b : Bool) → is_head f p ≡ b → p + suc m ≡ end → (In r (parted (rows_by_place f (suc p) m)).front → RowOf f end (suc p) r)
      → In r (parted (rows_by_place f p (suc m))).front → RowOf f end p r
  front-step m p r b h e again i = by-head b h
    where
      before : is_head f p ≡ false → (w : RowOf f end (suc p) r) (j : ℕ) → p ≤ j → j ≤ w.at → (b : Bool) → eqb j p ≡ b → is_head f j ≡ false
      before h w j a b true g = rw (eqb-true j p g) h
      before h w j a b false g = w.plain j (omega (arith, eqb-false j p g)) b

      later : is_head f p ≡ false → RowOf f end (suc p) r → RowOf f end p r
      later h w = record { at = w.at; from = omega (arith, w.from); inside = w.inside; plain = λ j a b. before h w j a b (eqb j p) refl; is = w.is }

      only : is_head f p ≡ false → (j : ℕ) → p ≤ j → j ≤ p → is_head f j ≡ false
      only h j a b = let same : j ≡ p = omega arith in rw same h

      at_front : is_head f p ≡ false → (r ≡ f p) ⊎ In r (parted (rows_by_place f (suc p) m)).front → RowOf f end p r
      at_front h (inl s) = record { at = p; from = omega arith; inside = omega arith; plain = only h; is = s }
      at_front h (inr j) = later h (again j)

      by-head : (b : Bool) → is_head f p ≡ b → RowOf f end p r
      by-head true h = in-none (rw (head_first p m e h) at i)
      by-head false h = at_front h (in-cons (rw (plain-first p m h) at i))

  pub front-place : (m p : ℕ) {r : Row} → p + m ≡ end → In r (parted (rows_by_place f p m)).front → RowOf f end p r
  unfolding rows_by_place parted
  front-place zero p e i = in-none i
  front-place (suc m) p {r} e i = front-step m p r (is_head f p) refl e (λ j. front-place m (suc p) (omega arith) j) i

  pub place-front : (m p q : ℕ) → p + m ≡ end → p ≤ q → q < end → ((i : ℕ) → p ≤ i → i ≤ q → is_head f i ≡ false) → In (f q) (parted (rows_by_place f p m)).front
  place-front zero p q e l k h = absurd (let no : ⊥ = omega arith in no)
  place-front (suc m) p q e l k h = by_place (eqb q p) refl (λ o. place-front m (suc p) q (omega arith) (omega arith) k (λ i a b. h i (omega arith) b))
    where
      by_place : (b : Bool) → eqb q p ≡ b → (p < q → In (f q) (parted (rows_by_place f (suc p) m)).front) → In (f q) (parted (rows_by_place f p (suc m))).front
      by_place true g again = rw (eqb-true q p g, plain-first p m (h p (omega arith) l)) In.here
      by_place false g again = rw (plain-first p m (h p (omega arith) l)) (In.there (again (omega (arith, eqb-false q p g))))

  -- the types whose heads are marked
  unfoldable pub kept_types : List ℕ → ℕ → ℕ → List GraphType
  kept_types marks p zero = []
  kept_types marks p (suc m) =
      if is_head f p then (if not (eqb (get_or marks p 0) 0) then type_at f end p ∷ kept_types marks (suc p) m else kept_types marks (suc p) m) else kept_types marks (suc p) m

  -- the rows that are kept behind a row that is kept, and behind one that is not
  abbrev pub kept_as : Bool → List ℕ → ℕ → ℕ → List Row
  kept_as before marks p m = (if before then (parted (rows_by_place f p m)).front else []) ++ rows_of_types (kept_types marks p m)

  kept_step : (marks : List ℕ) (before : Bool) (p m : ℕ) (h b : Bool) → is_head f p ≡ h → not (eqb (get_or marks p 0) 0) ≡ b → p + suc m ≡ end
      → ((now : Bool) → kept_rows f marks now (suc p) m ≡ kept_as now marks (suc p) m) → kept_rows f marks before p (suc m) ≡ kept_as before marks p (suc m)
  unfolding kept_rows kept_types keeps rows_of_types type_at is_head
  kept_step marks true p m true true g k e again = let same : end - suc p ≡ m = omega arith in rw (head_first p m e g, g, k, again true, same)
  kept_step marks false p m true true g k e again = let same : end - suc p ≡ m = omega arith in rw (g, k, again true, same)
  kept_step marks true p m true false g k e again = rw (head_first p m e g, g, k, again false)
  kept_step marks false p m true false g k e again = rw (g, k, again false)
  kept_step marks true p m false b g k e again = rw (plain-first p m g, g, again true)
  kept_step marks false p m false b g k e again = rw (g, again false)

  pub kept-rows : (marks : List ℕ) (before : Bool) (m p : ℕ) → p + m ≡ end → kept_rows f marks before p m ≡ kept_as before marks p m
  unfolding kept_rows kept_types rows_by_place parted rows_of_types
  kept-rows marks true zero p e = refl
  kept-rows marks false zero p e = refl
  kept-rows marks before (suc m) p e = kept_step marks before p m (is_head f p) (not (eqb (get_or marks p 0) 0)) refl refl e (λ now. kept-rows marks now m (suc p) (omega arith))

  -- where the marked heads are those for which P holds, they are what is kept for P
  module _ (P : GraphType → Type 0) (marks : List ℕ) (each : (q : ℕ) → 0 < q → q < end → is_head f q ≡ true → not (eqb (get_or marks q 0) 0) ≡ true → P (type_at f end q))
      (all : (q : ℕ) → 0 < q → q < end → is_head f q ≡ true → P (type_at f end q) → not (eqb (get_or marks q 0) 0) ≡ true) where
    types-step : (p m : ℕ) (h b : Bool) → 0 < p → is_head f p ≡ h → not (eqb (get_or marks p 0) 0) ≡ b → p + suc m ≡ end
        → Kept P (parted (rows_by_place f (suc p) m)).types (kept_types marks (suc p) m)
        → Kept P (parted (rows_by_place f p (suc m))).types (kept_types marks p (suc m))
    unfolding kept_types
    types-step p m true true o g k e w = rw (head_first p m e g, g, k) (Kept.keep (each p o (omega arith) g k) w)
    types-step p m true false o g k e w = rw (head_first p m e g, g, k) (Kept.leave (λ c. false≢true (sym k ∙ all p o (omega arith) g c)) w)
    types-step p m false b o g k e w = rw (plain-first p m g, g) w

    pub kept-types : (m p : ℕ) → 0 < p → p + m ≡ end → Kept P (parted (rows_by_place f p m)).types (kept_types marks p m)
    unfolding kept_types rows_by_place parted
    kept-types zero p o e = Kept.end
    kept-types (suc m) p o e = types-step p m (is_head f p) (not (eqb (get_or marks p 0) 0)) o refl refl e (kept-types m (suc p) (omega arith) (omega arith))
