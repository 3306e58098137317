-- Entries in order of their names: the order of texts, what a search by halves finds, and one entry more at its place among them. Assumes nothing.
use Rattle.std.specs.Prelude.{if◌then◌else◌, Option, Some, None, Ok}
use Rattle.std.specs.declared.cmp.Ordering.{Ordering}
use Rattle.std.specs.declared.cmp.Ordering.TheVariants.{Less, Equal, Greater}
use Rattle.std.specs.Ordering.{is_eq, ordering_reverse}
use Rattle.std.proofs.lemmas.Cmp.{nat_list_cmp_total}
use Rattle.std.proofs.lemmas.Option.{none-some}
use Rattle.std.specs.Cmp.Lexicographic.{texts_ties}
use Prim.Native.Nat.{ℕ, zero, suc, ◌+◌, ◌-◌, ◌*◌, ◌≤◌, ◌<◌}
use mathlib.Core.Path.{◌≡◌, refl, sym, ap, ◌∙◌}
use mathlib.Core.Bool.{Bool, true, false, false≢true}
use mathlib.Core.List.{List, [], ◌∷◌, ◌++◌}
use native.Mathlib.Omega.{arith}
use native.Mathlib.Numerals.{add-one}
use lib.Dec.{eqb, ltb}
use lib.ListN.{length, get_or}
use borrow.Author.Tests.{eqb-true, eqb-false, ltb-true, ltb-false}
use Rattle.sheet.specs.Limits.{rows_limit}
use Rattle.text.specs.Text.{Text, same}
use Rattle.text.proofs.Laws.Tests.{bool_cases}
use Rattle.text.proofs.Laws.Texts.{same-eq}
use Rattle.text.proofs.Laws.Std.{same_is}
use Rattle.name_index.specs.Index.{spelled_name_at, place_of, places_in, place_in, name_in, order, Sorted, Index, Entering, Added, Entered, Parted, SearchIs, Inserted, SameAnswers}
use Rattle.name_index.proofs.Laws.Places.{place-more, places-more, same-append}
use Rattle.name_index.proofs.Laws.Buckets.{place_to, place-to}

-- ---- the order of texts

pub same-order : (s t : Text) → same s t ≡ is_eq (order s t)
same-order s t = sym (same_is s t) ∙ texts_ties s t

other-order : (s t : Text) {o : Ordering} → order s t ≡ o → is_eq o ≡ false → same s t ≡ false
other-order s t e n = same-order s t ∙ ap is_eq e ∙ n

equal-order : (s t : Text) → order s t ≡ Equal → same s t ≡ true
equal-order s t e = same-order s t ∙ ap is_eq e

turned : (s t : Text) {o : Ordering} → order s t ≡ o → order t s ≡ ordering_reverse o
turned s t e = nat_list_cmp_total.antisymm t s ∙ ap ordering_reverse e

less-trans : (s t u : Text) → order s t ≡ Less → order t u ≡ Less → order s u ≡ Less
less-trans = nat_list_cmp_total.trans

-- t comes before u, which comes before v
greater-trans : (s t u : Text) → order s u ≡ Greater → order s t ≡ Less → order t u ≡ Greater
greater-trans s t u e f = turned u t (less-trans u s t (turned s u e) f)

-- ---- a search by halves

-- the names before low are before t, and those from high on behind it
pub record Halves (name : ℕ → Text) (t : Text) (n low high : ℕ) : Type 0 where
  pub ordered : low ≤ high
  pub bound : high ≤ n
  pub below : (j : ℕ) → j < low → order (name j) t ≡ Less
  pub above : (j : ℕ) → high ≤ j → j < n → order (name j) t ≡ Greater

module _ {rows names : List ℕ} {normalised : Bool} {table : List ℕ} {k n : ℕ} (s : Sorted rows names normalised table k n) (t : Text) where
  abbrev name : ℕ → Text
  name = name_in rows names normalised table k

  pub halves-start : Halves name t n 0 n
  halves-start = record { ordered = omega arith; bound = omega arith; below = λ j l. absurd (omega arith); above = λ j l h. absurd (omega arith) }

  pub halves-less : {low high m : ℕ} → Halves name t n low high → m < high → low ≤ m → order (name m) t ≡ Less → Halves name t n (m + 1) high
  halves-less {low} {high} {m} h l g e =
      record {
        ordered = omega arith;
        bound = h.bound;
        below = λ j i. bool_cases (eqb j m) (λ q. rw (eqb-true j m q) e) (λ q. less-trans (name j) (name m) t (s.rising j m (omega (arith, eqb-false j m q)) (omega (arith, h.bound))) e);
        above = h.above;
      }

  pub halves-greater : {low high m : ℕ} → Halves name t n low high → m < high → low ≤ m → order (name m) t ≡ Greater → Halves name t n low m
  halves-greater {low} {high} {m} h l g e =
      record {
        ordered = g;
        bound = omega (arith, h.bound);
        below = h.below;
        above = λ j i b. bool_cases (eqb j m) (λ q. rw (eqb-true j m q) e) (λ q. greater-trans (name m) (name j) t e (s.rising m j (omega (arith, eqb-false j m q)) b));
      }

  pub halves-end : {low high : ℕ} → Halves name t n low high → high ≤ low → Parted name t n low
  halves-end {low} {high} h l = record { bound = omega (arith, h.ordered, h.bound); below = h.below; above = λ j i b. h.above j (omega arith) b }

-- ---- what it says of the places

-- none of the names is t, or the last that is t is that at i
to_none : (name : ℕ → Text) (place : ℕ → ℕ) (t : Text) (n : ℕ) → ((j : ℕ) → j < n → same (name j) t ≡ false) → place_to name place t n ≡ None
unfolding place_to
to_none name place t zero h = refl
to_none name place t (suc n) h = rw (h n (omega arith)) (to_none name place t n (λ j l. h j (omega arith)))

to-one : (name : ℕ → Text) (place : ℕ → ℕ) (t : Text) (i n : ℕ) → i < n → same (name i) t ≡ true
    → ((j : ℕ) → i < j → j < n → same (name j) t ≡ false) → place_to name place t n ≡ Some (place i)
unfolding place_to
to-one name place t i zero l e h = absurd (let no : ⊥ = omega arith in no)
to-one name place t i (suc n) l e h =
    bool_cases
    (eqb i n)
    (λ q. rw (← eqb-true i n q, e))
    (λ q. let less : i < n = omega (arith, eqb-false i n q) in rw (h n less (omega arith)) (to-one name place t i n less e (λ j a b. h j a (omega arith))))

module _ {rows names : List ℕ} {normalised : Bool} {table : List ℕ} {k n : ℕ} (w : Index rows names normalised table k n true) (t : Text) where
  pub search-hit : (i : ℕ) → SearchIs (name_in rows names normalised table k) t n (Ok i) → Some (place_in table k i) ≡ place_of (spelled_name_at rows names normalised) t (places_in k n table)
  search-hit i h =
      let name = name_in rows names normalised table k in
      let is = same-eq (name i) t (equal-order (name i) t h.1) in
      sym (place-to rows names normalised table k t n w.inside
      ∙ to-one name (place_in table k) t i n h.0 (equal-order (name i) t h.1)
      (λ j l b. other-order (name j) t (turned t (name j) (rw is at (w.arranged.rising i j l b))) refl))

  parted-other : (i j : ℕ) → Parted (name_in rows names normalised table k) t n i → j < n → same (name_in rows names normalised table k j) t ≡ false
  parted-other i j h b =
      let name = name_in rows names normalised table k in
      bool_cases
      (ltb j i)
      (λ q. other-order (name j) t (h.below j (ltb-true j i q)) refl)
      (λ q. other-order (name j) t (h.above j (ltb-false j i q) b) refl)

  pub search_none : (i : ℕ) → Parted (name_in rows names normalised table k) t n i → None ≡ place_of (spelled_name_at rows names normalised) t (places_in k n table)
  search_none i h =
      sym (place-to rows names normalised table k t n w.inside ∙ to_none (name_in rows names normalised table k) (place_in table k) t n (λ j b. parted-other i j h b))

-- ---- one entry more

to-next : (name : ℕ → Text) (place : ℕ → ℕ) (t : Text) (n : ℕ) → place_to name place t (n + 1) ≡ (if same (name n) t then Some (place n) else place_to name place t n)
unfolding place_to
to-next name place t n = rw (add-one n) refl

to-below : (name name' : ℕ → Text) (place place' : ℕ → ℕ) (t : Text) (m : ℕ)
    → ((j : ℕ) → j < m → (name' j ≡ name j) × (place' j ≡ place j)) → place_to name' place' t m ≡ place_to name place t m
unfolding place_to
to-below name name' place place' t zero f = refl
to-below name name' place place' t (suc m) f =
    rw ((f m (omega arith)).0, (f m (omega arith)).1, to-below name name' place place' t m (λ j l. f j (omega arith))) refl

-- of two different names, t is one at most
exchange : (b c : Bool) (q r x : Option ℕ) → (b ≡ true → c ≡ true → ⊥) → (if b then q else if c then r else x) ≡ (if c then r else if b then q else x)
exchange true true q r x h = absurd (h refl refl)
exchange true false q r x h = refl
exchange false c q r x h = refl

-- names and places with one more at i: the last that is t is the same, wherever the new one stands
module _ {name name' : ℕ → Text} {place place' : ℕ → ℕ} {i p : ℕ} (s : Text) (t : Text) (first : name' i ≡ s) (at : place' i ≡ p) where
  to-more : (m d : ℕ) → m ≡ i + d → ((j : ℕ) → j < i → (name' j ≡ name j) × (place' j ≡ place j))
      → ((j : ℕ) → i ≤ j → j < m → (name' (j + 1) ≡ name j) × (place' (j + 1) ≡ place j) × (same (name j) s ≡ false))
      → place_to name' place' t (m + 1) ≡ (if same s t then Some p else place_to name place t m)
  to-more m zero e f g =
      let is : m ≡ i = omega arith in
      rw is (to-next name' place' t i ∙ rw (first, at, to-below name name' place place' t i f) refl)
  to-more m (suc d) e f g =
      let b : ℕ = i + d in
      let is : m ≡ b + 1 = omega arith in
      let it = g b (omega arith) (omega arith) in
      let apart : same (name b) t ≡ true → same s t ≡ true → ⊥ = λ x y. false≢true (sym it.2 ∙ rw (same-eq s t y) x) in
      rw is
      (to-next name' place' t (b + 1) ∙ rw (it.0, it.1, to-more b d refl f (λ j x y. g j x (omega arith)))
      (exchange (same (name b) t) (same s t) (Some (place b)) (Some p) (place_to name place t b) apart
      ∙ ap (λ (r : Option ℕ). if same s t then Some p else r) (sym (to-next name place t b))))

module _ {rows names : List ℕ} {normalised : Bool} {before after : List ℕ} {k n i p : ℕ} (w : Index rows names normalised before k n true) (v : Entering rows before k n p)
    (h : Parted (name_in rows names normalised before k) (spelled_name_at rows names normalised p) n i) (g : Inserted before (k + i) (k + n) p after) where
  abbrev old : ℕ → Text
  old = name_in rows names normalised before k

  abbrev new : ℕ → Text
  new = name_in rows names normalised after k

  place-at : place_in after k i ≡ p
  place-at = rw g.at (omega (arith, v.inside, v.small))

  place-below : (j : ℕ) → j < i → place_in after k j ≡ place_in before k j
  place-below j l = rw (g.below (k + j) (omega arith)) refl

  place-moved : (j : ℕ) → i ≤ j → j < n → place_in after k (j + 1) ≡ place_in before k j
  place-moved j l b =
      let next : k + (j + 1) ≡ k + j + 1 = omega arith in
      rw (next, g.moved (k + j) (omega arith) (omega arith)) refl

  by_place : {P : Type 0} (j : ℕ) → (j < i → P) → (j ≡ i → P) → ((m : ℕ) → i ≤ m → j ≡ m + 1 → P) → P
  by_place j a b c =
      bool_cases
      (ltb j i)
      (λ q. a (ltb-true j i q))
      (λ q. bool_cases (eqb j i) (λ e. b (eqb-true j i e)) (λ e. c (j - 1) (omega (arith, ltb-false j i q, eqb-false j i e)) (omega (arith, ltb-false j i q, eqb-false j i e))))

  placed-all : (j : ℕ) → j < n + 1 → (0 < place_in after k j) × (10 * place_in after k j + 10 ≤ length rows)
  placed-all j l =
      by_place
      j
      (λ a. rw (place-below j a) (w.placed j (omega (arith, h.bound))))
      (λ e. rw (e, place-at) (v.above, v.inside))
      (λ m a e. rw (e, place-moved m a (omega arith)) (w.placed m (omega arith)))

  rising-all : (a b : ℕ) → a < b → b < n + 1 → order (new a) (new b) ≡ Less
  rising-all a b l u =
      by_place
      b
      (λ y. rw (place-below a (omega arith), place-below b y) (w.arranged.rising a b l (omega (arith, h.bound))))
      (λ e. rw (e, place-at, place-below a (omega arith)) (h.below a (omega arith)))
      (λ d y e.
      rw (e, place-moved d y (omega arith))
      (by_place
      a
      (λ x. rw (place-below a x) (w.arranged.rising a d (omega arith) (omega arith)))
      (λ f. rw (f, place-at) (turned (old d) (spelled_name_at rows names normalised p) (h.above d y (omega arith))))
      (λ c x f. rw (f, place-moved c x (omega arith)) (w.arranged.rising c d (omega arith) (omega arith)))))

  answers-all : SameAnswers (spelled_name_at rows names normalised) (places_in k (n + 1) after) (places_in k n before ++ (p ∷ []))
  answers-all t =
      let s = spelled_name_at rows names normalised p in
      place-to rows names normalised after k t (n + 1) (omega (arith, g.same_length, v.room))
      ∙ to-more {name = old} {name' = new} {place = place_in before k} {place' = place_in after k} s t (ap (spelled_name_at rows names normalised) place-at) place-at n (n - i) (omega (arith, h.bound))
      (λ j l. (ap (spelled_name_at rows names normalised) (place-below j l), place-below j l))
      (λ j l b. (ap (spelled_name_at rows names normalised) (place-moved j l b), place-moved j l b, other-order (old j) s (h.above j l b) refl))
      ∙ ap (λ (r : Option ℕ). if same s t then Some p else r) (sym (place-to rows names normalised before k t n w.inside))
      ∙ sym (place-more (spelled_name_at rows names normalised) t (places_in k n before) p)

  pub insert-added : Added rows names normalised before k n p after true
  insert-added =
      record {
        answers = answers-all;
        index =
            record {
              some = w.some;
              inside = omega (arith, g.same_length, v.room);
              small = omega (arith, g.same_length, w.small);
              placed = placed-all;
              arranged = record { rising = rising-all };
            };
      }

-- ---- hashed entries put in order: the first e of them are, and those behind are as they were

pub record Sorting (rows names : List ℕ) (normalised : Bool) (initial now : List ℕ) (k n e : ℕ) : Type 0 where
  pub same_length : length now ≡ length initial
  pub index : Index rows names normalised now k e true
  pub answers : SameAnswers (spelled_name_at rows names normalised) (places_in k e now) (places_in k e initial)
  pub rest : (j : ℕ) → e ≤ j → j < n → get_or now (k + j) 0 ≡ get_or initial (k + j) 0

module _ {rows names : List ℕ} {normalised : Bool} {initial : List ℕ} {k n : ℕ} (w : Index rows names normalised initial k n false) (few : length rows ≤ rows_limit) where
  pub sorting-start : Sorting rows names normalised initial initial k n 0
  sorting-start =
      record {
        same_length = refl;
        index =
            record {
              some = w.some;
              inside = omega (arith, w.inside);
              small = w.small;
              placed = λ j l. absurd (omega arith);
              arranged = record { rising = λ a b l u. absurd (omega arith) };
            };
        answers = λ t. refl;
        rest = λ j l b. refl;
      }

  module _ {now : List ℕ} {e p : ℕ} (s : Sorting rows names normalised initial now k n e) (b : e < n) (at : p ≡ place_in now k e) where
    its_place : p ≡ place_in initial k e
    its_place = at ∙ rw (s.rest e (omega arith) b) refl

    pub sorting-enters : Entering rows now k e p
    sorting-enters =
        let a = rw (← its_place) at (w.placed e b) in
        record { above = a.0; inside = a.1; small = few; room = omega (arith, w.inside, s.same_length) }

    -- no two entries have one name
    pub sorting-new : (i : ℕ) → SearchIs (name_in rows names normalised now k) (spelled_name_at rows names normalised p) e (Ok i) → ⊥
    sorting-new i h =
        none-some _ (sym (search-hit s.index (spelled_name_at rows names normalised p) i h ∙ s.answers (spelled_name_at rows names normalised p) ∙ rw its_place (w.arranged.once e b)))

    pub sorting-next : {after : List ℕ} {i : ℕ} → Parted (name_in rows names normalised now k) (spelled_name_at rows names normalised p) e i → Inserted now (k + i) (k + e) p after
        → Sorting rows names normalised initial after k n (e + 1)
    sorting-next {after} {i} h g =
        let added = insert-added s.index sorting-enters h g in
        let all : places_in k (e + 1) initial ≡ places_in k e initial ++ (p ∷ []) = rw (add-one e, its_place) (places-more k e initial (omega (arith, w.inside))) in
        record {
          same_length = g.same_length ∙ s.same_length;
          index = added.index;
          answers = λ t. added.answers t ∙ same-append (spelled_name_at rows names normalised) (places_in k e now) (places_in k e initial) (p ∷ []) s.answers t ∙ rw all refl;
          rest = λ j l u. g.behind (k + j) (omega arith) ∙ s.rest j (omega arith) u;
        }

-- a head entered behind that is entered in the table of before
pub sorted-entered : {rows names : List ℕ} {normalised : Bool} {before between after : List ℕ} {k n p : ℕ} {sorted : Bool} {r : Option ℕ}
    → SameAnswers (spelled_name_at rows names normalised) (places_in k n between) (places_in k n before)
    → Entered rows names normalised between k n p after sorted r → Entered rows names normalised before k n p after sorted r
sorted-entered {rows} {names} {normalised} {before} {between} {k = k} {n = n} {p = p} h e =
    record {
      place = e.place ∙ h (spelled_name_at rows names normalised p);
      added =
          λ z.
          record {
            answers = λ t. (e.added z).answers t ∙ same-append (spelled_name_at rows names normalised) (places_in k n between) (places_in k n before) (p ∷ []) h t;
            index = (e.added z).index;
          };
    }
