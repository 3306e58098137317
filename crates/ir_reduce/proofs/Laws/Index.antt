-- The index of the heads: a name is found at its one head, and what is found is a head of that name. Assumes nothing.
use Rattle.std.specs.Prelude.{if◌then◌else◌, Option, Some, None, is_some}
use Rattle.std.specs.Option.{option_and_then, unwrap_or}
use Rattle.std.proofs.lemmas.Option.{none-some, same_Some}
use mathlib.Core.Path.{◌≡◌, refl, sym, ap, ◌∙◌}
use mathlib.Core.Logic.{◌⊎◌, inl, inr}
use mathlib.Core.Bool.{Bool, true, false, not, ◌&&◌, ◌||◌, false≢true}
use mathlib.Core.List.{List, [], ◌∷◌, ◌++◌, map, append_assoc, append-nil, map-append}
use Prim.Native.Nat.{ℕ, zero, suc, ◌+◌, ◌-◌, ◌*◌, ◌≤◌, ◌<◌}
use native.Mathlib.Omega.{arith}
use lib.Dec.{eqb}
use lib.ListN.{length, get_or}
use borrow.Author.Tests.{eqb-true, eqb-false, not-true}
use Rattle.text.specs.Text.{Text, same, between}
use Rattle.text.proofs.Laws.Texts.{same_refl}
use Rattle.std.proofs.lemmas.Bool.{false_from_ne_true}
use Rattle.text.proofs.Laws.Tests.{and-true-left, and-true-right, or-false-left, or-false-right}
use Rattle.names.specs.Same.{spelled}
use Rattle.sheet.specs.Rows.{text_at}
use Rattle.ir_types.specs.Tags.{root_tag, value_with_attributes_tag, field_tag, variant_tag, attribute_tag}
use Rattle.ir_types.specs.Distinct.{among, distinct_texts}
use Rattle.ir_types.proofs.Laws.Distinct.{distinct_snoc, distinct-before}
use Rattle.name_index.specs.Index.{spelled_name_at, place_from, place_of, places_in, SameAnswers, Index, Entered}
use Rattle.name_index.proofs.Laws.Places.{place-hit, place-among, same-append, same-among}
use Rattle.name_index.proofs.Laws.Answers.{hit-inside}
use Rattle.ir_reduce.specs.Reach.{In}
use Rattle.ir_reduce.specs.Marks.{head_at}
use Rattle.ir_reduce.specs.Index.{buckets, place_if, head_places_from, head_places, head_names, AllIndexed, NewHead, OldHead, asked_pair, target_of}
use Rattle.ir_reduce.proofs.Laws.Places.{in-none, in-cons}
use Rattle.text.proofs.Laws.Std.{none-is}

-- ---- places and their heads
at_in : (ps : List ℕ) (j : ℕ) → j < length ps → In (get_or ps j 0) ps
at_in [] j h = absurd (let no : ⊥ = omega arith in no)
at_in (p ∷ ps) zero h = In.here
at_in (p ∷ ps) (suc j) h = In.there (at_in ps j (omega arith))

pub record HeadIn (rows : List ℕ) (p m q : ℕ) : Type 0 where
  pub from : p ≤ q
  pub inside : q < p + m
  pub head : head_at rows q ≡ true

pub heads-in : (rows : List ℕ) (m p : ℕ) {q : ℕ} → In q (head_places_from rows p m) → HeadIn rows p m q
unfolding head_places_from
heads-in rows zero p i = in-none i
heads-in rows (suc m) p {q} i = step (head_at rows p) refl i (λ j. heads-in rows m (suc p) j)
  where
    later : HeadIn rows (suc p) m q → HeadIn rows p (suc m) q
    later w = record { from = omega (arith, w.from); inside = omega (arith, w.inside); head = w.head }

    first : head_at rows p ≡ true → (q ≡ p) ⊎ In q (head_places_from rows (suc p) m) → (In q (head_places_from rows (suc p) m) → HeadIn rows (suc p) m q) → HeadIn rows p (suc m) q
    first h (inl e) again = record { from = omega arith; inside = omega arith; head = rw e h }
    first h (inr j) again = later (again j)

    step : (b : Bool) → head_at rows p ≡ b → In q (place_if b p ++ head_places_from rows (suc p) m) → (In q (head_places_from rows (suc p) m) → HeadIn rows (suc p) m q) → HeadIn rows p (suc m) q
    step true h j again = first h (in-cons j) again
    step false h j again = later (again j)

pub in-heads : (rows : List ℕ) (m p q : ℕ) → p ≤ q → q < p + m → head_at rows q ≡ true → In q (head_places_from rows p m)
unfolding head_places_from
in-heads rows zero p q l k h = absurd (let no : ⊥ = omega arith in no)
in-heads rows (suc m) p q l k h = step (eqb q p) refl (head_at rows p) refl (λ o. in-heads rows m (suc p) q (omega arith) (omega arith) h)
  where
    step : (c : Bool) → eqb q p ≡ c → (b : Bool) → head_at rows p ≡ b → (p < q → In q (head_places_from rows (suc p) m)) → In q (place_if b p ++ head_places_from rows (suc p) m)
    step true e true g again = rw (eqb-true q p e) In.here
    step true e false g again = absurd (false≢true (sym g ∙ ap (head_at rows) (sym (eqb-true q p e)) ∙ h))
    step false e true g again = In.there (again (omega (arith, eqb-false q p e)))
    step false e false g again = again (omega (arith, eqb-false q p e))

-- ---- a name among distinct ones is found where it stands
module _ (name : ℕ → Text) (t : Text) where
  not_found : (found : Option ℕ) (ps : List ℕ) → among t (map name ps) ≡ false → place_from found name t ps ≡ found
  unfolding place_from among
  not_found found [] h = refl
  not_found found (p ∷ ps) h = rw (or-false-left (same (name p) t) (among t (map name ps)) h) (not_found found ps (or-false-right (same (name p) t) (among t (map name ps)) h))

  found_from : (found : Option ℕ) (q : ℕ) (ps : List ℕ) → In q ps → name q ≡ t → distinct_texts (map name ps) ≡ true → place_from found name t ps ≡ Some q
  unfolding place_from distinct_texts
  found_from found q [] i e d = elim i [ ]
  found_from found q (p ∷ ps) In.here e d =
      let new = not-true (among (name p) (map name ps)) (and-true-left (not (among (name p) (map name ps))) (distinct_texts (map name ps)) d) in
      rw (← e, same_refl (name p)) (rw e (not_found (Some p) ps (rw e at new)))
  found_from found q (p ∷ ps) (In.there i) e d =
      found_from (if same (name p) t then Some p else found) q ps i e (and-true-right (not (among (name p) (map name ps))) (distinct_texts (map name ps)) d)

  pub place_found : (q : ℕ) (ps : List ℕ) → In q ps → name q ≡ t → distinct_texts (map name ps) ≡ true → place_of name t ps ≡ Some q
  unfolding place_of
  place_found q ps i e d = found_from None q ps i e d

  pub record FoundIn (ps : List ℕ) (r : ℕ) : Type 0 where
    pub among : In r ps
    pub named : name r ≡ t

  pub found_in : (ps : List ℕ) (r : ℕ) → place_of name t ps ≡ Some r → FoundIn ps r
  found_in ps r h =
      let w = place-hit name t ps r h in
      record { among = rw (← w.place) (at_in ps w.at w.inside); named = w.named }

-- ---- the heads from a place on
module _ (rows : List ℕ) (p end : ℕ) where
  pub heads-next : p < end → head_places_from rows p (end - p) ≡ place_if (head_at rows p) p ++ head_places_from rows (p + 1) (end - (p + 1))
  unfolding head_places_from
  heads-next h =
      let more : end - p ≡ suc (end - (p + 1)) = omega arith in
      let next : suc p ≡ p + 1 = omega arith in
      rw (more, next)

  pub heads-none : end ≤ p → head_places_from rows p (end - p) ≡ []
  unfolding head_places_from
  heads-none h = let none : end - p ≡ 0 = omega arith in rw none

-- ---- a row entered
module _ {rows names table : List ℕ} {n : ℕ} {sorted : Bool} (w : Index rows names false table buckets n sorted) (p : ℕ) where
  pub head-none : head_at rows p ≡ false → NewHead rows names table n p table n sorted
  head-none h = record { index = w; answers = λ t. rw (h, append-nil (places_in buckets n table)) refl; new = λ e. absurd (false≢true (sym h ∙ e)); few = omega arith }

  pub head-old : {after : List ℕ} {sorted' : Bool} {r : Option ℕ} → Entered rows names false table buckets n p after sorted' r → is_some r ≡ true → head_at rows p ≡ true → OldHead rows names table n p
  head-old e h k =
      record { head = k; old = sym (place-among (spelled_name_at rows names false) (spelled_name_at rows names false p) (places_in buckets n table)) ∙ ap is_some (sym e.place) ∙ h }

  pub head-new : {after : List ℕ} {sorted' : Bool} {r : Option ℕ} → Entered rows names false table buckets n p after sorted' r → is_some r ≡ false → head_at rows p ≡ true
      → NewHead rows names table n p after (n + 1) sorted'
  head-new {r = r} e h k =
      let added = e.added (none-is r h) in
      record {
        index = added.index;
        answers = rw k added.answers;
        new = λ _. sym (place-among (spelled_name_at rows names false) (spelled_name_at rows names false p) (places_in buckets n table)) ∙ ap is_some (sym e.place) ∙ h;
        few = omega arith;
      }

-- ---- all of them: those that were entered, in their order, answer as the table does, and the rest is behind them
pub record Entering (rows names : List ℕ) (end : ℕ) (table : List ℕ) (n : ℕ) (sorted : Bool) (p : ℕ) : Type 0 where
  pub entered : List ℕ
  pub index : Index rows names false table buckets n sorted
  pub answers : SameAnswers (spelled_name_at rows names false) (places_in buckets n table) entered
  pub places : entered ++ head_places_from rows p (end - p) ≡ head_places rows end
  pub distinct : distinct_texts (head_names rows names entered) ≡ true
  pub few : n < p

pub entering-start : (rows names : List ℕ) (end : ℕ) (table : List ℕ) (sorted : Bool) → Index rows names false table buckets 0 sorted → Entering rows names end table 0 sorted 1
unfolding places_in distinct_texts
entering-start rows names end table sorted w = record { entered = []; index = w; answers = λ t. refl; places = refl; distinct = refl; few = omega arith }

more-distinct : (rows names ps : List ℕ) (p : ℕ) (b : Bool) → distinct_texts (head_names rows names ps) ≡ true
    → (b ≡ true → among (spelled_name_at rows names false p) (head_names rows names ps) ≡ false)
    → distinct_texts (head_names rows names (ps ++ place_if b p)) ≡ true
more-distinct rows names ps p true d h = rw (map-append (spelled_name_at rows names false) ps (p ∷ [])) (distinct_snoc (spelled_name_at rows names false p) (head_names rows names ps) d (h refl))
more-distinct rows names ps p false d h = rw (append-nil ps) d

module _ {rows names : List ℕ} {end : ℕ} {table : List ℕ} {n p : ℕ} {sorted : Bool} (w : Entering rows names end table n sorted p) where
  abbrev its_name : Text
  its_name = spelled_name_at rows names false p

  -- a name is among those of the table exactly if it is among those entered
  held : among its_name (head_names rows names (places_in buckets n table)) ≡ among its_name (head_names rows names w.entered)
  held = same-among (spelled_name_at rows names false) _ _ w.answers its_name

  pub entering-step : {after : List ℕ} {m : ℕ} {sorted' : Bool} → p < end → NewHead rows names table n p after m sorted' → Entering rows names end after m sorted' (p + 1)
  entering-step h e =
      record {
        entered = w.entered ++ place_if (head_at rows p) p;
        index = e.index;
        answers = λ t. e.answers t ∙ same-append (spelled_name_at rows names false) _ _ (place_if (head_at rows p) p) w.answers t;
        places = rw (append_assoc, ← heads-next rows p end h) w.places;
        distinct = more-distinct rows names w.entered p (head_at rows p) w.distinct (λ k. sym held ∙ e.new k);
        few = omega (arith, w.few, e.few);
      }

  pub entering-end : end ≤ p → AllIndexed rows names end table n sorted
  entering-end h =
      let all : w.entered ≡ head_places rows end = sym (append-nil w.entered) ∙ ap (λ (l : List ℕ). w.entered ++ l) (sym (heads-none rows p end h)) ∙ w.places in
      record { index = w.index; answers = rw (← all) w.answers; distinct = rw (← all) w.distinct }

  pub entering-repeated : p < end → OldHead rows names table n p → distinct_texts (head_names rows names (head_places rows end)) ≡ false
  entering-repeated h o =
      let ps = w.entered in
      let rest = head_places_from rows (p + 1) (end - (p + 1)) in
      let all : head_places rows end ≡ ps ++ (p ∷ rest) = sym w.places ∙ ap (λ (l : List ℕ). ps ++ l) (heads-next rows p end h ∙ rw o.head) in
      let names-all : head_names rows names (head_places rows end) ≡ head_names rows names ps
      ++ (its_name ∷ head_names rows names rest) = ap (head_names rows names) all ∙ map-append (spelled_name_at rows names false) ps (p ∷ rest) in
      false_from_ne_true _ (λ d. false≢true (sym (distinct-before its_name (head_names rows names ps) (head_names rows names rest) (rw names-all at d)) ∙ sym held ∙ o.old))

-- what a writer left in its numbers is theirs where it still holds them
pub indexed-left : {rows names : List ℕ} {end : ℕ} {table after : List ℕ} {n : ℕ} {sorted : Bool} {held : Type 0} → AllIndexed rows names end table n sorted → held → (held → after ≡ table)
    → AllIndexed rows names end after n sorted
indexed-left w h left = rw (left h) w

-- ---- what a row leads to
pub asked-at-most : (tag a : ℕ) {k : ℕ} → Some k ≡ asked_pair tag a → k ≤ 5
unfolding asked_pair
asked-at-most tag a {k} e = by_tests (eqb tag root_tag) (eqb tag value_with_attributes_tag && eqb a 0) ((between field_tag variant_tag tag || eqb tag attribute_tag) && eqb a 0) e
  where
    three : Some k ≡ Some 3 → k ≤ 5
    three h = let is : k ≡ 3 = same_Some k 3 h in omega arith

    by_tests : (b c d : Bool) → Some k ≡ (if b then Some 3 else if c then Some 3 else if d then Some 5 else None) → k ≤ 5
    by_tests true c d h = three h
    by_tests false true d h = three h
    by_tests false false true h = let is : k ≡ 5 = same_Some k 5 h in omega arith
    by_tests false false false h = absurd (none-some k (sym h))

module _ (rows names ps : List ℕ) (p : ℕ) where
  pub target_none : None ≡ asked_pair (get_or rows (10 * p) 0) (get_or rows (10 * p + 7) 0) → None ≡ target_of rows names ps p
  unfolding target_of
  target_none e = rw (← e)

  pub target-some : {k : ℕ} → Some k ≡ asked_pair (get_or rows (10 * p) 0) (get_or rows (10 * p + 7) 0)
      → target_of rows names ps p ≡ place_of (spelled_name_at rows names false)
      (spelled (eqb (get_or rows (10 * p) 0) root_tag) (text_at names (get_or rows (10 * p + k) 0) (get_or rows (10 * p + k + 1) 0))) ps
  unfolding target_of
  target-some e = rw (← e)

-- the place lies inside the rows
pub target-inside : {rows names : List ℕ} {end : ℕ} {table : List ℕ} {n : ℕ} {sorted : Bool} → AllIndexed rows names end table n sorted → (p : ℕ)
    → 10 * unwrap_or (target_of rows names (head_places rows end) p) 0 ≤ length rows
unfolding target_of
target-inside {rows} {names} {end} {table} {n} w p = by-pair (asked_pair (get_or rows (10 * p) 0) (get_or rows (10 * p + 7) 0))
  where
    found : (t : Text) (o : Option ℕ) → place_of (spelled_name_at rows names false) t (head_places rows end) ≡ o → 10 * unwrap_or o 0 ≤ length rows
    found t None e = omega arith
    found t (Some r) e = omega (arith, hit-inside w.index (place-hit (spelled_name_at rows names false) t (places_in buckets n table) r (w.answers t ∙ e)))

    by-pair : (o : Option ℕ)
        → 10 * unwrap_or (option_and_then (λ (k : ℕ). place_of (spelled_name_at rows names false)
        (spelled (eqb (get_or rows (10 * p) 0) root_tag) (text_at names (get_or rows (10 * p + k) 0) (get_or rows (10 * p + k + 1) 0))) (head_places rows end)) o) 0 ≤ length rows
    by-pair None = omega arith
    by-pair (Some k) = found _ _ refl
