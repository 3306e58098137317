-- What the queue reaches is what chains reach. A place that is reached from row 1 by rows that lead to it is the head of a type that a chain reaches, step by
-- step; and each step of a chain is a row that leads to the head's place. Assumes nothing.
use mathlib.Core.Path.{◌≡◌, refl, sym, ap, ◌∙◌}
use mathlib.Core.Logic.{◌⊎◌, inl, inr}
use mathlib.Core.Bool.{Bool, true, false, false≢true}
use mathlib.Core.List.{List, [], ◌∷◌, ◌++◌}
use Prim.Native.Nat.{ℕ, suc, ◌+◌, ◌-◌, ◌≤◌, ◌<◌}
use native.Mathlib.Omega.{arith}
use lib.Dec.{eqb}
use lib.ListN.{length, get_or}
use borrow.Author.Tests.{eqb-true, eqb-false, ne_eqb}
use Rattle.text.specs.Text.{Text}
use Rattle.sheet.specs.Rows.{Row, bit}
use Rattle.ir_types.specs.Tags.{root_tag}
use Rattle.ir_types.specs.Back.{text}
use Rattle.ir_reduce.specs.Groups.{GraphType, Parted, parted, type_name, root_type, reference_in, references_in, references}
use Rattle.ir_reduce.specs.Reach.{In, Chain}
use Rattle.ir_reduce.specs.Places.{rows_by_place, asked}
use Rattle.ir_reduce.specs.Marks.{InGroup, Leads, ReachedPlace}
use Rattle.ir_reduce.proofs.Laws.Reach.{chain-in}
use Rattle.ir_reduce.proofs.Laws.Places.{in-none, in-cons, is_head, type_at, PlaceOf, RowOf, type-place, place-type, front-place, place-front}

-- ---- elements
in_left : {A : Type 0} {x : A} {xs : List A} (ys : List A) → In x xs → In x (xs ++ ys)
in_left ys In.here = In.here
in_left ys (In.there i) = In.there (in_left ys i)

in_right : {A : Type 0} {x : A} (xs : List A) {ys : List A} → In x ys → In x (xs ++ ys)
in_right [] i = i
in_right (y ∷ xs) i = In.there (in_right xs i)

in_either : {A : Type 0} {x : A} (xs : List A) {ys : List A} → In x (xs ++ ys) → In x xs ⊎ In x ys
in_either [] i = inr i
in_either {A} {x} (y ∷ xs) {ys} i = step (in-cons i) (λ j. in_either xs j)
  where
    later : In x xs ⊎ In x ys → In x (y ∷ xs) ⊎ In x ys
    later (inl j) = inl (In.there j)
    later (inr j) = inr j

    step : (x ≡ y) ⊎ In x (xs ++ ys) → (In x (xs ++ ys) → In x xs ⊎ In x ys) → In x (y ∷ xs) ⊎ In x ys
    step (inl e) again = inl (rw e In.here)
    step (inr j) again = later (again j)

pub in_one : {A : Type 0} {x y : A} → In x (y ∷ []) → x ≡ y
in_one {A} {x} {y} i = step (in-cons i)
  where
    step : (x ≡ y) ⊎ In x [] → x ≡ y
    step (inl e) = e
    step (inr j) = in-none j

-- ---- the row of a reference
pub record RowIn (t : Text) (rs : List Row) : Type 0 where
  pub row : Row
  pub among : In row rs
  pub refers : In t (reference_in row)

pub reference-row : (t : Text) (rs : List Row) → In t (references_in rs) → RowIn t rs
unfolding references_in
reference-row t [] i = in-none i
reference-row t (r ∷ rs) i = step (in_either (reference_in r) i) (λ j. reference-row t rs j)
  where
    later : RowIn t rs → RowIn t (r ∷ rs)
    later w = record { row = w.row; among = In.there w.among; refers = w.refers }

    step : In t (reference_in r) ⊎ In t (references_in rs) → (In t (references_in rs) → RowIn t rs) → RowIn t (r ∷ rs)
    step (inl j) again = record { row = r; among = In.here; refers = j }
    step (inr j) again = later (again j)

pub row-reference : {t : Text} {r : Row} {rs : List Row} → In r rs → In t (reference_in r) → In t (references_in rs)
unfolding references_in
row-reference {t} {r} {rs} In.here i = in_left _ i
row-reference {t} {r} {rs} (In.there {y} j) i = in_right (reference_in y) (row-reference j i)

-- ---- what a row leads to
pub record Targets (f : ℕ → Row) (end : ℕ) (to : List ℕ) : Type 0 where
  pub hit : (row : ℕ) → 0 < row → row < end → 0 < get_or to row 0 → (get_or to row 0 < end) × (is_head f (get_or to row 0) ≡ true) × In (text 0 (f (get_or to row 0))) (asked (f row))
  pub found : (row q : ℕ) → 0 < row → row < end → 0 < q → q < end → is_head f q ≡ true → In (text 0 (f q)) (asked (f row)) → get_or to row 0 ≡ q

-- the order of a graph's rows: "Then roots, then types, children behind each"
pub record Ordered (f : ℕ → Row) (end : ℕ) : Type 0 where
  pub first : is_head f 1 ≡ false
  pub roots : (row : ℕ) → 1 ≤ row → row < end → ((i : ℕ) → 1 ≤ i → i ≤ row → is_head f i ≡ false) → (t : Text) → In t (asked (f row)) → (f row).tag ≡ root_tag
  pub children : (p row : ℕ) → 0 < p → p ≤ row → row < end → is_head f p ≡ true → (f row).tag ≡ root_tag → ⊥

pub record Flagged (f : ℕ → Row) (end : ℕ) (tags : List ℕ) : Type 0 where
  pub long : length tags ≡ end
  pub flag : (i : ℕ) → i < end → get_or tags i 0 ≡ bit (is_head f i)

bit-plain : (b : Bool) → bit b ≡ 0 → b ≡ false
unfolding bit
bit-plain true h = absurd (let no : ⊥ = omega arith in no)
bit-plain false h = refl

asked-root : (r : Row) → r.tag ≡ root_tag → asked r ≡ root_type r ∷ []
unfolding asked
asked-root r e = rw e

asked-reference : (r : Row) → (r.tag ≡ root_tag → ⊥) → asked r ≡ reference_in r
unfolding asked
asked-reference r h = rw (ne_eqb r.tag root_tag h)

module _ (f : ℕ → Row) (m end : ℕ) (whole : 1 + m ≡ end) (tags to : List ℕ) (order : Ordered f end) (flagged : Flagged f end tags) (targets : Targets f end to) where
  abbrev graph : Parted
  graph = parted (rows_by_place f 1 m)

  plain_at : (i : ℕ) → i < end → get_or tags i 0 ≡ 0 → is_head f i ≡ false
  plain_at i l z = bit-plain (is_head f i) (sym (flagged.flag i l) ∙ z)

  -- a row of a head's group is a row of its type
  group-row : (p row : ℕ) → InGroup tags p row → In (f row) (f p ∷ (type_at f end p).children)
  unfolding type_at
  group-row p row g = by_place (eqb row p) refl
    where
      by_place : (b : Bool) → eqb row p ≡ b → In (f row) (f p ∷ (parted (rows_by_place f (suc p) (end - suc p))).front)
      by_place true e = rw (eqb-true row p e) In.here
      by_place false e =
          let inside : row < end = omega (arith, g.inside, flagged.long) in
          let behind : p < row = omega (arith, g.from, eqb-false row p e) in
          In.there (place-front f end (end - suc p) (suc p) row (omega arith) (omega arith) inside (λ i a b. plain_at i (omega arith) (g.children i (omega arith) b)))

  -- and a row of the first group is one of the front
  front-row : (row : ℕ) → InGroup tags 1 row → ((i : ℕ) → 1 ≤ i → i ≤ row → is_head f i ≡ false)
  front-row row g i a b = by_place (eqb i 1) refl
    where
      by_place : (c : Bool) → eqb i 1 ≡ c → is_head f i ≡ false
      by_place true e = rw (eqb-true i 1 e) order.first
      by_place false e = plain_at i (omega (arith, g.inside, flagged.long)) (g.children i (omega (arith, eqb-false i 1 e)) b)

  pub record ReachedType (q : ℕ) : Type 0 where
    pub above : 0 < q
    pub inside : q < end
    pub head : is_head f q ≡ true
    pub chain : Chain graph (type_at f end q)

  -- a step from the first group, and one from a type's
  root-step : (q : ℕ) → Leads tags to 1 q → ReachedType q
  unfolding type_name type_at
  root-step q l =
      let row = l.row in
      let g = l.in_group in
      let inside : row < end = omega (arith, g.inside, flagged.long) in
      let h = rw l.target at (targets.hit row (omega (arith, g.from)) inside (rw l.target l.some)) in
      let plain = front-row row g in
      let root = order.roots row g.from inside plain (text 0 (f q)) h.2 in
      let among = place-front f end m 1 row whole g.from inside plain in
      record {
        above = l.some;
        inside = h.0;
        head = h.1;
        chain = Chain.from_root (f row) (type_at f end q) among root (place-type f end m 1 q whole l.some h.0 h.1) (in_one (rw (asked-root (f row) root) at h.2));
      }

  type-step : (p q : ℕ) → ReachedType p → Leads tags to p q → ReachedType q
  unfolding type_name references type_at
  type-step p q w l =
      let row = l.row in
      let g = l.in_group in
      let inside : row < end = omega (arith, g.inside, flagged.long) in
      let h = rw l.target at (targets.hit row (omega (arith, g.from, w.above)) inside (rw l.target l.some)) in
      let reference = asked-reference (f row) (λ e. order.children p row w.above g.from inside w.head e) in
      record {
        above = l.some;
        inside = h.0;
        head = h.1;
        chain = Chain.onward (type_at f end p) (type_at f end q) w.chain (place-type f end m 1 q whole l.some h.0 h.1) (row-reference (group-row p row g) (rw reference at h.2));
      }

  pub reached-type : {q : ℕ} → ReachedPlace tags to q → (q ≡ 1) ⊎ ReachedType q
  reached-type ReachedPlace.start = inl refl
  reached-type (ReachedPlace.onward p q r l) = inr (step (reached-type r))
    where
      step : (p ≡ 1) ⊎ ReachedType p → ReachedType q
      step (inl e) = root-step q (rw e at l)
      step (inr w) = type-step p q w l

  -- ---- the way back
  -- a row of a type stands in its head's group
  pub record GroupRow (p : ℕ) (r : Row) : Type 0 where
    pub at : ℕ
    pub in_group : InGroup tags p at
    pub is : r ≡ f at

  flag-plain : (i : ℕ) → i < end → is_head f i ≡ false → get_or tags i 0 ≡ 0
  unfolding bit
  flag-plain i l h = flagged.flag i l ∙ rw h

  row-group : (p : ℕ) {r : Row} → p < end → In r (f p ∷ (type_at f end p).children) → GroupRow p r
  unfolding type_at
  row-group p {r} l i = step (in-cons i)
    where
      behind : RowOf f end (suc p) r → GroupRow p r
      behind w =
          record {
            at = w.at;
            in_group = record { from = omega (arith, w.from); inside = rw flagged.long w.inside; children = λ i a b. flag-plain i (omega (arith, w.inside)) (w.plain i (omega arith) b) };
            is = w.is;
          }

      step : (r ≡ f p) ⊎ In r (parted (rows_by_place f (suc p) (end - suc p))).front → GroupRow p r
      step (inl e) = record { at = p; in_group = record { from = omega arith; inside = rw flagged.long l; children = λ i a b. absurd (let no : ⊥ = omega arith in no) }; is = e }
      step (inr j) = behind (front-place f end (end - suc p) (suc p) (omega arith) j)

  leads-to : (p row q : ℕ) → InGroup tags p row → 0 < p → 0 < q → q < end → is_head f q ≡ true → In (text 0 (f q)) (asked (f row)) → Leads tags to p q
  leads-to p row q g a b c h i =
      record { row = row; in_group = g; target = targets.found row q (omega (arith, g.from)) (omega (arith, g.inside, flagged.long)) b c h i; some = b }

  root-reached : (root : Row) (q : ℕ) → In root graph.front → root.tag ≡ root_tag → 0 < q → q < end → is_head f q ≡ true → text 0 (f q) ≡ root_type root → ReachedPlace tags to q
  root-reached root q i e b c h n =
      let w = front-place f end m 1 whole i in
      let g : InGroup tags 1 w.at = record { from = w.from; inside = rw flagged.long w.inside; children = λ i a b. flag-plain i (omega (arith, w.inside)) (w.plain i (omega arith) b) } in
      let tag : (f w.at).tag ≡ root_tag = ap (λ (r : Row). r.tag) (sym w.is) ∙ e in
      let name : text 0 (f q) ≡ root_type (f w.at) = n ∙ ap root_type w.is in
      let named : In (text 0 (f q)) (asked (f w.at)) = rw (asked-root (f w.at) tag, name) In.here in
      ReachedPlace.onward 1 q ReachedPlace.start (leads-to 1 w.at q g (omega arith) b c h named)

  onward-reached : (t u : GraphType) (q : ℕ) (p : PlaceOf f end 1 t) → ReachedPlace tags to p.at → In (type_name u) (references t) → 0 < q → q < end → is_head f q ≡ true
      → u ≡ type_at f end q → ReachedPlace tags to q
  unfolding type_name type_at references
  onward-reached t u q p reached n b c h s =
      let w = reference-row (text 0 (f q)) (f p.at ∷ (type_at f end p.at).children) (rw (s, p.is) at n) in
      let g = row-group p.at p.inside w.among in
      let reference = asked-reference (f g.at) (λ e. order.children p.at g.at (omega (arith, p.from)) g.in_group.from (omega (arith, g.in_group.inside, flagged.long)) p.head e) in
      ReachedPlace.onward p.at q reached (leads-to p.at g.at q g.in_group (omega (arith, p.from)) b c h (rw (reference, ← g.is) w.refers))

  pub chain-reached : {t : GraphType} → Chain graph t → (q : ℕ) → 0 < q → q < end → is_head f q ≡ true → t ≡ type_at f end q → ReachedPlace tags to q
  unfolding type_name type_at references
  chain-reached (Chain.from_root root t r e i n) q b c h s = root-reached root q r e b c h (rw s at n)
  chain-reached (Chain.onward t u k i n) q b c h s =
      let p = type-place f end m 1 whole (chain-in k) in
      let reached = chain-reached k p.at (omega (arith, p.from)) p.inside p.head p.is in
      onward-reached t u q p reached n b c h s

  pub reached-chain : {q : ℕ} → ReachedPlace tags to q → is_head f q ≡ true → Chain graph (type_at f end q)
  reached-chain {q} r h = step (reached-type r)
    where
      step : (q ≡ 1) ⊎ ReachedType q → Chain graph (type_at f end q)
      step (inl e) = absurd (false≢true (sym order.first ∙ rw e at h))
      step (inr w) = w.chain
