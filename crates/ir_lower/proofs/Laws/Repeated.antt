-- Which head is the first whose name came before: there is none exactly where no name stands twice, and the row is that of the first of them, whatever
-- stands behind it. Assumes nothing.
use Prim.Native.Nat.{◌+◌, ℕ}
use mathlib.Core.Path.{◌≡◌, refl, ap, ◌∙◌}
use mathlib.Core.Logic.{◌↔◌, ⊎_elim}
use mathlib.Core.Bool.{true}
use lib.ListN.{length}
use mathlib.Core.List.{List, [], ◌∷◌, ◌++◌, map, map-append, append-nil}
use mathlib.Core.Option.{some, none, some-injective}
use native.Mathlib.Omega.{arith}
use lib.Seq.{append_snoc}
use Rattle.xsd_types.specs.Rows.{item_rows}
use Rattle.text.specs.Text.{Text}
use Rattle.std.proofs.lemmas.Bool.{cases_Bool}
use Rattle.xsd_types.specs.Types.{Item, Schema, simple_types, complex_types}
use Rattle.ir_types.specs.Distinct.{among, distinct_texts}
use Rattle.ir_types.proofs.Laws.Distinct.{distinct_snoc, distinct-before}
use Rattle.ir_lower.specs.Finished.{simple_name, complex_name, finished_names}
use Rattle.ir_lower.specs.Repeated.{Head, simple_head, complex_head, heads_of, heads, type_head_names, first_repeated, repeated_row, FirstRepeat}

-- ---- the heads' names are the finished types'

simple-heads : (row : ℕ) (is : List Item) → type_head_names (heads_of simple_head row is) ≡ map simple_name (simple_types is)
unfolding type_head_names heads_of simple_head simple_types
simple-heads row [] = refl
simple-heads row (Item.element e ∷ is) = simple-heads (row + length (item_rows (Item.element e))) is
simple-heads row (Item.simple_type t ∷ is) = ap (λ (l : List Text). simple_name t ∷ l) (simple-heads (row + length (item_rows (Item.simple_type t))) is)
simple-heads row (Item.complex_type t ∷ is) = simple-heads (row + length (item_rows (Item.complex_type t))) is

complex-heads : (row : ℕ) (is : List Item) → type_head_names (heads_of complex_head row is) ≡ map complex_name (complex_types is)
unfolding type_head_names heads_of complex_head complex_types
complex-heads row [] = refl
complex-heads row (Item.element e ∷ is) = complex-heads (row + length (item_rows (Item.element e))) is
complex-heads row (Item.simple_type t ∷ is) = complex-heads (row + length (item_rows (Item.simple_type t))) is
complex-heads row (Item.complex_type t ∷ is) = ap (λ (l : List Text). complex_name t ∷ l) (complex-heads (row + length (item_rows (Item.complex_type t))) is)

pub heads-names : (row : ℕ) (s : Schema) → type_head_names (heads row s.items) ≡ finished_names s
unfolding heads type_head_names finished_names
heads-names row s =
    map-append (λ (h : Head). h.name) (heads_of simple_head row s.items) (heads_of complex_head row s.items)
    ∙ rw (simple-heads row s.items, complex-heads row s.items)

-- ---- none exactly where no name stands twice

pub none-distinct : (seen : List Text) (hs : List Head) → distinct_texts seen ≡ true → first_repeated seen hs ≡ none → distinct_texts (seen ++ type_head_names hs) ≡ true
unfolding first_repeated type_head_names
none-distinct seen [] d e = rw (append-nil seen) d
none-distinct seen (h ∷ hs) d e =
    ⊎_elim (λ k. let z : ◌≡◌ {A = ℕ} 0 1 = let q = rw k at e in cc in absurd (omega arith))
    (λ k. rw (append_snoc seen h.name (map (λ (x : Head). x.name) hs)) at (none-distinct (seen ++ (h.name ∷ [])) hs (distinct_snoc h.name seen d k) (rw k at e)))
    (cases_Bool (among h.name seen))

distinct_none : (seen : List Text) (hs : List Head) → distinct_texts (seen ++ type_head_names hs) ≡ true → first_repeated seen hs ≡ none
unfolding first_repeated type_head_names
distinct_none seen [] d = refl
distinct_none seen (h ∷ hs) d =
    rw (distinct-before h.name seen (map (λ (x : Head). x.name) hs) d)
    (distinct_none (seen ++ (h.name ∷ [])) hs (rw (append_snoc seen h.name (map (λ (x : Head). x.name) hs)) d))

pub repeated-none : (s : Schema) → (repeated_row s ≡ none) ↔ (distinct_texts (finished_names s) ≡ true)
unfolding repeated_row distinct_texts
repeated-none s =
    (λ e. rw (heads-names 2 s) at (none-distinct [] (heads 2 s.items) refl e), λ d. distinct_none [] (heads 2 s.items) (rw (heads-names 2 s) d))

-- ---- one list behind another

pub repeated-append : (seen : List Text) (hs ks : List Head) → first_repeated seen hs ≡ none → first_repeated seen (hs ++ ks) ≡ first_repeated (seen ++ type_head_names hs) ks
unfolding first_repeated type_head_names
repeated-append seen [] ks e = rw (append-nil seen)
repeated-append seen (h ∷ hs) ks e =
    ⊎_elim (λ k. let z : ◌≡◌ {A = ℕ} 0 1 = let q = rw k at e in cc in absurd (omega arith))
    (λ k. rw k (repeated-append (seen ++ (h.name ∷ [])) hs ks (rw k at e) ∙ rw (append_snoc seen h.name (map (λ (x : Head). x.name) hs))))
    (cases_Bool (among h.name seen))

pub repeated-stays : (seen : List Text) (hs ks : List Head) (row : ℕ) → first_repeated seen hs ≡ some row → first_repeated seen (hs ++ ks) ≡ some row
unfolding first_repeated
repeated-stays seen [] ks row e = let z : ◌≡◌ {A = ℕ} 0 1 = cc in absurd (omega arith)
repeated-stays seen (h ∷ hs) ks row e =
    ⊎_elim (λ k. rw k (rw k at e)) (λ k. rw k (repeated-stays (seen ++ (h.name ∷ [])) hs ks row (rw k at e))) (cases_Bool (among h.name seen))

-- ---- the place

-- a head more before the others
further : (seen : List Text) (h : Head) (hs : List Head) (row : ℕ) → FirstRepeat (seen ++ (h.name ∷ [])) hs row → FirstRepeat seen (h ∷ hs) row
unfolding type_head_names
further seen h hs row f =
    record {
      before = h ∷ f.before;
      head = f.head;
      behind = f.behind;
      made = ap (λ (l : List Head). h ∷ l) f.made;
      new = rw (append_snoc seen h.name (map (λ (x : Head). x.name) f.before)) at f.new;
      came = rw (append_snoc seen h.name (map (λ (x : Head). x.name) f.before)) at f.came;
      place = f.place;
    }

some_first : (seen : List Text) (hs : List Head) (row : ℕ) → distinct_texts seen ≡ true → first_repeated seen hs ≡ some row → FirstRepeat seen hs row
unfolding first_repeated type_head_names
some_first seen [] row d e = let z : ◌≡◌ {A = ℕ} 0 1 = cc in absurd (omega arith)
some_first seen (h ∷ hs) row d e =
    ⊎_elim
    (λ k. record { before = []; head = h; behind = hs; made = refl; new = rw (append-nil seen) d; came = rw (append-nil seen) k; place = some-injective _ _ (rw k at e) })
    (λ k. further seen h hs row (some_first (seen ++ (h.name ∷ [])) hs row (distinct_snoc h.name seen d k) (rw k at e)))
    (cases_Bool (among h.name seen))

pub repeated-first : (s : Schema) (row : ℕ) → repeated_row s ≡ some row → FirstRepeat [] (heads 2 s.items) row
unfolding repeated_row distinct_texts
repeated-first s row e = some_first [] (heads 2 s.items) row refl e
