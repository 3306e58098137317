-- What a hashed table says of the names entered. Why a name is found by its bucket alone: behind the last entry of its bucket a name does not stand, so the place of
-- a name among the first n entries is its place among the first as many as the last entry of its bucket counts. A walk along a bucket keeps that, and its
-- count falls. Assumes nothing.
use Rattle.std.specs.Prelude.{if◌then◌else◌, Option, Some, None}
use Prim.Native.Nat.{ℕ, zero, suc, ◌+◌, ◌-◌, ◌*◌, ◌/◌, ◌%◌, ◌≤◌, ◌<◌}
use mathlib.Core.Path.{◌≡◌, refl, sym, ap, ◌∙◌}
use mathlib.Core.Bool.{Bool, true, false}
use mathlib.Core.List.{List}
use native.Mathlib.Omega.{arith}
use native.Mathlib.Nat.{le_refl, not-suc-le-zero}
use native.Mathlib.Numerals.{add-one}
use lib.Dec.{eqb}
use lib.ListN.{length, get_or, drop, set, replicate, get_or-append, length-set, length-replicate, get_or-replicate}
use lib.Seq.{paste, length-paste, take_all, get_or-set_same, get_or-set_other}
use borrow.Author.Tests.{eqb-true, eqb-false, eq-eqb}
use Rattle.text.specs.Text.{Text, same}
use Rattle.text.proofs.Laws.Tests.{if-cases, bool_cases}
use Rattle.text.proofs.Laws.Texts.{same-differ}
use Rattle.name_index.specs.Hash.{bucket_of}
use Rattle.name_index.specs.Index.{spelled_name_at, place_from, place_of, places_in, last_in, in_bucket, chain, place_in, name_in, Index, Starts, Entering, Added}
use Rattle.name_index.proofs.Laws.Hash.{bucket-below}
use Rattle.name_index.proofs.Laws.Places.{place-more, places-more, places-set, places-same}

-- the place of the last of the first n entries that has a name
unfoldable pub place_to : (ℕ → Text) → (ℕ → ℕ) → Text → ℕ → Option ℕ
place_to name place t zero = None
place_to name place t (suc n) = if same (name n) t then Some (place n) else place_to name place t n

-- names of other buckets are other names
other-bucket : (k : ℕ) (s t : Text) → eqb (bucket_of k s) (bucket_of k t) ≡ false → same s t ≡ false
other-bucket k s t e = same-differ s t (λ h. eqb-false _ _ e (ap (bucket_of k) h))

module _ (k : ℕ) (name : ℕ → Text) where
  last-bound : (b n : ℕ) → last_in k b name n ≤ n
  unfolding last_in
  last-bound b zero = omega arith
  last-bound b (suc n) = if-cases (λ r. r ≤ suc n) (eqb (bucket_of k (name n)) b) (λ e. omega arith) (λ e. omega (arith, last-bound b n))

  last-bucket : (b n : ℕ) → 0 < last_in k b name n → bucket_of k (name (last_in k b name n - 1)) ≡ b
  unfolding last_in
  last-bucket b zero = λ h. absurd (omega arith)
  last-bucket b (suc n) =
      if-cases
      (λ r. 0 < r → bucket_of k (name (r - 1)) ≡ b)
      (eqb (bucket_of k (name n)) b)
      (λ e h. ap (λ (j : ℕ). bucket_of k (name j)) (omega arith) ∙ eqb-true _ _ e)
      (λ e. last-bucket b n)

  -- the names of the first n entries alone count
  pub last-same : (other : ℕ → Text) (b n : ℕ) → ((j : ℕ) → j < n → name j ≡ other j) → last_in k b name n ≡ last_in k b other n
  unfolding last_in
  last-same other b zero h = refl
  last-same other b (suc n) h = rw (h n (omega arith), last-same other b n (λ j l. h j (omega arith)))

  place-last : (place : ℕ → ℕ) (t : Text) (n : ℕ) → place_to name place t n ≡ place_to name place t (last_in k (bucket_of k t) name n)
  unfolding place_to last_in
  place-last place t zero = refl
  place-last place t (suc n) =
      if-cases
      (λ r. (if same (name n) t then Some (place n) else place_to name place t n) ≡ place_to name place t r)
      (eqb (bucket_of k (name n)) (bucket_of k t))
      (λ e. refl)
      (λ e. rw (other-bucket k (name n) t e) (place-last place t n))

  -- how many are in a bucket
  count-last : (b n : ℕ) → in_bucket k b name n ≡ in_bucket k b name (last_in k b name n)
  unfolding in_bucket last_in
  count-last b zero = refl
  count-last b (suc n) =
      if-cases
      (λ r. (if eqb (bucket_of k (name n)) b then suc (in_bucket k b name n) else in_bucket k b name n) ≡ in_bucket k b name r)
      (eqb (bucket_of k (name n)) b)
      (λ e. refl)
      (λ e. rw e (count-last b n))

  count-first : (b e : ℕ) → 0 < e → bucket_of k (name (e - 1)) ≡ b → in_bucket k b name e ≡ suc (in_bucket k b name (e - 1))
  unfolding in_bucket
  count-first b zero h i = absurd (let no : ⊥ = omega arith in no)
  count-first b (suc e) h i =
      let is : suc e - 1 ≡ e = omega arith in
      rw (is, eq-eqb (bucket_of k (name e)) b (rw is at i))

  pub count-same : (other : ℕ → Text) (b n : ℕ) → ((j : ℕ) → j < n → name j ≡ other j) → in_bucket k b name n ≡ in_bucket k b other n
  unfolding in_bucket
  count-same other b zero h = refl
  count-same other b (suc n) h = rw (h n (omega arith), count-same other b n (λ j l. h j (omega arith)))

-- the definition by the list of places
pub place-to : (rows names : List ℕ) (normalised : Bool) (table : List ℕ) (k : ℕ) (t : Text) (n : ℕ) → k + n ≤ length table
    → place_of (spelled_name_at rows names normalised) t (places_in k n table) ≡ place_to (name_in rows names normalised table k) (place_in table k) t n
unfolding place_to place_of place_from places_in
place-to rows names normalised table k t zero h = refl
place-to rows names normalised table k t (suc n) h =
    rw (places-more k n table (omega arith), place-more (spelled_name_at rows names normalised) t (places_in k n table) (place_in table k n))
    (ap (λ (r : Option ℕ). if same (name_in rows names normalised table k n) t then Some (place_in table k n) else r) (place-to rows names normalised table k t n (omega arith)))

-- ---- a walk along a bucket: the place of t among the first n entries is that among the first e, the last of which is in its bucket

pub record Onward (rows names : List ℕ) (normalised : Bool) (table : List ℕ) (k : ℕ) (t : Text) (n e passed : ℕ) : Type 0 where
  pub bound : e ≤ n
  pub place : place_to (name_in rows names normalised table k) (place_in table k) t n ≡ place_to (name_in rows names normalised table k) (place_in table k) t e
  pub bucket : 0 < e → bucket_of k (name_in rows names normalised table k (e - 1)) ≡ bucket_of k t
  pub count : passed + in_bucket k (bucket_of k t) (name_in rows names normalised table k) e ≡ in_bucket k (bucket_of k t) (name_in rows names normalised table k) n

-- among the first e: it is the last of them, or before it
place-first : (name : ℕ → Text) (place : ℕ → ℕ) (t : Text) (e : ℕ) → 0 < e → place_to name place t e ≡ (if same (name (e - 1)) t then Some (place (e - 1)) else place_to name place t (e - 1))
unfolding place_to
place-first name place t zero h = absurd (omega arith)
place-first name place t (suc e) h = ap (λ (j : ℕ). if same (name j) t then Some (place j) else place_to name place t j) (omega arith)

pub bucket-inside : {rows names : List ℕ} {normalised : Bool} {table : List ℕ} {k n b : ℕ} {sorted : Bool} (t : Text)
    → Index rows names normalised table k n sorted → b ≡ bucket_of k t → b < length table
bucket-inside {k = k} t w e = rw e (omega (arith, bucket-below k t w.some, w.inside))

module _ {rows names : List ℕ} {normalised : Bool} {table : List ℕ} {k n : ℕ} (w : Index rows names normalised table k n false) (t : Text) where
  to_last : (e e' passed : ℕ) → e ≤ n
      → place_to (name_in rows names normalised table k) (place_in table k) t n ≡ place_to (name_in rows names normalised table k) (place_in table k) t e
      → passed + in_bucket k (bucket_of k t) (name_in rows names normalised table k) e ≡ in_bucket k (bucket_of k t) (name_in rows names normalised table k) n
      → e' ≡ last_in k (bucket_of k t) (name_in rows names normalised table k) e → Onward rows names normalised table k t n e' passed
  to_last e e' passed b a c h =
      let name = name_in rows names normalised table k in
      record {
        bound = rw h (omega (arith, last-bound k name (bucket_of k t) e));
        place = a ∙ rw h (place-last k name (place_in table k) t e);
        bucket = rw h (last-bucket k name (bucket_of k t) e);
        count = rw (h, ← count-last k name (bucket_of k t) e) c;
      }

  pub walk_start : Onward rows names normalised table k t n (get_or table (bucket_of k t) 0) 0
  walk_start = to_last n _ 0 (le_refl n) refl (omega arith) (w.arranged.heads (bucket_of k t) (bucket-below k t w.some))

  module _ {e passed : ℕ} (o : Onward rows names normalised table k t n e passed) where
    pub walk-hit : 0 < e → same (name_in rows names normalised table k (e - 1)) t ≡ true → Some (place_in table k (e - 1)) ≡ place_of (spelled_name_at rows names normalised) t (places_in k n table)
    walk-hit h e' =
        sym (place-to rows names normalised table k t n w.inside ∙ o.place ∙ place-first (name_in rows names normalised table k) (place_in table k) t e h ∙ rw e')

    pub walk_end : e ≡ 0 → None ≡ place_of (spelled_name_at rows names normalised) t (places_in k n table)
    unfolding place_to
    walk_end h = sym (place-to rows names normalised table k t n w.inside ∙ o.place ∙ rw h)

    -- all of the bucket were passed
    pub walk_count : e ≡ 0 → passed ≡ in_bucket k (bucket_of k t) (name_in rows names normalised table k) n
    unfolding in_bucket
    walk_count h = omega (arith, rw h at o.count)

    walk-left : 0 < e → in_bucket k (bucket_of k t) (name_in rows names normalised table k) e ≡ suc (in_bucket k (bucket_of k t) (name_in rows names normalised table k) (e - 1))
    walk-left h = count-first k (name_in rows names normalised table k) (bucket_of k t) e h (o.bucket h)

    pub walk-few : 0 < e → passed < chain
    walk-few h = omega (arith, walk-left h, o.count, w.arranged.short (bucket_of k t))

    -- an entry of another name: the walk goes on before it
    pub walk_more : 0 < e → same (name_in rows names normalised table k (e - 1)) t ≡ false → Onward rows names normalised table k t n (get_or table (k + (e - 1)) 0 / 65536) (passed + 1)
    walk_more h other =
        to_last
        (e - 1)
        _
        (passed + 1)
        (omega (arith, o.bound))
        (o.place ∙ place-first (name_in rows names normalised table k) (place_in table k) t e h ∙ rw other)
        (omega (arith, walk-left h, o.count))
        (w.arranged.nexts (e - 1) (omega (arith, o.bound)) ∙ rw (o.bucket h))

    pub walk-less : 0 < e → get_or table (k + (e - 1)) 0 / 65536 < e
    walk-less h =
        let name = name_in rows names normalised table k in
        rw (w.arranged.nexts (e - 1) (omega (arith, o.bound))) (omega (arith, last-bound k name (bucket_of k (name (e - 1))) (e - 1)))

-- ---- an index of no heads

pub index-none : (rows names : List ℕ) (normalised : Bool) {table : List ℕ} {k : ℕ} → Starts table k → ((b : ℕ) → b < k → get_or table b 0 ≡ 0) → Index rows names normalised table k 0 false
unfolding last_in in_bucket
index-none rows names normalised s z =
    record {
      some = s.some;
      inside = omega (arith, s.inside);
      small = s.small;
      placed = λ j l. absurd (not-suc-le-zero l);
      arranged = record { heads = z; nexts = λ j l. absurd (not-suc-le-zero l); short = λ b. omega arith; once = λ j l. absurd (not-suc-le-zero l) };
    }

-- the buckets set to 0
module _ (rows names : List ℕ) (normalised : Bool) {table : List ℕ} {k : ℕ} (s : Starts table k) where
  abbrev zeroed : List ℕ
  zeroed = replicate k 0

  zeroed-size : length zeroed ≡ k
  zeroed-size = length-replicate {A = ℕ} k 0

  same_size : length (paste table 0 zeroed k) ≡ length table
  same_size = length-paste table 0 zeroed k (omega (arith, s.inside)) (omega (arith, zeroed-size))

  bucket-zero : (b : ℕ) → b < k → get_or (paste table 0 zeroed k) b 0 ≡ 0
  bucket-zero b l =
      rw (take_all k zeroed (omega (arith, zeroed-size)))
      (get_or-append zeroed (drop (0 + k) table) 0 b (omega (arith, zeroed-size)) ∙ get_or-replicate {A = ℕ} k b 0 0 l)

  pub index-start : Index rows names normalised (paste table 0 zeroed k) k 0 false
  index-start =
      index-none
      rows
      names
      normalised
      (record { some = s.some; inside = rw same_size s.inside; small = rw same_size s.small })
      bucket-zero

-- ---- one head more

-- the number of its entry, and the table with it
abbrev pub entry_of : List ℕ → ℕ → ℕ → ℕ
entry_of table b p = p + 65536 * get_or table b 0

abbrev pub table_with : List ℕ → ℕ → ℕ → ℕ → ℕ → List ℕ
table_with table k n b p = set (set table (k + n) (entry_of table b p)) b (n + 1)

module _ {rows names : List ℕ} {normalised : Bool} {table : List ℕ} {k n p : ℕ} (w : Index rows names normalised table k n false) (v : Entering rows table k n p) where
  abbrev its_bucket : ℕ
  its_bucket = bucket_of k (spelled_name_at rows names normalised p)

  abbrev after : List ℕ
  after = table_with table k n its_bucket p

  pub bucket-in : its_bucket < k
  bucket-in = bucket-below k (spelled_name_at rows names normalised p) w.some

  pub before-bound : {b : ℕ} → b ≡ its_bucket → get_or table b 0 ≤ n
  before-bound e = rw (e, w.arranged.heads its_bucket bucket-in) (last-bound k (name_in rows names normalised table k) its_bucket n)

  pub place-small : p < 4096
  place-small = omega (arith, v.inside, v.small)

  entry-low : entry_of table its_bucket p % 65536 ≡ p
  entry-low = omega (arith, place-small)

  entry-high : entry_of table its_bucket p / 65536 ≡ get_or table its_bucket 0
  entry-high = omega (arith, place-small)

  -- the entries before it stay, and it is the n-th
  entry-stays : (j : ℕ) → j < n → get_or after (k + j) 0 ≡ get_or table (k + j) 0
  entry-stays j l =
      get_or-set_other (set table (k + n) (entry_of table its_bucket p)) its_bucket (k + j) (n + 1) 0 (λ x. omega (arith, bucket-in))
      ∙ get_or-set_other table (k + n) (k + j) (entry_of table its_bucket p) 0 (λ x. omega arith)

  entry_new : get_or after (k + n) 0 ≡ entry_of table its_bucket p
  entry_new =
      get_or-set_other (set table (k + n) (entry_of table its_bucket p)) its_bucket (k + n) (n + 1) 0 (λ x. omega (arith, bucket-in))
      ∙ get_or-set_same table (k + n) (entry_of table its_bucket p) 0 v.room

  name-stays : (j : ℕ) → j < n → name_in rows names normalised table k j ≡ name_in rows names normalised after k j
  name-stays j l = ap (λ (e : ℕ). spelled_name_at rows names normalised (e % 65536)) (sym (entry-stays j l))

  place-new : place_in after k n ≡ p
  place-new = ap (λ (e : ℕ). e % 65536) entry_new ∙ entry-low

  last-stays : (b m : ℕ) → m ≤ n → last_in k b (name_in rows names normalised table k) m ≡ last_in k b (name_in rows names normalised after k) m
  last-stays b m l = last-same k (name_in rows names normalised table k) (name_in rows names normalised after k) b m (λ j h. name-stays j (omega arith))

  placed-after : (j : ℕ) → j < n + 1 → (0 < place_in after k j) × (10 * place_in after k j + 10 ≤ length rows)
  placed-after j l =
      bool_cases
      (eqb j n)
      (λ e. rw (eqb-true j n e, place-new) (v.above, v.inside))
      (λ e. let h : j < n = omega (arith, eqb-false j n e) in rw (entry-stays j h) (w.placed j h))

  head-after : (b : ℕ) → b < k → get_or after b 0 ≡ last_in k b (name_in rows names normalised after k) (suc n)
  unfolding last_in
  head-after b l =
      rw place-new
      (bool_cases
      (eqb its_bucket b)
      (λ e. rw (e, sym (eqb-true its_bucket b e))
      (get_or-set_same (set table (k + n) (entry_of table its_bucket p)) its_bucket (n + 1) 0 (rw length-set (omega (arith, bucket-in, w.inside))) ∙ add-one n))
      (λ e.
      rw e
      (get_or-set_other (set table (k + n) (entry_of table its_bucket p)) its_bucket b (n + 1) 0 (λ x. eqb-false its_bucket b e (sym x))
      ∙ get_or-set_other table (k + n) b (entry_of table its_bucket p) 0 (λ x. omega arith) ∙ w.arranged.heads b l ∙ last-stays b n (le_refl n))))

  next-after : (j : ℕ) → j < n + 1 → get_or after (k + j) 0 / 65536 ≡ last_in k (bucket_of k (name_in rows names normalised after k j)) (name_in rows names normalised after k) j
  next-after j l =
      bool_cases
      (eqb j n)
      (λ e. rw (eqb-true j n e, place-new, entry_new) (entry-high ∙ w.arranged.heads its_bucket bucket-in ∙ last-stays its_bucket n (le_refl n)))
      (λ e.
      let h : j < n = omega (arith, eqb-false j n e) in
      rw (entry-stays j h) (w.arranged.nexts j h ∙ last-stays _ j (omega arith)))

  name-new : name_in rows names normalised after k n ≡ spelled_name_at rows names normalised p
  name-new = ap (spelled_name_at rows names normalised) place-new

  -- its bucket has one entry more, and the others have as many
  short-after : in_bucket k its_bucket (name_in rows names normalised table k) n < chain → (b : ℕ) → in_bucket k b (name_in rows names normalised after k) (suc n) ≤ chain
  unfolding in_bucket
  short-after f b =
      let stays = count-same k (name_in rows names normalised table k) (name_in rows names normalised after k) b n name-stays in
      rw name-new
      (bool_cases
      (eqb its_bucket b)
      (λ e. rw (e, ← stays, ← eqb-true its_bucket b e) f)
      (λ e. rw (e, ← stays) (w.arranged.short b)))

  places-before : (j : ℕ) → j < n + 1 → places_in k j after ≡ places_in k j table
  places-before j l =
      places-same k j table after (sym (length-set _ _ _ ∙ length-set _ _ _)) (omega (arith, w.inside)) (λ i h. entry-stays i (omega arith))

  once-after : place_of (spelled_name_at rows names normalised) (spelled_name_at rows names normalised p) (places_in k n table) ≡ None
      → (j : ℕ) → j < n + 1 → place_of (spelled_name_at rows names normalised) (name_in rows names normalised after k j) (places_in k j after) ≡ None
  once-after f j l =
      rw (places-before j l)
      (bool_cases
      (eqb j n)
      (λ e. rw (eqb-true j n e, name-new) f)
      (λ e. let h : j < n = omega (arith, eqb-false j n e) in rw (← name-stays j h) (w.arranged.once j h)))

  pub enter-added : place_of (spelled_name_at rows names normalised) (spelled_name_at rows names normalised p) (places_in k n table) ≡ None
      → in_bucket k its_bucket (name_in rows names normalised table k) n < chain → Added rows names normalised table k n p after false
  enter-added new few =
      record {
        answers = λ t. ap (place_of (spelled_name_at rows names normalised) t) (places-set k n table (entry_of table its_bucket p) its_bucket (n + 1) v.room bucket-in ∙ rw entry-low);
        index =
            record {
              some = w.some;
              inside = rw (length-set, length-set) (omega (arith, v.room));
              small = rw (length-set, length-set) w.small;
              placed = placed-after;
              arranged =
                  record {
                    heads = λ b l. head-after b l ∙ rw add-one;
                    nexts = next-after;
                    short = λ b. omega (arith, short-after few b, ap (in_bucket k b (name_in rows names normalised after k)) (add-one n));
                    once = once-after new;
                  };
            };
      }
