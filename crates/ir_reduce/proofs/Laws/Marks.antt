-- Laws of the marking. Assumes nothing.
use mathlib.Core.Path.{◌≡◌, refl, sym, ap, ◌∙◌}
use mathlib.Core.Bool.{Bool, true, false, ◌&&◌, false≢true}
use mathlib.Core.List.{List, [], ◌∷◌}
use mathlib.Core.Logic.{◌⊎◌, inl, inr}
use Prim.Native.Nat.{ℕ, zero, suc, ◌+◌, ◌≤◌, ◌<◌}
use native.Mathlib.Omega.{arith}
use native.Mathlib.Nat.{add-zero, zero-add}
use native.Mathlib.Nat.{lt_of_not-le}
use lib.Dec.{eqb, ltb}
use borrow.Author.Tests.{eqb-true, eqb-false, ltb-true, lt-ltb}
use lib.ListN.{length, get_or, set, length-set}
use lib.Seq.{get_or-set_same, get_or-set_other}
use Rattle.std.proofs.lemmas.Bool.{and_parts}
use Rattle.sheet.specs.Rows.{bit}
use Rattle.ir_reduce.specs.Marks.{head_at, flags_from, head_flags, Leads, ReachedPlace, pick, marked_count, Marked, Targeted, Room, Grown, Led, GroupDone, AllDone, Queued, Marking, QueueMarked}

pub ones-set : (m : List ℕ) (i : ℕ) → i < length m → get_or m i 0 ≡ 0 → marked_count (set m i 1) ≡ suc (marked_count m)
unfolding marked_count
ones-set [] i h e = absurd (omega arith)
ones-set (x ∷ m) zero h e = rw e
ones-set (x ∷ m) (suc i) h e = rw (ones-set m i (omega arith) e) (pick-suc (eqb x 0) (marked_count m))
  where
    pick-suc : (b : Bool) (k : ℕ) → pick b (suc k) (suc (suc k)) ≡ suc (pick b k (suc k))
    pick-suc true k = refl
    pick-suc false k = refl

pick-bound : (b : Bool) (k n : ℕ) → k ≤ n → pick b k (suc k) ≤ suc n
pick-bound true k n h = omega arith
pick-bound false k n h = omega arith

pub ones-bound : (m : List ℕ) → marked_count m ≤ length m
unfolding marked_count
ones-bound [] = omega arith
ones-bound (x ∷ m) = pick-bound (eqb x 0) (marked_count m) (length m) (ones-bound m)

pub ones-less : (m : List ℕ) (i : ℕ) → i < length m → get_or m i 0 ≡ 0 → marked_count m < length m
ones-less m i h e = let l : length (set m i 1) ≡ length m = length-set m i 1 in omega (arith, ones-set m i h e, ones-bound (set m i 1))

-- the mark at a place after one was set
module _ (m : List ℕ) (i : ℕ) (h : i < length m) where
  set-kept : (q : ℕ) → 0 < get_or m q 0 → 0 < get_or (set m i 1) q 0
  set-kept q k = by_cases (eqb q i) refl
    where
      by_cases : (b : Bool) → eqb q i ≡ b → 0 < get_or (set m i 1) q 0
      by_cases true e = rw (eqb-true q i e, get_or-set_same m i 1 0 h) (omega arith)
      by_cases false e = rw (get_or-set_other m i q 1 0 (eqb-false q i e)) k

-- ---- a place that is reached is marked
marking_step : {tags to marks queue : List ℕ} {n place : ℕ} (b : Bool) → eqb (get_or marks place 0) 0 ≡ b → Marking tags to marks queue n → ReachedPlace tags to place → place < length tags
    → Marking tags to (pick b (set marks place 1) marks) (pick b (set queue n place) queue) (pick b (n + 1) n)
marking_step false e w r h = w
marking_step {tags} {to} {marks} {queue} {n} {place} true e w r h =
    let z = eqb-true (get_or marks place 0) 0 e in
    let hm : place < length marks = omega (arith, w.long) in
    let hq : n < length queue = omega (arith, w.count, ones-less marks place hm z, w.long, w.room) in
    record {
      each = λ q k. cases q (eqb q place) refl (λ e'. rw (eqb-true q place e') r) (λ e'. w.each q (rw (get_or-set_other marks place q 1 0 (eqb-false q place e')) at k));
      queued = λ q k. cases q (eqb q place) refl (λ e'. record { at = n; before = omega arith; holds = get_or-set_same queue n place 0 hq ∙ sym (eqb-true q place e') })
          (λ e'. later q (w.queued q (rw (get_or-set_other marks place q 1 0 (eqb-false q place e')) at k)));
      held = λ i l. cases-at i (eqb i n) refl (λ e'. rw (eqb-true i n e', get_or-set_same queue n place 0 hq) (h, rw (get_or-set_same marks place 1 0 hm) (omega arith)))
          (λ e'. let o : i < n = omega (arith, eqb-false i n e') in rw (get_or-set_other queue n i place 0 (eqb-false i n e'))
          ((w.held i o).0, set-kept marks place hm (get_or queue i 0) (w.held i o).1));
      count = rw (ones-set marks place hm z) (omega (arith, w.count));
      long = rw (length-set marks place 1) w.long;
      room = rw (length-set queue n place, length-set marks place 1) w.room;
    }
  where
    cases : {P : Type 0} (q : ℕ) (b : Bool) → eqb q place ≡ b → (eqb q place ≡ true → P) → (eqb q place ≡ false → P) → P
    cases q true e f g = f e
    cases q false e f g = g e

    cases-at : {P : Type 0} (i : ℕ) (b : Bool) → eqb i n ≡ b → (eqb i n ≡ true → P) → (eqb i n ≡ false → P) → P
    cases-at i true e f g = f e
    cases-at i false e f g = g e

    later : (q : ℕ) → Queued queue n q → Queued (set queue n place) (n + 1) q
    later q u = record { at = u.at; before = omega (arith, u.before); holds = get_or-set_other queue n u.at place 0 (λ x. omega (arith, u.before)) ∙ u.holds }

pub marking-more : {tags to marks queue marks' queue' : List ℕ} {n n' place : ℕ} → Marked marks queue n place marks' queue' n' → Marking tags to marks queue n
    → ReachedPlace tags to place → place < length tags → Marking tags to marks' queue' n'
marking-more {tags} {to} {marks} {queue} {marks'} {queue'} {n} {n'} {place} m w r h = rw (m.flag, m.entry, m.count) (marking_step (eqb (get_or marks place 0) 0) refl w r h)

-- ---- at the end: what is reached is marked
pub all-marked : {tags to marks queue : List ℕ} {n q : ℕ} → Marking tags to marks queue n → QueueMarked tags to marks queue n → 0 < get_or marks 1 0 → ReachedPlace tags to q → 0 < get_or marks q 0
all-marked w d f ReachedPlace.start = f
all-marked {tags} {to} w d f (ReachedPlace.onward p q r l) =
    let u = w.queued p (all-marked w d f r) in
    d.led u.at q u.before (rw u.holds l)

-- ---- a target
marked-grown : {marks queue marks' queue' : List ℕ} {n n' q : ℕ} → Marked marks queue n q marks' queue' n' → q < length marks → Grown marks queue n marks' queue' n'
marked-grown {marks} {queue} {marks'} {queue'} {n} {n'} {q} m h = rw (m.flag, m.entry, m.count) (step (eqb (get_or marks q 0) 0))
  where
    step : (b : Bool) → Grown marks queue n (pick b (set marks q 1) marks) (pick b (set queue n q) queue) (pick b (n + 1) n)
    step true = record { kept = λ j k. set-kept marks q h j k; prefix = λ i l. get_or-set_other queue n i q 0 (λ x. omega arith); more = omega arith }
    step false = record { kept = λ j k. k; prefix = λ i l. refl; more = omega arith }

marked-there : {marks queue marks' queue' : List ℕ} {n n' q : ℕ} → Marked marks queue n q marks' queue' n' → q < length marks → 0 < get_or marks' q 0
marked-there {marks} {queue} {marks'} {queue'} {n} {n'} {q} m h = rw m.flag (step (eqb (get_or marks q 0) 0) refl)
  where
    step : (b : Bool) → eqb (get_or marks q 0) 0 ≡ b → 0 < get_or (pick b (set marks q 1) marks) q 0
    step true e = rw (get_or-set_same marks q 1 0 h) (omega arith)
    step false e = omega (arith, eqb-false (get_or marks q 0) 0 e)

pub record Target (tags to marks queue : List ℕ) (n q : ℕ) (marks' queue' : List ℕ) (n' : ℕ) : Type 0 where
  pub marking : Marking tags to marks' queue' n'
  pub grown : Grown marks queue n marks' queue' n'
  pub there : 0 < q → 0 < get_or marks' q 0

pub target_more : {tags to marks queue marks' queue' : List ℕ} {n n' q : ℕ} (b : Bool) → eqb q 0 ≡ b → Targeted b marks queue n q marks' queue' n'
    → Marking tags to marks queue n → (0 < q → ReachedPlace tags to q) → q < length tags → Target tags to marks queue n q marks' queue' n'
target_more {tags} {to} {marks} {queue} {marks'} {queue'} {n} {n'} {q} true e m w r h =
    let z = eqb-true q 0 e in
    rw (m.0, m.1, m.2) (record { marking = w; grown = record { kept = λ j k. k; prefix = λ i l. refl; more = omega arith }; there = λ l. absurd (omega arith) })
target_more {tags} {to} {marks} {queue} {marks'} {queue'} {n} {n'} {q} false e m w r h =
    let hm : q < length marks = omega (arith, w.long) in
    record { marking = marking-more m w (r (omega (arith, eqb-false q 0 e))) h; grown = marked-grown m hm; there = λ l. marked-there m hm }

pub grown-same : (marks queue : List ℕ) (n : ℕ) → Grown marks queue n marks queue n
grown-same marks queue n = record { kept = λ q k. k; prefix = λ i l. refl; more = omega arith }

pub grown-on : {m₀ q₀ m₁ q₁ m₂ q₂ : List ℕ} {n₀ n₁ n₂ : ℕ} → Grown m₀ q₀ n₀ m₁ q₁ n₁ → Grown m₁ q₁ n₁ m₂ q₂ n₂ → Grown m₀ q₀ n₀ m₂ q₂ n₂
grown-on g h = record { kept = λ q k. h.kept q (g.kept q k); prefix = λ i l. h.prefix i (omega (arith, g.more)) ∙ g.prefix i l; more = omega (arith, g.more, h.more) }

-- ---- a group, row by row
pub led-more : {tags to m q m' q' : List ℕ} {p row n n' : ℕ} → Led tags to p row m → Target tags to m q n (get_or to row 0) m' q' n' → (p < row → get_or tags row 0 ≡ 0) → Led tags to p (row + 1) m'
led-more {tags} {to} {m} {q} {m'} {q'} {p} {row} l t plain =
    record {
      led = λ i a b k. at i (eqb i row) refl a b k;
      plain = λ i a b. at' i (eqb i row) refl a b;
    }
  where
    at : (i : ℕ) (e : Bool) → eqb i row ≡ e → p ≤ i → i < row + 1 → 0 < get_or to i 0 → 0 < get_or m' (get_or to i 0) 0
    at i true e a b k = rw (eqb-true i row e) (t.there (rw (eqb-true i row e) at k))
    at i false e a b k = t.grown.kept (get_or to i 0) (l.led i a (omega (arith, eqb-false i row e)) k)

    at' : (i : ℕ) (e : Bool) → eqb i row ≡ e → p < i → i < row + 1 → get_or tags i 0 ≡ 0
    at' i true e a b = rw (eqb-true i row e) (plain (omega (arith, eqb-true i row e)))
    at' i false e a b = l.plain i a (omega (arith, eqb-false i row e))

-- at the group's end all that it leads to is marked
pub led-all : {tags to m : List ℕ} {p row : ℕ} → Led tags to p row m → (length tags ≤ row) ⊎ ((p < row) × (get_or tags row 0 ≡ 0 → ⊥)) → (q : ℕ) → Leads tags to p q → 0 < get_or m q 0
led-all {tags} {to} {m} {p} {row} l stop q w =
    rw (← w.target) (l.led w.row w.in_group.from (before stop) (rw w.target w.some))
  where
    before : (length tags ≤ row) ⊎ ((p < row) × (get_or tags row 0 ≡ 0 → ⊥)) → w.row < row
    before (inl h) = omega (arith, w.in_group.inside)
    before (inr h) = lt_of_not-le (λ k. h.1 (w.in_group.children row h.0 k))

pub record Grouping (tags to : List ℕ) (p row : ℕ) (m₀ q₀ : List ℕ) (n₀ : ℕ) (m q : List ℕ) (n : ℕ) : Type 0 where
  pub marking : Marking tags to m q n
  pub grown : Grown m₀ q₀ n₀ m q n
  pub led : Led tags to p row m

pub grouping-start : {tags to m q : List ℕ} {p n : ℕ} → Marking tags to m q n → Grouping tags to p p m q n m q n
grouping-start {tags} {to} {m} {q} {p} {n} w =
    record { marking = w; grown = grown-same m q n; led = record { led = λ i a b k. absurd (omega arith); plain = λ i a b. absurd (omega arith) } }

pub grouping-more : {tags to m₀ q₀ m q m' q' : List ℕ} {p row n₀ n n' : ℕ} → Grouping tags to p row m₀ q₀ n₀ m q n → ReachedPlace tags to p → p ≤ row → row < length tags
    → get_or to row 0 < length tags → (p < row → get_or tags row 0 ≡ 0)
    → Targeted (eqb (get_or to row 0) 0) m q n (get_or to row 0) m' q' n' → Grouping tags to p (row + 1) m₀ q₀ n₀ m' q' n'
grouping-more {tags} {to} {m₀} {q₀} {m} {q} {m'} {q'} {p} {row} {n₀} {n} {n'} g r a b h plain t =
    let leads : 0 < get_or to row 0 → ReachedPlace tags to (get_or to row 0) = λ k. ReachedPlace.onward p (get_or to row 0) r
    (record { row = row; in_group = record { from = a; inside = b; children = λ i l k'. child i l k' (eqb i row) refl }; target = refl; some = k }) in
    let w = target_more (eqb (get_or to row 0) 0) refl t g.marking leads h in
    record { marking = w.marking; grown = grown-on g.grown w.grown; led = led-more g.led w plain }
  where
    child : (i : ℕ) → p < i → i ≤ row → (e : Bool) → eqb i row ≡ e → get_or tags i 0 ≡ 0
    child i l k true e = rw (eqb-true i row e) (plain (omega (arith, eqb-true i row e)))
    child i l k false e = g.led.plain i l (omega (arith, eqb-false i row e))

pub grouping-end : {tags to m₀ q₀ m q : List ℕ} {p row n₀ n : ℕ} → Grouping tags to p row m₀ q₀ n₀ m q n → (length tags ≤ row) ⊎ ((p < row) × (get_or tags row 0 ≡ 0 → ⊥))
    → GroupDone tags to p m₀ q₀ n₀ m q n
grouping-end g stop = record { marking = g.marking; grown = g.grown; all = led-all g.led stop }

-- the room after a target
pub room-more : {tags to m q m' q' : List ℕ} {n n' k : ℕ} (b : Bool) → Room tags to m q n → k < length tags → Targeted b m q n k m' q' n' → Room tags to m' q' n'
room-more {tags} {to} {m} {q} {m'} {q'} {n} {n'} {k} true r h t = rw (t.0, t.1, t.2) r
room-more {tags} {to} {m} {q} {m'} {q'} {n} {n'} {k} false r h t = rw (t.flag, t.entry, t.count) (step (eqb (get_or m k 0) 0) refl)
  where
    step : (b : Bool) → eqb (get_or m k 0) 0 ≡ b → Room tags to (pick b (set m k 1) m) (pick b (set q n k) q) (pick b (n + 1) n)
    step false e = r
    step true e =
        record {
          tos = r.tos;
          targets = r.targets;
          count = rw (ones-set m k (omega (arith, r.long)) (eqb-true (get_or m k 0) 0 e)) (omega (arith, r.count));
          long = rw (length-set m k 1) r.long;
          room = rw (length-set q n k, length-set m k 1) r.room;
          few = rw (length-set m k 1) r.few;
        }

pub room-there : {tags to m q : List ℕ} {n k : ℕ} → Room tags to m q n → k < length tags → get_or m k 0 ≡ 0 → n < length q
room-there {tags} {to} {m} {q} {n} {k} r h z = omega (arith, r.count, ones-less m k (omega (arith, r.long)) z, r.long, r.room)

-- the tags of rows
pub flags-length : (rows : List ℕ) (p n : ℕ) → length (flags_from rows p n) ≡ n
unfolding flags_from
flags-length rows p zero = refl
flags-length rows p (suc n) = ap suc (flags-length rows (suc p) n)

pub flags-at : (rows : List ℕ) (p n i : ℕ) → i < n → get_or (flags_from rows p n) i 0 ≡ bit (head_at rows (p + i))
unfolding flags_from
flags-at rows p zero i h = absurd (let no : ⊥ = omega arith in no)
flags-at rows p (suc n) zero h = rw add-zero
flags-at rows p (suc n) (suc i) h = flags-at rows (suc p) n i (omega arith) ∙ ap (λ (k : ℕ). bit (head_at rows k)) (omega arith)

pub flag_at : (rows : List ℕ) (n i : ℕ) → i < n → get_or (head_flags rows n) i 0 ≡ bit (head_at rows i)
flag_at rows n i h = flags-at rows 0 n i h ∙ ap (λ (k : ℕ). bit (head_at rows k)) (zero-add i)

-- what the test of a row says
bit-true : (b : Bool) → b ≡ true → bit b ≡ 0 → ⊥
unfolding bit
bit-true true e h = let no : ⊥ = omega arith in no
bit-true false e h = false≢true e

bit-false : (b : Bool) → b ≡ false → bit b ≡ 0
unfolding bit
bit-false true e = absurd (false≢true (sym e))
bit-false false e = refl

module _ (rows : List ℕ) (n p row : ℕ) (inside : row < n) where
  pub behind-true : ltb p row && head_at rows row ≡ true → (p < row) × (get_or (head_flags rows n) row 0 ≡ 0 → ⊥)
  behind-true e =
      let both = and_parts (ltb p row) (head_at rows row) e in
      (ltb-true p row both.0, λ z. bit-true (head_at rows row) both.1 (sym (flag_at rows n row inside) ∙ z))

  pub behind-false : ltb p row && head_at rows row ≡ false → p < row → get_or (head_flags rows n) row 0 ≡ 0
  behind-false e h = flag_at rows n row inside ∙ bit-false (head_at rows row) (rw (lt-ltb p row h) at e)

-- ---- the queue
pub all_start : {tags to m q : List ℕ} {n : ℕ} → Marking tags to m q n → AllDone tags to m q n m q n 0
all_start {tags} {to} {m} {q} {n} w = record { marking = w; grown = grown-same m q n; done = record { led = λ i j l. absurd (omega arith) } }

pub all_more : {tags to m₀ q₀ m q m' q' : List ℕ} {n₀ n n' k : ℕ} → AllDone tags to m₀ q₀ n₀ m q n k → k < n
    → GroupDone tags to (get_or q k 0) m q n m' q' n' → AllDone tags to m₀ q₀ n₀ m' q' n' (k + 1)
all_more {tags} {to} {m₀} {q₀} {m} {q} {m'} {q'} {n₀} {n} {n'} {k} a l g =
    record { marking = g.marking; grown = grown-on a.grown g.grown; done = record { led = λ i j b w. step i j (eqb i k) refl b w } }
  where
    step : (i j : ℕ) (e : Bool) → eqb i k ≡ e → i < k + 1 → Leads tags to (get_or q' i 0) j → 0 < get_or m' j 0
    step i j true e b w = g.all j (rw (eqb-true i k e, g.grown.prefix k l) at w)
    step i j false e b w =
        let o : i < k = omega (arith, eqb-false i k e) in
        g.grown.kept j (a.done.led i j o (rw (g.grown.prefix i (omega arith)) at w))

-- the next of the queue is reached
pub next-reached : {tags to m₀ q₀ m q : List ℕ} {n₀ n k : ℕ} → AllDone tags to m₀ q₀ n₀ m q n k → k < n → ReachedPlace tags to (get_or q k 0)
next-reached {tags} {to} {m₀} {q₀} {m} {q} {n₀} {n} {k} a l = a.marking.each (get_or q k 0) (a.marking.held k l).1

pub count-bound : {tags to m q : List ℕ} {n : ℕ} → Room tags to m q n → n ≤ length m
count-bound {tags} {to} {m} {q} {n} r = omega (arith, r.count, ones-bound m)

pub all-stops : {tags to m₀ q₀ m q : List ℕ} {n₀ n k : ℕ} → AllDone tags to m₀ q₀ n₀ m q n k → n ≤ k → AllDone tags to m₀ q₀ n₀ m q n n
all-stops {tags} {to} {m₀} {q₀} {m} {q} {n₀} {n} {k} a h = record { marking = a.marking; grown = a.grown; done = record { led = λ i j b w. a.done.led i j (omega arith) w } }
