-- A text in the middle of a packing, a spot: what the numbers of its pair are, what the names around it are, and that with the new length in its row
-- the rows from there on are those whose offsets are to be set. A row has at most two texts, so each law on its numbers goes by cases. Assumes nothing.
use Prim.Native.Nat.{ℕ, ◌+◌, ◌-◌, ◌*◌, ◌≤◌, ◌<◌}
use mathlib.Core.Path.{◌≡◌, refl, sym, ap, ◌∙◌}
use mathlib.Core.List.{List, [], ◌∷◌, ◌++◌, append_assoc, append-nil}
use native.Mathlib.Nat.{add-zero, zero-add, suc-add}
use native.Mathlib.Omega.{arith}
use lib.ListN.{length, get_or, set, length-append}
use lib.Seq.{set-append_left}
use Rattle.text.specs.Text.{Text, join}
use Rattle.sheet.specs.Rows.{Row, row, ten, numbers, pack_row, pack, pairs, names_of, filled}
use Rattle.rows.specs.declared.numbers.Used.{Used}
use Rattle.rows.specs.Packing.{Holds, numbers_of}
use Rattle.xsd_replace.specs.Offsets.{RightPairs, LikeRow, Like, Offsets}
use Rattle.xsd_replace.specs.Spots.{Paired, Spot, spot_row, spot_rows, TextAt}
use Rattle.buffer.proofs.Laws.Buffer.{zeros}
use Rattle.sheet.proofs.Laws.Packs.{names_of-append}
use Rattle.rows.proofs.Laws.Pack.{used-length}
use Rattle.rows.proofs.Laws.Write.{length-numbers_of, packs-of}
use Rattle.rows.proofs.Laws.Middle.{number_at, filled_around, pack-first, rows_fit, names-fit}

-- a store behind the first part of a list, and one in its middle
pub set-behind : (p x : List ℕ) (i v : ℕ) → set (p ++ x) (length p + i) v ≡ p ++ set x i v
set-behind [] x i v = rw zero-add
set-behind (y ∷ p) x i v = rw (suc-add, ← set-behind p x i v)

pub set-middle : (p q r s : List ℕ) (i n v : ℕ) → n ≡ length p + i → i < length q → set (p ++ (q ++ r) ++ s) n v ≡ p ++ (set q i v ++ r) ++ s
set-middle p q r s i n v e h =
    rw (e, append_assoc p (q ++ r) s, append_assoc q r s) (set-behind p (q ++ (r ++ s)) i v ∙ rw (set-append_left q (r ++ s) i v h, append_assoc p (set q i v ++ r) s, append_assoc (set q i v) r s))

-- where a text stands in a row of at most two
pub data Stands : List Text → List Text → Type 0 where
  alone : Stands [] []
  front : {u : Text} → Stands [] (u ∷ [])
  back : {t : Text} → Stands (t ∷ []) []

pub stands : (before behind : List Text) (old : Text) → length (before ++ old ∷ behind) ≤ 2 → Stands before behind
stands [] [] old h = alone
stands [] (u ∷ []) old h = front
stands [] (u ∷ v ∷ w) old h = absurd (let no : ⊥ = omega arith in no)
stands (t ∷ []) [] old h = back
stands (t ∷ []) (v ∷ w) old h = absurd (let no : ⊥ = omega arith in no)
stands (t ∷ u ∷ ts) behind old h = absurd (let no : ⊥ = omega (arith, length-append ts (old ∷ behind)) in no)

module _ (k tag : ℕ) (old : Text) (a b c : ℕ) where
  -- the row's first offset, and the pair of the text
  pub row-start : {before behind : List Text} → Stands before behind → get_or (numbers_of k (row tag (before ++ old ∷ behind) a b c)) 1 0 ≡ k
  unfolding numbers_of numbers pack_row pairs row
  row-start alone = refl
  row-start front = refl
  row-start back = refl

  pub pair-start : {before behind : List Text} → Stands before behind → get_or (numbers_of k (row tag (before ++ old ∷ behind) a b c)) (2 * length before + 1) 0 ≡ k + length (join before)
  unfolding numbers_of numbers pack_row pairs row join
  pair-start alone = sym (add-zero k)
  pair-start front = sym (add-zero k)
  pair-start back = rw append-nil

  pub pair-long : {before behind : List Text} → Stands before behind → get_or (numbers_of k (row tag (before ++ old ∷ behind) a b c)) (2 * length before + 1 + 1) 0 ≡ length old
  unfolding numbers_of numbers pack_row pairs row
  pair-long alone = refl
  pair-long front = refl
  pair-long back = refl

  -- the row's numbers with another length of that text
  abbrev pub changed : List Text → List Text → Text → List ℕ
  changed before behind new = set (numbers_of k (row tag (before ++ old ∷ behind) a b c)) (2 * length before + 1 + 1) (length new)

  pub changed-ten : {before behind : List Text} (new : Text) → Stands before behind → numbers (ten (changed before behind new) ∷ []) ≡ changed before behind new
  unfolding numbers_of numbers pack_row pairs row ten
  changed-ten new alone = refl
  changed-ten new front = refl
  changed-ten new back = refl

  pub changed-like : {before behind : List Text} (new : Text) → Stands before behind → RightPairs (row tag (before ++ new ∷ behind) a b c)
      → LikeRow (ten (changed before behind new)) (row tag (before ++ new ∷ behind) a b c)
  unfolding numbers_of numbers pack_row pairs row ten
  changed-like new alone h = record { right = h; tag = refl; len0 = refl; len1 = refl; a = refl; b = refl; c = refl }
  changed-like new front h = record { right = h; tag = refl; len0 = refl; len1 = refl; a = refl; b = refl; c = refl }
  changed-like new back h = record { right = h; tag = refl; len0 = refl; len1 = refl; a = refl; b = refl; c = refl }

-- the new text is one text too
pub right_new : (x : Spot) (new : Text) → RightPairs (spot_row x x.old) → RightPairs (spot_row x new)
unfolding row
right_new x new h =
    let same : length (x.before ++ new ∷ x.behind) ≡ length (x.before ++ x.old ∷ x.behind) = length-append x.before (new ∷ x.behind) ∙ sym (length-append x.before (x.old ∷ x.behind)) in
    record { used = same ∙ h.used; few = rw same h.few }

-- packed rows say of each row everything but where its texts stand
pub pairs-len0 : (k : ℕ) (ts : List Text) → (pairs k ts).len0 ≡ length (get_or ts 0 [])
unfolding pairs
pairs-len0 k [] = refl
pairs-len0 k (t ∷ []) = refl
pairs-len0 k (t ∷ u ∷ []) = refl
pairs-len0 k (t ∷ u ∷ v ∷ ts) = refl

pub pairs-len1 : (k : ℕ) (ts : List Text) → (pairs k ts).len1 ≡ length (get_or ts 1 [])
unfolding pairs
pairs-len1 k [] = refl
pairs-len1 k (t ∷ []) = refl
pairs-len1 k (t ∷ u ∷ []) = refl
pairs-len1 k (t ∷ u ∷ v ∷ ts) = refl

pub pack-like : (k : ℕ) {us : List Row} → Paired us → Like (pack k us) us
unfolding pack pack_row
pack-like k Paired.none = Like.none
pack-like k (Paired.more {r} h hs) =
    Like.more (record { right = h; tag = refl; len0 = pairs-len0 k r.texts; len1 = pairs-len1 k r.texts; a = refl; b = refl; c = refl }) (pack-like (k + length (join r.texts)) hs)

pub join-append : (ts us : List Text) → join (ts ++ us) ≡ join ts ++ join us
unfolding join
join-append [] us = refl
join-append (t ∷ ts) us = rw (join-append ts us, append_assoc)

-- the names around the text
pub names-spot : (x : Spot) (t : Text) → names_of (spot_rows x t) ≡ names_of x.rs ++ join x.before ++ t ++ (join x.behind ++ names_of x.us)
unfolding names_of row join
names-spot x t = rw (names_of-append x.rs (spot_row x t ∷ x.us), join-append x.before (t ∷ x.behind)) (simp append_assoc)

pub record SpotNumbers (rows names : List ℕ) (used : Used) (place pair : ℕ) (x : Spot) : Type 0 where
  pub first : get_or rows (10 * place + 1) 0 ≡ length (names_of x.rs)
  pub start : get_or rows (10 * place + 2 * pair + 1) 0 ≡ length (names_of x.rs) + length (join x.before)
  pub long : get_or rows (10 * place + 2 * pair + 1 + 1) 0 ≡ length x.old
  pub bytes : used.names ≡ length (names_of x.rs) + length (join x.before) + length x.old + length (join x.behind ++ names_of x.us)
  pub names_room : used.names ≤ length names
  pub inside : place < used.rows
  pub rows_room : 10 * used.rows ≤ length rows
  pub few : pair ≤ 1

pub spot-numbers : {rows names : List ℕ} {used : Used} {place pair : ℕ} {x : Spot} → TextAt rows names used place pair x → SpotNumbers rows names used place pair x
unfolding row
spot-numbers {rows} {names} {used} {place} {pair} {x} h =
    let r = spot_row x x.old in
    let k = length (names_of x.rs) in
    let p = h.holds.packs in
    let s = stands x.before x.behind x.old h.right.few in
    let texts = length-append x.before (x.old ∷ x.behind) in
    let count = length-append x.rs (r ∷ x.us) in
    let all = simp length-append at (ap length (names-spot x x.old)) in
    let few : pair ≤ 1 = omega (arith, h.there, h.right.few) in
    record {
      first = number_at x.rs x.us r 1 (10 * place + 1) p (omega (arith, h.here)) (omega arith) ∙ row-start k x.tag x.old x.a x.b x.c s;
      start = number_at x.rs x.us r (2 * length x.before + 1) (10 * place + 2 * pair + 1) p (omega (arith, h.here, h.there)) (omega (arith, h.there))
          ∙ pair-start k x.tag x.old x.a x.b x.c s;
      long = number_at x.rs x.us r (2 * length x.before + 1 + 1) (10 * place + 2 * pair + 1 + 1) p (omega (arith, h.here, h.there)) (omega (arith, h.there))
          ∙ pair-long k x.tag x.old x.a x.b x.c s;
      bytes = h.holds.names_used ∙ simp length-append all;
      names_room = rw h.holds.names_used (names-fit p);
      inside = omega (arith, h.here, h.holds.rows_used);
      rows_room = rw h.holds.rows_used (rows_fit p);
      few = few;
    }

module _ {rows names : List ℕ} {used : Used} {place pair : ℕ} {x : Spot} (h : TextAt rows names used place pair x) (new : Text) where
  pub spot-bytes : length (names_of (spot_rows x new)) ≡ used.names - length x.old + length new
  spot-bytes =
      let all = simp length-append at (ap length (names-spot x new)) in
      omega (arith, simp length-append at (spot-numbers h).bytes)

  -- the rows with the new length stored
  spot-set : set rows (10 * place + 2 * pair + 1 + 1) (length new)
      ≡ x.z ++ numbers (pack 0 x.rs) ++ (changed (length (names_of x.rs)) x.tag x.old x.a x.b x.c x.before x.behind new
      ++ numbers (pack (length (names_of x.rs) + length (join (spot_row x x.old).texts)) x.us)) ++ zeros (length rows - 10 * used.rows)
  spot-set =
      let k = length (names_of x.rs) in
      let r = spot_row x x.old in
      let p = h.holds.packs in
      let g = spot-numbers h in
      ap (λ (l : List ℕ). set l (10 * place + 2 * pair + 1 + 1) (length new)) (p.rows_are ∙ filled_around (length rows) x.z x.rs x.us r p.ten)
      ∙ rw (← h.holds.rows_used) (set-middle (x.z ++ numbers (pack 0 x.rs)) (numbers_of k r) (numbers (pack (k + length (join r.texts)) x.us))
      (zeros (length rows - 10 * used.rows)) (2 * length x.before + 1 + 1) (10 * place + 2 * pair + 1 + 1) (length new)
      (rw (used-length x.z x.rs p.ten) (omega (arith, h.here, h.there))) (rw (length-numbers_of k r) (omega (arith, g.few, h.there))))

  -- all rows with the new text
  spot-goal : filled (length rows) (x.z ++ numbers (pack 0 (spot_rows x new)))
      ≡ x.z ++ numbers (pack 0 x.rs) ++ numbers (pack (length (names_of x.rs)) (spot_row x new ∷ x.us)) ++ zeros (length rows - 10 * used.rows)
  spot-goal =
      let count : 1 + length (spot_rows x new) ≡ used.rows = omega (arith, h.holds.rows_used, length-append x.rs (spot_row x new ∷ x.us), length-append x.rs (spot_row x x.old ∷ x.us)) in
      filled_around (length rows) x.z x.rs x.us (spot_row x new) h.holds.packs.ten
      ∙ rw (count, pack-first (length (names_of x.rs)) (spot_row x new) x.us)

  spot-here : length (names_of (spot_rows x new)) ≤ 65536
      → Offsets (set rows (10 * place + 2 * pair + 1 + 1) (length new)) place used.rows (length (names_of x.rs))
      (filled (length rows) (x.z ++ numbers (pack 0 (spot_rows x new)))) (length (names_of (spot_rows x new)))
  unfolding numbers row
  spot-here room =
      let k = length (names_of x.rs) in
      let s = stands x.before x.behind x.old h.right.few in
      let ts = pack (k + length (join (spot_row x x.old).texts)) x.us in
      let new-ten = ten (changed k x.tag x.old x.a x.b x.c x.before x.behind new) in
      let same : numbers (new-ten ∷ []) ≡ changed k x.tag x.old x.a x.b x.c x.before x.behind new = changed-ten k x.tag x.old x.a x.b x.c new s in
      record {
        before = x.z ++ numbers (pack 0 x.rs);
        behind = zeros (length rows - 10 * used.rows);
        ts = new-ten ∷ ts;
        us = spot_row x new ∷ x.us;
        rows_are = spot-set ∙ ap (λ (l : List ℕ). x.z ++ numbers (pack 0 x.rs) ++ (l ++ numbers ts) ++ zeros (length rows - 10 * used.rows)) (sym same);
        like = Like.more (changed-like k x.tag x.old x.a x.b x.c new s (right_new x new h.right)) (pack-like (k + length (join (spot_row x x.old).texts)) h.paired);
        place = used-length x.z x.rs h.holds.packs.ten ∙ omega (arith, h.here);
        count = omega (arith, h.here, h.holds.rows_used, length-append x.rs (spot_row x x.old ∷ x.us));
        bytes = sym (ap length (names_of-append x.rs (spot_row x new ∷ x.us)) ∙ length-append (names_of x.rs) (names_of (spot_row x new ∷ x.us)));
        room = room;
        goal_is = spot-goal;
      }

  -- the rows whose offsets are to be set
  pub spot-offsets : (at : ℕ) → at ≡ length (names_of x.rs) → length (names_of (spot_rows x new)) ≤ 65536
      → Offsets (set rows (10 * place + 2 * pair + 1 + 1) (length new)) place used.rows at (filled (length rows) (x.z ++ numbers (pack 0 (spot_rows x new)))) (length (names_of (spot_rows x new)))
  spot-offsets at e room = rw e (spot-here room)

  -- the names, by what replacing a text in the middle makes of any names
  pub spot-names : {names' : List ℕ} (at len : ℕ) → at ≡ get_or rows (10 * place + 2 * pair + 1) 0 → len ≡ get_or rows (10 * place + 2 * pair + 1 + 1) 0
      → ((n : ℕ) (p q r : List ℕ) → names ≡ filled n (p ++ q ++ r) → length names ≡ n → length p ≡ at → length q ≡ len → length (p ++ q ++ r) ≡ used.names → names' ≡ filled n (p ++ new ++ r))
      → names' ≡ filled (length names) (names_of x.rs ++ join x.before ++ new ++ (join x.behind ++ names_of x.us))
  spot-names at len e f replaced =
      let g = spot-numbers h in
      let whole = names-spot x x.old in
      replaced (length names) (names_of x.rs ++ join x.before) x.old (join x.behind ++ names_of x.us) (h.holds.packs.names_are ∙ ap (filled (length names)) whole) refl
      (length-append (names_of x.rs) (join x.before) ∙ sym (e ∙ g.start)) (sym (f ∙ g.long)) (sym (h.holds.names_used ∙ ap length whole))

  -- both buffers with the new text
  pub spot-holds : {rows' names' : List ℕ} (end : ℕ) → used.names - length x.old + length new ≤ length names → rows' ≡ filled (length rows) (x.z ++ numbers (pack 0 (spot_rows x new)))
      → names' ≡ filled (length names) (names_of x.rs ++ join x.before ++ new ++ (join x.behind ++ names_of x.us)) → end ≡ length (names_of (spot_rows x new))
      → Holds rows' names' (record { rows = used.rows; names = end }) x.z (spot_rows x new)
  spot-holds end room e f last =
      let g = spot-numbers h in
      let count : used.rows ≡ 1 + length (spot_rows x new) = omega (arith, h.holds.rows_used, length-append x.rs (spot_row x new ∷ x.us), length-append x.rs (spot_row x x.old ∷ x.us)) in
      record {
        packs = packs-of (length rows) (length names) h.holds.packs.ten (omega (arith, g.rows_room)) (omega (arith, spot-bytes)) e (rw (names-spot x new) f);
        rows_used = count;
        names_used = last;
      }
