-- A row in the middle of a packing: what its first pair is, and what is left where the rows behind it and the names behind its first text are zero.
-- Assumes nothing.
use Prim.Native.Nat.{ℕ, ◌+◌, ◌-◌, ◌*◌, ◌≤◌, ◌<◌}
use mathlib.Core.Path.{◌≡◌, refl, sym, ap, ◌∙◌}
use mathlib.Core.List.{List, [], ◌∷◌, ◌++◌, append_assoc}
use native.Mathlib.Omega.{arith}
use lib.ListN.{length, get_or, length-append}
use lib.Seq.{paste}
use Rattle.text.specs.Text.{Text, join}
use Rattle.sheet.specs.Rows.{Row, row, numbers, pack_row, pack, pairs, names_of, filled}
use Rattle.rows.specs.declared.numbers.Used.{Used}
use Rattle.rows.specs.declared.numbers.RowNumbers.{RowNumbers}
use Rattle.rows.specs.Texts.{used_texts, used_length}
use Rattle.rows.specs.Packing.{Holds, row_of, numbers_of}
use Rattle.xsd_replace.specs.Head.{HeadAt}
use Rattle.buffer.proofs.Laws.Buffer.{zeros, filled-cut, filled-append}
use Rattle.sheet.proofs.Laws.Numbers.{length-numbers}
use Rattle.sheet.proofs.Laws.Packs.{length-pack, names_of-append}
use Rattle.rows.proofs.Laws.Texts.{used-bytes, texts-rest}
use Rattle.rows.proofs.Laws.Pack.{used-append, used-length}
use Rattle.rows.proofs.Laws.Write.{length_more, names-one, rows_more, packs-of}
use Rattle.rows.proofs.Laws.Middle.{number_at, rows_fit, names-fit}

-- the first pair of a row that uses one
pub first-at : (k tag : ℕ) (name : Text) (more : List Text) (a b c : ℕ) → get_or (numbers_of k (row tag (name ∷ more) a b c)) 1 0 ≡ k
unfolding numbers_of numbers pack_row pairs row
first-at k tag name [] a b c = refl
first-at k tag name (u ∷ []) a b c = refl
first-at k tag name (u ∷ v ∷ w) a b c = refl

pub first-len : (k tag : ℕ) (name : Text) (more : List Text) (a b c : ℕ) → get_or (numbers_of k (row tag (name ∷ more) a b c)) 2 0 ≡ length name
unfolding numbers_of numbers pack_row pairs row
first-len k tag name [] a b c = refl
first-len k tag name (u ∷ []) a b c = refl
first-len k tag name (u ∷ v ∷ w) a b c = refl

-- the names before, with and behind a row's first text
pub names-head : (rs kids : List Row) (tag : ℕ) (name : Text) (more : List Text) (a b c : ℕ)
    → names_of (rs ++ row tag (name ∷ more) a b c ∷ kids) ≡ names_of rs ++ name ++ (join more ++ names_of kids)
unfolding names_of row join
names-head rs kids tag name more a b c = rw (names_of-append rs (row tag (name ∷ more) a b c ∷ kids)) (simp append_assoc)

pub record HeadNumbers (rows names : List ℕ) (used : Used) (place : ℕ) (rs : List Row) (name : Text) : Type 0 where
  pub start : get_or rows (10 * place + 1) 0 ≡ length (names_of rs)
  pub long : get_or rows (10 * place + 1 + 1) 0 ≡ length name
  pub kept : length (names_of rs) + length name ≤ used.names
  pub names_room : used.names ≤ length names
  pub inside : place < used.rows
  pub rows_room : 10 * used.rows ≤ length rows

pub head-numbers : {rows names z : List ℕ} {used : Used} {place : ℕ} {rs : List Row} {name : Text} → HeadAt rows names used place z rs name → HeadNumbers rows names used place rs name
head-numbers {rows} {names} {z} {used} {place} {rs} {name} h =
    let old = row h.tag (name ∷ h.more) h.a h.b h.c in
    let p = h.holds.packs in
    let k = length (names_of rs) in
    let count = length-append rs (old ∷ h.kids) in
    let bytes = simp length-append at (ap length (names-head rs h.kids h.tag name h.more h.a h.b h.c)) in
    record {
      start = number_at rs h.kids old 1 (10 * place + 1) p (omega (arith, h.here)) (omega arith) ∙ first-at k h.tag name h.more h.a h.b h.c;
      long = number_at rs h.kids old 2 (10 * place + 1 + 1) p (omega (arith, h.here)) (omega arith) ∙ first-len k h.tag name h.more h.a h.b h.c;
      kept = omega (arith, h.holds.names_used);
      names_room = rw h.holds.names_used (names-fit p);
      inside = omega (arith, h.holds.rows_used, h.here);
      rows_room = rw h.holds.rows_used (rows_fit p);
    }

-- c of a row
pub last-number : (k : ℕ) (r : Row) → get_or (numbers_of k r) 9 0 ≡ r.c
unfolding numbers_of numbers pack_row
last-number k r = refl

pub head-last : {rows names z : List ℕ} {used : Used} {place : ℕ} {rs : List Row} {name : Text} (h : HeadAt rows names used place z rs name) → get_or rows (10 * place + 9) 0 ≡ h.c
unfolding row
head-last {place = place} {rs = rs} {name = name} h =
    let old = row h.tag (name ∷ h.more) h.a h.b h.c in
    number_at rs h.kids old 9 (10 * place + 9) h.holds.packs (omega (arith, h.here)) (omega arith) ∙ last-number (length (names_of rs)) old

module _ {rows names z : List ℕ} {used : Used} {place : ℕ} {rs : List Row} {name : Text} (h : HeadAt rows names used place z rs name) where
  -- the rows from the head's place on are freed
  head-freed-rows : {rows₁ : List ℕ} (m : ℕ) → m ≡ 10 * (used.rows - place) → rows₁ ≡ paste rows (10 * place) (zeros m) m → rows₁ ≡ filled (length rows) (z ++ numbers (pack 0 rs))
  head-freed-rows m count e =
      let cut = row h.tag (name ∷ h.more) h.a h.b h.c ∷ h.kids in
      let p = h.holds.packs in
      let g = head-numbers h in
      let long : length (numbers (pack (length (names_of rs)) cut)) ≡ m = rw (length-numbers, length-pack) (omega (arith, h.here, h.holds.rows_used, length-append rs cut)) in
      e ∙ ap (λ (l : List ℕ). paste l (10 * place) (zeros m) m) (p.rows_are ∙ ap (filled (length rows)) (used-append z rs cut))
      ∙ filled-cut (length rows) (z ++ numbers (pack 0 rs)) (numbers (pack (length (names_of rs)) cut)) (10 * place) m (used-length z rs p.ten ∙ omega (arith, h.here)) long (omega arith)

  -- and another row is stored there
  pub head_rows : {rows₁ rows₂ : List ℕ} (r : Row) → rows₁ ≡ paste rows (10 * place) (zeros (10 * (used.rows - place))) (10 * (used.rows - place))
      → rows₂ ≡ paste rows₁ (10 * place) (numbers_of (length (names_of rs)) r) 10 → rows₂ ≡ filled (length rows) (z ++ numbers (pack 0 (rs ++ r ∷ [])))
  head_rows {rows₁} r e f =
      f ∙ rows_more rows₁ z rs r place (length rows) h.holds.packs.ten (head-freed-rows (10 * (used.rows - place)) refl e) h.here (omega (arith, head-numbers h))

  -- the names behind the head's first text are freed
  head-freed-names : {names₁ : List ℕ} (end m : ℕ) → length (names_of rs ++ name) ≡ end → m ≡ used.names - end → names₁ ≡ paste names end (zeros m) m
      → names₁ ≡ filled (length names) (names_of rs ++ name)
  head-freed-names end m at size e =
      let more = join h.more ++ names_of h.kids in
      let whole = names-head rs h.kids h.tag name h.more h.a h.b h.c in
      let g = head-numbers h in
      let count : length more ≡ m = omega (arith, h.holds.names_used, ap length whole, length-append (names_of rs ++ name) more) in
      e ∙ ap (λ (l : List ℕ). paste l end (zeros m) m) (h.holds.packs.names_are ∙ ap (filled (length names)) whole)
      ∙ filled-cut (length names) (names_of rs ++ name) more end m at count (omega (arith, length-append (names_of rs) name))

  -- and others are stored there
  pub head-names : {names₁ names₂ : List ℕ} (rest : Text) (end : ℕ) → end ≡ length (names_of rs) + length name → end + length rest ≤ length names
      → names₁ ≡ paste names end (zeros (used.names - end)) (used.names - end) → names₂ ≡ paste names₁ end rest (length rest)
      → names₂ ≡ filled (length names) (names_of rs ++ name ++ rest)
  head-names rest end at room e f =
      let long : length (names_of rs ++ name) ≡ end = length-append (names_of rs) name ∙ sym at in
      f ∙ ap (λ (l : List ℕ). paste l end rest (length rest)) (head-freed-names end (used.names - end) long refl e)
      ∙ filled-append (length names) (names_of rs ++ name) rest end (length rest) long refl room

  pub head-holds : {rows' names' : List ℕ} (r : Row) (rest : Text) (end : ℕ) → join r.texts ≡ name ++ rest → end ≡ length (names_of rs) + length name + length rest → end ≤ length names
      → rows' ≡ filled (length rows) (z ++ numbers (pack 0 (rs ++ r ∷ []))) → names' ≡ filled (length names) (names_of rs ++ name ++ rest)
      → Holds rows' names' (record { rows = place + 1; names = end }) z (rs ++ r ∷ [])
  head-holds {rows'} {names'} r rest end texts at room e f =
      let all : names_of (rs ++ r ∷ []) ≡ names_of rs ++ name ++ rest = rw (names-one rs r, texts, append_assoc) in
      let bytes : length (names_of (rs ++ r ∷ [])) ≡ end = rw (all, length-append, length-append) (sym at) in
      let g = head-numbers h in
      record {
        packs = packs-of (length rows) (length names) h.holds.packs.ten (omega (arith, length_more rs r, h.here)) (omega arith) e (rw all f);
        rows_used = omega (arith, length_more rs r, h.here);
        names_used = sym bytes;
      }

  pub head-replaced : {rows₁ rows₂ names₁ names₂ : List ℕ} (n : RowNumbers) (count : ℕ) (second : Text) (at len end : ℕ) → 1 ≤ count → count ≤ 2
      → at ≡ get_or rows (10 * place + 1) 0 → len ≡ get_or rows (10 * place + 1 + 1) 0
      → at + len + used_length (count - 1) (length second) (length second) ≤ length names
      → rows₁ ≡ paste rows (10 * place) (zeros (10 * (used.rows - place))) (10 * (used.rows - place))
      → names₁ ≡ paste names (at + len) (zeros (used.names - (at + len))) (used.names - (at + len))
      → ((t u : Text) → length t ≡ len → length u ≡ length second → rows₂ ≡ paste rows₁ (10 * place) (numbers_of at (row_of n (used_texts count t u))) 10)
      → names₂ ≡ paste names₁ (at + len) (join (used_texts (count - 1) second second)) (used_length (count - 1) (length second) (length second))
      → end ≡ at + len + used_length (count - 1) (length second) (length second)
      → Holds rows₂ names₂ (record { rows = place + 1; names = end }) z (rs ++ row_of n (name ∷ used_texts (count - 1) second second) ∷ [])
  unfolding row join
  head-replaced n count second at len end low high start long room e f set g last =
      let x = head-numbers h in
      let rest = join (used_texts (count - 1) second second) in
      let r = row_of n (name ∷ used_texts (count - 1) second second) in
      let bytes = used-bytes (count - 1) second second (omega arith) in
      let begins : at ≡ length (names_of rs) = start ∙ x.start in
      let ends : at + len ≡ length (names_of rs) + length name = omega (arith, x.start, x.long) in
      head-holds r rest end refl (omega arith) (omega arith)
      (head_rows r e (rw (begins, texts-rest count name second low high) at (set name second (sym (long ∙ x.long)) refl)))
      (head-names rest (at + len) ends (omega arith) f (rw bytes g))
