-- Every writing comes under one case of the table, and the table says nothing that the call does not give; 22's place is the first row with a text that is not held. Assumes nothing.
use Prim.Native.Nat.{ℕ, suc, ◌+◌}
use native.Mathlib.Omega.{arith}
use mathlib.Core.Path.{◌≡◌, refl, sym, ap, subst, ◌∙◌}
use mathlib.Core.Logic.{◌↔◌}
use mathlib.Core.Bool.{true, false, ◌&&◌, false≢true}
use mathlib.Core.List.{List, [], ◌∷◌, ◌++◌, map}
use mathlib.Core.Option.{Option, some, none}
use lib.Dec.{leb}
use lib.ListN.{length}
use borrow.Author.Tests.{leb-true, leb-false, le-leb, lt-leb}
use Rattle.text.specs.Text.{Text, every}
use Rattle.text.proofs.Laws.Tests.{and-true, and-true-left, and-true-right, if-cases, bool_cases}
use Rattle.sheet.specs.Rows.{Row, row, Sheet}
use Rattle.sheet.specs.Lengths.{lengths_of, good_lengths}
use Rattle.xsd_types.specs.Types.{Schema}
use Rattle.xsd_types.specs.State.{State}
use Rattle.xsd_types.specs.Rows.{namespace_row, items_rows}
use Rattle.xsd_types.specs.Count.{good, state_of}
use Rattle.xsd_written.specs.Schema.{schema_text}
use Rattle.xsd_written.specs.Call as call
use Rattle.xsd_written.specs.Call.{holds, unheld_from, Wrote, unheld_or_written, write_state, write_back}
use Rattle.xsd_written.specs.Table.{EachHeld, RowsHeld, finished_texts, FirstUnheld, WriteOutcome, no_root, unheld, short, written, WriteTable, lengths, not_good, judged}
use Rattle.xsd_written.proofs.Laws.Values.{held-exactly}

-- ---- texts that are held

each-held : (ts : List Text) → every holds ts ≡ true → EachHeld ts
unfolding every
each-held [] h = tt
each-held (v ∷ vs) h = ((held-exactly v).0 (and-true-left (holds v) (every holds vs) h), each-held vs (and-true-right (holds v) (every holds vs) h))

held-each : (ts : List Text) → EachHeld ts → every holds ts ≡ true
unfolding every
held-each [] d = refl
held-each (v ∷ vs) d = and-true ((held-exactly v).1 d.0) (held-each vs d.1)

not-each : (ts : List Text) → every holds ts ≡ false → EachHeld ts → ⊥
not-each ts h d = false≢true (sym h ∙ held-each ts d)

-- ---- the first row that is not

abbrev texts_of : List Row → List (List Text)
texts_of rs = map (λ (r : Row). r.texts) rs

rows-held : (place : ℕ) (rs : List Row) → unheld_from place rs ≡ none → RowsHeld (texts_of rs)
unfolding unheld_from
rows-held place [] h = tt
rows-held place (r ∷ rs) h =
    bool_cases (every holds r.texts)
    (λ e. (each-held r.texts e, rows-held (suc place) rs (rw e at h)))
    (λ e. let z : ◌≡◌ {A = ℕ} 0 1 = cc (rw e at h) in absurd (omega arith))

-- one more row, which is held, before
one-before : {from place : ℕ} {rows : List (List Text)} (ts : List Text) → EachHeld ts → FirstUnheld (suc from) rows place → FirstUnheld from (ts ∷ rows) place
one-before ts h f =
    record {
      before = ts ∷ f.before;
      texts = f.texts;
      behind = f.behind;
      made = ap (λ (l : List (List Text)). ts ∷ l) f.made;
      held = (h, f.held);
      unheld = f.unheld;
      stands =
          omega (arith, f.stands);
    }

first-here : (from : ℕ) (ts : List Text) (rows : List (List Text)) → (EachHeld ts → ⊥) → FirstUnheld from (ts ∷ rows) from
first-here from ts rows h = record { before = []; texts = ts; behind = rows; made = refl; held = tt; unheld = h; stands = omega arith }

row-unheld : (from : ℕ) (rs : List Row) (place : ℕ) → unheld_from from rs ≡ some place → FirstUnheld from (texts_of rs) place
unfolding unheld_from
row-unheld from [] place h = let z : ◌≡◌ {A = ℕ} 0 1 = cc in absurd (omega arith)
row-unheld from (r ∷ rs) place h =
    bool_cases (every holds r.texts)
    (λ e. one-before r.texts (each-held r.texts e) (row-unheld (suc from) rs place (rw e at h)))
    (λ e. let p : from ≡ place = cc (rw e at h) in subst (λ (k : ℕ). FirstUnheld from (texts_of (r ∷ rs)) k) p (first-here from r.texts (texts_of rs) (not-each r.texts e)))

module _ (s : Schema) where
  schema-held : call.first_unheld s ≡ none → RowsHeld (finished_texts s)
  unfolding call.first_unheld finished_texts
  schema-held h =
      bool_cases (holds s.target_namespace)
      (λ e. (((held-exactly s.target_namespace).0 e, tt), rows-held 2 (items_rows s.items) (rw e at h)))
      (λ e. let z : ◌≡◌ {A = ℕ} 0 1 = cc (rw e at h) in absurd (omega arith))

  schema-unheld : (place : ℕ) → call.first_unheld s ≡ some place → FirstUnheld 1 (finished_texts s) place
  unfolding call.first_unheld finished_texts every
  schema-unheld place h =
      let n = s.target_namespace in
      bool_cases (holds n)
      (λ e. one-before (n ∷ []) ((held-exactly n).0 e, tt) (row-unheld 2 (items_rows s.items) place (rw e at h)))
      (λ e. let p : 1 ≡ place = cc (rw e at h) in
      subst (λ (k : ℕ). FirstUnheld 1 ((n ∷ []) ∷ texts_of (items_rows s.items)) k) p
      (first-here 1 (n ∷ []) (texts_of (items_rows s.items)) (λ d. false≢true (sym e ∙ (held-exactly n).1 d.0))))

-- ---- the table

schema-outcome : (s : State) (lent : ℕ) (o : Option ℕ) → s.reader.root_seen ≡ true → call.first_unheld s.reader.schema ≡ o → WriteOutcome s lent (unheld_or_written o s.reader.schema lent)
unfolding call.text_written
schema-outcome s lent (some place) r e = unheld r (schema-unheld s.reader.schema place e) refl
schema-outcome s lent none r e =
    let t = schema_text s.reader.schema in
    let h = schema-held s.reader.schema e in
    bool_cases (leb (length t) lent) (λ y. rw y (written r h (leb-true (length t) lent y) refl)) (λ y. rw y (short r h (leb-false (length t) lent y) refl))

outcome : (s : State) (lent : ℕ) → WriteOutcome s lent (write_state s lent)
unfolding write_state
outcome s lent = if-cases (WriteOutcome s lent) s.reader.root_seen (λ r. schema-outcome s lent (call.first_unheld s.reader.schema) r refl) (λ r. no_root r refl)

write-table : (x : Sheet) (before : List ℕ) → WriteTable x before (write_back x before)
unfolding write_back
write-table x before =
    bool_cases (good_lengths (lengths_of x) && leb (length before) 65536)
    (λ l. bool_cases (good x) (λ g. rw (l, g) (judged l g (outcome (state_of x) (length before)))) (λ g. rw (l, g) (not_good l g refl)))
    (λ l. rw l (lengths l refl))

-- ---- and under no other: the table says what the call gives

held_rows : (from : ℕ) (rs : List Row) → RowsHeld (texts_of rs) → unheld_from from rs ≡ none
unfolding unheld_from
held_rows from [] h = refl
held_rows from (r ∷ rs) h = rw (held-each r.texts h.0) (held_rows (suc from) rs h.1)

-- the first row is not held; it is, and the rest decides
head-unheld : (from : ℕ) (r : Row) (rs : List Row) → (EachHeld r.texts → ⊥) → unheld_from from (r ∷ rs) ≡ some from
unfolding unheld_from
head-unheld from r rs h = bool_cases (every holds r.texts) (λ e. absurd (h (each-held r.texts e))) (λ e. rw e)

unheld-row : (from : ℕ) (rs : List Row) (place : ℕ) (before : List (List Text)) (ts : List Text) (behind : List (List Text)) → texts_of rs ≡ before ++ ts ∷ behind → RowsHeld before
    → (EachHeld ts → ⊥) → place ≡ from + length before → unheld_from from rs ≡ some place
unfolding unheld_from
unheld-row from [] place [] ts behind m h u p = let z : ◌≡◌ {A = ℕ} 0 1 = cc in absurd (omega arith)
unheld-row from [] place (b ∷ before) ts behind m h u p = let z : ◌≡◌ {A = ℕ} 0 1 = cc in absurd (omega arith)
unheld-row from (r ∷ rs) place [] ts behind m h u p =
    let e : ts ≡ r.texts = cc in
    let k : from ≡ place = omega arith in
    rw (← k) (head-unheld from r rs (λ d. u (subst EachHeld (sym e) d)))
unheld-row from (r ∷ rs) place (b ∷ before) ts behind m h u p =
    let e : b ≡ r.texts = cc in
    let n : texts_of rs ≡ before ++ ts ∷ behind = cc in
    rw (held-each r.texts (subst EachHeld e h.0)) (unheld-row (suc from) rs place before ts behind n h.1 u (omega arith))

module _ (s : Schema) where
  abbrev pub finished_rows : List Row
  finished_rows = namespace_row s.target_namespace ∷ items_rows s.items

  -- from row 1 on
  pub first-by-rows : call.first_unheld s ≡ unheld_from 1 finished_rows
  unfolding call.first_unheld unheld_from every namespace_row row
  first-by-rows = bool_cases (holds s.target_namespace) (λ e. rw e) (λ e. rw e)

  held-schema : RowsHeld (finished_texts s) → call.first_unheld s ≡ none
  unfolding finished_texts namespace_row row
  held-schema h = first-by-rows ∙ held_rows 1 finished_rows h

  unheld-schema : (place : ℕ) → FirstUnheld 1 (finished_texts s) place → call.first_unheld s ≡ some place
  unfolding finished_texts namespace_row row
  unheld-schema place f = first-by-rows ∙ unheld-row 1 finished_rows place f.before f.texts f.behind f.made f.held f.unheld f.stands

outcome-is : (s : State) (lent : ℕ) (w : Wrote) → WriteOutcome s lent w → w ≡ write_state s lent
unfolding write_state call.text_written
outcome-is s lent w (no_root r e) = rw r e
outcome-is s lent w (unheld {place = k} r f e) = rw (r, unheld-schema s.reader.schema k f) e
outcome-is s lent w (short r h l e) = rw (r, held-schema s.reader.schema h, lt-leb (length (schema_text s.reader.schema)) lent l) e
outcome-is s lent w (written r h l e) = rw (r, held-schema s.reader.schema h, le-leb (length (schema_text s.reader.schema)) lent l) e

table_is : (x : Sheet) (before : List ℕ) (w : Wrote) → WriteTable x before w → w ≡ write_back x before
unfolding write_back
table_is x before w (lengths l e) = rw l e
table_is x before w (not_good l g e) = rw (l, g) e
table_is x before w (judged l g o) = rw (l, g) (outcome-is (state_of x) (length before) w o)

pub write-exactly : (x : Sheet) (before : List ℕ) (w : Wrote) → WriteTable x before w ↔ (w ≡ write_back x before)
write-exactly x before w = (table_is x before w, λ e. subst (WriteTable x before) (sym e) (write-table x before))
