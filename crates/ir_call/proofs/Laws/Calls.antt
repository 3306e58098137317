-- What the steps of a lowering answer and leave is the definition's, number by number: each by the definition's tests, since zeros and room depend on
-- lengths alone. Assumes nothing.
use Prim.Native.Nat.{ℕ, suc, ◌+◌, ◌-◌, ◌*◌, ◌%◌, ◌≤◌, ◌<◌}
use mathlib.Core.Path.{◌≡◌, refl, sym, ap, ap₂, ◌∙◌}
use mathlib.Core.Bool.{Bool, true, false, ◌&&◌}
use mathlib.Core.Option.{Option, some, none}
use Rattle.std.specs.Prelude.{Err}
use mathlib.Core.List.{List, [], ◌∷◌, ◌++◌}
use native.Mathlib.Omega.{arith}
use lib.Dec.{eqb, leb}
use lib.ListN.{length, get_or, set, take, drop, replicate, length-append, length-replicate, replicate-append-replicate}
use lib.Seq.{get_or-set_other, drop-set-add, drop_at, length-take-le}
use borrow.Author.Tests.{le-leb, lt-leb, leb-true}
use Rattle.text.specs.Text.{Text, between}
use Rattle.std.proofs.lemmas.Bool.{and_parts}
use Rattle.text.proofs.Laws.Tests.{bool_cases, four}
use Rattle.sheet.specs.Rows.{Row, row, ten, text_at, unpack_row}
use Rattle.sheet.specs.Form.{words}
use Rattle.sheet.specs.Lengths.{Answer, sheet_lengths, lengths_of, good_lengths}
use Rattle.sheet.specs.Calls.{sheet, answered}
use Rattle.sheet.specs.Returned.{refusal_number}
use Rattle.sheet.specs.declared.refusal.Refusal.{Refusal}
use Rattle.rows.specs.declared.answers.Refused.{Refused}
use Rattle.rows.specs.Answers.{answer_of}
use Rattle.sheet.specs.Limits.{row_numbers, least_rows, rows_limit, names_limit}
use Rattle.rows.specs.declared.part.SheetPart.{SheetPart}
use Rattle.xsd_types.specs.State.{State}
use Rattle.xsd_types.specs.Count.{refused_rows, count_in, good, state_of}
use Rattle.xsd_types.proofs.Laws.Count.{good-bare, good-count}
use Rattle.xsd_types.proofs.Laws.Places.{text0-at}
use Rattle.xsd_refused.proofs.Laws.Finished.{rows-one, finished-rows, rows_from-count}
use Rattle.xsd_types.specs.Rows.{items_rows, namespace_row}
use Rattle.xsd_types.specs.Good.{used_pairs}
use Rattle.xsd_types.specs.Back.{text0}
use Rattle.xsd_good.proofs.Laws.Bare.{bare-room, bare-count, good-held}
use Rattle.ir_types.specs.Types.{TypeGraph}
use Rattle.ir_types.specs.Sheet.{graph_fits}
use Rattle.ir_lower.specs.Lower.{lower}
use Rattle.ir_lower.specs.Call.{Lowered, zeros, unchanged, cleared, graph_written, repeated_or_written, refused_or_written, lower_finished, lower_state, lowering, scratch_least}
use Rattle.ir_lower.specs.Repeated.{first_repeated, repeated_row}
use Rattle.ir_lower.proofs.Laws.Left.{length-zeros}
use Rattle.xsd_types.specs.Places.{row_at, rows_from}
use Rattle.xsd_types.specs.Refused.{refused_row, refused_place}
use Rattle.ir_rows.specs.Lowered.{lowered_row}
use Rattle.ir_rows.specs.Parts.{part_rows, part_heads}
use Rattle.ir_rows.proofs.Laws.Graph.{unknown-place, unknown-refused, unknown-lowered, repeated-heads, root-count, type-count, graph-rows, namespace-lowered, Stands}
use Rattle.ir_append.specs.Whole.{ClearedBuffers}
use Rattle.ir_call.specs.Steps.{SizedSheet, lowered_sheets, LowersState, GraphOf, GraphStands}

-- a refusal whose place is 0
pub refusal_at_0 : {why : Refusal} {refused : Refused} → refused ≡ record { refusal = why; place = 0 } → answer_of (Err refused) ≡ answered (refusal_number why) 0
refusal_at_0 e = ap (λ (r : Refused). answer_of (Err r)) e

-- ---- zeros

zeros-as : (xs ys : List ℕ) → length xs ≡ length ys → zeros xs ≡ zeros ys
unfolding zeros
zeros-as xs ys e = ap (λ (n : ℕ). replicate n 0) e

zeros-twice : (xs : List ℕ) → zeros xs ≡ zeros (zeros xs)
zeros-twice xs = zeros-as xs (zeros xs) (sym (length-zeros xs))

pub cleared-zeros : {rows names : List ℕ} → SizedSheet rows names → ClearedBuffers (zeros rows) (zeros names)
unfolding zeros
cleared-zeros {rows} {names} s =
    record {
      rows_zero = zeros-twice rows;
      names_zero = zeros-twice names;
      some_rows = rw (length-zeros rows) s.some_rows;
      few_rows = rw (length-zeros rows) s.few_rows;
      few_names = rw (length-zeros names) s.few_names;
    }

-- zeros whose first numbers were changed, and are set to 0 again
pub zeros-again : {table filled : List ℕ} {used : ℕ} (front : List ℕ) → used ≤ length table → length front ≡ used → filled ≡ replicate (length (take used (front ++ drop used table))) 0
    → table ≡ zeros table → filled ++ drop used (front ++ drop used table) ≡ table
unfolding zeros
zeros-again {table} {filled} {used} front l f w z =
    let n = length table in
    let behind : drop used (front ++ drop used table) ≡ drop used table = drop_at front (drop used table) used f in
    let long : length (take used (front ++ drop used table)) ≡ used =
    length-take-le used (front ++ drop used table) (omega (arith, length-append front (drop used table), f)) in
    let count : used + (n - used) ≡ n = omega arith in
    let split : replicate {A = ℕ} n 0 ≡ replicate used 0 ++ replicate (n - used) 0 = rw (replicate-append-replicate {A = ℕ} used (n - used) 0, count) in
    let rest : drop used table ≡ replicate (n - used) 0 = ap (drop used) (z ∙ split) ∙ drop_at (replicate used 0) (replicate (n - used) 0) used (length-replicate {A = ℕ} used 0) in
    rw (behind, rest, w, long) (sym (z ∙ split))

-- ---- a graph, and 15

module _ (rows names scratch : List ℕ) (g : TypeGraph) where
  pub known-full : (rows₁ names₁ : List ℕ) {rows₂ names₂ : List ℕ} {a : Answer} → graph_fits (length rows) (length names) g ≡ false → a ≡ answered 15 0
      → length rows₁ ≡ length rows → rows₂ ≡ zeros rows₁ → length names₁ ≡ length names → names₂ ≡ zeros names₁
      → lowered_sheets a rows₂ names₂ (zeros scratch) ≡ graph_written g (sheet rows names) scratch
  unfolding graph_written cleared
  known-full rows₁ names₁ short e lr r ln n = rw short (λ i. lowered_sheets (e i) ((r ∙ zeros-as rows₁ rows lr) i) ((n ∙ zeros-as names₁ names ln) i) (zeros scratch))

  pub known-stands : {rows₁ names₁ : List ℕ} {place : ℕ} {a : Answer} → GraphStands g rows names rows₁ names₁ place → a ≡ answered 0 place
      → lowered_sheets a rows₁ names₁ (zeros scratch) ≡ graph_written g (sheet rows names) scratch
  unfolding graph_written
  known-stands st e = rw st.fits (λ i. record { answer = (e ∙ ap (answered 0) st.place_is) i; graph = st.graph i; scratch = zeros scratch })

  -- ---- 20: the graph is zeros already

  pub known-repeated : {a : Answer} {row : ℕ} (o : Option ℕ) → o ≡ some row → ClearedBuffers rows names → a ≡ answered 20 row
      → lowered_sheets a rows names (zeros scratch) ≡ repeated_or_written o g (sheet rows names) scratch
  unfolding cleared zeros
  known-repeated o q c e =
      (λ i. lowered_sheets (e i) (c.rows_zero i) (c.names_zero i) (zeros scratch)) ∙ ap (λ (r : Option ℕ). repeated_or_written r g (sheet rows names) scratch) (sym q)

  -- no name came before: the graph, or 15
  pub known-once : {x : Lowered} (o : Option ℕ) → o ≡ none → x ≡ graph_written g (sheet rows names) scratch → x ≡ repeated_or_written o g (sheet rows names) scratch
  known-once o e w = w ∙ ap (λ (r : Option ℕ). repeated_or_written r g (sheet rows names) scratch) (sym e)

-- ---- 12 and 13, where the graph is zeros already

module _ {part : SheetPart} {root : Bool} {s : State} (l : LowersState part root s) {gr gn : List ℕ} (c : ClearedBuffers gr gn) (scratch : List ℕ) where
  pub finished-rootless : {a : Answer} → root ≡ false → a ≡ answered 12 0 → lowered_sheets a gr gn (zeros scratch) ≡ lower_finished s (sheet gr gn) scratch
  unfolding lower_finished cleared zeros
  finished-rootless f e =
      let seen = sym l.root ∙ f in
      rw seen (λ i. lowered_sheets (e i) (c.rows_zero i) (c.names_zero i) (zeros scratch))

  refused-place : {a : Answer} {unknown : ℕ} (o : Option TypeGraph) → lower s.reader.schema ≡ o → (unknown ≡ 0 → ⊥) → unknown ≡ refused_place 2 (part_rows part 2) → a ≡ answered 13 unknown
      → lowered_sheets a gr gn (zeros scratch) ≡ refused_or_written s.reader.schema o (sheet gr gn) scratch
  unfolding cleared zeros
  refused-place none q some? u e = λ i. lowered_sheets ((e ∙ ap (answered 13) (u ∙ l.place)) i) (c.rows_zero i) (c.names_zero i) (zeros scratch)
  refused-place (some g) q some? u e = absurd (some? (u ∙ (l.lowers g q).0))

  pub finished-unknown : {a : Answer} {unknown : ℕ} → root ≡ true → (unknown ≡ 0 → ⊥) → unknown ≡ refused_place 2 (part_rows part 2) → a ≡ answered 13 unknown
      → lowered_sheets a gr gn (zeros scratch) ≡ lower_finished s (sheet gr gn) scratch
  unfolding lower_finished
  finished-unknown t some? u e =
      let seen = sym l.root ∙ t in
      rw seen (refused-place (lower s.reader.schema) refl some? u e)

  known-graph : {x : Lowered} (o : Option TypeGraph) → lower s.reader.schema ≡ o → 0 ≡ refused_place 2 (part_rows part 2)
      → ((g : TypeGraph) → GraphOf part g → x ≡ repeated_or_written (first_repeated [] (part_heads part)) g (sheet gr gn) scratch)
      → x ≡ refused_or_written s.reader.schema o (sheet gr gn) scratch
  known-graph none q u w = absurd (omega (arith, l.refuses q))
  known-graph (some g) q u w = w g (l.lowers g q).1 ∙ ap (λ (r : Option ℕ). repeated_or_written r g (sheet gr gn) scratch) l.repeated

  pub finished-known : {x : Lowered} → root ≡ true → 0 ≡ refused_place 2 (part_rows part 2)
      → ((g : TypeGraph) → GraphOf part g → x ≡ repeated_or_written (first_repeated [] (part_heads part)) g (sheet gr gn) scratch)
      → x ≡ lower_finished s (sheet gr gn) scratch
  unfolding lower_finished
  finished-known t u w =
      let seen = sym l.root ∙ t in
      rw seen (known-graph (lower s.reader.schema) refl u w)

-- ---- what is left from 12 on depends on the lengths alone

module _ (s : State) (gr gn scratch : List ℕ) where
  cleared-again : (n place : ℕ) → cleared n place (sheet (zeros gr) (zeros gn)) scratch ≡ cleared n place (sheet gr gn) scratch
  unfolding cleared
  cleared-again n place = rw (← zeros-twice gr, ← zeros-twice gn)

  repeated-again : (o : Option ℕ) (g : TypeGraph) → repeated_or_written o g (sheet (zeros gr) (zeros gn)) scratch ≡ repeated_or_written o g (sheet gr gn) scratch
  unfolding graph_written
  repeated-again (some row) g = cleared-again 20 row
  repeated-again none g = rw (length-zeros gr, length-zeros gn, cleared-again 15 0)

  refused-again : (o : Option TypeGraph) → refused_or_written s.reader.schema o (sheet (zeros gr) (zeros gn)) scratch ≡ refused_or_written s.reader.schema o (sheet gr gn) scratch
  refused-again none = cleared-again 13 _
  refused-again (some g) = repeated-again (repeated_row s.reader.schema) g

  finished-again : lower_finished s (sheet (zeros gr) (zeros gn)) scratch ≡ lower_finished s (sheet gr gn) scratch
  unfolding lower_finished
  finished-again = rw (refused-again (lower s.reader.schema), cleared-again 12 0)

  -- the scratch is cleared behind the steps
  pub finished-cleared : {a : Answer} {rows names : List ℕ} (scratch₁ : List ℕ) {scratch₂ : List ℕ}
      → lowered_sheets a rows names (zeros scratch) ≡ lower_finished s (sheet (zeros gr) (zeros gn)) scratch
      → length scratch₁ ≡ length scratch → scratch₂ ≡ zeros scratch₁ → lowered_sheets a rows names scratch₂ ≡ lower_finished s (sheet gr gn) scratch
  finished-cleared {a} {rows} {names} scratch₁ w l e = ap (lowered_sheets a rows names) (e ∙ zeros-as scratch₁ scratch l) ∙ w ∙ finished-again

-- ---- the rows of a good sheet

-- where the count is 0 no row is refused
pub none-refused : (p : ℕ) (rs : List Row) → refused_rows rs ≡ 0 → refused_place p rs ≡ 0
unfolding refused_rows refused_place
none-refused p [] e = refl
none-refused p (r ∷ rs) e =
    bool_cases (refused_row r rs) (λ q. let z : suc (refused_rows rs) ≡ 0 = rw q at e in absurd (omega arith)) (λ q. rw q (none-refused (p + 1) rs (rw q at e)))

-- a number of row 1 but its a
row1-number : (rows : List ℕ) (k : ℕ) → (k ≡ 7 → ⊥) → get_or (drop 10 (set rows 17 0)) k 0 ≡ get_or (drop 10 rows) k 0
row1-number rows k h = ap (λ (l : List ℕ). get_or l k 0) (drop-set-add 10 rows 7 0) ∙ get_or-set_other (drop 10 rows) 7 k 0 0 h

-- the text of row 1, whatever its a is
row1-text : (rows names : List ℕ) → (row_at rows names 1).tag ≡ 1 → text0 (row_at rows names 1) ≡ text_at names (get_or (drop 10 rows) 1 0) (get_or (drop 10 rows) 2 0)
unfolding row_at ten unpack_row used_pairs between
row1-text rows names e = text0-at names (ten (drop 10 rows)) (rw e (omega arith))

module _ (rows names : List ℕ) (text : Text) (e : row_at (set rows 17 0) names 1 ≡ namespace_row text) where
  row1-tag : (row_at rows names 1).tag ≡ 1
  unfolding row_at ten unpack_row namespace_row row
  row1-tag = sym (row1-number rows 0 (λ n. omega arith)) ∙ ap (λ (r : Row). r.tag) e

  pub namespace-there : lowered_row false (row_at rows names 1) ≡ row 1 (text ∷ []) 0 0 0 ∷ []
  unfolding namespace_row row text0
  namespace-there =
      let bare_tag : (row_at (set rows 17 0) names 1).tag ≡ 1 = ap (λ (r : Row). r.tag) e in
      let same = ap₂ (text_at names) (sym (row1-number rows 1 (λ n. omega arith))) (sym (row1-number rows 2 (λ n. omega arith))) in
      let there = row1-text rows names row1-tag ∙ same ∙ sym (row1-text (set rows 17 0) names bare_tag) ∙ ap text0 e in
      namespace-lowered (row_at rows names 1) row1-tag ∙ ap (λ (t : Text). row 1 (t ∷ []) 0 0 0 ∷ []) there

module _ (rows names : List ℕ) (g : good (sheet rows names) ≡ true) (w : words rows ≡ true) {end : ℕ}
    (e : end ≡ 2 + length (items_rows (state_of (sheet rows names)).reader.schema.items)) where
  pub good-stands : Stands (state_of (sheet rows names)) rows names end
  good-stands =
      let s = state_of (sheet rows names) in
      let held = good-held rows names g w in
      record {
        finished = sym (rows_from-count rows names 0 2 end (omega arith)) ∙ finished-rows s held.packs held.proper e;
        namespace = namespace-there rows names _ (rows-one s held.packs held.proper);
      }

  pub good-room : (2 ≤ end) × (10 * end ≤ length rows)
  good-room = bare-room rows names (good-bare (sheet rows names) g) w e

  pub good-counted : get_or rows 17 0 ≡ refused_rows (rows_from rows names 2 end)
  unfolding count_in
  good-counted = good-count (sheet rows names) g ∙ sym (bare-count rows names (good-bare (sheet rows names) g) w e)

-- ---- 14

pub lowers-held : (part : SheetPart) {s : State} {seen : Bool} → Stands s part.rows.now part.names.now part.end → seen ≡ s.reader.root_seen → LowersState part seen s
lowers-held part h root =
    record {
      root = root;
      place = unknown-place h;
      refuses = unknown-refused h;
      repeated = repeated-heads h;
      lowers = λ g q. (unknown-lowered h g q, record { rows_are = graph-rows h g q; roots = root-count h g q; types = type-count h g q });
    }

module _ (s : State) (gr gn scratch : List ℕ) where
  pub state-short : {a : Answer} → length scratch < scratch_least → a ≡ answered 14 0 → lowered_sheets a gr gn scratch ≡ lower_state s (sheet gr gn) scratch
  unfolding lower_state unchanged
  state-short l q = rw (lt-leb scratch_least (length scratch) l) (λ i. lowered_sheets (q i) gr gn scratch)

  pub state-enough : {x : Lowered} → scratch_least ≤ length scratch → x ≡ lower_finished s (sheet gr gn) scratch → x ≡ lower_state s (sheet gr gn) scratch
  unfolding lower_state
  state-enough l q = rw (le-leb scratch_least (length scratch) l) q

-- ---- 1 and 2

abbrev pub both_lengths : List ℕ → List ℕ → List ℕ → List ℕ → Bool
both_lengths rows names gr gn = sheet_lengths (length rows) (length names) && sheet_lengths (length gr) (length gn)

sized : (rows names : List ℕ) → sheet_lengths (length rows) (length names) ≡ true → SizedSheet rows names
unfolding sheet_lengths
sized rows names e =
    let x = four (eqb (length rows % row_numbers) 0) (leb least_rows (length rows)) (leb (length rows) rows_limit) (leb (length names) names_limit) e in
    record { some_rows = leb-true _ _ x.1; few_rows = leb-true _ _ x.2; few_names = leb-true _ _ x.3 }

module _ (rows names gr gn scratch : List ℕ) where
  pub lower-one : {a : Answer} → a ≡ answered 1 0 → both_lengths rows names gr gn ≡ false → lowered_sheets a gr gn scratch ≡ lowering (sheet rows names) (sheet gr gn) scratch
  unfolding lowering unchanged good_lengths lengths_of
  lower-one e f = rw f (λ i. lowered_sheets (e i) gr gn scratch)

  pub lower-two : {a : Answer} → a ≡ answered 2 0 → both_lengths rows names gr gn ≡ true → good (sheet rows names) ≡ false
      → lowered_sheets a gr gn scratch ≡ lowering (sheet rows names) (sheet gr gn) scratch
  unfolding lowering unchanged good_lengths lengths_of
  lower-two e t f = rw (t, f) (λ i. lowered_sheets (e i) gr gn scratch)

  pub lower-through : {x : Lowered} → both_lengths rows names gr gn ≡ true → good (sheet rows names) ≡ true
      → x ≡ lower_state (state_of (sheet rows names)) (sheet gr gn) scratch → x ≡ lowering (sheet rows names) (sheet gr gn) scratch
  unfolding lowering good_lengths lengths_of
  lower-through t g e = rw (t, g) e

  pub sized-both : both_lengths rows names gr gn ≡ true → SizedSheet rows names × SizedSheet gr gn
  sized-both t =
      let both = and_parts (sheet_lengths (length rows) (length names)) (sheet_lengths (length gr) (length gn)) t in
      (sized rows names both.0, sized gr gn both.1)
