-- A good sheet of u32 is the sheet of a proper state that has room in its buffers, and that state is the one read from it. Assumes nothing.
use mathlib.Core.Path.{◌≡◌, refl, sym, ap, ◌∙◌}
use mathlib.Core.Logic.{⊎_elim, ◌↔◌}
use mathlib.Core.Bool.{true, ◌&&◌, false≢true}
use mathlib.Core.List.{List, [], ◌∷◌, ◌++◌}
use Prim.Native.Nat.{◌+◌, ◌≤◌}
use native.Mathlib.Omega.{arith}
use lib.Dec.{eqb}
use lib.ListN.{length, length-append}
use borrow.Author.Tests.{eqb-true}
use Rattle.text.specs.Text.{Text, every, is_text, join}
use Rattle.std.proofs.lemmas.Bool.{or_left, or_right, or_cases}
use Rattle.text.proofs.Laws.Tests.{three, and-true-left, and-true}
use Rattle.sheet.specs.Rows.{Row, Sheet, row, names_of}
use Rattle.xsd_types.specs.Types.{Item}
use Rattle.xsd_types.specs.State.{Context, State, schema_ok, is_no_context, is_empty, root_ok, counters_ok, heads_pass, events_ok, proper}
use Rattle.xsd_types.specs.Rows.{namespace_row, item_rows, items_rows, context_rows, rows_of, context_number, rows_used, names_used, row0}
use Rattle.xsd_types.specs.Row0.{Row0, row0_in}
use Rattle.xsd_types.specs.Sheet.{state_fits, bare_sheet_of}
use Rattle.xsd_types.specs.Good.{limits, root_test, bare_good}
use Rattle.xsd_types.specs.Back.{rows_in, bare_state_of}
use Rattle.xsd_types.proofs.Laws.Groups.{is_group}
use Rattle.xsd_types.proofs.Laws.Items.{group-item}
use Rattle.xsd_types.proofs.Laws.Sound.{text_row}
use Rattle.xsd_types.proofs.Laws.Rows.{bit-again}
use Rattle.xsd_types.proofs.Laws.Events.{body-events}
use Rattle.xsd_types.proofs.Laws.Parts.{Parts, parts-of, first_of}
use Rattle.xsd_types.proofs.Laws.Read.{names-length, names-text, sheet-again, rows-length, body_in, namespace_at, rows_split, body-numbered, body-opened}
use Rattle.xsd_types.proofs.Laws.SheetOf.{bare_good-bare_sheet_of, bare_state_of-bare_sheet_of}
use Rattle.text.proofs.Laws.Every.{every-head}
use Rattle.sheet.specs.Form.{rows_used_of, names_used_of, words}
use Rattle.sheet.proofs.Laws.Formed.{used-fits}

-- a state of row 0's numbers
unfoldable pub state_with : Row0 → Text → List Item → Context → State
state_with z ns is c =
    record {
      reader = record { schema = record { target_namespace = ns; items = is }; root_seen = eqb z.root_seen 1; context = c };
      events = z.events;
      open_tags = z.open_tags;
      by_standard = eqb z.choice 1;
    }

pub group-length : (rs : List Row) → is_group rs ≡ true → 1 ≤ length rs
unfolding is_group
group-length [] g = absurd (false≢true g)
group-length (r ∷ rs) g = omega arith

pub no_items : (is : List Item) (rest : List Row) → length (items_rows is ++ rest) ≡ 0 → is_empty is ≡ true
unfolding is_empty items_rows
no_items [] rest e = refl
no_items (i ∷ is) rest e =
    let l = simp length-append at e in
    absurd (omega (arith, group-length (item_rows i) (group-item i)))

pub no_name : (ns : Text) (rest : Text) → length (join (ns ∷ []) ++ rest) ≡ 0 → is_empty ns ≡ true
unfolding is_empty join
no_name [] rest e = refl
no_name (b ∷ ns) rest e = absurd (omega arith)

pub no-context : (c : Context) → context_number c ≡ 0 → is_no_context c ≡ true
unfolding is_no_context context_number
no-context Context.no_context e = refl
no-context (Context.in_schema n) e = absurd (omega arith)
no-context (Context.in_simple_type t) e = absurd (omega arith)
no-context (Context.in_complex_type t) e = absurd (omega arith)

module _ (x : Sheet) (p : Parts x) (w : words x.rows ≡ true) where
  unfoldable pub held : State
  held = let o = body-opened x p w in state_with (row0_in x) (namespace_at x p) o.items o.context

  pub held_rows : rows_of held ≡ rows_in x
  unfolding held state_with rows_of
  held_rows = sym (rows_split x p ∙ ap (λ (l : List Row). namespace_row (namespace_at x p) ∷ l) (body-opened x p w).same)

  pub held-rows_used : rows_used held ≡ rows_used_of x
  unfolding rows_used
  held-rows_used = ap (λ (l : List Row). 1 + length l) held_rows ∙ rows-length x p

  pub held-names_used : names_used held ≡ names_used_of x
  unfolding names_used
  held-names_used = ap (λ (l : List Row). length (names_of l)) held_rows ∙ names-length x p

  pub held-row0 : row0 held ≡ row0_in x
  unfolding held state_with row0
  held-row0 =
      let o = body-opened x p w in
      let f = first_of (row0_in x) p.row0 in
      λ i. record {
        first = sym f.first_is i;
        rows_used = held-rows_used i;
        names_used = held-names_used i;
        context = o.number_is i;
        nesting = o.depth_is i;
        root_seen = bit-again
            (row0_in x).root_seen f.root_is i;
        events = (row0_in x).events;
        open_tags = (row0_in x).open_tags;
        extension = o.flag_is i;
        choice = bit-again (row0_in x).choice f.choice_is i;
      }

  pub held-sheet : bare_sheet_of held (length x.rows) (length x.names) ≡ x
  unfolding bare_sheet_of
  held-sheet = rw (held-row0, held_rows) (sheet-again x p)

  pub held_fits : state_fits (length x.rows) (length x.names) held ≡ true
  unfolding state_fits
  held_fits = rw (held-rows_used, held-names_used) (used-fits x p.parts)

  pub held-namespace : is_text (namespace_at x p) ≡ true
  unfolding text_row namespace_row row every
  held-namespace = and-true-left _ _ (every-head text_row (namespace_row (namespace_at x p)) (body_in x p) (rw (rows_split x p) at (names-text x p)))

  -- two rows and no names: no context, no items, no namespace
  pub held-nothing : eqb (row0_in x).context 0 && eqb (rows_used_of x) 2 && eqb (names_used_of x) 0 ≡ true
      → is_no_context held.reader.context && is_empty held.reader.schema.items && is_empty held.reader.schema.target_namespace ≡ true
  unfolding held state_with rows_used names_used rows_of names_of namespace_row row
  held-nothing e =
      let o = body-opened x p w in
      let z = row0_in x in
      let t = three (eqb z.context 0) (eqb z.rows_used 2) (eqb z.names_used 0) e in
      let context = no-context o.context (o.number_is ∙ eqb-true z.context 0 t.0) in
      let rows = eqb-true z.rows_used 2 t.1 in
      and-true (and-true context (no_items o.items (context_rows o.context) (omega (arith, held-rows_used))))
      (no_name (namespace_at x p) (names_of (items_rows o.items ++ context_rows o.context)) (held-names_used ∙ eqb-true z.names_used 0 t.2))

  pub held-root : root_ok held.reader ≡ true
  unfolding root_ok root_test held state_with
  held-root = ⊎_elim (λ e. or_left _ _ e) (λ e. or_right (eqb (row0_in x).root_seen 1) _ (held-nothing e))
      (or_cases (eqb (row0_in x).root_seen 1) (eqb (row0_in x).context 0 && eqb (rows_used_of x) 2 && eqb (names_used_of x) 0) p.root)

  pub held-events : events_ok held.reader held.events ≡ true
  unfolding events_ok heads_pass held state_with
  held-events =
      let o = body-opened x p w in
      sym (body-events (row0_in x).events o.items o.context) ∙ (rw o.same at (body-numbered x p))

  pub held-proper : proper held ≡ true
  unfolding proper counters_ok limits schema_ok held state_with
  held-proper =
      let o = body-opened x p w in
      and-true (and-true (and-true (and-true p.limit held-root) o.context_is_ok) (and-true held-namespace o.items_ok)) held-events

-- the state of a good sheet: its sheet is the sheet, it is proper, it has room
module _ (x : Sheet) (w : words x.rows ≡ true) (g : bare_good x ≡ true) where
  pub bare_state_of-held : bare_state_of x ≡ held x (parts-of x g) w
  bare_state_of-held =
      let p = parts-of x g in
      ap bare_state_of (sym (held-sheet x p w)) ∙ bare_state_of-bare_sheet_of (held x p w) (length x.rows) (length x.names) (held-proper x p w) (held_fits x p w)

  pub bare_sheet_of-bare_state_of : bare_sheet_of (bare_state_of x) (length x.rows) (length x.names) ≡ x
  bare_sheet_of-bare_state_of = rw bare_state_of-held (held-sheet x (parts-of x g) w)

  pub proper-bare_state_of : proper (bare_state_of x) ≡ true
  proper-bare_state_of = rw bare_state_of-held (held-proper x (parts-of x g) w)

  pub fits-bare_state_of : state_fits (length x.rows) (length x.names) (bare_state_of x) ≡ true
  fits-bare_state_of = rw bare_state_of-held (held_fits x (parts-of x g) w)

-- a sheet of u32 is good exactly if it is the sheet of a proper state in buffers of these lengths
pub bare_good-exactly : (x : Sheet) → words x.rows ≡ true
    → (bare_good x ≡ true) ↔ ((s : State) × (proper s ≡ true) × (state_fits (length x.rows) (length x.names) s ≡ true) × (bare_sheet_of s (length x.rows) (length x.names) ≡ x))
bare_good-exactly x w = (
  λ g. (bare_state_of x, proper-bare_state_of x w g, fits-bare_state_of x w g, bare_sheet_of-bare_state_of x w g),
  λ h. rw h.3 at (bare_good-bare_sheet_of h.0 (length x.rows) (length x.names) h.1 h.2),
)
