-- A good sheet holds its state: its rows are the packing of the state's, row 0 is the state's, and the finished items end where `finished_end` says.
-- Assumes nothing.
use Prim.Native.Nat.{ℕ, ◌+◌, ◌*◌, ◌≤◌, ◌<◌}
use mathlib.Core.Path.{◌≡◌, refl, sym, ap, ◌∙◌}
use mathlib.Core.Bool.{true}
use mathlib.Core.List.{List, [], ◌∷◌}
use native.Mathlib.Omega.{arith}
use lib.Dec.{eqb, leb}
use lib.ListN.{length, length-append}
use borrow.Author.Tests.{leb-true, leb-false}
use Rattle.std.proofs.lemmas.Bool.{and_parts}
use Rattle.text.proofs.Laws.Tests.{if-cases}
use Rattle.sheet.specs.Rows.{Ten, Row, ten, numbers, pack, filled}
use Rattle.sheet.specs.Calls.{sheet}
use Rattle.sheet.specs.Form.{words, rows_used_in, used_parts, row0_of}
use Rattle.sheet.proofs.Laws.Numbers.{ten-numbers}
use Rattle.xsd_types.specs.State.{Context, State}
use Rattle.xsd_types.specs.Row0.{Row0, row0_from, row0_ten}
use Rattle.xsd_types.specs.Rows.{items_rows, context_rows, context_number, rows_of, row0, rows_used, names_used}
use Rattle.xsd_types.specs.Sheet.{state_fits, bare_sheet_of}
use Rattle.xsd_types.specs.Good.{bare_good}
use Rattle.xsd_types.specs.Back.{bare_state_of}
use Rattle.xsd_types.proofs.Laws.Items.{bit-back}
use Rattle.xsd_types.proofs.Laws.Parts.{parts-of}
use Rattle.xsd_types.proofs.Laws.StateOf.{bare_sheet_of-bare_state_of, proper-bare_state_of, fits-bare_state_of}
use Rattle.rows.specs.Packing.{Packs}
use Rattle.rows.proofs.Laws.Room.{fits-room}
use Rattle.rows.proofs.Laws.Sheet.{sheet-packs}
use Rattle.xsd_good.specs.End.{finished_end, HeldState}
use Rattle.xsd_good.proofs.Laws.Open.{open-head-is}

-- the used rows that row 0 of a good sheet gives, at least two, lie inside the buffer
pub good-rows : (rows names : List ℕ) → bare_good (sheet rows names) ≡ true → (20 ≤ length rows) × (10 * rows_used_in (ten rows) ≤ length rows)
unfolding used_parts row0_of
good-rows rows names g =
    let z = row0_from (ten rows) in
    let used = and_parts (leb 2 z.rows_used) _ (parts-of (sheet rows names) g).parts in
    let room = fits-room z.rows_used z.names_used (length rows) (length names) used.1 in
    (omega (arith, leb-true 2 z.rows_used used.0, room.0), room.0)

pub good-used : (rows names : List ℕ) → bare_good (sheet rows names) ≡ true → (10 ≤ length rows) × (10 * rows_used_in (ten rows) ≤ length rows)
good-used rows names g = let r = good-rows rows names g in (omega (arith, r.0), r.1)

-- row 0 of a packing
pub ten-packs : (rows names : List ℕ) (z : Ten) (rs : List Row) → Packs rows names (numbers (z ∷ [])) rs → ten rows ≡ z
unfolding filled numbers
ten-packs rows names z rs p = ap ten p.rows_are ∙ ten-numbers z (pack 0 rs) _

-- a good sheet holds its state
pub held-good : (rows names : List ℕ) → bare_good (sheet rows names) ≡ true → words rows ≡ true → HeldState (bare_state_of (sheet rows names)) rows names
unfolding state_fits bare_sheet_of rows_used names_used
held-good rows names g w =
    let x = sheet rows names in
    let s = bare_state_of x in
    let room = fits-room (rows_used s) (names_used s) (length rows) (length names) (fits-bare_state_of x w g) in
    record {
      packs = sheet-packs x (row0_ten (row0 s)) (rows_of s) (length rows) (length names) room.0 room.1 (sym (bare_sheet_of-bare_state_of x w g));
      proper = proper-bare_state_of x w g;
    }

-- a context with no open type has no rows
pub none_open : (c : Context) → context_number c < 2 → context_rows c ≡ []
unfolding context_number context_rows
none_open Context.no_context h = refl
none_open (Context.in_schema n) h = refl
none_open (Context.in_simple_type t) h = absurd (omega arith)
none_open (Context.in_complex_type t) h = absurd (omega arith)

module _ {s : State} {rows names : List ℕ} (h : HeldState s rows names) where
  -- row 0 is the state's
  pub row0-held : ten rows ≡ row0_ten (row0 s)
  row0-held = ten-packs rows names (row0_ten (row0 s)) (rows_of s) h.packs

  -- the finished items end behind the items' rows
  pub finished_end-is : finished_end rows (context_number s.reader.context) (rows_used s) ≡ 2 + length (items_rows s.reader.schema.items)
  unfolding finished_end rows_used rows_of
  finished_end-is =
      let c = s.reader.context in
      let items = items_rows s.reader.schema.items in
      if-cases (λ (n : ℕ). n ≡ 2 + length items) (leb 2 (context_number c))
      (λ e. open-head-is s h.packs (leb-true 2 (context_number c) e))
      (λ e. omega (arith, length-append items (context_rows c), ap length (none_open c (leb-false 2 (context_number c) e))))

  -- by the numbers of row 0 as they were read
  module _ (z : Row0) (e : z ≡ row0_from (ten rows)) where
    row0-read : z ≡ row0 s
    row0-read = e ∙ ap row0_from row0-held

    pub end-held : finished_end rows z.context z.rows_used ≡ 2 + length (items_rows s.reader.schema.items)
    unfolding row0
    end-held = ap (λ (y : Row0). finished_end rows y.context y.rows_used) row0-read ∙ finished_end-is

    pub root-held : eqb z.root_seen 1 ≡ s.reader.root_seen
    unfolding row0
    root-held = ap (λ (y : Row0). eqb y.root_seen 1) row0-read ∙ bit-back s.reader.root_seen
