-- The count around a reading: the sheet without it is read, the items grow, and those behind the old ones are counted. Assumes nothing.
use Prim.Native.Nat.{ℕ, ◌+◌, ◌*◌, ◌<◌, ◌≤◌}
use mathlib.Core.Path.{◌≡◌, refl, ap, ap₂, subst, ◌∙◌}
use mathlib.Core.Bool.{true}
use mathlib.Core.List.{List}
use native.Mathlib.Omega.{arith}
use lib.ListN.{length, get_or, set, length-set, length-append}
use Rattle.text.specs.Text.{Text}
use Rattle.sheet.specs.Rows.{Sheet, ten}
use Rattle.sheet.specs.Lengths.{Answer}
use Rattle.sheet.specs.Calls.{sheet}
use Rattle.sheet.specs.Form.{words, rows_used_in}
use Rattle.xsd_types.specs.Types.{Item}
use Rattle.xsd_types.specs.State.{State, proper}
use Rattle.xsd_types.specs.Row0.{row0_from}
use Rattle.xsd_types.specs.Rows.{items_rows}
use Rattle.xsd_types.specs.Sheet.{bare_sheet_of, state_fits}
use Rattle.xsd_types.specs.Good.{bare_good}
use Rattle.xsd_types.specs.Back.{bare_state_of}
use Rattle.xsd_types.specs.Places.{rows_from}
use Rattle.xsd_types.specs.Count.{count_of, refused_rows, count_in, bare, with_count, sheet_of, state_of}
use Rattle.xsd_types.proofs.Laws.SheetOf.{bare_good-bare_sheet_of, bare_state_of-bare_sheet_of, length-bare_sheet_of}
use Rattle.xsd_types.proofs.Laws.Counted.{items_rows-append}
use Rattle.xsd_types.proofs.Laws.Count.{good-bare, good-count, proper-state_of, fits-state_of}
use Rattle.xsd_refused.proofs.Laws.Count.{count-few}
use Rattle.xsd_refused.proofs.Laws.Finished.{end-room, count-finished, count-new}
use Rattle.xsd_good.specs.End.{finished_end, HeldState}
use Rattle.xsd_good.proofs.Laws.Held.{good-used, held-good, end-held}
use Rattle.xsd_good.proofs.Laws.Bare.{bare-used, bare-end}
use Rattle.xsd_parser.specs.Read.{Reading, read_state, sheet_of_reading}
use Rattle.xsd_parser.proofs.Laws.Reads.{read_state-proper, read_state-fits}
use Rattle.xsd_parser.proofs.Laws.Grows.{items-grow}
use Rattle.xsd_progress.specs.Progress.{lent_to}
use Rattle.xsd_read.specs.Good.{GoodSheet, GoodRead, CountedSheet, CountedRead}

-- the state of a sheet, and its finished items
abbrev state_in : List ℕ → List ℕ → State
state_in rows names = state_of (sheet rows names)

abbrev items_in : List ℕ → List ℕ → List Item
items_in rows names = (state_in rows names).reader.schema.items

module _ {rows names : List ℕ} {text : Text} (c : CountedSheet rows names text) where
  good-there : bare_good (bare (sheet rows names)) ≡ true
  good-there = good-bare (sheet rows names) c.is_good

  pub counted-used : (17 < length rows) × (10 ≤ length rows) × (10 * rows_used_in (ten rows) ≤ length rows)
  counted-used = let u = bare-used rows names good-there in (omega (arith, u.0), omega (arith, u.0), u.1)

  -- the sheet without its count
  pub taken_out : GoodSheet (set rows 17 0) names text
  unfolding bare with_count
  taken_out =
      record { is_good = good-there; lent = record { few_rows = rw (length-set rows 17 0) c.lent.few_rows; few_names = c.lent.few_names; few_bytes = c.lent.few_bytes } }

  -- the count that it had
  pub count-before : get_or rows 17 0 ≡ count_of (state_in rows names)
  unfolding count_in
  count-before = good-count (sheet rows names) c.is_good

  module _ (w : words rows ≡ true) where
    -- where its finished items end
    pub place-before : finished_end rows (row0_from (ten rows)).context (rows_used_in (ten rows)) ≡ 2 + length (items_rows (items_in rows names))
    place-before = bare-end rows names good-there w

    module _ {marks : List ℕ} {a : Answer} {rows' names' : List ℕ} (read : GoodRead (set rows 17 0) names text marks a (sheet rows' names')) where
      -- the definition's reading of its state
      abbrev reading : Reading
      reading = read_state (lent_to rows names) (state_in rows names) text marks

      reached : (a ≡ reading.answer) × (sheet rows' names' ≡ bare_sheet_of reading.state (length rows) (length names))
      unfolding state_of bare with_count
      reached =
          subst (λ (n : ℕ). let r = read_state (record { rows = n; names = length names }) (bare_state_of (sheet (set rows 17 0) names)) text marks in (a ≡ r.answer)
          × (sheet rows' names' ≡ bare_sheet_of r.state n (length names)))
          (length-set rows 17 0) (read.answers, read.leaves)

      proper-after : proper reading.state ≡ true
      proper-after = read_state-proper (lent_to rows names) (state_in rows names) text marks (proper-state_of (sheet rows names) w c.is_good)

      fits_after : state_fits (length rows) (length names) reading.state ≡ true
      fits_after = read_state-fits (lent_to rows names) (state_in rows names) text marks (fits-state_of (sheet rows names) w c.is_good)

      good-after : bare_good (sheet rows' names') ≡ true
      good-after = rw reached.1 (bare_good-bare_sheet_of reading.state (length rows) (length names) proper-after fits_after)

      state-after : bare_state_of (sheet rows' names') ≡ reading.state
      state-after = ap bare_state_of reached.1 ∙ bare_state_of-bare_sheet_of reading.state (length rows) (length names) proper-after fits_after

      pub length-after : length rows' ≡ length rows
      length-after = ap (λ (x : Sheet). length x.rows) reached.1 ∙ (length-bare_sheet_of reading.state (length rows) (length names) fits_after).0

      pub used-after : (10 ≤ length rows') × (10 * rows_used_in (ten rows') ≤ length rows')
      used-after = good-used rows' names' good-after

      module _ (w' : words rows' ≡ true) where
        held_after : HeldState reading.state rows' names'
        held_after = subst (λ (s : State). HeldState s rows' names') state-after (held-good rows' names' good-after w')

        pub place_after : finished_end rows' (row0_from (ten rows')).context (rows_used_in (ten rows')) ≡ 2 + length (items_rows reading.state.reader.schema.items)
        place_after = end-held held_after (row0_from (ten rows')) refl

        module _ {from end : ℕ} (f : from ≡ 2 + length (items_rows (items_in rows names))) (e : end ≡ 2 + length (items_rows reading.state.reader.schema.items)) where
          -- the items that came are those behind
          pub room_after : (from ≤ end) × (10 * end ≤ length rows')
          room_after =
              let more = items-grow (lent_to rows names) (state_in rows names) text marks in
              let apart = ap items_rows more.1 ∙ items_rows-append (items_in rows names) more.0 in
              (omega (arith, f, e, ap length apart, length-append (items_rows (items_in rows names)) (items_rows more.0)), (end-room reading.state held_after.packs held_after.proper e).1)

          module _ {before more : ℕ} (b : before ≡ get_or rows 17 0) (m : more ≡ refused_rows (rows_from rows' names' from end)) where
            pub count-after : before + more ≡ count_of reading.state
            count-after =
                let grown = items-grow (lent_to rows names) (state_in rows names) text marks in
                let new = m ∙ ap (λ (n : ℕ). refused_rows (rows_from rows' names' n end)) f in
                ap₂ (λ (x y : ℕ). x + y) (b ∙ count-before) new ∙ count-new reading.state held_after.packs held_after.proper e (items_in rows names) grown.0 grown.1

            -- no more than rows
            pub count_small : before + more ≤ length rows
            count_small =
                omega (arith, count-after, count-finished reading.state held_after.packs held_after.proper e, count-few rows' names' 2 end, room_after.1, length-after)

            -- with it the sheet is that of the state reached
            pub read-through-count : CountedRead rows names text marks a (sheet (set rows' 17 (before + more)) names')
            unfolding sheet_of_reading sheet_of with_count
            read-through-count =
                let after = ap₂ with_count count-after reached.1 in
                λ i. record { answer = reached.0 i; sheet = after i }
