-- What the numbers that a reading carries say of a state whose rows stand in the sheet.
--     progress_of    the numbers that row 0 gives, with the row of the open type's head; progress_in: those that a sheet's rows give
--     used_of        how much of a sheet is used, as row 0 says; used_in: as a sheet's rows say
--     progress_row0  row 0 of such numbers where so much is used; row0_numbers: as a sheet holds it
--     lent_to        the lengths of a sheet's two buffers
--     Lent          the buffers are no longer than the paper has it
--     Standing      a writer holds the rows of a state that the numbers stand for, and no more of them than the paper has it
--     At            the rows that a writer holds, behind whatever row 0, are those of the state, and the numbers are the state's
use Rattle.std.specs.Prelude.{ℕ, ◌+◌, ◌≤◌, ◌≡◌, true, List, [], ◌∷◌, eqb, length}
use Rattle.text.specs.Text.{Text}
use Rattle.sheet.specs.Rows.{ten, numbers, bit}
use Rattle.sheet.specs.Limits.{rows_limit, names_limit, text_limit}
use Rattle.sheet.specs.Lengths.{Lengths}
use Rattle.xsd_types.specs.Contexts.{simple_type_context}
use Rattle.xsd_types.specs.State.{State, proper}
use Rattle.xsd_types.specs.Row0.{Row0, row0_from, row0_ten}
use Rattle.xsd_types.specs.Rows.{rows_of, items_rows, context_number}
use Rattle.xsd_good.specs.Heads.{head_row}
use Rattle.rows.specs.declared.numbers.Used.{Used}
use Rattle.rows.specs.declared.writer.SheetWriter.{SheetWriter}
use Rattle.rows.specs.Writer.{Held}
use Rattle.xsd_actions.specs.Actions.{mode_of}
use Rattle.xsd_progress.specs.declared.Progress.{Progress}

unfoldable pub progress_of : Row0 → ℕ → Progress
progress_of z head =
    record {
      mode = record { context = z.context; nesting = z.nesting; root_seen = eqb z.root_seen 1; extension = eqb z.extension 1 };
      events = z.events;
      open_tags = z.open_tags;
      by_standard = eqb z.choice 1;
      head = head;
    }

unfoldable pub progress_in : List ℕ → Progress
progress_in rows = let z = row0_from (ten rows) in progress_of z (head_row rows z.rows_used)

abbrev pub used_of : Row0 → Used
used_of z = record { rows = z.rows_used; names = z.names_used }

abbrev pub used_in : List ℕ → Used
used_in rows = used_of (row0_from (ten rows))

unfoldable pub progress_row0 : Progress → Used → Row0
progress_row0 p used =
    record {
      first = 0;
      rows_used = used.rows;
      names_used = used.names;
      context = p.mode.context;
      nesting = p.mode.nesting;
      root_seen = bit p.mode.root_seen;
      events = p.events;
      open_tags = p.open_tags;
      extension = bit p.mode.extension;
      choice = bit p.by_standard;
    }

unfoldable pub row0_numbers : Progress → Used → List ℕ
row0_numbers p used = numbers (row0_ten (progress_row0 p used) ∷ [])

pub record At (s : State) (w : SheetWriter) (p : Progress) : Type 0 where
  pub mode : p.mode ≡ mode_of s.reader
  pub events : p.events ≡ s.events
  pub tags : p.open_tags ≡ s.open_tags
  pub choice : p.by_standard ≡ s.by_standard
  pub z : List ℕ
  pub holds : Held w z (rows_of s)
  pub head : simple_type_context ≤ context_number s.reader.context → p.head ≡ 2 + length (items_rows s.reader.schema.items)
  pub proper : proper s ≡ true

abbrev pub lent_to : List ℕ → List ℕ → Lengths
lent_to rows names = record { rows = length rows; names = length names }

pub record Lent (rows names : List ℕ) (text : Text) : Type 0 where
  pub few_rows : length rows ≤ rows_limit
  pub few_names : length names ≤ names_limit
  pub few_bytes : length text ≤ text_limit

pub record Standing (w : SheetWriter) (p : Progress) : Type 0 where
  pub s : State
  pub at : At s w p
  pub few : length w.rows.now ≤ rows_limit
