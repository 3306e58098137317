-- The first rows of a graph sheet as the part of it that a reduction reads: the definitions beside it, of a part.
--     part_sheet     the sheet that the part is of
--     IsGraph       it is in the form, and the part has the rows that are used
--     part_row       the row at a place; TextsStand: its texts stand side by side in the names
--     part_kept      the rows that are kept by the marks
--     part_flags     1 for a type's head, and 0 for another row
--     HeadsEntered  a writer's table has some of the heads entered; EntersHead: what entering the row at a place does; HeadsIndexed: what entering all answers
--     IsIndex       a table in which every head is entered
--     TargetsIn     the targets of the rows before a place are stored
--     part_target    the place of the head that the row at a place leads to
--     MarksAre      the marks of what is reached from row 1
use Rattle.std.specs.Prelude.{ℕ, Option, MatchOption, ◌-◌, ◌≡◌, true, false, List, length}
use Rattle.sheet.specs.Rows.{Row, Sheet}
use Rattle.sheet.specs.Calls.{sheet}
use Rattle.rows.specs.declared.part.SheetPart.{SheetPart}
use Rattle.name_index.specs.declared.Table.{Table}
use Rattle.name_index.specs.declared.TableWriter.{TableWriter}
use Rattle.name_index.specs.Index.{Index}
use Rattle.ir_reduce.specs.declared.index.Indexed.{Indexed}
use Rattle.ir_reduce.specs.Index.{buckets, head_places, AllIndexed, IndexedIs, NewHead, OldHead, TargetsPut, target_of}
use Rattle.ir_reduce.specs.Places.{row_at, kept_rows}
use Rattle.ir_reduce.specs.Copy.{Stands}
use Rattle.ir_reduce.specs.Marks.{head_flags}
use Rattle.ir_reduce.specs.Steps.{Graph, MarksDone}

abbrev pub part_sheet : SheetPart → Sheet
part_sheet part = sheet part.rows.now part.names.now

abbrev pub IsGraph : SheetPart → Type 0
IsGraph part = Graph part.rows.now part.names.now part.end

abbrev pub part_row : SheetPart → ℕ → Row
part_row part p = row_at part.rows.now part.names.now p

abbrev pub TextsStand : SheetPart → ℕ → Type 0
TextsStand part p = Stands part.rows.now part.names.now p

abbrev pub part_kept : SheetPart → List ℕ → List Row
part_kept part marks = kept_rows (part_row part) marks true 1 (part.end - 1)

abbrev pub part_flags : SheetPart → List ℕ
part_flags part = head_flags part.rows.now part.end

pub record HeadsEntered (part : SheetPart) (w : TableWriter) : Type 0 where
  pub buckets_are : w.buckets ≡ buckets
  pub index : Index part.rows.now part.names.now false w.numbers.now buckets w.entries w.sorted

pub record EntersHead (part : SheetPart) (w : TableWriter) (p : ℕ) (w' : TableWriter) (r : Option (Unit {0})) : Type 0 where
  pub same_numbers : w'.numbers.ghost_name ≡ w.numbers.ghost_name
  pub same_buckets : w'.buckets ≡ w.buckets
  pub same_length : length w'.numbers.now ≡ length w.numbers.now
  pub entered : MatchOption r (OldHead part.rows.now part.names.now w.numbers.now w.entries p) (λ _. NewHead part.rows.now part.names.now w.numbers.now w.entries p w'.numbers.now w'.entries w'.sorted)

abbrev pub HeadsIndexed : SheetPart → List ℕ → Option Indexed → Type 0
HeadsIndexed part table r = IndexedIs part.rows.now part.names.now part.end table r

pub record IsIndex (part : SheetPart) (table : Table) : Type 0 where
  pub buckets_are : table.buckets ≡ buckets
  pub all : AllIndexed part.rows.now part.names.now part.end table.numbers.now table.entries table.sorted

abbrev pub TargetsIn : SheetPart → ℕ → List ℕ → Type 0
TargetsIn part k to = TargetsPut part.rows.now part.names.now part.end k to

abbrev pub part_target : SheetPart → ℕ → Option ℕ
part_target part p = target_of part.rows.now part.names.now (head_places part.rows.now part.end) p

abbrev pub MarksAre : SheetPart → List ℕ → Type 0
MarksAre part marks = MarksDone part.rows.now part.names.now part.end marks
