-- `ir_reduce::write::append_same` meets its contract. The part of the names that it copies is the row's texts, and the row that it stores is the row with its texts
-- behind the used names. Assumes nothing.
use mathlib.Core.Path.{refl, ap, ◌∙◌}
use Prim.Native.Nat.{ℕ}
use native.Mathlib.Omega.{arith}
use lib.ListN.{length}
use Rattle.sheet.specs.Rows.{Ten}
use Rattle.rows.specs.Ten.{as_ten}
use Rattle.ir_append.proofs.Laws.Grows.{short-rows, short-names, grown-one}
use Rattle.ir_types.specs.Form.{used_pairs}
use Rattle.ir_reduce.specs.Parts.{part_row}
use Rattle.ir_reduce.specs.Copy.{bytes_of, moved_numbers}
use Rattle.ir_reduce.proofs.Laws.Copy.{bytes-length, moved-numbers, part-whole}
use Rattle.ir_reduce.proofs.write.append_same.Goals as goal

pub returns-then-writer-n : goal.returns-then-writer-n
returns-then-writer-n c =
    record { same_rows = refl; same_names = refl; rows_length = refl; names_length = refl; added = short-rows (part_row c.args.part.now c.args.place) c.if-writer-n.true }

pub returns-then-writer-at : goal.returns-then-writer-at
returns-then-writer-at c =
    let part = c.args.part.now in
    let size = bytes-length part.rows.now part.names.now c.args.place c.requires.0 in
    let read = c.bytes_of-size.ensures ∙ ap bytes_of c.ten-t.ensures in
    record { same_rows = refl; same_names = refl; rows_length = refl; names_length = refl; added = short-names (part_row part c.args.place) (omega (arith, size, read, c.if-writer-at.true)) }

pub copy_text-requires : goal.copy_text-requires
copy_text-requires c =
    let part = c.args.part.now in
    let s = c.requires.0 in
    let read = c.bytes_of-size.ensures ∙ ap bytes_of c.ten-t.ensures in
    let start = c.wide.ensures ∙ ap (λ (t : Ten). t.at0) c.ten-t.ensures in
    let text = rw (read, start) at c.part_of.ensures in
    let long = ap length (text ∙ part-whole part.rows.now part.names.now c.args.place s) ∙ bytes-length part.rows.now part.names.now c.args.place s in
    omega (arith, long, read, c.if-writer-at.false, c.args.writer.now.names_inside)

pub moved_row-row-requires : goal.moved_row-row-requires
moved_row-row-requires c = omega (arith, c.bytes_of-size.ensures, c.if-writer-at.false, c.args.writer.now.names_inside, c.args.writer.now.few_names)

pub returns : goal.returns
returns c =
    let w = c.args.writer.now in
    let part = c.args.part.now in
    let s = c.requires.0 in
    let ten = c.ten-t.ensures in
    let read = c.bytes_of-size.ensures ∙ ap bytes_of ten in
    let start = c.wide.ensures ∙ ap (λ (t : Ten). t.at0) ten in
    let text = rw (read, start) at c.part_of.ensures in
    let whole = text ∙ part-whole part.rows.now part.names.now c.args.place s in
    let bytes = bytes-length part.rows.now part.names.now c.args.place s in
    let numbers = c.moved_row-row.ensures
    ∙ ap (λ (u : ℕ). moved_numbers (as_ten c.ten-t.result) u w.used.names) c.used_pairs.ensures
    ∙ ap (λ (t : Ten). moved_numbers t (used_pairs t.tag t.a) w.used.names) ten
    ∙ moved-numbers part.rows.now part.names.now c.args.place s w.used.names in
    grown-one (part_row part c.args.place) (omega (arith, c.if-writer-n.false)) (omega (arith, bytes, read, c.if-writer-at.false, w.names_inside)) refl refl
    (rw (← numbers) c.put_row.ensures) (rw (← whole) c.copy_text.ensures) refl (omega (arith, bytes, read))
