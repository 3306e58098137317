-- `xsd_write::call::write_good` meets its contract: the sheet holds its state, whose finished items end where row 0 says. Assumes nothing.
use Prim.Native.Nat.{ℕ, ◌+◌}
use mathlib.Core.Path.{◌≡◌, refl, ◌∙◌}
use mathlib.Core.Bool.{true}
use mathlib.Core.List.{List}
use native.Mathlib.Omega.{arith}
use lib.ListN.{length}
use Rattle.sheet.specs.Rows.{ten}
use Rattle.sheet.specs.Calls.{sheet}
use Rattle.sheet.specs.Form.{words}
use Rattle.xsd_types.specs.Row0.{Row0, row0_from}
use Rattle.xsd_types.specs.Rows.{items_rows}
use Rattle.xsd_types.specs.Count.{good, state_of}
use Rattle.xsd_good.specs.End.{finished_end}
use Rattle.xsd_good.specs.Row0.{as_row0}
use Rattle.xsd_types.proofs.Laws.Count.{good-bare}
use Rattle.xsd_good.proofs.Laws.Bare.{bare-used, bare-room, good-root, good-end}
use Rattle.xsd_write.proofs.Laws.Calls.{good-written}
use Rattle.xsd_write.proofs.call.write_good.Goals as goal

-- the finished items end where the call says
ends : (rows names : List ℕ) → good (sheet rows names) ≡ true → words rows ≡ true → (z : Row0) → z ≡ row0_from (ten rows) → {end : ℕ} → end ≡ finished_end rows z.context z.rows_used
    → end ≡ 2 + length (items_rows (state_of (sheet rows names)).reader.schema.items)
ends rows names g w z e there = there ∙ good-end rows names g w z e

pub row0_at-z-requires : goal.row0_at-z-requires
row0_at-z-requires c =
    let rows = c.args.rows.now in
    let names = c.args.names.now in
    omega (arith, (bare-used rows names (good-bare (sheet rows names) c.requires)).0)

pub finished_place-end-requires : goal.finished_place-end-requires
finished_place-end-requires c =
    let rows = c.args.rows.now in
    let names = c.args.names.now in
    let u = bare-used rows names (good-bare (sheet rows names) c.requires) in
    (omega (arith, u.0), u.1)

pub write_finished-requires : goal.write_finished-requires
write_finished-requires c =
    omega (arith, ends c.args.rows.now c.args.names.now c.requires c.finished_place-end.ensures.words (row0_from (ten c.args.rows.now)) refl c.finished_place-end.ensures.place)

pub invariant_of-part : goal.invariant_of-part
invariant_of-part c =
    let rows = c.args.rows.now in
    let names = c.args.names.now in
    let w = c.finished_place-end.ensures.words in
    record {
      within = (bare-room rows names (good-bare (sheet rows names) c.requires) w (ends rows names c.requires w (row0_from (ten rows)) refl c.finished_place-end.ensures.place)).1;
    }

pub returns : goal.returns
returns c =
    let rows = c.args.rows.now in
    let names = c.args.names.now in
    let w = c.finished_place-end.ensures.words in
    let end = ends rows names c.requires c.finished_place-end.ensures.words (row0_from (ten rows)) refl c.finished_place-end.ensures.place in
    c.write_finished.ensures ∙ good-written rows names c.requires w end _ _
    (good-root rows names c.requires w (as_row0 c.row0_at-z.result) c.row0_at-z.ensures)
