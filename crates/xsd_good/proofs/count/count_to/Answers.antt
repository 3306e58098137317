-- `xsd_good::count::count_to` meets its contract: the finished items' rows count as the items do. Assumes nothing.
use Prim.Native.Nat.{ℕ, ◌+◌}
use mathlib.Core.Bool.{true}
use mathlib.Core.List.{List}
use mathlib.Core.Path.{◌≡◌, ◌∙◌}
use native.Mathlib.Omega.{arith}
use lib.ListN.{length}
use Rattle.sheet.specs.Rows.{ten}
use Rattle.sheet.specs.Calls.{sheet}
use Rattle.sheet.specs.Form.{words, rows_used_in}
use Rattle.xsd_types.specs.Row0.{row0_from}
use Rattle.xsd_types.specs.Good.{bare_good}
use Rattle.xsd_types.specs.Rows.{items_rows}
use Rattle.xsd_types.specs.Count.{state_of, bare}
use Rattle.xsd_good.specs.End.{finished_end}
use Rattle.xsd_refused.proofs.Laws.Count.{count-few}
use Rattle.xsd_good.proofs.Laws.Bare.{bare-end, bare-room, bare-count}
use Rattle.xsd_good.proofs.count.count_to.Goals as goal

-- the finished items end where the call says
ends : (rows names : List ℕ) {p : ℕ} → bare_good (bare (sheet rows names)) ≡ true
    → p ≡ finished_end rows (row0_from (ten rows)).context (rows_used_in (ten rows)) → words rows ≡ true → p ≡ 2 + length (items_rows (state_of (sheet rows names)).reader.schema.items)
ends rows names good place w = place ∙ bare-end rows names good w

pub invariant_of-part : goal.invariant_of-part
invariant_of-part c =
    let a = c.args in
    let p = c.requires.1 in
    record { within = (bare-room a.rows.now a.names.now c.requires.0 p.words (ends a.rows.now a.names.now c.requires.0 p.place p.words)).1 }

pub count_refused-requires : goal.count_refused-requires
count_refused-requires c =
    let a = c.args in
    let p = c.requires.1 in
    (bare-room a.rows.now a.names.now c.requires.0 p.words (ends a.rows.now a.names.now c.requires.0 p.place p.words)).0

pub returns : goal.returns
returns c =
    let rows = c.args.rows.now in
    let names = c.args.names.now in
    let p = c.requires.1 in
    let end = ends rows names c.requires.0 p.place p.words in
    let room = bare-room rows names c.requires.0 p.words end in record {
      count = c.count_refused.ensures ∙ bare-count rows names c.requires.0 p.words end;
      few = omega (arith, c.count_refused.ensures, count-few rows names 2 c.args.end, room.1);
    }
