-- `xsd_replace::spot::replace_text` meets its contract: the names around the text stay, the row has the new length, and the offsets from there on are set anew.
-- Assumes nothing.
use Prim.Native.Nat.{ℕ, ◌+◌, ◌-◌, ◌≤◌}
use mathlib.Core.Path.{refl, ◌∙◌}
use native.Mathlib.Omega.{arith}
use lib.ListN.{length, length-set}
use Rattle.text.specs.Text.{Text}
use Rattle.rows.specs.declared.writer.SheetWriter.{SheetWriter}
use Rattle.sheet.specs.Rows.{names_of}
use Rattle.xsd_replace.specs.Spots.{Spot, spot_rows, TextAt, TextRoom}
use Rattle.xsd_replace.proofs.Laws.Spot.{SpotNumbers, spot-numbers, spot-bytes, spot-offsets, spot-names, spot-holds}
use Rattle.xsd_replace.proofs.spot.replace_text.Goals as goal

facts : {w : SheetWriter} {place pair new : ℕ} (t : TextRoom w place pair new) → SpotNumbers w.rows.now w.names.now w.used place pair t.spot
facts t = spot-numbers t.text

bounded : {w : SheetWriter} {place pair : ℕ} {x : Spot} (new : Text) (t : TextRoom w place pair (length new)) → length w.names.now ≤ 65536
    → TextAt w.rows.now w.names.now w.used place pair x → length (names_of (spot_rows x new)) ≤ 65536
bounded new t few h = rw (spot-bytes h new) (omega (arith, facts t, spot-numbers h, t.room, few))

pub overflow_mul-place : goal.overflow_mul-place
overflow_mul-place c = omega (arith, facts c.requires)

pub overflow_add-place : goal.overflow_add-place
overflow_add-place c = omega (arith, facts c.requires)

pub pair_at-first-requires : goal.pair_at-first-requires
pair_at-first-requires c = omega (arith, facts c.requires)

pub overflow_mul-i : goal.overflow_mul-i
overflow_mul-i c = omega (arith, facts c.requires)

pub overflow_mul-i-2 : goal.overflow_mul-i-2
overflow_mul-i-2 c = omega (arith, facts c.requires)

pub overflow_add-i : goal.overflow_add-i
overflow_add-i c = omega (arith, facts c.requires)

pub overflow_add-i-2 : goal.overflow_add-i-2
overflow_add-i-2 c = omega (arith, facts c.requires)

pub pair_at-old-requires : goal.pair_at-old-requires
pair_at-old-requires c = omega (arith, facts c.requires)

pub replace_names-requires : goal.replace_names-requires
replace_names-requires c =
    omega (arith, facts c.requires, c.requires.room, c.pair_at-old.ensures)

pub overflow_cast-sheet : goal.overflow_cast-sheet
overflow_cast-sheet c =
    omega (arith, c.requires.room, c.args.sheet.now.few)

pub overflow_add-sheet : goal.overflow_add-sheet
overflow_add-sheet c = omega (arith, facts c.requires)

pub offset_bounds-sheet-i : goal.offset_bounds-sheet-i
offset_bounds-sheet-i c = omega (arith, facts c.requires)

pub bounds-sheet-i : goal.bounds-sheet-i
bounds-sheet-i c = omega (arith, facts c.requires)

pub reoffset-sheet-requires : goal.reoffset-sheet-requires
reoffset-sheet-requires c =
    let a = c.args in
    let w = c.requires in
    record {
      goal = _;
      total = _;
      offsets = spot-offsets w.text a.new.now c.pair_at-first.result.at
          (c.pair_at-first.ensures.0 ∙ (facts c.requires).first) (bounded c.args.new.now c.requires c.args.sheet.now.few w.text);
    }

pub returns : goal.returns
returns c =
    let a = c.args in
    let found = c.pair_at-old in
    let moved = c.replace_names in
    let set = c.reoffset-sheet in
    record {
      same = record { rows = refl; names = refl; rows_length = set.auto.rows ∙ simp length-set; names_length = moved.auto.names };
      holds = λ x h.
          let g = spot-numbers h in
          let room : a.sheet.now.used.names - length x.old + length a.new.now ≤ length a.sheet.now.names.now = omega (arith, facts c.requires, c.requires.room, g) in
          let done = set.ensures _ _ (spot-offsets h a.new.now
          c.pair_at-first.result.at
          (c.pair_at-first.ensures.0 ∙ g.first) (bounded c.args.new.now c.requires c.args.sheet.now.few h)) in
          spot-holds h a.new.now set.result room done.0
          (spot-names h a.new.now found.result.at found.result.len found.ensures.0 found.ensures.1 moved.ensures) done.1;
    }
