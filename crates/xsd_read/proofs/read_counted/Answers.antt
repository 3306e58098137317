-- `xsd_read::read_counted` meets its contract: what was counted before and what is counted behind the old items is the count of the state reached. Assumes nothing.
use Prim.Native.Nat.{ℕ, ◌+◌, ◌*◌, ◌≤◌}
use mathlib.Core.Path.{◌≡◌, ◌∙◌}
use mathlib.Core.List.{List}
use native.Mathlib.Omega.{arith}
use lib.ListN.{length, set, length-set, get_or}
use Rattle.text.specs.Text.{Text}
use Rattle.sheet.specs.Lengths.{Answer}
use Rattle.sheet.specs.Calls.{sheet}
use Rattle.xsd_types.specs.Rows.{items_rows}
use Rattle.xsd_types.specs.Count.{state_of, refused_rows}
use Rattle.xsd_good.specs.End.{FinishedAt}
use Rattle.xsd_good.proofs.Laws.Heads.{end-head}
use Rattle.xsd_good.proofs.Laws.Bare.{head-is-bare}
use Rattle.xsd_parser.specs.Read.{read_state}
use Rattle.xsd_progress.specs.Progress.{lent_to}
use Rattle.xsd_read.specs.Good.{GoodRead, CountedSheet, CountedRead}
use Rattle.xsd_read.proofs.Laws.Counted.{counted-used, taken_out, place-before, length-after, used-after, place_after, room_after, count_small, read-through-count}
use Rattle.xsd_read.proofs.read_counted.Goals as goal
use Rattle.xsd_types.specs.Places.{rows_from}

-- a reading from the place where the finished items ended before it to the place where they end behind it
module _ {rows names rows' names' : List ℕ} {text : Text} {marks : List ℕ} {a : Answer} {from end : ℕ} (q : CountedSheet rows names text)
    (before : FinishedAt rows from) (read : GoodRead (set rows 17 0) names text marks a (sheet rows' names')) (behind : FinishedAt rows' end) where
  from_is : from ≡ 2 + length (items_rows (state_of (sheet rows names)).reader.schema.items)
  from_is = before.place ∙ place-before q before.words

  end_is : end ≡ 2 + length (items_rows (read_state (lent_to rows names) (state_of (sheet rows names)) text marks).state.reader.schema.items)
  end_is = behind.place ∙ place_after q before.words read behind.words

  room : (from ≤ end) × (10 * end ≤ length rows')
  room = room_after q before.words read behind.words from_is end_is

  module _ {old new : ℕ} (b : old ≡ get_or rows 17 0) (m : new ≡ refused_rows (rows_from rows' names' from end)) where
    small : old + new ≤ 40960
    small = omega (arith, count_small q before.words read behind.words from_is end_is b m, q.lent.few_rows)

    through : CountedRead rows names text marks a (sheet (set rows' 17 (old + new)) names')
    through = read-through-count q before.words read behind.words from_is end_is b m

pub count_in-before-requires : goal.count_in-before-requires
count_in-before-requires c = (counted-used c.requires.0).0

pub bounds-rows-17 : goal.bounds-rows-17
bounds-rows-17 c = (counted-used c.requires.0).0

pub read_good-to-requires : goal.read_good-to-requires
read_good-to-requires c = (taken_out c.requires.0, head-is-bare c.args.rows.now (end-head c.args.rows.now c.requires.1.place))

pub finished_behind-end-requires : goal.finished_behind-end-requires
finished_behind-end-requires c = ((used-after c.requires.0 c.requires.1.words c.read_good-to.ensures.read).0, c.read_good-to.ensures.head)

pub invariant_of-count_refused : goal.invariant_of-count_refused
invariant_of-count_refused c = record { within = (room c.requires.0 c.requires.1 c.read_good-to.ensures.read c.finished_behind-end.ensures).1 }

pub count_refused-more-requires : goal.count_refused-more-requires
count_refused-more-requires c = (room c.requires.0 c.requires.1 c.read_good-to.ensures.read c.finished_behind-end.ensures).0

pub overflow_add-rows : goal.overflow_add-rows
overflow_add-rows c = omega (arith, small c.requires.0 c.requires.1 c.read_good-to.ensures.read c.finished_behind-end.ensures c.count_in-before.ensures c.count_refused-more.ensures)

pub overflow_cast-rows : goal.overflow_cast-rows
overflow_cast-rows c = omega (arith, small c.requires.0 c.requires.1 c.read_good-to.ensures.read c.finished_behind-end.ensures c.count_in-before.ensures c.count_refused-more.ensures)

pub bounds-rows-17-2 : goal.bounds-rows-17-2
bounds-rows-17-2 c = omega (arith, (counted-used c.requires.0).0, length-after c.requires.0 c.requires.1.words c.read_good-to.ensures.read)

pub shape_of-rows : goal.shape_of-rows
shape_of-rows c = simp length-set (length-after c.requires.0 c.requires.1.words c.read_good-to.ensures.read)

pub returns : goal.returns
returns c = through c.requires.0 c.requires.1 c.read_good-to.ensures.read c.finished_behind-end.ensures c.count_in-before.ensures c.count_refused-more.ensures
