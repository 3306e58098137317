-- `xsd_replace::offsets::reoffset_row` meets its contract: the first row whose offsets are still to be set is read, and stored anew with its texts from `at` on.
-- Assumes nothing.
use Prim.Native.Nat.{ℕ, ◌+◌, ◌<◌, ◌*◌, ◌≤◌}
use mathlib.Core.Path.{sym, ap, ◌∙◌, ◌≡◌}
use mathlib.Core.List.{List, []}
use lib.ListN.{get_or}
use native.Mathlib.Omega.{arith}
use Rattle.xsd_replace.specs.Offsets.{OffsetsOf}
use Rattle.xsd_replace.proofs.Laws.Offsets.{First, FirstNumbers, offsets-first, first-numbers, first-row, first-bytes, offsets-next}
use Rattle.xsd_replace.proofs.offsets.reoffset_row.Goals as goal
use Rattle.rows.specs.declared.numbers.RowNumbers.{RowNumbers}
use Rattle.rows.specs.Numbers.{numbers_at}
use Rattle.rows.specs.Texts.{used_length}
use Rattle.xsd_types.specs.Good.{used_pairs}

first : {rows : List ℕ} {i end at : ℕ} (o : OffsetsOf rows i end at) → i < end → First rows i end at o.goal o.total
first o h = offsets-first o.offsets h

facts : {rows : List ℕ} {i end at : ℕ} (o : OffsetsOf rows i end at) (h : i < end) → FirstNumbers (first o h)
facts o h = first-numbers (first o h)

-- the texts that are read are those of the first row
inside : {rows : List ℕ} {i end at : ℕ} {n : RowNumbers} {pairs a b : ℕ} (o : OffsetsOf rows i end at) → i < end → n ≡ numbers_at rows i → pairs ≡ used_pairs n.tag n.a
    → a ≡ get_or rows (10 * i + 1 + 1) 0 → b ≡ get_or rows (10 * i + 3 + 1) 0 → (at + used_length pairs a b ≤ 65536) × (pairs ≤ 2)
inside o h e f p q =
    let x = first o h in
    let read = first-bytes x _ _ _ _ e f p q in
    (omega (arith, read.0, x.bytes, x.room), read.1)

pub numbers_at-n-requires : goal.numbers_at-n-requires
numbers_at-n-requires c = omega (arith, facts c.requires.offsets_of c.requires.place_lt_end)

pub overflow_mul-place : goal.overflow_mul-place
overflow_mul-place c = omega (arith, facts c.requires.offsets_of c.requires.place_lt_end)

pub overflow_add-place : goal.overflow_add-place
overflow_add-place c = omega (arith, facts c.requires.offsets_of c.requires.place_lt_end)

pub pair_at-first-requires : goal.pair_at-first-requires
pair_at-first-requires c = omega (arith, facts c.requires.offsets_of c.requires.place_lt_end)

pub overflow_mul-place-2 : goal.overflow_mul-place-2
overflow_mul-place-2 c = omega (arith, facts c.requires.offsets_of c.requires.place_lt_end)

pub overflow_add-place-2 : goal.overflow_add-place-2
overflow_add-place-2 c = omega (arith, facts c.requires.offsets_of c.requires.place_lt_end)

pub pair_at-second-requires : goal.pair_at-second-requires
pair_at-second-requires c = omega (arith, facts c.requires.offsets_of c.requires.place_lt_end)

pub set_row-requires : goal.set_row-requires
set_row-requires c =
    omega (
      arith,
      facts c.requires.offsets_of c.requires.place_lt_end,
      inside c.requires.offsets_of c.requires.place_lt_end c.numbers_at-n.ensures c.used_pairs-pairs.ensures c.pair_at-first.ensures.1 c.pair_at-second.ensures.1,
    )

pub texts_length-requires : goal.texts_length-requires
texts_length-requires c =
    omega (arith, inside c.requires.offsets_of c.requires.place_lt_end c.numbers_at-n.ensures c.used_pairs-pairs.ensures c.pair_at-first.ensures.1 c.pair_at-second.ensures.1)

pub overflow_add-result : goal.overflow_add-result
overflow_add-result c =
    omega (arith, inside c.requires.offsets_of c.requires.place_lt_end c.numbers_at-n.ensures c.used_pairs-pairs.ensures c.pair_at-first.ensures.1 c.pair_at-second.ensures.1, c.texts_length.ensures)

pub returns : goal.returns
returns c goal total o =
    let a = c.args in
    let x = offsets-first o c.requires.place_lt_end in
    let g = first-numbers x in
    let set = c.set_row.ensures (get_or x.r.texts 0 []) (get_or x.r.texts 1 [])
    (sym (c.pair_at-first.ensures.1 ∙ g.len0))
    (sym (c.pair_at-second.ensures.1 ∙ g.len1)) in
    let same = first-row x c.numbers_at-n.result
    c.used_pairs-pairs.result
    c.numbers_at-n.ensures
    c.used_pairs-pairs.ensures in
    let read = first-bytes x c.numbers_at-n.result c.used_pairs-pairs.result c.pair_at-first.result.len
    c.pair_at-second.result.len c.numbers_at-n.ensures c.used_pairs-pairs.ensures
    c.pair_at-first.ensures.1 c.pair_at-second.ensures.1 in
    offsets-next x (a.at + c.texts_length.result) (rw same at set) (ap (λ (n : ℕ). a.at + n) (c.texts_length.ensures ∙ read.0))
