-- Keeping the rows of the marked heads is reducing, where the marks are those of what is reached from row 1. Assumes nothing.
use mathlib.Core.Path.{◌≡◌, refl}
use mathlib.Core.Bool.{true, not, false≢true}
use mathlib.Core.List.{List}
use Prim.Native.Nat.{ℕ, zero, suc, ◌+◌, ◌<◌}
use native.Mathlib.Omega.{arith}
use lib.Dec.{eqb}
use lib.ListN.{get_or}
use borrow.Author.Tests.{ne_eqb}
use Rattle.sheet.specs.Rows.{Row}
use Rattle.ir_reduce.specs.Groups.{Parted, parted, rows_of_parted}
use Rattle.ir_reduce.specs.Reach.{Chain, Reduced}
use Rattle.ir_reduce.specs.Places.{rows_by_place, kept_rows}
use Rattle.ir_reduce.specs.Marks.{Marking, QueueMarked}
use Rattle.ir_reduce.proofs.Laws.Places.{is_head, type_at, kept_types, kept-rows, kept-types}
use Rattle.ir_reduce.proofs.Laws.Chains.{Ordered, Flagged, Targets, reached-chain, chain-reached}
use Rattle.ir_reduce.proofs.Laws.Marks.{all-marked}

some-mark : (x : ℕ) → not (eqb x 0) ≡ true → 0 < x
some-mark zero e = absurd (false≢true e)
some-mark (suc x) e = omega arith

mark-some : (x : ℕ) → 0 < x → not (eqb x 0) ≡ true
mark-some x h = rw (ne_eqb x 0 (λ e. omega arith))

module _ (f : ℕ → Row) (m end : ℕ) (whole : 1 + m ≡ end) (tags to marks queue : List ℕ) (n : ℕ) (order : Ordered f end) (flagged : Flagged f end tags) (targets : Targets f end to)
    (marking : Marking tags to marks queue n) (done : QueueMarked tags to marks queue n) (first : 0 < get_or marks 1 0) where
  abbrev pub reduced_graph : Parted
  reduced_graph = record { front = (parted (rows_by_place f 1 m)).front; types = kept_types f end marks 1 m }

  each : (q : ℕ) → 0 < q → q < end → is_head f q ≡ true → not (eqb (get_or marks q 0) 0) ≡ true → Chain (parted (rows_by_place f 1 m)) (type_at f end q)
  each q a l h e = reached-chain f m end whole tags to order flagged targets (marking.each q (some-mark (get_or marks q 0) e)) h

  all : (q : ℕ) → 0 < q → q < end → is_head f q ≡ true → Chain (parted (rows_by_place f 1 m)) (type_at f end q) → not (eqb (get_or marks q 0) 0) ≡ true
  all q a l h c = mark-some (get_or marks q 0) (all-marked marking done first (chain-reached f m end whole tags to order flagged targets c q a l h refl))

  pub reduced-is : Reduced (parted (rows_by_place f 1 m)) reduced_graph
  reduced-is = record { front = refl; types = kept-types f end (Chain (parted (rows_by_place f 1 m))) marks each all m 1 (omega arith) whole }

  pub rows-reduced : kept_rows f marks true 1 m ≡ rows_of_parted reduced_graph
  unfolding rows_of_parted
  rows-reduced = kept-rows f end marks true m 1 whole
