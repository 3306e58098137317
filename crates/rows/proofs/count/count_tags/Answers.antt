-- `rows::count::count_tags` meets its contract: the sum of a 1 for each tag that passes, over the tags of the rows. It fits, since a part has fewer than 2 ^ 63 rows. Assumes nothing.
use Prim.Native.Nat.{ℕ, ◌*◌, ◌-◌, ◌^◌, ◌≤◌}
use mathlib.Core.Path.{refl}
use native.Mathlib.Omega.{arith}
use lib.ListN.{length, get_or}
use Rattle.std.specs.Prelude.{cond}
use Rattle.std.proofs.Common.{rules, tests}
use Rattle.std.proofs.lemmas.List.FromFn.{length-map-range_with_len}
use Rattle.std.proofs.lemmas.Iterator.{YieldsList-from_range, YieldsList-from_map}
use Rattle.std.proofs.lemmas.Iterator.Adapters.{fits_from_length, at_most_from_yields_List}
use Rattle.std.proofs.lemmas.Iterator.Consumers.{YieldsList-at, sum_by_from_yields_List}
use Rattle.rows.specs.Count.{tags_in}
use Rattle.rows.proofs.count.count_tags.Goals as goal

pub sum-requires-clause-fits : goal.sum-requires-clause-fits
sum-requires-clause-fits g c =
    let a = c.args in
    let few : length (tags_in a.part.now.rows.now a.part.now.end) ≤ 2 ^ 63 = rw length-map-range_with_len (omega arith) in
    fits_from_length _ _ (2 ^ 63) (2 ^ 64) (at_most_from_yields_List
    (YieldsList-at c.map-2.ensures.source
    (YieldsList-from_map _ (λ (p : ℕ). get_or a.part.now.rows.now (10 * p) 0)
    (YieldsList-from_range 2 a.part.now.end (a.part.now.end - 2) c.map.ensures.source refl) c.map.ensures.closure (λ x r q k. search rules))) few)
    c.map-2.ensures.closure (omega arith) (λ x r q k. search (rules, tests))

pub returns : goal.returns
returns g c P computes =
    let a = c.args in
    sum_by_from_yields_List (λ (tag : ℕ). cond (P tag) 1 0) (tags_in a.part.now.rows.now a.part.now.end) c.map-2.result c.sum.result c.sum.ensures.ran
    (YieldsList-from_map _ (λ (tag : ℕ). cond (P tag) 1 0)
    (YieldsList-at c.map-2.ensures.source
    (YieldsList-from_map _ (λ (p : ℕ). get_or a.part.now.rows.now (10 * p) 0)
    (YieldsList-from_range 2 a.part.now.end (a.part.now.end - 2) c.map.ensures.source refl) c.map.ensures.closure (λ x r q k. search rules)))
    c.map-2.ensures.closure (λ x r q k. search (rules, tests)))
