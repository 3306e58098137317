-- `text::blocks_start` meets its contract: a block without a colon has none at its places. Assumes nothing.
use Prim.Native.Nat.{ℕ, ◌+◌, ◌-◌, ◌≤◌, ◌<◌}
use mathlib.Core.Path.{◌≡◌, sym, ◌∙◌}
use mathlib.Core.Bool.{false}
use mathlib.Core.Logic.{◌≢◌}
use native.Mathlib.Omega.{arith}
use lib.ListN.{length, get_or, take, drop, length-take, length-drop}
use Rattle.std.proofs.lemmas.List.{get_or-take, get_or-drop}
use Rattle.text.specs.Text.{Text, contains, colon}
use Rattle.text.proofs.Laws.Std.{contains-not, nowhere}
use Rattle.text.proofs.blocks_start.Goals as goal

in-block : (name : Text) (from n k : ℕ) → contains colon (take n (drop from name)) ≡ false → from + n ≤ length name → from ≤ k → k < from + n → get_or name k 0 ≢ colon
in-block name from n k e fits low high q =
    let i : from + (k - from) ≡ k = omega arith in
    contains-not colon (take n (drop from name)) e (k - from) (omega (arith, length-take n (drop from name), length-drop from name))
    (get_or-take n (drop from name) (k - from) 0 (omega arith) ∙ get_or-drop from name (k - from) 0 ∙ (rw i q))

pub loop-end-preserved : goal.loop-end-preserved
loop-end-preserved c =
    let name = c.args.name.now in
    let end = c.loop-end.end in
    let none : contains colon (take (end - (end - 16)) (drop (end - 16) name)) ≡ false = sym c.has_byte.ensures ∙ c.if-not-has_byte.true in
    record {
      inside = omega (arith, c.loop-end.invariant.inside);
      behind = nowhere colon name (end - 16) end (λ k low high. in-block name (end - 16) (end - (end - 16)) k none (omega (arith, c.loop-end.invariant.inside)) low (omega arith)) c.loop-end.invariant.behind;
    }
