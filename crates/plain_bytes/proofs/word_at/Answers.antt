-- `plain_bytes::word_at` meets its contract: the eight bytes, lowest first. Assumes nothing.
use Prim.Native.Nat.{ℕ, ◌+◌, ◌-◌, ◌<◌, ◌≤◌}
use mathlib.Core.Path.{◌≡◌, ◌∙◌}
use mathlib.Core.List.{List}
use native.Mathlib.Omega.{arith}
use native.Mathlib.Nat.{add-zero}
use lib.ListN.{length, get_or, take, drop}
use Rattle.std.proofs.lemmas.List.{get_or-take, get_or-drop}
use Rattle.std.specs.Array.{IsFirstChunk}
use Rattle.plain_bytes.specs.Words.{word_of_bytes}
use Rattle.plain_bytes.proofs.word_at.Goals as goal

byte : (s b : List ℕ) (at k : ℕ) → IsFirstChunk (take (length s - at) (drop at s)) b 8 → at + 8 ≤ length s → k < 8 → get_or b k 0 ≡ get_or s (at + k) 0
byte s b at k h fits small =
    rw h.same (get_or-take 8 (take (length s - at) (drop at s)) k 0 small ∙ get_or-take (length s - at) (drop at s) k 0 (omega arith) ∙ get_or-drop at s k 0)

pub returns : goal.returns
unfolding word_of_bytes
returns c =
    let s = c.args.text.now in
    let at = c.args.at in
    let b = c.unwrap.result.now in
    let chunk = rw c.unwrap.ensures at c.first_chunk.ensures.cases in
    let e = (λ (k : ℕ) (h : k < 8). byte s b at k chunk c.requires h) in
    record {
      word = omega (arith, e 0, e 1, e 2, e 3, e 4, e 5, e 6, e 7, add-zero at);
      bytes = λ k. (c.type_inv.text (at + k)).fits;
    }
