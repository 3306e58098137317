-- The first head whose name came before, found block by block: the heads of a block are entered, those behind it are asked against it alone, and the search goes
-- on behind the block, up to the first of those that came. Assumes nothing.
use Rattle.std.specs.Prelude.{if◌then◌else◌, Some, None}
use Prim.Native.Nat.{ℕ, ◌+◌, ◌-◌, ◌*◌, ◌≤◌, ◌<◌}
use mathlib.Core.Path.{◌≡◌, refl, sym, ap, ◌∙◌}
use mathlib.Core.Bool.{Bool, true, false, ◌||◌}
use mathlib.Core.List.{List, [], ◌∷◌, ◌++◌, map, append_assoc, append-nil}
use mathlib.Core.Option.{Option as Found, some, none}
use native.Mathlib.Nat.{sub-zero}
use native.Mathlib.Omega.{arith}
use Rattle.text.specs.Text.{Text}
use Rattle.rows.specs.declared.part.SheetPart.{SheetPart}
use Rattle.ir_types.specs.Distinct.{among}
use Rattle.ir_types.proofs.Laws.Distinct.{among-append}
use Rattle.ir_lower.specs.Repeated.{Head, first_repeated}
use Rattle.ir_lower.proofs.Laws.Repeated.{repeated-append}
use Rattle.ir_rows.specs.Parts.{part_heads}
use Rattle.name_index.specs.Index.{places_in}
use Rattle.name_index.proofs.Laws.Places.{same-among}
use Rattle.ir_index.specs.declared.Search.{Search}
use Rattle.ir_index.specs.declared.Block.{Block}
use Rattle.ir_index.specs.declared.Came.{Came}
use Rattle.ir_index.specs.Heads.{places_from, head_text, head_in_part, turn_heads, heads_from}
use Rattle.ir_index.specs.Blocks.{found_row, or_else, NoneCame, BlockTaken, FirstCame, left_of, SearchedBehind, SearchedOn}
use Rattle.ir_index.proofs.Laws.Turns.{places-none, heads-parts, heads-next, heads-hit}
use Rattle.ir_index.proofs.Laws.Names.{all-heads, heads-names}
use Rattle.ir_index.proofs.Laws.Steps.{repeated-alike}

or-without : (c d : Bool) → c ≡ false → (c || d) ≡ d
or-without c d e = rw e

-- none of them came with the block: it makes no difference
without-block : (block seen : List Text) (hs : List Head) → NoneCame block hs → first_repeated (block ++ seen) hs ≡ first_repeated seen hs
unfolding first_repeated NoneCame
without-block block seen [] w = refl
without-block block seen (h ∷ hs) w =
    rw (among-append h.name block seen, or-without (among h.name block) (among h.name seen) w.0, append_assoc block seen (h.name ∷ []))
    (ap (λ (o : Found ℕ). if among h.name seen then some h.row else o) (without-block block (seen ++ (h.name ∷ [])) hs w.1))

if-else : (b : Bool) (r s : ℕ) (o : Found ℕ) → (if b then some r else or_else o (some s)) ≡ or_else (if b then some r else o) (some s)
unfolding or_else
if-else true r s o = refl
if-else false r s o = refl

-- the first that came with the block: it is the answer, unless one before it came with another
with-block : (block seen : List Text) (hs : List Head) (h : Head) (behind : List Head) → NoneCame block hs → among h.name block ≡ true
    → first_repeated (block ++ seen) (hs ++ h ∷ behind) ≡ or_else (first_repeated seen hs) (some h.row)
unfolding first_repeated NoneCame or_else
with-block block seen [] h behind w e = rw (among-append h.name block seen, e)
with-block block seen (k ∷ hs) h behind w e =
    let on = with-block block (seen ++ (k.name ∷ [])) hs h behind w.1 e in
    rw (among-append k.name block seen, or-without (among k.name block) (among k.name seen) w.0, append_assoc block seen (k.name ∷ []), on)
    (if-else (among k.name seen) k.row h.row _)

none-append : (block : List Text) (hs ks : List Head) → NoneCame block hs → NoneCame block ks → NoneCame block (hs ++ ks)
unfolding NoneCame
none-append block [] ks w v = v
none-append block (h ∷ hs) ks w v = (w.0, none-append block hs ks w.1 v)

-- turn by turn
module _ (part : SheetPart) (block : List Text) (from : ℕ) where
  pub none_start : NoneCame block (heads_from part from (from - from))
  unfolding NoneCame
  none_start = rw (places-none part from) tt

  pub none-next : (turn : ℕ) → from ≤ turn → NoneCame block (heads_from part from (turn - from)) → NoneCame block (turn_heads part turn)
      → NoneCame block (heads_from part from (turn + 1 - from))
  none-next turn l w v = rw (heads-next part from turn l) (none-append block (heads_from part from (turn - from)) (turn_heads part turn) w v)

-- ---- the search

or_none : (o : Found ℕ) → or_else o none ≡ o
unfolding or_else
or_none none = refl
or_none (some r) = refl

or-first : (o p : Found ℕ) (r : ℕ) → or_else (or_else o (some r)) p ≡ or_else o (some r)
unfolding or_else
or-first none p r = refl
or-first (some s) p r = refl

module _ (part : SheetPart) where
  pub search-start : left_of part (record { from = 0; limit = 2 * (part.end - 2); found = None }) ≡ first_repeated [] (part_heads part)
  unfolding found_row
  search-start = rw (sub-zero (2 * (part.end - 2)), or_none) (ap (first_repeated []) (all-heads part))

  pub search_end : (s : Search) → s.limit ≤ s.from → left_of part s ≡ found_row s.found
  unfolding or_else places_from first_repeated
  search_end s h =
      let none : s.limit - s.from ≡ 0 = omega arith in
      rw none

module _ {part : SheetPart} {s : Search} where
  -- a block has a repeated name
  pub search-repeated : {r : ℕ} → s.from < s.limit → first_repeated [] (heads_from part s.from (s.limit - s.from)) ≡ some r
      → SearchedOn part s (record { from = s.limit; limit = s.limit; found = Some r })
  unfolding or_else found_row first_repeated
  search-repeated l e = record { onward = l; lower = omega arith; left = rw (places-none part s.limit, e) }

  module _ {numbers : List ℕ} {buckets : ℕ} {b : Block} (t : BlockTaken part numbers buckets s b) where
    -- the heads of the block are new: those behind it decide, with the names of the block seen
    behind-block : first_repeated [] (heads_from part s.from (s.limit - s.from))
        ≡ first_repeated (map (head_text part) (places_in buckets b.entries numbers)) (heads_from part b.next (s.limit - b.next))
    behind-block =
        ap (first_repeated []) (heads-parts part s.from b.next s.limit (omega (arith, t.onward)) t.inside)
        ∙ repeated-append [] (heads_from part s.from (b.next - s.from)) _ t.once
        ∙ rw (heads-names part (places_from part s.from (b.next - s.from))) (sym (repeated-alike _ _ (heads_from part b.next (s.limit - b.next)) (same-among (head_text part) _ _ t.answers)))

    pub search-on : {s' : Search} → SearchedBehind part (map (head_text part) (places_in buckets b.entries numbers)) (record { from = b.next; limit = s.limit; found = s.found }) s'
        → SearchedOn part s s'
    search-on w =
        record {
          onward = omega (arith, t.onward, w.same_from);
          lower = w.lower;
          left = w.left ∙ ap (λ (o : Found ℕ). or_else o (found_row s.found)) (sym behind-block);
        }

  -- none behind the block came with it
  pub behind_none : {block : List Text} → NoneCame block (heads_from part s.from (s.limit - s.from)) → SearchedBehind part block s s
  behind_none {block} w =
      let none = without-block block [] (heads_from part s.from (s.limit - s.from)) w in
      record { same_from = refl; lower = omega arith; left = ap (λ (o : Found ℕ). or_else o (found_row s.found)) (sym (rw append-nil at none)) }

  pub behind-came : {block : List Text} {c : Came} → FirstCame part block s c → SearchedBehind part block s (record { from = s.from; limit = c.turn; found = Some c.place })
  unfolding head_in_part found_row
  behind-came {block} {c} f =
      let hs = heads_from part s.from (c.turn - s.from) in
      let behind = heads_from part (c.turn + 1) (s.limit - (c.turn + 1)) in
      let all = heads-parts part s.from c.turn s.limit f.low (omega (arith, f.high)) ∙ ap (λ (l : List Head). hs ++ l) (heads-hit part c.turn s.limit f.at.head f.high) in
      let it = with-block block [] hs (head_in_part part c.place) behind f.before f.at.came in
      record {
        same_from = refl;
        lower = omega (arith, f.high);
        left =
            sym (ap (λ (o : Found ℕ). or_else o (found_row s.found)) (ap (first_repeated block) all ∙ rw append-nil at it)
            ∙ or-first (first_repeated [] hs) (found_row s.found) c.place);
      }
