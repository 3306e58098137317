-- The head of one turn, if there is one: its name came before, or it is one entry more. Then the heads of a block turn by turn, and a head asked against a block.
-- Assumes nothing.
use Rattle.std.specs.Prelude.{Option, Some, None, is_some}
use Prim.Native.Nat.{ℕ, ◌+◌, ◌-◌, ◌≤◌, ◌<◌}
use mathlib.Core.Path.{◌≡◌, refl, sym, ap, ◌∙◌}
use mathlib.Core.Bool.{true, false}
use mathlib.Core.List.{List, [], ◌∷◌, ◌++◌, append-nil}
use mathlib.Core.Option.{some, none}
use native.Mathlib.Omega.{arith}
use lib.Dec.{eqb}
use lib.ListN.{length}
use borrow.Author.Tests.{eqb-true, eqb-false}
use Rattle.text.specs.Text.{Text}
use Rattle.text.proofs.Laws.Tests.{bool_cases}
use Rattle.rows.specs.declared.part.SheetPart.{SheetPart}
use Rattle.ir_types.specs.Distinct.{among}
use Rattle.ir_types.proofs.Laws.Distinct.{among-append}
use Rattle.ir_lower.specs.Repeated.{Head, first_repeated}
use Rattle.ir_lower.proofs.Laws.Repeated.{repeated-append, repeated-stays}
use Rattle.name_index.specs.declared.TableWriter.{TableWriter}
use Rattle.name_index.specs.Index.{places_in, SameAnswers, Entered}
use Rattle.name_index.proofs.Laws.Places.{place-among, same-append, same-among}
use Rattle.ir_index.specs.declared.Search.{Search}
use Rattle.ir_index.specs.Heads.{head_place, with_place, places_from, head_text, head_in_part, turn_heads, heads_from}
use Rattle.ir_index.specs.Blocks.{NoneCame, HeadsIn, places_held, names_held, TurnTaken, BlockTaken}
use Rattle.ir_index.proofs.Laws.Turns.{places-next, places-none, heads-parts, heads-next}
use Rattle.ir_index.proofs.Laws.Names.{heads-names}

-- ---- one turn

module _ (part : SheetPart) (turn : ℕ) where
  turn_none : head_place part turn ≡ None → with_place (head_place part turn) [] ≡ []
  unfolding with_place
  turn_none e = rw e

  turn-some : {p : ℕ} → head_place part turn ≡ Some p → with_place (head_place part turn) [] ≡ p ∷ []
  unfolding with_place
  turn-some e = rw e

module _ (part : SheetPart) (w : TableWriter) (turn : ℕ) where
  pub turn-passed : HeadsIn part w → head_place part turn ≡ None → TurnTaken part w turn w
  unfolding first_repeated
  turn-passed i e =
      let none = turn_none part turn e in
      record { once = rw none; answers = λ t. rw (none, append-nil (places_held w)) refl; index = i }

  module _ (w' : TableWriter) {p : ℕ} {r : Option ℕ} (at : head_place part turn ≡ Some p)
      (e : Entered part.rows.now part.names.now true w.numbers.now w.buckets w.entries p w'.numbers.now w'.sorted r) where
    asked : is_some r ≡ among (head_text part p) (names_held part w)
    asked = ap is_some e.place ∙ place-among (head_text part) (head_text part p) (places_held w)

    pub turn-came : is_some r ≡ true → first_repeated (names_held part w) (turn_heads part turn) ≡ some p
    unfolding first_repeated head_in_part
    turn-came h =
        let came : among (head_text part p) (names_held part w) ≡ true = sym asked ∙ h in
        rw (turn-some part turn at, came)

    pub turn-added : is_some r ≡ false → r ≡ None → w'.buckets ≡ w.buckets → w'.entries ≡ w.entries + 1 → TurnTaken part w turn w'
    unfolding first_repeated head_in_part
    turn-added h z b c =
        let new : among (head_text part p) (names_held part w) ≡ false = sym asked ∙ h in
        let added = e.added z in
        record {
          once = rw (turn-some part turn at, new);
          answers = rw (b, c, turn-some part turn at) added.answers;
          index = rw (b, c) added.index;
        }

-- the names that were seen decide by what is among them alone
pub repeated-alike : (seen other : List Text) (hs : List Head) → ((t : Text) → among t seen ≡ among t other) → first_repeated seen hs ≡ first_repeated other hs
unfolding first_repeated
repeated-alike seen other [] h = refl
repeated-alike seen other (k ∷ hs) h =
    rw (h k.name, repeated-alike (seen ++ (k.name ∷ [])) (other ++ (k.name ∷ [])) hs (λ t. among-append t seen (k.name ∷ []) ∙ rw (h t) (sym (among-append t other (k.name ∷ []))))) refl

-- ---- a block: the entries are the heads of the turns passed, and no name of them stands twice

pub record Entering (part : SheetPart) (s : Search) (w : TableWriter) (next : ℕ) : Type 0 where
  pub low : s.from ≤ next
  pub high : next ≤ s.limit
  pub empty : next ≡ s.from → w.entries ≡ 0
  pub once : first_repeated [] (heads_from part s.from (next - s.from)) ≡ none
  pub answers : SameAnswers (head_text part) (places_held w) (places_from part s.from (next - s.from))
  pub index : HeadsIn part w

pub block-start : {part : SheetPart} {s : Search} {w : TableWriter} → s.from ≤ s.limit → w.entries ≡ 0 → HeadsIn part w → Entering part s w s.from
unfolding first_repeated places_in
block-start {part} {s} {w} l z i =
    let none = places-none part s.from in
    record { low = omega arith; high = l; empty = λ e. z; once = rw none; answers = λ t. rw (z, none) refl; index = i }

module _ {part : SheetPart} {s : Search} {w : TableWriter} {next : ℕ} (b : Entering part s w next) where
  -- the names seen are those of the entries
  seen : first_repeated [] (heads_from part s.from (next - s.from) ++ turn_heads part next) ≡ first_repeated (names_held part w) (turn_heads part next)
  seen =
      repeated-append [] (heads_from part s.from (next - s.from)) (turn_heads part next) b.once
      ∙ rw (heads-names part (places_from part s.from (next - s.from))) (sym (repeated-alike _ _ (turn_heads part next) (same-among (head_text part) _ _ b.answers)))

  pub block-next : {w' : TableWriter} → next < s.limit → TurnTaken part w next w' → Entering part s w' (next + 1)
  block-next h t =
      record {
        low = omega (arith, b.low);
        high = omega arith;
        empty = λ e. absurd (omega (arith, b.low));
        once = rw (heads-next part s.from next b.low) (seen ∙ t.once);
        answers =
            λ u. t.answers u ∙ same-append (head_text part) _ _ (with_place (head_place part next) []) b.answers u
            ∙ rw (places-next part s.from next b.low) refl;
        index = t.index;
      }

  pub block-repeated : {p : ℕ} → next < s.limit → first_repeated (names_held part w) (turn_heads part next) ≡ some p → first_repeated [] (heads_from part s.from (s.limit - s.from)) ≡ some p
  block-repeated {p} l e =
      rw (heads-parts part s.from (next + 1) s.limit (omega (arith, b.low)) (omega arith))
      (repeated-stays [] (heads_from part s.from (next + 1 - s.from)) _ p (rw (heads-next part s.from next b.low) (seen ∙ e)))

  -- a block that ends has passed a turn
  block-moved : s.from < s.limit → w.buckets < length w.numbers.now → (next < s.limit → length w.numbers.now ≤ w.buckets + w.entries) → s.from < next
  block-moved l k f =
      bool_cases
      (eqb next s.from)
      (λ e. let z = b.empty (eqb-true next s.from e) in absurd (omega (arith, f (omega (arith, eqb-true next s.from e)))))
      (λ e. omega (arith, b.low, eqb-false next s.from e))

  -- what a writer left in its numbers is theirs where it still holds them
  pub block-taken : {numbers : List ℕ} {buckets : ℕ} {held : Type 0} → held → (held → numbers ≡ w.numbers.now) → w.buckets ≡ buckets → s.from < s.limit → buckets < length w.numbers.now
      → (next < s.limit → length w.numbers.now ≤ w.buckets + w.entries) → BlockTaken part numbers buckets s (record { next = next; entries = w.entries; sorted = w.sorted })
  block-taken h left k l m f =
      rw (left h, ← k) (record { onward = block-moved l (rw k m) f; inside = b.high; once = b.once; answers = b.answers; index = b.index })

-- ---- a head asked against a block

module _ (part : SheetPart) (block : List Text) (turn : ℕ) where
  pub asked-none : head_place part turn ≡ None → NoneCame block (turn_heads part turn)
  unfolding NoneCame
  asked-none e = rw (turn_none part turn e) tt

  pub asked-other : {p : ℕ} → head_place part turn ≡ Some p → among (head_text part p) block ≡ false → NoneCame block (turn_heads part turn)
  unfolding NoneCame head_in_part
  asked-other at e = rw (turn-some part turn at) (e, tt)
