-- `tape::attributes::find_places` meets its contract. The loop's invariant: of each key the place that is kept, or the lookup in the attributes that are left,
-- answers for all. Assumes nothing.
use Prim.Native.Nat.{ℕ, ◌+◌, ◌-◌, ◌*◌}
use mathlib.Core.Path.{◌≡◌, refl, sym, ap, ◌∙◌}
use mathlib.Core.List.{List, []}
use native.Mathlib.Omega.{arith}
use lib.ListN.{length, get_or, drop}
use Rattle.xsd_parser.specs.Event.{Attr}
use Rattle.xsd_parser.specs.Tape.{pair_count}
use Rattle.tape.specs.Keys.{key_words, key_number}
use Rattle.tape.specs.Lookup.{lookup_text}
use Rattle.tape.proofs.Laws.Pairs.{key-inside}
use Rattle.tape.proofs.Laws.Attributes.{tag-attributes}
use Rattle.tape.proofs.Laws.Places.{places-none, places-step, places-end, kept-length}
use Rattle.tape.proofs.attributes.find_places.Goals as goal

pub overflow_mul-at : goal.overflow_mul-at
unfolding pair_count
overflow_mul-at c = omega arith

pub overflow_add-at-in-loop-i : goal.overflow_add-at-in-loop-i
unfolding pair_count
overflow_add-at-in-loop-i c = omega arith

pub overflow_add-at-in-loop-i-2 : goal.overflow_add-at-in-loop-i-2
unfolding pair_count
overflow_add-at-in-loop-i-2 c = omega arith

pub loop-i-init : goal.loop-i-init
loop-i-init c =
    let a = c.args in
    let start : a.pairs + 2 + 4 * 0 ≡ a.pairs + 2 = omega arith in
    let all : a.count - 0 ≡ a.count = omega arith in (
      refl,
      λ k h. rw (start, all) (places-none a.v.text.now a.v.marks.now k h
          (sym (ap (λ (xs : List Attr). lookup_text xs (get_or key_words k [])) (tag-attributes a.v.text.now a.v.marks.now a.pairs a.count)))),
    )

pub key_at-requires : goal.key_at-requires
unfolding pair_count
key_at-requires c =
    let l = c.loop-i in
    let a = c.args in
    key-inside a.v.text.now a.v.marks.now a.pairs a.count (a.pairs + 2 + 4 * l.i) (a.count - l.i) c.requires (omega arith) (omega arith) (omega arith)

pub loop-i-preserved : goal.loop-i-preserved
unfolding pair_count
loop-i-preserved c =
    let l = c.loop-i in
    let a = c.args in
    let at = a.pairs + 2 + 4 * l.i in
    let further : a.pairs + 2 + 4 * (l.i + 1) ≡ a.pairs + 2 + 4 * l.i + 4 = omega arith in
    let left : a.count - (l.i + 1) ≡ a.count - l.i - 1 = omega arith in (
      ap (λ (p : List ℕ). length p) c.keep_first.ensures ∙ kept-length _ _ _ l.invariant.0,
      λ k h. rw (c.keep_first.ensures, further, left)
          (places-step a.v.text.now a.v.marks.now l.places at (a.count - l.i) k (key_number c.key_at.result) (omega arith) (omega arith) h l.invariant.0
          c.key_at.ensures ∙ l.invariant.1 k h),
    )

pub returns : goal.returns
returns c =
    let l = c.loop-i in
    let a = c.args in
    record {
      many = l.invariant.0;
      values = λ k h. places-end a.v.text.now a.v.marks.now l.places (drop (a.pairs + 2 + 4 * l.i) a.v.marks.now) (a.count - l.i) k (omega arith) ∙ l.invariant.1 k h;
    }
