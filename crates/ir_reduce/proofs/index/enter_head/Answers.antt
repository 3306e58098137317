-- `ir_reduce::index::enter_head` meets its contract: a row that is no head enters nothing, and a head what `enter` says. Assumes nothing.
use mathlib.Core.Path.{refl, sym, ap, ◌∙◌}
use native.Mathlib.Omega.{arith}
use Rattle.ir_types.specs.Form.{is_type_tag}
use Rattle.ir_reduce.specs.Marks.{head_at}
use Rattle.ir_reduce.proofs.Laws.Index.{head-none, head-old, head-new}
use Rattle.ir_reduce.proofs.index.enter_head.Goals as goal

pub returns-then-not-is_type : goal.returns-then-not-is_type
unfolding head_at
returns-then-not-is_type c =
    record {
      same_numbers = refl;
      same_buckets = refl;
      same_length = refl;
      entered =
          head-none c.requires.index.index c.args.place
          (ap is_type_tag (sym c.tag.ensures) ∙ sym c.is_type.ensures ∙ c.if-not-is_type.true);
    }

pub enter-requires-clause-index : goal.enter-requires-clause-index
enter-requires-clause-index c = rw c.requires.index.buckets_are c.requires.index.index

pub enter-requires-clause-entering : goal.enter-requires-clause-entering
enter-requires-clause-entering c =
    let r = c.requires.place_nonzero in
    record { above = r.0; inside = omega (arith, r.1); small = r.2; room = omega (arith, r.3, c.requires.index.buckets_are) }

pub returns-then-is_some : goal.returns-then-is_some
unfolding head_at
returns-then-is_some c =
    let e = c.enter.ensures in
    let head = ap is_type_tag (sym c.tag.ensures) ∙ sym c.is_type.ensures ∙ c.if-not-is_type.false in
    let old = head-old c.requires.index.index c.args.place (rw c.requires.index.buckets_are at e.entered) (sym c.is_some.ensures ∙ c.if-is_some.true) head in
    record { same_numbers = e.same_numbers; same_buckets = e.same_buckets; same_length = e.same_length; entered = old }

pub returns : goal.returns
unfolding head_at
returns c =
    let e = c.enter.ensures in
    let none = sym c.is_some.ensures ∙ c.if-is_some.false in
    let head = ap is_type_tag (sym c.tag.ensures) ∙ sym c.is_type.ensures ∙ c.if-not-is_type.false in
    let new = head-new c.requires.index.index c.args.place (rw c.requires.index.buckets_are at e.entered) none head in
    record { same_numbers = e.same_numbers; same_buckets = e.same_buckets; same_length = e.same_length; entered = rw (e.count, none) new }
