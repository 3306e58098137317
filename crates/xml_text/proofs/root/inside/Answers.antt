-- `xml_text::root::inside` meets its contract. The loop's invariant: the events so far in front of those from here on are all events, with turns enough for the bytes left;
-- the numbers of those so far are stored. The measure is how much is left. Assumes nothing.
use borrow.Author.Rules.{rules}
use native.Mathlib.Omega.{arith}
use Prim.Native.Nat.{ℕ, suc}
use mathlib.Core.Path.{refl, sym, ap, ◌∙◌}
use mathlib.Core.List.{List, [], ◌++◌}
use lib.ListN.{length, drop, length-drop, length-append}
use lib.Seq.{sets, length-sets}
use Rattle.xml.specs.Tape.{tape_marks}
use Rattle.xml.specs.Root.{add_events}
use Rattle.xml.proofs.Laws.Root.{add_none, add-bad, add-end, tape-append, inside-stop, inside_on}
use Rattle.xml_text.proofs.Laws.Root.{tape-more, some-open, inside-end}
use Rattle.xml_text.proofs.root.inside.Goals as goal

pub loop-here-init : goal.loop-here-init
unfolding tape_marks
loop-here-init c =
    let a = c.args in
    let p = c.requires in
    (suc (length (drop a.from.at a.text.now)), [], omega (arith, length-drop a.from.at a.text.now), add_none _, omega arith, refl, refl, p.2, refl)

pub returns-in_err-here : goal.returns-in_err-here
returns-in_err-here c =
    let stopped = inside-stop c.loop-here.invariant.0 _ c.loop-here.here.at _ (some-open c.args.text.now c.loop-here.slots c.loop-here.here.count (omega arith))
    c.in_err-here.ensures in
    rw c.from_residual.ensures
    (sym c.loop-here.invariant.3 ∙ ap (add_events c.loop-here.invariant.1) stopped ∙ add-bad c.loop-here.invariant.1)

pub loop-here-preserved : goal.loop-here-preserved
loop-here-preserved c =
    let a = c.args in
    let g = c.in_ok-here.ensures in
    let next = inside_on (length a.text.now) c.loop-here.invariant.0 c.loop-here.invariant.1 _ c.loop-here.here.at _ _ g.0 _ _ _ c.loop-here.invariant.2 g.4 g.5
    (some-open c.args.text.now c.loop-here.slots c.loop-here.here.count (omega arith)) g.1 c.loop-here.invariant.3 in
    let stored = g.3 ∙ ap (λ (l : List ℕ). sets l c.loop-here.here.used (tape_marks g.0)) c.loop-here.invariant.5 ∙ tape-more a.marks.now a.from.used c.loop-here.here.used c.loop-here.invariant.1 g.0
    c.loop-here.invariant.4 in (
      next.0,
      c.loop-here.invariant.1 ++ g.0,
      next.1,
      next.2,
      omega (arith, g.2, c.loop-here.invariant.4, ap length (tape-append c.loop-here.invariant.1 g.0), length-append (tape_marks c.loop-here.invariant.1) (tape_marks g.0)),
      stored,
      search rules,
      g.5,
      ap length stored ∙ length-sets a.marks.now a.from.used (tape_marks (c.loop-here.invariant.1 ++ g.0)),
    )

pub returns : goal.returns
returns c =
    let e = inside-end c.loop-here.invariant.0 c.args.text.now c.loop-here.slots c.loop-here.here.count c.loop-here.here.at _
    (omega (arith, c.loop-here.invariant.2)) (omega arith) in (
      c.loop-here.invariant.1,
      sym c.loop-here.invariant.3 ∙ ap (add_events c.loop-here.invariant.1) e ∙ add-end c.loop-here.invariant.1
          c.loop-here.here.at _,
      c.loop-here.invariant.4,
      c.loop-here.invariant.5,
    )
