-- `xml_text::root::turn` meets its contract: by what stands behind the text. Assumes nothing.
use native.Mathlib.Omega.{arith}
use mathlib.Core.Path.{refl, sym, ◌∙◌}
use mathlib.Core.List.{[]}
use Rattle.text.specs.Text.{bytes}
use Rattle.xml.specs.Tape.{tape_marks}
use Rattle.xml.proofs.Laws.Moves.{char-data-moves}
use Rattle.xml_text.proofs.Laws.Root.{goes-weaken}
use Rattle.xml.proofs.Laws.Root.{turn-bad, turn-of, markup-close}
use Rattle.xml_text.proofs.root.turn.Goals as goal

pub returns-in_err-start : goal.returns-in_err-start
returns-in_err-start c = rw c.from_residual.ensures (turn-bad _ c.args.here.at _ (sym c.in_err-start.ensures))

pub invariant_of-tag : goal.invariant_of-tag
invariant_of-tag c =
    let m = char-data-moves _ _ _ _ (sym c.in_ok-start.ensures) in
    record { opened = omega (arith, m, c.args.here.opened); stored = omega (arith, m, c.args.here.stored) }

pub returns-then-starts : goal.returns-then-starts
unfolding bytes
returns-then-starts c =
    let a = c.args in
    let q = sym c.in_ok-start.ensures in
    rw (turn-of _ a.here.at _ _ _ _ q (markup-close _ _ (sym c.starts.ensures ∙ c.if-starts.true)))
    (goes-weaken a.text.now a.here.at _ _ _ _ _ c.close_tag.result _ (char-data-moves _ _ _ _ q).0 c.close_tag.ensures)

pub markup-requires : goal.markup-requires
unfolding bytes
markup-requires c = sym c.starts.ensures ∙ c.if-starts.false

pub invariant_of-tag-in-Starting : goal.invariant_of-tag-in-Starting
invariant_of-tag-in-Starting c =
    let m = char-data-moves _ _ _ _ (sym c.in_ok-start.ensures) in
    let i = (rw c.in-Starting.is at c.in_ok-piece.ensures).1 in
    record { opened = omega (arith, m, i, c.args.here.opened); stored = omega (arith, m, i, c.args.here.stored) }

pub returns-in_err-piece : goal.returns-in_err-piece
returns-in_err-piece c =
    rw c.from_residual-in_err-piece.ensures (turn-of _ c.args.here.at _ _ _ _ (sym c.in_ok-start.ensures) (sym c.in_err-piece.ensures.0))

pub invariant_of-result : goal.invariant_of-result
invariant_of-result c =
    let m = char-data-moves _ _ _ _ (sym c.in_ok-start.ensures) in
    let p = (rw c.in-Passed.is at c.in_ok-piece.ensures).1 in
    record { opened = omega (arith, m, p, c.args.here.opened); stored = omega (arith, m, p, c.args.here.stored) }

pub returns-in-Passed : goal.returns-in-Passed
unfolding tape_marks
returns-in-Passed c =
    let a = c.args in
    let q = sym c.in_ok-start.ensures in
    let m = char-data-moves _ _ _ _ q in
    let p = (rw c.in-Passed.is at c.in_ok-piece.ensures).1 in (
      [],
      turn-of _ a.here.at _ _ _ _ q (sym (rw c.in-Passed.is at c.in_ok-piece.ensures).0),
      omega arith,
      refl,
      omega (arith, p, m),
      p.1,
    )

pub returns-in-Starting : goal.returns-in-Starting
returns-in-Starting c =
    let a = c.args in
    let q = sym c.in_ok-start.ensures in
    let i = (rw c.in-Starting.is at c.in_ok-piece.ensures).1 in
    rw (turn-of _ a.here.at _ _ _ _ q (sym (rw c.in-Starting.is at c.in_ok-piece.ensures).0))
    (goes-weaken a.text.now a.here.at _ _ _ _ _ c.open_tag.result _ (omega (arith, i, char-data-moves _ _ _ _ q)) c.open_tag.ensures)
