-- `names::snake::xml_to_snake_case` meets its contract. The loop's invariant: `end` bytes of the target are written, and the snake form of the name
-- from i on is what is still to be written. Assumes nothing.
use Rattle.std.proofs.Common.{◌+◌, [], ◌∷◌, get_or, drop, sym, ◌∙◌, arith}
use Rattle.text.specs.Text.{lower_byte}
use Rattle.text.specs.Characters.{characters}
use Rattle.names.specs.Names.{snake_from, xml_to_snake_case}
use Rattle.names.proofs.Laws.Writing.{Writing, writing_start, writing-as, writing_put, writing-refused, writing-end, put_again}
use Rattle.names.proofs.Laws.Scans.{snake-start, snake-end}
use Rattle.names.proofs.Laws.Snake.{marked, plain}
use Rattle.names.proofs.snake.xml_to_snake_case.Goals as goal
use Rattle.names.proofs.snake.xml_to_snake_case.Goals.{then-byte_starts+in_ok-end, else-byte_starts, Joined-byte_starts}

pub loop-i-init : goal.loop-i-init
unfolding xml_to_snake_case
loop-i-init c = writing-as (writing_start _ _) (sym (snake-start (characters c.args.name.now)))

pub returns-then-c-next-ge128 : goal.returns-then-c-next-ge128
returns-then-c-next-ge128 c = put_again c.loop-i.invariant c.put_characters.ensures

pub returns-in_err-end : goal.returns-in_err-end
returns-in_err-end c =
    let l = c.loop-i in
    let w = marked l.prev c.args.name.now l.i l.invariant c.loop-i-test.true c.if-c-next-ge128.false c.byte_at-next.ensures (sym c.byte_starts.ensures ∙ c.if-byte_starts.true) in
    rw c.from_residual.ensures (writing-refused w c.in_err-end.ensures)

-- behind the underscore, where one stands before the byte, its lower form is what is still to be written
marked-or-plain : (c : Joined-byte_starts) → Writing (xml_to_snake_case c.args.name.now) c.args.out.now c.if-byte_starts.end c.if-byte_starts.out
    (lower_byte (get_or c.args.name.now c.loop-i.i 0) ∷ snake_from (get_or c.args.name.now c.loop-i.i 0 ∷ []) (characters (drop (c.loop-i.i + 1) c.args.name.now)))
marked-or-plain c =
    let l = c.loop-i in
    elim c.if-byte_starts.branch [
      | then-byte_starts+in_ok-end w ↦
          rw (w.out-is, w.end-is)
          (writing_put
          (marked l.prev c.args.name.now l.i l.invariant c.loop-i-test.true c.if-c-next-ge128.false c.byte_at-next.ensures (sym c.byte_starts.ensures ∙ w.if-byte_starts.true))
          w.in_ok-end.ensures)
      | else-byte_starts w ↦
          rw (w.out-is, w.end-is)
          (plain l.prev c.args.name.now l.i l.invariant c.loop-i-test.true c.if-c-next-ge128.false c.byte_at-next.ensures (sym c.byte_starts.ensures ∙ w.if-byte_starts.false))
    ]

pub returns-in_err-end-2 : goal.returns-in_err-end-2
returns-in_err-end-2 c =
    let w = marked-or-plain (goal.at.returns-in_err-end-2 c).Joined-byte_starts in
    rw c.from_residual-in_err-end-2.ensures (writing-refused (rw (sym c.to_lower.ensures) at w) c.in_err-end-2.ensures)

pub loop-i-preserved : goal.loop-i-preserved
loop-i-preserved c =
    let w = marked-or-plain (goal.at.loop-i-preserved c).Joined-byte_starts in
    writing_put (rw c.to_lower.ensures w) c.in_ok-end-2.ensures

pub returns : goal.returns
returns c =
    let a = c.args in
    writing-end (writing-as c.loop-i.invariant (snake-end c.loop-i.prev a.name.now c.loop-i.i (omega arith)))
