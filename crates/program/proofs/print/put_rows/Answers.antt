-- `program::print::put_rows` meets its contract. Assumes nothing.
use Rattle.std.proofs.Common.{◌≡◌, ◌++◌, [], refl, ap, sym, subst, ◌∙◌, append-nil, min, length}
use Rattle.std.proofs.KnownBytes.{Appends-nil, Appends-trans}
use Rattle.std.specs.Io.KnownBytes.{Appends}
use Rattle.program.specs.Print.{numbers_text, printed_rows}
use Rattle.program.proofs.Laws.Print.{recut, rows-step, rows-end}
use Rattle.program.proofs.print.put_rows.Goals as goal

pub loop-row-init : goal.loop-row-init
loop-row-init g c =
    let made = c.take-row-items.ensures in
    rw (c.into_iter-row-iterator.ensures.into_iter_gives, made.source, made.count, c.chunks.ensures.rest) (c.chunks.ensures.size, ([], Appends-nil _, refl))

pub loop-row-preserved : goal.loop-row-preserved
loop-row-preserved g c =
    let inv = c.loop-row.invariant in
    let steps = c.in-Some.ensures.steps in
    let at = c.loop-row.row-iterator in
    let row = c.in-Some.row.now in
    let behind = c.next.new.self in
    let ten = subst (λ k. length row ≡ min k (length at.iter.rest.now)) inv.0 steps.0.1.1 in
    let step = rows-step at.n behind.n at.iter.rest.now row behind.iter.rest.now steps.0.1.0 ten steps.1 in
    let whole = recut inv.1.0 (numbers_text 0 row) (printed_rows behind.n behind.iter.rest.now) (printed_rows at.n at.iter.rest.now) (printed_rows c.args.used c.args.rows.now) step inv.1.2 in
    (steps.0.0 ∙ inv.0, (inv.1.0 ++ numbers_text 0 row, Appends-trans _ _ _ _ _ inv.1.1 c.in_ok-put_row.ensures, whole))

pub returns : goal.returns
returns g c =
    let inv = c.loop-row.invariant in
    let end = rows-end c.loop-row.row-iterator.n c.loop-row.row-iterator.iter.rest.now (λ p. (c.in-None.ensures.steps p).1.0) in
    subst (Appends _ _) (sym (append-nil inv.1.0) ∙ ap (λ t. inv.1.0 ++ t) (sym end) ∙ inv.1.2) inv.1.1
