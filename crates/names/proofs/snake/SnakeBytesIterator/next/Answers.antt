-- `names::snake::SnakeBytes` gives its bytes one by one: an underscore where a word starts, then the form of the character. Assumes nothing.
use Rattle.std.proofs.Common.{sym, ◌∙◌}
use Rattle.names.specs.Short.{form_bytes}
use Rattle.names.specs.Same.{snake_left}
use Rattle.names.proofs.Laws.Read.{fewer, nothing-snake, underscore-first, character-first}
use Rattle.names.proofs.snake.SnakeBytesIterator.next.Goals as goal

pub returns-in_err-c-clause-steps : goal.returns-in_err-c-clause-steps
returns-in_err-c-clause-steps c =
    let s = c.args.self.now in
    let e = nothing-snake s.form (form_bytes s.before) s.rest.now c.in_default.is c.in_err-c.ensures in
    rw c.from_residual.ensures (e, e)

pub returns-then-starts-clause-steps : goal.returns-then-starts-clause-steps
returns-then-starts-clause-steps c =
    let s = c.args.self.now in
    rw c.first_lower-form.ensures (underscore-first s.form (form_bytes s.before) s.rest.now c.in_default.is _ _ c.in_ok-c.ensures.0 (sym c.starts_word-starts.ensures ∙ c.if-starts.true))

pub returns-then-starts-clause-goes : goal.returns-then-starts-clause-goes
returns-then-starts-clause-goes c = fewer snake_left (returns-then-starts-clause-steps c)

pub returns-clause-steps : goal.returns-clause-steps
returns-clause-steps c =
    let s = c.args.self.now in
    character-first s.form (form_bytes s.before) s.rest.now c.in_default.is _ _ c.in_ok-c.ensures.0 _ _ (sym c.starts_word-starts.ensures ∙ c.if-starts.false)
    (sym c.first_lower-form.ensures ∙ c.split_first-b-2.ensures)

pub returns-clause-goes : goal.returns-clause-goes
returns-clause-goes c = fewer snake_left (returns-clause-steps c)
