-- `tape::attributes::keep_first` meets its contract: none has the number behind the last place; a key's number is its place. Assumes nothing.
use borrow.Author.Tests.{eq-eqb, ne_eqb, lt-ltb}
use Rattle.tape.specs.Lookup.{kept_first}
use Rattle.tape.specs.Keys.{key_number}
use Rattle.tape.proofs.Laws.Words.{key-place, key-few}
use Rattle.tape.proofs.attributes.keep_first.Goals as goal

pub returns-in_default : goal.returns-in_default
unfolding kept_first key_number
returns-in_default c = rw c.in_default.is

pub returns-then-places-place-eq0 : goal.returns-then-places-place-eq0
unfolding kept_first
returns-then-places-place-eq0 c =
    let k = c.in-Some.key in
    rw (c.in-Some.is, lt-ltb _ 9 (key-few k), ← key-place k, eq-eqb _ _ c.if-places-place-eq0.true)

pub returns-else-places-place-eq0 : goal.returns-else-places-place-eq0
unfolding kept_first
returns-else-places-place-eq0 c =
    let k = c.in-Some.key in
    rw (c.in-Some.is, lt-ltb _ 9 (key-few k), ← key-place k, ne_eqb _ _ c.if-places-place-eq0.false)
