-- `xml_text::call::tape_of` meets its contract: the lengths first, then what was stored. Assumes nothing.
use mathlib.Core.Path.{sym, ◌∙◌}
use lib.ListN.{length}
use borrow.Author.Tests.{leb-true}
use Rattle.text.proofs.Laws.Tests.{and-true-left}
use Rattle.std.proofs.lemmas.Result.{err_from_is_err_and}
use Rattle.sheet.specs.Lengths.{tape_lengths}
use Rattle.xml.specs.Call.{is_too_long}
use Rattle.xml_text.proofs.Laws.Call.{tape-refused, tape-accepted}
use Rattle.xml_text.proofs.call.tape_of.Goals as goal

pub returns-then-not-tape_lengths : goal.returns-then-not-tape_lengths
returns-then-not-tape_lengths c = rw c.into.ensures (is_too_long (sym c.tape_lengths.ensures ∙ c.if-not-tape_lengths.true))

pub stored-used-requires : goal.stored-used-requires
unfolding tape_lengths
stored-used-requires c =
    leb-true (length c.args.text.now) 65536 (and-true-left _ _ (sym c.tape_lengths.ensures ∙ c.if-not-tape_lengths.false))

pub returns-in_err-used : goal.returns-in_err-used
returns-in_err-used c =
    let e = err_from_is_err_and c.from_residual.result c.from_residual.ensures.1 in
    rw (e.1, e.2) (tape-refused c.args.text.now c.args.marks.now _ _ (sym c.tape_lengths.ensures
    ∙ c.if-not-tape_lengths.false) _ c.stored-used.result _ c.in_err-used.was (rw c.in_err-used.was at c.unwrap_or.ensures) c.stored-used.ensures c.zero_marks.ensures)

pub returns : goal.returns
returns c =
    tape-accepted c.args.text.now c.args.marks.now _ _ (sym c.tape_lengths.ensures
    ∙ c.if-not-tape_lengths.false) _ c.stored-used.result _ c.in_ok-used.was (rw c.in_ok-used.was at c.unwrap_or.ensures) c.stored-used.ensures c.zero_marks.ensures
