-- `xml_parts::values::is_reference` meets its contract: the words of the definition. Assumes nothing.
use native.Mathlib.Omega.{arith}
use mathlib.Core.Path.{sym, ap, ◌∙◌}
use Rattle.text.specs.Text.{bytes}
use lib.ListN.{length-drop}
use lib.Seq.{drop-drop}
use Rattle.xml.specs.Values.{is_reference, is_number}
use Rattle.xml.proofs.Laws.Steps.{starts-length}
use Rattle.xml_parts.proofs.values.is_reference.Goals as goal

pub overflow_add-at : goal.overflow_add-at
overflow_add-at c =
    let a = c.args in
    omega (arith, starts-length _ _ (sym c.starts.ensures ∙ c.if-starts.true), length-drop a.at a.text.now)

pub returns-then-starts : goal.returns-then-starts
unfolding is_reference bytes
returns-then-starts c =
    rw (sym c.starts.ensures ∙ c.if-starts.true) (c.is_number.ensures ∙ ap (is_number 16 0) (sym (drop-drop 3 c.args.at c.args.text.now)))

pub overflow_add-at-then-starts-2 : goal.overflow_add-at-then-starts-2
overflow_add-at-then-starts-2 c =
    let a = c.args in
    omega (arith, starts-length _ _ (sym c.starts-2.ensures ∙ c.if-starts-2.true), length-drop a.at a.text.now)

pub returns-then-starts-2 : goal.returns-then-starts-2
unfolding is_reference bytes
returns-then-starts-2 c =
    rw (sym c.starts.ensures ∙ c.if-starts.false, sym c.starts-2.ensures ∙ c.if-starts-2.true)
    (c.is_number-then-starts-2.ensures ∙ ap (is_number 10 0) (sym (drop-drop 2 c.args.at c.args.text.now)))

pub returns : goal.returns
unfolding is_reference bytes
returns c =
    rw (sym c.starts.ensures ∙ c.if-starts.false, sym c.starts-2.ensures ∙ c.if-starts-2.false) c.is_entity.ensures
