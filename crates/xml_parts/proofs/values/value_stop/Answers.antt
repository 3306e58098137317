-- `xml_parts::values::value_stop` meets its contract: a run of bytes that need no look, then the byte that does. The loop's invariant: the value from i on ends where the
-- value from the start on ends, and may be written where that may. The measure is how much is left. Assumes nothing.
use native.Mathlib.Omega.{arith}
use Prim.Native.Nat.{◌+◌}
use mathlib.Core.Path.{sym, ap, ◌∙◌}
use native.Mathlib.Numerals.{add-one}
use lib.ListN.{length, drop}
use Rattle.std.proofs.lemmas.Bool.{lt-leb, le-leb, lt-ltb, le-ltb}
use Rattle.xml.specs.Steps.{Step, ◌and_then◌}
use Rattle.xml.specs.Values.{value_end, is_in_value}
use Rattle.xml.proofs.Laws.Moves.{many-moves}
use Rattle.xml.proofs.Laws.Values.{value-stop, value-less, value-wrong, value_on, value-end, value-run}
use Rattle.xml_parts.proofs.Laws.Held.{held-end, held-quote, held-less, held-wrong, held_on, held-run}
use Rattle.xml_parts.proofs.values.value_stop.Goals as goal

pub loop-i-init : goal.loop-i-init
loop-i-init c =
    let a = c.args in (
      ap (λ (d : Step). d and_then value_end a.quote) c.value_run-i.ensures ∙ sym (value-run a.quote c.requires a.at (drop a.at a.text.now)),
      sym (held-run a.quote c.requires a.at (drop a.at a.text.now) _ _ c.value_run-i.ensures),
    )

pub returns-then-b-quote : goal.returns-then-b-quote
returns-then-b-quote c =
    let a = c.args in
    let i = c.loop-i.i in record {
      ends = rw (lt-ltb i (length a.text.now) (omega arith), add-one i) (sym (value-stop a.quote a.text.now i i (omega arith) c.if-b-quote.true) ∙ c.loop-i.invariant.0);
      whole = rw (lt-leb (length a.text.now) i (omega arith)) (sym (held-quote a.quote a.text.now i (omega arith) c.if-b-quote.true) ∙ c.loop-i.invariant.1);
    }

pub returns-then-b-eq60 : goal.returns-then-b-eq60
returns-then-b-eq60 c =
    let a = c.args in
    let i = c.loop-i.i in record {
      ends = sym (value-less a.quote a.text.now i i (omega arith) c.if-b-quote.false c.if-b-eq60.true) ∙ c.loop-i.invariant.0;
      whole = sym (held-less a.quote a.text.now i (omega arith) c.if-b-quote.false c.if-b-eq60.true) ∙ c.loop-i.invariant.1;
    }

pub returns-then-not-is_plain : goal.returns-then-not-is_plain
returns-then-not-is_plain c =
    let a = c.args in
    let i = c.loop-i.i in
    let p = sym c.is_plain.ensures ∙ c.if-not-is_plain.true in record {
      ends = sym (value-wrong a.quote a.text.now i i (omega arith) c.if-b-quote.false c.if-b-eq60.false p) ∙ c.loop-i.invariant.0;
      whole = sym (held-wrong a.quote a.text.now i (omega arith) c.if-b-quote.false c.if-b-eq60.false p) ∙ c.loop-i.invariant.1;
    }

pub loop-i-smaller : goal.loop-i-smaller
loop-i-smaller c = omega (arith, many-moves is_in_value _ _ _ _ (sym c.value_run-i-in-loop-i.ensures))

pub loop-i-preserved : goal.loop-i-preserved
loop-i-preserved c =
    let a = c.args in
    let i = c.loop-i.i in
    let p = sym c.is_plain.ensures ∙ c.if-not-is_plain.false in (
      ap (λ (d : Step). d and_then value_end a.quote) c.value_run-i-in-loop-i.ensures ∙ sym (value-run a.quote c.requires (i + 1) (drop (i + 1) a.text.now))
          ∙ rw (add-one i) (sym (value_on a.quote a.text.now i i (omega arith) c.if-b-quote.false c.if-b-eq60.false p) ∙ c.loop-i.invariant.0),
      sym (held-run a.quote c.requires (i + 1) (drop (i + 1) a.text.now) _ _ c.value_run-i-in-loop-i.ensures)
          ∙ rw (add-one i) (sym (held_on a.quote a.text.now i (omega arith) c.if-b-quote.false c.if-b-eq60.false p) ∙ c.loop-i.invariant.1),
    )

pub returns : goal.returns
returns c =
    let a = c.args in
    let i = c.loop-i.i in record {
      ends = rw (le-ltb i (length a.text.now) c.loop-i-test.false) (sym (value-end a.quote a.text.now i i c.loop-i-test.false) ∙ c.loop-i.invariant.0);
      whole = rw (le-leb (length a.text.now) i c.loop-i-test.false) (sym (held-end a.quote a.text.now i c.loop-i-test.false) ∙ c.loop-i.invariant.1);
    }
