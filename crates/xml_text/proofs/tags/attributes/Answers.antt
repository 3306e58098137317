-- `xml_text::tags::attributes` meets its contract. The loop's invariant: the parts from i on end the tag as all of them do, with turns enough for the bytes left; the
-- keys so far are the names of the slots, and their numbers are stored. The measure is how much is left. Assumes nothing.
use native.Mathlib.Omega.{arith}
use Prim.Native.Nat.{ℕ, suc, ◌+◌, ◌*◌}
use mathlib.Core.Path.{refl, sym, ap, ◌∙◌}
use mathlib.Core.List.{List, [], ◌∷◌, ◌++◌}
use native.Mathlib.Numerals.{add-one}
use lib.ListN.{length, drop, length-drop, length-set, length-append}
use lib.Seq.{sets, length-sets}
use Rattle.xml.specs.Grammar.{is_among}
use Rattle.xml.specs.Tape.{attribute_marks}
use Rattle.xml.specs.Tags.{attributes, attribute_from}
use Rattle.xml_text.specs.Answers.{names_up_to}
use Rattle.xml_text.proofs.Laws.Tags.{names-part, names-push, marks-more}
use Rattle.xml.proofs.Laws.Tags.{attributes-wrong, attributes-last, attributes-twice, attributes-on}
use Rattle.xml_text.proofs.tags.attributes.Goals as goal

pub loop-part-init : goal.loop-part-init
unfolding attributes names_up_to attribute_marks
loop-part-init c =
    let a = c.args in
    (suc (length (drop a.at a.text.now)), [], omega (arith, length-drop a.at a.text.now), refl, refl, refl, omega arith, refl, refl)

pub returns-in_err-part : goal.returns-in_err-part
returns-in_err-part c =
    rw c.from_residual.ensures
    (sym c.loop-part.invariant.3 ∙ attributes-wrong c.loop-part.invariant.0 _ c.loop-part.invariant.1 c.loop-part.i _ (sym c.in_err-part.ensures.0))

pub returns-in-Last : goal.returns-in-Last
returns-in-Last c =
    let p = (rw c.in-Last.is at c.in_ok-part.ensures).1 in
    let l = sym (rw c.in-Last.is at c.in_ok-part.ensures).0 in (
      c.loop-part.invariant.1,
      sym c.loop-part.invariant.3 ∙ attributes-last c.loop-part.invariant.0 _ c.loop-part.invariant.1 c.loop-part.i _ _ _ _
          (omega (arith, c.loop-part.invariant.2)) l,
      c.loop-part.invariant.4,
      c.loop-part.invariant.5,
      omega (arith, p, c.loop-part.invariant.6),
      p.1,
    )

pub returns-then-is_among : goal.returns-then-is_among
returns-then-is_among c =
    sym c.loop-part.invariant.3 ∙ attributes-twice c.loop-part.invariant.0 _ c.loop-part.invariant.1 c.loop-part.i _ _ _ _ _ (sym (rw c.in-More.is at c.in_ok-part.ensures).0)
    (sym (c.is_among.ensures ∙ ap (is_among _) (names-part c.args.text.now c.loop-part.keys c.loop-part.count
    (omega (arith, (rw c.in-More.is at c.in_ok-part.ensures).1, c.loop-part.invariant.6, c.loop-part.invariant.7, c.requires)))) ∙ c.if-is_among.true)

pub loop-part-preserved : goal.loop-part-preserved
loop-part-preserved c =
    let a = c.args in
    let xs = c.loop-part.invariant.1 in
    let x = (attribute_from c.in-More.it.key c.in-More.it.key_end c.in-More.it.quote c.in-More.it.behind) in
    let p = (rw c.in-More.is at c.in_ok-part.ensures).1 in
    let next = attributes-on (length a.text.now) c.loop-part.invariant.0 _ xs c.loop-part.i _ x _ _ _ _ c.loop-part.invariant.2 (omega (arith, p)) p.4
    (sym (rw c.in-More.is at c.in_ok-part.ensures).0) (sym (c.is_among.ensures ∙ ap (is_among _) (names-part c.args.text.now c.loop-part.keys c.loop-part.count
    (omega (arith, (rw c.in-More.is at c.in_ok-part.ensures).1, c.loop-part.invariant.6, c.loop-part.invariant.7, c.requires)))) ∙ c.if-is_among.false) c.loop-part.invariant.3 in
    let stored = c.put_attribute.ensures ∙ ap (λ (l : List ℕ). sets l (a.from + 4 * c.loop-part.count) (attribute_marks (x ∷ []))) c.loop-part.invariant.5 ∙ marks-more
    a.marks.now a.from c.loop-part.count xs x c.loop-part.invariant.4 in (
      next.0,
      xs ++ x ∷ [],
      next.1,
      rw (add-one c.loop-part.count, names-push a.text.now c.loop-part.keys c.loop-part.count c.in-More.it.key (omega (arith, p, c.loop-part.invariant.6, c.loop-part.invariant.7, c.requires)))
          next.2,
      simp length-append (omega (arith, c.loop-part.invariant.4)),
      stored,
      omega (arith, p, c.loop-part.invariant.6),
      length-set c.loop-part.keys c.loop-part.count c.in-More.it.key ∙ c.loop-part.invariant.7,
      ap length stored ∙ length-sets a.marks.now a.from (attribute_marks (xs ++ x ∷ [])),
    )
