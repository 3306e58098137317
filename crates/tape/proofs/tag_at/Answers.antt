-- `tape::tag_at` meets its contract: all pairs are judged for 4 before any byte is judged for 5. Assumes nothing.
use Prim.Native.Nat.{◌+◌}
use mathlib.Core.Path.{refl, sym, ◌∙◌}
use native.Mathlib.Omega.{arith}
use lib.ListN.{drop}
use Rattle.xsd_parser.specs.Tape.{pairs_of, pair_count}
use Rattle.tape.specs.Pairs.{tag_at}
use Rattle.tape.specs.Answers.{recorded, IsPlaced}
use Rattle.tape.proofs.Laws.Tests.{inside-each}
use Rattle.tape.proofs.Laws.Records.{tag-outside, tag-high, tag-good, record-event}
use Rattle.tape.proofs.tag_at.Goals as goal

pub pairs_inside-requires : goal.pairs_inside-requires
unfolding pair_count
pairs_inside-requires c = c.requires.fact.2

pub returns-then-not-pairs_inside : goal.returns-then-not-pairs_inside
unfolding recorded IsPlaced pair_count
returns-then-not-pairs_inside c =
    let a = c.args in
    let ps = pairs_of (pair_count a.count) (drop (a.at + 2) a.v.marks.now) in
    record { judged = sym (tag-outside a.v.text.now a.kind ps _ (sym c.pairs_inside.ensures ∙ c.if-not-pairs_inside.true)); places = tt }

pub pairs_ascii-requires : goal.pairs_ascii-requires
unfolding pair_count
pairs_ascii-requires c = record { n_in_bounds = c.requires.fact.2; text_value = c.requires.text_value }

pub returns-then-not-pairs_ascii : goal.returns-then-not-pairs_ascii
unfolding recorded IsPlaced pair_count
returns-then-not-pairs_ascii c =
    let a = c.args in
    let ps = pairs_of (pair_count a.count) (drop (a.at + 2) a.v.marks.now) in
    let inside = sym c.pairs_inside.ensures ∙ c.if-not-pairs_inside.false in
    record { judged = sym (tag-high a.v.text.now a.kind ps _ inside (sym c.pairs_ascii.ensures ∙ c.if-not-pairs_ascii.true)); places = tt }

pub returns : goal.returns
unfolding recorded IsPlaced pair_count tag_at
returns c =
    let a = c.args in
    let form = c.requires.fact in
    let ps = pairs_of (pair_count a.count) (drop (a.at + 2) a.v.marks.now) in
    let inside = sym c.pairs_inside.ensures ∙ c.if-not-pairs_inside.false in
    let ascii = sym c.pairs_ascii.ensures ∙ c.if-not-pairs_ascii.false in
    record {
      judged = record-event a.v.text.now a.v.marks.now _ form.0 ∙ sym (tag-good a.v.text.now a.kind ps _ inside ascii);
      places = record {
        later = omega arith;
        within = form.2;
        tag = λ k. record {
          few = form.1;
          behind = refl;
          inside = record {
            marks_inside = form.2;
            text_inside = inside-each a.v.text.now a.v.marks.now (a.at + 2) (pair_count a.count) form.2 inside;
          };
        };
      };
    }
