-- `xml_text::root::root_over` meets its contract: the root's tag, then its content, which an empty tag has none of. Assumes nothing.
use native.Mathlib.Omega.{arith}
use mathlib.Core.Path.{refl, ap}
use mathlib.Core.List.{[]}
use Rattle.std.specs.Prelude.{Some}
use Rattle.xml.specs.Tape.{TapeEvent, tape_marks}
use Rattle.xsd_parser.specs.Kinds.{kind_number}
use Rattle.xml.specs.Root.{level_of_tag}
use Rattle.xml_text.specs.Answers.{names_up_to}
use Rattle.xml_text.proofs.Laws.Root.{open-start, open-empty, root-one, inside-end}
use Rattle.xml.proofs.Laws.Root.{root-found}
use Rattle.xml_text.proofs.root.root_over.Goals as goal

pub returns-in_err-whole : goal.returns-in_err-whole
returns-in_err-whole c = rw c.from_residual.ensures (root-found c.args.at _ _ (ap (level_of_tag []) c.in_err-whole.ensures))

pub returns-in-Start : goal.returns-in-Start
unfolding names_up_to
returns-in-Start c =
    let a = c.args in
    let e = c.in_ok-whole.ensures in
    let kind = c.in_ok-whole.whole.kind in
    root-one a.text.now a.marks.now _ _ a.at _ (TapeEvent.tag (kind_number kind) e.0 e.1) _ c.in_ok-whole.whole.behind c.inside.result e.2
    (open-start a.text.now a.slots.now c.tag.new.keys 0 c.in_ok-whole.whole.start kind e.0 e.1 _ _ c.in-Start.is refl (omega (arith, c.requires))) e.3 e.4 c.inside.ensures

pub returns-in-Empty : goal.returns-in-Empty
unfolding names_up_to tape_marks
returns-in-Empty c =
    let a = c.args in
    let e = c.in_ok-whole.ensures in
    let kind = c.in_ok-whole.whole.kind in
    root-one a.text.now a.marks.now _ _ a.at _ (TapeEvent.tag (kind_number kind) e.0 e.1) _ c.in_ok-whole.whole.behind (Some _) e.2
    (open-empty a.text.now a.slots.now c.tag.new.keys 0 c.in_ok-whole.whole.start kind e.0 e.1 _ _ c.in-Empty.is refl) e.3 e.4
    ([], inside-end _ a.text.now a.slots.now 0 _ _ (omega arith) (omega arith), omega arith, refl)
