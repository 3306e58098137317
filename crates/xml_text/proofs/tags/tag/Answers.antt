-- `xml_text::tags::tag` meets its contract: the steps one behind the other; the first four numbers are stored behind those of the attributes. Assumes nothing.
use native.Mathlib.Omega.{arith}
use Prim.Native.Nat.{ℕ, ◌+◌, ◌-◌}
use mathlib.Core.Path.{◌≡◌, refl, sym, ap, ◌∙◌}
use mathlib.Core.List.{List, ◌∷◌}
use lib.ListN.{set}
use lib.Seq.{sets}
use Rattle.text.specs.Text.{bytes}
use Rattle.xml.specs.Tape.{attribute_marks, event_marks}
use denote.Enum.Declared.{tag_of}
use Rattle.xsd_parser.specs.Kinds.{kind_number}
use Rattle.xsd_parser.specs.contracts.kinds.Kind.{the_type}
use Rattle.xsd_parser.specs.declared.kinds.Kind.{Kind}
use Rattle.xml.specs.Tags.{tag, span}
use Rattle.xml_text.proofs.Laws.Marks.{put-tag}
use Rattle.xml_text.proofs.Laws.Tags.{name-inside-tag}
use Rattle.xml.proofs.Laws.Tags.{marks-length, tag-found}
use Rattle.xml_text.proofs.tags.tag.Goals as goal

-- the number of a kind is its discriminant
numbered : (k : Kind) → tag_of the_type k + 1 ≡ kind_number k
numbered Kind.Start = refl
numbered Kind.Empty = refl
numbered Kind.Close = refl

pub returns-in_err-start : goal.returns-in_err-start
unfolding tag bytes
returns-in_err-start c = rw (c.from_residual.ensures, sym c.in_err-start.ensures)

pub returns-in_err-end : goal.returns-in_err-end
unfolding tag bytes
returns-in_err-end c = rw (c.from_residual-in_err-end.ensures, sym c.in_ok-start.ensures, sym c.in_err-end.ensures)

pub attributes-requires : goal.attributes-requires
attributes-requires c =
    let n = name-inside-tag c.args.text.now c.args.at _ _ c.in_ok-start.ensures c.in_ok-end.ensures in
    (c.requires.0, omega (arith, n, c.requires), omega (arith, c.requires))

pub returns-in_err-last : goal.returns-in_err-last
unfolding tag bytes
returns-in_err-last c =
    rw (c.from_residual-in_err-last.ensures, sym c.in_ok-start.ensures, sym c.in_ok-end.ensures, c.in_err-last.ensures)

pub overflow_sub-size : goal.overflow_sub-size
overflow_sub-size c =
    let n = name-inside-tag c.args.text.now c.args.at _ _ c.in_ok-start.ensures c.in_ok-end.ensures in
    omega (arith, n)

pub overflow_cast-start : goal.overflow_cast-start
overflow_cast-start c =
    let n = name-inside-tag c.args.text.now c.args.at _ _ c.in_ok-start.ensures c.in_ok-end.ensures in
    omega (arith, n, c.requires)

pub returns : goal.returns
unfolding tag bytes event_marks
returns c =
    let a = c.args in
    let n = name-inside-tag c.args.text.now a.at _ _ c.in_ok-start.ensures c.in_ok-end.ensures in
    let e = c.in_ok-last.ensures in
    let xs = e.0 in
    let used = a.used in
    let start = c.in_ok-start.start in
    let end = c.in_ok-end.end in
    let kind = kind_number c.in_ok-last.last.kind in
    let count = c.in_ok-last.last.count in
    let size = marks-length xs in (
      span start end,
      xs,
      tag-found a.at _ (sym c.in_ok-start.ensures) (sym c.in_ok-end.ensures) e.1,
      omega (arith, size, e.2),
      c.put_four.ensures
          ∙ ap (λ (m : List ℕ). set (set (set m (used + 1) count) (used + 2) start) (used + 2 + 1) (end - start)) (ap (set c.attributes.new.marks used) (numbered c.in_ok-last.last.kind))
          ∙ ap (λ (m : List ℕ). set (set (set (set m used kind) (used + 1) count) (used + 2) start) (used + 2 + 1) (end - start)) e.3
          ∙ put-tag a.marks.now used kind count start (end - start) (attribute_marks xs)
          ∙ ap (λ (k : ℕ). sets a.marks.now used (kind ∷ k ∷ start ∷ (end - start) ∷ attribute_marks xs)) e.2,
      omega arith,
      omega (arith, e.4),
      e.5,
      omega (arith, e.4),
      omega (arith, e.4),
    )
