-- `xml_text::root::markup` meets its contract: the words of the definition, behind that of an end tag; where neither `<!` nor `<?` stands, none of the other words does. Assumes nothing.
use native.Mathlib.Omega.{arith}
use mathlib.Core.Path.{sym, ◌∙◌}
use lib.ListN.{drop}
use Rattle.text.specs.Text.{bytes}
use Rattle.text.proofs.Laws.Tests.{or-false-left, or-false-right}
use Rattle.xml.specs.Steps.{starts_with}
use Rattle.xml.specs.Root.{markup}
use Rattle.xml.proofs.Laws.Moves.{inside-text, comment-passes, section-passes, instruction-passes}
use Rattle.xml.proofs.Laws.Steps.{starts-longer}
use Rattle.xml_text.proofs.root.markup.Goals as goal

pub returns-then-not-is_marked : goal.returns-then-not-is_marked
unfolding markup bytes
returns-then-not-is_marked c =
    let s = drop c.args.at c.args.text.now in
    let e = sym c.is_marked.ensures ∙ c.if-not-is_marked.true in
    let f = or-false-left (starts_with (bytes "<!") s) (starts_with (bytes "<?") s) e in (
      rw (
        c.requires,
        starts-longer (bytes "<!") (bytes "--") s f,
        starts-longer (bytes "<!") (bytes "[CDATA[") s f,
        or-false-right (starts_with (bytes "<!") s)
            (starts_with (bytes "<?") s) e,
      ),
      omega arith,
    )

pub returns-in_err-comment : goal.returns-in_err-comment
unfolding markup bytes
returns-in_err-comment c = rw c.from_residual.ensures (rw (c.requires, sym c.starts.ensures ∙ c.if-starts.true, sym c.in_err-comment.ensures), tt)

pub returns-then-starts : goal.returns-then-starts
unfolding markup bytes
returns-then-starts c = (
  rw (c.requires, sym c.starts.ensures ∙ c.if-starts.true, sym c.in_ok-comment.ensures),
  inside-text comment-passes c.args.text.now c.args.at _ (sym c.in_ok-comment.ensures),
)

pub returns-in_err-section : goal.returns-in_err-section
unfolding markup bytes
returns-in_err-section c = rw c.from_residual-in_err-section.ensures
    (rw (c.requires, sym c.starts.ensures ∙ c.if-starts.false, sym c.starts-2.ensures ∙ c.if-starts-2.true, sym c.in_err-section.ensures), tt)

pub returns-then-starts-2 : goal.returns-then-starts-2
unfolding markup bytes
returns-then-starts-2 c = (
  rw (c.requires, sym c.starts.ensures ∙ c.if-starts.false, sym c.starts-2.ensures ∙ c.if-starts-2.true, sym c.in_ok-section.ensures),
  inside-text section-passes c.args.text.now c.args.at _ (sym c.in_ok-section.ensures),
)

pub returns-in_err-instruction : goal.returns-in_err-instruction
unfolding markup bytes
returns-in_err-instruction c = rw c.from_residual-in_err-instruction.ensures
    (rw (c.requires, sym c.starts.ensures ∙ c.if-starts.false, sym c.starts-2.ensures ∙ c.if-starts-2.false, sym c.starts-3.ensures ∙ c.if-starts-3.true, sym c.in_err-instruction.ensures), tt)

pub returns-then-starts-3 : goal.returns-then-starts-3
unfolding markup bytes
returns-then-starts-3 c = (
  rw (c.requires, sym c.starts.ensures ∙ c.if-starts.false, sym c.starts-2.ensures ∙ c.if-starts-2.false, sym c.starts-3.ensures ∙ c.if-starts-3.true, sym c.in_ok-instruction.ensures),
  inside-text instruction-passes c.args.text.now c.args.at _ (sym c.in_ok-instruction.ensures),
)

pub returns : goal.returns
unfolding markup bytes
returns c =
    (rw (c.requires, sym c.starts.ensures ∙ c.if-starts.false, sym c.starts-2.ensures ∙ c.if-starts-2.false, sym c.starts-3.ensures ∙ c.if-starts-3.false), omega arith)
