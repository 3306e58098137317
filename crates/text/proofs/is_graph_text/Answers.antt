-- `text::is_graph_text` meets its contract: a plain text is a text of a graph. Assumes nothing.
use Rattle.std.proofs.Common.{sym, ◌∙◌}
use Rattle.text.proofs.Laws.Class.{plain-graph-text}
use Rattle.text.proofs.is_graph_text.Goals as goal

pub returns-then-is_plain : goal.returns-then-is_plain
returns-then-is_plain c = c.if-is_plain.true ∙ sym (plain-graph-text c.args.s.now (sym c.is_plain.ensures ∙ c.if-is_plain.true))
