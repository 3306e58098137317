-- `names::characters::character` meets its contract: the byte behind decides. Assumes nothing.
use Rattle.std.proofs.Common.{sym, ◌∙◌}
use Rattle.text.proofs.Laws.Table.{part-from}
use Rattle.names.proofs.Laws.Characters.{tail-there, split-two, split-one}
use Rattle.names.proofs.characters.character.Goals as goal

pub slice_bounds-result-count : goal.slice_bounds-result-count
slice_bounds-result-count c = tail-there c.args.b _ c.args.rest.now c.byte_at-tail.ensures (sym c.is_two.ensures ∙ c.if-is_two.true)

pub slice_bounds-result-start : goal.slice_bounds-result-start
slice_bounds-result-start c = tail-there c.args.b _ c.args.rest.now c.byte_at-tail.ensures (sym c.is_two.ensures ∙ c.if-is_two.true)

pub returns-then-is_two : goal.returns-then-is_two
returns-then-is_two c = rw part-from (split-two c.args.b _ c.args.rest.now c.byte_at-tail.ensures (sym c.is_two.ensures ∙ c.if-is_two.true))

pub returns-else-is_two : goal.returns-else-is_two
returns-else-is_two c = split-one c.args.b _ c.args.rest.now c.byte_at-tail.ensures (sym c.is_two.ensures ∙ c.if-is_two.false)
