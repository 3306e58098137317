-- `number::parse_u64` meets its contract: a text that paper 01 takes keeps its value. Assumes nothing.
use Rattle.std.proofs.Common.{rules, tests}
use Rattle.number.proofs.Laws.Narrow.{plain-or}
use Rattle.number.proofs.parse_u64.Goals as goal

pub returns : goal.returns
returns c = plain-or _ c.parse_plain.result c.or_else.result c.args.s.now c.parse_plain.ensures c.or_else.ensures (λ h. search (rules, tests))
