-- `ir_row::child` meets its contract: by what `reference_text` ensures. Assumes nothing.
use Rattle.std.specs.Prelude.{Option, Some}
use mathlib.Core.Path.{ap}
use Rattle.ir_append.specs.declared.Spelling.{Spelling}
use Rattle.ir_row.proofs.child.Goals as goal

pub returns : goal.returns
returns c = ap (λ (s : Option Spelling). record {
  tag = c.args.tag;
  a = c.args.reference;
  b = c.args.b;
  c = c.args.c;
  first = Some Spelling.First;
  second = Some c.args.second;
  third = s;
}) c.reference_text-third.ensures
