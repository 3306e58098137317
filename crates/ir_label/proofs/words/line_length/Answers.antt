-- `ir_label::words::line_length` meets its contract: the first line ends at the first newline byte. Assumes nothing.
use Rattle.std.proofs.Common.{rules, ◌∙◌}
use Rattle.std.proofs.lemmas.Iterator.{YieldsList-from_slice}
use Rattle.std.proofs.lemmas.Iterator.Search.{position_from_yields_List}
use Prim.Native.Nat.{ℕ}
use lib.Dec.{eqb}
use lib.ListN.{length}
use Rattle.ir_label.specs.Lines.{line_length}
use Rattle.ir_label.proofs.Laws.Lines.{line-place, line-bound, place-or-end}
use Rattle.ir_label.proofs.words.line_length.Goals as goal

pub returns : goal.returns
returns c =
    let s = c.args.line.now in
    let found = position_from_yields_List (λ (b : ℕ). eqb b 10) _ _ c.position.result c.position.ensures.ran (YieldsList-from_slice s (cc)) (λ x b q k. search rules) in
    c.unwrap_or.ensures ∙ rw (found, line-place s) (place-or-end (line_length s) (length s) (line-bound s))
