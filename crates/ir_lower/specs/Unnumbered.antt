-- What lowering gives, without the numbers of order 5.
--     unnumbered_lowered    the refusal, or the graph without its numbers
use Rattle.std.proofs.Math.Option.{Option, some, none}
use Rattle.ir_types.specs.Types.{TypeGraph}
use Rattle.ir_types.specs.Unnumbered.{unnumbered_graph}

unfoldable pub unnumbered_lowered : Option TypeGraph → Option TypeGraph
unnumbered_lowered none = none
unnumbered_lowered (some g) = some (unnumbered_graph g)
