-- Named in docs/DESIGN-PASS.md. No contract cites it. Assumes nothing.
use mathlib.Core.Path.{◌≡◌}
use mathlib.Core.Bool.{true}
use Prim.Native.Nat.{◌≤◌}
use Rattle.xsd_types.specs.State.{State, proper}
use Rattle.xsd_parser.proofs.Laws.Steps.{proper-parts}

pub proper-tags : (s : State) → proper s ≡ true → s.open_tags ≤ 255
proper-tags s e = (proper-parts s e).tags
