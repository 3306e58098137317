-- The tag of a finished type's head is that of a head. Assumes nothing.
use Prim.Native.Nat.{ℕ}
use mathlib.Core.Path.{◌≡◌}
use mathlib.Core.Logic.{⊎_elim}
use mathlib.Core.Bool.{true}
use Rattle.std.proofs.lemmas.Bool.{or_cases}
use Rattle.xsd_types.specs.Good.{is_head}
use Rattle.ir_rows.specs.Types.{is_simple, is_complex, is_type}
use Rattle.ir_rows.proofs.Laws.Groups.{simple-head, complex-head}

pub type-head : (tag : ℕ) → is_type tag ≡ true → is_head tag ≡ true
unfolding is_type
type-head tag e = ⊎_elim (simple-head tag) (complex-head tag) (or_cases (is_simple tag) (is_complex tag) e)
