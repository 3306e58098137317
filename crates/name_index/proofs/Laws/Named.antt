-- Named in docs/PORT.md. No contract cites it. Assumes nothing.
use Prim.Native.Nat.{ℕ}
use mathlib.Core.Path.{◌≡◌}
use mathlib.Core.Bool.{Bool}
use mathlib.Core.List.{List}
use Rattle.text.specs.Text.{Text}
use Rattle.names.specs.Same.{spelled}
use Rattle.name_index.specs.Index.{head_name, spelled_name_at}

pub own_name : (rows names : List ℕ) (normalised : Bool) {held : Text} (p : ℕ) → held ≡ head_name rows names p → spelled normalised held ≡ spelled_name_at rows names normalised p
unfolding spelled_name_at
own_name rows names normalised p h = rw h
