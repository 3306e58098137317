-- Named in docs/PORT.md. No contract cites them. Assumes nothing.
use Rattle.std.specs.Prelude.{Option, Some}
use Prim.Native.Nat.{ℕ, zero, suc, ◌≤◌}
use mathlib.Core.Path.{◌≡◌, refl}
use mathlib.Core.Bool.{false}
use mathlib.Core.List.{List}
use native.Mathlib.Omega.{arith}
use Rattle.text.specs.Text.{Text}
use Rattle.xml.specs.Grammar.{is_among}
use Rattle.xml.specs.Root.{Level}
use Rattle.xml_text.specs.declared.onward.Onward.{Onward}
use Rattle.xml_text.specs.Answers.{names_up_to, GoesOn}

pub among_none : (n text : Text) (slots : List ℕ) (k : ℕ) → k ≤ 0 → is_among n (names_up_to text slots k) ≡ false
unfolding is_among names_up_to
among_none n text slots zero h = refl
among_none n text slots (suc k) h = absurd (omega arith)

pub goes_on : (text : Text) (at : ℕ) (slots marks : List ℕ) (used : ℕ) (after : List ℕ) {m : Option Onward} {d : Level} {o : Onward} → m ≡ Some o
    → GoesOn text at slots marks used after m d → GoesOn text at slots marks used after (Some o) d
goes_on text at slots marks used after t p = rw t at p
