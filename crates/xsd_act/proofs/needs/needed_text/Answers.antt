-- `xsd_act::needs::needed_text` meets its contract: the old text's bytes are given up, the new one's taken. Assumes nothing.
use Prim.Native.Nat.{ℕ, ◌+◌, ◌-◌}
use mathlib.Core.Path.{refl, ap}
use mathlib.Core.List.{List}
use native.Mathlib.Omega.{arith}
use lib.ListN.{length}
use Rattle.rows.specs.declared.numbers.Used.{Used}
use Rattle.xsd_act.specs.Needs.{TextSeen}
use Rattle.xsd_replace.proofs.Laws.Spot.{SpotNumbers, spot-numbers}
use Rattle.xsd_act.proofs.needs.needed_text.Goals as goal

facts : {rows : List ℕ} {used : Used} {place pair : ℕ} (t : TextSeen rows used place pair) → SpotNumbers rows t.names used place pair t.spot
facts t = spot-numbers t.text

pub text_length-old-requires : goal.text_length-old-requires
text_length-old-requires c = omega (arith, facts c.requires.text_seen)

pub overflow_sub-result : goal.overflow_sub-result
overflow_sub-result c =
    omega (arith, facts c.requires.text_seen, c.text_length-old.ensures _ _ _ c.requires.text_seen.text)

pub returns : goal.returns
returns c =
    let a = c.args in
    record { same_rows = refl; held = omega arith; bytes = λ names x h. ap (λ (n : ℕ). a.used.names - n + length a.new.now) (c.text_length-old.ensures names a.used x h) }
