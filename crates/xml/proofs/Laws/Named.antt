-- Named in docs/DESIGN-PASS.md: `xml` in any case is asked of three bytes. No contract cites them. Assumes nothing.
use mathlib.Core.Path.{◌≡◌, refl}
use mathlib.Core.Bool.{false, ◌&&◌}
use mathlib.Core.List.{[], ◌∷◌}
use native.Mathlib.Omega.{arith}
use lib.Dec.{eqb}
use lib.ListN.{length, get_or}
use Rattle.text.specs.Text.{Text, lower_byte}
use Rattle.xml.specs.Grammar.{is_xml}

pub xml-three : (s : Text) → length s ≡ 3 → is_xml s ≡ eqb (lower_byte (get_or s 0 0)) 120 && eqb (lower_byte (get_or s 1 0)) 109 && eqb (lower_byte (get_or s 2 0)) 108
unfolding is_xml
xml-three [] h = absurd (omega arith)
xml-three (a ∷ []) h = absurd (omega arith)
xml-three (a ∷ b ∷ []) h = absurd (omega arith)
xml-three (a ∷ b ∷ c ∷ []) h = refl
xml-three (a ∷ b ∷ c ∷ d ∷ s) h = absurd (omega arith)

pub xml-other : (s : Text) → (length s ≡ 3 → ⊥) → is_xml s ≡ false
unfolding is_xml
xml-other [] h = refl
xml-other (a ∷ []) h = refl
xml-other (a ∷ b ∷ []) h = refl
xml-other (a ∷ b ∷ c ∷ []) h = absurd (h refl)
xml-other (a ∷ b ∷ c ∷ d ∷ s) h = refl
