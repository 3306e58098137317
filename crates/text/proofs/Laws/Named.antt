-- Named in docs/PORT.md. No contract cites them. Assumes nothing.
use mathlib.Core.Path.{◌≡◌, refl, ap, ◌∙◌}
use mathlib.Core.Logic.{◌⊎◌}
use mathlib.Core.Bool.{Bool, true, ◌&&◌, ◌||◌}
use mathlib.Core.List.{List, [], ◌∷◌}
use Rattle.text.specs.Text.{Text, every, join, is_plain}
use Rattle.text.proofs.Laws.Class.{plain-append}
use Rattle.std.proofs.lemmas.Bool.{or_left as left_holds, or_right as right_holds, or_cases as one_holds}

pub or_left : {a : Bool} (b : Bool) → a ≡ true → a || b ≡ true
or_left {a} b p = left_holds a b p

pub or_right : (a : Bool) {b : Bool} → b ≡ true → a || b ≡ true
or_right a {b} q = right_holds a b q

pub or_cases : (a b : Bool) → a || b ≡ true → (a ≡ true) ⊎ (b ≡ true)
or_cases a b e = one_holds a b e

-- texts put together are bytes below 128 exactly if each of them is (docs/PORT.md names it `is_text-join`: a text was bytes below 128 then)
pub is_plain-join : (ts : List Text) → is_plain (join ts) ≡ every is_plain ts
unfolding is_plain every join
is_plain-join [] = refl
is_plain-join (t ∷ ts) = plain-append t (join ts) ∙ ap (λ (b : Bool). is_plain t && b) (is_plain-join ts)
