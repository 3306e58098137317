-- Named in docs/PORT.md, as `is_text-names_of`: a text was bytes below 128 then. No contract cites it. Assumes nothing.
use mathlib.Core.Path.{◌≡◌, refl, ap₂, ◌∙◌}
use mathlib.Core.Bool.{◌&&◌}
use mathlib.Core.List.{List, [], ◌∷◌}
use Rattle.text.specs.Text.{every, join, is_plain}
use Rattle.text.proofs.Laws.Class.{plain-append}
use Rattle.text.proofs.Laws.Named.{is_plain-join}
use Rattle.sheet.specs.Rows.{Row, names_of}

pub is_plain-names_of : (rs : List Row) → is_plain (names_of rs) ≡ every (λ (r : Row). every is_plain r.texts) rs
unfolding names_of every is_plain
is_plain-names_of [] = refl
is_plain-names_of (r ∷ rs) = plain-append (join r.texts) (names_of rs) ∙ ap₂ ◌&&◌ (is_plain-join r.texts) (is_plain-names_of rs)
