-- Which texts are `unbounded`: the word with white space around it, or alone. It has no white space in it, so trimming gives it back whole. Assumes nothing.
use mathlib.Core.Path.{◌≡◌, refl}
use mathlib.Core.Logic.{◌↔◌}
use mathlib.Core.Bool.{true}
use Rattle.text.specs.Text.{Text, bytes, is, every}
use Rattle.text.specs.Trim.{is_solid, trimmed, Around}
use Rattle.text.specs.Unfold.{computes as texts}
use Rattle.text.proofs.Laws.Texts.{same_refl, same-eq}
use Rattle.text.proofs.Laws.Trim.{trimmed-exactly}
use Rattle.xsd_parser.specs.Handlers.{is_unbounded}

solid : every is_solid (bytes "unbounded") ≡ true
unfolding texts
solid = refl

pub unbounded-exactly : (v : Text) → (is_unbounded v ≡ true) ↔ Around (bytes "unbounded") v
unfolding is_unbounded is
unbounded-exactly v =
    let exactly = trimmed-exactly (bytes "unbounded") v solid in
    (λ e. exactly.0 (same-eq (trimmed v) (bytes "unbounded") e), λ a. rw (exactly.1 a) (same_refl (bytes "unbounded")))
