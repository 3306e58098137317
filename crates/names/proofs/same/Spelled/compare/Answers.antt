-- `names::same::Spelled::compare` meets its contract: the two names give their bytes one by one. Assumes nothing.
use Rattle.std.proofs.Common.{◌≡◌, refl, ap, ◌∙◌}
use Rattle.std.specs.Ordering.{nat_cmp}
use Rattle.std.proofs.lemmas.Iterator.Search.{cmp_from_yields_List}
use Rattle.std.proofs.lemmas.Iterator.Consumers.{YieldsList-from_first}
use Rattle.names.specs.Same.{bytes_left}
use Rattle.names.specs.declared.segments.SegmentBytes.{SegmentBytes}
use Rattle.names.proofs.same.Spelled.compare.Goals as goal

pub returns : goal.returns
returns c =
    cmp_from_yields_List (λ (a : SegmentBytes) b. b ≡ a) c.bytes-2.result nat_cmp c.cmp.result c.cmp.ensures.ran
    (YieldsList-from_first (λ b. b) bytes_left _ c.bytes.ensures) (λ it e. YieldsList-from_first (λ b. b) bytes_left _ (ap bytes_left e ∙ c.bytes-2.ensures)) (λ x y. refl)
