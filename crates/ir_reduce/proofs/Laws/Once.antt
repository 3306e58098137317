-- The answer is one: two results of the relation are equal. By cases: a test is not both true and false, and there is one reduced graph. Assumes nothing.
use mathlib.Core.Path.{◌≡◌, refl, sym, ◌∙◌}
use Rattle.sheet.specs.Rows.{Sheet}
use Rattle.sheet.specs.Lengths.{Answer}
use Rattle.ir_reduce.specs.Groups.{Parted}
use Rattle.ir_reduce.specs.Reach.{Reduced}
use Rattle.ir_reduce.specs.Call.{Reduction}
use Rattle.ir_reduce.proofs.Laws.Reach.{kept-once}
use Rattle.std.proofs.lemmas.Bool.{both_ways}

pub reduced-once : {p q r : Parted} → Reduced p q → Reduced p r → q ≡ r
reduced-once {p} {q} {r} v w =
    let types = kept-once v.types w.types in
    let front = v.front ∙ sym w.front in
    λ i. record { front = front i; types = types i }

pub reduction-once : {x target y z : Sheet} {a b : Answer} → Reduction x target a y → Reduction x target b z → (a ≡ b) × (y ≡ z)
reduction-once (Reduction.bad_lengths l) (Reduction.bad_lengths k) = (refl, refl)
reduction-once (Reduction.bad_lengths l) (Reduction.no_form k f) = absurd (both_ways _ l k)
reduction-once (Reduction.bad_lengths l) (Reduction.tight k f q w t) = absurd (both_ways _ l k)
reduction-once (Reduction.bad_lengths l) (Reduction.fitting k f q w t) = absurd (both_ways _ l k)
reduction-once (Reduction.no_form l f) (Reduction.bad_lengths k) = absurd (both_ways _ k l)
reduction-once (Reduction.no_form l f) (Reduction.no_form k g) = (refl, refl)
reduction-once (Reduction.no_form l f) (Reduction.tight k g q w t) = absurd (both_ways _ f g)
reduction-once (Reduction.no_form l f) (Reduction.fitting k g q w t) = absurd (both_ways _ f g)
reduction-once (Reduction.tight l f q w t) (Reduction.bad_lengths k) = absurd (both_ways _ k l)
reduction-once (Reduction.tight l f q w t) (Reduction.no_form k g) = absurd (both_ways _ g f)
reduction-once (Reduction.tight l f q w t) (Reduction.tight k g r v u) = (refl, refl)
reduction-once {x} {target} (Reduction.tight l f q w t) (Reduction.fitting k g r v u) = absurd (both_ways _ t (rw (reduced-once w v) u))
reduction-once (Reduction.fitting l f q w t) (Reduction.bad_lengths k) = absurd (both_ways _ k l)
reduction-once (Reduction.fitting l f q w t) (Reduction.no_form k g) = absurd (both_ways _ g f)
reduction-once {x} {target} (Reduction.fitting l f q w t) (Reduction.tight k g r v u) = absurd (both_ways _ (rw (reduced-once w v) u) t)
reduction-once {x} {target} (Reduction.fitting l f q w t) (Reduction.fitting k g r v u) = rw (reduced-once w v) (refl, refl)
