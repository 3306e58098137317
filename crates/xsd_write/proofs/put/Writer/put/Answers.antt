-- `xsd_write::put::Writer::put` meets its contract. Assumes nothing.
use native.Mathlib.Omega.{arith}
use mathlib.Core.Path.{◌≡◌, refl, sym, ap, ◌∙◌}
use mathlib.Core.List.{List, ◌++◌}
use Prim.Native.Nat.{ℕ, ◌+◌, ◌-◌, ◌≤◌}
use native.Mathlib.Nat.{le_refl}
use lib.ListN.{length, take, drop}
use lib.Seq.{sets, sets-eq, take_all, paste}
use Rattle.std.proofs.lemmas.Slice.{put_mid-paste}
use borrow.Rule.Slice.PartMut.{same_len_mid}
use Rattle.xsd_write.proofs.put.Writer.put.Goals as goal

paste-sets : (o : List ℕ) (at : ℕ) (t : List ℕ) → at + length t ≤ length o → paste o at t (length t) ≡ sets o at t
paste-sets o at t h = ap (λ (x : List ℕ). take at o ++ x ++ drop (at + length t) o) (take_all (length t) t (le_refl (length t))) ∙ sym (sets-eq t o at h)

pub returns-then-self : goal.returns-then-self
returns-then-self c = record { same = refl; puts = record { kept = refl; fits = λ h. absurd (omega arith); past = λ h. c.if-self.true } }

pub returns-then-self-part : goal.returns-then-self-part
returns-then-self-part c = record { same = refl; puts = record { kept = refl; fits = λ h. absurd (omega arith); past = λ h. omega arith } }

pub returns : goal.returns
returns c =
    let out = c.args.self.now.out.now in
    let at = c.args.self.now.at in
    let part = c.args.part.now in
    let copy = c.copy_bytes.ensures in
    let n = length part in
    let h : at + n ≤ length out = omega arith in
    let long : n ≡ at + n - at = omega arith in
    let e = put_mid-paste at (at + n - at) out _ part n copy long refl ∙ paste-sets out at part h in
    record { same = refl; puts = record { kept = same_len_mid at (at + n - at) out _ c.copy_bytes.auto.out; fits = λ _. (refl, e); past = λ k. absurd (omega arith) } }
