-- `xml_parts::steps::is_xml` meets its contract: three bytes, each in either case. Assumes nothing.
use Prim.Native.Nat.{ℕ}
use mathlib.Core.Path.{◌≡◌, refl, sym, ap, ◌∙◌}
use mathlib.Core.List.{[], ◌∷◌, map}
use mathlib.Core.Bool.{Bool, true, false, false≢true}
use native.Mathlib.Omega.{arith}
use borrow.Author.Tests.{eq-eqb, eqb-true}
use lib.ListN.{length}
use Rattle.std.specs.Prelude.{IsTrue, ◌↔◌}
use Rattle.std.specs.Char.{to_ascii_lowercase}
use Rattle.text.specs.Text.{Text, lower_byte}
use Rattle.text.proofs.Laws.Std.{lower_is}
use Rattle.std.proofs.lemmas.Bool.{false_from_ne_true}
use Rattle.text.proofs.Laws.Tests.{three}
use Rattle.xml.specs.Grammar.{is_xml}
use Rattle.xml_parts.proofs.steps.is_xml.Goals as goal

from : (s : Text) → map to_ascii_lowercase s ≡ 120 ∷ 109 ∷ 108 ∷ [] → is_xml s ≡ true
unfolding is_xml
from [] e = let z : ◌≡◌ {A = ℕ} 0 3 = ap length e in absurd (omega arith)
from (a ∷ []) e = let z : ◌≡◌ {A = ℕ} 1 3 = ap length e in absurd (omega arith)
from (a ∷ b ∷ []) e = let z : ◌≡◌ {A = ℕ} 2 3 = ap length e in absurd (omega arith)
from (a ∷ b ∷ c ∷ []) e =
    let x : to_ascii_lowercase a ≡ 120 = cc in
    let m : to_ascii_lowercase b ≡ 109 = cc in
    let l : to_ascii_lowercase c ≡ 108 = cc in
    rw (eq-eqb _ _ (sym (lower_is a) ∙ x), eq-eqb _ _ (sym (lower_is b) ∙ m), eq-eqb _ _ (sym (lower_is c) ∙ l))
from (a ∷ b ∷ c ∷ d ∷ s) e = absurd (omega (arith, ap length e))

to : (s : Text) → is_xml s ≡ true → map to_ascii_lowercase s ≡ 120 ∷ 109 ∷ 108 ∷ []
unfolding is_xml
to [] e = absurd (false≢true e)
to (a ∷ []) e = absurd (false≢true e)
to (a ∷ b ∷ []) e = absurd (false≢true e)
to (a ∷ b ∷ c ∷ []) e =
    let t = three _ _ _ e in
    let x = lower_is a ∙ eqb-true (lower_byte a) 120 t.0 in
    let m = lower_is b ∙ eqb-true (lower_byte b) 109 t.1 in
    let l = lower_is c ∙ eqb-true (lower_byte c) 108 t.2 in
    rw (x, m, l)
to (a ∷ b ∷ c ∷ d ∷ s) e = absurd (false≢true e)

both : (r : Bool) (s : Text) → (IsTrue r ↔ (map to_ascii_lowercase s ≡ 120 ∷ 109 ∷ 108 ∷ [])) → r ≡ is_xml s
both true s h = sym (from s (h.0 refl))
both false s h = sym (false_from_ne_true (is_xml s) (λ e. false≢true (h.1 (to s e))))

pub returns : goal.returns
returns c = both c.eq_ignore_ascii_case.result c.args.name.now c.eq_ignore_ascii_case.ensures.test
