-- Laws of the texts under a row's used pairs (`row_texts`). Assumes nothing.
use Rattle.std.specs.Prelude.{if◌then◌else◌}
use mathlib.Core.Path.{◌≡◌, refl, sym, ap, ◌∙◌}
use mathlib.Core.Bool.{Bool, true, ◌&&◌, and-true, and_assoc}
use mathlib.Core.List.{[], ◌∷◌}
use Prim.Native.Nat.{ℕ, zero, suc}
use native.Mathlib.Omega.{arith}
use lib.Dec.{leb}
use lib.ListN.{take}
use lib.Seq.{take-nil}
use borrow.Author.Tests.{le-leb}
use Rattle.text.specs.Text.{Text, every}
use Rattle.sheet.specs.Rows.{Ten, text_at, unpack_row}
use Rattle.rows.specs.Scan.{Tests, row_texts}

-- the first texts of three, asked one by one
pub used-three : (ok : Text → Bool) (a b c : Text) (used : ℕ)
    → (if leb 1 used then ok a else true) && (if leb 2 used then ok b else true) && (if leb 3 used then ok c else true) ≡ every ok (take used (a ∷ b ∷ c ∷ []))
unfolding every
used-three ok a b c zero = refl
used-three ok a b c (suc zero) = and-true (ok a && true)
used-three ok a b c (suc (suc zero)) = and-true (ok a && ok b) ∙ ap (λ (r : Bool). ok a && r) (sym (and-true (ok b)))
used-three ok a b c (suc (suc (suc n))) =
    let used = suc (suc (suc n)) in
    rw (le-leb 1 used (omega arith), le-leb 2 used (omega arith), le-leb 3 used (omega arith), take-nil {A = Text} n, and-true (ok c)) (and_assoc (ok a) (ok b) (ok c))

pub used-texts : (x : Tests) (names : Text) (t : Ten) {used : ℕ} {p q r : Bool} → used ≡ x.pairs t.tag t.a → p ≡ (if leb 1 used then x.text (text_at names t.at0 t.len0) else true)
    → q ≡ (if leb 2 used then x.text (text_at names t.at1 t.len1) else true) → r ≡ (if leb 3 used then x.text (text_at names t.at2 t.len2) else true) → p && q && r ≡ row_texts x names t
unfolding row_texts unpack_row
used-texts x names t {used} e p q r = rw (← e, p, q, r) (used-three x.text (text_at names t.at0 t.len0) (text_at names t.at1 t.len1) (text_at names t.at2 t.len2) used)
