-- Named in docs/PORT.md. No contract cites it. Assumes nothing.
use Rattle.std.specs.Prelude.{ℕ, ◌≡◌, refl, Option, Some, None, is_none, []}
use Rattle.std.specs.Iterator.{YieldsFirst}
use Rattle.text.specs.Text.{Text, same}

-- one of two names has ended: they are the same where the other has
pub same_ended : {S : Type 0} (rest : S → Text) (s t : S) (r : Option ℕ) → YieldsFirst rest s r t → same [] (rest s) ≡ is_none r
unfolding same
same_ended rest s t None e = rw e.0 refl
same_ended rest s t (Some b) e = rw e refl
