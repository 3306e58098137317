-- What a writer of the conversions of 001 answers, and what the lent part holds afterwards.
--     written t n   a writer's answer for the text t and a part of n bytes: how many bytes t has, or None where they do not fit
--     placed t p    what the lent part p holds afterwards: the bytes of t as far as p reaches, and behind them what p held.
--                   So after "no room" p holds the first bytes of t, as many as p has
--     PutByte       the answer and the part after a call that was to put a byte at a place
--     Put           the answer and the part after a call that was to write the text t
use Rattle.std.specs.Prelude.{ℕ, ◌+◌, ◌≤◌, ◌<◌, Option, Some, None, MatchOption, ◌≡◌, List, ◌++◌, leb, length, take, drop, set, if◌then◌else◌}
use Rattle.text.specs.Text.{Text}

unfoldable pub written : Text → ℕ → Option ℕ
written t n = if leb (length t) n then Some (length t) else None

unfoldable pub placed : Text → List ℕ → List ℕ
placed t part = take (length part) t ++ drop (length t) part

-- the place behind the byte, which stands there now; or None where the part ends before it, and stays as it was
abbrev pub PutByte : List ℕ → ℕ → ℕ → Option ℕ → List ℕ → Type 0
PutByte before at b answer after =
    MatchOption answer ((length before ≤ at) × (after ≡ before)) (λ n. (at < length before) × (n ≡ at + 1) × (after ≡ set before at b))

pub record Put (t before : List ℕ) (answer : Option ℕ) (after : List ℕ) : Type 0 where
  pub counted : answer ≡ written t (length before)
  pub holds : after ≡ placed t before
