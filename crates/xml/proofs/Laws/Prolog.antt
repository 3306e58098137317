-- Laws of what stands around the root (specs/Prolog.antt). Assumes nothing.
use Prim.Native.Nat.{ℕ, suc, ◌≤◌, ◌<◌}
use mathlib.Core.Path.{◌≡◌}
use mathlib.Core.List.{[], ◌∷◌}
use mathlib.Core.Bool.{true, false}
use lib.ListN.{length, get_or, drop, drop_of_length-le}
use lib.Seq.{drop-cons}
use Rattle.text.specs.Text.{Text}
use Rattle.xml.specs.Steps.{Step, bad, ◌and_then◌, literal}
use Rattle.xml.specs.Values.{is_quote}
use Rattle.xml.specs.Prolog.{quoted}

pub quoted-past : (body : ℕ → Text → Step) (s : Text) (at i : ℕ) → length s ≤ i → quoted body at (drop i s) ≡ bad
unfolding quoted
quoted-past body s at i h = rw (drop_of_length-le s h)

pub quoted-wrong : (body : ℕ → Text → Step) (s : Text) (at i : ℕ) → i < length s → is_quote (get_or s i 0) ≡ false → quoted body at (drop i s) ≡ bad
unfolding quoted
quoted-wrong body s at i h e = rw (drop-cons s i 0 h, e)

pub quoted-on : (body : ℕ → Text → Step) (s : Text) (at i : ℕ) → i < length s → is_quote (get_or s i 0) ≡ true
    → quoted body at (drop i s) ≡ body (suc at) (drop (suc i) s) and_then literal (get_or s i 0 ∷ [])
unfolding quoted
quoted-on body s at i h e = rw (drop-cons s i 0 h, e)
