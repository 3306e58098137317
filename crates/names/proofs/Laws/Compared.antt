-- What `eq` answers of two iterators whose states show the texts that are left: whether those are the same. Assumes nothing.
use Rattle.std.specs.Prelude.{ℕ, ◌≡◌, Option, Some, None, MatchOption, IfSome, Bool, true, false, nat_eq, List, [], ◌∷◌}
use Rattle.std.specs.Iterator.{Yields, YieldsFirst, ComparesItemsByEq}
use Rattle.std.specs.List.{AllZip}
use Rattle.text.specs.Text.{Text, same}

module _ {S : Type 0} (rest : S → Text) (r : Bool) where
  -- the last answers of the two: both ended, one did, or two bytes differ
  ends : (o p : Option ℕ) (s t u v : S) → YieldsFirst rest s o u → YieldsFirst rest t p v
      → MatchOption o (MatchOption p (r ≡ true) (λ _. r ≡ false)) (λ x. (r ≡ false) × IfSome p (λ y. nat_eq x y ≡ false)) → r ≡ same (rest s) (rest t)
  unfolding same
  ends None None s t u v e f h = rw (e.0, f.0) h
  ends None (Some y) s t u v e f h = rw (e.0, f) h
  ends (Some x) None s t u v e f h = rw (e, f.0) h.0
  ends (Some x) (Some y) s t u v e f h = rw (e, f, h.1) h.0

  -- the bytes before are equal
  zipped : (xs ys : List ℕ) (s t j k : S) → Yields (YieldsFirst rest) s xs j → Yields (YieldsFirst rest) t ys k → AllZip (λ x y. nat_eq x y ≡ true) xs ys
      → r ≡ same (rest j) (rest k) → r ≡ same (rest s) (rest t)
  unfolding same
  zipped [] [] s t j k e f z h = rw (e, f) h
  zipped [] (y ∷ ys) s t j k e f z h = absurd z
  zipped (x ∷ xs) [] s t j k e f z h = absurd z
  zipped (x ∷ xs) (y ∷ ys) s t j k e f z h = rw (e.1, f.1, z.0) (zipped xs ys e.0 f.0 j k e.2 f.2 z.1 h)

  pub compared : (s t : S) → ComparesItemsByEq (YieldsFirst rest) (λ (u : S) v. v ≡ u) (YieldsFirst rest) s t nat_eq r → r ≡ same (rest s) (rest t)
  compared s t (it, xs, ys, o, p, u, v, e, f, g, z, h) = rw e at (zipped xs ys s it f.0 g.0 f.1 g.1 z (ends o p f.0 g.0 u v f.2 g.2 h))
