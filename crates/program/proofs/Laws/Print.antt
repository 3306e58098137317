-- Laws of a sheet as it is printed. Assumes nothing.
use Prim.Native.Nat.{ℕ, zero, suc, ◌+◌, ◌<◌, ◌≤◌, min}
use mathlib.Core.Path.{◌≡◌, refl, ap, sym, subst, ◌∙◌}
use mathlib.Core.List.{List, [], ◌∷◌, ◌++◌, append_assoc}
use native.Mathlib.Omega.{arith}
use lib.ListN.{length, get_or, take, drop}
use Rattle.std.proofs.Common.{append-nil, add-one, length-append}
use Rattle.std.proofs.lemmas.List.{take_all, drop_all, take_at, drop_at}
use Rattle.std.proofs.KnownBytes.{Appends-trans}
use Rattle.std.specs.Fmt.{decimal}
use Rattle.std.specs.Io.KnownBytes.{Appends}
use Rattle.std.specs.declared.option.Option.{Option}
use Rattle.std.specs.declared.result.Result.{Result}
use Rattle.std.specs.Prelude.{Ok, Err, OnOk}
use Rattle.text.specs.Text.{Text}
use Rattle.program.specs.Print.{gap, numbers_text, printed_rows}

-- two texts written one after the other
pub written-more : (a b c : Option (List ℕ)) (first more all : Text) → Appends a b first → Appends b c more → all ≡ first ++ more → Appends a c all
written-more a b c first more all p q e = subst (Appends a c) (sym e) (Appends-trans a b c first more p q)

-- the same, where the second writing is the last
pub written-last : {E : Type 0} (r : Result (Unit {0}) E) (a b c : Option (List ℕ)) (first more all : Text) → Appends a b first → OnOk r (Appends b c more) → all ≡ first ++ more
    → OnOk r (Appends a c all)
written-last (Ok u) a b c first more all p q e = written-more a b c first more all p q e
written-last (Err e') a b c first more all p q e = tt

-- a text that is whole, cut at another place
pub recut : (done next rest before all : Text) → before ≡ next ++ rest → done ++ before ≡ all → (done ++ next) ++ rest ≡ all
recut done next rest before all e whole = append_assoc done next rest ∙ ap (λ t. done ++ t) (sym e) ∙ whole

-- a number more of a row
pub numbers-step : (at k place : ℕ) (row : List ℕ) → k < length row → place ≡ at + k
    → numbers_text at (take (suc k) row) ≡ numbers_text at (take k row) ++ (decimal (get_or row k 0) ++ gap place)
unfolding numbers_text
numbers-step at k place [] inside e = absurd (omega arith)
numbers-step at zero place (n ∷ row) inside e =
    let same : place ≡ at = omega (arith, e) in rw same (append-nil (decimal n ++ gap at))
numbers-step at (suc k) place (n ∷ row) inside e =
    let first = decimal n ++ gap at in
    let before = numbers_text (suc at) (take k row) in
    let last = decimal (get_or row k 0) ++ gap place in
    ap (λ t. first ++ t) (numbers-step (suc at) k place row (omega arith) (omega arith)) ∙ sym (append_assoc first before last)

-- a row of ten numbers, or of all that there are, and what is behind it
row-cut : (row rest : List ℕ) → length row ≡ min 10 (length (row ++ rest)) → (take 10 (row ++ rest) ≡ row) × (drop 10 (row ++ rest) ≡ rest)
row-cut row [] l = rw (append-nil row) (let all : length row ≤ 10 = omega (arith, l) in (take_all 10 row all, drop_all 10 row all))
row-cut row (n ∷ rest) l = let ten : length row ≡ 10 = omega (arith, l, length-append row (n ∷ rest)) in (take_at row (n ∷ rest) 10 ten, drop_at row (n ∷ rest) 10 ten)

-- the first row, and the rows behind it
pub rows-step : (n n' : ℕ) (rest row rest' : List ℕ) → rest ≡ row ++ rest' → length row ≡ min 10 (length rest) → n' + 1 ≡ n
    → printed_rows n rest ≡ numbers_text 0 row ++ printed_rows n' rest'
unfolding printed_rows
rows-step n n' rest row rest' e l more =
    let cut = row-cut row rest' (subst (λ s. length row ≡ min 10 (length s)) e l) in
    rw (← more, add-one, e, cut.0, cut.1) refl

-- no row is left
pub rows-end : (n : ℕ) (rest : List ℕ) → (0 < n → length rest ≡ 0) → printed_rows n rest ≡ []
unfolding printed_rows numbers_text
rows-end zero rest none = refl
rows-end (suc n) [] none = rows-end n [] (λ _. refl)
rows-end (suc n) (x ∷ rest) none = absurd (omega (arith, none (omega arith)))
