-- Laws of tests: `◌&&◌`, `◌||◌` and `if◌then◌else◌`. Assumes nothing.
use Rattle.std.specs.Prelude.{if◌then◌else◌}
use mathlib.Core.Path.{◌≡◌, refl, sym, ◌∙◌}
use mathlib.Core.Bool.{Bool, true, false, ◌&&◌, ◌||◌, false≢true}
use Rattle.std.proofs.lemmas.Bool.{and_parts, or_parts, and_from}

-- std's `and_parts`, `or_parts` and `and_from`, a half at a time and with the tests left out: of some 1,200 citations each would be longer by `( ).0` or `_ _`
pub and-true-left : (a b : Bool) → a && b ≡ true → a ≡ true
and-true-left a b e = (and_parts a b e).0

pub and-true-right : (a b : Bool) → a && b ≡ true → b ≡ true
and-true-right a b e = (and_parts a b e).1

pub or-false-left : (a b : Bool) → a || b ≡ false → a ≡ false
or-false-left a b e = (or_parts a b e).0

pub or-false-right : (a b : Bool) → a || b ≡ false → b ≡ false
or-false-right a b e = (or_parts a b e).1

pub and-true : {a b : Bool} → a ≡ true → b ≡ true → a && b ≡ true
and-true {a} {b} e f = and_from a b e f

-- what holds of both arms of a test holds of the test
pub if-cases : {A : Type 0} (P : A → Type 0) (t : Bool) {x y : A} → (t ≡ true → P x) → (t ≡ false → P y) → P (if t then x else y)
if-cases P true h k = h refl
if-cases P false h k = k refl

-- two tests of one condition are equal arm by arm
pub if-in : {A B : Type 0} (f : A → B) (t : Bool) {x y : A} {p q : B} → f x ≡ p → f y ≡ q → f (if t then x else y) ≡ (if t then p else q)
if-in f true e g = e
if-in f false e g = g

-- all of three, four, six or eleven tests hold
pub three : (a b c : Bool) → a && b && c ≡ true → (a ≡ true) × (b ≡ true) × (c ≡ true)
three true true c w = (refl, refl, w)
three false b c w = absurd (false≢true w)
three true false c w = absurd (false≢true w)

pub four : (a b c d : Bool) → a && b && c && d ≡ true → (a ≡ true) × (b ≡ true) × (c ≡ true) × (d ≡ true)
four true true true d w = (refl, refl, refl, w)
four false b c d w = absurd (false≢true w)
four true false c d w = absurd (false≢true w)
four true true false d w = absurd (false≢true w)

pub six : (a b c d e f : Bool) → a && b && c && d && e && f ≡ true → (a ≡ true) × (b ≡ true) × (c ≡ true) × (d ≡ true) × (e ≡ true) × (f ≡ true)
six true true true true true f w = (refl, refl, refl, refl, refl, w)
six false b c d e f w = absurd (false≢true w)
six true false c d e f w = absurd (false≢true w)
six true true false d e f w = absurd (false≢true w)
six true true true false e f w = absurd (false≢true w)
six true true true true false f w = absurd (false≢true w)

pub eleven : (a b c d e f g h i j k : Bool) → a && b && c && d && e && f && g && h && i && j && k ≡ true
    → (a ≡ true) × (b ≡ true) × (c ≡ true) × (d ≡ true) × (e ≡ true) × (f ≡ true) × (g ≡ true) × (h ≡ true) × (i ≡ true) × (j ≡ true) × (k ≡ true)
eleven a b c d e f g h i j k w =
    let v = six (a && b && c && d && e && f) g h i j k w in
    let u = six a b c d e f v.0 in
    (u.0, u.1, u.2, u.3, u.4, u.5, v.1, v.2, v.3, v.4, v.5)

-- the last of six tests, where the first, the third and the fourth hold
pub sixth-under : (a b c d e : Bool) {p q : Bool} → (a ≡ true → c ≡ true → d ≡ true → p ≡ q) → a && b && c && d && e && p ≡ a && b && c && d && e && q
sixth-under false b c d e h = refl
sixth-under true false c d e h = refl
sixth-under true true false d e h = refl
sixth-under true true true false e h = refl
sixth-under true true true true false h = refl
sixth-under true true true true true h = h refl refl refl

-- one of four tests holds
pub or_four : {C : Type 0} (a b c d : Bool) → a || b || c || d ≡ true → (a ≡ true → C) → (b ≡ true → C) → (c ≡ true → C) → (d ≡ true → C) → C
or_four true b c d e f g h k = f refl
or_four false true c d e f g h k = g refl
or_four false false true d e f g h k = h refl
or_four false false false d e f g h k = k e

-- a disjunction that holds though its right side fails
pub or-true-left : (a b : Bool) → a || b ≡ true → b ≡ false → a ≡ true
or-true-left true b e h = refl
or-true-left false b e h = absurd (false≢true (sym h ∙ e))

-- by the cases of a test
pub bool_cases : {C : Type 0} (b : Bool) → (b ≡ true → C) → (b ≡ false → C) → C
bool_cases true f g = f refl
bool_cases false f g = g refl

-- the first test kept, the second replaced by what follows from it
pub keep_left : (a b c : Bool) → a && b ≡ true → (b ≡ true → c ≡ true) → a && c ≡ true
keep_left a b c h f = and-true (and-true-left a b h) (f (and-true-right a b h))

-- a test of either arm
pub if-keeps : {A : Type 0} (p : A → Bool) (b : Bool) {x y : A} → (b ≡ true → p x ≡ true) → (b ≡ false → p y ≡ true) → p (if b then x else y) ≡ true
if-keeps p b h k = if-cases (λ x. p x ≡ true) b h k

pub if-either : {A : Type 0} (P : A → Type 0) (b : Bool) {x y : A} → P x → P y → P (if b then x else y)
if-either P b p q = if-cases P b (λ e. p) (λ e. q)
