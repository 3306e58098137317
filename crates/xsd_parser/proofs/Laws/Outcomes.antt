-- What an outcome gives. Assumes nothing.
--     Gives P Q o   the outcome o is a value with P or a refusal with Q
--     Kept p o      a value, if the outcome is one, passes the test p
use Rattle.std.specs.Prelude.{if◌then◌else◌}
use mathlib.Core.Path.{◌≡◌, refl, subst}
use mathlib.Core.Bool.{Bool, true, false}
use mathlib.Core.Option.{Option, some, none}
use Prim.Native.Nat.{ℕ}
use native.Mathlib.Omega.{arith}
use Rattle.text.specs.Text.{Text}
use Rattle.number.specs.Number.{Parsed, parsed, refused}
use Rattle.xsd_types.specs.Types.{Facet}
use Rattle.xsd_parser.specs.declared.words.FacetWord.{FacetWord}
use Rattle.xsd_parser.specs.Seen.{Seen}
use Rattle.xsd_parser.specs.Handlers.{Outcome, ok, refuse, ◌and_then◌, on_parsed, require_name, facet_by_word, on_facet}

pub data Gives {A : Type 0} (P : A → Type 0) (Q : ℕ → Type 0) : Outcome A → Type 0 where
  value : {x : A} → P x → Gives P Q (ok x)
  refusal : {r : ℕ} → Q r → Gives P Q (refuse r)

abbrev pub Any : {A : Type 0} → A → Type 0
Any x = Unit {0}

abbrev pub Kept : {A : Type 0} → (A → Bool) → Outcome A → Type 0
Kept p o = Gives (λ x. p x ≡ true) Any o

pub gives-if : {A : Type 0} {P : A → Type 0} {Q : ℕ → Type 0} (b : Bool) {x y : Outcome A} → Gives P Q x → Gives P Q y → Gives P Q (if b then x else y)
gives-if true p q = p
gives-if false p q = q

pub gives-and_then : {A B : Type 0} {P : A → Type 0} {R : B → Type 0} {Q : ℕ → Type 0} {o : Outcome A} {f : A → Outcome B}
    → Gives P Q o → ((x : A) → P x → Gives R Q (f x)) → Gives R Q (o and_then f)
unfolding ◌and_then◌
gives-and_then (value {x = x} p) h = h x p
gives-and_then (refusal q) h = refusal q

pub gives-parsed : {A : Type 0} {P : A → Type 0} {Q : ℕ → Type 0} (o : Parsed) (f : ℕ → A)
    → ((v : ℕ) → o ≡ parsed v → P (f v)) → ((r : ℕ) → o ≡ refused r → Q r) → Gives P Q (on_parsed o f)
unfolding on_parsed
gives-parsed (parsed v) f p q = value (p v refl)
gives-parsed (refused r) f p q = refusal (q r refl)

pub gives-name : {A : Type 0} {P : A → Type 0} {Q : ℕ → Type 0} (t : Seen) (f : Text → A)
    → ((v : Text) → t.name ≡ some v → P (f v)) → Q 9 → Gives P Q (require_name t f)
unfolding require_name
gives-name {A} {P} {Q} t f p q = go t.name p
  where
    go : (o : Option Text) → ((v : Text) → o ≡ some v → P (f v)) → Gives P Q (elim o [ none ↦ refuse 9 | some name ↦ ok (f name) ])
    go none p = refusal q
    go (some v) p = value (p v refl)

pub gives-facet : {A : Type 0} {P : A → Type 0} {Q : ℕ → Type 0} {R : Facet → Type 0} (o : Option FacetWord) (v : Text) (f : Facet → A) (x : A)
    → ((w : FacetWord) → Gives R Q (facet_by_word w v)) → ((y : Facet) → R y → P (f y)) → P x → Gives P Q (on_facet o v f x)
unfolding on_facet
gives-facet none v f x h k p = value p
gives-facet (some w) v f x h k p = gives-and_then (h w) λ y r. value (k y r)

-- what is known of a value, and of a refusal
pub gives-value : {A : Type 0} {P : A → Type 0} {Q : ℕ → Type 0} {o : Outcome A} {y : A} → Gives P Q o → o ≡ ok y → P y
gives-value {P = P} (value {x = x} p) e = subst P (cc) p
gives-value (refusal q) e = let z : ◌≡◌ {A = ℕ} 0 1 = cc in absurd (omega arith)

pub gives-refusal : {A : Type 0} {P : A → Type 0} {Q : ℕ → Type 0} {o : Outcome A} {k : ℕ} → Gives P Q o → o ≡ refuse k → Q k
gives-refusal (value p) e = let z : ◌≡◌ {A = ℕ} 0 1 = cc in absurd (omega arith)
gives-refusal {Q = Q} (refusal q) e = subst Q (cc) q

-- refusals under a wider condition
pub gives-wider : {A : Type 0} {P : A → Type 0} {Q R : ℕ → Type 0} {o : Outcome A} → ((r : ℕ) → Q r → R r) → Gives P Q o → Gives P R o
gives-wider h (value p) = value p
gives-wider h (refusal {r = r} q) = refusal (h r q)

-- a value behind a test
pub if-value : {A : Type 0} (b : Bool) (o : Outcome A) {x : A} (r : ℕ) → (if b then o else refuse r) ≡ ok x → (b ≡ true) × (o ≡ ok x)
if-value true o r e = (refl, e)
if-value false o r e = let z : ◌≡◌ {A = ℕ} 0 1 = cc in absurd (omega arith)

pub ok-or-refuse : {A : Type 0} (b : Bool) {x y : A} (r : ℕ) → ◌≡◌ {A = Outcome A} (if b then ok x else refuse r) (ok y) → (b ≡ true) × (x ≡ y)
ok-or-refuse b {x} r e = let p = if-value b (ok x) r e in (p.0, cc p.1)

-- a value behind two steps comes by a value of the first
pub then-value : {A B : Type 0} (o : Outcome A) (f : A → Outcome B) {y : B} → o and_then f ≡ ok y → (x : A) × (o ≡ ok x) × (f x ≡ ok y)
unfolding ◌and_then◌
then-value (ok x) f e = (x, refl, e)
then-value (refuse r) f e = let z : ◌≡◌ {A = ℕ} 0 1 = cc in absurd (omega arith)

-- an outcome is a value or a refusal
pub outcome-cases : {A C : Type 0} (o : Outcome A) → ((x : A) → o ≡ ok x → C) → ((r : ℕ) → o ≡ refuse r → C) → C
outcome-cases (ok x) f g = f x refl
outcome-cases (refuse r) f g = g r refl

-- whatever an outcome is
pub gives-any : {A : Type 0} (o : Outcome A) → Gives Any Any o
gives-any (ok x) = value tt
gives-any (refuse r) = refusal tt
