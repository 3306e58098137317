-- What a marking that is closed holds, and that reducing twice is reducing once. Assumes nothing.
use Rattle.std.specs.Prelude.{if◌then◌else◌}
use mathlib.Core.Path.{◌≡◌, refl, sym, ap, ◌∙◌}
use mathlib.Core.Logic.{◌↔◌}
use mathlib.Core.Bool.{Bool, true, false, false≢true}
use mathlib.Core.List.{List, [], ◌∷◌}
use Rattle.text.specs.Text.{every}
use Rattle.text.proofs.Laws.Tests.{and-true}
use Rattle.text.proofs.Laws.Every.{every-head, every-tail}
use Rattle.sheet.specs.Rows.{Row}
use Rattle.ir_types.specs.Tags.{root_tag}
use Rattle.ir_reduce.specs.Groups.{GraphType, Parted, type_name, root_type, references}
use Rattle.ir_reduce.specs.Reach.{In, Chain, Kept, Reduced}

-- ---- a marking of types. `each`: what is marked is reached. `roots` and `closed`: what a root leads to is marked, and what a marked type leads to
pub record Marks (p : Parted) (m : GraphType → Bool) : Type 0 where
  pub each : (t : GraphType) → In t p.types → m t ≡ true → Chain p t
  pub roots : (root : Row) (t : GraphType) → In root p.front → root.tag ≡ root_tag → In t p.types → type_name t ≡ root_type root → m t ≡ true
  pub closed : (t u : GraphType) → m t ≡ true → In u p.types → In (type_name u) (references t) → m u ≡ true

pub chain-in : {p : Parted} {t : GraphType} → Chain p t → In t p.types
chain-in (Chain.from_root root t r e i n) = i
chain-in (Chain.onward t u c i n) = i

-- what a chain reaches is marked: the least closed set is what is reached
pub reached-marked : {p : Parted} {m : GraphType → Bool} {t : GraphType} → Marks p m → Chain p t → m t ≡ true
reached-marked w (Chain.from_root root t r e i n) = w.roots root t r e i n
reached-marked w (Chain.onward t u c i n) = w.closed t u (reached-marked w c) i n

-- the types that are marked
unfoldable pub marked : (GraphType → Bool) → List GraphType → List GraphType
marked m [] = []
marked m (t ∷ ts) = if m t then t ∷ marked m ts else marked m ts

-- so keeping the marked ones is reducing
kept_step : (P : GraphType → Type 0) (m : GraphType → Bool) (t : GraphType) (ts us : List GraphType) (b : Bool) → m t ≡ b → (m t ≡ true → P t) → (P t → m t ≡ true)
    → Kept P ts us → Kept P (t ∷ ts) (if b then t ∷ us else us)
kept_step P m t ts us true e f g k = Kept.keep (f e) k
kept_step P m t ts us false e f g k = Kept.leave (λ c. absurd (false≢true (sym e ∙ g c))) k

pub kept-marked : (P : GraphType → Type 0) (m : GraphType → Bool) (ts : List GraphType) → ((t : GraphType) → In t ts → m t ≡ true → P t)
    → ((t : GraphType) → P t → m t ≡ true) → Kept P ts (marked m ts)
unfolding marked
kept-marked P m [] f g = Kept.end
kept-marked P m (t ∷ ts) f g = kept_step P m t ts (marked m ts) (m t) refl (f t In.here) (g t) (kept-marked P m ts (λ u i. f u (In.there i)) g)

pub marks-reduce : {p : Parted} {m : GraphType → Bool} → Marks p m → Reduced p (record { front = p.front; types = marked m p.types })
marks-reduce {p} {m} w = record { front = refl; types = kept-marked (Chain p) m p.types w.each (λ t c. reached-marked w c) }

-- ---- there is one reduced graph
pub kept-once : {P : GraphType → Type 0} {ts us vs : List GraphType} → Kept P ts us → Kept P ts vs → us ≡ vs
kept-once Kept.end Kept.end = refl
kept-once (Kept.keep {t} c k) (Kept.keep d l) = ap (λ (xs : List GraphType). t ∷ xs) (kept-once k l)
kept-once (Kept.keep c k) (Kept.leave d l) = absurd (d c)
kept-once (Kept.leave c k) (Kept.keep d l) = absurd (c d)
kept-once (Kept.leave c k) (Kept.leave d l) = kept-once k l

-- ---- reducing again changes nothing
kept_in : {P : GraphType → Type 0} {ts us : List GraphType} {t : GraphType} → Kept P ts us → In t ts → P t → In t us
kept_in Kept.end i h = elim i [ ]
kept_in (Kept.keep c k) In.here h = In.here
kept_in (Kept.keep c k) (In.there i) h = In.there (kept_in k i h)
kept_in (Kept.leave c k) In.here h = absurd (c h)
kept_in (Kept.leave c k) (In.there i) h = kept_in k i h

kept-each : {P : GraphType → Type 0} {ts us : List GraphType} {t : GraphType} → Kept P ts us → In t us → P t
kept-each Kept.end i = elim i [ ]
kept-each (Kept.keep c k) In.here = c
kept-each (Kept.keep c k) (In.there i) = kept-each k i
kept-each (Kept.leave c k) i = kept-each k i

pub kept-every : {P : GraphType → Type 0} {ts us : List GraphType} (test : GraphType → Bool) → Kept P ts us → every test ts ≡ true → every test us ≡ true
unfolding every
kept-every test Kept.end h = refl
kept-every test (Kept.keep {t} {ts} {us} c k) h = and-true (every-head test t ts h) (kept-every test k (every-tail test t ts h))
kept-every test (Kept.leave {t} {ts} {us} c k) h = kept-every test k (every-tail test t ts h)

pub kept-all : {P : GraphType → Type 0} (ts : List GraphType) → ((t : GraphType) → In t ts → P t) → Kept P ts ts
kept-all [] f = Kept.end
kept-all (t ∷ ts) f = Kept.keep (f t In.here) (kept-all ts (λ u i. f u (In.there i)))

-- "exactly the types that some chain of references reaches from a root"
pub reduced-exactly : {p q : Parted} → Reduced p q → (t : GraphType) → In t q.types ↔ Chain p t
reduced-exactly w t = (kept-each w.types, λ c. kept_in w.types (chain-in c) c)

-- a chain runs through types that are kept
chain-kept : {p q : Parted} {t : GraphType} → Reduced p q → Chain p t → Chain q t
chain-kept {p} {q} w (Chain.from_root root t r e i n) = Chain.from_root root t (rw w.front r) e (kept_in w.types i (Chain.from_root root t r e i n)) n
chain-kept {p} {q} w (Chain.onward t u c i n) = Chain.onward t u (chain-kept w c) (kept_in w.types i (Chain.onward t u c i n)) n

pub reduced-again : {p q : Parted} → Reduced p q → Reduced q q
reduced-again {p} {q} w = record { front = refl; types = kept-all q.types (λ t i. chain-kept w (kept-each w.types i)) }

-- "reducing twice equals reducing once"
pub reduced-twice : {p q r : Parted} → Reduced p q → Reduced q r → r ≡ q
reduced-twice {p} {q} {r} w v = ap (λ (ts : List GraphType). record { front = r.front; types = ts }) (kept-once v.types (reduced-again w).types)
    ∙ ap (λ (f : List Row). record { front = f; types = q.types }) v.front
