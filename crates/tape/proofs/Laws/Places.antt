-- The places of the nine keys as the attributes are passed one after the other. Laws of specs/Lookup.antt. No contract cites them. Assumes nothing.
use Rattle.std.specs.Prelude.{if◌then◌else◌}
use Prim.Native.String.{String}
use mathlib.Core.Path.{◌≡◌, refl, sym, ap, ◌∙◌}
use mathlib.Core.Bool.{◌&&◌}
use mathlib.Core.List.{List, []}
use mathlib.Core.Option.{Option, some, none}
use Prim.Native.Nat.{ℕ, zero, suc, ◌+◌, ◌-◌, ◌*◌, ◌≤◌, ◌<◌}
use native.Mathlib.Omega.{arith}
use lib.Dec.{eqb, ltb}
use lib.ListN.{length, get_or, replicate, drop, length-set, get_or-replicate}
use lib.Seq.{get_or-set_same, get_or-set_other}
use borrow.Author.Tests.{lt-ltb, eqb-true, eqb-false}
use Rattle.text.specs.Text.{Text, bytes, local_name}
use Rattle.text.proofs.Laws.Tests.{bool_cases}
use Rattle.xsd_parser.specs.Event.{Tag, attr_value}
use Rattle.xsd_parser.specs.Tape.{pairs_of, pair_text, attrs_of}
use Rattle.tape.specs.Pairs.{pair_at}
use Rattle.tape.specs.Keys.{key_words, key_of}
use Rattle.tape.specs.Lookup.{lookup_text, value_at, or_other, kept_first, PlacesOf}
use Rattle.tape.proofs.Laws.Attributes.{attrs-step, lookup-end, attr_value-bytes}
use Rattle.tape.proofs.Laws.Words.{key-number}

-- before the first attribute
pub places-none : (text : Text) (marks : List ℕ) (k : ℕ) → k < 9 → {x y : Option Text} → x ≡ y → or_other (value_at text marks (get_or (replicate 9 0) k 0)) x ≡ y
unfolding or_other value_at
places-none text marks k h e = rw (get_or-replicate {A = ℕ} 9 k 0 0 h) e

pub kept-length : (places : List ℕ) (key at : ℕ) → length places ≡ 9 → length (kept_first places key at) ≡ 9
unfolding kept_first
kept-length places key at e =
    bool_cases (ltb key 9 && eqb (get_or places key 0) 0) (λ t. rw t (length-set places key at ∙ e)) (λ t. rw t e)

-- the value at a place that is one
some-value : (text : Text) (marks : List ℕ) (n : ℕ) → value_at text marks (n + 2) ≡ some (pair_text text (pair_at marks (n + 2)))
unfolding value_at
some-value text marks n = let e : n + 2 ≡ suc (n + 1) = omega arith in rw e

kept-value : (text : Text) (marks : List ℕ) (n : ℕ) → (n ≡ 0 → ⊥) → (x y : Option Text) → or_other (value_at text marks n) x ≡ or_other (value_at text marks n) y
unfolding or_other value_at
kept-value text marks zero h x y = absurd (h refl)
kept-value text marks (suc n) h x y = refl

-- one attribute: its key's place is kept where the key has none yet
module _ (text : Text) (marks places : List ℕ) (at n k key : ℕ) (h : at + 4 ≤ length marks) (p : 0 < n) (l : k < 9) (e : length places ≡ 9)
    (is : key ≡ key_of (local_name (pair_text text (pair_at marks at)))) where
  abbrev word : Text
  word = get_or key_words k []

  abbrev rest : Option Text
  rest = lookup_text (attrs_of text (pairs_of (2 * (n - 1)) (drop (at + 4) marks))) word

  one : lookup_text (attrs_of text (pairs_of (2 * n) (drop at marks))) word ≡ (if eqb key k then some (pair_text text (pair_at marks (at + 2))) else rest)
  unfolding lookup_text
  one = rw (attrs-step text marks at n h p, key-number (local_name (pair_text text (pair_at marks at))) k l, ← is)

  other_key : (key ≡ k → ⊥) → get_or (kept_first places key (at + 2)) k 0 ≡ get_or places k 0
  unfolding kept_first
  other_key differs = bool_cases (ltb key 9 && eqb (get_or places key 0) 0) (λ t. rw t (get_or-set_other places key k (at + 2) 0 (λ q. differs (sym q)))) (λ t. rw t)

  pub places-step : or_other (value_at text marks (get_or (kept_first places key (at + 2)) k 0)) rest
      ≡ or_other (value_at text marks (get_or places k 0)) (lookup_text (attrs_of text (pairs_of (2 * n) (drop at marks))) word)
  unfolding or_other kept_first value_at
  places-step =
      bool_cases (eqb key k)
      (λ t. let q : key ≡ k = eqb-true key k t in
      rw (one, t) (bool_cases (eqb (get_or places k 0) 0)
      (λ z. rw (q, lt-ltb k 9 l, z, get_or-set_same places k (at + 2) 0 (omega (arith, l, e)), some-value text marks at, eqb-true (get_or places k 0) 0 z) (sym_none))
      (λ z. rw (q, lt-ltb k 9 l, z) (kept-value text marks (get_or places k 0) (eqb-false (get_or places k 0) 0 z) _ _))))
      (λ t. rw (one, t, other_key (eqb-false key k t)))
    where
      sym_none : some (pair_text text (pair_at marks (at + 2))) ≡ or_other (value_at text marks 0) (some (pair_text text (pair_at marks (at + 2))))
      sym_none = refl

-- behind the last attribute
pub places-end : (text : Text) (marks places l : List ℕ) (n k : ℕ) → n ≤ 0
    → value_at text marks (get_or places k 0) ≡ or_other (value_at text marks (get_or places k 0)) (lookup_text (attrs_of text (pairs_of (2 * n) l)) (get_or key_words k []))
unfolding or_other
places-end text marks places l n k h = rw (lookup-end text l n (get_or key_words k []) h) (or-none (value_at text marks (get_or places k 0)))
  where
    or-none : (o : Option Text) → o ≡ or_other o none
    or-none none = refl
    or-none (some v) = refl

-- a lookup's own place
pub place-value : {text : Text} {marks places : List ℕ} (t : Tag) (word : String) → PlacesOf text marks t.attributes places → (k : ℕ) → k < 9
    → get_or key_words k [] ≡ bytes word → value_at text marks (get_or places k 0) ≡ attr_value t word
place-value t word p k h e = p.values k h ∙ ap (lookup_text t.attributes) e ∙ sym (attr_value-bytes t word)
