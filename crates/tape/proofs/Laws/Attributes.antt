-- The name and the attributes of a tag by their places in the marks, and a lookup one attribute after the other. Laws of xsd_parser's Tape and
-- Event and of specs/Lookup.antt. No contract cites them. Assumes nothing.
use Rattle.std.specs.Prelude.{if◌then◌else◌}
use Prim.Native.String.{String}
use mathlib.Core.Path.{◌≡◌, refl, sym, ap, ◌∙◌}
use mathlib.Core.Bool.{true}
use mathlib.Core.List.{List, [], ◌∷◌}
use mathlib.Core.Option.{Option, some, none}
use Prim.Native.Nat.{ℕ, zero, suc, ◌+◌, ◌-◌, ◌*◌, ◌≤◌, ◌<◌}
use native.Mathlib.Nat.{add-zero, not-suc-le-zero}
use native.Mathlib.Numerals.{one-add}
use native.Mathlib.Omega.{arith}
use lib.ListN.{length, get_or, drop}
use lib.Seq.{get_or-drop, drop-drop}
use Rattle.text.specs.Text.{Text, bytes, same, is, local_name}
use Rattle.xsd_parser.specs.Event.{Attr, Tag, attr_value, lookup}
use Rattle.xsd_parser.specs.Tape.{pairs_of, pair_text, pair_count, attrs_of, tag_of}
use Rattle.tape.specs.Pairs.{pair_at, tag_at}
use Rattle.tape.specs.Lookup.{lookup_text}
use Rattle.tape.proofs.Laws.Pairs.{pairs-none, pairs-step}

-- the name is under the first pair, and empty where the marks end before it
name-first : (text : Text) (l : List ℕ) (n : ℕ) → (tag_of text (pairs_of (suc n) l)).name ≡ pair_text text (record { offset = get_or l 0 0; size = get_or l 1 0 })
unfolding tag_of pairs_of pair_text
name-first text [] n = refl
name-first text (o ∷ []) n = refl
name-first text (o ∷ s ∷ l) n = refl

pub tag-name : (text : Text) (marks : List ℕ) (pairs count : ℕ) → (tag_at text marks pairs count).name ≡ pair_text text (pair_at marks pairs)
unfolding tag_at pair_at pair_count
tag-name text marks pairs count =
    ap (λ (k : ℕ). (tag_of text (pairs_of k (drop pairs marks))).name) (one-add (2 * count))
    ∙ name-first text (drop pairs marks) (2 * count)
    ∙ rw (get_or-drop pairs marks 0 0, get_or-drop pairs marks 1 0, add-zero pairs)

-- the attributes are under the pairs behind it
attributes-rest : (text : Text) (l : List ℕ) (n : ℕ) → (tag_of text (pairs_of (suc n) l)).attributes ≡ attrs_of text (pairs_of n (drop 2 l))
unfolding tag_of pairs_of attrs_of
attributes-rest text [] n = sym (ap (attrs_of text) (pairs-none n))
attributes-rest text (o ∷ []) n = sym (ap (attrs_of text) (pairs-none n))
attributes-rest text (o ∷ s ∷ l) n = refl

pub tag-attributes : (text : Text) (marks : List ℕ) (pairs count : ℕ) → (tag_at text marks pairs count).attributes ≡ attrs_of text (pairs_of (2 * count) (drop (pairs + 2) marks))
unfolding tag_at pair_count
tag-attributes text marks pairs count =
    ap (λ (k : ℕ). (tag_of text (pairs_of k (drop pairs marks))).attributes) (one-add (2 * count))
    ∙ attributes-rest text (drop pairs marks) (2 * count)
    ∙ ap (λ (l : List ℕ). attrs_of text (pairs_of (2 * count) l)) (drop-drop 2 pairs marks)

abbrev attr_at : Text → List ℕ → ℕ → Attr
attr_at text marks at = record { key = pair_text text (pair_at marks at); value = pair_text text (pair_at marks (at + 2)) }

pub attrs-step : (text : Text) (marks : List ℕ) (at n : ℕ) → at + 4 ≤ length marks → 0 < n
    → attrs_of text (pairs_of (2 * n) (drop at marks)) ≡ attr_at text marks at ∷ attrs_of text (pairs_of (2 * (n - 1)) (drop (at + 4) marks))
unfolding attrs_of
attrs-step text marks at n h p =
    let two : 2 * n ≡ suc (suc (2 * (n - 1))) = omega arith in
    let four : at + 2 + 2 ≡ at + 4 = omega arith in
    rw (two, pairs-step marks at (suc (2 * (n - 1))) (omega arith), pairs-step marks (at + 2) (2 * (n - 1)) (omega arith), four)

-- Named in docs/PORT.md: a lookup where the key of the first attribute is the one
pub lookup-hit : (text : Text) (marks : List ℕ) (at n : ℕ) (word : Text) → at + 4 ≤ length marks → 0 < n → same (local_name (pair_text text (pair_at marks at))) word ≡ true
    → lookup_text (attrs_of text (pairs_of (2 * n) (drop at marks))) word ≡ some (pair_text text (pair_at marks (at + 2)))
unfolding lookup_text
lookup-hit text marks at n word h p e = rw (attrs-step text marks at n h p, e)

pub lookup-end : (text : Text) (l : List ℕ) (n : ℕ) (word : Text) → n ≤ 0 → lookup_text (attrs_of text (pairs_of (2 * n) l)) word ≡ none
unfolding lookup_text attrs_of pairs_of
lookup-end text l zero word h = refl
lookup-end text l (suc n) word h = absurd (not-suc-le-zero h)

-- a word of the definitions is the text of its bytes
pub lookup-bytes : (xs : List Attr) (word : String) → lookup xs word ≡ lookup_text xs (bytes word)
unfolding lookup lookup_text is
lookup-bytes [] word = refl
lookup-bytes (x ∷ xs) word = ap (λ (r : Option Text). if same (local_name x.key) (bytes word) then some x.value else r) (lookup-bytes xs word)

pub attr_value-bytes : (t : Tag) (word : String) → attr_value t word ≡ lookup_text t.attributes (bytes word)
unfolding attr_value
attr_value-bytes t word = lookup-bytes t.attributes word
