-- Lowering's scans of a schema sheet's rows, over a head with its children: no child is a head, so a scan looks at the head alone and goes on behind
-- the children. Assumes nothing.
use Rattle.std.specs.Prelude.{if◌then◌else◌}
use Prim.Native.Nat.{ℕ, ◌+◌}
use mathlib.Core.Path.{◌≡◌, refl, sym, ap, ◌∙◌}
use mathlib.Core.Bool.{Bool, true, false, false≢true}
use mathlib.Core.List.{List, [], ◌∷◌, ◌++◌}
use native.Mathlib.Omega.{arith}
use lib.Dec.{eqb}
use lib.ListN.{length}
use Rattle.text.specs.Text.{every, between}
use Rattle.std.proofs.lemmas.Bool.{false_from_ne_true, or_right}
use Rattle.text.proofs.Laws.Tests.{and-true-right}
use borrow.Author.Tests.{eqb-true}
use Rattle.text.proofs.Laws.Every.{EachFrom, between-each, every-head, every-tail}
use Rattle.sheet.specs.Rows.{Row}
use Rattle.xsd_types.specs.Good.{is_head, is_child}
use Rattle.xsd_types.proofs.Laws.Order.{tags, child_of, child-no-head}
use Rattle.xsd_types.proofs.Laws.Groups.{is_group, head_tag}
use Rattle.ir_rows.specs.Lowered.{root_rows}
use Rattle.ir_rows.specs.Types.{is_simple, is_complex, places_of}
use Rattle.xsd_types.specs.Refused.{refused_row, refused_place}

-- a tag that is no head is none of the heads' tags
other_tag : (k n : ℕ) → is_head k ≡ true → is_head n ≡ false → eqb n k ≡ false
other_tag k n h e = false_from_ne_true (eqb n k) (λ q. false≢true (sym e ∙ rw (eqb-true n k q) h))

module _ (h n : ℕ) (c : is_child h n ≡ true) where
  pub child-other : (k : ℕ) → is_head k ≡ true → eqb n k ≡ false
  child-other k q = other_tag k n q (child-no-head (child_of h n c))

-- the heads of complex types
four-heads : EachFrom (λ (m : ℕ). between 12 16 m ≡ true) 12 3
unfolding EachFrom between
four-heads = (refl, (refl, (refl, refl)))

pub simple-head : (n : ℕ) → is_simple n ≡ true → is_head n ≡ true
unfolding is_simple is_head between
simple-head n e = rw (eqb-true n 3 e)

pub complex-head : (n : ℕ) → is_complex n ≡ true → is_head n ≡ true
unfolding is_complex is_head
complex-head n e = or_right (between 2 3 n) _ (between-each (λ (m : ℕ). between 12 16 m ≡ true) 12 3 15 n refl four-heads e)

-- a test that passes heads alone
abbrev pub HeadsOnly : (ℕ → Bool) → Type 0
HeadsOnly test = (h n : ℕ) → is_child h n ≡ true → test n ≡ false

pub simple-heads : HeadsOnly is_simple
unfolding is_simple is_head between
simple-heads h n c = child-other h n c 3 refl

pub complex-heads : HeadsOnly is_complex
complex-heads h n c = false_from_ne_true (is_complex n) (λ e. false≢true (sym (child-no-head (child_of h n c)) ∙ complex-head n e))

module _ (test : ℕ → Bool) (only : HeadsOnly test) where
  places_of-children : (h k : ℕ) (cs more : List Row) → every (is_child h) (tags cs) ≡ true → places_of test k (cs ++ more) ≡ places_of test (k + length cs) more
  unfolding places_of
  places_of-children h k [] more e = ap (λ (n : ℕ). places_of test n more) (omega arith)
  places_of-children h k (c ∷ cs) more e =
      let one = only h c.tag (every-head (is_child h) c.tag (tags cs) e) in
      let count : k + 1 + length cs ≡ k + length (c ∷ cs) = omega arith in
      rw one (places_of-children h (k + 1) cs more (every-tail (is_child h) c.tag (tags cs) e) ∙ ap (λ (n : ℕ). places_of test n more) count)

  pub places_of-group : (k : ℕ) (rs more : List Row) → is_group rs ≡ true
      → places_of test k (rs ++ more) ≡ (if test (head_tag rs) then k ∷ places_of test (k + length rs) more else places_of test (k + length rs) more)
  unfolding places_of is_group head_tag
  places_of-group k [] more g = absurd (false≢true g)
  places_of-group k (h ∷ cs) more g =
      let count : k + 1 + length cs ≡ k + length (h ∷ cs) = omega arith in
      let behind = places_of-children h.tag (k + 1) cs more (and-true-right (is_head h.tag) _ g) ∙ ap (λ (n : ℕ). places_of test n more) count in
      rw behind

root_rows-children : (h : ℕ) (cs more : List Row) → every (is_child h) (tags cs) ≡ true → root_rows (cs ++ more) ≡ root_rows more
unfolding root_rows is_head between
root_rows-children h [] more e = refl
root_rows-children h (c ∷ cs) more e =
    rw (child-other h c.tag (every-head (is_child h) c.tag (tags cs) e) 2 refl) (root_rows-children h cs more (every-tail (is_child h) c.tag (tags cs) e))

pub root_rows-group : (rs more : List Row) → is_group rs ≡ true → eqb (head_tag rs) 2 ≡ false → root_rows (rs ++ more) ≡ root_rows more
unfolding root_rows is_group head_tag
root_rows-group [] more g n = absurd (false≢true g)
root_rows-group (h ∷ cs) more g n = rw n (root_rows-children h.tag cs more (and-true-right (is_head h.tag) _ g))

refused_place-children : (h k : ℕ) (cs more : List Row) → every (is_child h) (tags cs) ≡ true → refused_place k (cs ++ more) ≡ refused_place (k + length cs) more
unfolding refused_place refused_row is_head between
refused_place-children h k [] more e = ap (λ (n : ℕ). refused_place n more) (omega arith)
refused_place-children h k (c ∷ cs) more e =
    let count : k + 1 + length cs ≡ k + length (c ∷ cs) = omega arith in
    rw (child-other h c.tag (every-head (is_child h) c.tag (tags cs) e) 3 refl)
    (refused_place-children h (k + 1) cs more (every-tail (is_child h) c.tag (tags cs) e) ∙ ap (λ (n : ℕ). refused_place n more) count)

-- behind the head of a type that is refused, or is not
pub refused_place-group : (k : ℕ) (r : Row) (cs more : List Row) → is_group (r ∷ cs) ≡ true
    → refused_place k (r ∷ cs ++ more) ≡ (if refused_row r (cs ++ more) then k else refused_place (k + length (r ∷ cs)) more)
unfolding refused_place is_group
refused_place-group k r cs more g =
    let count : k + 1 + length cs ≡ k + length (r ∷ cs) = omega arith in
    let behind = refused_place-children r.tag (k + 1) cs more (and-true-right (is_head r.tag) _ g) ∙ ap (λ (n : ℕ). refused_place n more) count in
    rw behind
