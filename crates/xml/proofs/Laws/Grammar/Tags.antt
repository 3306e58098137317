-- Attributes and tags (specs/Grammar.antt, [40] to [42] and [44]), both ways. Assumes nothing.
use Prim.Native.Nat.{ℕ, zero, suc, ◌+◌, ◌<◌}
use mathlib.Core.Path.{◌≡◌, refl, sym, ap, subst, ◌∙◌}
use mathlib.Core.Logic.{◌⊎◌, inl, inr}
use mathlib.Core.List.{List, [], ◌∷◌, ◌++◌, append-nil, append_assoc}
use mathlib.Core.Bool.{true, false, not, false≢true}
use native.Mathlib.Omega.{arith}
use lib.Dec.{eqb}
use lib.ListN.{length, drop, length-append}
use borrow.Author.Tests.{eq-eqb, ne_eqb, not-true}
use Rattle.text.specs.Text.{Text, bytes, first, between}
use Rattle.text.specs.Trim.{is_white_space}
use Rattle.std.proofs.lemmas.Bool.{and_parts}
use Rattle.text.proofs.Laws.Tests.{bool_cases}
use Rattle.xsd_parser.specs.Tape.{Pair}
use Rattle.xml.specs.Classes.{is_letter, is_name_start, is_name, begins}
use Rattle.xml.specs.Steps.{Step, bad, behind, starts_with, literal, spaces, name, leading_name}
use Rattle.xml.specs.Values.{value}
use Rattle.xml.specs.Prolog.{eq}
use Rattle.xml.specs.Tape.{AttributePairs, TapeEvent}
use Rattle.xml.specs.Tags.{Part, wrong, last, more, span, attribute_from, attribute_behind, value_behind, eq_behind, attribute, part_behind, part_of, TagEnd, unended}
use Rattle.xml.specs.Tags.{ended, on_part, attributes_from, attributes, untagged, tagged, tagged_by, attributes_behind, name_behind, tag}
use Rattle.xml.specs.Grammar.{is_among, Opt, absent, present, run, S, Name, Eq, equals, AttValue, double_quoted, single_quoted, Attribute, Attributes, no_attribute}
use Rattle.xml.specs.Grammar.{one_more, new_key, TagBody, tag_body, STag, start_tag, EmptyElemTag, empty_tag}
use Rattle.xml.specs.Grammar as grammar
use Rattle.xml.proofs.Laws.Names.{behind-at, may_start, begins-low}
use Rattle.xml.proofs.Laws.Written.{pair_same, attribute-same, start-other, start-no-space, less-written, equals-no-name, tagged-same}
use Rattle.xml.proofs.Laws.Tags.{attributes-last, tag-found}
use Rattle.xml.proofs.Laws.Grammar.Basics.{literal-sound, word-starts, name-sound, name-complete, name-whole, name_of-complete, name-first, white-no-name, spaces-sound}
use Rattle.xml.proofs.Laws.Grammar.Basics.{spaces-complete, eq-sound, eq-complete}
use Rattle.xml.proofs.Laws.Grammar.Texts.{value-sound, value-complete}

-- [41]: a part that is an attribute, step by step
module _ {x : AttributePairs} {key : Text} {a : ℕ} {r : Text} where
  wrong-not : {A : Type 0} → wrong ≡ more x key a r → A
  wrong-not q = let z : ◌≡◌ {A = ℕ} 0 1 = cc in absurd (omega arith)

  eq-part : (at : ℕ) (s : Text) (d : Step) → eq_behind at s d ≡ more x key a r → (e : ℕ) × (u : Text) × (d ≡ behind e u) × (value_behind at s e (eq e u) ≡ more x key a r)
  eq-part at s bad h = wrong-not h
  eq-part at s (behind e u) h = (e, u, refl, h)

  value-part : (at : ℕ) (s : Text) (e : ℕ) (d : Step) → value_behind at s e d ≡ more x key a r → (q : ℕ) × (t : Text) × (d ≡ behind q t) × (attribute_behind at s e q (value q t) ≡ more x key a r)
  value-part at s e bad h = wrong-not h
  value-part at s e (behind q t) h = (q, t, refl, h)

  whole_part : (at : ℕ) (s : Text) (e q : ℕ) (d : Step) → attribute_behind at s e q d ≡ more x key a r → (d ≡ behind a r) × (attribute_from at e q a ≡ x) × (leading_name s ≡ key)
  whole_part at s e q bad h = wrong-not h
  whole_part at s e q (behind f u) h =
      let m : f ≡ a = cc in
      (cc, ap (attribute_from at e q) (sym m) ∙ (cc), cc)

attribute-as : {at : ℕ} {t k l : Text} {x y : AttributePairs} → k ≡ l → x ≡ y → Attribute at t k x → Attribute at t l y
attribute-as {at} {t} {k} {l} {x} {y} p q d = subst (λ (z : Text). Attribute at t z y) p (subst (λ (z : AttributePairs). Attribute at t k z) q d)

-- the pairs of an attribute by the lengths of its parts
pairs-are : (at e q a k E v : ℕ) → e ≡ at + k → q ≡ e + E → a ≡ q + v + 2
    → attribute_from at e q a ≡ record { key = record { offset = at; size = k }; value = record { offset = at + k + E + 1; size = v } }
pairs-are at e q a k E v h i j = attribute-same _ _ _ _ (pair_same _ _ _ _ refl (omega arith)) (pair_same _ _ _ _ (omega arith) (omega arith))

pub attribute-sound : (at : ℕ) (s : Text) (x : AttributePairs) (key : Text) (a : ℕ) (r : Text) → attribute at s ≡ more x key a r → (t : Text) × Attribute at t key x × (s ≡ t ++ r)
    × (a ≡ at + length t)
unfolding attribute
attribute-sound at s x key a r h =
    let p = eq-part at s (name at s) h in
    let o = value-part at s p.0 (eq p.0 p.1) p.3 in
    let w = whole_part at s p.0 o.0 (value o.0 o.1) o.3 in
    let k = name-sound at s p.0 p.1 p.2 in
    let e = eq-sound p.0 p.1 o.0 o.1 o.2 in
    let v = value-sound o.0 o.1 a r w.0 in
    let c = value-complete v.2 o.0 r in
    let end : o.0 + length v.0 + 2 ≡ a = behind-at (sym c.0 ∙ ap (value o.0) (sym v.3) ∙ w.0) in
    let n = sym (name-whole at s p.0 p.1 k.0 p.2 k.2 k.3) ∙ w.2 in
    let pairs = sym (pairs-are at p.0 o.0 a (length k.0) (length e.0) (length v.0) k.3 e.3 (sym end)) ∙ w.1 in
    let t = k.0 ++ (e.0 ++ v.1) in
    let size = length-append k.0 (e.0 ++ v.1) ∙ ap (λ (j : ℕ). length k.0 + j) (length-append e.0 v.1) in (
      t,
      attribute-as n pairs (grammar.attribute k.1 e.1 v.2),
      k.2 ∙ ap (λ (z : Text). k.0 ++ z) (e.2 ∙ ap (λ (z : Text). e.0 ++ z) v.3) ∙ simp append_assoc,
      omega (arith, size, k.3, e.3, end, c.1),
    )

-- [41], the other way
eq-no-name : {e : Text} → Eq e → (r : Text) → begins is_name (e ++ r) ≡ false
unfolding bytes
eq-no-name (equals absent b) r = equals-no-name _
eq-no-name (equals (present (run {b} y h)) c) r = white-no-name b y _

value-no-white : {v w : Text} → AttValue v w → (r : Text) → is_white_space (first (w ++ r)) ≡ false
unfolding first bytes is_white_space
value-no-white (double_quoted m) r = refl
value-no-white (single_quoted m) r = refl

more_same : {x y : AttributePairs} {k l : Text} {a b : ℕ} {r : Text} → x ≡ y → k ≡ l → a ≡ b → more x k a r ≡ more y l b r
more_same p q h = cc

pub attribute-complete : {at : ℕ} {t k : Text} {x : AttributePairs} → Attribute at t k x → (r : Text) → attribute at (t ++ r) ≡ more x k (at + length t) r
unfolding attribute
attribute-complete {at} (grammar.attribute {k} {e} {v} {w} n q u) r =
    let whole : (k ++ (e ++ w)) ++ r ≡ k ++ (e ++ (w ++ r)) = simp append_assoc in
    let size = length-append k (e ++ w) ∙ ap (λ (j : ℕ). length k + j) (length-append e w) in
    let c = value-complete u (at + length k + length e) r in
    rw (whole, name-complete n at (e ++ (w ++ r)) (eq-no-name q (w ++ r)), eq-complete q (at + length k) (w ++ r) (value-no-white u r), c.0)
    (more_same (pairs-are at (at + length k) (at + length k + length e) (at + length k + length e + length v + 2) (length k) (length e) (length v) refl refl refl)
    (name_of-complete n (e ++ (w ++ r)) (eq-no-name q (w ++ r))) (omega (arith, size, c.1)))

-- the next part of a tag
abbrev pub EndsAt : ℕ → Text → ℕ → ℕ → Text → Type 0
EndsAt at s kind a r =
    (t : Text) × Opt S t × (((kind ≡ 1) × (s ≡ t ++ (bytes ">" ++ r)) × (a ≡ at + length t + 1)) ⊎ ((kind ≡ 2) × (s ≡ t ++ (bytes "/>" ++ r)) × (a ≡ at + length t + 2)))

some-space : (t : Text) (a at : ℕ) → Opt S t → a ≡ at + length t → eqb a at ≡ false → S t
some-space t a at absent h n = absurd (false≢true (sym n ∙ eq-eqb a at (omega arith)))
some-space t a at (present p) h n = p

attribute-from : {at b : ℕ} {t k : Text} {x : AttributePairs} → at ≡ b → Attribute at t k x → Attribute b t k x
attribute-from {at} {b} {t} {k} {x} p d = subst (λ (z : ℕ). Attribute z t k x) p d

part-more : (at : ℕ) (s : Text) (x : AttributePairs) (key : Text) (a : ℕ) (r : Text) (d : Step) → spaces at s ≡ d → part_behind at d ≡ more x key a r
    → (t : Text) × (u : Text) × S t × Attribute (at + length t) u key x × (s ≡ t ++ (u ++ r)) × (a ≡ at + length t + length u)
part-more at s x key a r bad p h = wrong-not h
part-more at s x key a r (behind b u) p h =
    bool_cases (starts_with (bytes "/>") u)
    (λ y. let k = rw y at h in let z : ◌≡◌ {A = ℕ} 0 1 = cc in absurd (omega arith))
    (λ y.
    let k = rw y at h in
    bool_cases (starts_with (bytes ">") u)
    (λ z. let l = rw z at k in let w : ◌≡◌ {A = ℕ} 0 1 = cc in absurd (omega arith))
    (λ z.
    let l = rw z at k in
    bool_cases (eqb b at)
    (λ w. wrong-not (rw w at l))
    (λ w.
    let o = spaces-sound at s b u p in
    let d = attribute-sound b u x key a r (rw w at l) in
    (o.0, d.0, some-space o.0 b at o.1 o.3 w, attribute-from o.3 d.1, o.2 ∙ ap (λ (t : Text). o.0 ++ t) d.2, omega (arith, o.3, d.3)))))

-- an attribute is no end
value_not : (at : ℕ) (s : Text) (e q : ℕ) (d : Step) (kind a : ℕ) (r : Text) {A : Type 0} → attribute_behind at s e q d ≡ last kind a r → A
value_not at s e q bad kind a r h = let z : ◌≡◌ {A = ℕ} 0 1 = cc in absurd (omega arith)
value_not at s e q (behind f u) kind a r h = let z : ◌≡◌ {A = ℕ} 0 1 = cc in absurd (omega arith)

eq-not : (at : ℕ) (s : Text) (e : ℕ) (d : Step) (kind a : ℕ) (r : Text) {A : Type 0} → value_behind at s e d ≡ last kind a r → A
eq-not at s e bad kind a r h = let z : ◌≡◌ {A = ℕ} 0 1 = cc in absurd (omega arith)
eq-not at s e (behind q t) kind a r h = value_not at s e q (value q t) kind a r h

name-not : (at : ℕ) (s : Text) (d : Step) (kind a : ℕ) (r : Text) {A : Type 0} → eq_behind at s d ≡ last kind a r → A
name-not at s bad kind a r h = let z : ◌≡◌ {A = ℕ} 0 1 = cc in absurd (omega arith)
name-not at s (behind e u) kind a r h = eq-not at s e (eq e u) kind a r h

not_last : (at : ℕ) (s : Text) (kind a : ℕ) (r : Text) {A : Type 0} → attribute at s ≡ last kind a r → A
unfolding attribute
not_last at s kind a r h = name-not at s (name at s) kind a r h

part-last : (at : ℕ) (s : Text) (kind a : ℕ) (r : Text) (d : Step) → spaces at s ≡ d → part_behind at d ≡ last kind a r → EndsAt at s kind a r
unfolding bytes
part-last at s kind a r bad p h = let z : ◌≡◌ {A = ℕ} 0 1 = cc in absurd (omega arith)
part-last at s kind a r (behind b u) p h =
    let o = spaces-sound at s b u p in
    bool_cases (starts_with (bytes "/>") u)
    (λ y.
    let k : last 2 (b + 2) (drop 2 u) ≡ last kind a r = rw y at h in
    let m : 2 ≡ kind = cc in
    let n : b + 2 ≡ a = cc in
    let t : drop 2 u ≡ r = cc in
    (o.0, o.1, inr (sym m, o.2 ∙ ap (λ (z : Text). o.0 ++ z) (word-starts (bytes "/>") u y ∙ ap (λ (z : Text). 47 ∷ 62 ∷ z) t), omega (arith, o.3))))
    (λ y.
    let k = rw y at h in
    bool_cases (starts_with (bytes ">") u)
    (λ z.
    let l : last 1 (b + 1) (drop 1 u) ≡ last kind a r = rw z at k in
    let m : 1 ≡ kind = cc in
    let n : b + 1 ≡ a = cc in
    let t : drop 1 u ≡ r = cc in
    (o.0, o.1, inl (sym m, o.2 ∙ ap (λ (x : Text). o.0 ++ x) (word-starts (bytes ">") u z ∙ ap (λ (x : Text). 62 ∷ x) t), omega (arith, o.3))))
    (λ z.
    let l = rw z at k in
    bool_cases (eqb b at)
    (λ w. let g : wrong ≡ last kind a r = rw w at l in let f : ◌≡◌ {A = ℕ} 0 1 = cc in absurd (omega arith))
    (λ w. not_last b u kind a r (rw w at l))))

-- (S Attribute)* up to the tag's end
abbrev Derived : List Text → List AttributePairs → ℕ → Text → ℕ → List AttributePairs → ℕ → Text → Type 0
Derived keys before at s kind xs a r =
    (ks : List Text) × (ys : List AttributePairs) × (u : Text) × (t : Text) × Attributes at u ks ys × (new_key keys ks ≡ true) × (xs ≡ before ++ ys) × (s ≡ u ++ t) × EndsAt (at + length u) t kind a r

attributes-from : {at b : ℕ} {u : Text} {ks : List Text} {xs : List AttributePairs} → at ≡ b → Attributes at u ks xs → Attributes b u ks xs
attributes-from {at} {b} {u} {ks} {xs} p d = subst (λ (z : ℕ). Attributes z u ks xs) p d

ends-from : (at b : ℕ) (s : Text) (kind a : ℕ) (r : Text) → at ≡ b → EndsAt at s kind a r → EndsAt b s kind a r
ends-from at b s kind a r p d = subst (λ (z : ℕ). EndsAt z s kind a r) p d

end-here : (keys : List Text) (before : List AttributePairs) (at : ℕ) (s : Text) (kind : ℕ) (xs : List AttributePairs) (a : ℕ) (r : Text) → before ≡ xs → EndsAt at s kind a r
    → Derived keys before at s kind xs a r
unfolding new_key
end-here keys before at s kind xs a r e d = ([], [], [], s, no_attribute, refl, sym e ∙ sym (append-nil before), refl, ends-from at (at + 0) s kind a r (omega arith) d)

one-before : (keys : List Text) (before : List AttributePairs) (at : ℕ) (s : Text) (x : AttributePairs) (key : Text) (b : ℕ) (v : Text) (kind : ℕ) (xs : List AttributePairs) (a : ℕ) (r : Text)
    → is_among key keys ≡ false → (t : Text) (w : Text) → S t → Attribute (at + length t) w key x → s ≡ t ++ (w ++ v) → b ≡ at + length t + length w
    → Derived (key ∷ keys) (before ++ x ∷ []) b v kind xs a r → Derived keys before at s kind xs a r
unfolding new_key
one-before keys before at s x key b v kind xs a r n t w c d p e (ks, ys, u, o, ds, k, h, q, f) =
    let size = length-append t (w ++ u) ∙ ap (λ (j : ℕ). length t + j) (length-append w u) in (
      key ∷ ks,
      x ∷ ys,
      t ++ (w ++ u),
      o,
      one_more c d (attributes-from e ds),
      rw n k,
      h ∙ append_assoc before (x ∷ []) ys,
      p ∙ ap (λ (z : Text). t ++ (w ++ z)) q ∙ simp append_assoc,
      ends-from (b + length u) (at + length (t ++ (w ++ u))) o kind a r (omega (arith, size)) f,
    )

on-part-sound : (next : List Text → List AttributePairs → ℕ → Text → TagEnd) (kind : ℕ) (xs : List AttributePairs) (a : ℕ) (r : Text)
    → ((keys : List Text) (before : List AttributePairs) (at : ℕ) (s : Text) → next keys before at s ≡ ended kind xs a r → Derived keys before at s kind xs a r)
    → (keys : List Text) (before : List AttributePairs) (at : ℕ) (s : Text) (d : Part) → part_of at s ≡ d → on_part next keys before d ≡ ended kind xs a r → Derived keys before at s kind xs a r
unfolding part_of
on-part-sound next kind xs a r ih keys before at s wrong p h = let z : ◌≡◌ {A = ℕ} 0 1 = cc in absurd (omega arith)
on-part-sound next kind xs a r ih keys before at s (last k b u) p h =
    let e : before ≡ xs = cc in
    let m : k ≡ kind = cc in
    let n : b ≡ a = cc in
    let t : u ≡ r = cc in
    end-here keys before at s kind xs a r e (part-last at s kind a r (spaces at s) refl (p ∙ (cc)))
on-part-sound next kind xs a r ih keys before at s (more x key b v) p h =
    bool_cases (is_among key keys)
    (λ y. let g : unended ≡ ended kind xs a r = rw y at h in let z : ◌≡◌ {A = ℕ} 0 1 = cc in absurd (omega arith))
    (λ y.
    let o = part-more at s x key b v (spaces at s) refl p in
    one-before keys before at s x key b v kind xs a r y o.0 o.1 o.2 o.3 o.4 o.5 (ih (key ∷ keys) (before ++ x ∷ []) b v (rw y at h)))

attributes-from-sound : (turns kind : ℕ) (xs : List AttributePairs) (a : ℕ) (r : Text) (keys : List Text) (before : List AttributePairs) (at : ℕ) (s : Text)
    → attributes_from turns keys before at s ≡ ended kind xs a r → Derived keys before at s kind xs a r
unfolding attributes_from
attributes-from-sound zero kind xs a r keys before at s h = let z : ◌≡◌ {A = ℕ} 0 1 = cc in absurd (omega arith)
attributes-from-sound (suc turns) kind xs a r keys before at s h =
    on-part-sound (attributes_from turns) kind xs a r (λ k b o t e. attributes-from-sound turns kind xs a r k b o t e) keys before at s (part_of at s) refl h

-- [40] and [44]
abbrev pub IsTag : ℕ → Text → ℕ → Pair → List AttributePairs → Text → ℕ → Text → Type 0
IsTag at s kind pair xs n a r =
    (v : Text) × (((kind ≡ 1) × STag at v n (TapeEvent.tag kind pair xs)) ⊎ ((kind ≡ 2) × EmptyElemTag at v (TapeEvent.tag kind pair xs))) × (s ≡ v ++ r) × (a ≡ at + length v)

tag-join : (at : ℕ) (s t u n v o : Text) (kind a : ℕ) (r : Text) (ks : List Text) (xs : List AttributePairs) → s ≡ 60 ∷ t → t ≡ n ++ u → Name n → u ≡ v ++ o
    → Attributes (at + 1 + length n) v ks xs → new_key [] ks ≡ true
    → EndsAt (at + 1 + length n + length v) o kind a r → IsTag at s kind (record { offset = at + 1; size = length n }) xs n a r
unfolding bytes
tag-join at s t u n v o kind a r ks xs p q m h ds k (w, c, inl (y, z, f)) =
    let whole : s ≡ ((60 ∷ (n ++ (v ++ w))) ++ (62 ∷ [])) ++ r = p ∙ ap (λ (x : Text). 60 ∷ x) (q ∙ ap (λ (x : Text). n ++ x) (h ∙ ap (λ (x : Text). v ++ x) z)) ∙ simp append_assoc in
    let size : length ((60 ∷ (n ++ (v ++ w))) ++ (62 ∷ [])) ≡ 1 + (length n + (length v + length w)) + 1 = simp length-append (omega arith) in
    ((60 ∷ (n ++ (v ++ w))) ++ (62 ∷ []), inl (y, rw y (start_tag (tag_body m ds k c))), whole, omega (arith, size))
tag-join at s t u n v o kind a r ks xs p q m h ds k (w, c, inr (y, z, f)) =
    let whole : s ≡ ((60 ∷ (n ++ (v ++ w))) ++ (47 ∷ 62 ∷ [])) ++ r = p ∙ ap (λ (x : Text). 60 ∷ x) (q ∙ ap (λ (x : Text). n ++ x) (h ∙ ap (λ (x : Text). v ++ x) z)) ∙ simp append_assoc in
    let size : length ((60 ∷ (n ++ (v ++ w))) ++ (47 ∷ 62 ∷ [])) ≡ 1 + (length n + (length v + length w)) + 2 = simp length-append (omega arith) in
    ((60 ∷ (n ++ (v ++ w))) ++ (47 ∷ 62 ∷ []), inr (y, rw y (empty_tag (tag_body m ds k c))), whole, omega (arith, size))

untagged-not : {kind : ℕ} {pair : Pair} {xs : List AttributePairs} {n : Text} {a : ℕ} {r : Text} {A : Type 0} → untagged ≡ tagged kind pair xs n a r → A
untagged-not q = let z : ◌≡◌ {A = ℕ} 0 1 = cc in absurd (omega arith)

tag-by : (pair : Pair) (m : Text) (d : TagEnd) (kind : ℕ) (p : Pair) (xs : List AttributePairs) (n : Text) (a : ℕ) (r : Text) → tagged_by pair m d ≡ tagged kind p xs n a r
    → (d ≡ ended kind xs a r) × (pair ≡ p) × (m ≡ n)
tag-by pair m unended kind p xs n a r h = untagged-not h
tag-by pair m (ended k ys b u) kind p xs n a r h = (cc, cc, cc)

tag-name : (b : ℕ) (t : Text) (d : Step) (kind : ℕ) (p : Pair) (xs : List AttributePairs) (n : Text) (a : ℕ) (r : Text) → attributes_behind b t d ≡ tagged kind p xs n a r
    → (e : ℕ) × (u : Text) × (d ≡ behind e u) × (tagged_by (span b e) (leading_name t) (attributes e u) ≡ tagged kind p xs n a r)
tag-name b t bad kind p xs n a r h = untagged-not h
tag-name b t (behind e u) kind p xs n a r h = (e, u, refl, h)

tag-less : (d : Step) (kind : ℕ) (p : Pair) (xs : List AttributePairs) (n : Text) (a : ℕ) (r : Text) → name_behind d ≡ tagged kind p xs n a r
    → (b : ℕ) × (t : Text) × (d ≡ behind b t) × (attributes_behind b t (name b t) ≡ tagged kind p xs n a r)
tag-less bad kind p xs n a r h = untagged-not h
tag-less (behind b t) kind p xs n a r h = (b, t, refl, h)

is-tag-as : (at : ℕ) (s : Text) (kind : ℕ) (p q : Pair) (xs ys : List AttributePairs) (m n : Text) (a : ℕ) (r : Text) → p ≡ q → xs ≡ ys → m ≡ n → IsTag at s kind p xs m a r
    → IsTag at s kind q ys n a r
is-tag-as at s kind p q xs ys m n a r x y z d = rw (← x, ← y, ← z) d

pub tag-sound : (at : ℕ) (s : Text) (kind : ℕ) (pair : Pair) (xs : List AttributePairs) (n : Text) (a : ℕ) (r : Text) → tag at s ≡ tagged kind pair xs n a r → IsTag at s kind pair xs n a r
unfolding tag attributes bytes
tag-sound at s kind pair xs n a r h =
    let l = tag-less (literal (bytes "<") at s) kind pair xs n a r h in
    let m = tag-name l.0 l.1 (name l.0 l.1) kind pair xs n a r l.3 in
    let b = tag-by (span l.0 m.0) (leading_name l.1) (attributes m.0 m.1) kind pair xs n a r m.3 in
    let w = literal-sound (bytes "<") at s l.0 l.1 l.2 in
    let k = name-sound l.0 l.1 m.0 m.1 m.2 in
    let d = attributes-from-sound (suc (length m.1)) kind xs a r [] [] m.0 m.1 b.0 in
    let at1 : m.0 ≡ at + 1 + length k.0 = omega (arith, w.1, k.3) in
    let pairs : record { offset = at + 1; size = length k.0 } ≡ pair = pair_same _ _ _ _ (sym w.1) (omega (arith, w.1, k.3)) ∙ b.1 in
    is-tag-as at s kind _ pair d.1 xs k.0 n a r pairs (sym d.6) (sym (name-whole l.0 l.1 m.0 m.1 k.0 m.2 k.2 k.3) ∙ b.2)
    (tag-join at s l.1 m.1 k.0 d.2 d.3 kind a r d.0 d.1 w.0 k.2 k.1 d.7 (attributes-from at1 d.4) d.5
    (ends-from (m.0 + length d.2) (at + 1 + length k.0 + length d.2) d.3 kind a r (omega arith) d.8))

-- the other way: the parts of a tag
attribute-first : {at : ℕ} {w k : Text} {x : AttributePairs} → Attribute at w k x → (b : ℕ) × (v : Text) × (w ≡ b ∷ v) × (may_start b ≡ true)
attribute-first (grammar.attribute {e} {v = v} {w} n q u) = let f = name-first n in (f.0, f.1 ++ (e ++ w), ap (λ (t : Text). t ++ (e ++ w)) f.2, f.3)

slash-no-start : may_start 47 ≡ false
unfolding is_name_start is_letter between
slash-no-start = refl

greater-no-start : may_start 62 ≡ false
unfolding is_name_start is_letter between
greater-no-start = refl

part-behind : (at a b : ℕ) (v : Text) → may_start b ≡ true → at < a → part_behind at (behind a (b ∷ v)) ≡ attribute a (b ∷ v)
unfolding bytes starts_with
part-behind at a b v y h = rw (start-other b 47 y slash-no-start, start-other b 62 y greater-no-start, ne_eqb a at (λ (e : a ≡ at). omega arith))

s-some : {t : Text} → S t → 0 < length t
s-some (run y h) = omega arith

part-more-complete : (at : ℕ) {t w k : Text} {x : AttributePairs} → S t → Attribute (at + length t) w k x → (r : Text) → part_of at (t ++ (w ++ r)) ≡ more x k (at + length t + length w) r
unfolding part_of first
part-more-complete at {t} {w} {k} {x} c d r =
    let f = attribute-first d in
    let g : is_white_space (first (w ++ r)) ≡ false = ap (λ (z : Text). is_white_space (first (z ++ r))) f.2 ∙ start-no-space f.0 f.3 in
    let z : part_behind at (behind (at + length t) (w ++ r)) ≡ attribute (at + length t) (w ++ r) =
    subst (λ (z : Text). part_behind at (behind (at + length t) (z ++ r)) ≡ attribute (at + length t) (z ++ r)) (sym f.2)
    (part-behind at (at + length t) f.0 (f.1 ++ r) f.3 (omega (arith, s-some c))) in
    ap (part_behind at) (spaces-complete (present c) at (w ++ r) g) ∙ z ∙ attribute-complete d r

pub greater-no-white : is_white_space 62 ≡ false
unfolding is_white_space
greater-no-white = refl

slash-no-white : is_white_space 47 ≡ false
unfolding is_white_space
slash-no-white = refl

start-end : {t : Text} → Opt S t → (at : ℕ) (r : Text) → part_of at (t ++ (62 ∷ r)) ≡ last 1 (at + length t + 1) r
unfolding part_of bytes starts_with first
start-end o at r = rw (spaces-complete o at (62 ∷ r) greater-no-white)

empty-end : {t : Text} → Opt S t → (at : ℕ) (r : Text) → part_of at (t ++ (47 ∷ 62 ∷ r)) ≡ last 2 (at + length t + 2) r
unfolding part_of bytes starts_with first
empty-end o at r = rw (spaces-complete o at (47 ∷ 62 ∷ r) slash-no-white)

attributes-complete : {at : ℕ} {u : Text} {ks : List Text} {xs : List AttributePairs} → Attributes at u ks xs → (turns : ℕ) (keys : List Text) (before : List AttributePairs)
    → new_key keys ks ≡ true → length u < turns
    → (t : Text) (kind a : ℕ) (r : Text) → part_of (at + length u) t ≡ last kind a r → attributes_from turns keys before at (u ++ t) ≡ ended kind (before ++ xs) a r
unfolding attributes_from new_key
attributes-complete {at} no_attribute turns keys before n l t kind a r h =
    attributes-last turns keys before at t kind a r l (ap (λ (z : ℕ). part_of z t) (omega arith) ∙ h) ∙ ap (λ (z : List AttributePairs). ended kind z a r) (sym (append-nil before))
attributes-complete (one_more c d ds) zero keys before n l t kind a r h = absurd (omega arith)
attributes-complete {at} (one_more {s} {t = w} {u} {k} {x} {ks} {xs} c d ds) (suc turns) keys before n l t kind a r h =
    let f = and_parts (not (is_among k keys)) (new_key (k ∷ keys) ks) n in
    let size = length-append s (w ++ u) ∙ ap (λ (j : ℕ). length s + j) (length-append w u) in
    let whole : (s ++ (w ++ u)) ++ t ≡ s ++ (w ++ (u ++ t)) = simp append_assoc in
    let long = s-some c in
    rw (whole, part-more-complete at c d (u ++ t), not-true (is_among k keys) f.0)
    (attributes-complete ds turns (k ∷ keys) (before ++ x ∷ []) f.1 (omega arith) t kind a r (ap (λ (z : ℕ). part_of z t) (omega arith) ∙ h)
    ∙ ap (λ (z : List AttributePairs). ended kind z a r) (append_assoc before (x ∷ []) xs))

attributes-no-name : {at : ℕ} {u : Text} {ks : List Text} {xs : List AttributePairs} → Attributes at u ks xs → {t : Text} → Opt S t → (r : Text) → begins is_name r ≡ false
    → begins is_name (u ++ (t ++ r)) ≡ false
attributes-no-name no_attribute absent r h = h
attributes-no-name no_attribute (present (run {b} y e)) r h = white-no-name b y _
attributes-no-name (one_more (run {b} y e) d ds) o r h = white-no-name b y _

-- [40] and [44], the other way
body-complete : {at : ℕ} {s n : Text} {xs : List AttributePairs} → TagBody at s n xs → (end : Text) (kind : ℕ) (r : Text) → begins is_name (end ++ r) ≡ false
    → ((t : Text) → Opt S t → (p : ℕ) → part_of p (t ++ (end ++ r)) ≡ last kind (p + length t + length end) r)
    → tag at ((s ++ end) ++ r) ≡ tagged kind (record { offset = at + 1; size = length n }) xs n (at + length (s ++ end)) r
unfolding bytes attributes
body-complete {at} (tag_body {n} {s} {t} {ks} {xs} m ds k o) end kind r h p =
    let whole : ((60 ∷ (n ++ (s ++ t))) ++ end) ++ r ≡ 60 ∷ (n ++ (s ++ (t ++ (end ++ r)))) = simp append_assoc in
    let size : length ((60 ∷ (n ++ (s ++ t))) ++ end) ≡ 1 + (length n + (length s + length t)) + length end = simp length-append (omega arith) in
    let c = attributes-no-name ds o (end ++ r) h in
    let l = length-append s (t ++ (end ++ r)) in
    rw whole
    (tag-found at (60 ∷ (n ++ (s ++ (t ++ (end ++ r))))) (less-written at (n ++ (s ++ (t ++ (end ++ r))))) (name-complete m (at + 1) (s ++ (t ++ (end ++ r))) c)
    (attributes-complete ds (suc (length (s ++ (t ++ (end ++ r))))) [] [] k (omega arith) (t ++ (end ++ r)) kind (at + 1 + length n + length s + length t + length end) r
    (p t o (at + 1 + length n + length s)))
    ∙ tagged-same kind _ _ xs _ n _ _ r (pair_same _ _ _ _ refl (omega arith)) (name_of-complete m (s ++ (t ++ (end ++ r))) c) (omega arith))

pub greater-no-name : (r : Text) → begins is_name (62 ∷ r) ≡ false
unfolding is_name is_name_start is_letter between
greater-no-name r = begins-low is_name 62 r (omega arith) refl

slash-no-name : (r : Text) → begins is_name (47 ∷ r) ≡ false
unfolding is_name is_name_start is_letter between
slash-no-name r = begins-low is_name 47 r (omega arith) refl

pub start-complete : {at : ℕ} {s n : Text} {e : TapeEvent} → STag at s n e → (r : Text)
    → (pair : Pair) × (xs : List AttributePairs) × (e ≡ TapeEvent.tag 1 pair xs) × (tag at (s ++ r) ≡ tagged 1 pair xs n (at + length s) r)
unfolding bytes first
start-complete {at} (start_tag {s} {n} {xs} b) r =
    (record { offset = at + 1; size = length n }, xs, refl, body-complete b (62 ∷ []) 1 r (greater-no-name r) (λ t o p. start-end o p r))

pub empty-complete : {at : ℕ} {s : Text} {e : TapeEvent} → EmptyElemTag at s e → (r : Text)
    → (pair : Pair) × (xs : List AttributePairs) × (n : Text) × (e ≡ TapeEvent.tag 2 pair xs) × (tag at (s ++ r) ≡ tagged 2 pair xs n (at + length s) r)
unfolding bytes first
empty-complete {at} (empty_tag {s} {n} {xs} b) r =
    (record { offset = at + 1; size = length n }, xs, n, refl, body-complete b (47 ∷ 62 ∷ []) 2 r (slash-no-name (62 ∷ r)) (λ t o p. empty-end o p r))
