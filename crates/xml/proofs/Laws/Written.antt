-- A written tag is read as that tag: each step ends where its part of the written text ends. Assumes nothing.
use Prim.Native.Nat.{ℕ, zero, suc, ◌+◌, ◌*◌, ◌≤◌, ◌<◌}
use Prim.Native.Char.{code}
use mathlib.Core.Path.{◌≡◌, refl, sym, ap, subst, ◌∙◌}
use mathlib.Core.Logic.{⊎_elim}
use mathlib.Core.List.{List, [], ◌∷◌, ◌++◌, append-nil, append_assoc}
use mathlib.Core.Bool.{Bool, true, false, not, ◌&&◌, ◌||◌, false≢true}
use native.Mathlib.Omega.{arith}
use lib.Dec.{eqb, ltb}
use lib.ListN.{length, drop, length-append, length-drop}
use lib.Seq.{drop-append-le, drop-append_seam}
use borrow.Author.Tests.{eqb-true, eqb-false, eq-eqb, ne_eqb, not-true}
use Rattle.text.specs.Text.{Text, bytes, first, every, is_pair, same, contains, between}
use Rattle.std.proofs.lemmas.Bool.{and_parts, or_left, or_right, or_cases}
use Rattle.text.proofs.Laws.Tests.{bool_cases, and-true-left, and-true-right, four, if-cases, if-keeps}
use Rattle.text.proofs.Laws.Texts.{same-eq}
use Rattle.text.proofs.Laws.Every.{every-head, every-tail}
use Rattle.xsd_parser.specs.Event.{Attr, Tag}
use Rattle.xsd_parser.specs.Tape.{Pair}
use Rattle.text.specs.Trim.{is_white_space}
use Rattle.xml.specs.Classes.{is_letter, is_name_start, is_name, is_byte_of, is_pair_of, begins}
use Rattle.xml.specs.Steps.{behind, starts_with, literal, many, spaces, name, leading_name}
use Rattle.xml.specs.Grammar.{digit_of, is_among}
use Rattle.xml.specs.Values.{is_number, is_entity, is_reference, starts_character, value_end, is_quote, value}
use Rattle.xml.specs.Prolog.{eq}
use Rattle.xml.specs.Tape.{AttributePairs}
use Rattle.xml.specs.Tags.{last, more, attribute_from, attribute, part_of, ended, attributes_from, attributes, tagged, tag}
use Rattle.xml.specs.Written.{is_name_text, is_value, quote_of, written_attribute_ok, new_keys, written_attributes, tag_end, written_tag, attribute_places, tagged_as}
use Rattle.xml.proofs.Laws.Steps.{starts-length}
use Rattle.xml.proofs.Laws.Names.{name_of-none, name_of-some, name_of-pair, by_name, name-begun, may_start, begins-may-start, begins-append, begins-low}
use Rattle.xml.proofs.Laws.Tags.{attributes-last, tag-found}

-- a name
pub many-written : (p : ℕ → Bool) (at : ℕ) (n r : Text) → every p n ≡ true → p (first r) ≡ false → many p at (n ++ r) ≡ behind (at + length n) r
unfolding many first
many-written p at [] [] h e = ap (λ (k : ℕ). behind k []) (omega arith)
many-written p at [] (b ∷ r) h e = rw e (ap (λ (k : ℕ). behind k (b ∷ r)) (omega arith))
many-written p at (b ∷ n) r h e =
    rw (every-head p b n h) (many-written p (suc at) n r (every-tail p b n h) e ∙ ap (λ (k : ℕ). behind k r) (omega arith))

pub name_of-written : (n r : Text) → leading_name n ≡ n → begins is_name r ≡ false → leading_name (n ++ r) ≡ n
name_of-written n r h e =
    by_name (λ u. leading_name u ≡ u → leading_name (u ++ r) ≡ u)
    (λ u k q. subst (λ (t : Text). leading_name (t ++ r) ≡ t) (sym (name_of-none u k) ∙ q) (name_of-none r e))
    (λ b u k f q. name_of-some b (u ++ r) k ∙ ap (λ (t : Text). b ∷ t) (f (ap (drop 1) (sym (name_of-some b u k) ∙ q))))
    (λ b c u k f q. name_of-pair b c (u ++ r) k ∙ ap (λ (t : Text). b ∷ c ∷ t) (f (ap (drop 2) (sym (name_of-pair b c u k) ∙ q))))
    n h

module _ (n : Text) (ok : is_name_text n ≡ true) where
  pub name-begins : begins is_name_start n ≡ true
  unfolding is_name_text
  name-begins = and-true-left (begins is_name_start n) (same (leading_name n) n) ok

  pub name-is-whole : leading_name n ≡ n
  unfolding is_name_text
  name-is-whole = same-eq (leading_name n) n (and-true-right (begins is_name_start n) (same (leading_name n) n) ok)

  pub name-written : (at : ℕ) (r : Text) → begins is_name r ≡ false → name at (n ++ r) ≡ behind (at + length n) r
  name-written at r e =
      name-begun at (n ++ r) (begins-append is_name_start n r name-begins)
      ∙ (rw (name_of-written n r name-is-whole e, drop-append_seam n r))

  pub name-start : (r : Text) → may_start (first (n ++ r)) ≡ true
  name-start r = begins-may-start (n ++ r) (begins-append is_name_start n r name-begins)

-- the byte that a name starts with is no other
pub start-other : (b k : ℕ) → may_start b ≡ true → may_start k ≡ false → eqb b k ≡ false
start-other b k h e = ne_eqb b k (λ (q : b ≡ k). false≢true (sym e ∙ ap may_start (sym q) ∙ h))

pub start-no-space : (b : ℕ) → may_start b ≡ true → is_white_space b ≡ false
unfolding is_white_space is_name_start is_letter between
start-no-space b h = rw (start-other b 9 h refl, start-other b 10 h refl, start-other b 13 h refl, start-other b 32 h refl)

-- a value: what is plain stays plain with more behind it
pub starts-append : (word s t : Text) → length word ≤ length s → starts_with word (s ++ t) ≡ starts_with word s
unfolding starts_with
starts-append [] s t h = refl
starts-append (w ∷ word) [] t h = absurd (omega arith)
starts-append (w ∷ word) (b ∷ s) t h = ap (λ (k : Bool). eqb b w && k) (starts-append word s t (omega arith))

pub starts_more : (word s t : Text) → starts_with word s ≡ true → starts_with word (s ++ t) ≡ true
starts_more word s t h = starts-append word s t (starts-length word s h) ∙ h

pub number_more : (base v : ℕ) (s t : Text) → is_number base v s ≡ true → is_number base v (s ++ t) ≡ true
unfolding is_number
number_more base v [] t h = absurd (false≢true h)
number_more base v (b ∷ s) t h =
    bool_cases (eqb b (code ";"))
    (λ y. rw y (rw y at h))
    (λ y.
    bool_cases (ltb (digit_of b) base)
    (λ z. rw (y, z) (number_more base (v * base + digit_of b) s t (rw (y, z) at h)))
    (λ z. absurd (false≢true (rw (y, z) at h))))

pub number-some : (base v : ℕ) (s : Text) → is_number base v s ≡ true → 0 < length s
unfolding is_number
number-some base v [] h = absurd (false≢true h)
number-some base v (b ∷ s) h = omega arith

pub or-more : (a b c d : Bool) → (a ≡ true → c ≡ true) → (b ≡ true → d ≡ true) → a || b ≡ true → c || d ≡ true
or-more a b c d f g h = ⊎_elim (λ p. or_left _ d (f p)) (λ p. or_right c _ (g p)) (or_cases a b h)

pub entity-more : (s t : Text) → is_entity s ≡ true → is_entity (s ++ t) ≡ true
unfolding is_entity
entity-more s t h =
    or-more _ _ _ _ (or-more _ _ _ _ (or-more _ _ _ _ (or-more _ _ _ _ (starts_more (bytes "&amp;") s t) (starts_more (bytes "&lt;") s t)) (starts_more (bytes "&gt;") s t))
    (starts_more (bytes "&apos;") s t)) (starts_more (bytes "&quot;") s t) h

pub or_long : (n : ℕ) (a b : Bool) → (a ≡ true → 3 ≤ n) → (b ≡ true → 3 ≤ n) → a || b ≡ true → 3 ≤ n
or_long n a b f g h = ⊎_elim f g (or_cases a b h)

pub starts-long : (word s : Text) → 3 ≤ length word → starts_with word s ≡ true → 3 ≤ length s
starts-long word s l h = omega (arith, starts-length word s h)

pub entity-long : (s : Text) → is_entity s ≡ true → 3 ≤ length s
unfolding is_entity bytes
entity-long s h =
    or_long (length s) _ _ (or_long (length s) _ _ (or_long (length s) _ _ (or_long (length s) _ _ (starts-long (bytes "&amp;") s (omega arith)) (starts-long (bytes "&lt;") s (omega arith)))
    (starts-long (bytes "&gt;") s (omega arith))) (starts-long (bytes "&apos;") s (omega arith))) (starts-long (bytes "&quot;") s (omega arith)) h

pub reference-long : (s : Text) → is_reference s ≡ true → 3 ≤ length s
unfolding is_reference bytes
reference-long s h =
    bool_cases (starts_with (bytes "&#x") s)
    (λ y. starts-length (bytes "&#x") s y)
    (λ y.
    bool_cases (starts_with (bytes "&#") s)
    (λ z. omega (arith, number-some 10 0 (drop 2 s) (rw (y, z) at h), length-drop 2 s))
    (λ z. entity-long s (rw (y, z) at h)))

pub reference-more : (s t : Text) → is_reference s ≡ true → is_reference (s ++ t) ≡ true
unfolding is_reference bytes
reference-more s t h =
    let n = reference-long s h in
    rw (starts-append (bytes "&#x") s t n, starts-append (bytes "&#") s t (omega arith), drop-append-le 3 s t n, drop-append-le 2 s t (omega arith))
    (bool_cases (starts_with (bytes "&#x") s)
    (λ y. rw y (number_more 16 0 (drop 3 s) t (rw y at h)))
    (λ y.
    bool_cases (starts_with (bytes "&#") s)
    (λ z. rw (y, z) (number_more 10 0 (drop 2 s) t (rw (y, z) at h)))
    (λ z. rw (y, z) (entity-more s t (rw (y, z) at h)))))

pub plain_more : (s t : Text) → starts_character s ≡ true → starts_character (s ++ t) ≡ true
unfolding starts_character
plain_more [] t h = absurd (false≢true h)
plain_more (b ∷ s) t h = bool_cases (eqb b (code "&")) (λ y. rw y (reference-more (b ∷ s) t (rw y at h))) (λ y. rw y (rw y at h))

pub value-end-written : (q at : ℕ) (v r : Text) → is_value q v ≡ true → value_end q at (v ++ q ∷ r) ≡ behind (at + length v + 1) r
unfolding value_end is_value
value-end-written q at [] r h = rw (eq-eqb q q refl) (ap (λ (k : ℕ). behind k r) (omega arith))
value-end-written q at (b ∷ v) r h =
    let p = four (not (eqb b q)) (not (eqb b (code "<"))) (starts_character (b ∷ v)) (is_value q v) h in
    rw (not-true (eqb b q) p.0, not-true (eqb b (code "<")) p.1, plain_more (b ∷ v) (q ∷ r) p.2)
    (value-end-written q (suc at) v r p.3 ∙ ap (λ (k : ℕ). behind k r) (omega arith))

pub value_written : (q at : ℕ) (v r : Text) → is_quote q ≡ true → is_value q v ≡ true → value at (q ∷ v ++ q ∷ r) ≡ behind (at + length v + 2) r
unfolding value
value_written q at v r e h = rw e (value-end-written q (suc at) v r h ∙ ap (λ (k : ℕ). behind k r) (omega arith))

pub quote-is : (v : Text) → is_quote (quote_of v) ≡ true
unfolding quote_of is_quote
quote-is v = if-keeps is_quote (contains 34 v) (λ e. refl) (λ e. refl)

pub quote-no-space : (v : Text) → is_white_space (quote_of v) ≡ false
unfolding quote_of is_white_space
quote-no-space v = if-cases (λ (b : ℕ). is_white_space b ≡ false) (contains 34 v) (λ e. refl) (λ e. refl)

-- white space and `=`
pub spaces-stop : (at : ℕ) (s : Text) → is_white_space (first s) ≡ false → spaces at s ≡ behind at s
unfolding spaces many first
spaces-stop at [] e = refl
spaces-stop at (b ∷ s) e = rw e

pub spaces-one : (at : ℕ) (s : Text) → is_white_space (first s) ≡ false → spaces at (32 ∷ s) ≡ behind (suc at) s
unfolding spaces many is_white_space
spaces-one at s e = spaces-stop (suc at) s e

pub eq-written : (at : ℕ) (s : Text) → is_white_space (first s) ≡ false → eq at (61 ∷ s) ≡ behind (at + 1) s
unfolding eq spaces many is_white_space literal starts_with bytes
eq-written at s e = spaces-stop (at + 1) s e

-- an attribute
pub equals-no-name : (s : Text) → begins is_name (61 ∷ s) ≡ false
unfolding is_name is_name_start is_letter between
equals-no-name s = begins-low is_name 61 s (omega arith) refl

pub attribute-written : (at : ℕ) (k : Text) (q : ℕ) (v r : Text) → is_name_text k ≡ true → is_quote q ≡ true → is_white_space q ≡ false → is_value q v ≡ true
    → attribute at ((k ++ (61 ∷ q ∷ (v ++ (q ∷ r))))) ≡ more (attribute_from at (at + length k) (at + length k + 1) (at + length k + 1 + length v + 2)) k (at + length k + 1 + length v + 2) r
unfolding attribute first
attribute-written at k q v r h e f g =
    rw (
      name-written k h at (61 ∷ q ∷ (v ++ (q ∷ r))) (equals-no-name _),
      eq-written (at + length k) (q ∷ v ++ q ∷ r) f,
      value_written q (at + length k + 1) v r e g,
      name_of-written k (61 ∷ q ∷ (v ++ (q ∷ r))) (name-is-whole k h) (equals-no-name _),
    )

pub starts-not : (w : ℕ) (word s : Text) → eqb (first s) w ≡ false → eqb 0 w ≡ false → starts_with (w ∷ word) s ≡ false
unfolding starts_with first
starts-not w word [] e z = refl
starts-not w word (b ∷ s) e z = rw e

pub pair_same : (o p y z : ℕ) → o ≡ p → y ≡ z → ◌≡◌ {A = Pair} (record { offset = o; size = y }) (record { offset = p; size = z })
pair_same o p y z e f = rw (e, f)

pub attribute-same : (k l v w : Pair) → k ≡ l → v ≡ w → ◌≡◌ {A = AttributePairs} (record { key = k; value = v }) (record { key = l; value = w })
attribute-same k l v w e f = rw (e, f)

abbrev pub place_of : ℕ → ℕ → ℕ → AttributePairs
place_of at k v = record { key = record { offset = at + 1; size = k }; value = record { offset = at + k + 3; size = v } }

pub place-of : (at k v : ℕ) → attribute_from (suc at) (suc at + k) (suc at + k + 1) (suc at + k + 1 + v + 2) ≡ place_of at k v
place-of at k v = attribute-same _ _ _ _ (pair_same _ _ _ _ (omega arith) (omega arith)) (pair_same _ _ _ _ (omega arith) (omega arith))

pub part-written : (at : ℕ) (k : Text) (q : ℕ) (v r : Text) → is_name_text k ≡ true → is_quote q ≡ true → is_white_space q ≡ false → is_value q v ≡ true
    → part_of at (32 ∷ (k ++ (61 ∷ q ∷ (v ++ (q ∷ r))))) ≡ more (place_of at (length k) (length v)) k (at + length k + length v + 4) r
unfolding part_of bytes is_name_start is_letter between
part-written at k q v r h e f g =
    let s = (k ++ (61 ∷ q ∷ (v ++ (q ∷ r)))) in
    let b = name-start k h (61 ∷ q ∷ (v ++ (q ∷ r))) in
    let to : suc at + length k + 1 + length v + 2 ≡ at + length k + length v + 4 = omega arith in
    rw (
      spaces-one at s (start-no-space (first s) b),
      starts-not 47 (62 ∷ []) s (start-other (first s) 47 b refl) refl,
      starts-not 62 [] s (start-other (first s) 62 b refl) refl,
      ne_eqb (suc at) at (λ (z : suc at ≡ at). omega arith),
      attribute-written (suc at) k q v r h e f g,
      place-of at (length k) (length v),
      to,
    )

-- all attributes and the tag's end
pub end-written : (at kind : ℕ) (rest : Text) → 1 ≤ kind → kind ≤ 2 → part_of at (tag_end kind ++ rest) ≡ last kind (at + length (tag_end kind)) rest
unfolding part_of tag_end spaces many is_white_space starts_with bytes
end-written at kind rest low high =
    bool_cases (eqb kind 1)
    (λ y. rw (eqb-true kind 1 y))
    (λ y. let d = eqb-false kind 1 y in let e : kind ≡ 2 = omega arith in rw e)

pub written-more : (x : Attr) (xs : List Attr) (t : Text)
    → written_attributes (x ∷ xs) ++ t ≡ 32 ∷ (x.key ++ (61 ∷ quote_of x.value ∷ (x.value ++ (quote_of x.value ∷ (written_attributes xs ++ t)))))
unfolding written_attributes
written-more x xs t =
    let q = quote_of x.value in
    let w = written_attributes xs in
    ap (λ (u : Text). 32 ∷ u)
    (append_assoc x.key (61 ∷ q ∷ (x.value ++ (q ∷ w))) t ∙ ap (λ (u : Text). x.key ++ (61 ∷ q ∷ u)) (append_assoc x.value (q ∷ w) t))

pub written-size : (x : Attr) (xs : List Attr) → length (written_attributes (x ∷ xs)) ≡ length x.key + length x.value + 4 + length (written_attributes xs)
unfolding written_attributes
written-size x xs =
    let q = quote_of x.value in
    let w = written_attributes xs in
    omega (arith, length-append x.key (61 ∷ q ∷ (x.value ++ (q ∷ w))), length-append x.value (q ∷ w))

pub written-long : (xs : List Attr) → length xs ≤ length (written_attributes xs)
written-long [] = omega arith
written-long (x ∷ xs) = omega (arith, written-size x xs, written-long xs)

pub attributes-step : (turns : ℕ) (keys : List Text) (before : List AttributePairs) (at : ℕ) (s : Text) (x : AttributePairs) (key : Text) (a : ℕ) (r : Text) → part_of at s ≡ more x key a r
    → is_among key keys ≡ false
    → attributes_from (suc turns) keys before at s ≡ attributes_from turns (key ∷ keys) (before ++ x ∷ []) a r
unfolding attributes_from
attributes-step turns keys before at s x key a r e m = rw (e, m)

pub ended_same : (kind : ℕ) (xs ys : List AttributePairs) (a b : ℕ) (r : Text) → xs ≡ ys → a ≡ b → ended kind xs a r ≡ ended kind ys b r
ended_same kind xs ys a b r e f = rw (e, f)

pub attribute-read : (at : ℕ) (x : Attr) (r : Text) → written_attribute_ok x ≡ true
    → part_of at (32 ∷ (x.key ++ (61 ∷ quote_of x.value ∷ (x.value ++ (quote_of x.value ∷ r))))) ≡ more (place_of at (length x.key) (length x.value)) x.key
    (at + length x.key + length x.value + 4) r
unfolding written_attribute_ok
attribute-read at x r ok =
    let q = quote_of x.value in
    let k = and_parts (is_name_text x.key) (is_value q x.value) ok in
    part-written at x.key q x.value r k.0 (quote-is x.value) (quote-no-space x.value) k.1

pub attributes-written : (xs : List Attr) (turns : ℕ) (keys : List Text) (before : List AttributePairs) (at kind : ℕ) (rest : Text) → every written_attribute_ok xs ≡ true → new_keys keys xs ≡ true
    → 1 ≤ kind → kind ≤ 2 → length xs < turns
    → attributes_from turns keys before at (written_attributes xs ++ (tag_end kind ++ rest)) ≡ ended kind (before ++ attribute_places at xs)
    (at + length (written_attributes xs) + length (tag_end kind)) rest
unfolding written_attributes attribute_places new_keys
attributes-written [] turns keys before at kind rest ok new low high h =
    attributes-last turns keys before at (tag_end kind ++ rest) kind (at + length (tag_end kind)) rest (omega arith) (end-written at kind rest low high)
    ∙ ended_same kind _ _ _ _ rest (sym (append-nil before)) (omega arith)
attributes-written (x ∷ xs) zero keys before at kind rest ok new low high h = absurd (omega arith)
attributes-written (x ∷ xs) (suc turns) keys before at kind rest ok new low high h =
    let k = length x.key in
    let v = length x.value in
    let n = and_parts (not (is_among x.key keys)) (new_keys (x.key ∷ keys) xs) new in
    let tail = written_attributes xs ++ (tag_end kind ++ rest) in
    let to = at + k + v + 4 in
    let size = written-size x xs in
    ap (attributes_from (suc turns) keys before at) (written-more x xs (tag_end kind ++ rest))
    ∙ attributes-step turns keys before at _ (place_of at k v) x.key to tail (attribute-read at x tail (every-head written_attribute_ok x xs ok)) (not-true (is_among x.key keys) n.0)
    ∙ attributes-written xs turns (x.key ∷ keys) (before ++ place_of at k v ∷ []) to kind rest (every-tail written_attribute_ok x xs ok) n.1 low high (omega arith)
    ∙ ended_same kind _ _ _ _ rest (append_assoc before (place_of at k v ∷ []) (attribute_places to xs)) (omega arith)

-- the tag
pub behind-name : (xs : List Attr) (kind : ℕ) (rest : Text) → begins is_name (written_attributes xs ++ (tag_end kind ++ rest)) ≡ false
unfolding written_attributes tag_end first is_name is_name_start is_letter is_pair is_byte_of is_pair_of begins between bytes
behind-name [] kind rest = bool_cases (eqb kind 1) (λ y. rw y) (λ y. rw y)
behind-name (x ∷ xs) kind rest = refl

pub tag-more : (kind : ℕ) (t : Tag) (rest : Text) → written_tag kind t ++ rest ≡ 60 ∷ (t.name ++ (written_attributes t.attributes ++ (tag_end kind ++ rest)))
unfolding written_tag
tag-more kind t rest =
    let w = written_attributes t.attributes in
    ap (λ (u : Text). 60 ∷ u) (append_assoc t.name (w ++ tag_end kind) rest ∙ ap (λ (u : Text). t.name ++ u) (append_assoc w (tag_end kind) rest))

pub tag-size : (kind : ℕ) (t : Tag) → length (written_tag kind t) ≡ 1 + length t.name + length (written_attributes t.attributes) + length (tag_end kind)
unfolding written_tag
tag-size kind t =
    let w = written_attributes t.attributes in
    omega (arith, length-append t.name (w ++ tag_end kind), length-append w (tag_end kind))

pub less-written : (at : ℕ) (s : Text) → literal (bytes "<") at (60 ∷ s) ≡ behind (at + 1) s
unfolding literal starts_with bytes
less-written at s = refl

pub tagged-same : (kind : ℕ) (p q : Pair) (xs : List AttributePairs) (n m : Text) (a b : ℕ) (r : Text) → p ≡ q → n ≡ m → a ≡ b → tagged kind p xs n a r ≡ tagged kind q xs m b r
tagged-same kind p q xs n m a b r e f g = rw (e, f, g)

pub tag-written : (at kind : ℕ) (t : Tag) (rest : Text) → 1 ≤ kind → kind ≤ 2 → is_name_text t.name ≡ true → every written_attribute_ok t.attributes ≡ true → new_keys [] t.attributes ≡ true
    → tag at (written_tag kind t ++ rest) ≡ tagged_as at kind t rest
unfolding attributes
tag-written at kind t rest low high n ok new =
    let xs = t.attributes in
    let w = written_attributes xs ++ (tag_end kind ++ rest) in
    let e = at + 1 + length t.name in
    let none = behind-name xs kind rest in
    let turns : length xs < suc (length w) = omega (arith, written-long xs, length-append (written_attributes xs) (tag_end kind ++ rest)) in
    ap (tag at) (tag-more kind t rest)
    ∙ tag-found at (60 ∷ (t.name ++ w)) (less-written at (t.name ++ w)) (name-written t.name n (at + 1) w none) (attributes-written xs (suc (length w)) [] [] e kind rest ok new low high turns)
    ∙ tagged-same kind _ _ (attribute_places e xs) _ _ _ _ rest (pair_same _ _ _ _ refl (omega arith))
    (name_of-written t.name w (name-is-whole t.name n) none) (omega (arith, tag-size kind t))
