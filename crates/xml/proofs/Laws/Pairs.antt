-- Where the pairs of a well-formed text's tags lie (specs/Accepted.antt): a name's pair is the name that stands there, a value's is what stands between its
-- quotes, and the pairs of a tag rise inside the text. Assumes nothing.
use Prim.Native.Nat.{ℕ, zero, suc, ◌+◌, ◌-◌, ◌≤◌, ◌<◌}
use Prim.Native.Char.{code}
use mathlib.Core.Path.{◌≡◌, refl, sym, ap, ◌∙◌}
use mathlib.Core.List.{List, [], ◌∷◌, ◌++◌, append-nil, append_assoc}
use mathlib.Core.Bool.{true, false}
use native.Mathlib.Omega.{arith}
use lib.Dec.{eqb}
use lib.ListN.{length, get_or, take, drop, length-drop}
use lib.Seq.{drop-drop, take_at}
use borrow.Author.Tests.{eqb-true}
use Rattle.text.specs.Text.{Text, bytes, first, contains}
use Rattle.text.proofs.Laws.Tests.{bool_cases, if-either}
use Rattle.text.proofs.Laws.Texts.{first-drop}
use Rattle.xsd_parser.specs.Tape.{pair_text}
use Rattle.xml.specs.Steps.{Step, bad, behind, starts_with, literal, spaces, name, leading_name}
use Rattle.xml.specs.Values.{is_quote, value}
use Rattle.xml.specs.Prolog.{eq}
use Rattle.xml.specs.Tape.{AttributePairs, TapeEvent}
use Rattle.xml.specs.Tags.{Part, wrong, last, more, span, attribute_behind, value_behind, eq_behind, attribute, part_behind, part_of, TagEnd, unended, ended, on_part}
use Rattle.xml.specs.Tags.{attributes_from, attributes, Tagged, untagged, tagged, tagged_by, attributes_behind, name_behind, tag}
use Rattle.xml.specs.Grammar.{is_among}
use Rattle.xml.specs.Accepted.{offset_behind, NameAt, ValueAt, AttributesAt, EventAt}
use Rattle.xml.proofs.Laws.Names.{behind-at, bad-not, name-read, name-part}
use Rattle.xml.proofs.Laws.Moves.{name-passes, spaces-moves, eq-passes, value-end-stands, value-two}
use Rattle.xml.proofs.Laws.Here.{here-next, literal-keeps, spaces-keeps, name-keeps, eq-keeps, value_keeps}

-- a name
pub name-at : (text : Text) (at : ℕ) (s : Text) (e : ℕ) (r : Text) → s ≡ drop at text → name at s ≡ behind e r → NameAt text (span at e)
unfolding pair_text
name-at text at s e r h q =
    let k : name at (drop at text) ≡ behind e r = rw h at q in
    record { starts = (name-read at (drop at text) e r k).0; whole = name-part at (drop at text) e r k }

-- a value
pub value-stands : (at : ℕ) (s : Text) (e : ℕ) (r : Text) → value at s ≡ behind e r → (b : ℕ) × (v : Text) × (is_quote b ≡ true) × (s ≡ b ∷ v ++ b ∷ r) × (contains b v ≡ false)
    × (e ≡ at + length v + 2)
unfolding value
value-stands at [] e r q = absurd (bad-not q)
value-stands at (b ∷ s) e r q =
    bool_cases (is_quote b)
    (λ y. let i = value-end-stands b (suc at) s e r (rw y at q) in (b, i.0, y, ap (λ (t : Text). b ∷ t) i.1, i.2, omega (arith, i.3)))
    (λ y. absurd (bad-not (rw y at q)))

pub value-part : (text : Text) (at b : ℕ) (v r : Text) (e : ℕ) → b ∷ v ++ b ∷ r ≡ drop at text → e ≡ at + length v + 2 → pair_text text (span (suc at) (e - 1)) ≡ v
unfolding pair_text
value-part text at b v r e h n =
    ap (take (e - 1 - suc at)) (sym (here-next text at b (v ++ b ∷ r) h)) ∙ take_at v (b ∷ r) (e - 1 - suc at) (omega arith)

pub value-at : (text : Text) (at : ℕ) (s : Text) (e : ℕ) (r : Text) → s ≡ drop at text → value at s ≡ behind e r → ValueAt text (span (suc at) (e - 1))
value-at text at s e r h q =
    let v = value-stands at s e r q in
    let part = value-part text at v.0 v.1 r e (sym v.3 ∙ h) v.5 in
    let before : suc at - 1 ≡ at = omega arith in
    record {
      quote = v.0;
      rest = r;
      quotes = v.2;
      stands = ap (λ (k : ℕ). drop k text) before ∙ sym h ∙ v.3 ∙ ap (λ (t : Text). v.0 ∷ t ++ v.0 ∷ r) (sym part);
      none = ap (contains v.0) part ∙ v.4;
    }

-- the next part of a tag
abbrev pub PartAt : Text → ℕ → Part → Type 0
PartAt text at wrong = Unit {0}
PartAt text at (last kind a r) = (1 ≤ kind) × (kind ≤ 2) × (r ≡ drop a text)
PartAt text at (more x key a r) = AttributesAt text at (x ∷ []) × (offset_behind x.value ≤ a) × (r ≡ drop a text)

pub attribute-behind : (text : Text) (at : ℕ) (s : Text) (e : ℕ) (r : Text) (q : ℕ) (t : Text) (d : Step) → s ≡ drop at text → name at s ≡ behind e r → e < q → t ≡ drop q text → value q t ≡ d
    → PartAt text at (attribute_behind at s e q d)
attribute-behind text at s e r q t bad h n b k w = tt
attribute-behind text at s e r q t (behind f u) h n b k w =
    let p = name-passes at s e r n in
    let two = value-two q t f u w in
    let size : length t ≡ length text - q = ap length k ∙ length-drop q text in
    ((omega arith, name-at text at s e r h n, omega arith, value-at text q t f u k w, omega arith, tt), omega arith, rw w at (value_keeps text q t k))

pub value-behind : (text : Text) (at : ℕ) (s : Text) (e : ℕ) (r : Text) (d : Step) → s ≡ drop at text → name at s ≡ behind e r → r ≡ drop e text → eq e r ≡ d → PartAt text at (value_behind at s e d)
value-behind text at s e r bad h n k w = tt
value-behind text at s e r (behind q t) h n k w =
    attribute-behind text at s e r q t (value q t) h n (eq-passes e r q t w).0 (rw w at (eq-keeps text e r k)) refl

pub eq-behind : (text : Text) (at : ℕ) (s : Text) (d : Step) → s ≡ drop at text → name at s ≡ d → PartAt text at (eq_behind at s d)
eq-behind text at s bad h n = tt
eq-behind text at s (behind e r) h n = value-behind text at s e r (eq e r) h n (rw n at (name-keeps text at s h)) refl

pub attribute-at : (text : Text) (at : ℕ) (s : Text) → s ≡ drop at text → PartAt text at (attribute at s)
unfolding attribute
attribute-at text at s h = eq-behind text at s (name at s) h refl

pub part-from : (text : Text) (at a : ℕ) (d : Part) → at ≤ a → PartAt text a d → PartAt text at d
part-from text at a wrong h p = tt
part-from text at a (last kind e r) h p = p
part-from text at a (more x key e r) h p = ((omega arith, p.0.1, p.0.2, p.0.3, p.0.4, tt), p.1, p.2)

pub part-behind : (text : Text) (at : ℕ) (s : Text) (d : Step) → s ≡ drop at text → spaces at s ≡ d → PartAt text at (part_behind at d)
part-behind text at s bad h w = tt
part-behind text at s (behind a r) h w =
    let k : r ≡ drop a text = rw w at (spaces-keeps text at s h) in
    if-either (PartAt text at) (starts_with (bytes "/>") r) (omega arith, omega arith, ap (drop 2) k ∙ drop-drop 2 a text)
    (if-either (PartAt text at) (starts_with (bytes ">") r) (omega arith, omega arith, ap (drop 1) k ∙ drop-drop 1 a text)
    (if-either (PartAt text at) (eqb a at) tt (part-from text at a (attribute a r) (spaces-moves at s a r w).0 (attribute-at text a r k))))

pub part_at : (text : Text) (at : ℕ) (s : Text) → s ≡ drop at text → PartAt text at (part_of at s)
unfolding part_of
part_at text at s h = part-behind text at s (spaces at s) h refl

-- all parts of a tag: the attributes are those before and some more from here on
abbrev pub EndedAt : Text → ℕ → List AttributePairs → TagEnd → Type 0
EndedAt text at before unended = Unit {0}
EndedAt text at before (ended kind xs a u) =
    (ys : List AttributePairs) × (xs ≡ before ++ ys) × AttributesAt text at ys × (1 ≤ kind) × (kind ≤ 2) × (u ≡ drop a text)

pub attributes-weaken : (text : Text) (from at : ℕ) (xs : List AttributePairs) → from ≤ at → AttributesAt text at xs → AttributesAt text from xs
attributes-weaken text from at [] h p = tt
attributes-weaken text from at (x ∷ xs) h p = (omega (arith, p.0), p.1, p.2, p.3, p.4, p.5)

pub ended-more : (text : Text) (at a : ℕ) (before : List AttributePairs) (x : AttributePairs) (d : TagEnd) → AttributesAt text at (x ∷ []) → offset_behind x.value ≤ a
    → EndedAt text a (before ++ x ∷ []) d → EndedAt text at before d
ended-more text at a before x unended k h p = tt
ended-more text at a before x (ended kind xs e u) k h p = (
  x ∷ p.0,
  p.1 ∙ append_assoc before (x ∷ []) p.0,
  (k.0, k.1, k.2, k.3, k.4, attributes-weaken text (offset_behind x.value) a p.0 h p.2),
  p.3,
  p.4,
  p.5,
)

pub on-part : (text : Text) (next : List Text → List AttributePairs → ℕ → Text → TagEnd)
    → ((keys : List Text) (before : List AttributePairs) (a : ℕ) (r : Text) → r ≡ drop a text → EndedAt text a before (next keys before a r))
    → (keys : List Text) (before : List AttributePairs) (at : ℕ) (d : Part) → PartAt text at d → EndedAt text at before (on_part next keys before d)
on-part text next ih keys before at wrong p = tt
on-part text next ih keys before at (last kind a r) p = ([], sym (append-nil before), tt, p.0, p.1, p.2)
on-part text next ih keys before at (more x key a r) p =
    if-either (EndedAt text at before) (is_among key keys) tt
    (ended-more text at a before x (next (key ∷ keys) (before ++ x ∷ []) a r) p.0 p.1 (ih (key ∷ keys) (before ++ x ∷ []) a r p.2))

pub attributes-from : (turns : ℕ) (text : Text) (keys : List Text) (before : List AttributePairs) (at : ℕ) (s : Text) → s ≡ drop at text
    → EndedAt text at before (attributes_from turns keys before at s)
unfolding attributes_from
attributes-from zero text keys before at s h = tt
attributes-from (suc turns) text keys before at s h =
    on-part text (attributes_from turns) (λ ks xs a r k. attributes-from turns text ks xs a r k) keys before at (part_of at s) (part_at text at s h)

-- a whole tag
abbrev pub TaggedAt : Text → Tagged → Type 0
TaggedAt text untagged = Unit {0}
TaggedAt text (tagged kind pair xs n a r) = EventAt text (TapeEvent.tag kind pair xs) × (r ≡ drop a text)

pub less-before : (text : Text) (at : ℕ) (s : Text) (n : ℕ) (t : Text) → s ≡ drop at text → literal (bytes "<") at s ≡ behind n t → get_or text (n - 1) 0 ≡ code "<"
unfolding literal starts_with bytes first
less-before text at [] n t h q = absurd (bad-not q)
less-before text at (b ∷ s) n t h q =
    bool_cases (eqb b 60)
    (λ y.
    let e : at + 1 ≡ n = behind-at (rw y at q) in
    let place : n - 1 ≡ at = omega arith in
    ap (λ (k : ℕ). get_or text k 0) place ∙ sym (first-drop text at) ∙ ap first (sym h) ∙ eqb-true b 60 y)
    (λ y. absurd (bad-not (rw y at q)))

pub tagged-by : (text : Text) (n e : ℕ) (t : Text) (d : TagEnd) → n ≤ e → e ≤ length text → get_or text (n - 1) 0 ≡ code "<" → NameAt text (span n e) → EndedAt text e [] d
    → TaggedAt text (tagged_by (span n e) (leading_name t) d)
tagged-by text n e t unended h l b k p = tt
tagged-by text n e t (ended kind xs a u) h l b k p =
    ((p.3, p.4, b, k, omega arith, rw p.1 (attributes-weaken text (n + (e - n)) e p.0 (omega arith) p.2)), p.5)

pub attributes-behind : (text : Text) (n : ℕ) (t : Text) (d : Step) → t ≡ drop n text → get_or text (n - 1) 0 ≡ code "<" → name n t ≡ d → TaggedAt text (attributes_behind n t d)
unfolding attributes
attributes-behind text n t bad h b w = tt
attributes-behind text n t (behind e r) h b w =
    let p = name-passes n t e r w in
    let size : length t ≡ length text - n = ap length h ∙ length-drop n text in
    tagged-by text n e t (attributes e r) (omega arith) (omega arith) b (name-at text n t e r h w)
    (attributes-from (suc (length r)) text [] [] e r (rw w at (name-keeps text n t h)))

pub name-behind : (text : Text) (at : ℕ) (s : Text) (d : Step) → s ≡ drop at text → literal (bytes "<") at s ≡ d → TaggedAt text (name_behind d)
name-behind text at s bad h w = tt
name-behind text at s (behind n t) h w =
    attributes-behind text n t (name n t) (rw w at (literal-keeps (bytes "<") text at s h)) (less-before text at s n t h w) refl

pub tag_at : (text : Text) (at : ℕ) (s : Text) → s ≡ drop at text → TaggedAt text (tag at s)
unfolding tag
tag_at text at s h = name-behind text at s (literal (bytes "<") at s) h refl
