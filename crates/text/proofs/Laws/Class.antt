-- The class of texts: the laws by which the other crates speak of what a text may hold. Outside this crate nothing unfolds `is_text` and `is_graph_text`.
-- Assumes nothing.
use mathlib.Core.Path.{◌≡◌, refl, sym, ◌∙◌}
use mathlib.Core.Bool.{Bool, true, false, ◌&&◌, and_assoc, and-false, false≢true}
use mathlib.Core.List.{List, [], ◌∷◌, ◌++◌}
use Prim.Native.Nat.{ℕ, ◌≤◌}
use native.Mathlib.Omega.{arith}
use lib.Dec.{eqb, ltb}
use lib.ListN.{take, drop}
use borrow.Author.Tests.{eqb-true, ne_eqb, ltb-true, lt-leb}
use Rattle.text.specs.Text.{Text, every, is_plain_byte, is_plain, between, is_tail, is_pair, is_graph_pair, text_by, is_text, is_graph_text, upper_byte, lower_byte, join}
use Rattle.std.proofs.lemmas.Bool.{and_parts, false_from_ne_true}
use Rattle.text.proofs.Laws.Tests.{and-true-right, and-true, or_four, bool_cases}
use Rattle.text.proofs.Laws.Every.{every_append, every_take, every_drop}
use Rattle.text.proofs.Laws.Texts.{between-low, between-high, between-below, upper-plain, lower-plain}
use Rattle.text.proofs.Laws.Pairs.{by-plain, by-append, by-join, by-cut, by-wider}

-- ---- plain texts

pub plain-append : (x y : Text) → is_plain (x ++ y) ≡ is_plain x && is_plain y
unfolding is_plain
plain-append x y = every_append is_plain_byte x y

-- each of some texts passes where they are plain put together; `ok` is a test of texts that plain ones pass
pub each-plain : (ok : Text → Bool) → ((s : Text) → is_plain s ≡ true → ok s ≡ true) → (ts : List Text) → is_plain (join ts) ≡ true → every ok ts ≡ true
unfolding every join
each-plain ok plain [] e = refl
each-plain ok plain (t ∷ ts) e = let (x, y) = and_parts (is_plain t) (is_plain (join ts)) (sym (plain-append t (join ts)) ∙ e) in and-true (plain t x) (each-plain ok plain ts y)

-- a part of a plain text is plain
pub plain-part : (at size : ℕ) (s : Text) → is_plain s ≡ true → is_plain (take size (drop at s)) ≡ true
unfolding is_plain
plain-part at size s e = every_take is_plain_byte size (drop at s) (every_drop is_plain_byte at s e)

-- ---- what is a character

high-tail : (b : ℕ) → is_tail b ≡ true → (128 ≤ b) × (b ≤ 191)
unfolding is_tail
high-tail b e = (between-low 128 191 b e, between-high 128 191 b e)

low-none : (b u : ℕ) → b ≤ 191 → is_graph_pair b u ≡ false
unfolding is_graph_pair is_pair
low-none b u h =
    rw (between-below 194 197 b (omega arith), ne_eqb b 202 (λ w. omega arith), ne_eqb b 204 (λ w. omega arith), ne_eqb b 206 (λ w. omega arith))

pub pair-in-graph : (l b : ℕ) → is_pair l b ≡ true → is_graph_pair l b ≡ true
unfolding is_graph_pair
pair-in-graph l b e = rw e

graph-tail : (l b : ℕ) → is_graph_pair l b ≡ true → (128 ≤ b) × (b ≤ 191)
unfolding is_graph_pair is_pair
graph-tail l b e =
    or_four (is_pair l b) (eqb l 202 && eqb b 188) (eqb l 204 && eqb b 135) (eqb l 206 && eqb b 156) e
    (λ w. high-tail b (and-true-right (between 194 197 l) (is_tail b) w))
    (λ w. exact 202 188 w (omega arith) (omega arith))
    (λ w. exact 204 135 w (omega arith) (omega arith))
    (λ w. exact 206 156 w (omega arith) (omega arith))
  where
    exact : (k n : ℕ) → eqb l k && eqb b n ≡ true → 128 ≤ n → n ≤ 191 → (128 ≤ b) × (b ≤ 191)
    exact k n w h i = let e = eqb-true b n (and-true-right (eqb l k) (eqb b n) w) in (omega arith, omega arith)

graph-apart : (l b u : ℕ) → is_graph_pair l b ≡ true → (128 ≤ b) × (is_graph_pair b u ≡ false)
graph-apart l b u e = let (x, y) = graph-tail l b e in (x, low-none b u y)

pair-apart : (l b u : ℕ) → is_pair l b ≡ true → (128 ≤ b) × (is_pair b u ≡ false)
pair-apart l b u e =
    let (x, y) = graph-apart l b u (pair-in-graph l b e) in (x, false_from_ne_true (is_pair b u) (λ h. false≢true (sym y ∙ pair-in-graph b u h)))

-- ---- texts

pub empty-text : is_text [] ≡ true
unfolding is_text text_by
empty-text = refl

pub plain-text : (s : Text) → is_plain s ≡ true → is_text s ≡ true
unfolding is_text
plain-text s e = by-plain is_pair s e

-- a part of a plain text is a text
pub plain-part-text : (at size : ℕ) (s : Text) → is_plain s ≡ true → is_text (take size (drop at s)) ≡ true
plain-part-text at size s e = plain-text (take size (drop at s)) (plain-part at size s e)

-- behind a text what follows decides
pub text-append : (x y : Text) → is_text x ≡ true → is_text (x ++ y) ≡ is_text y
unfolding is_text
text-append x y e = by-append is_pair x y 0 e

pub texts-append : (x y : Text) → is_text x ≡ true → is_text y ≡ true → is_text (x ++ y) ≡ true
texts-append x y e h = text-append x y e ∙ h

-- behind a byte below 128 what follows decides
pub text-behind : (b : ℕ) (s : Text) → ltb b 128 ≡ true → is_text (b ∷ s) ≡ is_text s
unfolding is_text text_by is_plain_byte
text-behind b s e = rw e

-- a character of two bytes, and what follows decides
pub text-pair : (b t : ℕ) (s : Text) → ltb b 128 ≡ false → is_text (b ∷ t ∷ s) ≡ is_pair b t && is_text s
unfolding is_text text_by is_plain_byte
text-pair b t s e = rw (e, ne_eqb b 0 (λ h. false≢true (sym (rw h at e))))

-- a byte from 128 on is no text by itself
pub text-high : (b : ℕ) → ltb b 128 ≡ false → is_text (b ∷ []) ≡ false
unfolding is_text text_by is_plain_byte
text-high b e = rw (e, ne_eqb b 0 (λ h. false≢true (sym (rw h at e))))

-- a byte below 128 ends no character
low-no-tail : (c b : ℕ) → ltb b 128 ≡ true → is_pair c b ≡ false
unfolding is_pair is_tail between
low-no-tail c b e = rw (lt-leb 128 b (ltb-true b 128 e), and-false (between 194 197 c))

-- either form of a byte that is a text is one
plain-byte : (b : ℕ) → is_text (b ∷ []) ≡ true → is_plain_byte b ≡ true
unfolding is_plain_byte
plain-byte b e = bool_cases (ltb b 128) (λ h. h) (λ h. absurd (false≢true (sym (text-high b h) ∙ e)))

pub upper-text : (b : ℕ) → is_text (b ∷ []) ≡ true → is_text (upper_byte b ∷ []) ≡ true
unfolding is_plain_byte
upper-text b e = text-behind (upper_byte b) [] (upper-plain b (plain-byte b e)) ∙ empty-text

pub lower-text : (b : ℕ) → is_text (b ∷ []) ≡ true → is_text (lower_byte b ∷ []) ≡ true
unfolding is_plain_byte
lower-text b e = text-behind (lower_byte b) [] (lower-plain b (plain-byte b e)) ∙ empty-text

-- texts put together are a text
pub text-join : (ts : List Text) → every is_text ts ≡ true → is_text (join ts) ≡ true
unfolding is_text
text-join ts e = by-join is_pair ts e

-- a text that is cut in front of a text leaves a text
pub text-cut : (x y : Text) → is_text (x ++ y) ≡ true → is_text y ≡ true → is_text x ≡ true
unfolding is_text
text-cut x y e h = by-cut is_pair pair-apart x y 0 e h

-- a byte below 128 stands between two texts
pub text-around : (x : Text) (b : ℕ) (y : Text) → ltb b 128 ≡ true → is_text (x ++ b ∷ y) ≡ is_text x && is_text y
text-around [] b y e = text-behind b y e ∙ (rw empty-text)
text-around (c ∷ []) b y e =
    bool_cases (ltb c 128)
    (λ h. text-behind c (b ∷ y) h ∙ text-behind b y e ∙ (rw (text-behind c [] h, empty-text)))
    (λ h. text-pair c b y h ∙ (rw (low-no-tail c b e, text-high c h)))
text-around (c ∷ t ∷ x) b y e =
    bool_cases (ltb c 128)
    (λ h. text-behind c (t ∷ x ++ b ∷ y) h ∙ text-around (t ∷ x) b y e ∙ (rw (text-behind c (t ∷ x) h)))
    (λ h. text-pair c t (x ++ b ∷ y) h ∙ (rw (text-around x b y e, text-pair c t x h) (sym (and_assoc (is_pair c t) (is_text x) (is_text y)))))

-- ---- texts of graphs

-- what a sheet may hold a graph may hold
pub text-in-graph : (s : Text) → is_text s ≡ true → is_graph_text s ≡ true
unfolding is_text is_graph_text
text-in-graph s e = by-wider is_pair is_graph_pair pair-in-graph s 0 e

pub plain-graph-text : (s : Text) → is_plain s ≡ true → is_graph_text s ≡ true
plain-graph-text s e = text-in-graph s (plain-text s e)

pub graph-text-append : (x y : Text) → is_graph_text x ≡ true → is_graph_text (x ++ y) ≡ is_graph_text y
unfolding is_graph_text
graph-text-append x y e = by-append is_graph_pair x y 0 e
