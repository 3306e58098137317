-- Laws of specs/Names.antt: each conversion is one scan over the characters, gives a text of graphs, and normalising changes nothing the second time.
-- Assumes nothing.
use Rattle.std.specs.Prelude.{if◌then◌else◌}
use mathlib.Core.Path.{◌≡◌, refl, sym, ap, ◌∙◌}
use mathlib.Core.Bool.{Bool, true, false, ◌&&◌, and-false}
use mathlib.Core.List.{List, [], ◌∷◌, ◌++◌, map, append_assoc}
use Prim.Native.Nat.{ℕ, ◌≤◌, ◌<◌}
use Prim.Native.Char.{code}
use native.Mathlib.Omega.{arith}
use lib.Dec.{eqb}
use lib.ListN.{get_or}
use borrow.Author.Tests.{eqb-false, ne_eqb}
use Rattle.text.specs.Text.{Text, is_plain_byte, is_plain, is_tail, between, is_lower, upper_byte, contains, in_front, split, join, first, every, is_text, is_graph_text}
use Rattle.text.specs.Characters.{is_lead, characters, is_byte}
use Rattle.text.proofs.Laws.Tests.{if-cases, if-in, if-either, bool_cases, or-false-left, or-false-right}
use Rattle.text.proofs.Laws.Texts.{between-low, between-high}
use Rattle.text.proofs.Laws.Every.{every-head, every-tail}
use Rattle.text.proofs.Laws.Class.{empty-text, text-in-graph, plain-graph-text, graph-text-append}
use Rattle.text.proofs.Laws.Characters.{characters-one, characters-two, by_characters, lead-high, tail-high, characters-text}
use Rattle.names.specs.Cases.{upper_of, first_lower, is_upper_char}
use Rattle.names.specs.Names.{capital, normalize_type_name, starts_word, snake_from, xml_to_snake_case, code_to_pascal_case}
use Rattle.names.specs.Scans.{cased, segments}
use Rattle.names.specs.Same.{spelled, form_left, reading_of, rest_left}
use Rattle.names.proofs.Laws.Cases.{upper_of-text, lower_of-text, first_lower-text, upper_of-underscore}

-- ---- a conversion is one scan

-- a segment's characters behind the first one
abbrev rest_of : Bool → Text → Text
rest_of lowers t = join (map (cased false lowers) (characters t))

abbrev capital_of : Bool → Text → Text
capital_of lowers t = capital (cased false lowers) (characters t)

-- the segments ts put together; `up` says whether the first of them is whole
opened : Bool → Bool → List Text → Text
opened lowers up [] = []
opened lowers up (t ∷ ts) = (if up then capital_of lowers t else rest_of lowers t) ++ join (map (capital_of lowers) ts)

opened-whole : (lowers : Bool) (ts : List Text) → opened lowers true ts ≡ join (map (capital_of lowers) ts)
unfolding opened join
opened-whole lowers [] = refl
opened-whole lowers (t ∷ ts) = refl

opened-next : (lowers up : Bool) (ts : List Text) → opened lowers up ([] ∷ ts) ≡ opened lowers true ts
unfolding opened capital characters join
opened-next lowers true ts = sym (opened-whole lowers ts)
opened-next lowers false ts = sym (opened-whole lowers ts)

-- a first segment that begins with the character c, whose rest is u
opened-front : (lowers up : Bool) (c t u : Text) (ts : List Text) → characters t ≡ c ∷ characters u → opened lowers up (t ∷ ts) ≡ cased up lowers c ++ opened lowers false (u ∷ ts)
unfolding opened capital cased join
opened-front lowers true c t u ts e = rw (e, append_assoc)
opened-front lowers false c t u ts e = rw (e, append_assoc)

module _ (lowers up : Bool) (b : ℕ) where
  front-one : (ts : List Text) → is_lead b && is_tail (first (get_or ts 0 [])) ≡ false → opened lowers up (in_front b ts) ≡ cased up lowers (b ∷ []) ++ opened lowers false ts
  unfolding in_front first opened join characters
  front-one [] e = opened-front lowers up (b ∷ []) (b ∷ []) [] [] (characters-one b [] e)
  front-one (t ∷ ts) e = opened-front lowers up (b ∷ []) (b ∷ t) t ts (characters-one b t e)

  front-two : (t : ℕ) (ts : List Text) → is_lead b && is_tail t ≡ true → opened lowers up (in_front b (in_front t ts)) ≡ cased up lowers (b ∷ t ∷ []) ++ opened lowers false ts
  unfolding in_front opened join characters
  front-two t [] e = opened-front lowers up (b ∷ t ∷ []) (b ∷ t ∷ []) [] [] (characters-two b t [] e)
  front-two t (u ∷ ts) e = opened-front lowers up (b ∷ t ∷ []) (b ∷ t ∷ u) u ts (characters-two b t u e)

-- the first byte of the first segment is the text's, or there is none
front-first : (b : ℕ) (ts : List Text) → first (get_or (in_front b ts) 0 []) ≡ b
unfolding in_front first
front-first b [] = refl
front-first b (t ∷ ts) = refl

split-tail : (x : Bool) (c : ℕ) (s : Text) → x && is_tail (first s) ≡ false → x && is_tail (first (get_or (split c s) 0 [])) ≡ false
unfolding split first is_tail between
split-tail x c [] e = e
split-tail x c (b ∷ s) e =
    if-cases (λ (ts : List Text). x && is_tail (first (get_or ts 0 [])) ≡ false) (eqb b c) (λ h. and-false x) (λ h. rw (front-first b (split c s)) e)

-- a byte from 128 on is no separator
module _ (c : ℕ) (low : c < 128) where
  high-other : (b : ℕ) → 128 ≤ b → eqb b c ≡ false
  high-other b h = ne_eqb b c (λ e. omega arith)

  opened-split : (lowers : Bool) (s : Text) (up : Bool) → opened lowers up (split c s) ≡ segments c lowers up (characters s)
  unfolding opened split segments characters is_byte capital join
  opened-split lowers s =
      by_characters (λ u. (up : Bool) → opened lowers up (split c u) ≡ segments c lowers up (characters u)) (λ up. if-either (λ (r : Text). r ++ [] ≡ []) up refl refl)
      (λ b u e h up. rw (characters-one b u e)
      (if-in (opened lowers up) (eqb b c) (opened-next lowers up (split c u) ∙ h true)
      (front-one lowers up b (split c u) (split-tail (is_lead b) c u e) ∙ ap (λ (t : Text). cased up lowers (b ∷ []) ++ t) (h false))))
      (λ b t u e h up. rw (characters-two b t u e, high-other b (lead-high b t e), high-other t (tail-high b t e))
      (front-two lowers up b t (split c u) e ∙ ap (λ (r : Text). cased up lowers (b ∷ t ∷ []) ++ r) (h false)))
      s

  -- split, each segment cased, joined: that is one scan
  pub segments-split : (lowers : Bool) (s : Text) → segments c lowers true (characters s) ≡ join (map (λ t. capital (cased false lowers) (characters t)) (split c s))
  segments-split lowers s = sym (opened-split lowers s true) ∙ opened-whole lowers (split c s)

  pub segments-plain : (s : Text) → contains c s ≡ false → segments c false false (characters s) ≡ s
  unfolding segments contains characters is_byte cased
  segments-plain s =
      by_characters (λ u. contains c u ≡ false → segments c false false (characters u) ≡ u) (λ e. refl)
      (λ b u e h k. rw (characters-one b u e, or-false-left (eqb b c) (contains c u) k, h (or-false-right (eqb b c) (contains c u) k)))
      (λ b t u e h k. rw (characters-two b t u e, h (or-false-right (eqb t c) (contains c u) (or-false-right (eqb b c) (contains c (t ∷ u)) k))))
      s

pub segments-pascal : (s : Text) → segments (code "-") true true (characters s) ≡ code_to_pascal_case s
unfolding code_to_pascal_case cased
segments-pascal s = segments-split (code "-") (omega arith) true s

-- a name with an underscore is told by its segments
pub normalize-parted : (s : Text) → contains (code "_") s ≡ true → segments (code "_") false true (characters s) ≡ normalize_type_name s
unfolding cased normalize_type_name
normalize-parted s e = segments-split (code "_") (omega arith) false s ∙ rw e

-- any other name is itself
pub normalize-plain : (s : Text) → contains (code "_") s ≡ false → normalize_type_name s ≡ s
unfolding normalize_type_name
normalize-plain s e = rw e

pub segments-normalize : (s : Text) → segments (code "_") false (contains (code "_") s) (characters s) ≡ normalize_type_name s
segments-normalize s =
    bool_cases (contains (code "_") s)
    (λ e. rw e (normalize-parted s e))
    (λ e. rw e (segments-plain (code "_") (omega arith) s e ∙ sym (normalize-plain s e)))

-- a name is read by its segments where it normalises and has an underscore, else as it stands
pub spelled-read : (normalised parted : Bool) (name : Text) → (normalised ≡ true → parted ≡ contains (code "_") name) → (normalised ≡ false → parted ≡ false)
    → form_left (reading_of parted) ++ rest_left (reading_of parted) (code "_") false true name ≡ spelled normalised name
unfolding spelled
spelled-read false parted name h k = rw (k refl)
spelled-read true parted name h k =
    bool_cases parted
    (λ e. rw e (normalize-parted name (sym (h refl) ∙ e)))
    (λ e. rw e (sym (normalize-plain name (sym (h refl) ∙ e))))

-- ---- a text's conversion is a text of graphs

pub cased-text : (up lowers : Bool) (c : Text) → is_text c ≡ true → is_graph_text (cased up lowers c) ≡ true
unfolding cased
cased-text true lowers c e = upper_of-text c e
cased-text false true c e = lower_of-text c e
cased-text false false c e = text-in-graph c e

empty-graph : is_graph_text [] ≡ true
empty-graph = text-in-graph [] empty-text

pub segments-text : (c : ℕ) (lowers up : Bool) (cs : List Text) → every is_text cs ≡ true → is_graph_text (segments c lowers up cs) ≡ true
unfolding segments
segments-text c lowers up [] e = empty-graph
segments-text c lowers up (x ∷ cs) e =
    let k = every-tail is_text x cs e in
    if-cases
    (λ r. is_graph_text r ≡ true)
    (is_byte c x)
    (λ w. segments-text c lowers true cs k)
    (λ w. graph-text-append (cased up lowers x) (segments c lowers false cs) (cased-text up lowers x (every-head is_text x cs e)) ∙ segments-text c lowers false cs k)

pub normalize-text : (s : Text) → is_text s ≡ true → is_graph_text (normalize_type_name s) ≡ true
normalize-text s e = rw segments-normalize at (segments-text (code "_") false (contains (code "_") s) (characters s) (characters-text s e))

pub pascal-text : (s : Text) → is_text s ≡ true → is_graph_text (code_to_pascal_case s) ≡ true
pascal-text s e = rw segments-pascal at (segments-text (code "-") true true (characters s) (characters-text s e))

underscore-graph : (s : Text) → is_graph_text (code "_" ∷ s) ≡ is_graph_text s
unfolding is_plain every is_plain_byte
underscore-graph s = graph-text-append (code "_" ∷ []) s (plain-graph-text (code "_" ∷ []) refl)

pub snake_from-text : (prev : Text) (cs : List Text) → every is_text cs ≡ true → is_graph_text (snake_from prev cs) ≡ true
unfolding snake_from
snake_from-text prev [] e = empty-graph
snake_from-text prev (c ∷ cs) e =
    let rest = graph-text-append (first_lower c) (snake_from c cs) (first_lower-text c (every-head is_text c cs e)) ∙ snake_from-text c cs (every-tail is_text c cs e) in
    if-cases (λ r. is_graph_text r ≡ true) (starts_word prev c (get_or cs 0 [])) (λ w. underscore-graph (first_lower c ++ snake_from c cs) ∙ rest) (λ w. rest)

pub snake-text : (s : Text) → is_text s ≡ true → is_graph_text (xml_to_snake_case s) ≡ true
unfolding xml_to_snake_case
snake-text s e = snake_from-text [] (characters s) (characters-text s e)

-- ---- the second time normalising changes nothing

pub contains-behind : (c : ℕ) (s r : Text) → contains c s ≡ false → contains c (s ++ r) ≡ contains c r
unfolding contains
contains-behind c [] r e = refl
contains-behind c (b ∷ s) r e = rw (or-false-left (eqb b c) (contains c s) e) (contains-behind c s r (or-false-right (eqb b c) (contains c s) e))

upper-other : (b : ℕ) → (b ≡ code "_" → ⊥) → upper_byte b ≡ code "_" → ⊥
unfolding upper_byte
upper-other b h =
    if-cases (λ r. r ≡ code "_" → ⊥) (is_lower b) (λ l e. omega (arith, between-low 97 122 b l, between-high 97 122 b l)) (λ l. h)

-- a character that is not the underscore has none in it, nor has its upper form
one-other : (up : Bool) (b : ℕ) → (b ≡ code "_" → ⊥) → contains (code "_") (cased up false (b ∷ [])) ≡ false
unfolding cased upper_of contains
one-other true b h = rw (ne_eqb (upper_byte b) (code "_") (upper-other b h))
one-other false b h = rw (ne_eqb b (code "_") h)

two-other : (b t : ℕ) → 128 ≤ b → 128 ≤ t → contains (code "_") (b ∷ t ∷ []) ≡ false
unfolding contains
two-other b t h k = rw (high-other (code "_") (omega arith) b h, high-other (code "_") (omega arith) t k)

pair-other : (up : Bool) (b t : ℕ) → 128 ≤ b → 128 ≤ t → contains (code "_") (cased up false (b ∷ t ∷ [])) ≡ false
unfolding cased
pair-other true b t h k = upper_of-underscore b t [] (two-other b t h k)
pair-other false b t h k = two-other b t h k

pub segments-no-underscore : (s : Text) (up : Bool) → contains (code "_") (segments (code "_") false up (characters s)) ≡ false
unfolding segments contains characters is_byte
segments-no-underscore s =
    by_characters (λ u. (up : Bool) → contains (code "_") (segments (code "_") false up (characters u)) ≡ false) (λ up. refl)
    (λ b u e h up. rw (characters-one b u e)
    (if-cases (λ r. contains (code "_") r ≡ false) (eqb b (code "_")) (λ k. h true)
    (λ k. contains-behind (code "_") (cased up false (b ∷ [])) (segments (code "_") false false (characters u)) (one-other up b (eqb-false b (code "_") k)) ∙ h false)))
    (λ b t u e h up. rw (characters-two b t u e)
    (contains-behind (code "_") (cased up false (b ∷ t ∷ [])) (segments (code "_") false false (characters u)) (pair-other up b t (lead-high b t e) (tail-high b t e)) ∙ h false))
    s

pub normalize-no-underscore : (s : Text) → contains (code "_") (normalize_type_name s) ≡ false
normalize-no-underscore s = rw segments-normalize at (segments-no-underscore s (contains (code "_") s))

pub normalize-twice : (s : Text) → normalize_type_name (normalize_type_name s) ≡ normalize_type_name s
normalize-twice s = normalize-plain (normalize_type_name s) (normalize-no-underscore s)

-- no word starts at a character that is no upper letter
pub word-not-upper : (prev c next : Text) → is_upper_char c ≡ false → starts_word prev c next ≡ false
unfolding starts_word
word-not-upper prev c next e = rw e
