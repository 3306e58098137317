-- Laws of the root's turns (specs/Root.antt). Assumes nothing.
use Prim.Native.Nat.{ℕ, zero, suc, ◌+◌, ◌≤◌, ◌<◌}
use mathlib.Core.Path.{◌≡◌, refl, sym, ap, ◌∙◌}
use mathlib.Core.List.{List, [], ◌∷◌, ◌++◌}
use mathlib.Core.Bool.{true, false}
use native.Mathlib.Omega.{arith}
use native.Mathlib.Numerals.{add-one}
use lib.ListN.{length, get_or, set, take, drop, length-append}
use lib.Seq.{sets}
use mathlib.Core.Logic.{◌⊎◌, ⊎_elim}
use Rattle.text.specs.Text.{Text, bytes, same}
use Rattle.text.proofs.Laws.Tests.{bool_cases}
use Rattle.xsd_parser.specs.Tape.{Pair}
use Rattle.xsd_parser.specs.Kinds.{kind_number}
use Rattle.xsd_parser.specs.declared.kinds.Kind.{Kind}
use Rattle.xml.specs.Steps.{bad, behind, literal, spaces, name, leading_name}
use Rattle.xml.specs.Tape.{AttributePairs, TapeEvent, tape_marks, event_marks}
use Rattle.xml.specs.Tags.{Tagged, tagged, tag}
use Rattle.xml.specs.Root.{ending_by, Level, stop, on, opened, level_of_tag, level_of_close, level_of, Rooted, rooted, add_events, none_open, inside, root}
use Rattle.xml_parts.specs.Answers.{matched}
use Rattle.xml_text.specs.Answers.{names_up_to, GoesOn, IsRoot}
use Rattle.xml_text.specs.declared.root.WholeRoot.{WholeRoot}
use Rattle.xml_text.specs.declared.onward.Onward.{Onward}
use Rattle.std.specs.Prelude.{Option, Some, None}
use Rattle.xml_text.proofs.Laws.Marks.{sets-append}
use Rattle.xml.proofs.Laws.Moves.{inside-text, literal-passes, name-passes, spaces-moves}
use Rattle.xml.proofs.Laws.Names.{bad-not}
use Rattle.xml.proofs.Laws.Root.{closing, unmatched, one-event, root-found, tape-append}
use Rattle.xml_text.proofs.Laws.Tags.{names-push, names-cong}

-- an end tag is held against the innermost open tag
pub close-same : (text : Text) (slots : List ℕ) (count j : ℕ) (n : Text) (a : ℕ) (r : Text) → count ≡ suc j → same n (leading_name (drop (get_or slots j 0) text)) ≡ true
    → level_of_close (names_up_to text slots count) n a r ≡ on (names_up_to text slots j) (TapeEvent.close ∷ []) a r
unfolding names_up_to
close-same text slots count j n a r e h = rw (e, h)

-- the numbers of a close
pub put-close : (m : List ℕ) (used : ℕ) → set (set m used 3) (used + 1) 0 ≡ sets m used (tape_marks (TapeEvent.close ∷ []))
unfolding tape_marks event_marks
put-close m used = let one : used + 1 ≡ suc used = omega arith in rw one

-- a tag behind the open tags, where the slots below are as they were
pub open-start : (text : Text) (slots after : List ℕ) (count start : ℕ) (kind : Kind) (pair : Pair) (xs : List AttributePairs) (a : ℕ) (r : Text)
    → kind ≡ Kind.Start → take count after ≡ take count slots
    → count < length after
    → level_of_tag (names_up_to text slots count) (tagged (kind_number kind) pair xs (leading_name (drop start text)) a r)
    ≡ on (names_up_to text (set after count start) (count + 1)) (TapeEvent.tag (kind_number kind) pair xs ∷ []) a r
unfolding opened
open-start text slots after count start kind pair xs a r k e h =
    let names = names-push text after count start h ∙ ap (λ (l : List Text). leading_name (drop start text) ∷ l) (names-cong text after slots count e) in
    rw (add-one count, names, k)

pub open-empty : (text : Text) (slots after : List ℕ) (count start : ℕ) (kind : Kind) (pair : Pair) (xs : List AttributePairs) (a : ℕ) (r : Text) → (kind ≡ Kind.Empty) ⊎ (kind ≡ Kind.Close)
    → take count after ≡ take count slots
    → level_of_tag (names_up_to text slots count) (tagged (kind_number kind) pair xs (leading_name (drop start text)) a r)
    ≡ on (names_up_to text after count) (TapeEvent.tag (kind_number kind) pair xs ∷ []) a r
unfolding opened
open-empty text slots after count start kind pair xs a r k e =
    let names = names-cong text after slots count e in
    ⊎_elim (λ (h : kind ≡ Kind.Empty). rw (names, h)) (λ (h : kind ≡ Kind.Close). rw (names, h)) k

-- an answer of one tag, where its kind says which tags are open behind it
pub one-tag : (text : Text) (at : ℕ) (slots marks : List ℕ) (used : ℕ) (after : List ℕ) (count n a : ℕ) (event : TapeEvent) (tags : List Text) {found tag : Tagged} → found ≡ tag
    → level_of_tag tags tag ≡ on (names_up_to text slots count) (event ∷ []) a (drop a text)
    → n ≡ used + length (event_marks event) → after ≡ sets marks used (event_marks event)
    → at < a → a ≤ length text → (events : List TapeEvent) × (level_of_tag tags found ≡ on (names_up_to text slots count) events a (drop a text)) × (n ≡ used + length (tape_marks events))
    × (after ≡ sets marks used (tape_marks events)) × (at < a) × (a ≤ length text)
one-tag text at slots marks used after count n a event tags f l e m h k = (
  event ∷ [],
  ap (level_of_tag tags) f ∙ l,
  omega (arith, e, ap length (one-event event)),
  m ∙ ap (sets marks used) (sym (one-event event)),
  h,
  k,
)

pub goes-weaken : (text : Text) (at start : ℕ) (slots marks : List ℕ) (used : ℕ) (after : List ℕ) (r : Option Onward) (d : Level) → at ≤ start → GoesOn text start slots marks used after r d
    → GoesOn text at slots marks used after r d
goes-weaken text at start slots marks used after None d h p = p
goes-weaken text at start slots marks used after (Some o) d h p = (p.0, p.1, p.2, p.3, omega (arith, p.4), p.5)

pub level-bad : (text : Text) (slots : List ℕ) (count j n : ℕ) → count ≡ suc j → matched text n (get_or slots j 0) ≡ bad
    → level_of (names_up_to text slots count) (ending_by (leading_name (drop n text)) (closing n (drop n text))) ≡ stop
unfolding matched names_up_to
level-bad text slots count j n k e =
    rw k
    (bool_cases (same (leading_name (drop n text)) (leading_name (drop (get_or slots j 0) text)))
    (λ h. let b : name n (drop n text) ≡ bad = rw h at e in rw b)
    (λ h. unmatched _ (names_up_to text slots j) _ (closing n (drop n text)) h))

pub matched_to : (text : Text) (n top e : ℕ) → matched text n top ≡ behind e (drop e text)
    → (same (leading_name (drop n text)) (leading_name (drop top text)) ≡ true) × (name n (drop n text) ≡ behind e (drop e text))
unfolding matched
matched_to text n top e q =
    bool_cases (same (leading_name (drop n text)) (leading_name (drop top text)))
    (λ h. (h, rw h at q))
    (λ h. absurd (bad-not (rw h at q)))

-- an end tag stands inside the text
pub close-inside : (text : Text) (at n top e f g : ℕ) → behind n (drop n text) ≡ literal (bytes "</") at (drop at text) → behind e (drop e text) ≡ matched text n top
    → behind f (drop f text) ≡ spaces e (drop e text)
    → behind g (drop g text) ≡ literal (bytes ">") f (drop f text) → (at + 2 < g) × (g ≤ length text)
unfolding bytes
close-inside text at n top e f g l m s r =
    let li = inside-text (literal-passes (bytes "</") (omega arith)) text at n (sym l) in
    let ni = inside-text name-passes text n e (matched_to text n top e (sym m)).1 in
    let si = spaces-moves _ _ _ _ (sym s) in
    let gi = inside-text (literal-passes (bytes ">") (omega arith)) text f g (sym r) in
    (omega arith, gi.1)

pub some-open : (text : Text) (slots : List ℕ) (k : ℕ) → 0 < k → none_open (names_up_to text slots k) ≡ false
unfolding names_up_to
some-open text slots zero h = absurd (omega arith)
some-open text slots (suc k) h = refl

pub inside-end : (turns : ℕ) (text : Text) (slots : List ℕ) (left at : ℕ) (s : Text) → 0 < turns → left ≤ 0 → inside turns (names_up_to text slots left) at s ≡ rooted [] at s
unfolding inside names_up_to
inside-end zero text slots left at s h k = absurd (omega arith)
inside-end (suc turns) text slots zero at s h k = refl
inside-end (suc turns) text slots (suc left) at s h k = absurd (omega arith)

-- the numbers of more events
pub tape-more : (m : List ℕ) (used n : ℕ) (xs ys : List TapeEvent) → n ≡ used + length (tape_marks xs) → sets (sets m used (tape_marks xs)) n (tape_marks ys) ≡ sets m used (tape_marks (xs ++ ys))
tape-more m used n xs ys e =
    rw (e, tape-append xs ys) (sym (sets-append m used (tape_marks xs) (tape_marks ys)))

-- the root's tag and its content together
pub root-joined : (text : Text) (m m1 m2 : List ℕ) (n : ℕ) (es : List TapeEvent) (r : Option WholeRoot) (inner whole : Rooted) → whole ≡ add_events es inner → m1 ≡ sets m 0 (tape_marks es)
    → n ≡ 0 + length (tape_marks es)
    → IsRoot text m1 n m2 r inner → IsRoot text m 0 m2 r whole
unfolding add_events
root-joined text m m1 m2 n es None inner whole w s e p = w ∙ ap (add_events es) p
root-joined text m m1 m2 n es (Some k) inner whole w s e p = (
  es ++ p.0,
  w ∙ ap (add_events es) p.1,
  omega (arith, p.2, ap length (tape-append es p.0), length-append (tape_marks es) (tape_marks p.0)),
  p.3 ∙ ap (λ (l : List ℕ). sets l n (tape_marks p.0)) s ∙ tape-more m 0 n es p.0 e,
)

-- the root by its tag and its content
pub root-one : (text : Text) (m m1 m2 : List ℕ) (at n : ℕ) (event : TapeEvent) (tags : List Text) (a : ℕ) {found : Tagged} (r : Option WholeRoot) → tag at (drop at text) ≡ found
    → level_of_tag [] found ≡ on tags (event ∷ []) a (drop a text)
    → n ≡ 0 + length (event_marks event) → m1 ≡ sets m 0 (event_marks event)
    → IsRoot text m1 n m2 r (inside (suc (length (drop a text))) tags a (drop a text)) → IsRoot text m 0 m2 r (root at (drop at text))
root-one text m m1 m2 at n event tags a r f l k s i =
    root-joined text m m1 m2 n (event ∷ []) r _ _ (root-found at _ _ (ap (level_of_tag []) f ∙ l)) (s ∙ ap (sets m 0) (sym (one-event event)))
    (omega (arith, k, ap length (one-event event))) i
