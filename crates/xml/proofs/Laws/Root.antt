-- Laws of the root's turns (specs/Root.antt). Assumes nothing.
use Prim.Native.Nat.{ℕ, zero, suc, ◌-◌, ◌≤◌, ◌<◌}
use mathlib.Core.Path.{◌≡◌, refl, sym, ap, ◌∙◌}
use mathlib.Core.List.{List, [], ◌∷◌, ◌++◌, append-nil, append_assoc}
use mathlib.Core.Bool.{true, false}
use native.Mathlib.Omega.{arith}
use lib.ListN.{length}
use Rattle.text.specs.Text.{Text, bytes, same}
use Rattle.xml.specs.Steps.{Step, bad, behind, ◌and_then◌, starts_with, literal, spaces, name, leading_name}
use Rattle.xml.specs.Values.{char_data}
use Rattle.xml.specs.Tape.{TapeEvent, tape_marks, event_marks}
use Rattle.xml.specs.Tags.{tag}
use Rattle.xml.specs.Root.{Piece, ending_by, close, markup, piece, Level, stop, on, level_of_tag, level_of, turn, Rooted, unrooted, rooted, add_events, none_open, inside, on_level, inside_all, root}

pub close-size : length (tape_marks (TapeEvent.close ∷ [])) ≡ 2
unfolding tape_marks event_marks
close-size = refl

-- the numbers of one event
pub one-event : (e : TapeEvent) → tape_marks (e ∷ []) ≡ event_marks e
unfolding tape_marks
one-event e = append-nil (event_marks e)

-- a turn by what stands behind the text before it
pub turn-bad : (tags : List Text) (at : ℕ) (s : Text) → char_data at s ≡ bad → turn tags at s ≡ stop
unfolding turn piece
turn-bad tags at s e = rw e

pub turn-of : (tags : List Text) (at : ℕ) (s : Text) (a : ℕ) (r : Text) (d : Piece) → char_data at s ≡ behind a r → markup a r ≡ d → turn tags at s ≡ level_of tags d
unfolding turn piece
turn-of tags at s a r d e h = rw (e, h)

pub markup-close : (at : ℕ) (s : Text) → starts_with (bytes "</") s ≡ true → markup at s ≡ close at s
unfolding markup
markup-close at s e = rw e

-- an end tag, by its parts
abbrev pub closing : ℕ → Text → Step
closing n t = name n t and_then spaces and_then literal (bytes ">")

pub closing-of : (n : ℕ) (t : Text) {e f : ℕ} {r u : Text} {d : Step} → name n t ≡ behind e r → behind f u ≡ spaces e r → literal (bytes ">") f u ≡ d → closing n t ≡ d
closing-of n t h k q = rw (h, sym k) q

pub close-bad : (at : ℕ) (s : Text) → literal (bytes "</") at s ≡ bad → close at s ≡ Piece.wrong
unfolding close
close-bad at s e = rw e

pub close_of : (at : ℕ) (s : Text) (n : ℕ) (t : Text) (d : Step) → literal (bytes "</") at s ≡ behind n t → closing n t ≡ d → close at s ≡ ending_by (leading_name t) d
unfolding close
close_of at s n t d e h = rw (e, h)

-- a name that does not match, or is none, leaves no level
pub unmatched : (m : Text) (tags : List Text) (n : Text) (d : Step) → same n m ≡ false → level_of (m ∷ tags) (ending_by n d) ≡ stop
unmatched m tags n bad e = refl
unmatched m tags n (behind a r) e = rw e

-- events in front of events
pub add_none : (d : Rooted) → add_events [] d ≡ d
unfolding add_events
add_none unrooted = refl
add_none (rooted es a r) = refl

pub add-add : (xs ys : List TapeEvent) (d : Rooted) → add_events xs (add_events ys d) ≡ add_events (xs ++ ys) d
unfolding add_events
add-add xs ys unrooted = refl
add-add xs ys (rooted es a r) = ap (λ (l : List TapeEvent). rooted l a r) (sym (append_assoc xs ys es))

pub add-bad : (xs : List TapeEvent) → add_events xs unrooted ≡ unrooted
unfolding add_events
add-bad xs = refl

pub add-end : (xs : List TapeEvent) (a : ℕ) (r : Text) → add_events xs (rooted [] a r) ≡ rooted xs a r
unfolding add_events
add-end xs a r = ap (λ (l : List TapeEvent). rooted l a r) (append-nil xs)

pub tape-append : (xs ys : List TapeEvent) → tape_marks (xs ++ ys) ≡ tape_marks xs ++ tape_marks ys
unfolding tape_marks
tape-append [] ys = refl
tape-append (x ∷ xs) ys = ap (λ (l : List ℕ). event_marks x ++ l) (tape-append xs ys) ∙ sym (append_assoc (event_marks x) (tape_marks xs) (tape_marks ys))

-- the content, by its next turn
pub inside-stop : (turns : ℕ) (tags : List Text) (at : ℕ) (s : Text) → none_open tags ≡ false → turn tags at s ≡ stop → inside turns tags at s ≡ unrooted
unfolding inside
inside-stop zero tags at s o e = refl
inside-stop (suc turns) tags at s o e = rw (o, e)

pub inside_on : (n turns : ℕ) (before : List TapeEvent) (tags : List Text) (at : ℕ) (s : Text) (left : List Text) (events : List TapeEvent) (a : ℕ) (r : Text) (whole : Rooted)
    → n - at < turns → at < a → a ≤ n → none_open tags ≡ false → turn tags at s ≡ on left events a r → add_events before (inside turns tags at s) ≡ whole
    → (t : ℕ) × (n - a < t) × (add_events (before ++ events) (inside t left a r) ≡ whole)
unfolding inside
inside_on n zero before tags at s left events a r whole h g k o e w = absurd (omega arith)
inside_on n (suc turns) before tags at s left events a r whole h g k o e w =
    (turns, omega arith, sym (add-add before events (inside turns left a r)) ∙ (rw (o, e) at w))

pub root-found : (at : ℕ) (s : Text) (d : Level) → level_of_tag [] (tag at s) ≡ d → root at s ≡ on_level inside_all d
unfolding root
root-found at s d e = rw e
