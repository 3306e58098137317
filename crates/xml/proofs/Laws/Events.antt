-- The events of a well-formed text: each lies where its production stands, and each close has its open tag (specs/Accepted.antt). Assumes nothing.
use Rattle.std.specs.Prelude.{if◌then◌else◌}
use Prim.Native.Nat.{ℕ, zero, suc}
use mathlib.Core.Path.{◌≡◌, refl}
use mathlib.Core.List.{List, [], ◌∷◌, ◌++◌}
use lib.Dec.{eqb}
use lib.ListN.{length, drop}
use Rattle.text.specs.Text.{Text, bytes, same}
use Rattle.text.proofs.Laws.Tests.{if-either, if-in}
use Rattle.xml.specs.Steps.{Step, bad, behind, ◌and_then◌, starts_with, literal, spaces, name, leading_name, comment, section, instruction}
use Rattle.xml.specs.Values.{char_data}
use Rattle.xml.specs.Prolog.{misc, prolog}
use Rattle.xml.specs.Tape.{TapeEvent}
use Rattle.xml.specs.Tags.{Tagged, untagged, tagged, tag}
use Rattle.xml.specs.Root.{Piece, wrong, passed, ending, starting, passed_by, ending_by, close_behind, close, markup, markup_behind, piece, Level, stop, on, opened}
use Rattle.xml.specs.Root.{level_of_tag, level_of_close, level_of, turn, Rooted, unrooted, rooted, add_events, on_level, inside, inside_all, root}
use Rattle.xml.specs.Document.{Document, with_doctype, not_well_formed, well_formed, to_end, root_behind, document_from, prolog_behind, document}
use Rattle.xml.specs.Accepted.{EventsAt, ClosesTags}
use Rattle.xml.proofs.Laws.Here.{Here, three-keeps, literal-keeps, name-keeps, spaces-keeps, comment-keeps, section-keeps, instruction-keeps, char-data-keeps, prolog-keeps}
use Rattle.xml.proofs.Laws.Pairs.{TaggedAt, tag_at}

-- a piece of content
abbrev pub PieceAt : Text → Piece → Type 0
PieceAt text wrong = Unit {0}
PieceAt text (passed a r) = r ≡ drop a text
PieceAt text (ending n a r) = r ≡ drop a text
PieceAt text (starting a r) = r ≡ drop a text

pub passed-by : (text : Text) (d : Step) → Here text d → PieceAt text (passed_by d)
passed-by text bad h = tt
passed-by text (behind a r) h = h

pub ending-by : (text n : Text) (d : Step) → Here text d → PieceAt text (ending_by n d)
ending-by text n bad h = tt
ending-by text n (behind a r) h = h

pub close-behind : (text : Text) (d : Step) → Here text d → PieceAt text (close_behind d)
close-behind text bad h = tt
close-behind text (behind n t) h =
    ending-by text (leading_name t) (name n t and_then spaces and_then literal (bytes ">"))
    (three-keeps text name spaces (literal (bytes ">")) (name-keeps text) (spaces-keeps text) (literal-keeps (bytes ">") text) n t h)

pub markup-at : (text : Text) (at : ℕ) (s : Text) → s ≡ drop at text → PieceAt text (markup at s)
unfolding markup close
markup-at text at s h =
    if-either (PieceAt text) (starts_with (bytes "</") s) (close-behind text (literal (bytes "</") at s) (literal-keeps (bytes "</") text at s h))
    (if-either (PieceAt text) (starts_with (bytes "<!--") s) (passed-by text (comment at s) (comment-keeps text at s h))
    (if-either (PieceAt text) (starts_with (bytes "<![CDATA[") s) (passed-by text (section at s) (section-keeps text at s h))
    (if-either (PieceAt text) (starts_with (bytes "<?") s) (passed-by text (instruction at s) (instruction-keeps text at s h)) h)))

pub markup-behind : (text : Text) (d : Step) → Here text d → PieceAt text (markup_behind d)
markup-behind text bad h = tt
markup-behind text (behind a r) h = markup-at text a r h

pub piece-at : (text : Text) (at : ℕ) (s : Text) → s ≡ drop at text → PieceAt text (piece at s)
unfolding piece
piece-at text at s h = markup-behind text (char_data at s) (char-data-keeps text at s h)

-- a turn: what the tags left open close, the tags open before close with the turn's events in front
abbrev pub LevelAt : Text → List Text → Level → Type 0
LevelAt text tags stop = Unit {0}
LevelAt text tags (on left es a r) =
    (r ≡ drop a text) × EventsAt text es × ((more : List TapeEvent) → ClosesTags (length left) more → ClosesTags (length tags) (es ++ more))

pub opened-length : (kind : ℕ) (n : Text) (tags : List Text) → length (opened kind n tags) ≡ (if eqb kind 1 then suc (length tags) else length tags)
unfolding opened
opened-length kind n tags = if-in length (eqb kind 1) refl refl

pub level-of-tag : (text : Text) (tags : List Text) (d : Tagged) → TaggedAt text d → LevelAt text tags (level_of_tag tags d)
level-of-tag text tags untagged p = tt
level-of-tag text tags (tagged kind pair xs n a r) p = (p.1, (p.0, tt), λ more c. rw (opened-length kind n tags) at c)

pub level-of-close : (text : Text) (tags : List Text) (n : Text) (a : ℕ) (r : Text) → r ≡ drop a text → LevelAt text tags (level_of_close tags n a r)
level-of-close text [] n a r h = tt
level-of-close text (m ∷ tags) n a r h = if-either (LevelAt text (m ∷ tags)) (same n m) (h, (tt, tt), λ more c. c) tt

pub level-of : (text : Text) (tags : List Text) (d : Piece) → PieceAt text d → LevelAt text tags (level_of tags d)
level-of text tags wrong h = tt
level-of text tags (passed a r) h = (h, tt, λ more c. c)
level-of text tags (ending n a r) h = level-of-close text tags n a r h
level-of text tags (starting a r) h = level-of-tag text tags (tag a r) (tag_at text a r h)

-- the content, and the root
abbrev pub RootAt : Text → ℕ → Rooted → Type 0
RootAt text k unrooted = Unit {0}
RootAt text k (rooted es a r) = EventsAt text es × ClosesTags k es

pub events-append : (text : Text) (xs ys : List TapeEvent) → EventsAt text xs → EventsAt text ys → EventsAt text (xs ++ ys)
events-append text [] ys p q = q
events-append text (x ∷ xs) ys p q = (p.0, events-append text xs ys p.1 q)

pub root-add : (text : Text) (j k : ℕ) (es : List TapeEvent) (d : Rooted) → EventsAt text es → ((more : List TapeEvent) → ClosesTags j more → ClosesTags k (es ++ more)) → RootAt text j d
    → RootAt text k (add_events es d)
unfolding add_events
root-add text j k es unrooted p c q = tt
root-add text j k es (rooted more a r) p c q = (events-append text es more p q.0, c more q.1)

pub on-level : (text : Text) (tags : List Text) (next : List Text → ℕ → Text → Rooted) (d : Level) → LevelAt text tags d
    → ((left : List Text) (a : ℕ) (r : Text) → r ≡ drop a text → RootAt text (length left) (next left a r)) → RootAt text (length tags) (on_level next d)
on-level text tags next stop p ih = tt
on-level text tags next (on left es a r) p ih = root-add text (length left) (length tags) es (next left a r) p.1 p.2 (ih left a r p.0)

pub inside-at : (turns : ℕ) (text : Text) (tags : List Text) (at : ℕ) (s : Text) → s ≡ drop at text → RootAt text (length tags) (inside turns tags at s)
unfolding inside turn
inside-at zero text tags at s h = tt
inside-at (suc turns) text [] at s h = (tt, refl)
inside-at (suc turns) text (m ∷ tags) at s h =
    on-level text (m ∷ tags) (inside turns) (turn (m ∷ tags) at s) (level-of text (m ∷ tags) (piece at s) (piece-at text at s h)) (λ left a r k. inside-at turns text left a r k)

pub root-at : (text : Text) (at : ℕ) (s : Text) → s ≡ drop at text → RootAt text 0 (root at s)
unfolding root
root-at text at s h =
    on-level text [] inside_all (level_of_tag [] (tag at s)) (level-of-tag text [] (tag at s) (tag_at text at s h)) (λ left a r k. inside-at (suc (length r)) text left a r k)

-- the document
abbrev pub DocumentAt : Text → Document → Type 0
DocumentAt text with_doctype = Unit {0}
DocumentAt text not_well_formed = Unit {0}
DocumentAt text (well_formed es) = EventsAt text es × ClosesTags 0 es

pub to_end_lem : (text : Text) (es : List TapeEvent) (d : Step) → (EventsAt text es × ClosesTags 0 es) → DocumentAt text (to_end es d)
unfolding to_end
to_end_lem text es bad p = tt
to_end_lem text es (behind a []) p = p
to_end_lem text es (behind a (b ∷ s)) p = tt

pub root-behind : (text : Text) (d : Rooted) → RootAt text 0 d → DocumentAt text (root_behind d)
root-behind text unrooted p = tt
root-behind text (rooted es a r) p = to_end_lem text es (misc a r) p

pub prolog-behind : (text : Text) (d : Step) → Here text d → DocumentAt text (prolog_behind d)
unfolding document_from
prolog-behind text bad h = tt
prolog-behind text (behind at s) h =
    if-either (DocumentAt text) (starts_with (bytes "<!DOCTYPE") s) tt (root-behind text (root at s) (root-at text at s h))

pub document-at : (text : Text) → DocumentAt text (document text)
unfolding document
document-at text = prolog-behind text (prolog 0 text) (prolog-keeps text 0 text refl)

-- the events of a well-formed text
pub events-at : (text : Text) (es : List TapeEvent) → document text ≡ well_formed es → EventsAt text es
events-at text es e = let p : DocumentAt text (well_formed es) = rw e at (document-at text) in p.0

pub events-close : (text : Text) (es : List TapeEvent) → document text ≡ well_formed es → ClosesTags 0 es
events-close text es e = let p : DocumentAt text (well_formed es) = rw e at (document-at text) in p.1
