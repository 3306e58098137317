-- Markup that is written one behind the other is read as its events, and a whole text of it is a document (specs/Markup.antt). Assumes nothing.
use Prim.Native.Nat.{ℕ, zero, suc, ◌+◌, ◌≤◌, ◌<◌}
use native.Mathlib.Omega.{arith}
use mathlib.Core.Path.{◌≡◌, refl, sym, ap, ◌∙◌}
use mathlib.Core.Bool.{true, false, false≢true}
use mathlib.Core.List.{List, [], ◌∷◌, ◌++◌, append_assoc, append-nil}
use lib.Dec.{eqb}
use lib.ListN.{length, length-append}
use Rattle.text.specs.Text.{Text, bytes, first, every, same, between}
use Rattle.text.proofs.Laws.Tests.{and-true-left, and-true-right, three}
use Rattle.text.specs.Trim.{is_white_space}
use Rattle.xsd_parser.specs.Event.{Tag}
use Rattle.xml.specs.Classes.{is_name_start, is_name, is_letter}
use Rattle.xml.specs.Steps.{starts_with, literal, many, spaces}
use Rattle.xml.specs.Values.{char_data}
use Rattle.xml.specs.Prolog.{misc, misc_from, is_misc, prolog, is_declaration}
use Rattle.xml.specs.Tape.{TapeEvent}
use Rattle.xml.specs.Tags.{tag}
use Rattle.xml.specs.Root.{Piece, on, opened, level_of_tag, close, markup, piece, turn, rooted, add_events, on_level, inside, root}
use Rattle.xml.specs.Document.{well_formed, to_end, document_from, document}
use Rattle.xml.specs.Written.{is_name_text, written_attribute_ok, new_keys, written_tag, written_event, written_attributes, tag_end}
use Rattle.xml.proofs.Laws.Names.{may_start, begins-low}
use Rattle.xml.proofs.Laws.Written.{name-written, name_of-written, name-is-whole, name-start, start-other, starts-not, spaces-stop, tag-more, tag-written}
use Rattle.xsd_written.specs.Markup.{Markup, starts, empties, ends, markup_text, markups_text}
use Rattle.xsd_written.specs.Reads.{written_tag_ok, markup_ok, open_behind, closes, nested, placed_one, placed_events}

-- at the `<` of a tag, whose name follows
module _ (at : ℕ) (s : Text) (n : may_start (first s) ≡ true) where
  no_word : (w : ℕ) (word : Text) → may_start w ≡ false → eqb 0 w ≡ false → starts_with (60 ∷ w ∷ word) (60 ∷ s) ≡ false
  unfolding starts_with
  no_word w word h z = starts-not w word s (start-other (first s) w n h) z

  markup-tag : markup at (60 ∷ s) ≡ Piece.starting at (60 ∷ s)
  unfolding markup bytes is_name_start is_letter between
  markup-tag = rw (no_word 47 [] refl refl, no_word 33 (45 ∷ 45 ∷ []) refl refl, no_word 33 (bytes "[CDATA[") refl refl, no_word 63 [] refl refl)

  turn-tag : (names : List Text) → turn names at (60 ∷ s) ≡ level_of_tag names (tag at (60 ∷ s))
  unfolding turn piece char_data
  turn-tag names = rw markup-tag

tag-name : (kind : ℕ) (t : Tag) (rest : Text) → is_name_text t.name ≡ true → (s : Text) × (written_tag kind t ++ rest ≡ 60 ∷ s) × (may_start (first s) ≡ true)
tag-name kind t rest n =
    (t.name ++ (written_attributes t.attributes ++ (tag_end kind ++ rest)), tag-more kind t rest, name-start t.name n (written_attributes t.attributes ++ (tag_end kind ++ rest)))

turn-written : (names : List Text) (at kind : ℕ) (t : Tag) (rest : Text) → 1 ≤ kind → kind ≤ 2 → written_tag_ok t ≡ true
    → turn names at (written_tag kind t ++ rest) ≡ on (opened kind t.name names) (written_event at kind t ∷ []) (at + length (written_tag kind t)) rest
unfolding written_tag_ok
turn-written names at kind t rest low high ok =
    let (n, a, k) = three (is_name_text t.name) (every written_attribute_ok t.attributes) (new_keys [] t.attributes) ok in
    let (s, e, f) = tag-name kind t rest n in
    ap (turn names at) e ∙ turn-tag at s f names ∙ ap (λ (u : Text). level_of_tag names (tag at u)) (sym e) ∙ ap (level_of_tag names) (tag-written at kind t rest low high n a k)

-- an end tag
module _ (at : ℕ) (n rest : Text) (ok : is_name_text n ≡ true) where
  close-written : close at (60 ∷ 47 ∷ (n ++ 62 ∷ rest)) ≡ Piece.ending n (at + 2 + length n + 1) rest
  unfolding close literal starts_with bytes is_name is_name_start is_letter between is_white_space first
  close-written =
      rw (
        name_of-written n (62 ∷ rest) (name-is-whole n ok) (begins-low is_name 62 rest (omega arith) refl),
        name-written n ok (at + 2) (62 ∷ rest) (begins-low is_name 62 rest (omega arith) refl),
        spaces-stop (at + 2 + length n)
            (62 ∷ rest) refl,
      )

  turn-close : (m : Text) (names : List Text) → same n m ≡ true → turn (m ∷ names) at (60 ∷ 47 ∷ (n ++ 62 ∷ rest)) ≡ on names (TapeEvent.close ∷ []) (at + 2 + length n + 1) rest
  unfolding turn piece char_data markup starts_with bytes
  turn-close m names e = rw (close-written, e)

markup-turn : (m : Markup) (n : Text) (names : List Text) (at : ℕ) (rest : Text) → markup_ok m ≡ true → closes m (n ∷ names) ≡ true
    → turn (n ∷ names) at (markup_text m ++ rest) ≡ on (open_behind m (n ∷ names)) (placed_one at m ∷ []) (at + length (markup_text m)) rest
unfolding markup_ok closes markup_text open_behind opened
markup-turn (starts t) n names at rest ok c = turn-written (n ∷ names) at 1 t rest (omega arith) (omega arith) ok
markup-turn (empties t) n names at rest ok c = turn-written (n ∷ names) at 2 t rest (omega arith) (omega arith) ok
markup-turn (ends m) n names at rest ok c =
    let e : at + 2 + length m + 1 ≡ at + suc (suc (length (m ++ 62 ∷ []))) = omega (arith, length-append m (62 ∷ [])) in
    ap (λ (u : Text). turn (n ∷ names) at (60 ∷ 47 ∷ u)) (append_assoc m (62 ∷ []) rest) ∙ turn-close at m rest ok n names c ∙ ap (λ (a : ℕ). on names (TapeEvent.close ∷ []) a rest) e

inside-written : (ms : List Markup) (turns : ℕ) (names : List Text) (at : ℕ) (rest : Text) → length ms < turns → nested names ms ≡ true → every markup_ok ms ≡ true
    → inside turns names at (markups_text ms ++ rest) ≡ rooted (placed_events at ms) (at + length (markups_text ms)) rest
unfolding inside nested markups_text placed_events add_events every
inside-written [] zero names at rest h e ok = absurd (omega arith)
inside-written [] (suc turns) [] at rest h e ok = ap (λ (a : ℕ). rooted [] a rest) (omega arith)
inside-written [] (suc turns) (n ∷ names) at rest h e ok = absurd (false≢true e)
inside-written (m ∷ ms) zero names at rest h e ok = absurd (omega arith)
inside-written (m ∷ ms) (suc turns) [] at rest h e ok = absurd (false≢true e)
inside-written (m ∷ ms) (suc turns) (n ∷ names) at rest h e ok =
    let c = and-true-left (closes m (n ∷ names)) (nested (open_behind m (n ∷ names)) ms) e in
    let k = and-true-right (closes m (n ∷ names)) (nested (open_behind m (n ∷ names)) ms) e in
    let o = and-true-left (markup_ok m) (every markup_ok ms) ok in
    let p = and-true-right (markup_ok m) (every markup_ok ms) ok in
    let a = at + length (markup_text m) in
    let z : a + length (markups_text ms) ≡ at + length (markup_text m ++ markups_text ms) = omega (arith, length-append (markup_text m) (markups_text ms)) in
    ap (λ (u : Text). on_level (inside turns) (turn (n ∷ names) at u)) (append_assoc (markup_text m) (markups_text ms) rest)
    ∙ ap (on_level (inside turns)) (markup-turn m n names at (markups_text ms ++ rest) o c)
    ∙ ap (add_events (placed_one at m ∷ [])) (inside-written ms turns (open_behind m (n ∷ names)) a rest (omega arith) k p)
    ∙ ap (λ (x : ℕ). rooted (placed_one at m ∷ placed_events a ms) x rest) z

markup-some : (m : Markup) → 1 ≤ length (markup_text m)
unfolding markup_text written_tag
markup-some (starts t) = omega arith
markup-some (empties t) = omega arith
markup-some (ends n) = omega arith

pub markups-long : (ms : List Markup) → length ms ≤ length (markups_text ms)
unfolding markups_text
markups-long [] = omega arith
markups-long (m ∷ ms) = omega (arith, markups-long ms, markup-some m, length-append (markup_text m) (markups_text ms))

-- no prolog stands before a tag
no-prolog : (s : Text) → may_start (first s) ≡ true → document (60 ∷ s) ≡ document_from 0 (60 ∷ s)
unfolding document prolog is_declaration misc misc_from is_misc bytes is_name_start is_letter between is_white_space first
no-prolog s n =
    rw (
      no_word 0 s n 63 (bytes "xml") refl refl,
      spaces-stop 0 (60 ∷ s) refl,
      no_word 0 s n 33 (45 ∷ 45 ∷ []) refl refl,
      no_word 0 s n 63 [] refl refl,
      no_word 0 s n 33
          (bytes "DOCTYPE") refl refl,
    )

misc-end : (es : List TapeEvent) (a : ℕ) → to_end es (misc a []) ≡ well_formed es
unfolding to_end misc misc_from is_misc spaces many starts_with bytes
misc-end es a = refl

-- a start tag and what it holds, up to its end tag
pub document-written : (t : Tag) (ms : List Markup) → written_tag_ok t ≡ true → every markup_ok ms ≡ true → nested (t.name ∷ []) ms ≡ true
    → document (markups_text (starts t ∷ ms)) ≡ well_formed (placed_events 0 (starts t ∷ ms))
unfolding written_tag_ok markups_text markup_text placed_events document_from root opened add_events
document-written t ms ok all e =
    let (n, a, k) = three (is_name_text t.name) (every written_attribute_ok t.attributes) (new_keys [] t.attributes) ok in
    let (s, d, f) = tag-name 1 t (markups_text ms) n in
    let z : inside (suc (length (markups_text ms))) (t.name ∷ []) (0 + length (written_tag 1 t)) (markups_text ms)
    ≡ rooted (placed_events (0 + length (written_tag 1 t)) ms) (0 + length (written_tag 1 t) + length (markups_text ms)) [] =
    rw append-nil at (inside-written ms (suc (length (markups_text ms))) (t.name ∷ []) (0 + length (written_tag 1 t)) [] (omega (arith, markups-long ms)) e all) in
    ap document d ∙ no-prolog s f ∙ ap (document_from 0) (sym d) ∙ rw (tag-written 0 1 t (markups_text ms) (omega arith) (omega arith) n a k, z) (misc-end _ _)
