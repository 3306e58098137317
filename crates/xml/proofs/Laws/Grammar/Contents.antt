-- Elements and their content (specs/Grammar.antt, [39], [42] and [43]), both ways. The recogniser goes through the content with a list of open tags: what it
-- passes over from there on is the content and the end tag of each of them, the innermost first (`Closings`). Assumes nothing.
use Prim.Native.Nat.{ℕ, zero, suc, ◌+◌, ◌≤◌, ◌<◌}
use mathlib.Core.Path.{◌≡◌, refl, sym, ap, subst, ◌∙◌}
use mathlib.Core.Logic.{inl, inr, ⊎_elim}
use mathlib.Core.List.{List, [], ◌∷◌, ◌++◌, append-nil, append_assoc}
use mathlib.Core.Bool.{true, false}
use native.Mathlib.Omega.{arith}
use lib.ListN.{length, length-append}
use borrow.Author.Tests.{eq-eqb, ne_eqb}
use Rattle.text.specs.Text.{Text, bytes, first, same, between}
use Rattle.text.proofs.Laws.Tests.{bool_cases, if-either}
use Rattle.text.proofs.Laws.Texts.{same_refl, same-eq}
use Rattle.xsd_parser.specs.Tape.{Pair}
use Rattle.xml.specs.Classes.{is_letter, is_name_start, is_name, begins}
use Rattle.xml.specs.Steps.{Step, bad, behind, ◌and_then◌, starts_with, literal, spaces, name, leading_name, comment, instruction, section}
use Rattle.xml.specs.Values.{char_data}
use Rattle.xml.specs.Tape.{AttributePairs, TapeEvent}
use Rattle.xml.specs.Tags.{Tagged, untagged, tagged, tag}
use Rattle.xml.specs.Root.{Piece, passed, ending, starting, passed_by, ending_by, close_behind, close, markup, markup_behind, piece, on, opened, level_of_tag, level_of}
use Rattle.xml.specs.Root.{turn, Rooted, unrooted, rooted, add_events, on_level, inside, inside_all, root}
use Rattle.xml.specs.Grammar.{Opt, absent, present, run, S, Reference, CharData, Comment, PI, CDSect, STag, EmptyElemTag, ETag, end_tag, Element, empty_element}
use Rattle.xml.specs.Grammar.{whole_element, Content, content, Items, no_item, one_item, Item, item_element, item_reference, item_section, item_pi, item_comment}
use Rattle.xml.specs.Grammar as grammar
use Rattle.xml.proofs.Laws.Names.{may_start}
use Rattle.xml.proofs.Laws.Moves.{then-ends, char-data-moves}
use Rattle.xml.proofs.Laws.Written.{start-other}
use Rattle.xml.proofs.Laws.Root.{closing, close_of, add_none, add-add}
use Rattle.xml.proofs.Laws.Grammar.Basics.{ends_at, literal-sound, name-sound, name-complete, name-whole, name_of-complete, name-first, white-no-name, spaces-sound, spaces-complete}
use Rattle.xml.proofs.Laws.Grammar.Markup.{comment-sound, comment-complete, comment-some, section-sound, section-complete, section-some, instruction-sound}
use Rattle.xml.proofs.Laws.Grammar.Markup.{instruction-complete, instruction-some}
use Rattle.xml.proofs.Laws.Grammar.References.{reference-bytes}
use Rattle.xml.proofs.Laws.Grammar.Texts.{data-pass, Refs, no_ref, one_ref, data-sound, Stops, data-complete}
use Rattle.xml.proofs.Laws.Grammar.Tags.{greater-no-white, greater-no-name, tag-sound, start-complete, empty-complete}

-- [42]
ending-by : (n : Text) (d : Step) (m : Text) (a : ℕ) (r : Text) → ending_by n d ≡ ending m a r → (n ≡ m) × (d ≡ behind a r)
ending-by n bad m a r h = let z : ◌≡◌ {A = ℕ} 0 1 = cc in absurd (omega arith)
ending-by n (behind b u) m a r h = (cc, cc)

close-behind : (d : Step) (m : Text) (a : ℕ) (r : Text) → close_behind d ≡ ending m a r → (b : ℕ) × (t : Text) × (d ≡ behind b t) × (ending_by (leading_name t) (closing b t) ≡ ending m a r)
close-behind bad m a r h = let z : ◌≡◌ {A = ℕ} 0 1 = cc in absurd (omega arith)
close-behind (behind b t) m a r h = (b, t, refl, h)

etag-as : {v n m : Text} → n ≡ m → ETag v n → ETag v m
etag-as {v} {n} {m} p d = subst (λ (z : Text). ETag v z) p d

pub close-sound : (at : ℕ) (s m : Text) (a : ℕ) (r : Text) → close at s ≡ ending m a r → (v : Text) × ETag v m × (s ≡ v ++ r) × (a ≡ at + length v)
unfolding close bytes
close-sound at s m a r h =
    let l = close-behind (literal (bytes "</") at s) m a r h in
    let w = literal-sound (bytes "</") at s l.0 l.1 l.2 in
    let i = ending-by (leading_name l.1) (closing l.0 l.1) m a r l.3 in
    let z = then-ends (name l.0 l.1 and_then spaces) (literal (bytes ">")) a r i.1 in
    let y = then-ends (name l.0 l.1) spaces z.0 z.1 z.2 in
    let n = name-sound l.0 l.1 y.0 y.1 y.2 in
    let o = spaces-sound y.0 y.1 z.0 z.1 y.3 in
    let g = literal-sound (bytes ">") z.0 z.1 a r z.3 in
    let k = sym (name-whole l.0 l.1 y.0 y.1 n.0 y.2 n.2 n.3) ∙ i.0 in
    let size : length (n.0 ++ (o.0 ++ (62 ∷ []))) ≡ length n.0 + (length o.0 + 1) = simp length-append in (
      bytes "</" ++ (n.0 ++ (o.0 ++ bytes ">")),
      etag-as k (end_tag n.1 o.1),
      w.0 ∙ ap (λ (t : Text). 60 ∷ 47 ∷ t) (n.2 ∙ ap (λ (t : Text). n.0 ++ t) (o.2 ∙ ap (λ (t : Text). o.0 ++ t) g.0) ∙ simp append_assoc),
      omega (arith, size, w.1, n.3, o.3, g.1),
    )

behind-close : {t : Text} → Opt S t → (r : Text) → begins is_name (t ++ (62 ∷ r)) ≡ false
behind-close absent r = greater-no-name r
behind-close (present (run {b} y h)) r = white-no-name b y _

ending-same : {n m : Text} {a b : ℕ} {r : Text} → n ≡ m → a ≡ b → ending n a r ≡ ending m b r
ending-same p q = cc

pub close-complete : {v n : Text} → ETag v n → (at : ℕ) (r : Text) → close at (v ++ r) ≡ ending n (at + length v) r
unfolding close bytes literal starts_with first
close-complete (end_tag {n} {s} m o) at r =
    let whole : (n ++ (s ++ (62 ∷ []))) ++ r ≡ n ++ (s ++ (62 ∷ r)) = simp append_assoc in
    let size : length (n ++ (s ++ (62 ∷ []))) ≡ length n + (length s + 1) = simp length-append in
    rw (whole, name-complete m (at + 2) (s ++ (62 ∷ r)) (behind-close o r), spaces-complete o (at + 2 + length n) (62 ∷ r) greater-no-white)
    (ending-same (name_of-complete m (s ++ (62 ∷ r)) (behind-close o r)) (omega arith))

-- the next piece of content
abbrev pub PieceIs : ℕ → Text → Piece → Type 0
PieceIs at s Piece.wrong = Unit {0}
PieceIs at s (passed a r) = (v : Text) × Item at v [] × (s ≡ v ++ r) × (a ≡ at + length v)
PieceIs at s (ending n a r) = (v : Text) × ETag v n × (s ≡ v ++ r) × (a ≡ at + length v)
PieceIs at s (starting a r) = (a ≡ at) × (r ≡ s)

passed-piece : (P : Text → Type 0) (at : ℕ) (s : Text) (d : Step) → ((v : Text) → P v → Item at v [])
    → ((e : ℕ) (r : Text) → d ≡ behind e r → (v : Text) × P v × (s ≡ v ++ r) × (e ≡ at + length v)) → PieceIs at s (passed_by d)
passed-piece P at s bad i k = tt
passed-piece P at s (behind e r) i k = let h = k e r refl in (h.0, i h.0 h.1, h.2, h.3)

ending-piece : (at : ℕ) (s n : Text) (d : Step) → ((a : ℕ) (r : Text) → d ≡ behind a r → PieceIs at s (ending n a r)) → PieceIs at s (ending_by n d)
ending-piece at s n bad k = tt
ending-piece at s n (behind a r) k = k a r refl

closed-behind : (at : ℕ) (s : Text) (d : Step) → literal (bytes "</") at s ≡ d → PieceIs at s (close_behind d)
closed-behind at s bad p = tt
closed-behind at s (behind b t) p =
    ending-piece at s (leading_name t) (closing b t) (λ a r e. close-sound at s (leading_name t) a r (close_of at s b t (behind a r) p e))

closed-piece : (at : ℕ) (s : Text) → PieceIs at s (close at s)
unfolding close
closed-piece at s = closed-behind at s (literal (bytes "</") at s) refl

markup-piece : (at : ℕ) (s : Text) → PieceIs at s (markup at s)
unfolding markup
markup-piece at s =
    if-either (PieceIs at s) (starts_with (bytes "</") s) (closed-piece at s)
    (if-either (PieceIs at s) (starts_with (bytes "<!--") s) (passed-piece Comment at s (comment at s) (λ v d. item_comment d) (comment-sound at s))
    (if-either (PieceIs at s) (starts_with (bytes "<![CDATA[") s) (passed-piece CDSect at s (section at s) (λ v d. item_section d) (section-sound at s))
    (if-either (PieceIs at s) (starts_with (bytes "<?") s) (passed-piece PI at s (instruction at s) (λ v d. item_pi d) (instruction-sound at s)) (refl, refl))))

-- character data and references before items
items_as : {at b : ℕ} {u v : Text} {es : List TapeEvent} → at ≡ b → u ≡ v → Items at u es → Items b v es
items_as {at} {b} {u} {v} {es} p q d = subst (λ (z : ℕ). Items z v es) p (subst (λ (z : Text). Items at z es) q d)

refs-items : {t : Text} → Refs t → (at : ℕ) (u : Text) (es : List TapeEvent) → Items (at + length t) u es → Items at (t ++ u) es
refs-items no_ref at u es d = items_as (omega arith) refl d
refs-items (one_ref {s} {t} {u = v} r c rs) at u es d =
    let size = length-append s (t ++ v) ∙ ap (λ (j : ℕ). length s + j) (length-append t v) in
    let whole : s ++ (t ++ (v ++ u)) ≡ (s ++ (t ++ v)) ++ u = simp append_assoc in
    items_as refl whole (one_item (item_reference r) (present c) (refs-items rs (at + length s + length t) u es (items_as (omega arith) refl d)))

run-content : {a t : Text} → CharData a → Refs t → (at : ℕ) (u : Text) (es : List TapeEvent) → Items (at + length a + length t) u es → Content at (a ++ (t ++ u)) es
run-content {a} {t} c rs at u es d = content (present c) (refs-items rs (at + length a) u es d)

-- the content and the end tag of each open tag
pub data Closings : ℕ → List Text → Text → List TapeEvent → Type 0 where
  all_closed : {at : ℕ} → Closings at [] [] []
  one_closed : {at : ℕ} {s t u n m : Text} {tags : List Text} {es fs : List TapeEvent} → Content at s es → ETag t m → m ≡ n → Closings (at + length s + length t) tags u fs
      → Closings at (n ∷ tags) (s ++ (t ++ u)) (es ++ (TapeEvent.close ∷ fs))

closings-as : {at b : ℕ} {tags : List Text} {u v : Text} {es fs : List TapeEvent} → at ≡ b → u ≡ v → es ≡ fs → Closings at tags u es → Closings b tags v fs
closings-as {at} {b} {tags} {u} {v} {es} {fs} p q h d =
    subst (λ (z : ℕ). Closings z tags v fs) p (subst (λ (z : Text). Closings at tags z fs) q (subst (λ (z : List TapeEvent). Closings at tags u z) h d))

-- text, references and an item before them
with_item : {a t : Text} → CharData a → Refs t → (at : ℕ) {w : Text} {es : List TapeEvent} → Item (at + length a + length t) w es
    → {b : ℕ} {n : Text} {tags : List Text} {u : Text} {fs : List TapeEvent} → Closings b (n ∷ tags) u fs
    → b ≡ at + length a + length t + length w → Closings at (n ∷ tags) (a ++ (t ++ (w ++ u))) (es ++ fs)
with_item {a} {t} c rs at {w} {es} i (one_closed {s = v} {t = x} {u = y} {es = gs} {fs = hs} (content {s = p} {t = q} o items) et m rest) h =
    let size : length (a ++ (t ++ (w ++ (p ++ q)))) ≡ length a + (length t + (length w + (length p + length q))) = simp length-append in
    let whole : (a ++ (t ++ (w ++ (p ++ q)))) ++ (x ++ y) ≡ a ++ (t ++ (w ++ ((p ++ q) ++ (x ++ y)))) = simp append_assoc in
    let inner = run-content c rs at (w ++ (p ++ q)) (es ++ gs) (one_item i o (items_as (omega arith) refl items)) in
    closings-as refl whole (append_assoc es gs (TapeEvent.close ∷ hs)) (one_closed inner et m (closings-as (omega (arith, size, length-append p q)) refl refl rest))

content-from : {at b : ℕ} {s : Text} {es : List TapeEvent} → at ≡ b → Content at s es → Content b s es
content-from {at} {b} {s} {es} p d = subst (λ (z : ℕ). Content z s es) p d

-- text, references and a start tag before its content and its end tag
with_tag : {a t : Text} → CharData a → Refs t → (at : ℕ) {w m : Text} {x : TapeEvent} → STag (at + length a + length t) w m x
    → {b : ℕ} {n : Text} {tags : List Text} {u : Text} {gs : List TapeEvent} → Closings b (m ∷ n ∷ tags) u gs
    → b ≡ at + length a + length t + length w → Closings at (n ∷ tags) (a ++ (t ++ (w ++ u))) (x ∷ gs)
with_tag {a} {t} c rs at {w} {m} {x} d (one_closed {s} {t = y} {u = z} {es} {fs} k et q rest) p =
    let size : length (w ++ (s ++ y)) ≡ length w + (length s + length y) = simp length-append in
    let whole : a ++ (t ++ ((w ++ (s ++ y)) ++ z)) ≡ a ++ (t ++ (w ++ (s ++ (y ++ z)))) = simp append_assoc in
    closings-as refl whole (ap (λ (l : List TapeEvent). x ∷ l) (append_assoc es (TapeEvent.close ∷ []) fs))
    (with_item c rs at (item_element (whole_element d (content-from p k) et q)) rest (omega arith))

-- what the list of open tags passes over
abbrev pub Inside : List Text → ℕ → Text → List TapeEvent → ℕ → Text → Type 0
Inside tags at s es e r = (u : Text) × Closings at tags u es × (s ≡ u ++ r) × (e ≡ at + length u)

unrooted-not : {es : List TapeEvent} {e : ℕ} {r : Text} {A : Type 0} → unrooted ≡ rooted es e r → A
unrooted-not q = let z : ◌≡◌ {A = ℕ} 0 1 = cc in absurd (omega arith)

add_is : (fs : List TapeEvent) (d : Rooted) (es : List TapeEvent) (e : ℕ) (r : Text) → add_events fs d ≡ rooted es e r → (gs : List TapeEvent) × (d ≡ rooted gs e r) × (fs ++ gs ≡ es)
unfolding add_events
add_is fs unrooted es e r h = unrooted-not h
add_is fs (rooted gs a u) es e r h = (gs, cc, cc)

module _ (next : List Text → ℕ → Text → Rooted) (ih : (tags : List Text) (at : ℕ) (s : Text) (es : List TapeEvent) (e : ℕ) (r : Text) → next tags at s ≡ rooted es e r → Inside tags at s es e r) where
  item-inside : {a t : Text} → CharData a → Refs t → (at : ℕ) {w : Text} {fs : List TapeEvent} → Item (at + length a + length t) w fs
      → (n : Text) (tags : List Text) (b : ℕ) (v : Text) (es : List TapeEvent) (e : ℕ) (r : Text)
      → b ≡ at + length a + length t + length w → add_events fs (next (n ∷ tags) b v) ≡ rooted es e r → Inside (n ∷ tags) at (a ++ (t ++ (w ++ v))) es e r
  item-inside {a} {t} c rs at {w} {fs} i n tags b v es e r p h =
      let g = add_is fs (next (n ∷ tags) b v) es e r h in
      let k = ih (n ∷ tags) b v g.0 e r g.1 in
      let size : length (a ++ (t ++ (w ++ k.0))) ≡ length a + (length t + (length w + length k.0)) = simp length-append in
      (a ++ (t ++ (w ++ k.0)), closings-as refl refl g.2 (with_item c rs at i k.1 p), ap (λ (z : Text). a ++ (t ++ (w ++ z))) k.2 ∙ simp append_assoc, omega (arith, size, k.3))

  close-inside : {a t : Text} → CharData a → Refs t → (at : ℕ) {w m : Text} → ETag w m → (n : Text) (tags : List Text) (b : ℕ) (v : Text) (es : List TapeEvent) (e : ℕ) (r : Text)
      → m ≡ n → b ≡ at + length a + length t + length w → add_events (TapeEvent.close ∷ []) (next tags b v) ≡ rooted es e r → Inside (n ∷ tags) at (a ++ (t ++ (w ++ v))) es e r
  close-inside {a} {t} c rs at {w} {m} d n tags b v es e r q p h =
      let g = add_is (TapeEvent.close ∷ []) (next tags b v) es e r h in
      let k = ih tags b v g.0 e r g.1 in
      let size : length (a ++ (t ++ [])) ≡ length a + length t = simp (length-append, append-nil) in
      let long : length ((a ++ (t ++ [])) ++ (w ++ k.0)) ≡ length a + length t + (length w + length k.0) = simp (length-append, append-nil) in (
        (a ++ (t ++ [])) ++ (w ++ k.0),
        closings-as refl refl g.2 (one_closed (run-content c rs at [] [] no_item) d q (closings-as (omega (arith, size)) refl refl k.1)),
        ap (λ (z : Text). a ++ (t ++ (w ++ z))) k.2 ∙ simp (append_assoc, append-nil),
        omega (arith, long, k.3),
      )

  element-inside : {a t : Text} → CharData a → Refs t → (at : ℕ) {w m : Text} {x : TapeEvent} → STag (at + length a + length t) w m x
      → (n : Text) (tags : List Text) (b : ℕ) (v : Text) (es : List TapeEvent) (e : ℕ) (r : Text)
      → b ≡ at + length a + length t + length w → add_events (x ∷ []) (next (m ∷ n ∷ tags) b v) ≡ rooted es e r → Inside (n ∷ tags) at (a ++ (t ++ (w ++ v))) es e r
  element-inside {a} {t} c rs at {w} {m} {x} d n tags b v es e r p h =
      let g = add_is (x ∷ []) (next (m ∷ n ∷ tags) b v) es e r h in
      let k = ih (m ∷ n ∷ tags) b v g.0 e r g.1 in
      let size : length (a ++ (t ++ (w ++ k.0))) ≡ length a + (length t + (length w + length k.0)) = simp length-append in
      (a ++ (t ++ (w ++ k.0)), closings-as refl refl g.2 (with_tag c rs at d k.1 p), ap (λ (z : Text). a ++ (t ++ (w ++ z))) k.2 ∙ simp append_assoc, omega (arith, size, k.3))

  tag-inside : {a t : Text} → CharData a → Refs t → (at : ℕ) (s : Text) (n : Text) (tags : List Text) (es : List TapeEvent) (e : ℕ) (r : Text) (d : Tagged) → tag (at + length a + length t) s ≡ d
      → on_level next (level_of_tag (n ∷ tags) d) ≡ rooted es e r → Inside (n ∷ tags) at (a ++ (t ++ s)) es e r
  unfolding opened
  tag-inside c rs at s n tags es e r untagged q h = unrooted-not h
  tag-inside {a} {t} c rs at s n tags es e r (tagged kind pair xs m b v) q h =
      let d = tag-sound (at + length a + length t) s kind pair xs m b v q in
      subst (λ (z : Text). Inside (n ∷ tags) at (a ++ (t ++ z)) es e r) (sym d.2)
      (⊎_elim
      (λ k. element-inside c rs at k.1 n tags b v es e r d.3 (rw (eq-eqb kind 1 k.0) at h))
      (λ k. item-inside c rs at (item_element (empty_element k.1)) n tags b v es e r d.3 (rw (ne_eqb kind 1 (λ (y : kind ≡ 1). omega (arith, k.0))) at h))
      d.1)

  piece_inside : {a t : Text} → CharData a → Refs t → (at : ℕ) (s : Text) (n : Text) (tags : List Text) (es : List TapeEvent) (e : ℕ) (r : Text) (d : Piece) → PieceIs (at + length a + length t) s d
      → on_level next (level_of (n ∷ tags) d) ≡ rooted es e r → Inside (n ∷ tags) at (a ++ (t ++ s)) es e r
  piece_inside c rs at s n tags es e r Piece.wrong k h = unrooted-not h
  piece_inside {a} {t} c rs at s n tags es e r (passed b v) (w, i, p, q) h =
      subst (λ (z : Text). Inside (n ∷ tags) at (a ++ (t ++ z)) es e r) (sym p) (item-inside c rs at i n tags b v es e r q h)
  piece_inside {a} {t} c rs at s n tags es e r (ending m b v) (w, i, p, q) h =
      bool_cases (same m n)
      (λ y. subst (λ (z : Text). Inside (n ∷ tags) at (a ++ (t ++ z)) es e r) (sym p) (close-inside c rs at i n tags b v es e r (same-eq m n y) q (rw y at h)))
      (λ y. unrooted-not (rw y at h))
  piece_inside {a} {t} c rs at s n tags es e r (starting b v) (p, q) h =
      tag-inside c rs at s n tags es e r (tag (at + length a + length t) s) refl (rw (p, q) at h)

  turn_inside : (at : ℕ) (s : Text) (n : Text) (tags : List Text) (es : List TapeEvent) (e : ℕ) (r : Text) (d : Step) → char_data at s ≡ d
      → on_level next (level_of (n ∷ tags) (markup_behind d)) ≡ rooted es e r → Inside (n ∷ tags) at s es e r
  turn_inside at s n tags es e r bad q h = unrooted-not h
  turn_inside at s n tags es e r (behind b v) q h =
      let k = data-sound at s b v q in
      let whole = k.4 ∙ sym (append_assoc k.0 k.1 v) in
      let end = ends_at char_data char-data-moves at s b v (k.0 ++ k.1) q whole in
      let at2 : b ≡ at + length k.0 + length k.1 = omega (arith, end, length-append k.0 k.1) in
      subst (λ (z : Text). Inside (n ∷ tags) at z es e r) (sym k.4)
      (piece_inside k.2 k.3 at v n tags es e r (markup (at + length k.0 + length k.1) v) (markup-piece (at + length k.0 + length k.1) v)
      (subst (λ (z : ℕ). on_level next (level_of (n ∷ tags) (markup z v)) ≡ rooted es e r) at2 h))

rooted_none : (at : ℕ) (s : Text) (es : List TapeEvent) (e : ℕ) (r : Text) → rooted [] at s ≡ rooted es e r → Inside [] at s es e r
rooted_none at s es e r h =
    let p : [] ≡ es = cc in
    let q : at ≡ e = cc in
    let k : s ≡ r = cc in
    ([], closings-as refl refl p all_closed, k, omega arith)

inside-sound : (turns : ℕ) (tags : List Text) (at : ℕ) (s : Text) (es : List TapeEvent) (e : ℕ) (r : Text) → inside turns tags at s ≡ rooted es e r → Inside tags at s es e r
unfolding inside turn piece
inside-sound zero tags at s es e r h = unrooted-not h
inside-sound (suc turns) [] at s es e r h = rooted_none at s es e r h
inside-sound (suc turns) (n ∷ tags) at s es e r h =
    turn_inside (inside turns) (λ l b v fs f u k. inside-sound turns l b v fs f u k) at s n tags es e r (char_data at s) refl h

-- [39]: the root
abbrev pub IsElement : ℕ → Text → List TapeEvent → ℕ → Text → Type 0
IsElement at s es e r = (u : Text) × Element at u es × (s ≡ u ++ r) × (e ≡ at + length u)

element-as : {at : ℕ} {u v : Text} {es fs : List TapeEvent} → u ≡ v → es ≡ fs → Element at u es → Element at v fs
element-as {at} {u} {v} {es} {fs} p q d = subst (λ (z : Text). Element at z fs) p (subst (λ (z : List TapeEvent). Element at u z) q d)

root-tag : (at : ℕ) {w n : Text} {x : TapeEvent} → STag at w n x → {b : ℕ} {u : Text} {gs : List TapeEvent} → Closings b (n ∷ []) u gs → b ≡ at + length w → Element at (w ++ u) (x ∷ gs)
root-tag at {w} d (one_closed {s} {t} k et q all_closed) p = element-as (ap (λ (z : Text). w ++ (s ++ z)) (sym (append-nil t))) refl (whole_element d (content-from p k) et q)

root-start : (at : ℕ) (s w n : Text) (x : TapeEvent) (b : ℕ) (v : Text) (es : List TapeEvent) (e : ℕ) (r : Text) → STag at w n x → s ≡ w ++ v → b ≡ at + length w
    → add_events (x ∷ []) (inside_all (n ∷ []) b v) ≡ rooted es e r → IsElement at s es e r
root-start at s w n x b v es e r d p q h =
    let g = add_is (x ∷ []) (inside_all (n ∷ []) b v) es e r h in
    let k = inside-sound (suc (length v)) (n ∷ []) b v g.0 e r g.1 in
    (w ++ k.0, element-as refl g.2 (root-tag at d k.1 q), p ∙ ap (λ (z : Text). w ++ z) k.2 ∙ sym (append_assoc w k.0 r), omega (arith, length-append w k.0, k.3))

root-empty : (at : ℕ) (s w : Text) (x : TapeEvent) (b : ℕ) (v : Text) (es : List TapeEvent) (e : ℕ) (r : Text) → EmptyElemTag at w x → s ≡ w ++ v → b ≡ at + length w
    → add_events (x ∷ []) (inside_all [] b v) ≡ rooted es e r → IsElement at s es e r
unfolding inside add_events
root-empty at s w x b v es e r d p q h =
    let y : x ∷ [] ≡ es = cc in
    let z : b ≡ e = cc in
    let k : v ≡ r = cc in
    (w, element-as refl y (empty_element d), p ∙ ap (λ (t : Text). w ++ t) k, omega arith)

root-tagged : (at : ℕ) (s : Text) (es : List TapeEvent) (e : ℕ) (r : Text) (d : Tagged) → tag at s ≡ d → on_level inside_all (level_of_tag [] d) ≡ rooted es e r → IsElement at s es e r
unfolding opened
root-tagged at s es e r untagged q h = unrooted-not h
root-tagged at s es e r (tagged kind pair xs n b v) q h =
    let d = tag-sound at s kind pair xs n b v q in
    ⊎_elim
    (λ k. root-start at s d.0 n (TapeEvent.tag kind pair xs) b v es e r k.1 d.2 d.3 (rw (eq-eqb kind 1 k.0) at h))
    (λ k. root-empty at s d.0 (TapeEvent.tag kind pair xs) b v es e r k.1 d.2 d.3 (rw (ne_eqb kind 1 (λ (y : kind ≡ 1). omega (arith, k.0))) at h))
    d.1

pub root-sound : (at : ℕ) (s : Text) (es : List TapeEvent) (e : ℕ) (r : Text) → root at s ≡ rooted es e r → IsElement at s es e r
unfolding root
root-sound at s es e r h = root-tagged at s es e r (tag at s) refl h

-- the other way: the recogniser goes over the text of a derivation, and gives its events
abbrev Goes : List Text → ℕ → Text → List TapeEvent → ℕ → Text → Type 0
Goes tags at s es turns r = (t : ℕ) × (length r < t) × (inside turns tags at (s ++ r) ≡ add_events es (inside t tags (at + length s) r))

turns-on : (turns : ℕ) (m : Text) (tags : List Text) (at : ℕ) (s : Text) (left : List Text) (es : List TapeEvent) (a : ℕ) (r : Text) → length s < turns → turn (m ∷ tags) at s ≡ on left es a r
    → (t : ℕ) × (length s ≤ t) × (inside turns (m ∷ tags) at s ≡ add_events es (inside t left a r))
unfolding inside
turns-on zero m tags at s left es a r l h = absurd (omega arith)
turns-on (suc t) m tags at s left es a r l h = (t, omega arith, rw h)

over-text : (turns : ℕ) (m : Text) (tags : List Text) (at : ℕ) (s : Text) (b : ℕ) (v : Text) → char_data at s ≡ char_data b v → inside turns (m ∷ tags) at s ≡ inside turns (m ∷ tags) b v
unfolding inside turn piece
over-text zero m tags at s b v h = refl
over-text (suc t) m tags at s b v h = rw h

less-data : (at : ℕ) (s : Text) → char_data at (60 ∷ s) ≡ behind at (60 ∷ s)
unfolding char_data
less-data at s = refl

turn-less : (tags : List Text) (at : ℕ) (s : Text) → turn tags at (60 ∷ s) ≡ level_of tags (markup at (60 ∷ s))
unfolding turn piece
turn-less tags at s = rw (less-data at s)

-- a piece without an event
turn-passed : (tags : List Text) (at : ℕ) (s : Text) (a : ℕ) (r : Text) → markup at (60 ∷ s) ≡ passed a r → turn tags at (60 ∷ s) ≡ on tags [] a r
turn-passed tags at s a r h = turn-less tags at s ∙ ap (level_of tags) h

comment-markup : {v : Text} → Comment v → (at : ℕ) (r : Text) → (w : Text) × (v ++ r ≡ 60 ∷ w) × (markup at (60 ∷ w) ≡ passed (at + length v) r)
unfolding markup bytes starts_with
comment-markup {v} (grammar.comment {s} k) at r = (33 ∷ 45 ∷ 45 ∷ ((s ++ bytes "-->") ++ r), refl, ap passed_by (comment-complete (grammar.comment k) at r))

section-markup : {v : Text} → CDSect v → (at : ℕ) (r : Text) → (w : Text) × (v ++ r ≡ 60 ∷ w) × (markup at (60 ∷ w) ≡ passed (at + length v) r)
unfolding markup bytes starts_with
section-markup {v} (grammar.section {s} c k) at r = (33 ∷ 91 ∷ 67 ∷ 68 ∷ 65 ∷ 84 ∷ 65 ∷ 91 ∷ ((s ++ bytes "]]>") ++ r), refl, ap passed_by (section-complete (grammar.section c k) at r))

instruction-markup : {v : Text} → PI v → (at : ℕ) (r : Text) → (w : Text) × (v ++ r ≡ 60 ∷ w) × (markup at (60 ∷ w) ≡ passed (at + length v) r)
unfolding markup bytes starts_with
instruction-markup {v} (grammar.instruction {n} {s} a o) at r = (63 ∷ ((n ++ (s ++ bytes "?>")) ++ r), refl, ap passed_by (instruction-complete (grammar.instruction a o) at r))

passed-goes : (v : Text) (at : ℕ) (r : Text) → (w : Text) × (v ++ r ≡ 60 ∷ w) × (markup at (60 ∷ w) ≡ passed (at + length v) r) → 0 < length v → (m : Text) (tags : List Text) (turns : ℕ)
    → length (v ++ r) < turns → Goes (m ∷ tags) at v [] turns r
passed-goes v at r (w, p, h) z m tags turns l =
    let t = subst (λ (x : Text). turn (m ∷ tags) at x ≡ on (m ∷ tags) [] (at + length v) r) (sym p) (turn-passed (m ∷ tags) at w (at + length v) r h) in
    let g = turns-on turns m tags at (v ++ r) (m ∷ tags) [] (at + length v) r l t in
    (g.0, omega (arith, g.1, length-append v r), g.2)

-- a tag
tag-markup : (at b : ℕ) (s : Text) → may_start b ≡ true → markup at (60 ∷ b ∷ s) ≡ starting at (60 ∷ b ∷ s)
unfolding markup bytes starts_with is_name_start is_letter between
tag-markup at b s h = rw (start-other b 47 h refl, start-other b 33 h refl, start-other b 63 h refl)

turn-tag : (tags : List Text) (at b : ℕ) (s : Text) → may_start b ≡ true → turn tags at (60 ∷ b ∷ s) ≡ level_of_tag tags (tag at (60 ∷ b ∷ s))
turn-tag tags at b s h = turn-less tags at (b ∷ s) ∙ ap (level_of tags) (tag-markup at b s h)

body-first : {at : ℕ} {s n : Text} {xs : List AttributePairs} → grammar.TagBody at s n xs → (r : Text) → (b : ℕ) × (w : Text) × (may_start b ≡ true) × (s ++ r ≡ 60 ∷ b ∷ w)
unfolding bytes
body-first (grammar.tag_body {s} {t} n ds k o) r = let f = name-first n in (f.0, (f.1 ++ (s ++ t)) ++ r, f.3, ap (λ (v : Text). 60 ∷ ((v ++ (s ++ t)) ++ r)) f.2)

start_first : {at : ℕ} {s n : Text} {e : TapeEvent} → STag at s n e → (r : Text) → (b : ℕ) × (w : Text) × (may_start b ≡ true) × (s ++ r ≡ 60 ∷ b ∷ w)
start_first (grammar.start_tag {s} d) r = let f = body-first d (bytes ">" ++ r) in (f.0, f.1, f.2, append_assoc s (bytes ">") r ∙ f.3)

empty-first : {at : ℕ} {s : Text} {e : TapeEvent} → EmptyElemTag at s e → (r : Text) → (b : ℕ) × (w : Text) × (may_start b ≡ true) × (s ++ r ≡ 60 ∷ b ∷ w)
empty-first (grammar.empty_tag {s} d) r = let f = body-first d (bytes "/>" ++ r) in (f.0, f.1, f.2, append_assoc s (bytes "/>") r ∙ f.3)

turn-start : {at : ℕ} {s n : Text} {e : TapeEvent} → STag at s n e → (tags : List Text) (r : Text) → turn tags at (s ++ r) ≡ on (n ∷ tags) (e ∷ []) (at + length s) r
unfolding opened
turn-start {at} {s} {n} {e} d tags r =
    let f = start_first d r in
    let c = start-complete d r in
    let t = subst (λ (x : Text). turn tags at x ≡ level_of_tag tags (tag at x)) (sym f.3) (turn-tag tags at f.0 f.1 f.2) in
    t ∙ ap (level_of_tag tags) c.3 ∙ ap (λ (x : TapeEvent). on (n ∷ tags) (x ∷ []) (at + length s) r) (sym c.2)

turn-empty : {at : ℕ} {s : Text} {e : TapeEvent} → EmptyElemTag at s e → (tags : List Text) (r : Text) → turn tags at (s ++ r) ≡ on tags (e ∷ []) (at + length s) r
unfolding opened
turn-empty {at} {s} {e} d tags r =
    let f = empty-first d r in
    let c = empty-complete d r in
    let t = subst (λ (x : Text). turn tags at x ≡ level_of_tag tags (tag at x)) (sym f.3) (turn-tag tags at f.0 f.1 f.2) in
    t ∙ ap (level_of_tag tags) c.4 ∙ ap (λ (x : TapeEvent). on tags (x ∷ []) (at + length s) r) (sym c.3)

-- an end tag
close-first : {v n : Text} → ETag v n → (r : Text) → (w : Text) × (v ++ r ≡ 60 ∷ 47 ∷ w)
unfolding bytes
close-first (end_tag {n} {s} m o) r = ((n ++ (s ++ bytes ">")) ++ r, refl)

close-markup : (at : ℕ) (s : Text) → markup at (60 ∷ 47 ∷ s) ≡ close at (60 ∷ 47 ∷ s)
unfolding markup bytes starts_with
close-markup at s = refl

turn-close : {v m : Text} → ETag v m → (at : ℕ) (n : Text) (tags : List Text) (r : Text) → m ≡ n → turn (n ∷ tags) at (v ++ r) ≡ on tags (TapeEvent.close ∷ []) (at + length v) r
turn-close {v} {m} d at n tags r e =
    let f = close-first d r in
    let t = subst (λ (x : Text). turn (n ∷ tags) at x ≡ level_of (n ∷ tags) (close at x)) (sym f.1) (turn-less (n ∷ tags) at (47 ∷ f.0) ∙ ap (level_of (n ∷ tags)) (close-markup at f.0)) in
    let s : same m n ≡ true = ap (same m) (sym e) ∙ same_refl m in
    t ∙ ap (level_of (n ∷ tags)) (close-complete d at r) ∙ (rw s refl)

-- what an item begins with
less-stops : (s w : Text) → s ≡ 60 ∷ w → Stops s
unfolding first
less-stops s w e = inl (ap first e)

pub element-first : {at : ℕ} {s : Text} {es : List TapeEvent} → Element at s es → (r : Text) → (b : ℕ) × (w : Text) × (may_start b ≡ true) × (s ++ r ≡ 60 ∷ b ∷ w)
element-first (empty_element d) r = empty-first d r
element-first (whole_element {s} {t} {u} d c e q) r = let f = start_first d ((t ++ u) ++ r) in (f.0, f.1, f.2, append_assoc s (t ++ u) r ∙ f.3)

element-stops : {at : ℕ} {s : Text} {es : List TapeEvent} → Element at s es → (r : Text) → Stops (s ++ r)
element-stops {s} d r = let f = element-first d r in less-stops (s ++ r) _ f.3

item-stops : {at : ℕ} {s : Text} {es : List TapeEvent} → Item at s es → (r : Text) → Stops (s ++ r)
unfolding bytes first
item-stops (item_element d) r = element-stops d r
item-stops (item_reference d) r = let b = reference-bytes d in inr (ap (λ (t : Text). first (t ++ r)) b.1)
item-stops (item_section (grammar.section c k)) r = inl refl
item-stops (item_pi (grammar.instruction a o)) r = inl refl
item-stops (item_comment (grammar.comment k)) r = inl refl

items-stops : {at : ℕ} {s : Text} {es : List TapeEvent} → Items at s es → (r : Text) → Stops r → Stops (s ++ r)
items-stops no_item r h = h
items-stops (one_item {s} {t} {u} i o d) r h = subst Stops (sym (append_assoc s (t ++ u) r)) (item-stops i ((t ++ u) ++ r))

-- one text behind the other
module _ (tags : List Text) (at : ℕ) where
  goes_then : (s u : Text) (es fs : List TapeEvent) (turns : ℕ) (r : Text) → Goes tags at s es turns (u ++ r) → ((t : ℕ) → length (u ++ r) < t → Goes tags (at + length s) u fs t r)
      → Goes tags at (s ++ u) (es ++ fs) turns r
  goes_then s u es fs turns r g k =
      let h = k g.0 g.1 in (
        h.0,
        h.1,
        ap (inside turns tags at) (append_assoc s u r) ∙ g.2 ∙ ap (add_events es) h.2 ∙ add-add es fs (inside h.0 tags (at + length s + length u) r)
            ∙ ap (λ (z : ℕ). add_events (es ++ fs) (inside h.0 tags z r)) (omega (arith, length-append s u)),
      )

goes_none : (tags : List Text) (at : ℕ) (turns : ℕ) (r : Text) → length r < turns → Goes tags at [] [] turns r
goes_none tags at turns r l = (turns, l, sym (add_none (inside turns tags at r)) ∙ ap (λ (z : ℕ). add_events [] (inside turns tags z r)) (omega arith))

opt-data : {c : Text} → Opt CharData c → (at : ℕ) (r : Text) → Stops r → char_data at (c ++ r) ≡ char_data (at + length c) r
opt-data absent at r h = ap (λ (x : ℕ). char_data x r) (omega arith)
opt-data (present d) at r h = data-complete d at r h

goes-data : {c : Text} → Opt CharData c → (m : Text) (tags : List Text) (at turns : ℕ) (r : Text) → Stops r → length (c ++ r) < turns → Goes (m ∷ tags) at c [] turns r
goes-data {c} o m tags at turns r h l =
    (turns, omega (arith, length-append c r), over-text turns m tags at (c ++ r) (at + length c) r (opt-data o at r h) ∙ sym (add_none (inside turns (m ∷ tags) (at + length c) r)))

goes-reference : {v : Text} → Reference v → (m : Text) (tags : List Text) (at turns : ℕ) (r : Text) → length (v ++ r) < turns → Goes (m ∷ tags) at v [] turns r
goes-reference {v} d m tags at turns r l =
    (turns, omega (arith, length-append v r), over-text turns m tags at (v ++ r) (at + length v) r (data-pass d at r) ∙ sym (add_none (inside turns (m ∷ tags) (at + length v) r)))

goes-empty : {at : ℕ} {s : Text} {e : TapeEvent} → EmptyElemTag at s e → (m : Text) (tags : List Text) (turns : ℕ) (r : Text) → length (s ++ r) < turns → Goes (m ∷ tags) at s (e ∷ []) turns r
goes-empty {at} {s} {e} d m tags turns r l =
    let g = turns-on turns m tags at (s ++ r) (m ∷ tags) (e ∷ []) (at + length s) r l (turn-empty d (m ∷ tags) r) in
    let f = empty-first d [] in
    let some = ap length (sym (append-nil s) ∙ f.3) in
    (g.0, omega (arith, g.1, length-append s r), g.2)

goes-whole : {at : ℕ} {s n : Text} {e : TapeEvent} → STag at s n e → (t : Text) (es : List TapeEvent)
    → ((tags : List Text) (turns : ℕ) (r : Text) → Stops r → length (t ++ r) < turns → Goes (n ∷ tags) (at + length s) t es turns r)
    → {u k : Text} → ETag u k → k ≡ n → (m : Text) (tags : List Text) (turns : ℕ) (r : Text) → length ((s ++ (t ++ u)) ++ r) < turns → Goes (m ∷ tags) at (s ++ (t ++ u))
    (e ∷ (es ++ TapeEvent.close ∷ [])) turns r
goes-whole {at} {s} {n} {e} d t es c {u} {k} x q m tags turns r l =
    let whole : (s ++ (t ++ u)) ++ r ≡ s ++ (t ++ (u ++ r)) = simp append_assoc in
    let size : length ((s ++ (t ++ u)) ++ r) ≡ length s + (length t + (length u + length r)) = simp length-append (omega arith) in
    let size2 : length (s ++ (t ++ (u ++ r))) ≡ length s + (length t + (length u + length r)) = simp length-append in
    let size3 : length (t ++ (u ++ r)) ≡ length t + (length u + length r) = simp length-append in
    let size4 : length (s ++ (t ++ u)) ≡ length s + (length t + length u) = simp length-append in
    let f = start_first d [] in
    let some = ap length (sym (append-nil s) ∙ f.3) in
    let z = close-first x r in
    let some2 = close-first x [] in
    let some3 = ap length (sym (append-nil u) ∙ some2.1) in
    let a = turns-on turns m tags at (s ++ (t ++ (u ++ r))) (n ∷ m ∷ tags) (e ∷ []) (at + length s) (t ++ (u ++ r)) (omega arith) (turn-start d (m ∷ tags) (t ++ (u ++ r))) in
    let b = c (m ∷ tags) a.0 (u ++ r) (less-stops (u ++ r) (47 ∷ z.0) z.1) (omega (arith, a.1)) in
    let g = turns-on b.0 n (m ∷ tags) (at + length s + length t) (u ++ r) (m ∷ tags) (TapeEvent.close ∷ []) (at + length s + length t + length u) r b.1
    (turn-close x (at + length s + length t) n (m ∷ tags) r q) in (
      g.0,
      omega (arith, g.1, length-append u r),
      ap (inside turns (m ∷ tags) at) whole ∙ a.2 ∙ ap (add_events (e ∷ [])) (b.2 ∙ ap (add_events es) g.2 ∙ add-add es (TapeEvent.close ∷ [])
          (inside g.0 (m ∷ tags) (at + length s + length t + length u) r))
          ∙ add-add (e ∷ []) (es ++ TapeEvent.close ∷ []) (inside g.0 (m ∷ tags) (at + length s + length t + length u) r)
          ∙ ap (λ (j : ℕ). add_events (e ∷ (es ++ TapeEvent.close ∷ [])) (inside g.0 (m ∷ tags) j r)) (omega arith),
    )

goes-content : (at : ℕ) {s : Text} → Opt CharData s → (t : Text) (es : List TapeEvent) (m : Text) (tags : List Text) (turns : ℕ) (r : Text) → Stops (t ++ r)
    → ((turns : ℕ) → length (t ++ r) < turns → Goes (m ∷ tags) (at + length s) t es turns r) → length ((s ++ t) ++ r) < turns → Goes (m ∷ tags) at (s ++ t) es turns r
goes-content at {s} o t es m tags turns r h k l =
    goes_then (m ∷ tags) at s t [] es turns r (goes-data o m tags at turns (t ++ r) h (omega (arith, ap length (append_assoc s t r)))) k

-- what holds of each part of content; of content and items before `<` or `&`
abbrev PartGoes : ℕ → Text → List TapeEvent → Type 0
PartGoes at s es = (m : Text) (tags : List Text) (turns : ℕ) (r : Text) → length (s ++ r) < turns → Goes (m ∷ tags) at s es turns r

abbrev BeforeGoes : ℕ → Text → List TapeEvent → Type 0
BeforeGoes at s es = (m : Text) (tags : List Text) (turns : ℕ) (r : Text) → Stops r → length (s ++ r) < turns → Goes (m ∷ tags) at s es turns r

items-go : (at : ℕ) (s : Text) (es : List TapeEvent) → PartGoes at s es → {t : Text} → Opt CharData t → {u : Text} {fs : List TapeEvent} → Items (at + length s + length t) u fs
    → BeforeGoes (at + length s + length t) u fs → BeforeGoes at (s ++ (t ++ u)) (es ++ fs)
items-go at s es i {t} o {u} {fs} d k m tags turns r h l =
    goes_then (m ∷ tags) at s (t ++ u) es fs turns r (i m tags turns ((t ++ u) ++ r) (omega (arith, ap length (append_assoc s (t ++ u) r))))
    (λ y z. goes-content (at + length s) o u fs m tags y r (items-stops d r h) (λ w v. k m tags w r h v) z)

content-goes : {at : ℕ} {s : Text} {es : List TapeEvent} → Content at s es → BeforeGoes at s es
content-goes d =
    elim d as (λ at s es x. PartGoes at s es) (λ at s es x. BeforeGoes at s es) (λ at s es x. BeforeGoes at s es) (λ at s es x. PartGoes at s es) [
      | empty_element x ↦ λ m tags turns r l. goes-empty x m tags turns r l
      | whole_element {t} {n} {es} x (c → h) e q ↦ λ m tags turns r l. goes-whole x t es (λ left k v z j. h n left k v z j) e q m tags turns r l
      | content {at} {t} {es} o (c → h) ↦ λ m tags turns r z l. goes-content at o t es m tags turns r (items-stops c r z) (λ k j. h m tags k r z j) l
      | no_item {at} ↦ λ m tags turns r z l. goes_none (m ∷ tags) at turns r l
      | one_item {at} {s} {es} (i → k) o (c → h) ↦ items-go at s es k o c h
      | item_element (c → h) ↦ h
      | item_reference {at} x ↦ λ m tags turns r l. goes-reference x m tags at turns r l
      | item_section {at} {s} x ↦ λ m tags turns r l. passed-goes s at r (section-markup x at r) (section-some x) m tags turns l
      | item_pi {at} {s} x ↦ λ m tags turns r l. passed-goes s at r (instruction-markup x at r) (instruction-some x) m tags turns l
      | item_comment {at} {s} x ↦ λ m tags turns r l. passed-goes s at r (comment-markup x at r) (comment-some x) m tags turns l
    ]

-- [39], the other way
end-inside : (t at : ℕ) (r : Text) → 0 < t → inside t [] at r ≡ rooted [] at r
unfolding inside
end-inside zero at r h = absurd (omega arith)
end-inside (suc t) at r h = refl

root-of-tag : (at : ℕ) (s : Text) (d : Tagged) → tag at s ≡ d → root at s ≡ on_level inside_all (level_of_tag [] d)
unfolding root
root-of-tag at s d h = rw h

root-one : (e : TapeEvent) (kind : ℕ) (pair : Pair) (xs : List AttributePairs) (n : Text) (a : ℕ) (r : Text) → e ≡ TapeEvent.tag kind pair xs → kind ≡ 2
    → on_level inside_all (level_of_tag [] (tagged kind pair xs n a r)) ≡ rooted (e ∷ []) a r
unfolding opened add_events inside
root-one e kind pair xs n a r p q = rw (ne_eqb kind 1 (λ (y : kind ≡ 1). omega arith), p)

root-more : (e : TapeEvent) (kind : ℕ) (pair : Pair) (xs : List AttributePairs) (n : Text) (a : ℕ) (r : Text) → e ≡ TapeEvent.tag kind pair xs → kind ≡ 1
    → on_level inside_all (level_of_tag [] (tagged kind pair xs n a r)) ≡ add_events (e ∷ []) (inside_all (n ∷ []) a r)
unfolding opened
root-more e kind pair xs n a r p q = rw (eq-eqb kind 1 q, p)

add-rooted : (es fs : List TapeEvent) (a : ℕ) (r : Text) → add_events es (rooted fs a r) ≡ rooted (es ++ fs) a r
unfolding add_events
add-rooted es fs a r = refl

rooted-at : {es : List TapeEvent} {a b : ℕ} {r : Text} → a ≡ b → rooted es a r ≡ rooted es b r
rooted-at e = cc

pub root-complete : {at : ℕ} {s : Text} {es : List TapeEvent} → Element at s es → (r : Text) → root at (s ++ r) ≡ rooted es (at + length s) r
root-complete {at} (empty_element {s} {e} d) r =
    let c = empty-complete d r in
    root-of-tag at (s ++ r) _ c.4 ∙ root-one e 2 c.0 c.1 c.2 (at + length s) r c.3 refl
root-complete {at} (whole_element {s} {t} {u} {n} {m} {e} {es} d c x q) r =
    let whole : (s ++ (t ++ u)) ++ r ≡ s ++ (t ++ (u ++ r)) = simp append_assoc in
    let size : length (s ++ (t ++ u)) ≡ length s + (length t + length u) = simp length-append in
    let f = start-complete d (t ++ (u ++ r)) in
    let z = close-first x r in
    let b = content-goes c n [] (suc (length (t ++ (u ++ r)))) (u ++ r) (less-stops (u ++ r) (47 ∷ z.0) z.1) (omega arith) in
    let g = turns-on b.0 n [] (at + length s + length t) (u ++ r) [] (TapeEvent.close ∷ []) (at + length s + length t + length u) r b.1 (turn-close x (at + length s + length t) n [] r q) in
    let some = ap length z.1 in
    ap (root at) whole ∙ root-of-tag at (s ++ (t ++ (u ++ r))) _ f.3 ∙ root-more e 1 f.0 f.1 n (at + length s) (t ++ (u ++ r)) f.2 refl
    ∙ ap (add_events (e ∷ [])) (b.2 ∙ ap (add_events es) (g.2 ∙ ap (add_events (TapeEvent.close ∷ [])) (end-inside g.0 _ r (omega (arith, g.1))) ∙ add-rooted (TapeEvent.close ∷ []) [] _ r)
    ∙ add-rooted es (TapeEvent.close ∷ []) _ r)
    ∙ add-rooted (e ∷ []) (es ++ TapeEvent.close ∷ []) _ r ∙ rooted-at (omega arith)
