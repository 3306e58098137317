-- XML 1.0 by its productions (specs/Grammar.antt) and the recogniser (specs/Document.antt), both ways: `document` accepts a text with a list of events exactly if
-- the text derives a document whose tags in order are these events; so a text has at most one such list. It finds a document type exactly behind a derivable
-- prolog. Each production is shown in the module that has its name. Assumes nothing.
use Prim.Native.Nat.{ℕ, ◌+◌}
use mathlib.Core.Path.{◌≡◌, refl, sym, ap, subst, ◌∙◌}
use mathlib.Core.Logic.{◌↔◌}
use mathlib.Core.List.{List, [], ◌∷◌, ◌++◌, append-nil}
use mathlib.Core.Bool.{true, false}
use native.Mathlib.Omega.{arith}
use lib.ListN.{length}
use Rattle.text.specs.Text.{Text, bytes, first, between}
use Rattle.text.specs.Trim.{is_white_space}
use Rattle.text.proofs.Laws.Tests.{bool_cases}
use Rattle.xml.specs.Classes.{is_letter, is_name_start}
use Rattle.xml.specs.Steps.{Step, bad, behind, starts_with}
use Rattle.xml.specs.Prolog.{is_misc, misc, prolog}
use Rattle.xml.specs.Tape.{TapeEvent}
use Rattle.xml.specs.Root.{Rooted, unrooted, rooted, root}
use Rattle.xml.specs.Document.{Document, with_doctype, not_well_formed, well_formed, to_end, root_behind, document_from, prolog_behind, document}
use Rattle.xml.specs.Grammar.{Prolog, Element, Derived, BegunByDoctype}
use Rattle.xml.specs.Grammar as grammar
use Rattle.xml.proofs.Laws.Written.{start-other}
use Rattle.xml.proofs.Laws.Grammar.Basics.{word-starts, starts-word}
use Rattle.xml.proofs.Laws.Grammar.Contents.{root-sound, root-complete, element-first}
use Rattle.xml.proofs.Laws.Grammar.Prolog.{Follows, misc-sound, misc-complete}
use Rattle.xml.proofs.Laws.Grammar.Around.{prolog-sound, prolog-complete}

-- a document, from its end on
not-well-not : {es : List TapeEvent} {A : Type 0} → not_well_formed ≡ well_formed es → A
not-well-not q = let z : ◌≡◌ {A = ℕ} 0 1 = cc in absurd (omega arith)

to_end_lem : (fs : List TapeEvent) (d : Step) (es : List TapeEvent) → to_end fs d ≡ well_formed es → (a : ℕ) × (d ≡ behind a []) × (fs ≡ es)
unfolding to_end
to_end_lem fs bad es h = not-well-not h
to_end_lem fs (behind a []) es h = (a, refl, cc)
to_end_lem fs (behind a (b ∷ s)) es h = not-well-not h

root-end : (d : Rooted) (es : List TapeEvent) → root_behind d ≡ well_formed es → (a : ℕ) × (r : Text) × (b : ℕ) × (d ≡ rooted es a r) × (misc a r ≡ behind b [])
root-end unrooted es h = not-well-not h
root-end (rooted fs a r) es h = let k = to_end_lem fs (misc a r) es h in (a, r, k.0, ap (λ (l : List TapeEvent). rooted l a r) k.2, k.1)

prolog-end : (d : Step) (es : List TapeEvent) → prolog_behind d ≡ well_formed es → (at : ℕ) × (s : Text) × (d ≡ behind at s) × (document_from at s ≡ well_formed es)
prolog-end bad es h = not-well-not h
prolog-end (behind at s) es h =
    bool_cases (starts_with (bytes "<!DOCTYPE") s)
    (λ y. let k : with_doctype ≡ well_formed es = rw y at h in let z : ◌≡◌ {A = ℕ} 0 1 = cc in absurd (omega arith))
    (λ y. (at, s, refl, rw y at h))

derived-as : {s t : Text} {es : List TapeEvent} → s ≡ t → Derived s es → Derived t es
derived-as {s} {t} {es} p d = subst (λ (z : Text). Derived z es) p d

element-at : {at b : ℕ} {s : Text} {es : List TapeEvent} → at ≡ b → Element at s es → Element b s es
element-at {at} {b} {s} {es} p d = subst (λ (z : ℕ). Element z s es) p d

pub document-sound : (text : Text) (es : List TapeEvent) → document text ≡ well_formed es → Derived text es
unfolding document document_from
document-sound text es h =
    let p = prolog-end (prolog 0 text) es h in
    let r = root-end (root p.0 p.1) es p.3 in
    let a = prolog-sound 0 text p.0 p.1 p.2 in
    let b = root-sound p.0 p.1 es r.0 r.1 r.3 in
    let c = misc-sound r.0 r.1 r.2 [] r.4 in
    derived-as (sym (a.2 ∙ ap (λ (t : Text). a.0 ++ t) (b.2 ∙ ap (λ (t : Text). b.0 ++ t) (c.2 ∙ append-nil c.0))))
    (grammar.document a.1 (element-at (omega (arith, a.3)) b.1) c.1)

-- the other way
element-follows : {at : ℕ} {s : Text} {es : List TapeEvent} → Element at s es → (r : Text) → Follows (s ++ r) × (starts_with (bytes "<!DOCTYPE") (s ++ r) ≡ false)
unfolding bytes starts_with is_misc first is_white_space is_name_start is_letter between
element-follows d r =
    let f = element-first d r in
    rw (f.3, start-other f.0 33 f.2 refl, start-other f.0 63 f.2 refl) ((refl, refl), refl)

end-follows : Follows []
unfolding is_misc bytes starts_with first is_white_space
end-follows = (refl, refl)

prolog-derived : {s : Text} → Prolog s → (r : Text) → Follows r → document (s ++ r) ≡ prolog_behind (behind (length s) r)
unfolding document
prolog-derived {s} p r f = ap prolog_behind (prolog-complete p 0 r f ∙ ap (λ (x : ℕ). behind x r) (omega arith))

root-derived : (at : ℕ) (s : Text) (es : List TapeEvent) (a : ℕ) (r : Text) → root at s ≡ rooted es a r → (b : ℕ) → misc a r ≡ behind b [] → document_from at s ≡ well_formed es
unfolding document_from to_end
root-derived at s es a r h b k = rw (h, k)

pub document-complete : {text : Text} {es : List TapeEvent} → Derived text es → document text ≡ well_formed es
document-complete (grammar.document {s} {t} {u} {es} p d m) =
    let f = element-follows d u in
    let end : misc (length s + length t) u ≡ behind (length s + length t + length u) [] = ap (misc (length s + length t)) (sym (append-nil u)) ∙ misc-complete m (length s + length t) [] end-follows in
    prolog-derived p (t ++ u) f.0 ∙ (rw f.1 (root-derived (length s) (t ++ u) es (length s + length t) u (root-complete d u) (length s + length t + length u) end))

-- 18: a document type
from-not : (d : Rooted) {A : Type 0} → root_behind d ≡ with_doctype → A
unfolding to_end
from-not unrooted h = let z : ◌≡◌ {A = ℕ} 0 1 = cc in absurd (omega arith)
from-not (rooted es a r) h = end-not (misc a r) h
  where
    end-not : (d : Step) {A : Type 0} → to_end es d ≡ with_doctype → A
    end-not bad h = let z : ◌≡◌ {A = ℕ} 0 1 = cc in absurd (omega arith)
    end-not (behind b []) h = let z : ◌≡◌ {A = ℕ} 0 1 = cc in absurd (omega arith)
    end-not (behind b (c ∷ s)) h = let z : ◌≡◌ {A = ℕ} 0 1 = cc in absurd (omega arith)

prolog-begun : (d : Step) → prolog_behind d ≡ with_doctype → (at : ℕ) × (s : Text) × (d ≡ behind at s) × (starts_with (bytes "<!DOCTYPE") s ≡ true)
unfolding document_from
prolog-begun bad h = let z : ◌≡◌ {A = ℕ} 0 1 = cc in absurd (omega arith)
prolog-begun (behind at s) h =
    bool_cases (starts_with (bytes "<!DOCTYPE") s) (λ y. (at, s, refl, y)) (λ y. from-not (root at s) (rw y at h))

begun-as : {s t : Text} → s ≡ t → BegunByDoctype s → BegunByDoctype t
begun-as p d = subst BegunByDoctype p d

pub doctype-sound : (text : Text) → document text ≡ with_doctype → BegunByDoctype text
unfolding document
doctype-sound text h =
    let p = prolog-begun (prolog 0 text) h in
    let a = prolog-sound 0 text p.0 p.1 p.2 in
    begun-as (sym (a.2 ∙ ap (λ (t : Text). a.0 ++ t) (word-starts (bytes "<!DOCTYPE") p.1 p.3))) (grammar.begun _ a.1)

doctype-follows : (r : Text) → Follows (bytes "<!DOCTYPE" ++ r)
unfolding bytes is_misc starts_with first is_white_space
doctype-follows r = (refl, refl)

pub doctype-complete : {text : Text} → BegunByDoctype text → document text ≡ with_doctype
doctype-complete (grammar.begun r p) = prolog-derived p (bytes "<!DOCTYPE" ++ r) (doctype-follows r) ∙ (rw (starts-word (bytes "<!DOCTYPE") r))

-- the three answers, exactly
pub document-exactly : (text : Text) (es : List TapeEvent) → (document text ≡ well_formed es) ↔ Derived text es
document-exactly text es = (document-sound text es, λ d. document-complete d)

pub doctype-exactly : (text : Text) → (document text ≡ with_doctype) ↔ BegunByDoctype text
doctype-exactly text = (doctype-sound text, λ d. doctype-complete d)

pub derived-once : {text : Text} {es fs : List TapeEvent} → Derived text es → Derived text fs → es ≡ fs
derived-once d e =
    let p = document-complete d in
    let q = document-complete e in
    cc

abbrev pub Neither : Text → Type 0
Neither text = (BegunByDoctype text → ⊥) × ((es : List TapeEvent) → Derived text es → ⊥)

pub malformed-exactly : (text : Text) → (document text ≡ not_well_formed) ↔ Neither text
malformed-exactly text = (there, back (document text) refl)
  where
    there : document text ≡ not_well_formed → Neither text
    there h =
        (λ b. let p = doctype-complete b in let z : ◌≡◌ {A = ℕ} 0 1 = cc in omega arith, λ es d. let p = document-complete d in let z : ◌≡◌ {A = ℕ} 0 1 = cc in omega arith)

    back : (d : Document) → document text ≡ d → Neither text → document text ≡ not_well_formed
    back with_doctype e n = absurd (n.0 (doctype-sound text e))
    back not_well_formed e n = e
    back (well_formed es) e n = absurd (n.1 es (document-sound text es e))
