-- What the pairs of a written tag point at: the tag's own texts, wherever it stands in a text. Assumes nothing.
use Prim.Native.Nat.{ℕ, ◌+◌}
use mathlib.Core.Path.{◌≡◌, refl, sym, ap, ◌∙◌}
use mathlib.Core.List.{List, [], ◌∷◌, ◌++◌}
use native.Mathlib.Omega.{arith}
use lib.ListN.{length, drop}
use lib.Seq.{drop-drop, drop_at, take_at}
use Rattle.text.specs.Text.{Text}
use Rattle.xsd_parser.specs.Event.{Attr, Tag}
use Rattle.xsd_parser.specs.Tape.{pair_text, attrs_of, tag_of, event_of}
use Rattle.xml.specs.Accepted.{attribute_pairs, event_read}
use Rattle.xml.specs.Written.{quote_of, written_attributes, tag_end, written_tag, attribute_places, written_event}
use Rattle.xml.proofs.Laws.Written.{written-more, tag-more}

-- a part of a text from a place on
pub under-pair : (text : Text) (at o z : ℕ) (v r : Text) → drop at text ≡ v ++ r → o ≡ at → z ≡ length v → pair_text text (record { offset = o; size = z }) ≡ v
unfolding pair_text
under-pair text at o z v r h e f = rw (e, h) (take_at v r z (sym f))

pub drop_past : (text : Text) (at k : ℕ) (n s : Text) → drop at text ≡ n ++ s → k ≡ at + length n → drop k text ≡ s
drop_past text at k n s h e =
    ap (λ (i : ℕ). drop i text) e ∙ sym (drop-drop (length n) at text) ∙ ap (drop (length n)) h ∙ drop_at n s (length n) refl

pub attr-same : (x : Attr) (k v : Text) → k ≡ x.key → v ≡ x.value → ◌≡◌ {A = Attr} (record { key = k; value = v }) x
attr-same x k v e f = rw (e, f)

pub list_same : {y z : Attr} {ys zs : List Attr} → y ≡ z → ys ≡ zs → y ∷ ys ≡ z ∷ zs
list_same e f = cc

pub attributes-back : (text : Text) (at : ℕ) (xs : List Attr) (tail : Text) → drop at text ≡ written_attributes xs ++ tail → attrs_of text (attribute_pairs (attribute_places at xs)) ≡ xs
unfolding attrs_of attribute_pairs attribute_places
attributes-back text at [] tail h = refl
attributes-back text at (x ∷ xs) tail h =
    let q = quote_of x.value in
    let k = length x.key in
    let v = length x.value in
    let w = written_attributes xs ++ tail in
    let key = drop_past text at (at + 1) (32 ∷ []) (x.key ++ (61 ∷ q ∷ (x.value ++ (q ∷ w)))) (h ∙ written-more x xs tail) refl in
    let equals = drop_past text (at + 1) (at + 1 + k) x.key (61 ∷ q ∷ (x.value ++ (q ∷ w))) key refl in
    let val = drop_past text (at + 1 + k) (at + k + 3) (61 ∷ q ∷ []) (x.value ++ q ∷ w) equals (omega arith) in
    let end = drop_past text (at + k + 3) (at + k + 3 + v) x.value (q ∷ w) val refl in
    let rest = drop_past text (at + k + 3 + v) (at + k + v + 4) (q ∷ []) w end (omega arith) in
    list_same
    (attr-same x _ _ (under-pair text (at + 1) (at + 1) k x.key (61 ∷ q ∷ (x.value ++ (q ∷ w))) key refl refl) (under-pair text (at + k + 3) (at + k + 3) v x.value (q ∷ w) val refl refl))
    (attributes-back text (at + k + v + 4) xs tail rest)

pub tag_same : (t : Tag) (n : Text) (xs : List Attr) → n ≡ t.name → xs ≡ t.attributes → ◌≡◌ {A = Tag} (record { name = n; attributes = xs }) t
tag_same t n xs e f = rw (e, f)

pub tag_back : (text : Text) (at kind : ℕ) (t : Tag) (rest : Text) → drop at text ≡ written_tag kind t ++ rest
    → event_read text (written_event at kind t) ≡ event_of kind t
unfolding event_read tag_of
tag_back text at kind t rest h =
    let w = written_attributes t.attributes ++ (tag_end kind ++ rest) in
    let n = drop_past text at (at + 1) (60 ∷ []) (t.name ++ w) (h ∙ tag-more kind t rest) refl in
    let behind = drop_past text (at + 1) (at + 1 + length t.name) t.name w n refl in
    ap (event_of kind)
    (tag_same t _ _ (under-pair text (at + 1) (at + 1) (length t.name) t.name w n refl refl) (attributes-back text (at + 1 + length t.name) t.attributes (tag_end kind ++ rest) behind))
