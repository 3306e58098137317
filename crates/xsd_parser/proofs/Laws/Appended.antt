-- A record with more marks behind it is the same record, unless the marks ended within it. Assumes nothing.
--     longer m r    the record r with the marks m behind the rest
use Rattle.std.specs.Prelude.{if◌then◌else◌}
use mathlib.Core.Path.{◌≡◌, refl, sym, ap, ◌∙◌}
use mathlib.Core.Bool.{Bool, true, false, ◌&&◌, and-false, true≢false, false≢true}
use mathlib.Core.List.{List, [], ◌∷◌, ◌++◌}
use Prim.Native.Nat.{ℕ, zero, suc, ◌*◌, ◌≤◌}
use native.Mathlib.Omega.{arith}
use lib.Dec.{eqb, leb, ltb}
use lib.ListN.{length, drop, length-append}
use lib.Seq.{drop-append-le}
use borrow.Author.Tests.{leb-true, leb-false, le-leb, lt-leb, lt-ltb, ltb-true, eqb-false, ne_eqb}
use Rattle.text.specs.Text.{Text, between}
use Rattle.std.proofs.lemmas.Bool.{false_from_ne_true}
use Rattle.text.proofs.Laws.Tests.{and-true, three, if-either}
use Rattle.text.proofs.Laws.Texts.{between-low, between-high}
use Rattle.xsd_parser.specs.Event.{Event}
use Rattle.xsd_parser.specs.Tape.{Pair, pairs_of, all_inside, all_ascii, tag_of, Recorded, finished, bad, next, pair_count, event_of, form_test, tag_record, record1}
use Rattle.xsd_parser.specs.Whole.{cut_short}
use Rattle.xsd_parser.proofs.Laws.Records.{next-shorter}

abbrev pub longer : List ℕ → Recorded → Recorded
longer m finished = finished
longer m (bad r) = bad r
longer m (next e rest) = next e (rest ++ m)

pub pairs_of-append : (n : ℕ) (rest m : List ℕ) → 2 * n ≤ length rest → pairs_of n (rest ++ m) ≡ pairs_of n rest
unfolding pairs_of
pairs_of-append zero rest m h = refl
pairs_of-append (suc n) [] m h = absurd (omega arith)
pairs_of-append (suc n) (o ∷ []) m h = absurd (omega arith)
pairs_of-append (suc n) (o ∷ l ∷ rest) m h = ap (λ ps. record { offset = o; size = l } ∷ ps) (pairs_of-append n rest m (omega arith))

pub if-longer : (a b : Bool) (m : List ℕ) (e : Event) (rest : List ℕ)
    → (if a then (if b then next e (rest ++ m) else bad 5) else bad 4) ≡ longer m (if a then (if b then next e rest else bad 5) else bad 4)
if-longer true true m e rest = refl
if-longer true false m e rest = refl
if-longer false b m e rest = refl

pub tag_record-longer : (text : Text) (kind : ℕ) (ps : List Pair) (rest m : List ℕ) → tag_record text kind ps (rest ++ m) ≡ longer m (tag_record text kind ps rest)
unfolding tag_record
tag_record-longer text kind ps rest m = if-longer (all_inside (length text) 0 ps) (all_ascii text ps) m (event_of kind (tag_of text ps)) rest

-- the form's test with more marks behind, where the test of the length can change only from false
pub form-same : (a b c x d d' : Bool) → (a ≡ true → b ≡ true → c ≡ false → d ≡ false → ⊥) → (d ≡ true → d' ≡ true)
    → a && b && (if c then x else d') ≡ a && b && (if c then x else d)
form-same false b c x d d' h k = refl
form-same true false c x d d' h k = refl
form-same true true true x d d' h k = refl
form-same true true false x true d' h k = k refl
form-same true true false x false d' h k = absurd (h refl refl refl refl)

-- a start or empty tag that lacks numbers is cut short
pub lacks-short : (kind count : ℕ) (rest : List ℕ) → between 1 3 kind ≡ true → leb count 32 ≡ true → eqb kind 3 ≡ false → leb (2 * pair_count count) (length rest) ≡ false
    → cut_short (kind ∷ count ∷ rest) ≡ true
unfolding cut_short between
lacks-short kind count rest a b c d =
    let l = between-low 1 3 kind a in
    let u = between-high 1 3 kind a in
    let n = eqb-false kind 3 c in
    let k : kind ≤ 2 = omega arith in
    and-true (and-true (and-true (le-leb 1 kind l) (le-leb kind 2 k)) b) (lt-ltb (length rest) (2 * pair_count count) (leb-false (2 * pair_count count) (length rest) d))

pub length_more : (k : ℕ) (rest m : List ℕ) → leb k (length rest) ≡ true → leb k (length (rest ++ m)) ≡ true
length_more k rest m e = let h = leb-true k (length rest) e in le-leb k (length (rest ++ m)) (rw (length-append rest m) (omega arith))

pub form-longer : (kind count : ℕ) (rest m : List ℕ) → cut_short (kind ∷ count ∷ rest) ≡ false
    → form_test kind count (length (rest ++ m)) ≡ form_test kind count (length rest)
unfolding form_test
form-longer kind count rest m h =
    form-same (between 1 3 kind) (leb count 32) (eqb kind 3) (eqb count 0) (leb (2 * pair_count count) (length rest)) (leb (2 * pair_count count) (length (rest ++ m)))
    (λ a b c d. false≢true (sym h ∙ lacks-short kind count rest a b c d)) (length_more (2 * pair_count count) rest m)

-- a tag whose form is good has all its numbers
pub form-numbers : (kind count left : ℕ) → form_test kind count left ≡ true → eqb kind 3 ≡ false → 2 * pair_count count ≤ left
unfolding form_test
form-numbers kind count left e q =
    let p = three (between 1 3 kind) (leb count 32) (if eqb kind 3 then eqb count 0 else leb (2 * pair_count count) left) e in
    leb-true (2 * pair_count count) left (rw q at p.2)

pub tag-longer : (text : Text) (kind count : ℕ) (rest m : List ℕ) → 2 * pair_count count ≤ length rest
    → tag_record text kind (pairs_of (pair_count count) (rest ++ m)) (drop (2 * pair_count count) (rest ++ m))
    ≡ longer m (tag_record text kind (pairs_of (pair_count count) rest) (drop (2 * pair_count count) rest))
tag-longer text kind count rest m h =
    rw (pairs_of-append (pair_count count) rest m h, drop-append-le (2 * pair_count count) rest m h)
    (tag_record-longer text kind (pairs_of (pair_count count) rest) (drop (2 * pair_count count) rest) m)

pub branches-longer : (a b : Bool) (m rest : List ℕ) (x y : Recorded) (e : Event) → (a ≡ true → b ≡ false → x ≡ longer m y)
    → (if a then (if b then next e (rest ++ m) else x) else bad 3) ≡ longer m (if a then (if b then next e rest else y) else bad 3)
branches-longer false b m rest x y e h = refl
branches-longer true true m rest x y e h = refl
branches-longer true false m rest x y e h = h refl refl

pub record1-pair : (text : Text) (kind count : ℕ) (rest m : List ℕ) → cut_short (kind ∷ count ∷ rest) ≡ false
    → record1 text (kind ∷ count ∷ (rest ++ m)) ≡ longer m (record1 text (kind ∷ count ∷ rest))
unfolding record1
record1-pair text kind count rest m h =
    rw (form-longer kind count rest m h)
    (branches-longer (form_test kind count (length rest)) (eqb kind 3) m rest _ _ Event.close
    (λ a b. tag-longer text kind count rest m (form-numbers kind count (length rest) a b)))

-- the first record of longer marks
pub record1-longer : (text : Text) (marks m : List ℕ) → (marks ≡ [] → ⊥) → cut_short marks ≡ false → record1 text (marks ++ m) ≡ longer m (record1 text marks)
unfolding cut_short
record1-longer text [] m h k = absurd (h refl)
record1-longer text (kind ∷ []) m h k = absurd (true≢false k)
record1-longer text (kind ∷ count ∷ rest) m h k = record1-pair text kind count rest m k

-- a record cut short is refused with 3
pub short-form : (kind count : ℕ) (rest : List ℕ) → cut_short (kind ∷ count ∷ rest) ≡ true → form_test kind count (length rest) ≡ false
unfolding cut_short form_test
short-form kind count rest e =
    let p = three (between 1 2 kind) (leb count 32) (ltb (length rest) (2 * pair_count count)) e in
    let u = between-high 1 2 kind p.0 in
    rw (ne_eqb kind 3 (omega arith), lt-leb (2 * pair_count count) (length rest) (ltb-true (length rest) (2 * pair_count count) p.2))
    (and-false (between 1 3 kind && leb count 32))

pub short-refused : (text : Text) (marks : List ℕ) → cut_short marks ≡ true → record1 text marks ≡ bad 3
unfolding cut_short record1
short-refused text [] e = absurd (false≢true e)
short-refused text (kind ∷ []) e = refl
short-refused text (kind ∷ count ∷ rest) e = rw (short-form kind count rest e)

-- a record that is an event is not cut short
pub next-whole : (text : Text) (marks : List ℕ) (e : Event) (rest : List ℕ) → record1 text marks ≡ next e rest → cut_short marks ≡ false
next-whole text marks e rest q =
    false_from_ne_true (cut_short marks) λ h.
    let b = short-refused text marks h in
    let z : ◌≡◌ {A = ℕ} 0 1 = cc in omega arith

pub next-longer : (text : Text) (marks m : List ℕ) (e : Event) (rest : List ℕ) → record1 text marks ≡ next e rest
    → record1 text (marks ++ m) ≡ next e (rest ++ m)
next-longer text marks m e rest q =
    let l = next-shorter text marks e rest q in
    record1-longer text marks m (λ z. let k : length marks ≡ 0 = ap length z in omega arith) (next-whole text marks e rest q) ∙ ap (longer m) q

-- only where no marks are left is there no record
pub never-finished : (text : Text) (kind count : ℕ) (rest : List ℕ) → record1 text (kind ∷ count ∷ rest) ≡ finished → ◌≡◌ {A = ℕ} 0 1
unfolding record1 tag_record
never-finished text kind count rest =
    let P : Recorded → Type 0 = λ r. r ≡ finished → ◌≡◌ {A = ℕ} 0 1 in
    if-either P (form_test kind count (length rest))
    (if-either P (eqb kind 3) (λ q. cc)
    (if-either P (all_inside (length text) 0 (pairs_of (pair_count count) rest))
    (if-either P (all_ascii text (pairs_of (pair_count count) rest)) (λ q. cc) (λ q. cc)) (λ q. cc)))
    (λ q. cc)

pub finished-empty : (text : Text) (marks : List ℕ) → record1 text marks ≡ finished → marks ≡ []
unfolding record1
finished-empty text [] q = refl
finished-empty text (kind ∷ []) q = let z : ◌≡◌ {A = ℕ} 0 1 = cc in absurd (omega arith)
finished-empty text (kind ∷ count ∷ rest) q = let z = never-finished text kind count rest q in absurd (omega arith)

pub none-of-length : (m : List ℕ) → length m ≤ 0 → m ≡ []
none-of-length [] h = refl
none-of-length (k ∷ ks) h = absurd (omega arith)
