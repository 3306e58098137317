-- Laws of a tag's parts and of the names of the slots (specs/Tags.antt, specs/Answers.antt). Assumes nothing.
use Prim.Native.Nat.{ℕ, zero, suc, ◌+◌, ◌*◌, ◌≤◌, ◌<◌}
use mathlib.Core.Path.{◌≡◌, refl, sym, ap, ◌∙◌}
use mathlib.Core.List.{List, [], ◌∷◌, ◌++◌}
use mathlib.Core.Bool.{Bool, true, false, ◌||◌}
use native.Mathlib.Omega.{arith}
use lib.ListN.{length, get_or, set, take, drop}
use lib.Seq.{sets, get_or-set_same, get_or-set_other, get_or-take, length-take-le, take-suc}
use Rattle.std.specs.List.{list_any}
use Rattle.std.proofs.lemmas.List.Folds.{list_any-append}
use Rattle.text.specs.Text.{Text, same}
use Rattle.xml.specs.Steps.{behind, literal, name, leading_name}
use Rattle.xml.specs.Tape.{AttributePairs, attribute_marks}
use Rattle.xml.specs.Grammar.{is_among}
use Rattle.xml_text.specs.Answers.{names_up_to, PartIn}
use Rattle.std.specs.Prelude.{Option, Some, None}
use Rattle.xml_text.specs.declared.tags.Next.{Next}
use Rattle.xml.proofs.Laws.Moves.{inside-text, literal-passes, name-passes}
use Rattle.xml.proofs.Laws.Tags.{marks-length, marks-append}
use Rattle.xml_text.proofs.Laws.Marks.{sets-append}

-- a store behind the slots that count changes none of their names
pub names-set : (text : Text) (slots : List ℕ) (k i v : ℕ) → k ≤ i → names_up_to text (set slots i v) k ≡ names_up_to text slots k
unfolding names_up_to
names-set text slots zero i v h = refl
names-set text slots (suc k) i v h =
    rw (get_or-set_other slots i k v 0 (λ (e : k ≡ i). omega arith), names-set text slots k i v (omega arith))

-- one slot more
pub names-push : (text : Text) (slots : List ℕ) (k v : ℕ) → k < length slots → names_up_to text (set slots k v) (suc k) ≡ leading_name (drop v text) ∷ names_up_to text slots k
unfolding names_up_to
names-push text slots k v h = rw (get_or-set_same slots k v 0 h, names-set text slots k k v (omega arith))

-- a part lies behind every offset before it
pub part-weaken : (n at a : ℕ) (r : Option Next) → at ≤ a → PartIn n a r → PartIn n at r
part-weaken n at a None h p = tt
part-weaken n at a (Some (Next.Last kind e)) h p = (omega arith, omega arith)
part-weaken n at a (Some (Next.More v)) h p = (omega arith, omega arith, omega arith, omega arith, omega arith)

-- the numbers of one attribute more
pub marks-more : (m : List ℕ) (from count : ℕ) (xs : List AttributePairs) (x : AttributePairs) → count ≡ length xs
    → sets (sets m from (attribute_marks xs)) (from + 4 * count) (attribute_marks (x ∷ [])) ≡ sets m from (attribute_marks (xs ++ x ∷ []))
marks-more m from count xs x e =
    let n : from + 4 * count ≡ from + length (attribute_marks xs) = omega (arith, marks-length xs) in
    rw (n, marks-append xs (x ∷ [])) (sym (sets-append m from (attribute_marks xs) (attribute_marks (x ∷ []))))

-- only the slots that count are looked at
pub names-take : (text : Text) (slots : List ℕ) (n k : ℕ) → k ≤ n → names_up_to text (take n slots) k ≡ names_up_to text slots k
unfolding names_up_to
names-take text slots n zero h = refl
names-take text slots n (suc k) h = rw (get_or-take n slots k 0 h, names-take text slots n k (omega arith))

pub names-cong : (text : Text) (s t : List ℕ) (k : ℕ) → take k s ≡ take k t → names_up_to text s k ≡ names_up_to text t k
names-cong text s t k e =
    sym (names-take text s k k (omega arith)) ∙ ap (λ (l : List ℕ). names_up_to text l k) e ∙ names-take text t k k (omega arith)

-- the slots that count are all that there are
pub names-part : (text : Text) (slots : List ℕ) (n : ℕ) → n ≤ length slots → names_up_to text (take n slots) (length (take n slots)) ≡ names_up_to text slots n
names-part text slots n h = rw (length-take-le n slots h) (names-take text slots n n (omega arith))

swap : (a b : Bool) → a || (b || false) ≡ b || a
swap true true = refl
swap true false = refl
swap false true = refl
swap false false = refl

-- whether a name is among those at the first keys, asked of one key after the other
pub among-any : (n text : Text) (keys : List ℕ) (k : ℕ) → k ≤ length keys → list_any (λ (s : ℕ). same n (leading_name (drop s text))) (take k keys) ≡ is_among n (names_up_to text keys k)
unfolding is_among names_up_to
among-any n text keys zero h = refl
among-any n text keys (suc k) h =
    let f = (λ (s : ℕ). same n (leading_name (drop s text))) in
    ap (list_any f) (take-suc keys k 0 h) ∙ list_any-append f (take k keys) (get_or keys k 0 ∷ []) ∙ rw (among-any n text keys k (omega arith)) (swap _ _)

-- where the name of a tag starts and ends
pub name-inside-tag : (text : Text) (at start end : ℕ) → behind start (drop start text) ≡ literal (60 ∷ []) at (drop at text) → behind end (drop end text) ≡ name start (drop start text)
    → (at < start) × (start < end) × (end ≤ length text)
name-inside-tag text at start end l n =
    let p = inside-text (literal-passes (60 ∷ []) (omega arith)) text at start (sym l) in
    let q = inside-text name-passes text start end (sym n) in
    (p.0, q.0, q.1)
