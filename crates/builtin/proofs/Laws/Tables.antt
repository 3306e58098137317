-- The tables that stood beside one text of all names, and their rule: named in docs/orders/09.md and docs/PORT.md. The code has the names once now, each with
-- its type (`BUILTINS`), and the slots lead to them; the rule holds of the list of the definitions. No contract cites them. Assumes nothing.
--     spelled       the names one behind the other
--     begins        where each name begins, counted from i, and where the last one ends
--     kinds         the number of each name's type, as a digit
--     names, starts    the text of all names and its table of places
--     placed, named, numbered, found    the parts of the tables' rule at k; tabled: the rule, a test that antt computes at all 38 places
--     type_of       the type of a digit, the fifth for every other byte
use Rattle.std.specs.Prelude.{if◌then◌else◌}
use mathlib.Core.Path.{◌≡◌, refl, ap, ◌∙◌}
use mathlib.Core.Bool.{Bool, true, ◌&&◌}
use mathlib.Core.List.{List, [], ◌∷◌, ◌++◌}
use Prim.Native.Nat.{ℕ, ◌+◌, ◌≤◌, ◌<◌}
use Prim.Native.Char.{code}
use Prim.Native.String.{String}
use lib.Dec.{eqb, leb}
use lib.ListN.{length, get_or, drop}
use lib.Seq.{slice}
use borrow.Author.Tests.{leb-true, eqb-true, ne_eqb}
use Rattle.text.specs.Text.{Text, bytes, first, same}
use Rattle.std.proofs.lemmas.Bool.{and_parts}
use Rattle.text.proofs.Laws.Tests.{four}
use Rattle.text.proofs.Laws.Texts.{first-drop, same-eq}
use Rattle.text.proofs.Laws.Table.{passes, at}
use Rattle.builtin.specs.Builtin.{RustType, string, bool, decimal, date, date_time, builtins, rust_type_number}
use Rattle.builtin.specs.Answers.{entry_at, slot_of, slot_place, builtin_place}
use Rattle.builtin.proofs.Laws.Builtins.{is_place}

unfoldable pub spelled : List (String × RustType) → Text
spelled [] = []
spelled (e ∷ es) = bytes e.0 ++ spelled es

unfoldable pub begins : ℕ → List (String × RustType) → List ℕ
begins i [] = i ∷ []
begins i (e ∷ es) = i ∷ begins (i + length (bytes e.0)) es

abbrev pub digit : RustType → ℕ
digit t = code "0" + rust_type_number t

unfoldable pub kinds : List (String × RustType) → Text
kinds [] = []
kinds (e ∷ es) = digit e.1 ∷ kinds es

unfoldable pub names : Text
names = spelled builtins

unfoldable pub starts : List ℕ
starts = begins 0 builtins

-- the tables' rule at k: the two places lie in order in the text, the name stands between them, the kind is the number of its type, and its slot leads to k
unfoldable pub placed : ℕ → Bool
placed k = leb (get_or starts k 0) (get_or starts (k + 1) 0) && leb (get_or starts (k + 1) 0) (length names)

unfoldable pub named : ℕ → Bool
named k = same (slice (get_or starts k 0) (get_or starts (k + 1) 0) names) (bytes (entry_at k).0)

unfoldable pub numbered : ℕ → Bool
numbered k = eqb (get_or (kinds builtins) k 0) (digit (entry_at k).1)

unfoldable pub found : ℕ → Bool
found k = is_place (builtin_place (bytes (entry_at k).0)) k

unfoldable pub tabled : ℕ → Bool
tabled k = placed k && named k && numbered k && found k

pub all-tabled : passes tabled 38 ≡ true
unfolding tabled placed named numbered found starts names begins spelled kinds builtins bytes same first entry_at slot_of slot_place builtin_place
all-tabled = refl

pub tabled-at : (k : ℕ) → k < 38 → (placed k ≡ true) × (named k ≡ true) × (numbered k ≡ true) × (found k ≡ true)
unfolding tabled
tabled-at k h = four (placed k) (named k) (numbered k) (found k) (at tabled 38 all-tabled k h)

pub starts-within : (k : ℕ) → k < 38 → (get_or starts k 0 ≤ get_or starts (k + 1) 0) × (get_or starts (k + 1) 0 ≤ length names)
unfolding placed
starts-within k h =
    let e = and_parts (leb (get_or starts k 0) (get_or starts (k + 1) 0)) (leb (get_or starts (k + 1) 0) (length names)) (tabled-at k h).0 in
    (leb-true _ _ e.0, leb-true _ _ e.1)

pub name-part : (k : ℕ) → k < 38 → slice (get_or starts k 0) (get_or starts (k + 1) 0) names ≡ bytes (entry_at k).0
unfolding named
name-part k h = same-eq _ _ (tabled-at k h).1

pub kind-number : (k : ℕ) → k < 38 → get_or (kinds builtins) k 0 ≡ digit (entry_at k).1
unfolding numbered
kind-number k h = eqb-true _ _ (tabled-at k h).2

unfoldable pub type_of : ℕ → RustType
type_of n = if eqb n 49 then string else if eqb n 50 then bool else if eqb n 51 then decimal else if eqb n 52 then date else date_time

pub type_of-digit : (t : RustType) → type_of (digit t) ≡ t
unfolding type_of
type_of-digit string = refl
type_of-digit bool = refl
type_of-digit decimal = refl
type_of-digit date = refl
type_of-digit date_time = refl

pub type_of-rest : (n : ℕ) → (n ≡ 49 → ⊥) → (n ≡ 50 → ⊥) → (n ≡ 51 → ⊥) → (n ≡ 52 → ⊥) → type_of n ≡ date_time
unfolding type_of
type_of-rest n a b c d = rw (ne_eqb n 49 a, ne_eqb n 50 b, ne_eqb n 51 c, ne_eqb n 52 d)

pub kind-type : (k : ℕ) → k < 38 → type_of (first (drop k (kinds builtins))) ≡ (entry_at k).1
kind-type k h = ap type_of (first-drop (kinds builtins) k ∙ kind-number k h) ∙ type_of-digit (entry_at k).1
