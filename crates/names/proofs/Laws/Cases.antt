-- Laws of specs/Cases.antt. What holds of every form in the table, and of a character, holds of either form of the character; the two rules of the table, and what
-- is said of its forms, are tests that antt computes at all 256 entries. Assumes nothing.
--     forms, lower_forms    the test of an entry's form, which an entry without one passes; of an upper letter's alone
--     first_of      the first character of a form
use mathlib.Core.Path.{◌≡◌, refl, ap}
use mathlib.Core.Bool.{Bool, true, false, not, ◌&&◌}
use mathlib.Core.List.{List, [], ◌∷◌}
use Prim.Native.Nat.{ℕ, ◌+◌, ◌*◌, ◌≤◌}
use Prim.Native.Char.{code}
use native.Mathlib.Omega.{arith}
use lib.Dec.{leb}
use lib.ListN.{length, get_or}
use borrow.Author.Tests.{leb-true, not-true}
use Rattle.text.specs.Text.{Text, every, between, is_plain_byte, is_tail, is_pair, is_graph_pair, text_by, is_text, is_graph_text, upper_byte, lower_byte, contains}
use Rattle.text.specs.Characters.{is_lead, characters}
use Rattle.text.proofs.Laws.Tests.{if-cases}
use Rattle.text.proofs.Laws.Every.{every-get_d}
use Rattle.text.proofs.Laws.Class.{empty-text, text-in-graph, upper-text, lower-text}
use Rattle.text.proofs.Laws.Characters.{characters-text}
use Rattle.names.specs.Cases.{Case, Upper, Lower, Neither, case_table, case_of, raised, lowered, upper_of, lower_of, first_lower}

abbrev pub forms : (Text → Bool) → Case → Bool
forms p (Upper form) = p form
forms p (Lower form) = p form
forms p Neither = true

abbrev pub lower_forms : (Text → Bool) → Case → Bool
lower_forms p (Upper form) = p form
lower_forms p (Lower form) = true
lower_forms p Neither = true

abbrev pub first_of : Text → Text
first_of s = get_or (characters s) 0 []

-- ---- every entry, so the entry of a character

pub case-passes : (p : Case → Bool) → every p case_table ≡ true → p Neither ≡ true → (b t : ℕ) → p (case_of b t) ≡ true
unfolding case_of
case-passes p e h b t = every-get_d p Neither h case_table _ e

raised-passes : (p : Text → Bool) (x : Case) (c : Text) → forms p x ≡ true → p c ≡ true → p (raised x c) ≡ true
unfolding raised
raised-passes p (Upper form) c e h = h
raised-passes p (Lower form) c e h = e
raised-passes p Neither c e h = h

lowered-passes : (p : Text → Bool) (x : Case) (c : Text) → lower_forms p x ≡ true → p c ≡ true → p (lowered x c) ≡ true
unfolding lowered
lowered-passes p (Upper form) c e h = e
lowered-passes p (Lower form) c e h = h
lowered-passes p Neither c e h = h

-- ---- a text's characters go to texts of graphs

graph-forms : every (forms is_graph_text) case_table ≡ true
unfolding every case_table is_graph_text text_by is_graph_pair is_pair is_tail is_plain_byte between
graph-forms = refl

graph-lower : every (lower_forms is_graph_text) case_table ≡ true
unfolding every case_table is_graph_text text_by is_graph_pair is_pair is_tail is_plain_byte between
graph-lower = refl

first_graph : Text → Bool
first_graph s = is_graph_text (first_of s)

graph-firsts : every (lower_forms first_graph) case_table ≡ true
unfolding every case_table first_graph characters is_lead is_graph_text text_by is_graph_pair is_pair is_tail is_plain_byte between
graph-firsts = refl

pub upper_of-text : (c : Text) → is_text c ≡ true → is_graph_text (upper_of c) ≡ true
unfolding upper_of
upper_of-text [] e = text-in-graph [] e
upper_of-text (b ∷ []) e = text-in-graph (upper_byte b ∷ []) (upper-text b e)
upper_of-text (b ∷ t ∷ s) e = raised-passes is_graph_text (case_of b t) (b ∷ t ∷ s) (case-passes (forms is_graph_text) graph-forms refl b t) (text-in-graph (b ∷ t ∷ s) e)

pub lower_of-text : (c : Text) → is_text c ≡ true → is_graph_text (lower_of c) ≡ true
unfolding lower_of
lower_of-text [] e = text-in-graph [] e
lower_of-text (b ∷ []) e = text-in-graph (lower_byte b ∷ []) (lower-text b e)
lower_of-text (b ∷ t ∷ s) e = lowered-passes is_graph_text (case_of b t) (b ∷ t ∷ s) (case-passes (lower_forms is_graph_text) graph-lower refl b t) (text-in-graph (b ∷ t ∷ s) e)

first-text : (c : Text) → is_text c ≡ true → is_graph_text (first_of c) ≡ true
first-text c e = text-in-graph (first_of c) (every-get_d is_text [] empty-text (characters c) 0 (characters-text c e))

pub first_lower-text : (c : Text) → is_text c ≡ true → is_graph_text (first_lower c) ≡ true
unfolding first_lower lower_of first_graph
first_lower-text [] e = first-text [] e
first_lower-text (b ∷ []) e = first-text (lower_byte b ∷ []) (lower-text b e)
first_lower-text (b ∷ t ∷ s) e =
    lowered-passes first_graph (case_of b t) (b ∷ t ∷ s) (case-passes (lower_forms first_graph) graph-firsts refl b t) (first-text (b ∷ t ∷ s) e)

-- ---- lengths

-- at most one byte more than the character
short : Text → Bool
short s = leb (length s) 3

short-forms : every (forms short) case_table ≡ true
unfolding every case_table short
short-forms = refl

pub record Longer (r c : Text) : Type 0 where
  pub by_one : length r ≤ length c + 1
  pub by_half : 2 * length r ≤ 3 * length c

same-longer : (c : Text) → Longer c c
same-longer c = record { by_one = omega arith; by_half = omega arith }

short-longer : (r : Text) (b t : ℕ) (s : Text) → short r ≡ true → Longer r (b ∷ t ∷ s)
unfolding short
short-longer r b t s e = let h = leb-true (length r) 3 e in record { by_one = omega arith; by_half = omega arith }

raised-longer : (x : Case) (b t : ℕ) (s : Text) → forms short x ≡ true → Longer (raised x (b ∷ t ∷ s)) (b ∷ t ∷ s)
unfolding raised
raised-longer (Upper form) b t s e = same-longer (b ∷ t ∷ s)
raised-longer (Lower form) b t s e = short-longer form b t s e
raised-longer Neither b t s e = same-longer (b ∷ t ∷ s)

lowered-longer : (x : Case) (b t : ℕ) (s : Text) → forms short x ≡ true → Longer (lowered x (b ∷ t ∷ s)) (b ∷ t ∷ s)
unfolding lowered
lowered-longer (Upper form) b t s e = short-longer form b t s e
lowered-longer (Lower form) b t s e = same-longer (b ∷ t ∷ s)
lowered-longer Neither b t s e = same-longer (b ∷ t ∷ s)

pub upper_of-longer : (c : Text) → Longer (upper_of c) c
unfolding upper_of
upper_of-longer [] = same-longer []
upper_of-longer (b ∷ []) = record { by_one = omega arith; by_half = omega arith }
upper_of-longer (b ∷ t ∷ s) = raised-longer (case_of b t) b t s (case-passes (forms short) short-forms refl b t)

pub lower_of-longer : (c : Text) → Longer (lower_of c) c
unfolding lower_of
lower_of-longer [] = same-longer []
lower_of-longer (b ∷ []) = record { by_one = omega arith; by_half = omega arith }
lower_of-longer (b ∷ t ∷ s) = lowered-longer (case_of b t) b t s (case-passes (forms short) short-forms refl b t)

-- a character has at most two bytes
first-length : (s : Text) → length (first_of s) ≤ 2
unfolding characters
first-length [] = omega arith
first-length (b ∷ []) = omega arith
first-length (b ∷ t ∷ s) = if-cases (λ (cs : List Text). length (get_or cs 0 []) ≤ 2) (is_lead b && is_tail t) (λ e. omega arith) (λ e. omega arith)

pub first_lower-length : (c : Text) → length (first_lower c) ≤ length c
unfolding first_lower lower_of characters
first_lower-length [] = omega arith
first_lower-length (b ∷ []) = omega arith
first_lower-length (b ∷ t ∷ s) = omega (arith, first-length (lowered (case_of b t) (b ∷ t ∷ s)))

-- ---- no form has an underscore

no_underscore : Text → Bool
no_underscore s = not (contains (code "_") s)

underscore-forms : every (forms no_underscore) case_table ≡ true
unfolding every case_table no_underscore contains
underscore-forms = refl

pub upper_of-underscore : (b t : ℕ) (s : Text) → contains (code "_") (b ∷ t ∷ s) ≡ false → contains (code "_") (upper_of (b ∷ t ∷ s)) ≡ false
unfolding upper_of no_underscore
upper_of-underscore b t s e =
    not-true (contains (code "_") (raised (case_of b t) (b ∷ t ∷ s)))
    (raised-passes no_underscore (case_of b t) (b ∷ t ∷ s) (case-passes (forms no_underscore) underscore-forms refl b t) (ap not e))
