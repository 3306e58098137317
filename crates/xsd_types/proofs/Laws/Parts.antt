-- What a good sheet says, part by part, of its numbers. Assumes nothing.
use Rattle.std.specs.Prelude.{if◌then◌else◌}
use mathlib.Core.Path.{◌≡◌, refl}
use mathlib.Core.Bool.{Bool, true, false, ◌&&◌, ◌||◌, false≢true}
use mathlib.Core.List.{List, [], ◌∷◌, map}
use Prim.Native.Nat.{ℕ, ◌+◌, ◌*◌, ◌≤◌}
use native.Mathlib.Omega.{arith}
use lib.Dec.{eqb, leb}
use lib.ListN.{drop}
use borrow.Author.Tests.{eqb-true, leb-true, le-leb}
use Rattle.text.specs.Text.{every, between}
use Rattle.std.proofs.lemmas.Bool.{and_parts}
use Rattle.text.proofs.Laws.Tests.{six, eleven, and-true-left, and-true-right, and-true}
use Rattle.sheet.specs.Rows.{Ten, Sheet, all_zero}
use Rattle.sheet.specs.Form.{is_flag, covers, covered, rows_used_of, names_used_of, tens_of, used_parts, zeros_behind}
use Rattle.sheet.proofs.Laws.Unpacks.{few}
use Rattle.sheet.proofs.Laws.Formed.{Headed, headed, few-headed, covers-true, covered-is}
use Rattle.xsd_types.specs.Row0.{Row0, row0_in}
use Rattle.xsd_types.specs.Good.{used_pairs, row_form, in_order, row0_form, ten_form, rows_form, names_form, names_test, limits, root_test, nesting_test, context_test}
use Rattle.xsd_types.specs.Good.{extension_test, head_of, events_test, bare_good}
use Rattle.xsd_types.proofs.Laws.Shapes.{form-parts}
use Rattle.xsd_types.proofs.Laws.Rows.{flag-of}

-- the parts of `good`
pub record Parts (x : Sheet) : Type 0 where
  pub parts : used_parts x ≡ true
  pub row0 : row0_form (row0_in x) ≡ true
  pub rows : rows_form (tens_of x) ≡ true
  pub names : names_form (names_used_of x) (tens_of x) ≡ true
  pub zeros : zeros_behind x ≡ true
  pub text : names_test x ≡ true
  pub limit : limits (row0_in x) ≡ true
  pub root : root_test (row0_in x) ≡ true
  pub nest : nesting_test (row0_in x) ≡ true
  pub context : context_test (row0_in x).context (head_of (tens_of x)) ≡ true
  pub extension : extension_test (row0_in x) (head_of (tens_of x)) ≡ true
  pub events : events_test (row0_in x).events (tens_of x) ≡ true

pub parts-of : (x : Sheet) → bare_good x ≡ true → Parts x
unfolding bare_good
parts-of x g =
    let z = row0_in x in
    let ts = tens_of x in
    let before = used_parts x && row0_form z && rows_form ts && names_form z.names_used ts && zeros_behind x && names_test x && limits z && root_test z && nesting_test z
    && context_test z.context (head_of ts) && extension_test z (head_of ts) in
    let both = and_parts before (events_test z.events ts) g in
    let e = eleven (used_parts x) (row0_form z) (rows_form ts) (names_form z.names_used ts) (zeros_behind x) (names_test x) (limits z) (root_test z) (nesting_test z)
    (context_test z.context (head_of ts)) (extension_test z (head_of ts)) both.0 in
    record { parts = e.0; row0 = e.1; rows = e.2; names = e.3; zeros = e.4; text = e.5; limit = e.6; root = e.7; nest = e.8; context = e.9; extension = e.10; events = both.1 }

-- row 1 and the rows behind it
abbrev pub Behind : List Ten → Type 0
Behind ts = Headed ten_form (λ bs. in_order 1 (map (λ (t : Ten). t.tag) bs)) ts

pub behind : (ts : List Ten) → rows_form ts ≡ true → Behind ts
unfolding rows_form
behind [] e = absurd (false≢true e)
behind (n ∷ ts) e = headed ten_form (λ bs. in_order 1 (map (λ (t : Ten). t.tag) bs)) n ts e

-- a row of a tag's form uses at most three pairs
pub few-picked : (p q r : Bool) (a : ℕ) → (q ≡ true → a ≤ 1) → leb (if p then 0 else if q then 1 + a else if r then 2 else 1) 3 ≡ true
few-picked true q r a h = refl
few-picked false true r a h = le-leb (1 + a) 3 (omega (arith, h refl))
few-picked false false true a h = refl
few-picked false false false a h = refl

pub form-any : (tag a b c : ℕ) → row_form tag a b c ≡ true → eqb tag 15 ≡ true → a ≤ 1
unfolding is_flag between
form-any tag a b c e t = leb-true a 1 (flag-of a (form-parts 15 a b c (rw (eqb-true tag 15 t) at e)).3)

pub few-form : (t : Ten) → ten_form t ≡ true → few used_pairs t ≡ true
unfolding few ten_form used_pairs
few-form t e = few-picked (between 6 7 t.tag || between 10 11 t.tag) (eqb t.tag 15) (between 2 3 t.tag || eqb t.tag 14 || between 17 20 t.tag) t.a
    (form-any t.tag t.a t.b t.c e)

pub few-rows : (ts : List Ten) → rows_form ts ≡ true → every (few used_pairs) ts ≡ true
unfolding used_pairs between
few-rows ts e = few-headed ten_form (λ bs. in_order 1 (map (λ (t : Ten). t.tag) bs)) used_pairs refl few-form ts (behind ts e)

-- the names of a good sheet as numbers, and the zeros
module _ (x : Sheet) (p : Parts x) where
  pub pairs-cover : covers used_pairs 0 (tens_of x) ≡ true
  unfolding names_form
  pairs-cover = covers-true used_pairs (tens_of x) (names_used_of x) p.names

  pub names-end : covered 0 (tens_of x) ≡ names_used_of x
  unfolding names_form
  names-end = covered-is used_pairs (tens_of x) (names_used_of x) p.names

  pub zero-rows : all_zero (drop (10 * rows_used_of x) x.rows) ≡ true
  unfolding zeros_behind
  zero-rows = and-true-left _ _ p.zeros

  pub zero-names : all_zero (drop (names_used_of x) x.names) ≡ true
  unfolding zeros_behind
  zero-names = and-true-right (all_zero (drop (10 * rows_used_of x) x.rows)) _ p.zeros

-- row 0's own form
pub record First (z : Row0) : Type 0 where
  pub first_is : z.first ≡ 0
  pub context_is : z.context ≤ 3
  pub root_is : is_flag z.root_seen ≡ true
  pub flag_is : is_flag z.extension ≡ true
  pub choice_is : is_flag z.choice ≡ true

pub first_of : (z : Row0) → row0_form z ≡ true → First z
unfolding row0_form
first_of z e =
    let w = six (eqb z.first 0) (leb z.context 3) (is_flag z.root_seen) (is_flag z.extension) (is_flag z.choice) true (and-true e refl) in
    record { first_is = eqb-true z.first 0 w.0; context_is = leb-true z.context 3 w.1; root_is = w.2; flag_is = w.3; choice_is = w.4 }
