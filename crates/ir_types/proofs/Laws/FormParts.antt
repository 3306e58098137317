-- What the form of a graph sheet says, part by part: the used parts, the rows one by one, their pairs, and that each row uses at most three. Assumes nothing.
use Rattle.std.specs.Prelude.{if◌then◌else◌}
use mathlib.Core.Path.{◌≡◌, refl}
use mathlib.Core.Bool.{Bool, true, false, ◌&&◌, ◌||◌, false≢true}
use mathlib.Core.List.{List, [], ◌∷◌}
use Prim.Native.Nat.{ℕ, ◌+◌, ◌≤◌}
use native.Mathlib.Omega.{arith}
use lib.Dec.{eqb, leb}
use borrow.Author.Tests.{eqb-true, leb-true, le-leb}
use Rattle.text.specs.Text.{every, is_graph_text, between}
use Rattle.text.proofs.Laws.Tests.{three, six, and-true-left, and-true-right}
use Rattle.sheet.specs.Rows.{Ten, Sheet}
use Rattle.sheet.specs.Form.{is_flag, covers, covered, names_used_of, tens_of, used_parts, zeros_behind, texts_pass}
use Rattle.sheet.proofs.Laws.Unpacks.{few}
use Rattle.sheet.proofs.Laws.Formed.{Headed, headed, few-headed, covers-true, covered-is}
use Rattle.ir_types.specs.Tags.{root_tag}
use Rattle.ir_types.specs.Row0.{GraphRow0, graph_row0_in}
use Rattle.ir_types.specs.Form.{used_pairs, is_type_tag, form_a, form_b, form_c, ten_form, in_order, tags_of, count, row0_form, rows_form, names_form, graph_form}

pub record Parts (x : Sheet) : Type 0 where
  pub used : used_parts x ≡ true
  pub rows : rows_form (graph_row0_in x) (tens_of x) ≡ true
  pub names : names_form (names_used_of x) (tens_of x) ≡ true
  pub zeros : zeros_behind x ≡ true
  pub text : texts_pass is_graph_text used_pairs x ≡ true

pub parts : (x : Sheet) → graph_form x ≡ true → Parts x
unfolding graph_form
parts x h =
    let z = graph_row0_in x in
    let w = six (used_parts x) (row0_form z) (rows_form z (tens_of x)) (names_form z.names_used (tens_of x)) (zeros_behind x) (texts_pass is_graph_text used_pairs x) h in
    record { used = w.0; rows = w.2; names = w.3; zeros = w.4; text = w.5 }

-- row 1 and the rows behind it
abbrev pub Behind : List Ten → Type 0
Behind ts = Headed ten_form (λ bs. in_order 1 (tags_of bs)) ts

pub behind : (z : GraphRow0) (ts : List Ten) → rows_form z ts ≡ true → Behind ts
unfolding rows_form
behind z [] h = absurd (false≢true h)
behind z (n ∷ ts) h =
    let form = eqb n.tag 1 && eqb n.a 0 && eqb n.b 0 && eqb n.c 0 && every ten_form ts && in_order 1 (tags_of ts) in
    let counts = three form (eqb z.root_elements (count (λ tag. eqb tag root_tag) (tags_of ts))) (eqb z.types (count is_type_tag (tags_of ts))) h in
    headed ten_form (λ bs. in_order 1 (tags_of bs)) n ts counts.0

-- ---- a row uses at most three pairs
flag-of : (a : ℕ) → form_a 8 a ≡ true → leb a 1 ≡ true
unfolding form_a is_flag between
flag-of a h = h

some_pairs : (b c d e f : Bool) (a : ℕ) → (b ≡ true → a ≤ 1) → (if b then 1 + a else if c then (if f then 2 else 1) else if d then (if f then 3 else 2) else if e then 2 else 1) ≤ 3
some_pairs true c d e f a h = omega (arith, h refl)
some_pairs false true d e true a h = omega arith
some_pairs false true d e false a h = omega arith
some_pairs false false true e true a h = omega arith
some_pairs false false true e false a h = omega arith
some_pairs false false false true f a h = omega arith
some_pairs false false false false f a h = omega arith

at-most-pairs : (b : Bool) (n : ℕ) → n ≤ 3 → (if b then 0 else n) ≤ 3
at-most-pairs true n h = omega arith
at-most-pairs false n h = h

used-few : (tag a : ℕ) → form_a tag a ≡ true → used_pairs tag a ≤ 3
unfolding used_pairs
used-few tag a h =
    at-most-pairs (between 12 13 tag || between 16 17 tag) _
    (some_pairs (eqb tag 8) (eqb tag 7) (between 9 10 tag || eqb tag 19) (eqb tag 2 || eqb tag 18) (eqb a 0) a (λ e. leb-true a 1 (flag-of a (rw (eqb-true tag 8 e) at h))))

few-form : (t : Ten) → ten_form t ≡ true → few used_pairs t ≡ true
unfolding ten_form few
few-form t h =
    let a = between 2 19 t.tag in let b = form_a t.tag t.a in let c = form_b t.tag t.b in let d = form_c t.tag t.b t.c in
    le-leb (used_pairs t.tag t.a) 3 (used-few t.tag t.a (and-true-right a b (and-true-left (a && b) c (and-true-left (a && b && c) d h))))

pub few-behind : (ts : List Ten) → Behind ts → every (few used_pairs) ts ≡ true
unfolding used_pairs between
few-behind ts b = few-headed ten_form (λ bs. in_order 1 (tags_of bs)) used_pairs refl few-form ts b

-- ---- the names as numbers
module _ (x : Sheet) (p : Parts x) where
  pub pairs-cover : covers used_pairs 0 (tens_of x) ≡ true
  unfolding names_form
  pairs-cover = covers-true used_pairs (tens_of x) (names_used_of x) p.names

  pub names-end : covered 0 (tens_of x) ≡ names_used_of x
  unfolding names_form
  names-end = covered-is used_pairs (tens_of x) (names_used_of x) p.names
