-- With 0 as the last number of row 0 its tests are the paper's and the state reads as before. A state's sheet under a choice differs in that number only.
-- Assumes nothing.
use Rattle.std.specs.Prelude.{if◌then◌else◌}
use mathlib.Core.Path.{◌≡◌, refl, sym, ap, ◌∙◌}
use mathlib.Core.Logic.{◌↔◌}
use mathlib.Core.Bool.{Bool, true, false, ◌&&◌, ◌||◌}
use Prim.Native.Nat.{ℕ, zero, suc, ◌+◌}
use native.Mathlib.Omega.{arith}
use mathlib.Core.List.{List}
use lib.Dec.{eqb, leb, ltb, leb-zero, eqb-suc-zero}
use borrow.Author.Tests.{le-leb, eqb-true}
use Rattle.text.proofs.Laws.Tests.{and-true-left, and-true-right, eleven}
use Rattle.text.proofs.Laws.Every.{every-weaken}
use Rattle.sheet.specs.Rows.{Ten, Sheet, bit, numbers, filled, sheet_of_rows}
use Rattle.sheet.specs.Form.{is_flag, tens_of, used_parts, zeros_behind}
use Rattle.xsd_types.specs.State.{State, event_number_ok}
use Rattle.xsd_types.specs.Row0.{Row0, row0_in}
use Rattle.xsd_types.specs.Rows.{rows_of, rows_used, names_used, row0}
use Rattle.xsd_types.specs.Sheet.{state_fits, bare_sheet_of}
use Rattle.xsd_types.specs.Good.{row0_form, rows_form, names_form, names_test, limits, root_test, open_tags_test, nesting_zero}
use Rattle.xsd_types.specs.Good.{nesting_test, context_test, extension_test, head_of, events_test, bare_good}
use Rattle.xsd_types.specs.Back.{state_of_rows, bare_state_of}
use Rattle.xsd_types.specs.Choice.{paper_form, paper_nesting, no_numbers, paper_good, chosen, sheet_chosen}
use Rattle.xsd_types.proofs.Laws.Rows.{bit-again}
use Rattle.xsd_types.proofs.Laws.Parts.{parts-of, first_of}
use Rattle.xsd_types.proofs.Laws.SheetOf.{row0-made}

-- "0 as before"
pub form-before : (z : Row0) → z.choice ≡ 0 → row0_form z ≡ paper_form z
unfolding row0_form paper_form is_flag
form-before z e = rw e

pub no-nesting : (n o : ℕ) → eqb n 0 && leb (n + 1) o ≡ eqb n 0 && leb 1 o
no-nesting zero o = refl
no-nesting (suc n) o = rw (eqb-suc-zero n)

pub nesting-picked : (c n o : ℕ) → (if leb 2 c then true else if eqb c 1 then eqb n 0 else eqb n 0) && (if leb 2 c then leb (n + 2) o else if eqb c 1 then leb (n + 1) o else true)
    ≡ (if leb 2 c then leb (n + 2) o else eqb n 0 && leb c o)
nesting-picked zero n o = rw (leb-zero o)
nesting-picked (suc zero) n o = no-nesting n o
nesting-picked (suc (suc c)) n o = rw (le-leb 2 (suc (suc c)) (omega arith))

pub nesting-before : (z : Row0) → z.choice ≡ 0 → nesting_test z ≡ paper_nesting z
unfolding nesting_test nesting_zero open_tags_test paper_nesting
nesting-before z e = rw e (nesting-picked z.context z.nesting z.open_tags)

-- without a number every c is as order 5 has it
pub none_before : (events : ℕ) (ts : List Ten) → no_numbers ts ≡ true → events_test events ts ≡ true
unfolding no_numbers events_test event_number_ok
none_before events ts h = every-weaken (λ (t : Ten). eqb t.c 0) (λ (t : Ten). eqb t.c 0 || ltb t.c events) (λ t e. rw e) ts h

pub same-before : (x : Sheet) → (row0_in x).choice ≡ 0 → no_numbers (tens_of x) ≡ true → bare_good x ≡ paper_good x
unfolding bare_good paper_good
same-before x e n = rw (form-before (row0_in x) e, nesting-before (row0_in x) e, none_before (row0_in x).events (tens_of x) n, n)

-- a good sheet's choice is its state's
pub bare_choice-again : (x : Sheet) → bare_good x ≡ true → bit (bare_state_of x).by_standard ≡ (row0_in x).choice
unfolding bare_state_of state_of_rows
bare_choice-again x g = bit-again (row0_in x).choice (first_of (row0_in x) (parts-of x g).row0).choice_is

-- paper 01's test of row 0 and of the numbers of heads
paper-says : (x : Sheet) → paper_good x ≡ true → (paper_form (row0_in x) ≡ true) × (no_numbers (tens_of x) ≡ true)
unfolding paper_good
paper-says x g =
    let z = row0_in x in
    let ts = tens_of x in
    let before = used_parts x && paper_form z && rows_form ts && names_form z.names_used ts && zeros_behind x && names_test x && limits z && root_test z && paper_nesting z
    && context_test z.context (head_of ts) && extension_test z (head_of ts) in
    let e = eleven (used_parts x) (paper_form z) (rows_form ts) (names_form z.names_used ts) (zeros_behind x) (names_test x) (limits z) (root_test z) (paper_nesting z)
    (context_test z.context (head_of ts)) (extension_test z (head_of ts)) (and-true-left before (no_numbers ts) g) in
    (e.1, and-true-right before (no_numbers ts) g)

pub paper-choice : (x : Sheet) → paper_good x ≡ true → (row0_in x).choice ≡ 0
unfolding paper_form
paper-choice x g =
    let z = row0_in x in
    eqb-true z.choice 0 (and-true-right (eqb z.first 0 && leb z.context 3 && is_flag z.root_seen && is_flag z.extension) _ (paper-says x g).0)

pub paper-none : (x : Sheet) → paper_good x ≡ true → no_numbers (tens_of x) ≡ true
paper-none x g = (paper-says x g).1

-- every sheet that paper 01 calls good is good now, and these are all with choice 0 and no numbers
pub good-before : (x : Sheet) → (paper_good x ≡ true) ↔ ((bare_good x ≡ true) × ((bare_state_of x).by_standard ≡ false) × (no_numbers (tens_of x) ≡ true))
unfolding bare_state_of state_of_rows bit
good-before x = (
  λ g. let e = paper-choice x g in (same-before x e (paper-none x g) ∙ g, rw e, paper-none x g),
  λ h. let e : (row0_in x).choice ≡ 0 = sym (bare_choice-again x h.0) ∙ ap bit h.1 in sym (same-before x e h.2) ∙ h.0,
)

-- a state under a choice: the room is the same, and so is the sheet but for the last number of row 0
pub fits-chosen : (b : Bool) (s : State) (r n : ℕ) → state_fits r n (chosen b s) ≡ state_fits r n s
unfolding state_fits rows_used names_used rows_of chosen
fits-chosen b s r n = refl

pub bare_sheet_of-chosen : (b : Bool) (s : State) (r n : ℕ) → bare_sheet_of (chosen b s) r n ≡ sheet_chosen b (bare_sheet_of s r n)
unfolding bare_sheet_of sheet_of_rows filled numbers row0 rows_used names_used rows_of chosen sheet_chosen
bare_sheet_of-chosen b s r n = refl

pub bare_choice-made : (s : State) (r n : ℕ) → (row0_in (bare_sheet_of s r n)).choice ≡ bit s.by_standard
unfolding row0
bare_choice-made s r n = rw (row0-made s r n)
