-- A good sheet's used names tested as a whole first: where they are plain, each used pair by itself is a text. Assumes nothing.
--     whole_good     `bare_good` with that test; plain_good: with the test of before, that all are plain; whole_paper: `paper_good`
use mathlib.Core.Path.{◌≡◌, ap, ◌∙◌}
use mathlib.Core.Bool.{Bool, true, ◌&&◌, ◌||◌}
use lib.ListN.{take}
use Rattle.text.specs.Text.{is_plain, is_text}
use Rattle.text.proofs.Laws.Tests.{sixth-under}
use Rattle.text.proofs.Laws.Class.{plain-text}
use Rattle.sheet.specs.Rows.{Sheet}
use Rattle.sheet.specs.Form.{names_used_of, tens_of, used_parts, zeros_behind}
use Rattle.sheet.proofs.Laws.Sheets.{plain-or-each}
use Rattle.sheet.proofs.Laws.Formed.{used-names, covers-true, covered-is}
use Rattle.xsd_types.specs.Row0.{row0_in}
use Rattle.xsd_types.specs.Good.{used_pairs, row0_form, rows_form, names_form, names_test, limits, root_test, nesting_test, context_test, extension_test, head_of, events_test, bare_good}
use Rattle.xsd_types.specs.Choice.{paper_form, paper_nesting, no_numbers, paper_good}
use Rattle.xsd_types.proofs.Laws.Parts.{few-rows}

names-whole : (x : Sheet) → used_parts x ≡ true → rows_form (tens_of x) ≡ true → names_form (names_used_of x) (tens_of x) ≡ true
    → names_test x ≡ is_plain (take (names_used_of x) x.names) || names_test x
unfolding names_test names_form
names-whole x u r n =
    let ts = tens_of x in
    plain-or-each is_text plain-text used_pairs x (few-rows ts r) (covers-true used_pairs ts (names_used_of x) n) (covered-is used_pairs ts (names_used_of x) n) (used-names x u)

abbrev pub whole_good : Sheet → Bool
whole_good x =
    let z = row0_in x in
    let ts = tens_of x in
    used_parts x && row0_form z && rows_form ts && names_form z.names_used ts && zeros_behind x && (is_plain (take (names_used_of x) x.names) || names_test x)
    && limits z && root_test z && nesting_test z && context_test z.context (head_of ts) && extension_test z (head_of ts)
    && events_test z.events ts

-- where the used names are plain, a sheet is good by the test of before, which asked no more of them
abbrev pub plain_good : Sheet → Bool
plain_good x =
    let z = row0_in x in
    let ts = tens_of x in
    used_parts x && row0_form z && rows_form ts && names_form z.names_used ts && zeros_behind x && is_plain (take (names_used_of x) x.names)
    && limits z && root_test z && nesting_test z && context_test z.context (head_of ts) && extension_test z (head_of ts)
    && events_test z.events ts

pub good-whole : (x : Sheet) → bare_good x ≡ whole_good x
unfolding bare_good
good-whole x =
    let z = row0_in x in
    let ts = tens_of x in
    ap (λ (t : Bool). t && limits z && root_test z && nesting_test z && context_test z.context (head_of ts) && extension_test z (head_of ts) && events_test z.events ts)
    (sixth-under (used_parts x) (row0_form z) (rows_form ts) (names_form z.names_used ts) (zeros_behind x) (names-whole x))

pub good-plain : (x : Sheet) → is_plain (take (names_used_of x) x.names) ≡ true → bare_good x ≡ plain_good x
good-plain x e = good-whole x ∙ rw e

abbrev pub whole_paper : Sheet → Bool
whole_paper x =
    let z = row0_in x in
    let ts = tens_of x in
    used_parts x && paper_form z && rows_form ts && names_form z.names_used ts && zeros_behind x && (is_plain (take (names_used_of x) x.names) || names_test x)
    && limits z && root_test z && paper_nesting z && context_test z.context (head_of ts) && extension_test z (head_of ts)
    && no_numbers ts

pub paper-whole : (x : Sheet) → paper_good x ≡ whole_paper x
unfolding paper_good
paper-whole x =
    let z = row0_in x in
    let ts = tens_of x in
    ap (λ (t : Bool). t && limits z && root_test z && paper_nesting z && context_test z.context (head_of ts) && extension_test z (head_of ts) && no_numbers ts)
    (sixth-under (used_parts x) (paper_form z) (rows_form ts) (names_form z.names_used ts) (zeros_behind x) (names-whole x))
