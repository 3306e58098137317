-- The used names of a graph sheet in the form tested as a whole first: where they are plain, each used pair by itself is a text. Assumes nothing.
--     whole_form     `graph_form` with the test of all used names; plain_form: with the test of before, that all are plain
use mathlib.Core.Path.{◌≡◌, ◌∙◌}
use mathlib.Core.Bool.{Bool, true, ◌&&◌, ◌||◌}
use lib.ListN.{take}
use Rattle.text.specs.Text.{is_plain, is_graph_text}
use Rattle.text.proofs.Laws.Tests.{sixth-under}
use Rattle.text.proofs.Laws.Class.{plain-graph-text}
use Rattle.sheet.specs.Rows.{Sheet}
use Rattle.sheet.specs.Form.{names_used_of, tens_of, used_parts, zeros_behind, texts_pass}
use Rattle.sheet.proofs.Laws.Sheets.{plain-or-each}
use Rattle.sheet.proofs.Laws.Formed.{used-names, covers-true, covered-is}
use Rattle.ir_types.specs.Row0.{graph_row0_in}
use Rattle.ir_types.specs.Form.{used_pairs, row0_form, rows_form, names_form, graph_form}
use Rattle.ir_types.proofs.Laws.FormParts.{behind, few-behind}

names-whole : (x : Sheet) → used_parts x ≡ true → rows_form (graph_row0_in x) (tens_of x) ≡ true → names_form (names_used_of x) (tens_of x) ≡ true
    → texts_pass is_graph_text used_pairs x ≡ is_plain (take (names_used_of x) x.names) || texts_pass is_graph_text used_pairs x
unfolding names_form
names-whole x u r n =
    let ts = tens_of x in
    plain-or-each is_graph_text plain-graph-text used_pairs x (few-behind ts (behind (graph_row0_in x) ts r)) (covers-true used_pairs ts (names_used_of x) n)
    (covered-is used_pairs ts (names_used_of x) n) (used-names x u)

abbrev pub whole_form : Sheet → Bool
whole_form x =
    let z = graph_row0_in x in
    let ts = tens_of x in
    used_parts x && row0_form z && rows_form z ts && names_form z.names_used ts && zeros_behind x && (is_plain (take z.names_used x.names) || texts_pass is_graph_text used_pairs x)

-- where the used names are plain, a sheet is in the form by the test of before
abbrev pub plain_form : Sheet → Bool
plain_form x =
    let z = graph_row0_in x in
    let ts = tens_of x in
    used_parts x && row0_form z && rows_form z ts && names_form z.names_used ts && zeros_behind x && is_plain (take z.names_used x.names)

pub form-whole : (x : Sheet) → graph_form x ≡ whole_form x
unfolding graph_form
form-whole x =
    let z = graph_row0_in x in
    let ts = tens_of x in
    sixth-under (used_parts x) (row0_form z) (rows_form z ts) (names_form z.names_used ts) (zeros_behind x) (names-whole x)

pub form-plain : (x : Sheet) → is_plain (take (names_used_of x) x.names) ≡ true → graph_form x ≡ plain_form x
form-plain x e = form-whole x ∙ rw e
