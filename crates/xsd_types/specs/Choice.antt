-- Order 3's choice beside what was before it, and paper 01's good sheets. No contract cites it.
--     paper_form     paper 01 of row 0's own numbers: "0, rows used, .. extension flag, 0"
--     paper_nesting  paper 01: "nesting is 0 in contexts 0 and 1; context 1 has an open tag; contexts 2 and 3 have at least nesting + 2"
--     no_numbers     paper 01 of c: no tag of the schema sheet uses it, and "other unused numbers .. are zero"
--     paper_good     a sheet that paper 01 calls good, by its own sentences: the test with these three in place of what orders 3 and 5 put there
--     chosen        a state under a choice
--     sheet_chosen   a sheet with a choice as the last number of row 0
use Rattle.std.specs.Prelude.{◌+◌, Bool, ◌&&◌, List, eqb, leb, set, if◌then◌else◌}
use Rattle.text.specs.Text.{every}
use Rattle.sheet.specs.Rows.{Ten, Sheet, bit}
use Rattle.sheet.specs.Form.{is_flag, tens_of, used_parts, zeros_behind}
use Rattle.xsd_types.specs.State.{State}
use Rattle.xsd_types.specs.Row0.{Row0, row0_in}
use Rattle.xsd_types.specs.Good.{rows_form, names_form, names_test, limits, root_test, context_test, extension_test, head_of}

unfoldable pub paper_form : Row0 → Bool
paper_form z = eqb z.first 0 && leb z.context 3 && is_flag z.root_seen && is_flag z.extension && eqb z.choice 0

unfoldable pub paper_nesting : Row0 → Bool
paper_nesting z = if leb 2 z.context then leb (z.nesting + 2) z.open_tags else eqb z.nesting 0 && leb z.context z.open_tags

unfoldable pub no_numbers : List Ten → Bool
no_numbers ts = every (λ (t : Ten). eqb t.c 0) ts

unfoldable pub paper_good : Sheet → Bool
paper_good x =
    let z = row0_in x in
    let ts = tens_of x in
    used_parts x && paper_form z && rows_form ts && names_form z.names_used ts && zeros_behind x && names_test x
    && limits z && root_test z && paper_nesting z && context_test z.context (head_of ts) && extension_test z (head_of ts)
    && no_numbers ts

unfoldable pub chosen : Bool → State → State
chosen by_standard s = record { reader = s.reader; events = s.events; open_tags = s.open_tags; by_standard = by_standard }

unfoldable pub sheet_chosen : Bool → Sheet → Sheet
sheet_chosen by_standard x = record { rows = set x.rows 9 (bit by_standard); names = x.names }
