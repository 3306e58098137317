-- Which sentences of "A sheet is good if" a sheet breaks.
--     GoodClause    a sentence, or a part of "it has this form"
--     broken        the parts that do not hold; the count of order 7 is asked where all others hold
--     verdict       whether the sheet is good, with the broken parts
--     fine, bad_by, bad_by_both    what a good sheet gives, and one that breaks exactly one part, or two
--     judged        one name that unfolds all that the examples compute with
use Rattle.std.specs.Prelude.{Bool, true, false, not, ◌&&◌, ◌||◌, List, [], ◌∷◌, map, eqb}
use Rattle.text.specs.Text.{every}
use Rattle.text.specs.Unfold.{computes as texts}
use Rattle.builtin.specs.Unfold.{computes as builtins}
use Rattle.sheet.specs.Rows.{Ten, Sheet}
use Rattle.sheet.specs.Form.{covers, covered, tens_of, used_parts, zeros_behind}
use Rattle.sheet.specs.Unfold.{computes as sheets}
use Rattle.xsd_types.specs.Unfold.{computes as schemas}
use Rattle.xsd_types.specs.Row0.{row0_in}
use Rattle.xsd_types.specs.Count.{count_of, count_in, bare, state_of, good}
use Rattle.xsd_types.specs.Good.{used_pairs, in_order, row0_form, ten_form, names_test, limits, root_test, nesting_test, context_test, extension_test, head_of, events_test, bare_good}
use Rattle.xsd_types.specs.Examples.Sheets.{example_sheets}

pub data GoodClause : Type 0 where
  lent row0 row1 numbers order pairs names_used zeros names counts root nesting context extension events count : GoodClause

unfoldable pub unless : Bool → GoodClause → List GoodClause → List GoodClause
unless true p ps = ps
unless false p ps = p ∷ ps

unfoldable pub row1_test : List Ten → Bool
row1_test [] = false
row1_test (n ∷ ts) = eqb n.tag 1 && eqb n.a 0 && eqb n.b 0 && eqb n.c 0

unfoldable pub behind_first_ten : List Ten → List Ten
behind_first_ten [] = []
behind_first_ten (n ∷ ts) = ts

unfoldable pub broken : Sheet → List GoodClause
broken x =
    let y = bare x in
    let z = row0_in y in
    let ts = tens_of y in
    unless (used_parts y) lent
    (unless (row0_form z) row0
    (unless (row1_test ts) row1
    (unless (every ten_form (behind_first_ten ts)) numbers
    (unless (in_order 1 (map (λ (t : Ten). t.tag) (behind_first_ten ts))) order
    (unless (covers used_pairs 0 ts) pairs
    (unless (eqb (covered 0 ts) z.names_used) names_used
    (unless (zeros_behind y) zeros
    (unless (names_test y) names
    (unless (limits z) counts
    (unless (root_test z) root
    (unless (nesting_test z) nesting
    (unless (context_test z.context (head_of ts)) context
    (unless (extension_test z (head_of ts)) extension
    (unless (events_test z.events ts) events
    (unless (not (bare_good y) || eqb (count_in x) (count_of (state_of x))) count [])))))))))))))))

pub record GoodVerdict : Type 0 where
  pub is_good : Bool
  pub breaks : List GoodClause

unfoldable pub verdict : Sheet → GoodVerdict
verdict x = record { is_good = good x; breaks = broken x }

unfoldable pub fine : GoodVerdict
fine = record { is_good = true; breaks = [] }

unfoldable pub bad_by : GoodClause → GoodVerdict
bad_by p = record { is_good = false; breaks = p ∷ [] }

unfoldable pub bad_by_both : GoodClause → GoodClause → GoodVerdict
bad_by_both p q = record { is_good = false; breaks = p ∷ q ∷ [] }

unfoldable pub judged : Unit {0}
unfolding unless row1_test behind_first_ten broken verdict fine bad_by bad_by_both example_sheets texts builtins sheets schemas
judged = tt
