-- Order 7 by computation: what counts, and what a conversion takes. Sheets of one or two simple types with the names S and T, whose base is B, none of the 38.
use Rattle.std.specs.Prelude.{ℕ, ◌≡◌, refl, [], ◌∷◌}
use Rattle.sheet.specs.Rows.{Sheet}
use Rattle.xsd_types.specs.Convert.{converted, convert}
use Rattle.xsd_types.specs.Examples.Sheets.{line, counting, filled_sheet}
use Rattle.xsd_types.specs.Examples.Judging.{GoodClause, verdict, fine, bad_by, judged}

-- one type, finished, and two of one name
unfoldable one : ℕ → Sheet
one c = filled_sheet 30 2 (line 0 3 2 1 0 1 0 1 0 0 ∷ counting c ∷ line 3 0 1 1 1 0 0 0 0 0 ∷ []) "SB"

unfoldable two : ℕ → Sheet
two c = filled_sheet 50 4 (line 0 4 4 1 0 1 0 1 0 0 ∷ counting c ∷ line 3 0 1 1 1 0 0 0 0 0 ∷ line 3 2 1 3 1 0 0 0 0 0 ∷ []) "SBSB"

one_right : verdict (one 1) ≡ fine
unfolding one judged
one_right = refl

one_none : verdict (one 0) ≡ bad_by GoodClause.count
unfolding one judged
one_none = refl

one_more : verdict (one 2) ≡ bad_by GoodClause.count
unfolding one judged
one_more = refl

one-most : verdict (one 4294967295) ≡ bad_by GoodClause.count
unfolding one judged
one-most = refl

-- types of equal names count each
two-right : verdict (two 2) ≡ fine
unfolding two judged
two-right = refl

two-less : verdict (two 1) ≡ bad_by GoodClause.count
unfolding two judged
two-less = refl

-- the open type is not counted
open-type : verdict (filled_sheet 30 2 (line 0 3 2 2 0 1 0 2 0 0 ∷ counting 0 ∷ line 3 0 1 1 1 0 0 0 0 0 ∷ []) "SB") ≡ fine
unfolding judged
open-type = refl

-- nor is a code enum, whatever its base; an enumeration beside another facet is none
code-enum : verdict (filled_sheet 40 3 (line 0 4 3 1 0 1 0 1 0 0 ∷ counting 0 ∷ line 3 0 1 1 1 0 0 0 0 0 ∷ line 4 2 1 0 0 0 0 0 0 0 ∷ []) "SBv") ≡ fine
unfolding judged
code-enum = refl

no-code-enum : verdict (filled_sheet 50 4 (line 0 5 4 1 0 1 0 1 0 0 ∷ counting 1 ∷ line 3 0 1 1 1 0 0 0 0 0 ∷ line 4 2 1 0 0 0 0 0 0 0 ∷ line 5 3 1 0 0 0 0 0 0 0 ∷ []) "SBvp") ≡ fine
unfolding judged
no-code-enum = refl

-- a built-in base, with a prefix too
built_in : verdict (filled_sheet 30 8 (line 0 3 8 1 0 1 0 1 0 0 ∷ counting 0 ∷ line 3 0 1 1 7 0 0 0 0 0 ∷ []) "Sxs:date") ≡ fine
unfolding judged
built_in = refl

-- a conversion: 0 and the right count are taken, any other is 2 and stays
fills : convert (two 0) ≡ converted 0 (two 2)
unfolding two judged
fills = refl

keeps : convert (two 2) ≡ converted 0 (two 2)
unfolding two judged
keeps = refl

one_less : convert (two 1) ≡ converted 2 (two 1)
unfolding two judged
one_less = refl

most : convert (two 4294967295) ≡ converted 2 (two 4294967295)
unfolding two judged
most = refl

-- another fault: b of row 1
fault : convert (filled_sheet 20 0 (line 0 2 0 0 0 1 0 0 0 0 ∷ line 1 0 0 0 0 0 0 0 1 0 ∷ []) "") ≡ converted 2 (filled_sheet 20 0 (line 0 2 0 0 0 1 0 0 0 0 ∷ line 1 0 0 0 0 0 0 0 1 0 ∷ []) "")
unfolding judged
fault = refl

-- a length comes first
short : convert (filled_sheet 10 0 (line 0 1 0 0 0 1 0 0 0 0 ∷ []) "") ≡ converted 1 (filled_sheet 10 0 (line 0 1 0 0 0 1 0 0 0 0 ∷ []) "")
unfolding judged
short = refl
