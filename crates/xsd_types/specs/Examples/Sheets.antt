-- Sheets written out by hand, for the examples.
--     line          a row: tag, three pairs, a, b, c; of row 0: 0, rows used, names used, context, nesting, root seen, events done, open tags,
--                   extension flag, choice
--     no_namespace   row 1 with the empty namespace; counting c: with the count c
--     filled_sheet r n rows names  buffers of r numbers and n bytes: the rows and the names, zeros behind
--     junk r n      buffers of r numbers and n bytes with something in them
--     blank_by choice r n    the same, cleared; blank r n: with choice 0
--     answer        a call's number and place
--     example_sheets  one name that unfolds them
use Rattle.std.specs.Prelude.{ℕ, List, [], ◌∷◌, replicate}
use Prim.Native.String.{String}
use Rattle.text.specs.Text.{bytes, join}
use Rattle.sheet.specs.Rows.{Sheet, filled}
use Rattle.sheet.specs.Lengths.{Answer}
use Rattle.xsd_types.specs.Clear.{clear}

unfoldable pub line : ℕ → ℕ → ℕ → ℕ → ℕ → ℕ → ℕ → ℕ → ℕ → ℕ → List ℕ
line tag o0 l0 o1 l1 o2 l2 a b c = tag ∷ o0 ∷ l0 ∷ o1 ∷ l1 ∷ o2 ∷ l2 ∷ a ∷ b ∷ c ∷ []

unfoldable pub no_namespace : List ℕ
no_namespace = line 1 0 0 0 0 0 0 0 0 0

unfoldable pub counting : ℕ → List ℕ
counting c = line 1 0 0 0 0 0 0 c 0 0

unfoldable pub filled_sheet : ℕ → ℕ → List (List ℕ) → String → Sheet
filled_sheet r n rows names = record { rows = filled r (join rows); names = filled n (bytes names) }

unfoldable pub junk : ℕ → ℕ → Sheet
junk r n = record { rows = replicate r 7; names = replicate n 7 }

unfoldable pub blank_by : ℕ → ℕ → ℕ → Sheet
blank_by choice r n = (clear choice (junk r n)).sheet

unfoldable pub blank : ℕ → ℕ → Sheet
blank r n = blank_by 0 r n

unfoldable pub answer : ℕ → ℕ → Answer
answer n p = record { number = n; place = p }

unfoldable pub example_sheets : Unit {0}
unfolding line no_namespace counting filled_sheet junk blank_by blank answer
example_sheets = tt
