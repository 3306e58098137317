-- The label call by computation. "A second call on the same input gives its number, 0 or 16."
use Rattle.std.specs.Prelude.{ℕ, true, false, ◌≡◌, refl, List, [], ◌∷◌, ◌++◌, replicate}
use Prim.Native.String.{String}
use Rattle.text.specs.Text.{bytes, join}
use Rattle.xsd_types.specs.Examples.Sheets.{line}
use Rattle.ir_types.specs.Label.{Labelled, label}
use Rattle.examples.specs.Calls.{called}

-- a word and the newline byte
ended : String → List ℕ
ended w = bytes w ++ 10 ∷ []

-- the word list, and the graph's names
words : List ℕ
words = ended "String" ++ ended "Bool" ++ ended "Decimal" ++ ended "Date" ++ ended "DateTime"

names : List ℕ
names = bytes "VBCxy"

word : ℕ → String → Labelled
word at w = record { number = 0; in_words = true; at = at; text = bytes w }

name : ℕ → String → Labelled
name at w = record { number = 0; in_words = false; at = at; text = bytes w }

-- "the label is the empty part at the start of names"
refused : Labelled
refused = record { number = 16; in_words = false; at = 0; text = [] }

-- one name that unfolds them
labels : Unit {0}
unfolding ended words names word name refused called
labels = tt

-- ---- "a part of the word list .. word a, from 1, without the newline"

-- newtype, a 3
newtype : label (line 5 0 1 0 0 0 0 3 0 0) names words 0 ≡ word 12 "Decimal"
unfolding labels
newtype = refl

-- the first and the last word
first_word : label (line 9 0 1 1 1 0 0 1 0 0) names words 0 ≡ word 0 "String"
unfolding labels
first_word = refl

last_word : label (line 19 0 1 1 1 0 0 5 1 0) names words 0 ≡ word 25 "DateTime"
unfolding labels
last_word = refl

-- no pair is looked at (L6)
word-bad-pairs : label (line 10 9 9 9 9 9 9 2 0 0) names words 0 ≡ word 7 "Bool"
unfolding labels
word-bad-pairs = refl

-- words may be empty (L5)
empty-word : label (line 7 0 1 0 0 0 0 4 0 0) names (replicate 5 10) 0 ≡ word 3 ""
unfolding labels
empty-word = refl

-- ---- "a part of the graph's names"

-- the second pair of 7; no other pair is looked at (L6)
value-reference : label (line 7 9 9 1 2 9 9 0 0 0) names words 0 ≡ name 1 "BC"
unfolding labels
value-reference = refl

-- the third of 9, 10 and 19
field-reference : label (line 9 9 9 9 9 3 2 0 0 0) names words 0 ≡ name 3 "xy"
unfolding labels
field-reference = refl

variant-reference : label (line 10 0 1 0 1 3 1 0 0 0) names words 0 ≡ name 3 "x"
unfolding labels
variant-reference = refl

attribute-reference : label (line 19 0 1 0 1 4 1 0 0 0) names words 0 ≡ name 4 "y"
unfolding labels
attribute-reference = refl

-- the word list is not judged with a 0 (L4)
no_words : label (line 7 0 1 1 2 0 0 0 0 0) names [] 0 ≡ name 1 "BC"
unfolding labels
no_words = refl

-- an empty reference at the end of the names
empty-reference : label (line 7 0 1 5 0 0 0 0 0 0) names words 0 ≡ name 5 ""
unfolding labels
empty-reference = refl

-- "Rows count from 0"
row-2 : label (join (line 0 3 5 0 1 0 0 0 0 0 ∷ line 1 0 0 0 0 0 0 0 0 0 ∷ line 7 0 1 1 2 0 0 0 0 0 ∷ [])) names words 2 ≡ name 1 "BC"
unfolding labels
row-2 = refl

-- no length is too long (L2): row 4,096
long-rows : label (replicate 40960 0 ++ line 7 0 1 1 2 0 0 0 0 0) names words 4096 ≡ name 1 "BC"
unfolding labels
long-rows = refl

-- ---- 16

-- "length not a multiple of 10"
eleven-numbers : label (line 5 0 1 0 0 0 0 3 0 0 ++ 0 ∷ []) names words 0 ≡ refused
unfolding labels
eleven-numbers = refl

nine-numbers : label (5 ∷ 0 ∷ 1 ∷ 0 ∷ 0 ∷ 0 ∷ 0 ∷ 3 ∷ 0 ∷ []) names words 0 ≡ refused
unfolding labels
nine-numbers = refl

-- "no such row"
row-past : label (line 5 0 1 0 0 0 0 3 0 0) names words 1 ≡ refused
unfolding labels
row-past = refl

row-far-past : label (line 5 0 1 0 0 0 0 3 0 0) names words 4294967295 ≡ refused
unfolding labels
row-far-past = refl

-- empty rows
no_rows : label [] names words 0 ≡ refused
unfolding labels
no_rows = refl

-- row 0 of a graph, and a row past the used ones, have tag 0 (L1, L3)
row-0 : label (line 0 3 5 0 1 0 0 0 0 0) names words 0 ≡ refused
unfolding labels
row-0 = refl

-- every tag but 5, 7, 9, 10 and 19, with a reference that would do

answers : List ℕ → List ℕ
answers [] = []
answers (tag ∷ tags) = (label (line tag 0 1 1 1 2 1 1 0 0) names words 0).number ∷ answers tags

-- "tag not 5, 7, 9, 10 or 19"
other-tags : answers (0 ∷ 1 ∷ 2 ∷ 3 ∷ 4 ∷ 6 ∷ 8 ∷ 11 ∷ 12 ∷ 13 ∷ 14 ∷ 15 ∷ 16 ∷ 17 ∷ 18 ∷ 20 ∷ 4294967295 ∷ []) ≡ replicate 17 16
unfolding answers labels
other-tags = refl

these-tags : answers (5 ∷ 7 ∷ 9 ∷ 10 ∷ 19 ∷ []) ≡ replicate 5 0
unfolding answers labels
these-tags = refl

-- "a above 5"
a_6 : label (line 9 0 1 1 1 2 1 6 0 0) names words 0 ≡ refused
unfolding labels
a_6 = refl

-- for tag 5 too
newtype-a-6 : label (line 5 0 1 0 0 0 0 6 0 0) names words 0 ≡ refused
unfolding labels
newtype-a-6 = refl

-- "(or 0 for tag 5)"
newtype-a-0 : label (line 5 0 1 0 0 0 0 0 0 0) names words 0 ≡ refused
unfolding labels
newtype-a-0 = refl

-- "with a 0 the reference's pair outside the names"
pair-outside : label (line 7 0 1 4 2 0 0 0 0 0) names words 0 ≡ refused
unfolding labels
pair-outside = refl

-- an empty one past the end
empty-pair-outside : label (line 9 0 1 1 1 6 0 0 0 0) names words 0 ≡ refused
unfolding labels
empty-pair-outside = refl

-- the sum is of natural numbers
pair-sum : label (line 9 0 1 1 1 1 4294967295 0 0 0) names words 0 ≡ refused
unfolding labels
pair-sum = refl

-- "bad word list when a is 1 to 5": empty
words-empty : label (line 5 0 1 0 0 0 0 1 0 0) names [] 0 ≡ refused
unfolding labels
words-empty = refl

-- four words
words-four : label (line 5 0 1 0 0 0 0 1 0 0) names (replicate 4 10) 0 ≡ refused
unfolding labels
words-four = refl

-- six words
words-six : label (line 5 0 1 0 0 0 0 1 0 0) names (replicate 6 10) 0 ≡ refused
unfolding labels
words-six = refl

-- "and nothing after" (L4)
words-after : label (line 5 0 1 0 0 0 0 1 0 0) names (words ++ 65 ∷ []) 0 ≡ refused
unfolding labels
words-after = refl

-- the last word not ended
words-not-ended : label (line 5 0 1 0 0 0 0 1 0 0) names (replicate 4 10 ++ 65 ∷ []) 0 ≡ refused
unfolding labels
words-not-ended = refl
