-- A block of heads, those behind it, and the search block by block.
--     Within        a search among the turns of a part
--     found_row     the row that was found, as the definitions take it
--     or_else       the first of two that is there
--     NoneCame      no head's name is among those of a block
--     HeadsIn       a writer's table has heads of the part entered; places_held: their places; names_held: their names
--     HeadsOf       a table has heads of the part entered; names_in: their names
--     TurnTaken     the head of a turn, if there is one, is one entry more, and its name is new
--     EntersTurn    what entering the head of a turn says: that, or the row of the head, whose name came before
--     BlockTaken    the heads of some turns are the entries, and no two have one name
--     BlockIs       what entering a block says: that, or the row of the first head whose name came before in it
--     CameAt        the head of a turn came with a block; AskedIs: what asking for it says
--     FirstCame     the first turn whose head came with a block; FirstIs: what asking turn by turn says
--     left_behind   what is found of the turns that are left, with the names of a block seen, or else was found behind them; left_of: with none seen
--     SearchedBehind, SearchedOn    what is left behind a block, and behind a block that is entered
use Rattle.std.specs.Prelude.{ℕ, ◌-◌, ◌*◌, ◌≤◌, ◌<◌, ◌≡◌, List, [], ◌∷◌, ◌++◌, map, true, false, length, Option, Some, None, MatchOption, Result, Ok, Err}
use Rattle.std.proofs.Math.Option.{Option as Found, none, some}
use Rattle.text.specs.Text.{Text}
use Rattle.sheet.specs.Limits.{rows_limit}
use Rattle.rows.specs.declared.part.SheetPart.{SheetPart}
use Rattle.ir_types.specs.Distinct.{among}
use Rattle.ir_lower.specs.Repeated.{Head, first_repeated}
use Rattle.name_index.specs.declared.Table.{Table}
use Rattle.name_index.specs.declared.TableWriter.{TableWriter}
use Rattle.name_index.specs.Index.{places_in, SameAnswers, Index, IndexIn}
use Rattle.ir_index.specs.declared.Repeated.{Repeated}
use Rattle.ir_index.specs.declared.Block.{Block}
use Rattle.ir_index.specs.declared.Came.{Came}
use Rattle.ir_index.specs.declared.Search.{Search}
use Rattle.ir_index.specs.Heads.{head_place, with_place, places_from, head_text, turn_heads, heads_from}

pub record Within (part : SheetPart) (s : Search) : Type 0 where
  pub few : length part.rows.now ≤ rows_limit
  pub inside : s.limit ≤ 2 * (part.end - 2)

unfoldable pub found_row : Option ℕ → Found ℕ
found_row None = none
found_row (Some r) = some r

unfoldable pub or_else : Found ℕ → Found ℕ → Found ℕ
or_else none o = o
or_else (some r) o = some r

unfoldable pub NoneCame : List Text → List Head → Type 0
NoneCame block [] = Unit {0}
NoneCame block (h ∷ hs) = (among h.name block ≡ false) × NoneCame block hs

abbrev pub HeadsIn : SheetPart → TableWriter → Type 0
HeadsIn part w = IndexIn part.rows.now part.names.now true w

abbrev pub places_held : TableWriter → List ℕ
places_held w = places_in w.buckets w.entries w.numbers.now

abbrev pub names_held : SheetPart → TableWriter → List Text
names_held part w = map (head_text part) (places_held w)

abbrev pub HeadsOf : SheetPart → Table → Type 0
HeadsOf part table = Index part.rows.now part.names.now true table.numbers.now table.buckets table.entries table.sorted

abbrev pub names_in : SheetPart → Table → List Text
names_in part table = map (head_text part) (places_in table.buckets table.entries table.numbers.now)

pub record TurnTaken (part : SheetPart) (w : TableWriter) (turn : ℕ) (w' : TableWriter) : Type 0 where
  pub once : first_repeated (names_held part w) (turn_heads part turn) ≡ none
  pub answers : SameAnswers (head_text part) (places_held w') (places_held w ++ with_place (head_place part turn) [])
  pub index : HeadsIn part w'

abbrev pub TurnEntered : SheetPart → TableWriter → ℕ → TableWriter → Result (Unit {0}) Repeated → Type 0
TurnEntered part w turn w' (Ok u) = TurnTaken part w turn w'
TurnEntered part w turn w' (Err first) = first_repeated (names_held part w) (turn_heads part turn) ≡ some first.place

-- the writer still holds the same numbers
pub record EntersTurn (part : SheetPart) (w : TableWriter) (turn : ℕ) (w' : TableWriter) (r : Result (Unit {0}) Repeated) : Type 0 where
  pub same_numbers : w'.numbers.ghost_name ≡ w.numbers.ghost_name
  pub same_buckets : w'.buckets ≡ w.buckets
  pub same_length : length w'.numbers.now ≡ length w.numbers.now
  pub entered : TurnEntered part w turn w' r

pub record BlockTaken (part : SheetPart) (numbers : List ℕ) (buckets : ℕ) (s : Search) (b : Block) : Type 0 where
  pub onward : s.from < b.next
  pub inside : b.next ≤ s.limit
  pub once : first_repeated [] (heads_from part s.from (b.next - s.from)) ≡ none
  pub answers : SameAnswers (head_text part) (places_in buckets b.entries numbers) (places_from part s.from (b.next - s.from))
  pub index : Index part.rows.now part.names.now true numbers buckets b.entries b.sorted

abbrev pub BlockIs : SheetPart → List ℕ → ℕ → Search → Result Block Repeated → Type 0
BlockIs part numbers buckets s (Ok b) = BlockTaken part numbers buckets s b
BlockIs part numbers buckets s (Err first) = first_repeated [] (heads_from part s.from (s.limit - s.from)) ≡ some first.place

pub record CameAt (part : SheetPart) (block : List Text) (turn p : ℕ) : Type 0 where
  pub head : head_place part turn ≡ Some p
  pub came : among (head_text part p) block ≡ true

abbrev pub AskedIs : SheetPart → List Text → ℕ → Option ℕ → Type 0
AskedIs part block turn r = MatchOption r (NoneCame block (turn_heads part turn)) (λ p. CameAt part block turn p)

pub record FirstCame (part : SheetPart) (block : List Text) (s : Search) (c : Came) : Type 0 where
  pub low : s.from ≤ c.turn
  pub high : c.turn < s.limit
  pub before : NoneCame block (heads_from part s.from (c.turn - s.from))
  pub at : CameAt part block c.turn c.place

abbrev pub FirstIs : SheetPart → List Text → Search → Option Came → Type 0
FirstIs part block s r = MatchOption r (NoneCame block (heads_from part s.from (s.limit - s.from))) (λ c. FirstCame part block s c)

abbrev pub left_behind : SheetPart → List Text → Search → Found ℕ
left_behind part block s = or_else (first_repeated block (heads_from part s.from (s.limit - s.from))) (found_row s.found)

abbrev pub left_of : SheetPart → Search → Found ℕ
left_of part s = left_behind part [] s

pub record SearchedBehind (part : SheetPart) (block : List Text) (s s' : Search) : Type 0 where
  pub same_from : s'.from ≡ s.from
  pub lower : s'.limit ≤ s.limit
  pub left : left_of part s' ≡ left_behind part block s

pub record SearchedOn (part : SheetPart) (s s' : Search) : Type 0 where
  pub onward : s.from < s'.from
  pub lower : s'.limit ≤ s.limit
  pub left : left_of part s' ≡ left_of part s
