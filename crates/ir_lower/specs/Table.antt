-- Paper 01, "Returned numbers", for lowering: "Lowering: 1, 2, 14, 12, 13, 15." Order 4: "20, between 13 and 15". Each row of the table is one case, with its own
-- condition, those before it failing, its place and what is left.
--     LoweringTable x graph scratch l    a lowering of the sheet x ends with l; from 14 on by `LoweringOutcome`
--     LoweredLabels s graph words        the labels of the graph that a schema is lowered to
--     FirstUnknown row items place       13's place: the head of the first simple type with an unknown base, where the first item stands at the row
use Rattle.std.specs.Prelude.{ℕ, ◌+◌, ◌≡◌, true, false, ◌&&◌, List, ◌∷◌, ◌++◌, length}
use Rattle.std.proofs.Math.Option.{some}
use Rattle.sheet.specs.Rows.{Sheet}
use Rattle.sheet.specs.Lengths.{lengths_of, good_lengths}
use Rattle.sheet.specs.Returned as returned
use Rattle.xsd_types.specs.Types.{SimpleType, Item, Schema, simple_types}
use Rattle.xsd_types.specs.Rows.{items_rows}
use Rattle.xsd_types.specs.Count.{good, state_of}
use Rattle.ir_types.specs.Types.{TypeGraph}
use Rattle.ir_types.specs.References.{GraphLabels}
use Rattle.xsd_types.specs.Refused.{refused_base}
use Rattle.ir_lower.specs.Lower.{any_unknown, lower}
use Rattle.ir_lower.specs.Call.{Lowered, unchanged}
use Rattle.ir_lower.specs.Outcome.{LoweringOutcome}

pub data LoweringTable (x graph : Sheet) (scratch : List ℕ) (l : Lowered) : Type 0 where
  -- 1: a length; "nothing changed"
  lengths : good_lengths (lengths_of x) && good_lengths (lengths_of graph) ≡ false → l ≡ unchanged returned.bad_length graph scratch → LoweringTable x graph scratch l
  -- 2: "schema sheet not good"; "nothing changed"
  not_good : good_lengths (lengths_of x) && good_lengths (lengths_of graph) ≡ true → good x ≡ false → l ≡ unchanged returned.not_good graph scratch → LoweringTable x graph scratch l
  judged : good_lengths (lengths_of x) && good_lengths (lengths_of graph) ≡ true → good x ≡ true → LoweringOutcome (state_of x) graph scratch l → LoweringTable x graph scratch l

-- 13: "place is the row of the first such simple type"
pub record FirstUnknown (row : ℕ) (items : List Item) (place : ℕ) : Type 0 where
  pub before : List Item
  pub type : SimpleType
  pub behind : List Item
  pub made : items ≡ before ++ (Item.simple_type type ∷ behind)
  pub known : any_unknown (simple_types before) ≡ false
  pub unknown : refused_base type ≡ true
  pub stands : place ≡ row + length (items_rows before)

-- the label call on an accepted graph: a field's, variant's, value's, attribute's or newtype's row gives its reference, every other row 16
pub record LoweredLabels (s : Schema) (graph : Sheet) (words : List ℕ) : Type 0 where
  pub lowered : TypeGraph
  pub from : lower s ≡ some lowered
  pub labels : GraphLabels lowered graph words
