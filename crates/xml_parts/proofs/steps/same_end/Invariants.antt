-- `xml_parts::steps::same_end` meets its contract. The loop's invariant: as many name bytes below 128 stood alike at the two places. Assumes nothing.
use Prim.Native.Nat.{◌+◌}
use mathlib.Core.Path.{◌≡◌}
use lib.ListN.{drop}
use Rattle.text.specs.Text.{same}
use Rattle.xml.specs.Classes.{is_name, is_byte_of}
use Rattle.xml.specs.Steps.{many, leading_name}
use Rattle.xml_parts.proofs.steps.same_end.Given as goal

abbrev pub invariant-loop-k : goal.invariant-loop-k
invariant-loop-k l = record {
  alike : same (leading_name (drop (l.a + l.k) l.text)) (leading_name (drop (l.b + l.k) l.text)) ≡ same (leading_name (drop l.a l.text)) (leading_name (drop l.b l.text));
  run : many (is_byte_of is_name) (l.a + l.k) (drop (l.a + l.k) l.text) ≡ many (is_byte_of is_name) l.a (drop l.a l.text);
}
