-- The tests of a row of a graph sheet, for the pass over its rows; what the counts cite.
--     graph_tests    those of ir_types' Form
--     is_root        the tag of a root
use Rattle.std.specs.Prelude.{ℕ, Bool, eqb}
use Rattle.text.specs.Text.{is_graph_text}
use Rattle.ir_types.specs.Tags.{root_tag}
use Rattle.ir_types.specs.Form.{used_pairs, ten_form, may_follow, head_after}
use Rattle.rows.specs.Scan.{Tests}

abbrev pub graph_tests : Tests
graph_tests = record { form = ten_form; pairs = used_pairs; follows = may_follow; head_after = head_after; text = is_graph_text }

abbrev pub is_root : ℕ → Bool
is_root tag = eqb tag root_tag
