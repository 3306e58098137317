-- What is asked of a row by its tag and by whether its a is 0, as the table of the code has it: the tests of ir_types' Form, told by numbers (rows' Table).
--     most_a, most_b    the greatest a, the greatest b
--     rule_of        what is asked of a tag where a is 0, told by 0, or above; rule_numbers: the same as the table's rows
--     ruled_tags     the tags that the table has
use Rattle.std.specs.Prelude.{ℕ, List, [], ◌∷◌, not, ◌||◌, eqb, leb, if◌then◌else◌}
use Rattle.text.specs.Text.{between}
use Rattle.sheet.specs.Rows.{bit}
use Rattle.rows.specs.Table.{set_below}
use Rattle.ir_types.specs.Tags.{root_tag, newtype_tag, value_with_attributes_tag, opaque_tag, field_tag, variant_tag, min_length_tag, max_length_tag, total_digits_tag, fraction_digits_tag, attribute_tag}
use Rattle.ir_types.specs.Form.{used_pairs, may_follow}
use Rattle.graph_form.specs.declared.rules.Rule.{Rule}

unfoldable pub most_a : ℕ → ℕ
most_a tag =
    if eqb tag newtype_tag then 5 else
    if eqb tag value_with_attributes_tag || between field_tag variant_tag tag || eqb tag attribute_tag then 5 else
    if eqb tag opaque_tag then 1 else
    if between min_length_tag max_length_tag tag || between total_digits_tag fraction_digits_tag tag then 4294967295 else 0

unfoldable pub most_b : ℕ → ℕ
most_b tag = if eqb tag field_tag then 3 else if eqb tag attribute_tag then 1 else if between min_length_tag max_length_tag tag then 4294967295 else 0

unfoldable pub rule_of : ℕ → ℕ → Rule
rule_of tag a =
    record {
      most_a = most_a tag;
      most_b = most_b tag;
      no_c = bit (not (between root_tag opaque_tag tag));
      first = bit (leb 1 (used_pairs tag a));
      second = bit (leb 2 (used_pairs tag a));
      third = bit (leb 3 (used_pairs tag a));
      heads = set_below (λ (head : ℕ). may_follow head tag) 32;
    }

abbrev numbers : Rule → List ℕ
numbers r = r.most_a ∷ r.most_b ∷ r.no_c ∷ r.first ∷ r.second ∷ r.third ∷ r.heads ∷ []

unfoldable pub rule_numbers : ℕ → List (List ℕ)
rule_numbers tag = numbers (rule_of tag 0) ∷ numbers (rule_of tag 1) ∷ []

unfoldable pub ruled_tags : List ℕ
ruled_tags = 0 ∷ 1 ∷ 2 ∷ 3 ∷ 4 ∷ 5 ∷ 6 ∷ 7 ∷ 8 ∷ 9 ∷ 10 ∷ 11 ∷ 12 ∷ 13 ∷ 14 ∷ 15 ∷ 16 ∷ 17 ∷ 18 ∷ 19 ∷ []
